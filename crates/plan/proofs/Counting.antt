-- Sums and counts: the pixels that a rank sends in a round.
use Rattle.std.proofs.Common.{◌≡◌, ℕ, zero, suc, ◌+◌, ◌-◌, ◌*◌, ◌<◌, ◌≤◌, min, if◌then◌else◌, not, ◌&&◌, eqb, Ok, sym, refl, ap, ◌∙◌, subst, ap₂, ⊎_elim, arith}
use Rattle.std.proofs.lemmas.Bool.{cases_eq, cond-true, cond-false, eq-eqb, ne_eqb}
use Rattle.plan.specs.declared.runs.Run.{Run}
use Rattle.plan.specs.Amounts.{sum_below, count_below, leaving, sent_to, PiecesAreLeft}
use Rattle.plan.specs.Answers.{span_told}
use Rattle.plan.specs.Model.{PlanModel, piece}
use Rattle.plan.specs.Runs.{In, has, common}
use Rattle.plan.proofs.Telling.{next_span}
use Rattle.plan.proofs.Inside.{has_in, has-out, has-before, has-behind, where_is, in_or_not, common_in, in_common}

pub sum_same : (f g : ℕ → ℕ) (n : ℕ) → ((k : ℕ) → k < n → f k ≡ g k) → sum_below f n ≡ sum_below g n
sum_same f g zero h = refl
sum_same f g (suc n) h = ap₂ ◌+◌ (sum_same f g n (λ k u. h k (omega arith))) (h n (omega arith))

pub sum_zero : (f : ℕ → ℕ) (n : ℕ) → ((k : ℕ) → k < n → f k ≡ 0) → sum_below f n ≡ 0
sum_zero f zero h = refl
sum_zero f (suc n) h = let a = sum_zero f n (λ k u. h k (omega arith)) in let b = h n (omega arith) in omega arith

pub sum_one : (f : ℕ → ℕ) (n h : ℕ) → h < n → ((k : ℕ) → k < n → (k ≡ h → ⊥) → f k ≡ 0) → sum_below f n ≡ f h
sum_one f zero h u e = absurd (omega arith)
sum_one f (suc n) h u e =
    ⊎_elim
    (λ (i : h ≡ n). let a = sum_zero f n (λ k v. e k (omega arith) (λ z. omega arith)) in rw i (omega arith))
    (λ (i : h ≡ n → ⊥). let a = sum_one f n h (omega arith) (λ k v z. e k (omega arith) z) in let b = e n (omega arith) (λ z. i (sym z)) in omega arith)
    (cases_eq h n)

pub sum_add : (f g : ℕ → ℕ) (n : ℕ) → sum_below (λ k. f k + g k) n ≡ sum_below f n + sum_below g n
sum_add f g zero = refl
sum_add f g (suc n) = let a = sum_add f g n in omega arith

pub sum_swap : (f : ℕ → ℕ → ℕ) (n m : ℕ) → sum_below (λ i. sum_below (f i) m) n ≡ sum_below (λ x. sum_below (λ i. f i x) n) m
sum_swap f zero m = sym (sum_zero (λ x. 0) m (λ k u. refl))
sum_swap f (suc n) m = ap (λ s. s + sum_below (f n) m) (sum_swap f n m) ∙ sym (sum_add (λ x. sum_below (λ i. f i x) n) (f n) m)

-- how many numbers of a run lie below n
pub count_range : (s : Run) (n : ℕ) → count_below (has s) n ≡ min n (s.start + s.len) - s.start
count_range s zero = omega arith
count_range s (suc n) =
    let a = count_range s n in
    ⊎_elim
    (λ (i : In s n). rw (has_in s n i) (omega arith))
    (⊎_elim
    (λ (i : n < s.start). rw (has-before s n i) (omega arith))
    (λ (i : s.start + s.len ≤ n). rw (has-behind s n i) (omega arith)))
    (where_is s n)

module _ (p : PlanModel) where
  -- how many pixels rank r sends to member i of its new group
  abbrev sends : ℕ → ℕ → ℕ → ℕ
  sends r t i = sent_to p t r ((p.group (suc t) r).start + i)

  -- the same at one position
  abbrev sends_at : ℕ → ℕ → ℕ → ℕ → ℕ
  sends_at r t i x = if eqb ((p.group (suc t) r).start + i) r then 0 else (if has (piece p t r ((p.group (suc t) r).start + i)) x then 1 else 0)

  sends-counted : (r t i : ℕ) → t < p.rounds → r < p.ranks → i < (p.group (suc t) r).len → sends r t i ≡ sum_below (sends_at r t i) p.pixels
  sends-counted r t i ht hr hi =
      let m : ℕ = (p.group (suc t) r).start + i in
      let w = p.group_within (suc t) r (omega arith) hr in
      let a = p.span_within t r (omega arith) hr in
      let b = p.span_within (suc t) m (omega arith) (omega arith) in
      ⊎_elim
      (λ e. cond-true (eqb m r) _ _ (eq-eqb m r e) ∙ sym (sum_zero (sends_at r t i) p.pixels (λ k u. cond-true (eqb m r) _ _ (eq-eqb m r e))))
      (λ e.
      cond-false (eqb m r) _ _ (ne_eqb m r e)
      ∙ (let c = count_range (piece p t r m) p.pixels in let d : (piece p t r m).len ≡ count_below (has (piece p t r m)) p.pixels = omega arith in d)
      ∙ sym (sum_same (sends_at r t i) (λ x. if has (piece p t r m) x then 1 else 0) p.pixels (λ k u. cond-false (eqb m r) _ _ (ne_eqb m r e))))
      (cases_eq m r)

  leaves_at : (r t x : ℕ) → t < p.rounds → r < p.ranks → x < p.pixels → sum_below (λ i. sends_at r t i x) (p.group (suc t) r).len ≡ (if has (p.span t r) x && not (has (p.span (suc t) r) x) then 1 else 0)
  leaves_at r t x ht hr hx =
      let g : Run = p.group (suc t) r in
      let o = p.one_holder (suc t) r x (omega arith) hr hx in
      let h : ℕ = o.0 in
      let j : ℕ = h - g.start in
      let ej : g.start + j ≡ h = (let u = o.1 in omega arith) in
      let hj : j < g.len = (let u = o.1 in omega arith) in
      let self = p.member (suc t) r (omega arith) hr in
      ⊎_elim
      (λ (i : In (p.span t r) x).
      sum_one (λ i. sends_at r t i x) g.len j hj
      (λ k u n.
      ⊎_elim
      (λ e. cond-true (eqb (g.start + k) r) _ _ (eq-eqb _ _ e))
      (λ e. cond-false (eqb (g.start + k) r) _ _ (ne_eqb _ _ e) ∙ cond-false (has (piece p t r (g.start + k)) x) _ _ (has-out _ x (λ y. n (let z = o.3 (g.start + k) (omega arith, omega arith) (in_common (p.span t r) (p.span (suc t) (g.start + k)) x y).1 in omega arith))))
      (cases_eq (g.start + k) r))
      ∙ ⊎_elim
      (λ (e : h ≡ r).
      cond-true (eqb (g.start + j) r) _ _ (eq-eqb _ _ (ej ∙ e))
      ∙ sym (rw (has_in (p.span t r) x i, has_in (p.span (suc t) r) x (rw e at o.2))))
      (λ (e : h ≡ r → ⊥).
      cond-false (eqb (g.start + j) r) _ _ (ne_eqb _ _ (λ z. e (sym ej ∙ z)))
      ∙ cond-true (has (piece p t r (g.start + j)) x) _ _ (has_in (piece p t r (g.start + j)) x (common_in (p.span t r) (p.span (suc t) (g.start + j)) x i (rw (sym ej) at o.2)))
      ∙ sym (rw (has_in (p.span t r) x i, has-out (p.span (suc t) r) x (λ y. e (sym (o.3 r self y))))))
      (cases_eq h r))
      (λ (i : In (p.span t r) x → ⊥).
      sum_zero (λ i. sends_at r t i x) g.len
      (λ k u.
      ⊎_elim
      (λ e. cond-true (eqb (g.start + k) r) _ _ (eq-eqb _ _ e))
      (λ e. cond-false (eqb (g.start + k) r) _ _ (ne_eqb _ _ e) ∙ cond-false (has (piece p t r (g.start + k)) x) _ _ (has-out _ x (λ y. i (in_common (p.span t r) (p.span (suc t) (g.start + k)) x y).0)))
      (cases_eq (g.start + k) r))
      ∙ sym (rw (has-out (p.span t r) x i)))
      (in_or_not (p.span t r) x)

  sends-leaving : (r t : ℕ) → t < p.rounds → r < p.ranks → sum_below (sends r t) (p.group (suc t) r).len ≡ leaving p r t
  sends-leaving r t ht hr =
      sum_same (sends r t) (λ i. sum_below (sends_at r t i) p.pixels) (p.group (suc t) r).len (λ i hi. sends-counted r t i ht hr hi)
      ∙ sum_swap (sends_at r t) (p.group (suc t) r).len p.pixels
      ∙ sum_same (λ x. sum_below (λ i. sends_at r t i x) (p.group (suc t) r).len) (λ x. if has (p.span t r) x && not (has (p.span (suc t) r) x) then 1 else 0) p.pixels (λ x hx. leaves_at r t x ht hr hx)

  -- what goes to another member was in the old span and is not in the new one
  outside_new : (t f : ℕ) → t < p.rounds → f < p.ranks → (m x : ℕ) → In (p.group (suc t) f) m → (m ≡ f → ⊥) → In (piece p t f m) x → In (p.span t f) x × (In (p.span (suc t) f) x → ⊥)
  outside_new t f ht hf m x i ne k =
      let both = in_common (p.span t f) (p.span (suc t) m) x k in
      let within = p.span_within t f (omega arith) hf in
      let o = p.one_holder (suc t) f x (omega arith) hf (omega arith) in
      (both.0, λ own. ne (o.3 m i both.1 ∙ sym (o.3 f (p.member (suc t) f (omega arith) hf) own)))

  covered : (t f : ℕ) → t < p.rounds → f < p.ranks → (x : ℕ) → In (p.span t f) x → (In (p.span (suc t) f) x → ⊥) → (m : ℕ) × In (p.group (suc t) f) m × (m ≡ f → ⊥) × In (piece p t f m) x
  covered t f ht hf x old gone =
      let within = p.span_within t f (omega arith) hf in
      let o = p.one_holder (suc t) f x (omega arith) hf (omega arith) in
      (o.0, o.1, λ e. gone (subst (λ m. In (p.span (suc t) m) x) e o.2), common_in (p.span t f) (p.span (suc t) o.0) x old o.2)

pub pieces_are_left : PiecesAreLeft
pieces_are_left p t f ht hf = record { outside_new = outside_new p t f ht hf; covered = covered p t f ht hf; counted = sends-leaving p f t ht hf }

-- a position of run a lies in run b too or in a alone
parted : (a b : Run) (x : ℕ) → (if has a x && not (has b x) then 1 else 0) + (if has (common a b) x then 1 else 0) ≡ (if has a x then 1 else 0)
parted a b x =
    ⊎_elim
    (λ (i : In a x).
    ⊎_elim
    (λ (j : In b x). rw (has_in a x i, has_in b x j, has_in (common a b) x (common_in a b x i j)))
    (λ (j : In b x → ⊥). rw (has_in a x i, has-out b x j, has-out (common a b) x (λ k. j (in_common a b x k).1)))
    (in_or_not b x))
    (λ (i : In a x → ⊥). rw (has-out a x i, has-out (common a b) x (λ k. i (in_common a b x k).0)))
    (in_or_not a x)

-- a run without another
without : (a b : Run) (n : ℕ) → a.start + a.len ≤ n → count_below (λ x. has a x && not (has b x)) n ≡ a.len - (common a b).len
without a b n h =
    let all = count_range a n in
    let both = count_range (common a b) n in
    let sum = sym (sum_add (λ x. if has a x && not (has b x) then 1 else 0) (λ x. if has (common a b) x then 1 else 0) n) ∙ sum_same (λ x. (if has a x && not (has b x) then 1 else 0) + (if has (common a b) x then 1 else 0)) (λ x. if has a x then 1 else 0) n (λ x u. parted a b x) in
    omega arith

pub leaving-is : (p : PlanModel) (r t : ℕ) → t < p.rounds → r < p.ranks → leaving p r t ≡ (p.span t r).len - (piece p t r r).len
leaving-is p r t ht hr = without (p.span t r) (p.span (suc t) r) p.pixels (p.span_within t r (omega arith) hr)

pub leaving-few : (p : PlanModel) (r t : ℕ) → t < p.rounds → r < p.ranks → leaving p r t ≤ 1024
leaving-few p r t ht hr =
    let e = leaving-is p r t ht hr in
    let w = p.span_within t r (omega arith) hr in
    let l = p.pixel_limit in
    omega arith

pub sent-few : (p : PlanModel) (r t : ℕ) → t ≤ p.rounds → r < p.ranks → sum_below (leaving p r) t ≤ 1024 * t
sent-few p r zero ht hr = omega arith
sent-few p r (suc t) ht hr =
    let ih = sent-few p r t (omega arith) hr in
    let one = leaving-few p r t (omega arith) hr in
    omega arith

-- what leaves, where the spans were told and their common part was taken
pub left_is : (p : PlanModel) (r t : ℕ) (old new kept : Run) → t < p.rounds → old ≡ p.span t r → Ok new ≡ span_told p (t + 1) r → kept ≡ common old new → (r < p.ranks) × (new ≡ p.span (suc t) r) × (old.len - kept.len ≡ leaving p r t)
left_is p r t old new kept ht before told both =
    let next = next_span p t r new ht told in
    (next.0, next.1, ap (λ s. old.len - s.len) both ∙ ap₂ (λ a b. a.len - (common a b).len) before next.1 ∙ sym (leaving-is p r t ht next.0))
