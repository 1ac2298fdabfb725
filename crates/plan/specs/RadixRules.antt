-- The radix plan keeps the five rules. Assumes nothing.
use Rattle.std.specs.Prelude.{◌≡◌, ℕ, zero, suc, ◌+◌, ◌-◌, ◌*◌, ◌/◌, ◌%◌, ◌<◌, ◌≤◌, List, [], ◌∷◌, length}
use Rattle.std.proofs.Math.Path.{refl, sym, ap, subst}
use Rattle.std.proofs.Common.{ap₂, ◌∙◌, ⊎_elim, div-mul-le_self, mul-le-mul_right, mul-lt-mul_of_pos_right, div-one, mul-one, one-mul, zero-mul, add-mul, mul_assoc, div-add-mod'}
use native.Mathlib.Omega.{arith}
use Rattle.std.proofs.Math.Nat.{lt-div-mul-add, div-eq_of_lt-le, div-div-eq-div-mul, mul_comm, div-eq_of_lt, mod-lt, mod-eq_of_lt, mod-one}
use Rattle.std.proofs.Math.Arith.{mod-mul, digits_div, digits_mod, digits_lt}
use Rattle.std.proofs.lemmas.Bool.{cases_lt}
use Rattle.std.proofs.lemmas.List.{get_or_past}
use Rattle.plan.specs.declared.runs.Run.{Run}
use Rattle.plan.specs.Factors.{product, factor, Each, Suits, width}
use Rattle.plan.specs.Model.{Limits, PlanModel}
use Rattle.plan.specs.Radix.{digit, group, part, span}
use Rattle.plan.specs.Runs.{run_of, In, cut}
use Rattle.plan.specs.Shares.{part_of, cut_all, cut_up, lies_in_one, lies_once, part-below}

pub factor_pos : (ks : List ℕ) → Each ks → (t : ℕ) → 0 < factor ks t
factor_pos ks e t = ⊎_elim (λ (h : t < length ks). let b = e t h in omega arith) (λ (h : length ks ≤ t). let b = get_or_past ks t 1 h in omega arith) (cases_lt t (length ks))

-- the first factor taken out of a width
pub ahead : (k : ℕ) (ks : List ℕ) (t : ℕ) → width (factor (k ∷ ks)) (suc t) ≡ k * width (factor ks) t
ahead k ks zero = one-mul k ∙ sym (mul-one k)
ahead k ks (suc t) = ap (λ w. w * factor ks t) (ahead k ks t) ∙ mul_assoc k (width (factor ks) t) (factor ks t)

pub width-all : (ks : List ℕ) → width (factor ks) (length ks) ≡ product ks
width-all [] = refl
width-all (k ∷ ks) = ahead k ks (length ks) ∙ ap (λ w. k * w) (width-all ks)

pub whole : (R : ℕ) (ks : List ℕ) → Suits R ks → width (factor ks) (length ks) ≡ R
whole R ks suits = width-all ks ∙ suits.2

-- a group of w lies within one of w * n
within-next : (w n r : ℕ) → 0 < w → 0 < n → (r / (w * n) * (w * n) ≤ r / w * w) × (r / w * w + w ≤ r / (w * n) * (w * n) + w * n)
within-next w n r wp np =
    let a : r / w / n ≡ r / (w * n) = div-div-eq-div-mul r w n in
    let low = div-mul-le_self (r / w) n in
    let high : r / w < r / w / n * n + n = lt-div-mul-add np in
    let e : r / w / n * n * w ≡ r / (w * n) * (w * n) = mul_assoc (r / w / n) n w ∙ ap (λ x. r / w / n * x) (mul_comm n w) ∙ ap (λ x. x * (w * n)) a in
    let down : r / w / n * n * w ≤ r / w * w = mul-le-mul_right w low in
    let up : (r / w + 1) * w ≤ (r / w / n * n + n) * w = mul-le-mul_right w (omega arith) in
    let c = add-mul (r / w) 1 w in
    let d = add-mul (r / w / n * n) n w in
    let f = mul_comm n w in
    (omega arith, omega arith)

module _ (k : ℕ → ℕ) (pos : (t : ℕ) → 0 < k t) where
  pub width_pos : (t : ℕ) → 0 < width k t
  width_pos zero = omega arith
  width_pos (suc t) = let a : 0 * k t < width k t * k t = mul-lt-mul_of_pos_right (width_pos t) (pos t) in omega arith

  pub in_group : (t r : ℕ) → In (group k t r) r
  in_group t r = (div-mul-le_self r (width k t), lt-div-mul-add (width_pos t))

  same-group : (t r q : ℕ) → In (group k t r) q → (group k t q).start ≡ (group k t r).start
  same-group t r q i =
      let c = add-mul (r / width k t) 1 (width k t) in
      let low : r / width k t * width k t ≤ q = i.0 in
      let high : q < (r / width k t + 1) * width k t = omega arith in
      ap (λ x. x * width k t) (div-eq_of_lt-le (width k t) low high)

  next-group : (t r : ℕ) → ((group k (suc t) r).start ≤ (group k t r).start) × ((group k t r).start + width k t ≤ (group k (suc t) r).start + width k (suc t))
  next-group t r = within-next (width k t) (k t) r (width_pos t) (pos t)

  -- the lower digits of r, below round t + 1
  lower : (t r : ℕ) → r % width k (suc t) ≡ digit k t r * width k t + r % width k t
  lower t r = ap (λ x. r % x) (mul_comm (width k t) (k t)) ∙ mod-mul r (pos t) (width_pos t)

  upper_same : (w a b m n : ℕ) → m < w → n < w → a * w + m ≡ b * w + n → (a ≡ b) × (m ≡ n)
  upper_same w a b m n h i e = (sym (digits_div a h) ∙ ap (λ x. x / w) e ∙ digits_div b i, sym (digits_mod a h) ∙ ap (λ x. x % w) e ∙ digits_mod b i)

  -- the span hangs on the lower digits alone
  same_span : (P t r q : ℕ) → r % width k t ≡ q % width k t → span k P t r ≡ span k P t q
  unfolding span
  same_span P zero r q e = refl
  same_span P (suc t) r q e =
      let both = upper_same (width k t) (digit k t r) (digit k t q) (r % width k t) (q % width k t) (mod-lt r (width_pos t)) (mod-lt q (width_pos t)) (sym (lower t r) ∙ e ∙ lower t q) in
      ap (λ s. part s (k t) (digit k t r)) (same_span P t r q both.1) ∙ ap (part (span k P t q) (k t)) both.0

-- a position of a part lies in the whole, and in that part of it
part_in : (s : Run) (n d x : ℕ) → d < n → In (part s n d) x → (s.start ≤ x) × (cut s.len n d ≤ x - s.start) × (x - s.start < cut s.len n (d + 1)) × (x - s.start < s.len) × (x < s.start + s.len)
part_in s n d x h i =
    let some : 0 < n = omega arith in
    let up = cut_up s.len n some d (d + 1) (omega arith) in
    let top = cut_up s.len n some (d + 1) n (omega arith) in
    let all = cut_all s.len n some in
    (omega arith, omega arith, omega arith, omega arith, omega arith)

in_part : (s : Run) (n d x : ℕ) → s.start ≤ x → cut s.len n d ≤ x - s.start → x - s.start < cut s.len n (d + 1) → In (part s n d) x
in_part s n d x a b c = (omega arith, omega arith)

-- the lower digits of the rank that holds position x in round t
unfoldable offset : (ℕ → ℕ) → ℕ → ℕ → ℕ → ℕ
offset k P zero x = 0
offset k P (suc t) x = part_of (span k P t (offset k P t x)).len (k t) (x - (span k P t (offset k P t x)).start) * width k t + offset k P t x

module _ (k : ℕ → ℕ) (pos : (t : ℕ) → 0 < k t) (P : ℕ) where
  -- span t r holds x
  abbrev Holds : ℕ → ℕ → ℕ → Type 0
  Holds t r x = In (span k P t r) x

  found : (t x : ℕ) → x < P → (offset k P t x < width k t) × Holds t (offset k P t x) x
  unfolding span offset
  found zero x h = (omega arith, (omega arith, omega arith))
  found (suc t) x h =
      let ih = found t x h in
      let o = offset k P t x in
      let w = width k t in
      let s = span k P t o in
      let d = part_of s.len (k t) (x - s.start) in
      let within : x - s.start < s.len = omega arith in
      let l = lies_in_one s.len (k t) (pos t) (x - s.start) within in
      let b : d < k t = part-below s.len (k t) (pos t) (x - s.start) within in
      let size : d * w + o < k t * w = digits_lt b ih.0 in
      let c = mul_comm (k t) w in
      let dig : digit k t (d * w + o) ≡ d = ap (λ y. y % k t) (digits_div d ih.0) ∙ mod-eq_of_lt b in
      let low : (d * w + o) % w ≡ o % w = digits_mod d ih.0 ∙ sym (mod-eq_of_lt ih.0) in
      let sp : span k P t (d * w + o) ≡ s = same_span k pos P t (d * w + o) o low in
      let i : In (part s (k t) d) x = in_part s (k t) d x ih.1.0 l.0 l.1 in
      let e : part s (k t) d ≡ part (span k P t (d * w + o)) (k t) (digit k t (d * w + o)) = ap (λ y. part y (k t) d) (sym sp) ∙ ap (part (span k P t (d * w + o)) (k t)) (sym dig) in
      (omega arith, subst (λ y. In y x) e i)

  once : (t r x : ℕ) → x < P → Holds t r x → r % width k t ≡ offset k P t x
  unfolding span offset
  once zero r x h i = mod-one r
  once (suc t) r x h i =
      let s = span k P t r in
      let d = digit k t r in
      let p = part_in s (k t) d x (mod-lt (r / width k t) (pos t)) i in
      let ih = once t r x h (p.0, p.4) in
      let fd = (found t x h).0 in
      let sp : s ≡ span k P t (offset k P t x) = same_span k pos P t r (offset k P t x) (ih ∙ sym (mod-eq_of_lt fd)) in
      let e : d ≡ part_of s.len (k t) (x - s.start) = lies_once s.len (k t) (pos t) d (x - s.start) p.3 (p.1, p.2) in
      let f : d ≡ part_of (span k P t (offset k P t x)).len (k t) (x - (span k P t (offset k P t x)).start) = e ∙ ap (λ y. part_of y.len (k t) (x - y.start)) sp in
      lower k pos t r ∙ ap (λ y. y * width k t + r % width k t) f ∙ ap (λ y. part_of (span k P t (offset k P t x)).len (k t) (x - (span k P t (offset k P t x)).start) * width k t + y) ih

  pub fits : (t r : ℕ) → (span k P t r).start + (span k P t r).len ≤ P
  unfolding span
  fits zero r = omega arith
  fits (suc t) r =
      let s = span k P t r in
      let ih = fits t r in
      let up = cut_up s.len (k t) (pos t) (digit k t r) (digit k t r + 1) (omega arith) in
      let lt = mod-lt (r / width k t) (pos t) in
      let top = cut_up s.len (k t) (pos t) (digit k t r + 1) (k t) (omega arith) in
      let all = cut_all s.len (k t) (pos t) in
      omega arith

module _ (k : ℕ → ℕ) (pos : (t : ℕ) → 0 < k t) (R P T : ℕ) (all : width k T ≡ R) where
  -- the last round has one group
  pub one-group : (r : ℕ) → r < R → (group k T r).start ≡ 0
  one-group r h =
      let below : r < width k T = omega arith in
      ap (λ x. x * width k T) (div-eq_of_lt below) ∙ zero-mul (width k T)

  ends : (n t r : ℕ) → n + t ≡ T → r < R → (group k t r).start + width k t ≤ R
  ends zero t r e h =
      let last : t ≡ T = omega arith in
      let first = one-group r h in
      subst (λ u. (group k u r).start + width k u ≤ R) (sym last) (omega arith)
  ends (suc n) t r e h =
      let ih = ends n (suc t) r (omega arith) h in
      let up = next-group k pos t r in
      omega arith

  pub group-fits : (t r : ℕ) → t ≤ T → r < R → (group k t r).start + width k t ≤ R
  group-fits t r le h = ends (T - t) t r (omega arith) h

  pub first_group : (r : ℕ) → group k 0 r ≡ run_of r 1
  first_group r = ap (λ s. run_of s 1) (mul-one (r / 1) ∙ div-one r)

  pub first-span : (r : ℕ) → span k P 0 r ≡ run_of 0 P
  unfolding span
  first-span r = refl

  pub shared-group : (t r q : ℕ) → In (group k t r) q → group k t q ≡ group k t r
  shared-group t r q i = ap (λ s. run_of s (width k t)) (same-group k pos t r q i)

  -- whole groups merge
  pub merged : (t r m : ℕ) → In (group k (suc t) r) m → ((group k (suc t) r).start ≤ (group k t m).start) × ((group k t m).start + (group k t m).len ≤ (group k (suc t) r).start + (group k (suc t) r).len)
  merged t r m i =
      let e = same-group k pos (suc t) r m i in
      let up = next-group k pos t m in
      (omega arith, omega arith)

  -- the member of rank r's group that holds position x
  abbrev holder : ℕ → ℕ → ℕ → ℕ
  holder t r x = (group k t r).start + offset k P t x

  held : (t r x : ℕ) → x < P → In (group k t r) (holder t r x) × In (span k P t (holder t r x)) x
  held t r x lt =
      let f = found k pos P t x lt in
      let o = offset k P t x in
      let same : holder t r x % width k t ≡ o % width k t = digits_mod (r / width k t) f.0 ∙ sym (mod-eq_of_lt f.0) in
      let sp = same_span k pos P t (holder t r x) o same in
      ((omega arith, omega arith), subst (λ y. In y x) (sym sp) f.1)

  held-once : (t r x q : ℕ) → In (group k t r) q → In (span k P t q) x → q ≡ holder t r x
  held-once t r x q i l =
      let fit = fits k pos P t q in
      let o = once k pos P t q x (omega arith) l in
      let g = same-group k pos t r q i in
      let whole = div-add-mod' q (width k t) in
      omega arith

  pub one-member : (t r x : ℕ) → x < P → (m : ℕ) × In (group k t r) m × In (span k P t m) x × ((q : ℕ) → In (group k t r) q → In (span k P t q) x → q ≡ m)
  one-member t r x lt = let f = held t r x lt in (holder t r x, f.0, f.1, held-once t r x)

-- the radix plan of R ranks, P pixels and a round for each factor
abbrev pub radix_model : (R P : ℕ) (ks : List ℕ) → Limits R P → Suits R ks → PlanModel
radix_model R P ks limits suits =
    let pos = factor_pos ks suits.1 in
    let all = whole R ks suits in
    record {
      ranks = R;
      pixels = P;
      rounds = length ks;
      group = group (factor ks);
      span = span (factor ks) P;
      rank_limit = limits.0;
      pixel_limit = limits.1;
      round_limit = omega arith;
      group_within = group-fits (factor ks) pos R P (length ks) all;
      span_within = λ t r le h. fits (factor ks) pos P t r;
      alone = λ r h. first_group (factor ks) pos R P (length ks) all r;
      whole = λ r h. first-span (factor ks) pos R P (length ks) all r;
      member = λ t r le h. in_group (factor ks) pos t r;
      shared = λ t r m le h i. shared-group (factor ks) pos R P (length ks) all t r m i;
      one_holder = λ t r x le h k. one-member (factor ks) pos R P (length ks) all t r x k;
      nested = λ t r m lt h i. merged (factor ks) pos R P (length ks) all t r m i;
      all_together = λ r h. ap₂ run_of (one-group (factor ks) pos R P (length ks) all r h) all;
    }
