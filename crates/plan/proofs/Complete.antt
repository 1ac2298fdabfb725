-- The transfers in order are a transfer list, and none is shorter.
use Rattle.std.proofs.Common.{◌≡◌, ℕ, zero, suc, ◌+◌, ◌-◌, ◌<◌, ◌≤◌, Bool, true, false, if◌then◌else◌, eqb, List, [], ◌∷◌, ◌++◌, length, take, drop, sym, refl, ap, ◌∙◌, subst, ⊎_elim, arith}
use Rattle.std.proofs.lemmas.Bool.{eqb-false}
use Rattle.std.proofs.lemmas.List.Elements.{All-nil, All-cons, All-append, All-weaker, All-contains, All-from_recursion, recursion_from_All, Contains-append_left, Contains-append_right, Contains-append_cases}
use Rattle.std.proofs.lemmas.Map.Made.{Contains-tail}
use Rattle.std.proofs.lemmas.List.{append_assoc, length-append, take-append-drop, drop_more}
use Rattle.std.specs.List.{All, AllByRecursion, Contains}
use Rattle.std.proofs.lemmas.Bool.{cases_lt}
use Rattle.plan.specs.declared.listing.Listing.{Listing}
use Rattle.plan.specs.declared.transfer.Transfer.{Transfer}
use Rattle.plan.specs.Model.{PlanModel}
use Rattle.plan.specs.Order.{up_to, between, to_place, from, in_round, all_rounds, Put, Adds, Wrote}
use Rattle.plan.specs.Transfers.{transfer_of, IsTransfer, Once, Lists}
use Rattle.plan.proofs.Putting.{between_is}

up_to-all : (P : Transfer → Type 0) (g : ℕ → List Transfer) (n : ℕ) → ((j : ℕ) → j < n → All P (g j)) → All P (up_to g n)
up_to-all P g zero h = All-nil P
up_to-all P g (suc n) h = All-append P (up_to g n) (g n) (up_to-all P g n (λ j l. h j (omega arith))) (h n (omega arith))

-- where every entry of g j tells j by its key, x stands once in all if it stands once in its own
module _ (key : Transfer → ℕ) (g : ℕ → List Transfer) (x : Transfer) where
  abbrev Other : Transfer → Type 0
  Other y = y ≡ x → ⊥

  without : (ys : List Transfer) → All Other ys → AllByRecursion Other ys
  without = recursion_from_All Other

  apart : (j : ℕ) → All (λ y. key y ≡ j) (g j) → (key x ≡ j → ⊥) → All Other (g j)
  apart j a ne = All-weaker (λ y. key y ≡ j) Other (λ y k e. ne (ap key (sym e) ∙ k)) (g j) a

  once-up_to : (n : ℕ) → ((j : ℕ) → j < n → All (λ y. key y ≡ j) (g j)) → key x < n → Once x (g (key x)) → Once x (up_to g n)
  once-up_to zero keys h o = absurd (omega arith)
  once-up_to (suc n) keys h o =
      ⊎_elim
      (λ (l : key x < n).
      let ih = once-up_to n (λ j k. keys j (omega arith)) l o in
      let a = ih.0 in
      let b = ih.1 in
      let none = apart n (keys n (omega arith)) (λ e. omega arith) in
      (a, b ++ g n, ap (λ ys. ys ++ g n) ih.2 ∙ append_assoc a (x ∷ b) (g n), without (a ++ (b ++ g n)) (subst (All Other) (append_assoc a b (g n)) (All-append Other (a ++ b) (g n) (All-from_recursion Other (a ++ b) ih.3) none))))
      (λ (l : n ≤ key x).
      let here : key x ≡ n = omega arith in
      let at = subst (λ j. Once x (g j)) here o in
      let a = at.0 in
      let b = at.1 in
      let none = up_to-all Other g n (λ j k. apart j (keys j (omega arith)) (λ e. omega arith)) in
      (up_to g n ++ a, b, ap (λ ys. up_to g n ++ ys) at.2 ∙ sym (append_assoc (up_to g n) a (x ∷ b)), without ((up_to g n ++ a) ++ b) (subst (All Other) (sym (append_assoc (up_to g n) a b)) (All-append Other (up_to g n) (a ++ b) none (All-from_recursion Other (a ++ b) at.3)))))
      (cases_lt (key x) n)

module _ (m : PlanModel) where
  module _ (P : Transfer → Type 0) (t f r : ℕ) (h : (f ≡ r → ⊥) → ((transfer_of m t f r).piece.len ≡ 0 → ⊥) → P (transfer_of m t f r)) where
    some : (b : Bool) → (f ≡ r → ⊥) → eqb (transfer_of m t f r).piece.len 0 ≡ b → All P (if b then [] else transfer_of m t f r ∷ [])
    some true ne e = All-nil P
    some false ne e = All-cons P (transfer_of m t f r) [] (h ne (eqb-false (transfer_of m t f r).piece.len 0 e)) (All-nil P)

    other : (b : Bool) → eqb f r ≡ b → All P (if b then [] else (if eqb (transfer_of m t f r).piece.len 0 then [] else transfer_of m t f r ∷ []))
    other true e = All-nil P
    other false e = some (eqb (transfer_of m t f r).piece.len 0) (eqb-false f r e) refl

    between_all : All P (between m t f r)
    between_all = other (eqb f r) refl

  from_all : (P : Transfer → Type 0) (t f : ℕ) → ((i : ℕ) → i < (m.group (suc t) f).len → (f ≡ (m.group (suc t) f).start + i → ⊥) → ((transfer_of m t f ((m.group (suc t) f).start + i)).piece.len ≡ 0 → ⊥) → P (transfer_of m t f ((m.group (suc t) f).start + i))) → All P (from m t f)
  from_all P t f h = up_to-all P (to_place m t f) (m.group (suc t) f).len (λ i l. between_all P t f ((m.group (suc t) f).start + i) (h i l))

  each : All (IsTransfer m) (all_rounds m)
  each =
      up_to-all (IsTransfer m) (in_round m) m.rounds (λ t lt.
      up_to-all (IsTransfer m) (from m t) m.ranks (λ f lf.
      from_all (IsTransfer m) t f (λ i li ne some. record { before = t; early = lt; known = lf; together = (omega arith, omega arith); different = ne; filled = omega arith; is = refl })))

  complete : (x : Transfer) → IsTransfer m x → Once x (all_rounds m)
  complete x p =
      let t = p.before in
      let f = x.sender in
      let r = x.receiver in
      let s = (m.group (suc t) f).start in
      let e : x ≡ transfer_of m t f r = p.is in
      let round : x.round ≡ suc t = ap (λ y. y.round) e in
      let len : x.piece.len ≡ (transfer_of m t f r).piece.len = ap (λ y. y.piece.len) e in
      let inside = p.together in
      let full = p.filled in
      let at : s + (r - s) ≡ r = omega arith in
      let is : between m t f r ≡ x ∷ [] = between_is m t f r p.different (λ z. omega arith) ∙ ap (λ y. y ∷ []) (sym e) in
      let once : Once x (to_place m t f (r - s)) = ([], [], ap (between m t f) at ∙ is, tt) in
      let in-from : Once x (from m t f) = once-up_to (λ y. y.receiver - s) (to_place m t f) x (m.group (suc t) f).len (λ j l. between_all (λ y. y.receiver - s ≡ j) t f (s + j) (λ _ _. omega arith)) (omega arith) once in
      let in-rounds : Once x (in_round m t) = once-up_to (λ y. y.sender) (from m t) x m.ranks (λ j l. from_all (λ y. y.sender ≡ j) t j (λ _ _ _ _. refl)) p.known in-from in
      let back : t ≡ x.round - 1 = omega arith in
      once-up_to (λ y. y.round - 1) (in_round m) x m.rounds (λ j l. up_to-all (λ y. y.round - 1 ≡ j) (from m j) m.ranks (λ f lf. from_all (λ y. y.round - 1 ≡ j) j f (λ _ _ _ _. omega arith))) (omega arith) (subst (λ u. Once x (in_round m u)) back in-rounds)

  all_listed : Lists m (all_rounds m)
  all_listed = record { sound = recursion_from_All (IsTransfer m) (all_rounds m) each; complete = complete }

once_in : (x : Transfer) (xs : List Transfer) → Once x xs → Contains xs x
once_in x xs o = subst (λ ys. Contains ys x) (sym o.2) (Contains-append_right o.0 (x ∷ o.1) x (0, omega arith, refl))

none_in : (x : Transfer) (xs : List Transfer) → AllByRecursion (λ y. y ≡ x → ⊥) xs → Contains xs x → ⊥
none_in x xs a i = All-contains (λ y. y ≡ x → ⊥) xs x (All-from_recursion (λ y. y ≡ x → ⊥) xs a) i refl

-- x is among the others too
others : (x y : Transfer) (a b : List Transfer) → (y ≡ x → ⊥) → Contains (a ++ y ∷ b) x → Contains (a ++ b) x
others x y a b ne i = ⊎_elim (Contains-append_left a b x) (λ k. Contains-append_right a b x (Contains-tail y b x ne k)) (Contains-append_cases a (y ∷ b) x i)

head_apart : (y : Transfer) (ys a b : List Transfer) → y ∷ ys ≡ a ++ y ∷ b → AllByRecursion (λ z. z ≡ y → ⊥) (a ++ b) → Contains ys y → ⊥
head_apart y ys [] b e none i = let same : ys ≡ b = cc in none_in y b none (subst (λ zs. Contains zs y) same i)
head_apart y ys (z ∷ a) b e none i = let same : z ≡ y = cc in none.0 same

tail_once : (x y : Transfer) (ys a b : List Transfer) → y ∷ ys ≡ a ++ x ∷ b → AllByRecursion (λ z. z ≡ x → ⊥) (a ++ b) → Contains ys x → Once x ys
tail_once x y ys [] b e none i = let same : ys ≡ b = cc in absurd (none_in x b none (subst (λ zs. Contains zs x) same i))
tail_once x y ys (z ∷ a) b e none i = let same : ys ≡ a ++ x ∷ b = cc in (a, b, same, none.1)

split : (x : Transfer) (xs : List Transfer) → Contains xs x → (a : List Transfer) × (b : List Transfer) × (xs ≡ a ++ x ∷ b)
split x xs i =
    let k = i.0 in
    (take k xs, drop (k + 1) xs, sym (take-append-drop k xs) ∙ ap (λ r. take k xs ++ r) (drop_more xs k x i.1 ∙ ap (λ y. y ∷ drop (k + 1) xs) i.2))

-- where each entry of ys stands once in it, and is in xs too
no_longer : (ys xs : List Transfer) → ((x : Transfer) → Contains ys x → Once x ys) → ((x : Transfer) → Contains ys x → Contains xs x) → length ys ≤ length xs
no_longer [] xs once h = omega arith
no_longer (y ∷ ys) xs once h =
    let here : Contains (y ∷ ys) y = (0, omega arith, refl) in
    let o = once y here in
    let s = split y xs (h y here) in
    let a = s.0 in
    let b = s.1 in
    let later : (x : Transfer) → Contains ys x → Contains (y ∷ ys) x = λ x. Contains-append_right (y ∷ []) ys x in
    let ih =
    no_longer ys (a ++ b)
    (λ x i. let q = once x (later x i) in tail_once x y ys q.0 q.1 q.2 q.3 i)
    (λ x i. others x y a b (λ e. head_apart y ys o.0 o.1 o.2 o.3 (subst (Contains ys) (sym e) i)) (subst (λ zs. Contains zs x) s.2 (h x (later x i))))
    in
    let len = ap length s.2 in
    let long = length-append a (y ∷ b) in
    let short = length-append a b in
    omega arith

-- no transfer list is shorter
least : (m : PlanModel) (xs : List Transfer) → Lists m xs → length (all_rounds m) ≤ length xs
least m xs l =
    let kept : (x : Transfer) → Contains (all_rounds m) x → IsTransfer m x = λ x. All-contains (IsTransfer m) (all_rounds m) x (each m) in
    no_longer (all_rounds m) xs (λ x i. complete m x (kept x i)) (λ x i. once_in x xs (l.complete x (kept x i)))

-- all rounds are listed, from the first place on; what is then in the area is `now`
pub wrote : (m : PlanModel) (n : ℕ) (first last : Listing) (now : List Transfer) → n ≡ m.rounds → first.count ≡ 0 → now ≡ last.area.now → Adds (up_to (in_round m) n) first last → Wrote m first.area.now now last.count
wrote m n first last now all none e a =
    let p : Put (all_rounds m) 0 first.area.now now last.count = rw (e, ← none) (subst (λ k. Put (up_to (in_round m) k) first.count first.area.now last.area.now last.count) all a.put) in
    let count : last.count ≡ length (all_rounds m) = let next = p.next in omega arith in
    record {
      count = count;
      least = λ xs l. let le = least m xs l in omega arith;
      listed = λ room. (subst (Lists m) (sym (p.front room)) (all_listed m), p.rest room);
    }
