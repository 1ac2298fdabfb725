-- Writing one list of transfers after another.
use Rattle.std.proofs.Common.{◌≡◌, ℕ, zero, suc, ◌+◌, ◌-◌, ◌*◌, ◌<◌, ◌≤◌, true, false, if◌then◌else◌, eqb, List, [], ◌∷◌, ◌++◌, length, take, drop, sym, refl, ap, ◌∙◌, subst, add-mul, add-one, arith, ne_eqb}
use Rattle.std.proofs.lemmas.List.{append-nil, append_assoc, length-append, drop-drop}
use Rattle.plan.specs.declared.listing.Listing.{Listing}
use Rattle.plan.specs.declared.transfer.Transfer.{Transfer}
use Rattle.plan.specs.Model.{PlanModel}
use Rattle.plan.specs.Order.{up_to, between, to_place, from, in_round, Put, Adds}
use Rattle.plan.specs.Transfers.{transfer_of}

put_none : (n : ℕ) (xs : List Transfer) → Put [] n xs xs n
put_none n xs = record { next = omega arith; front = λ h. sym (append-nil (take n xs)); rest = λ h. refl }

further : (k l : ℕ) (xs ys : List Transfer) → k ≤ l → drop k xs ≡ drop k ys → drop l xs ≡ drop l ys
further k l xs ys h e =
    let s : k + (l - k) ≡ l = omega arith in
    subst (λ n. drop n xs ≡ drop n ys) s (sym (drop-drop (l - k) k xs) ∙ ap (drop (l - k)) e ∙ drop-drop (l - k) k ys)

put-more : (ys zs : List Transfer) (n k l : ℕ) (old mid new : List Transfer) → length mid ≡ length old → Put ys n old mid k → Put zs k mid new l → Put (ys ++ zs) n old new l
put-more ys zs n k l old mid new same p q =
    let len = length-append ys zs in
    let a = p.next in
    let b = q.next in
    record {
      next = omega arith;
      front = λ h. q.front (omega arith) ∙ ap (λ xs. xs ++ zs) (p.front (omega arith)) ∙ append_assoc (take n old) ys zs;
      rest = λ h. q.rest (omega arith) ∙ further k l mid old (omega arith) (p.rest (omega arith));
    }

pub adds_none : (l : Listing) → Adds [] l l
adds_none l = record { same_area = refl; same_length = refl; put = put_none l.count l.area.now }

-- one turn of a loop
pub adds_turn : (g : ℕ → List Transfer) (i : ℕ) (a b c : Listing) → Adds (up_to g i) a b → Adds (g i) b c → Adds (up_to g (i + 1)) a c
adds_turn g i a b c p q =
    rw (add-one i) (
    record {
      same_area = q.same_area ∙ p.same_area;
      same_length = q.same_length ∙ p.same_length;
      put = put-more (up_to g i) (g i) a.count b.count c.count a.area.now b.area.now c.area.now p.same_length p.put q.put;
    })

-- how long such a list can be
pub up_to-short : (g : ℕ → List Transfer) (b n : ℕ) → ((j : ℕ) → j < n → length (g j) ≤ b) → length (up_to g n) ≤ n * b
up_to-short g b zero h = omega arith
up_to-short g b (suc n) h =
    let ih = up_to-short g b n (λ j l. h j (omega arith)) in
    let one = h n (omega arith) in
    let len = length-append (up_to g n) (g n) in
    let m = add-mul n 1 b in
    rw (sym (add-one n)) (omega arith)

module _ (m : PlanModel) (t : ℕ) where
  pub between_is : (f r : ℕ) → (f ≡ r → ⊥) → ((transfer_of m t f r).piece.len ≡ 0 → ⊥) → between m t f r ≡ transfer_of m t f r ∷ []
  between_is f r ne some = rw (ne_eqb f r ne, ne_eqb (transfer_of m t f r).piece.len 0 some)

  pub between-short : (f r : ℕ) → length (between m t f r) ≤ 1
  between-short f r =
      elim (eqb f r) as (λ b. length (if b then [] else (if eqb (transfer_of m t f r).piece.len 0 then [] else transfer_of m t f r ∷ [])) ≤ 1) [
        | true ↦ omega arith
        | false ↦ elim (eqb (transfer_of m t f r).piece.len 0) as (λ b. length (if b then [] else transfer_of m t f r ∷ []) ≤ 1) [ true ↦ omega arith | false ↦ omega arith ]
      ]

  module _ (before : t < m.rounds) where
    pub from-short : (f : ℕ) → f < m.ranks → length (from m t f) ≤ 32
    from-short f h =
        let a = up_to-short (to_place m t f) 1 (m.group (suc t) f).len (λ j l. between-short f ((m.group (suc t) f).start + j)) in
        let b = m.group_within (suc t) f (omega arith) h in
        let l = m.rank_limit in
        omega arith

    pub round_short : length (in_round m t) ≤ 1024
    round_short =
        let a = up_to-short (from m t) 32 m.ranks from-short in
        let l = m.rank_limit in
        omega arith
