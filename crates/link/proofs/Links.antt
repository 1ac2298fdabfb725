-- What the contracts of the calls give, at any link. Assumes nothing.
use Rattle.std.proofs.Common.{◌≡◌, ℕ, ◌≤◌, Bool, true, false, if◌then◌else◌, ltb, List, length, Some, None, Ok, Err, Option, refl, ap, ◌∙◌, arith}
use mathlib.Core.Path.{fun_ext}
use Rattle.std.proofs.lemmas.Bool.{le-ltb, not-false}
use Rattle.std.proofs.lemmas.Bool.Decides.{nat_tests}
use Rattle.link.specs.Model.{LinkModel, BoxState, Empty, Holds, is_empty, is_pair, changed, put}
use Rattle.tile.specs.Answers.{answered}
use Rattle.link.specs.Calls.{is_length, filled_with, send_fault, clear_fault, Send, Read, Clear}

-- links with the same size and the same boxes are the same
pub same_link : (m n : LinkModel) → m.ranks ≡ n.ranks → m.longest ≡ n.longest → ((i j : ℕ) → m.boxes i j ≡ n.boxes i j) → m ≡ n
same_link m n p q h =
    let e : m.boxes ≡ n.boxes = fun_ext (λ i. fun_ext (λ j. h i j)) in
    ap (λ x. record { ranks = x; longest = m.longest; boxes = m.boxes }) p
    ∙ ap (λ x. record { ranks = n.ranks; longest = x; boxes = m.boxes }) q
    ∙ ap (λ x. record { ranks = n.ranks; longest = n.longest; boxes = x }) e

-- the box that was changed
pub changed-here : (boxes : ℕ → ℕ → BoxState) (from to : ℕ) (b : BoxState) → changed boxes from to b from to ≡ b
changed-here boxes from to b = grind (arith, nat_tests)

-- an accepted call has no fault, a refused one has its own
module _ {A F : Type 0} (o : Option F) (a : A) where
  pub accepted : (x : A) → Ok x ≡ answered o a → (o ≡ None) × (x ≡ a)
  accepted x e = at o e
    where
      at : (o : Option F) → Ok x ≡ answered o a → (o ≡ None) × (x ≡ a)
      at None e = (refl, cc)
      at (Some f) e = absurd cc

  pub refused : (f : F) → Err f ≡ answered o a → o ≡ Some f
  refused f e = at o e
    where
      at : (o : Option F) → Err f ≡ answered o a → o ≡ Some f
      at None e = absurd cc
      at (Some g) e = cc

first-none : {F : Type 0} (test : Bool) (f : F) (rest : Option F) → (if test then Some f else rest) ≡ None → (test ≡ false) × (rest ≡ None)
first-none true f rest h = absurd cc
first-none false f rest h = (refl, h)

-- no fault is for a message to an empty box of a pair
pub send_permitted : (m : LinkModel) (from to count : ℕ) → send_fault m from to count ≡ None → (is_pair m.ranks from to ≡ true) × (is_length m.longest count ≡ true) × (is_empty (m.boxes from to) ≡ true)
send_permitted m from to count h =
    let p = first-none _ _ _ h in
    let q = first-none _ _ _ p.1 in
    let r = first-none _ _ _ q.1 in
    (not-false _ p.0, not-false _ q.0, not-false _ r.0)

-- The calls on a pair, by its box.
module _ (m : LinkModel) (from to : ℕ) (pair : is_pair m.ranks from to ≡ true) where
  module _ (count : ℕ) (fits : is_length m.longest count ≡ true) where
    pub no_send_fault : is_empty (m.boxes from to) ≡ true → send_fault m from to count ≡ None
    no_send_fault h = rw (pair, fits, h)

  module _ (words : List ℕ) (fits : is_length m.longest (length words) ≡ true) where
    pub send_done : (n : LinkModel) → is_empty (m.boxes from to) ≡ true → n ≡ put m from to (Holds words) → Send m n from to words (Ok tt)
    send_done n h e = let g = no_send_fault (length words) fits h in record { answer = rw g; after = rw g e }

  pub no_clear_fault : is_empty (m.boxes from to) ≡ false → clear_fault m from to ≡ None
  no_clear_fault h = rw (pair, h)

  pub clear_done : (n : LinkModel) → is_empty (m.boxes from to) ≡ false → n ≡ put m from to Empty → Clear m n from to (Ok tt)
  clear_done n h e = let g = no_clear_fault h in record { answer = rw g; after = rw g e }

  module _ (area : List ℕ) (room : m.longest ≤ length area) where
    roomy : ltb (length area) m.longest ≡ false
    roomy = le-ltb (length area) m.longest room

    pub read_done : (ws : List ℕ) → m.boxes from to ≡ Holds ws → Read m m from to area (filled_with ws area) (Ok (length ws))
    read_done ws h = let t = roomy in record { answer = rw (pair, t, h); filled = rw (pair, t, h); after = refl }
