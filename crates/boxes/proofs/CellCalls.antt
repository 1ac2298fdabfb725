-- The calls of the cell link. Assumes nothing.
use Rattle.std.proofs.Common.{◌≡◌, ℕ, ◌+◌, ◌-◌, ◌<◌, ◌≤◌, true, false, List, ◌∷◌, ◌++◌, length, get_or, take, drop, set, Ok, sym, ap, ◌∙◌, subst, arith, length-drop, length-take}
use lib.Seq.{paste}
use borrow.Rule.Slice.PartMut.{put_mid}
use Rattle.boxes.proofs.Cells.{cells_filled, cells_cleared, paste-part}
use Rattle.boxes.specs.CellLaws.{box_at, box_is, place-within}
use Rattle.boxes.specs.CellState.{cell_link_model}
use Rattle.boxes.specs.Cells.{place, cell_model}
use Rattle.boxes.specs.declared.cell.CellLink.{CellLink}
use Rattle.link.proofs.Links as links
use Rattle.link.specs.Calls.{is_length, filled_with, Send, Read, Clear}
use Rattle.link.specs.Model.{LinkModel, Empty, Holds, is_empty, is_pair, put}
use Rattle.std.proofs.lemmas.List.{drop-drop, get_or-drop}
use Rattle.std.proofs.lemmas.Bool.Decides.{nat_tests}

-- The calls on a pair, whose box starts at `at`.
module _ (s : CellLink) (from to at : ℕ) (pair : is_pair s.sizes.ranks from to ≡ true) (is : at ≡ place s.sizes.ranks s.sizes.longest from to) where
  abbrev n : ℕ
  n = s.sizes.ranks

  abbrev l : ℕ
  l = s.sizes.longest

  abbrev ws : List ℕ
  ws = s.words.now

  abbrev m : LinkModel
  m = cell_link_model s

  pub at-within : at + (l + 1) ≤ length ws
  at-within = rw is (omega (arith, place-within n l from to pair, s.room))

  -- the box, by its length word
  pub pair_box : m.boxes from to ≡ box_at l at ws
  pair_box = rw (pair, ← is) (box_is l at ws at-within)

  free : get_or ws at 0 ≡ 0 → m.boxes from to ≡ Empty
  free h = let b = pair_box in grind (arith, nat_tests)

  taken : (get_or ws at 0 ≡ 0 → ⊥) → is_empty (m.boxes from to) ≡ false
  taken h = let b = pair_box in grind (arith, nat_tests)

  pub send_done : (words ws' new : List ℕ) → is_length l (length words) ≡ true → get_or ws at 0 ≡ 0 → new ≡ length words ∷ words ++ drop (length words + 1) (take (length ws - at) (drop at ws)) → ws' ≡ put_mid at (length ws - at) ws new → Send m (cell_model n l ws') from to words (Ok tt)
  send_done words ws' new fits h p q =
      let some : 0 < length words = grind (arith, nat_tests) in
      let short : length words ≤ l = grind (arith, nat_tests) in
      let w = at-within in
      let pasted : ws' ≡ paste ws at (length words ∷ words) (length words + 1) = q ∙ ap (put_mid at (length ws - at) ws) p ∙ sym (paste-part ws (length words ∷ words) at (length words + 1) (length ws - at) (omega arith) (omega arith) (omega arith)) in
      let filled : cell_model n l ws' ≡ put m from to (Holds words) = ap (cell_model n l) pasted ∙ rw is (cells_filled n l from to ws pair s.room words some short) in
      links.send_done m from to pair words fits (cell_model n l ws') (ap is_empty (free h)) filled

  pub clear_done : (get_or ws at 0 ≡ 0 → ⊥) → Clear m (cell_model n l (set ws at 0)) from to (Ok tt)
  clear_done h = links.clear_done m from to pair _ (taken h) (rw is (cells_cleared n l from to ws pair s.room))

  pub read_done : (area area' part : List ℕ) (k : ℕ) → part ≡ drop at ws → l ≤ length area → (get_or ws at 0 ≡ 0 → ⊥) → get_or ws at 0 ≤ l → k ≡ get_or part 0 0 → area' ≡ take k (drop 1 part) ++ drop k area → Read m m from to area area' (Ok k)
  read_done area area' part k cut room h short k-is filled =
      let w = at-within in
      let ms = take k (drop 1 part) in
      let size : k ≡ get_or ws at 0 = k-is ∙ ap (λ t. get_or t 0 0) cut ∙ get_or-drop at ws 0 0 ∙ ap (λ i. get_or ws i 0) (omega arith) in
      let rest : drop 1 part ≡ drop (at + 1) ws = ap (drop 1) cut ∙ drop-drop 1 at ws in
      let held : m.boxes from to ≡ Holds ms = let b = pair_box in rw (rest, size) (grind (arith, nat_tests)) in
      let len : length ms ≡ k = simp (rest, length-take, length-drop) (omega arith) in
      let done = links.read_done m from to pair area room ms held in
      let all : filled_with ms area ≡ area' = ap (λ i. ms ++ drop i area) len ∙ sym filled in
      subst (λ t. Read m m from to area t (Ok k)) all (subst (λ i. Read m m from to area (filled_with ms area) (Ok i)) len done)
