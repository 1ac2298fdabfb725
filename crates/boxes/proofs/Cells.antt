-- Boxes that lie one after the other in memory. Assumes nothing.
use Rattle.std.proofs.Common.{◌≡◌, ℕ, ◌+◌, ◌-◌, ◌*◌, ◌<◌, ◌≤◌, Bool, true, false, if◌then◌else◌, ◌⊎◌, List, [], ◌∷◌, ◌++◌, length, get_or, take, drop, set, replicate, sym, refl, ap, ◌∙◌, inl, inr, arith, length-drop}
use lib.Seq.{paste}
use borrow.Rule.Slice.PartMut.{put_mid}
use Rattle.boxes.specs.Cells.{cell_words, place, cell, box_of, cell_model}
use Rattle.boxes.specs.Sizes.{suffices, started}
use Rattle.boxes.specs.CellLaws.{next_place, place-within, box_is}
use Rattle.link.proofs.Links.{same_link}
use Rattle.link.specs.Model.{BoxState, Empty, Holds, is_pair, changed, put, vacant}
use Rattle.std.proofs.lemmas.Nat.{div-mul-add, mod-mul-add}
use Rattle.std.proofs.lemmas.List.Edits.{paste_none, paste_more}
use Rattle.std.proofs.lemmas.List.{append_assoc, length-append, length-take-le, drop-take, take_all, take_at, take-append-drop, drop-drop, drop-append-le, length-replicate, places}
use Rattle.std.proofs.lemmas.Slice.{take-put_mid_below, drop-put_mid, between-put_mid}
use Rattle.std.proofs.lemmas.Bool.Decides.{nat_tests}

place-apart : (n l i j i' j' : ℕ) → j < n → j' < n → (i ≡ i' → j ≡ j' → ⊥) → (place n l i j + (l + 1) ≤ place n l i' j') ⊎ (place n l i' j' + (l + 1) ≤ place n l i j)
place-apart n l i j i' j' p q apart =
    let x = i * n + j in
    let y = i' * n + j' in
    let a = next_place x y (l + 1) in
    let b = next_place y x (l + 1) in
    let dx = div-mul-add i n j p in
    let dy = div-mul-add i' n j' q in
    let mx = mod-mul-add i n j p in
    let my = mod-mul-add i' n j' q in
    grind arith

-- The words of one box written.
module _ (ws c : List ℕ) (l at : ℕ) (len : length c ≡ l + 1) (room : at + (l + 1) ≤ length ws) where
  cell_same : cell l at (put_mid at (l + 1) ws c) ≡ c
  cell_same =
      let e : at + (l + 1) - at ≡ l + 1 = omega arith in
      let b = between-put_mid at (l + 1) ws c (at + (l + 1)) (omega arith) (len ∙ sym e) in
      ap (λ n. take n (drop at (put_mid at (l + 1) ws c))) (sym e) ∙ b

  cell_other : (to : ℕ) → (at + (l + 1) ≤ to) ⊎ (to + (l + 1) ≤ at) → cell l to (put_mid at (l + 1) ws c) ≡ cell l to ws
  cell_other to (inl h) = ap (take (l + 1)) (drop-put_mid at (l + 1) ws c to (omega arith) (omega arith) (omega arith))
  cell_other to (inr h) = sym (drop-take to (l + 1) _) ∙ ap (drop to) (take-put_mid_below at (l + 1) ws c (to + (l + 1)) h (omega arith)) ∙ drop-take to (l + 1) ws

-- a write to the words of one box changes that box alone
cells_put : (n l from to : ℕ) (ws c : List ℕ) (b : BoxState) → is_pair n from to ≡ true → cell_words n l ≤ length ws → length c ≡ l + 1 → box_of l c ≡ b → cell_model n l (put_mid (place n l from to) (l + 1) ws c) ≡ put (cell_model n l ws) from to b
cells_put n l from to ws c b pair room len box = same_link _ _ refl refl (λ i j. at i j)
  where
    at : (i j : ℕ) → (cell_model n l (put_mid (place n l from to) (l + 1) ws c)).boxes i j ≡ changed (cell_model n l ws).boxes from to b i j
    at i j =
        let within : place n l from to + (l + 1) ≤ length ws = omega (arith, place-within n l from to pair) in
        let same = cell_same ws c l (place n l from to) len within in
        let other = cell_other ws c l (place n l from to) len within (place n l i j) in
        let apart = place-apart n l from to i j in
        grind (arith, nat_tests)

-- words written at the start of a part of `k` words
pub paste-part : (ws s : List ℕ) (at n k : ℕ) → n ≡ length s → n ≤ k → at + k ≤ length ws → paste ws at s n ≡ put_mid at k ws (s ++ drop n (take k (drop at ws)))
paste-part ws s at n k len fits room =
    let x = drop at ws in
    let d = length-drop at ws in
    let part : n ≤ length (take k x) = omega (arith, length-take-le k x (omega arith)) in
    let rest : drop (at + n) ws ≡ drop n (take k x) ++ drop k x = sym (drop-drop n at ws) ∙ ap (drop n) (sym (take-append-drop k x)) ∙ drop-append-le n (take k x) (drop k x) part in
    let front : take n s ≡ s = take_all n s (omega arith) in
    ap (λ t. (take at ws ++ t) ++ drop (at + n) ws) front ∙ append_assoc (take at ws) s (drop (at + n) ws)
    ∙ ap (λ t. take at ws ++ (s ++ t)) rest ∙ ap (λ t. take at ws ++ t) (sym (append_assoc s (drop n (take k x)) (drop k x)))

set-part : (ws : List ℕ) (at v : ℕ) → at < length ws → set ws at v ≡ paste ws at (v ∷ []) 1
set-part ws at v h =
    let z : at + 0 ≡ at = omega arith in
    ap (λ i. set ws i v) (sym z) ∙ ap (λ t. set t (at + 0) v) (paste_none ws at (v ∷ [])) ∙ paste_more ws at (v ∷ []) 0 0 (omega arith) (omega arith)

-- The first words of the box of a pair written.
module _ (n l from to : ℕ) (ws : List ℕ) (pair : is_pair n from to ≡ true) (room : cell_words n l ≤ length ws) where
  abbrev at : ℕ
  at = place n l from to

  within : at + (l + 1) ≤ length ws
  within = omega (arith, place-within n l from to pair)

  -- the other words of the box stay
  abbrev over : List ℕ → List ℕ
  over s = s ++ drop (length s) (take (l + 1) (drop at ws))

  length_over : (s : List ℕ) → length s ≤ l + 1 → length (over s) ≡ l + 1
  length_over s fits =
      let w = within in
      let d = length-drop at ws in
      let t = length-take-le (l + 1) (drop at ws) (omega arith) in
      let r = length-drop (length s) (take (l + 1) (drop at ws)) in
      simp length-append (omega arith)

  cells_paste : (s : List ℕ) (b : BoxState) → length s ≤ l + 1 → box_of l (over s) ≡ b → cell_model n l (paste ws at s (length s)) ≡ put (cell_model n l ws) from to b
  cells_paste s b fits box =
      ap (cell_model n l) (paste-part ws s at (length s) (l + 1) refl fits within)
      ∙ cells_put n l from to ws (over s) b pair room (length_over s fits) box

  pub cells_cleared : cell_model n l (set ws at 0) ≡ put (cell_model n l ws) from to Empty
  cells_cleared =
      let w = within in
      ap (cell_model n l) (set-part ws at 0 (omega arith)) ∙ cells_paste (0 ∷ []) Empty (omega arith) refl

  pub cells_filled : (m : List ℕ) → 0 < length m → length m ≤ l → cell_model n l (paste ws at (length m ∷ m) (length m + 1)) ≡ put (cell_model n l ws) from to (Holds m)
  cells_filled m some short =
      let k = length m in
      let one : k + 1 ≡ length (k ∷ m) = omega arith in
      let t = take_at m (drop (length (k ∷ m)) (take (l + 1) (drop at ws))) k refl in
      let box : box_of l (over (k ∷ m)) ≡ Holds m = grind (arith, nat_tests) in
      ap (cell_model n l) (ap (paste ws at (k ∷ m)) one) ∙ cells_paste (k ∷ m) (Holds m) (omega arith) box

-- The start: every length word is 0.
pub cells_vacant : (n l : ℕ) (ws : List ℕ) → cell_words n l ≤ length ws → ((k : ℕ) → k < cell_words n l → get_or ws k 0 ≡ 0) → cell_model n l ws ≡ vacant n l
cells_vacant n l ws room zeros = same_link _ _ refl refl (λ i j. at i j (is_pair n i j) refl)
  where
    at : (i j : ℕ) (t : Bool) → is_pair n i j ≡ t → (if t then box_of l (cell l (place n l i j) ws) else Empty) ≡ Empty
    at i j true pair =
        let within = place-within n l i j pair in
        let none = zeros (place n l i j) (omega arith) in
        rw (box_is l (place n l i j) ws (omega arith), none)
    at i j false none = refl

-- zeros everywhere, at the sizes that were asked for
pub cells_started : (ranks longest brought n l : ℕ) (ws : List ℕ) → ws ≡ replicate brought 0 → cell_words n l ≤ brought → n ≡ ranks → l ≡ longest → suffices ranks longest (cell_words ranks longest) brought ≡ true → cell_model n l ws ≡ started ranks longest (cell_words ranks longest) brought
cells_started ranks longest brought n l ws z room p q fits =
    let vacated : cell_model n l ws ≡ vacant n l = rw z (cells_vacant n l _ (simp (length-replicate) room) (λ k h. grind (arith, places))) in
    vacated ∙ rw (p, q, fits)
