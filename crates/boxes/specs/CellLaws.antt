-- The cell link keeps the laws of a link. Assumes nothing.
use Rattle.std.proofs.Common.{◌≡◌, ℕ, zero, suc, ◌+◌, ◌*◌, ◌<◌, ◌≤◌, Bool, true, false, if◌then◌else◌, eqb, leb, List, [], ◌∷◌, length, get_or, take, drop, refl, ap, ◌∙◌, add-mul, one-mul, add-one, arith, lit<, length-drop, length-take}
use Rattle.std.proofs.lemmas.Nat.{mul-le, mul-add-lt}
use Rattle.std.proofs.lemmas.List.{drop_more, take-take, get_or-drop}
use Rattle.std.proofs.lemmas.Bool.Decides.{nat_tests}
use Rattle.link.specs.Model.{BoxState, Empty, Holds, Spoilt, is_pair, Allowed, LinkLaws}
use Rattle.boxes.specs.CellState.{cell_link_model}
use Rattle.boxes.specs.Cells.{cell_words, place, cell, box_of, cell_model}
use Rattle.boxes.specs.Sizes.{WordsBelow}
use Rattle.boxes.specs.declared.cell.CellLink.{CellLink}
use Rattle.tile.specs.Words.{AreWords}

take_below : (n : ℕ) (ws : List ℕ) → WordsBelow n ws → AreWords (take n ws)
take_below zero ws h k = lit< tt
take_below (suc n) [] h k = lit< tt
take_below (suc n) (x ∷ ws) h zero = h 0 (omega arith)
take_below (suc n) (x ∷ ws) h (suc k) = take_below n ws (λ i lt. h (suc i) (omega arith)) k

-- a part of memory
pub part-below : (n at count : ℕ) (ws : List ℕ) → at + count < n + 1 → WordsBelow n ws → AreWords (take count (drop at ws))
part-below n at count ws fits h =
    take_below count (drop at ws) (λ k lt. rw (get_or-drop at ws k 0) (h (at + k) (omega arith)))

-- one place more is `k` words more
pub next_place : (x y k : ℕ) → x < y → x * k + k ≤ y * k
next_place x y k h =
    let p : (x + 1) * k ≤ y * k = mul-le (x + 1) k y k (omega arith) (omega arith) in
    omega (arith, p, add-mul x 1 k, one-mul k)

pub pair_below : (n from to : ℕ) → is_pair n from to ≡ true → (from < n) × (to < n)
pair_below n from to h = grind (arith, nat_tests)

pub place-within : (n l i j : ℕ) → is_pair n i j ≡ true → place n l i j + (l + 1) ≤ cell_words n l
place-within n l i j pair =
    let p = pair_below n i j pair in
    next_place (i * n + j) (n * n) (l + 1) (mul-add-lt i n j n p.0 p.1)

-- The first word of a box is its length, 0 where it is empty.
cell-head : (l at : ℕ) (ws : List ℕ) → at < length ws → cell l at ws ≡ get_or ws at 0 ∷ take l (drop (at + 1) ws)
cell-head l at ws h = ap (take (l + 1)) (drop_more ws at 0 h) ∙ ap (λ n. take n (get_or ws at 0 ∷ drop (at + 1) ws)) (add-one l)

-- a box by its length word
abbrev pub box_at : ℕ → ℕ → List ℕ → BoxState
box_at l at ws = if eqb (get_or ws at 0) 0 then Empty else (if leb (get_or ws at 0) l then Holds (take (get_or ws at 0) (drop (at + 1) ws)) else Spoilt)

pub box_is : (l at : ℕ) (ws : List ℕ) → at + (l + 1) ≤ length ws → box_of l (cell l at ws) ≡ box_at l at ws
box_is l at ws h =
    let n = get_or ws at 0 in
    let t = take-take n l (drop (at + 1) ws) in
    rw (cell-head l at ws (omega arith)) (grind (arith, nat_tests))

-- The laws.
box-allowed : (n l at : ℕ) (ws : List ℕ) → at + (l + 1) ≤ n → n ≤ length ws → WordsBelow n ws → Allowed l (box_at l at ws)
box-allowed n l at ws within room words = by (eqb size 0) refl (leb size l) refl
  where
    size : ℕ
    size = get_or ws at 0

    by : (t : Bool) → eqb size 0 ≡ t → (u : Bool) → leb size l ≡ u → Allowed l (if t then Empty else (if u then Holds (take size (drop (at + 1) ws)) else Spoilt))
    by true p u q = tt
    by false p false q = tt
    by false p true q =
        let short : size ≤ l = grind (arith, nat_tests) in
        let len : length (take size (drop (at + 1) ws)) ≡ size = simp (length-take, length-drop) (omega arith) in
        (grind (arith, nat_tests), omega arith, part-below n (at + 1) size ws (omega arith) words)

pub cell-lawful : (n l : ℕ) (ws : List ℕ) → n ≤ 32 → l ≤ 5200 → cell_words n l ≤ length ws → WordsBelow (cell_words n l) ws → LinkLaws (cell_model n l ws)
cell-lawful n l ws few short room words = record { few = few; short = short; allowed = λ i j. at i j (is_pair n i j) refl }
  where
    at : (i j : ℕ) (t : Bool) → is_pair n i j ≡ t → Allowed l (if t then box_of l (cell l (place n l i j) ws) else Empty)
    at i j true pair =
        let within = place-within n l i j pair in
        rw (box_is l (place n l i j) ws (omega arith)) (box-allowed (cell_words n l) l (place n l i j) ws within room words)
    at i j false none = tt

pub lawful : (s : CellLink) → LinkLaws (cell_link_model s)
lawful s = cell-lawful s.sizes.ranks s.sizes.longest s.words.now s.few s.short s.room s.fits
