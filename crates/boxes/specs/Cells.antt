-- How the cell link lays its boxes out in words. Assumes nothing.
use Rattle.std.specs.Prelude.{ℕ, ◌+◌, ◌*◌, if◌then◌else◌, List, [], ◌∷◌, take, drop, ◌==◌, nat_le}
use Rattle.link.specs.Model.{LinkModel, BoxState, Empty, Holds, Spoilt, is_pair}

-- the words of all boxes
abbrev pub cell_words : ℕ → ℕ → ℕ
cell_words ranks longest = ranks * ranks * (longest + 1)

-- where the box of a pair starts
abbrev pub place : ℕ → ℕ → ℕ → ℕ → ℕ
place ranks longest from to = (from * ranks + to) * (longest + 1)

-- the words of the box that starts at `at`
abbrev pub cell : ℕ → ℕ → List ℕ → List ℕ
cell longest at ws = take (longest + 1) (drop at ws)

-- a box, from its words: the length, 0 where it is empty, and then the message
abbrev pub box_of : ℕ → List ℕ → BoxState
box_of longest [] = Empty
box_of longest (count ∷ ws) = if count == 0 then Empty else (if nat_le count longest then Holds (take count ws) else Spoilt)

-- the link of these sizes over these words
abbrev pub cell_model : ℕ → ℕ → List ℕ → LinkModel
cell_model ranks longest ws = record {
  ranks = ranks;
  longest = longest;
  boxes = λ i j. if is_pair ranks i j then box_of longest (cell longest (place ranks longest i j) ws) else Empty;
}
