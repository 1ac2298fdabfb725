-- The lines of a text, and what is answered to them. Assumes nothing.
use Rattle.std.specs.Prelude.{ℕ, ◌<◌, List, [], ◌++◌, length, Option, IfSome}
use Rattle.std.specs.Io.BufRead.{first_piece, drop_through}
use Rattle.std.specs.Io.KnownBytes.{Appends}

-- the text's lines, each without its line feed, are answered one after another
pub data Answered (A : List ℕ → List ℕ → Type 0) : List ℕ → List ℕ → Type 0 where
  none : Answered A [] []
  more : {text answer rest : List ℕ} → 0 < length text → A (first_piece 10 text) answer → Answered A (drop_through 10 text) rest → Answered A text (answer ++ rest)

-- where input and output are known, the answers to the input's lines are written behind what was there
abbrev pub Answers : (List ℕ → List ℕ → Type 0) → Option (List ℕ) → Option (List ℕ) → Option (List ℕ) → Type 0
Answers A input before after = IfSome input (λ text. (out : List ℕ) × Answered A text out × Appends before after out)
