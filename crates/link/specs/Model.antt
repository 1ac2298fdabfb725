-- What a link holds: its ranks, its longest message, and a box for each ordered pair of ranks. Assumes nothing.
use Rattle.std.specs.Prelude.{ℕ, ◌≤◌, Bool, true, false, if◌then◌else◌, not, ◌&&◌, List, [], length, ◌==◌, nat_lt}
use Rattle.tile.specs.Words.{AreWords}

-- what a box may be
pub data BoxState : Type 0 where
  Empty : BoxState
  Holds : List ℕ → BoxState
  Spoilt : BoxState

-- the ranks, the words of the longest message, and the box from a sender to a receiver
pub record LinkModel : Type 0 where
  pub ranks : ℕ
  pub longest : ℕ
  pub boxes : ℕ → ℕ → BoxState

abbrev pub is_empty : BoxState → Bool
is_empty Empty = true
is_empty (Holds ws) = false
is_empty Spoilt = false

abbrev pub is_spoilt : BoxState → Bool
is_spoilt Empty = false
is_spoilt (Holds ws) = false
is_spoilt Spoilt = true

-- the words of the message in a box, none where there is no message
abbrev pub message : BoxState → List ℕ
message Empty = []
message (Holds ws) = ws
message Spoilt = []

-- a message has 1 to `longest` words
abbrev pub Allowed : ℕ → BoxState → Type 0
Allowed longest Empty = Unit {0}
Allowed longest (Holds ws) = (1 ≤ length ws) × (length ws ≤ longest) × AreWords ws
Allowed longest Spoilt = Unit {0}

-- what every link keeps
pub record LinkLaws (m : LinkModel) : Type 0 where
  pub few : m.ranks ≤ 32
  pub short : m.longest ≤ 5200
  pub allowed : (from to : ℕ) → Allowed m.longest (m.boxes from to)

-- two different ranks below `ranks`
abbrev pub is_pair : ℕ → ℕ → ℕ → Bool
is_pair ranks from to = (nat_lt from ranks && nat_lt to ranks) && not (from == to)

-- the boxes with that of one pair changed
abbrev pub changed : (ℕ → ℕ → BoxState) → ℕ → ℕ → BoxState → ℕ → ℕ → BoxState
changed boxes from to b i j = if i == from && j == to then b else boxes i j

-- the link with the box of one pair changed
abbrev pub put : LinkModel → ℕ → ℕ → BoxState → LinkModel
put m from to b = record { ranks = m.ranks; longest = m.longest; boxes = changed m.boxes from to b }

-- a link with every box empty
abbrev pub vacant : ℕ → ℕ → LinkModel
vacant ranks longest = record { ranks = ranks; longest = longest; boxes = λ i j. Empty }
