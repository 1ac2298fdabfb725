-- Words of 32 bits, and what writing some into an area leaves. Assumes nothing.
use Rattle.std.specs.Prelude.{◌≡◌, ℕ, ◌%◌, ◌^◌, ◌<◌, ◌≤◌, List, ◌++◌, length, drop, Ok, Err, Result, slice_index}
use Rattle.tile.specs.declared.fault.Fault.{Fault}
use Rattle.tile.specs.declared.fault.Ground.TheVariants.{TooShort}
use Rattle.tile.specs.Faults.{unranked}

-- the lowest 32 bits
abbrev pub low : ℕ → ℕ
low n = n % 2 ^ 32

-- each is a word
abbrev pub AreWords : List ℕ → Type 0
AreWords ws = (k : ℕ) → slice_index ws k < 2 ^ 32

-- the words stand first in the area and the rest is as it was; or the area is too short, and as it was
abbrev pub Written : List ℕ → List ℕ → List ℕ → Result (Unit {0}) Fault → Type 0
Written ws before after (Ok _) = (length ws ≤ length before) × (after ≡ ws ++ drop (length ws) before)
Written ws before after (Err f) = (length before < length ws) × (after ≡ before) × (f ≡ unranked TooShort)
