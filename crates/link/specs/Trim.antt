-- The trimmed form of a message: its word count, the count of leading zero words, and the words from the first to the
-- last that is not zero. Assumes nothing.
use Rattle.std.specs.List.{prefix_len, suffix_len}
use Rattle.std.specs.Prelude.{◌≡◌, ℕ, ◌+◌, ◌-◌, ◌≤◌, Bool, if◌then◌else◌, not, ◌&&◌, List, [], ◌∷◌, ◌++◌, length, take, drop, replicate, Some, None, Option, ◌==◌, nat_le, slice_index}
use Rattle.link.specs.Calls.{is_length, filled_with}
use Rattle.link.specs.Model.{LinkModel, BoxState, Empty, Holds, Spoilt}

-- how many words stand before the first that is not zero
abbrev pub leading : List ℕ → ℕ
leading ws = prefix_len (λ w. w == 0) ws

-- how many words stand behind the last that is not zero
abbrev pub trailing : List ℕ → ℕ
trailing ws = suffix_len (λ w. w == 0) ws

-- how many words there are up to the last that is not zero, that one included
abbrev pub ending : List ℕ → ℕ
ending ws = length ws - trailing ws

-- the words from the first to the last that is not zero
abbrev pub middle : List ℕ → List ℕ
middle ws = drop (leading ws) (take (ending ws) ws)

-- what the layer sends for a message
abbrev pub trimmed : List ℕ → List ℕ
trimmed ws = length ws ∷ leading ws ∷ middle ws

-- whether these are the parts of a trimmed message of at most `longest` words
abbrev pub has_form : ℕ → ℕ → ℕ → List ℕ → Bool
has_form longest count zeros inner =
    (is_length longest count && nat_le (zeros + length inner) count)
    && (if length inner == 0 then zeros == count else not (slice_index inner 0 == 0) && not (slice_index inner (length inner - 1) == 0))

-- the message of these parts
abbrev pub spread : ℕ → ℕ → List ℕ → List ℕ
spread count zeros inner = replicate zeros 0 ++ (inner ++ replicate (count - (zeros + length inner)) 0)

-- what a message below stands for: a message of at most `longest` words, or nothing sound
abbrev pub untrimmed : ℕ → List ℕ → BoxState
untrimmed longest [] = Spoilt
untrimmed longest (count ∷ []) = Spoilt
untrimmed longest (count ∷ zeros ∷ inner) = if has_form longest count zeros inner then Holds (spread count zeros inner) else Spoilt

-- a box of the layer, from the box below
abbrev pub trim_box : ℕ → BoxState → BoxState
trim_box longest Empty = Empty
trim_box longest (Holds ws) = untrimmed longest ws
trim_box longest Spoilt = Spoilt

-- the layer, from the link below
abbrev pub trim_model : LinkModel → LinkModel
trim_model m = record { ranks = m.ranks; longest = m.longest - 2; boxes = λ i j. trim_box (m.longest - 2) (m.boxes i j) }

-- what reading a form into an area answers and leaves there, by the box that the form stands for
abbrev pub ReadInto : BoxState → List ℕ → List ℕ → Option ℕ → Type 0
ReadInto Empty area area' r = (r ≡ None) × (area' ≡ area)
ReadInto (Holds ws) area area' r = (r ≡ Some (length ws)) × (area' ≡ filled_with ws area)
ReadInto Spoilt area area' r = (r ≡ None) × (area' ≡ area)

-- the trimmed form of a message stands for that message, and no other form does
pub record ReadsBack : Type 0 where
  pub back : (longest : ℕ) (ws : List ℕ) → 1 ≤ length ws → length ws ≤ longest → untrimmed longest (trimmed ws) ≡ Holds ws
  pub only : (longest : ℕ) (form ws : List ℕ) → untrimmed longest form ≡ Holds ws → form ≡ trimmed ws
