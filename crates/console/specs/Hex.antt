-- Bytes written as pairs of hexadecimal digits. Assumes nothing.
use Rattle.std.specs.Prelude.{◌≡◌, ℕ, ◌+◌, ◌-◌, ◌*◌, ◌<◌, Bool, true, false, if◌then◌else◌, ◌&&◌, ◌||◌, List, [], ◌∷◌, ◌++◌, length, is_some, Some, None, codes, decimal, Option, nat_le, slice_index}
use Rattle.request.specs.Numbers.{put_front}
use Rattle.request.specs.Words.{is_space}
use Rattle.console.specs.declared.hex.HexFault.{HexFault}
use Rattle.console.specs.declared.hex.HexFault.TheVariants.{NoDigit, OddDigit, Memory}

-- the value of a digit, 0 to 9, A to F or a to f
abbrev pub digit : ℕ → Option ℕ
digit c =
    if nat_le 48 c && nat_le c 57 then Some (c - 48)
    else (if nat_le 65 c && nat_le c 70 then Some (c - 65 + 10)
    else (if nat_le 97 c && nat_le c 102 then Some (c - 97 + 10) else None))

-- the values of the digits of a text, white space left out; none where another character stands
abbrev pub digits_in : List ℕ → Option (List ℕ)
digits_in [] = Some []
digits_in (c ∷ cs) = if is_space c then digits_in cs else put_front (digit c) (digits_in cs)

-- two digits make a byte, the high one first
abbrev pub paired : List ℕ → Option (List ℕ)
paired [] = Some []
paired (a ∷ []) = None
paired (a ∷ b ∷ ds) = put_front (Some (a * 16 + b)) (paired ds)

abbrev pub paired_of : Option (List ℕ) → Option (List ℕ)
paired_of None = None
paired_of (Some ds) = paired ds

-- the bytes that a text spells, if it spells some
abbrev pub hex_bytes : List ℕ → Option (List ℕ)
hex_bytes text = paired_of (digits_in text)

-- the digits' values, each below 16
pub record Digits (text values : List ℕ) : Type 0 where
  pub are : digits_in text ≡ Some values
  pub small : (k : ℕ) → slice_index values k < 16

-- a digit or white space
abbrev pub readable : ℕ → Bool
readable c = is_space c || is_some (digit c)

-- an odd number of digits, or want of memory
abbrev pub Unpaired : List ℕ → HexFault → Type 0
Unpaired values (NoDigit at) = ⊥
Unpaired values OddDigit = paired values ≡ None
Unpaired values Memory = Unit {0}

-- the first character that is neither a digit nor white space; or an odd number of digits; or want of memory
abbrev pub Unread : List ℕ → HexFault → Type 0
Unread text (NoDigit at) = (at < length text) × (readable (slice_index text at) ≡ false) × ((k : ℕ) → k < at → readable (slice_index text k) ≡ true)
Unread text OddDigit = (values : List ℕ) × (digits_in text ≡ Some values) × (paired values ≡ None)
Unread text Memory = Unit {0}

-- what is told of a text that is not read
abbrev pub bad_hex_text : HexFault → List ℕ
bad_hex_text (NoDigit at) = codes "bad hex: no digit at index " ++ decimal at
bad_hex_text OddDigit = codes "bad hex: odd number of digits"
bad_hex_text Memory = []

-- a fault as text
abbrev pub hex_fault_text : HexFault → List ℕ
hex_fault_text (NoDigit at) = bad_hex_text (NoDigit at)
hex_fault_text OddDigit = bad_hex_text OddDigit
hex_fault_text Memory = codes "no memory for the bytes"
