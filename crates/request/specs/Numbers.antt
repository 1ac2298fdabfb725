-- The numbers that words write in decimal. Assumes nothing.
use Rattle.std.specs.Prelude.{ℕ, ◌+◌, ◌-◌, ◌*◌, ◌^◌, Bool, true, if◌then◌else◌, ◌&&◌, List, [], ◌∷◌, Some, None, Option, nat_le, nat_lt}

-- a digit, 0 to 9
abbrev pub is_digit : ℕ → Bool
is_digit c = nat_le 48 c && nat_le c 57

-- digits and nothing else
abbrev pub all_digits : List ℕ → Bool
all_digits [] = true
all_digits (c ∷ cs) = is_digit c && all_digits cs

-- the value of digits that stand behind digits of the value acc
abbrev pub value_on : ℕ → List ℕ → ℕ
value_on acc [] = acc
value_on acc (c ∷ cs) = value_on (acc * 10 + (c - 48)) cs

-- the number if it is below 2 ^ 32
abbrev pub in_range : ℕ → Option ℕ
in_range n = if nat_lt n (2 ^ 32) then Some n else None

-- the number that digits write behind digits of the value acc
abbrev pub number_on : ℕ → List ℕ → Option ℕ
number_on acc cs = if all_digits cs then in_range (value_on acc cs) else None

-- the number that a word writes: one digit or more, nothing else, and below 2 ^ 32
abbrev pub number : List ℕ → Option ℕ
number [] = None
number (c ∷ cs) = number_on 0 (c ∷ cs)

-- a number before others, none if one of the two is missing
abbrev pub put_front : Option ℕ → Option (List ℕ) → Option (List ℕ)
put_front None o = None
put_front (Some x) None = None
put_front (Some x) (Some xs) = Some (x ∷ xs)

-- all the words as numbers, none if one is not
abbrev pub numbers : List (List ℕ) → Option (List ℕ)
numbers [] = Some []
numbers (w ∷ ws) = put_front (number w) (numbers ws)
