-- Decimal numbers read digit by digit. Assumes nothing.
use Rattle.std.proofs.Common.{◌≡◌, ℕ, ◌+◌, ◌-◌, ◌*◌, ◌^◌, ◌<◌, ◌≤◌, Bool, true, false, if◌then◌else◌, ◌&&◌, List, [], ◌∷◌, ◌++◌, length, get_or, drop, Some, None, Option, refl, ap, ◌∙◌, arith}
use Rattle.std.proofs.lemmas.List.{drop_more}
use Rattle.std.proofs.lemmas.Bool.{cond-false, le-ltb}
use Rattle.request.specs.Numbers.{all_digits, in_range, is_digit, number_on, value_on}

-- more digits make no smaller number
value_grows : (acc : ℕ) (cs : List ℕ) → acc ≤ value_on acc cs
value_grows acc [] = omega arith
value_grows acc (c ∷ cs) = let more = value_grows (acc * 10 + (c - 48)) cs in omega arith

-- digits behind a number that is too large write none
pub too_large : (acc : ℕ) (cs : List ℕ) → 2 ^ 32 ≤ acc → number_on acc cs ≡ None
too_large acc cs h = by (all_digits cs)
  where
    out : in_range (value_on acc cs) ≡ None
    out = cond-false _ _ _ (le-ltb (value_on acc cs) (2 ^ 32) (omega (arith, value_grows acc cs)))

    by : (b : Bool) → (if b then in_range (value_on acc cs) else None) ≡ None
    by true = out
    by false = refl

-- the next byte of a word
module _ (w : List ℕ) (acc i : ℕ) (below : i < length w) where
  pub digit-more : is_digit (get_or w i 0) ≡ true → number_on acc (drop i w) ≡ number_on (acc * 10 + (get_or w i 0 - 48)) (drop (i + 1) w)
  digit-more e =
      let cs = drop (i + 1) w in
      let n = value_on (acc * 10 + (get_or w i 0 - 48)) cs in
      ap (number_on acc) (drop_more w i 0 below) ∙ ap (λ b. if b && all_digits cs then in_range n else None) e

-- what was read, before what is still to be read
abbrev pub prepend : List ℕ → Option (List ℕ) → Option (List ℕ)
prepend xs None = None
prepend xs (Some ys) = Some (xs ++ ys)
