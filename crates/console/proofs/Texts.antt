-- Digits read one by one. Assumes nothing.
use Rattle.std.proofs.Common.{◌≡◌, ℕ, zero, suc, ◌+◌, ◌*◌, ◌%◌, ◌<◌, Bool, true, false, if◌then◌else◌, ◌||◌, List, [], ◌∷◌, ◌++◌, length, get_or, drop, is_some, Some, None, Option, sym, refl, ap, ◌∙◌, append_assoc, arith}
use Rattle.std.proofs.lemmas.List.{drop_more}
use Rattle.std.proofs.lemmas.Bool.{cond-true, cond-false}
use Rattle.std.proofs.lemmas.Bool.Decides.{nat_tests}
use Rattle.console.specs.Hex.{digit, digits_in, paired, readable}
use Rattle.request.specs.Numbers.{put_front}
use Rattle.request.specs.Words.{is_space}
use Rattle.request.proofs.Decimals.{prepend}

-- one value more was read
pub prepend-more : (xs : List ℕ) (x : ℕ) (o : Option (List ℕ)) → prepend xs (put_front (Some x) o) ≡ prepend (xs ++ x ∷ []) o
prepend-more xs x None = refl
prepend-more xs x (Some ys) = ap Some (sym (append_assoc xs (x ∷ []) ys))

module _ (text : List ℕ) (i : ℕ) (below : i < length text) where
  here : digits_in (drop i text) ≡ (if is_space (get_or text i 0) then digits_in (drop (i + 1) text) else put_front (digit (get_or text i 0)) (digits_in (drop (i + 1) text)))
  here = ap digits_in (drop_more text i 0 below)

  pub space_more : (xs : List ℕ) → is_space (get_or text i 0) ≡ true → digits_in text ≡ prepend xs (digits_in (drop i text)) → digits_in text ≡ prepend xs (digits_in (drop (i + 1) text))
  space_more xs e inv = inv ∙ ap (prepend xs) (here ∙ cond-true _ _ _ e)

  pub digit-more : (xs : List ℕ) (d : ℕ) → is_space (get_or text i 0) ≡ false → digit (get_or text i 0) ≡ Some d → digits_in text ≡ prepend xs (digits_in (drop i text)) → digits_in text ≡ prepend (xs ++ d ∷ []) (digits_in (drop (i + 1) text))
  digit-more xs d e is inv = inv ∙ ap (prepend xs) (here ∙ cond-false _ _ _ e ∙ ap (λ o. put_front o (digits_in (drop (i + 1) text))) is) ∙ prepend-more xs d (digits_in (drop (i + 1) text))

pub small-more : (xs : List ℕ) (d : ℕ) → ((k : ℕ) → get_or xs k 0 < 16) → d < 16 → (k : ℕ) → get_or (xs ++ d ∷ []) k 0 < 16
small-more [] d h s zero = s
small-more [] d h s (suc k) = omega arith
small-more (x ∷ xs) d h s zero = h 0
small-more (x ∷ xs) d h s (suc k) = small-more xs d (λ j. h (suc j)) s k

pub digit-small : (c d : ℕ) → digit c ≡ Some d → d < 16
digit-small c d e = grind (arith, nat_tests)

pub space_readable : (c : ℕ) → is_space c ≡ true → readable c ≡ true
space_readable c e = ap (λ b. b || is_some (digit c)) e

pub digit-readable : (c d : ℕ) → digit c ≡ Some d → readable c ≡ true
digit-readable c d e = or_right (is_space c) (is_some (digit c)) (ap is_some e)
  where
    or_right : (a b : Bool) → b ≡ true → (a || b) ≡ true
    or_right true b h = refl
    or_right false b h = h

pub odd_digits : (ds : List ℕ) → (length ds % 2 ≡ 0 → ⊥) → paired ds ≡ None
odd_digits [] h = absurd (h refl)
odd_digits (a ∷ []) h = refl
odd_digits (a ∷ b ∷ ds) h = ap (put_front (Some (a * 16 + b))) (odd_digits ds (λ e. h (omega arith)))

-- one pair more
pub pair_more : (ds xs pair left rest ys : List ℕ) → length pair ≡ 2 → left ≡ pair ++ rest → paired ds ≡ prepend xs (paired left) → ys ≡ xs ++ (get_or pair 0 0 * 16 + get_or pair 1 0) ∷ [] → paired ds ≡ prepend ys (paired rest)
pair_more ds xs (a ∷ b ∷ []) left rest ys two at inv push =
    inv ∙ ap (λ l. prepend xs (paired l)) at ∙ prepend-more xs (a * 16 + b) (paired rest) ∙ ap (λ l. prepend l (paired rest)) (sym push)
pair_more ds xs pair left rest ys two at inv push = absurd (omega arith)
