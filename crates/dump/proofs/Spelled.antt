-- Words and the bytes that spell them. Assumes nothing.
use Rattle.std.proofs.Common.{◌≡◌, ℕ, zero, suc, ◌+◌, ◌*◌, ◌/◌, ◌<◌, List, [], ◌∷◌, length, drop, slice_get, get_or, refl, arith}
use Rattle.tile.specs.Words.{AreWords}
use Rattle.dump.specs.Bytes.{words_in}

pub length_words_in : (b : List ℕ) → length (words_in b) ≡ length b / 4
length_words_in [] = refl
length_words_in (x ∷ []) = refl
length_words_in (x ∷ y ∷ []) = refl
length_words_in (x ∷ y ∷ z ∷ []) = refl
length_words_in (x ∷ y ∷ z ∷ w ∷ b) = let more = length_words_in b in omega arith

-- what bytes spell are words
pub words_fit : (b : List ℕ) → ((i : ℕ) → get_or b i 0 < 256) → AreWords (words_in b)
words_fit [] h k = omega arith
words_fit (x ∷ []) h k = omega arith
words_fit (x ∷ y ∷ []) h k = omega arith
words_fit (x ∷ y ∷ z ∷ []) h k = omega arith
words_fit (x ∷ y ∷ z ∷ w ∷ b) h zero = omega (arith, h 0, h 1, h 2, h 3)
words_fit (x ∷ y ∷ z ∷ w ∷ b) h (suc k) = words_fit b (λ i. h (suc (suc (suc (suc i))))) k

-- no word leads what is left of no bytes
none_leads : (n : ℕ) → slice_get (words_in []) 0 ≡ slice_get (words_in (drop n [])) 0
none_leads zero = refl
none_leads (suc n) = refl

-- the word with the index i leads the bytes behind i words
pub word_leads : (b : List ℕ) (i : ℕ) → slice_get (words_in b) i ≡ slice_get (words_in (drop (4 * i) b)) 0
word_leads b zero = refl
word_leads [] (suc i) = none_leads (4 * suc i)
word_leads (x ∷ []) (suc i) = let e : 4 * suc i ≡ suc (3 + 4 * i) = omega arith in rw e (none_leads (3 + 4 * i))
word_leads (x ∷ y ∷ []) (suc i) = let e : 4 * suc i ≡ suc (suc (2 + 4 * i)) = omega arith in rw e (none_leads (2 + 4 * i))
word_leads (x ∷ y ∷ z ∷ []) (suc i) = let e : 4 * suc i ≡ suc (suc (suc (1 + 4 * i))) = omega arith in rw e (none_leads (1 + 4 * i))
word_leads (x ∷ y ∷ z ∷ w ∷ b) (suc i) = let e : 4 * suc i ≡ suc (suc (suc (suc (4 * i)))) = omega arith in rw e (word_leads b i)
