-- Lists of words. Assumes nothing.
use Rattle.std.proofs.Common.{ℕ, zero, suc, ◌^◌, ◌<◌, List, [], ◌∷◌, ◌++◌, take, drop, replicate, lit<}
use Rattle.tile.specs.Words.{AreWords}

pub cons_words : (x : ℕ) (xs : List ℕ) → x < 2 ^ 32 → AreWords xs → AreWords (x ∷ xs)
cons_words x xs p h zero = p
cons_words x xs p h (suc k) = h k

pub append_words : (xs ys : List ℕ) → AreWords xs → AreWords ys → AreWords (xs ++ ys)
append_words [] ys p q k = q k
append_words (x ∷ xs) ys p q zero = p 0
append_words (x ∷ xs) ys p q (suc k) = append_words xs ys (λ i. p (suc i)) q k

pub zero_words : (n : ℕ) → AreWords (replicate n 0)
zero_words zero k = lit< tt
zero_words (suc n) zero = lit< tt
zero_words (suc n) (suc k) = zero_words n k

pub take_words : (n : ℕ) (xs : List ℕ) → AreWords xs → AreWords (take n xs)
take_words zero xs p k = lit< tt
take_words (suc n) [] p k = lit< tt
take_words (suc n) (x ∷ xs) p zero = p 0
take_words (suc n) (x ∷ xs) p (suc k) = take_words n xs (λ i. p (suc i)) k

pub drop_words : (n : ℕ) (xs : List ℕ) → AreWords xs → AreWords (drop n xs)
drop_words zero xs p k = p k
drop_words (suc n) [] p k = lit< tt
drop_words (suc n) (x ∷ xs) p k = drop_words n xs (λ i. p (suc i)) k
