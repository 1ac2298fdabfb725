-- The factors of a radix plan. Assumes nothing.
use Rattle.std.specs.Prelude.{◌≡◌, ℕ, zero, suc, ◌*◌, ◌<◌, ◌≤◌, List, [], ◌∷◌, length, slice_index_or}

-- all factors multiplied
abbrev pub product : List ℕ → ℕ
product [] = 1
product (k ∷ ks) = k * product ks

-- factor t, and 1 past the last
abbrev pub factor : List ℕ → ℕ → ℕ
factor ks t = slice_index_or ks t 1

-- each factor is 2 to 32
abbrev pub Each : List ℕ → Type 0
Each ks = (t : ℕ) → t < length ks → (2 ≤ factor ks t) × (factor ks t ≤ 32)

-- factors for R ranks: at most five, with product R
abbrev pub Suits : ℕ → List ℕ → Type 0
Suits R ks = (length ks ≤ 5) × Each ks × (product ks ≡ R)

-- how many ranks a group has in round t: the product of the first t factors
abbrev pub width : (ℕ → ℕ) → ℕ → ℕ
width k zero = 1
width k (suc t) = width k t * k t
