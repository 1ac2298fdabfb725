-- Numbers in bytes, high byte first, and the pixel that a body spells. Assumes nothing.
use Rattle.std.specs.Prelude.{ℕ, ◌+◌, ◌*◌, Bool, if◌then◌else◌, List, [], ◌∷◌, length, None, Option, ◌==◌, nat_le, slice_index}
use Rattle.std.specs.List.{list_all}
use Rattle.tile.specs.Kinds.{Kind}
use Rattle.dump.specs.declared.words.BodyWords.{BodyWords}

-- the number in the two bytes from i on
abbrev pub half : List ℕ → ℕ → ℕ
half b i = slice_index b i * 256 + slice_index b (i + 1)

-- the words that the bytes spell, four to a word
abbrev pub words_in : List ℕ → List ℕ
words_in [] = []
words_in (a ∷ []) = []
words_in (a ∷ b ∷ []) = []
words_in (a ∷ b ∷ c ∷ []) = []
words_in (a ∷ b ∷ c ∷ d ∷ bs) = (a * 16777216 + b * 65536 + c * 256 + d) ∷ words_in bs

-- only zero words
abbrev pub all_zero : List ℕ → Bool
all_zero ws = list_all (λ w. w == 0) ws

-- the words that are still to come
abbrev pub words_left : BodyWords → List ℕ
words_left s = words_in s.rest.now

-- the pixel whose words a body spells; no pixel record spells more than five
abbrev pub body_pixel : {P R : Type 0} → Kind P R → List ℕ → Option P
body_pixel m body = if nat_le (length body) 20 then m.reads (words_in body) else None
