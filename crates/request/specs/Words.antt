-- The words of a text: the longest runs of bytes that are no white space. Assumes nothing.
use Rattle.std.specs.Prelude.{◌≡◌, ℕ, ◌<◌, Bool, true, if◌then◌else◌, not, ◌||◌, List, [], ◌∷◌, length, Some, None, Option, ◌==◌}
use Rattle.std.specs.Borrow.{Bor}
use Rattle.request.specs.declared.words.Cut.{Cut}

-- space, tab, line feed, carriage return
abbrev pub is_space : ℕ → Bool
is_space c = c == 32 || c == 9 || c == 10 || c == 13

-- a byte that belongs to a word
abbrev pub is_letter : ℕ → Bool
is_letter c = not (is_space c)

-- no word goes on here: the text ends, or white space stands first
abbrev pub at_gap : List ℕ → Bool
at_gap [] = true
at_gap (d ∷ ds) = is_space d

-- a byte put before the first word
abbrev pub onto : ℕ → List (List ℕ) → List (List ℕ)
onto c [] = (c ∷ []) ∷ []
onto c (w ∷ ws) = (c ∷ w) ∷ ws

-- the words of a text, in order
abbrev pub words_in : List ℕ → List (List ℕ)
words_in [] = []
words_in (c ∷ cs) = if is_space c then words_in cs else (if at_gap cs then (c ∷ []) ∷ words_in cs else onto c (words_in cs))

-- no word, or the first word with the shorter text behind it that has the other words
abbrev pub FirstWord : List ℕ → Option (Cut (Bor (List ℕ))) → Type 0
FirstWord text None = words_in text ≡ []
FirstWord text (Some cut) = (words_in text ≡ cut.front.now ∷ words_in cut.rest.now) × (length cut.rest.now < length text)
