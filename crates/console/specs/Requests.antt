-- What the words behind the program's name ask for. Assumes nothing.
use Rattle.std.specs.Prelude.{◌≡◌, ℕ, ◌⊎◌, List, [], ◌∷◌, map, codes}
use Rattle.console.specs.declared.command_line.Request.{Request}
use Rattle.console.specs.declared.command_line.Request.TheVariants.{Help, InspectLines, InspectFile, Plan, Link, Unknown}

-- no word, or `help` alone
abbrev pub AsksHelp : List (List ℕ) → Type 0
AsksHelp words = (words ≡ []) ⊎ (words ≡ codes "help" ∷ [])

-- `inspect` alone
abbrev pub AsksInspectLines : List (List ℕ) → Type 0
AsksInspectLines words = words ≡ codes "inspect" ∷ []

-- `inspect` and the path behind it
abbrev pub AsksInspectFile : List (List ℕ) → List ℕ → Type 0
AsksInspectFile words path = words ≡ codes "inspect" ∷ path ∷ []

-- `plan`, whatever stands behind it
abbrev pub AsksPlan : List (List ℕ) → List (List ℕ) → Type 0
AsksPlan words asked = words ≡ codes "plan" ∷ asked

-- `link` alone
abbrev pub AsksLink : List (List ℕ) → Type 0
AsksLink words = words ≡ codes "link" ∷ []

-- none of the requests
abbrev pub AsksNothing : List (List ℕ) → Type 0
AsksNothing words =
    (AsksHelp words → ⊥)
    × (AsksInspectLines words → ⊥)
    × ((path : List ℕ) → AsksInspectFile words path → ⊥)
    × ((asked : List (List ℕ)) → AsksPlan words asked → ⊥)
    × (AsksLink words → ⊥)

-- the request that the words make, where each word has a text
module _ {W : Type 0} (text : W → List ℕ) where
  abbrev pub Asked : List (List ℕ) → Request W → Type 0
  Asked words Help = AsksHelp words
  Asked words InspectLines = AsksInspectLines words
  Asked words (InspectFile path) = AsksInspectFile words path.now
  Asked words (Plan asked) = AsksPlan words (map text asked.now)
  Asked words Link = AsksLink words
  Asked words (Unknown word) = ((rest : List (List ℕ)) × (words ≡ word.now ∷ rest)) × AsksNothing words
