-- Rows of pixels. Assumes nothing.
use Rattle.std.specs.Prelude.{◌≡◌, ℕ, zero, suc, Bool, true, false, List, [], ◌∷◌, map, length, take, drop, Some, None, Ok, Err, Option, Result, ◌≢◌}
use Rattle.std.specs.List.{flat_map}
use lib.Lanes.{zip2}
use Rattle.tile.specs.declared.fault.Fault.{Fault}
use Rattle.tile.specs.declared.fault.Ground.TheVariants.{TooShort, BadMessage}
use Rattle.tile.specs.Faults.{unranked}
use Rattle.tile.specs.Kinds.{Kind}

-- the pixels that the records of a row stand for
abbrev pub picture : {P R : Type 0} → Kind P R → List R → List P
picture m rs = map m.meaning rs

-- each pixel of the row is joined with that of the row behind; or the rows are not equally long
abbrev pub JoinedRows : {P R : Type 0} → Kind P R → List R → List R → List R → Result (Unit {0}) Fault → Type 0
JoinedRows m front back after (Ok _) = (length front ≡ length back) × (picture m after ≡ zip2 m.join (picture m front) (picture m back))
JoinedRows m front back after (Err f) = (length front ≢ length back) × (after ≡ front) × (f ≡ unranked TooShort)

-- the words of a row's pixels, one after another
abbrev pub row_words : {P R : Type 0} → Kind P R → List R → List ℕ
row_words m rs = flat_map m.words (picture m rs)

abbrev pub put_front : {P : Type 0} → Option P → Option (List P) → Option (List P)
put_front None o = None
put_front (Some p) None = None
put_front (Some p) (Some ps) = Some (p ∷ ps)

-- the n pixels that have these words, if there are such
abbrev pub row_of_words : {P R : Type 0} → Kind P R → ℕ → List ℕ → Option (List P)
row_of_words m zero [] = Some []
row_of_words m zero (w ∷ ws) = None
row_of_words m (suc n) ws = put_front (m.reads (take m.width ws)) (row_of_words m n (drop m.width ws))

-- these are the words of some pixels, one after another; or of none
abbrev pub AreRow : {P R : Type 0} → Kind P R → List ℕ → Bool → Type 0
AreRow {P} m ws true = (ps : List P) × (flat_map m.words ps ≡ ws)
AreRow {P} m ws false = (ps : List P) → flat_map m.words ps ≢ ws

-- the pixels are joined behind the row; or there are none, and the row is as it was
abbrev pub JoinedBehind : {P R : Type 0} → Kind P R → List R → Option (List P) → List R → Result (Unit {0}) Fault → Type 0
JoinedBehind m front (Some ps) after r = (r ≡ Ok tt) × (picture m after ≡ zip2 m.join (picture m front) ps)
JoinedBehind m front None after r = (r ≡ Err (unranked BadMessage)) × (after ≡ front)
