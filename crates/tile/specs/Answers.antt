-- Refusals in their order: the first ground that is the case, and what a call then answers. Assumes nothing.
use Rattle.std.specs.Prelude.{Bool, if◌then◌else◌, List, [], ◌∷◌, Some, None, Ok, Err, Option, Result}

-- the first of the grounds that is the case
abbrev pub first : {G : Type 0} → List (G × Bool) → Option G
first [] = None
first (t ∷ ts) = if t.1 then Some t.0 else first ts

-- refused on a ground, or accepted with an answer
abbrev pub answered : {A G : Type 0} → Option G → A → Result A G
answered None a = Ok a
answered (Some g) a = Err g

-- what is left: the new where a call is accepted, else the old
abbrev pub kept : {A G : Type 0} → Option G → A → A → A
kept None new old = new
kept (Some g) new old = old
