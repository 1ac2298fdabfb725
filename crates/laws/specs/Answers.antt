-- What a call on a merge answers. Assumes nothing.
use Rattle.std.specs.Prelude.{ℕ, Bool, List, Some, None, Option}
use Rattle.tile.specs.declared.fault.Fault.{Fault}
use Rattle.tile.specs.declared.fault.Fault.TheVariants.{Call}
use Rattle.tile.specs.declared.fault.Ground.{Ground}
use Rattle.tile.specs.Answers.{first}

-- accepted, accepted with a pixel shown, or refused with a fault
pub data Answer (X : Type 0) : Type 0 where
  Accepted : Answer X
  Shown : X → Answer X
  Refused : Fault → Answer X

module _ {X : Type 0} where
  -- refused on a ground, at a rank; or else the answer
  abbrev pub unless : ℕ → Option Ground → Answer X → Answer X
  unless rank None a = a
  unless rank (Some g) a = Refused (Call g rank)

  -- refused on the first ground that is the case
  abbrev pub judged : ℕ → List (Ground × Bool) → Answer X → Answer X
  judged rank tests a = unless rank (first tests) a
