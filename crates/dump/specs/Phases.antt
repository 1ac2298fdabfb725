-- How far a dump has been read, in numbers. Assumes nothing.
use Rattle.std.specs.Prelude.{ℕ}
use Rattle.tile.specs.NamedKinds.{kind_number}
use Rattle.dump.specs.declared.stage.Head.{Head}
use Rattle.dump.specs.declared.stage.Progress.{Progress}
use Rattle.dump.specs.declared.stage.Stage.{Stage}
use Rattle.dump.specs.declared.stage.Stage.TheVariants.{Start, Within, Ended}

-- what HEAD's bytes tell: ranks, pixels of each, and the number of a kind, which may have no name
pub record Heading : Type 0 where
  pub ranks : ℕ
  pub pixels : ℕ
  pub kind : ℕ

-- within the sections: how many have begun, and the number of the pixel due next
pub record Advance : Type 0 where
  pub head : Heading
  pub sections : ℕ
  pub due : ℕ

-- before HEAD, between HEAD and END, or behind END
pub data Phase : Type 0 where
  Before : Phase
  Between : Advance → Phase
  Behind : Heading → Phase

-- the numbers of a head whose kind has a name
abbrev pub heading : Head → Heading
heading h = record { ranks = h.ranks; pixels = h.pixels; kind = kind_number h.kind }

abbrev pub advance : Progress → Advance
advance p = record { head = heading p.head; sections = p.sections; due = p.due }

abbrev pub phase : Stage → Phase
phase Start = Before
phase (Within p) = Between (advance p)
phase (Ended h) = Behind (heading h)
