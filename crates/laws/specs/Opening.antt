-- Opening a merge. Assumes nothing.
use Rattle.std.specs.Prelude.{ℕ, ◌*◌, Bool, not, ◌&&◌, List, [], ◌∷◌, ◌==◌}
use Rattle.tile.specs.declared.fault.Ground.{Ground}
use Rattle.tile.specs.declared.fault.Ground.TheVariants.{Unsuited, TooShort, BoxesInUse}
use Rattle.tile.specs.Faults.{no_rank}
use Rattle.tile.specs.Kinds.{Kind}
use Rattle.link.specs.Model.{BoxState, is_empty}
use Rattle.laws.specs.Answers.{Answer, Accepted, judged}
use Rattle.laws.specs.Machine.{Machine, Brought, any_below, short, weak_link}
use Rattle.laws.specs.Records.{initial}

-- the box from f to m, two ranks, is not empty
abbrev pub waits : (ℕ → ℕ → BoxState) → ℕ → ℕ → Bool
waits box f m = not (f == m) && not (is_empty (box f m))

-- some box between ranks below n is not empty
abbrev pub any_waits : (ℕ → ℕ → BoxState) → ℕ → Bool
any_waits box n = any_below (λ f. any_below (waits box f) n) n

module _ {X R : Type 0} (K : Kind X R) (b : Brought) where
  abbrev pub open_grounds : (ℕ → ℕ → BoxState) → List (Ground × Bool)
  open_grounds box =
      (Unsuited, weak_link b.link_ranks b.longest b.plan.ranks (b.plan.pixels * K.width)) ∷
      (TooShort, short b.planes b.plan.ranks b.plan.pixels) ∷
      (BoxesInUse, any_waits box b.plan.ranks) ∷
      []

  abbrev pub open_answer : Machine X → Answer X
  open_answer S = judged no_rank (open_grounds S.box) Accepted

  -- the machine after an accepted opening: all pixels blank, every record at its start
  abbrev pub opened : Machine X → Machine X
  opened S = record {
    ranks = b.plan.ranks;
    pixels = b.plan.pixels;
    entry = λ r. initial;
    held = λ r x. K.blank;
    gathered = λ r x. K.blank;
    box = S.box;
  }
