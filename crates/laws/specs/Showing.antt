-- Showing a pixel of the frame. Assumes nothing.
use Rattle.std.specs.Prelude.{ℕ, zero, suc, Bool, if◌then◌else◌, not, List, [], ◌∷◌, nat_le}
use Rattle.tile.specs.declared.fault.Ground.{Ground}
use Rattle.tile.specs.declared.fault.Ground.TheVariants.{Outside, TooShort, Unsuited, Unfinished}
use Rattle.tile.specs.Faults.{no_rank}
use Rattle.tile.specs.Kinds.{Kind}
use Rattle.plan.specs.Model.{PlanModel}
use Rattle.plan.specs.Runs.{has}
use Rattle.laws.specs.Answers.{Answer, Shown, judged}
use Rattle.laws.specs.Machine.{Machine, Planes, any_below, other_plan, short}
use Rattle.laws.specs.Records.{finished}

module _ {X : Type 0} where
  abbrev pub show_grounds : PlanModel → Planes → Machine X → ℕ → List (Ground × Bool)
  show_grounds p b S x =
      (Outside, nat_le S.pixels x) ∷
      (TooShort, short b S.ranks S.pixels) ∷
      (Unsuited, other_plan p S.ranks S.pixels) ∷
      (Unfinished, any_below (λ r. not (finished p (S.entry r))) S.ranks) ∷
      []

module _ {X R : Type 0} (K : Kind X R) where
  -- pixel x as the rank below n holds it whose last span has it
  abbrev pub frame_pixel : PlanModel → Machine X → ℕ → ℕ → X
  frame_pixel p S x zero = K.blank
  frame_pixel p S x (suc r) = if has (p.span p.rounds r) x then S.held r x else frame_pixel p S x r

  abbrev pub show_answer : PlanModel → Planes → Machine X → ℕ → Answer X
  show_answer p b S x = judged no_rank (show_grounds p b S x) (Shown (frame_pixel p S x S.ranks))
