use Rattle.std.proofs.Common.{length, sym, ap, ◌∙◌, arith}
use Rattle.dump.proofs.Held.{shrinks, stepped, stopped}
use Rattle.dump.proofs.pixels.PixelsIterator.next.Goals as goal

pub returns-in-Some-clause-steps : goal.returns-in-Some-clause-steps
returns-in-Some-clause-steps c =
    let t = rw c.in-Some.is at c.in-Ok.ensures in
    (sym c.loop-placed.invariant ∙ stepped t, t.short)

pub returns-in-Some-clause-goes : goal.returns-in-Some-clause-goes
returns-in-Some-clause-goes c =
    let t = rw c.in-Some.is at c.in-Ok.ensures in
    let long = ap length (sym c.loop-placed.invariant ∙ stepped t) in
    record { on = λ f. (tt, tt, omega arith); keeps = tt; rests = λ f. tt }

pub loop-placed-smaller : goal.loop-placed-smaller
loop-placed-smaller c = let t = c.in-Ok.ensures in rw t.rest (shrinks _ _ t.sound)

pub loop-placed-preserved : goal.loop-placed-preserved
loop-placed-preserved c = let t = rw c.in_default-placed.is at c.in-Ok.ensures in sym (stepped t) ∙ c.loop-placed.invariant

pub returns-clause-steps : goal.returns-clause-steps
returns-clause-steps c =
    let refused = c.in_default.ensures in
    let none = stopped _ _ _ refused.0 in
    (sym c.loop-placed.invariant ∙ none, rw refused.1 none)
