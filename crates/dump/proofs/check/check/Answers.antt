use Rattle.std.proofs.Common.{◌≡◌, ◌-◌, length, ap, ◌∙◌, arith, length-drop}
use Rattle.std.proofs.lemmas.List.{nil_from_length}
use Rattle.tile.specs.declared.fault.Fault.TheVariants.{Dump}
use Rattle.dump.specs.Phases.{phase}
use Rattle.dump.specs.Order.{none, more, rank_told}
use Rattle.dump.specs.Pixels.{ahead}
use Rattle.dump.proofs.Exact.{accepts, refuses}
use Rattle.dump.proofs.Held.{shrinks}
use Rattle.dump.proofs.check.check.Goals as goal

pub records-init : goal.records-init
records-init c = let new = c.new-walk.ensures in record { same = new.bytes; sound = rw (new.start, new.ahead) none }

pub returns-in-Some : goal.returns-in-Some
returns-in-Some c = let done = c.in-Some.ensures in accepts _ _ (rw (done.0, nil_from_length _ done.1) at c.records.invariant.sound)

pub returns-in-Err : goal.returns-in-Err
returns-in-Err c =
    let w = c.records.walk in
    let inv = c.records.invariant in
    let refused = c.in-Err.ensures in
    let within = w.reader.within in
    let whole = ap length inv.same in
    let left = length-drop w.reader.at w.reader.bytes.now in
    let place : w.reader.at ≡ length c.args.bytes.now - length (ahead w) = omega arith in
    refuses c.args.bytes.now c.fault.result (record {
      stage = phase w.stage;
      rest = ahead w;
      why = c.in-Err.cause;
      before = inv.sound;
      going_on = c.in_default.ensures;
      refused = refused.0;
      fault_is = (rw refused.1 at c.fault.ensures) ∙ ap (Dump c.in-Err.cause (rank_told (phase w.stage) c.in-Err.cause)) place;
    })

pub records-smaller : goal.records-smaller
records-smaller c = let t = c.in_default-step.ensures in rw t.rest (shrinks _ _ t.sound)

pub records-preserved : goal.records-preserved
records-preserved c =
    let t = c.in_default-step.ensures in
    record { same = t.same ∙ c.records.invariant.same; sound = rw (t.rest, t.stage) (more c.records.invariant.sound t.sound) }
