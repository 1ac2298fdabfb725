use Rattle.std.proofs.Common.{◌≡◌, length}
use Rattle.dump.specs.Phases.{Before, phase}
use Rattle.dump.specs.Order.{Sound}
use Rattle.dump.specs.Pixels.{ahead}
use Rattle.dump.proofs.check.check.Given as goal

abbrev pub invariant-records : goal.invariant-records
invariant-records l = record { same : l.walk.reader.bytes.now ≡ l.bytes; sound : Sound Before l.bytes (phase l.walk.stage) (ahead l.walk) }

abbrev pub decreases-records : goal.decreases-records
decreases-records l = length (ahead l.walk)
