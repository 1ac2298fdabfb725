use Rattle.std.proofs.Common.{◌≡◌, length}
use Rattle.dump.specs.Pixels.{ahead, left}
use Rattle.dump.proofs.pixels.PixelsIterator.next.Given as goal

abbrev pub invariant-loop-placed : goal.invariant-loop-placed
invariant-loop-placed l = left l.self ≡ left l.initial.self

abbrev pub decreases-loop-placed : goal.decreases-loop-placed
decreases-loop-placed l = length (ahead l.self.walk)
