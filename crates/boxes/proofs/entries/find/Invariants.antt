use Rattle.std.proofs.Common.{◌-◌, length}
use Rattle.boxes.proofs.Lines.{Walk}
use Rattle.boxes.proofs.entries.find.Given as goal

abbrev pub invariant-loop-at : goal.invariant-loop-at
invariant-loop-at l = Walk l.line l.wanted l.at

abbrev pub decreases-loop-at : goal.decreases-loop-at
decreases-loop-at l = length l.line - l.at
