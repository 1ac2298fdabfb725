use Rattle.std.specs.Io.KnownBytes.{Appends}
use Rattle.commands.specs.Plans.{below, round_lines}
use Rattle.commands.proofs.plans.write_lines.Given as goal

abbrev pub invariant-loop-round : goal.invariant-loop-round
invariant-loop-round g l = Appends (g.W.Write.contents l.initial.output) (g.W.Write.contents l.output) (below l.round (round_lines (g.P.Plan.model l.fn.plan)))
