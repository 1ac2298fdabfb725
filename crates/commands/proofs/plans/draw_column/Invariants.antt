use Rattle.std.specs.Io.KnownBytes.{Appends}
use Rattle.commands.specs.Plans.{below, framed}
use Rattle.commands.proofs.plans.draw_column.Given as goal

abbrev pub invariant-loop-rank : goal.invariant-loop-rank
invariant-loop-rank g l = Appends (g.W.Write.contents l.initial.output) (g.W.Write.contents l.output) (below l.rank (framed (g.P.Plan.model l.fn.plan) l.fn.round))
