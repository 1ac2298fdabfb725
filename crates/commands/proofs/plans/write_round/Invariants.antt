use Rattle.std.specs.Io.KnownBytes.{Appends}
use Rattle.commands.specs.Plans.{below, ranked}
use Rattle.commands.proofs.plans.write_round.Given as goal

abbrev pub invariant-loop-rank : goal.invariant-loop-rank
invariant-loop-rank g l = Appends (g.W.Write.contents l.initial.output) (g.W.Write.contents l.output) (below l.rank (ranked (g.P.Plan.model l.fn.plan) l.fn.round))
