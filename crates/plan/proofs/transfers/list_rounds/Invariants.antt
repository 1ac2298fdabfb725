use Rattle.plan.specs.Order.{up_to, in_round, Adds}
use Rattle.plan.proofs.transfers.list_rounds.Given as goal

abbrev pub invariant-loop-round : goal.invariant-loop-round
invariant-loop-round g l = Adds (up_to (in_round (g.P.Plan.model l.plan)) l.round) l.initial.listing l.listing
