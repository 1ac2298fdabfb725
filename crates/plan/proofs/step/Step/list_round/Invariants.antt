use Rattle.plan.specs.Order.{up_to, from, Adds}
use Rattle.plan.proofs.step.Step.list_round.Given as goal

abbrev pub invariant-loop-sender : goal.invariant-loop-sender
invariant-loop-sender g l = Adds (up_to (from (g.P.Plan.model l.self.plan.now) l.self.round) l.sender) l.initial.listing l.listing
