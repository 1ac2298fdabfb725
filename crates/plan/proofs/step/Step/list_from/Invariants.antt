use Rattle.std.proofs.Common.{◌-◌, suc}
use Rattle.plan.specs.Order.{up_to, to_place, Adds}
use Rattle.plan.proofs.step.Step.list_from.Given as goal

abbrev pub invariant-loop-receiver : goal.invariant-loop-receiver
invariant-loop-receiver g l =
    let m = g.P.Plan.model l.self.plan.now in
    let first = (m.group (suc l.self.round) l.sender).start in
    Adds (up_to (to_place m l.self.round l.sender) (l.receiver - first)) l.initial.listing l.listing
