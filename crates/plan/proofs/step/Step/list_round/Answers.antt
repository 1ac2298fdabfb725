use Rattle.std.proofs.Common.{arith}
use Rattle.plan.specs.Order.{from}
use Rattle.plan.proofs.Putting.{adds_turn, up_to-short, from-short}
use Rattle.plan.proofs.step.Step.list_round.Goals as goal

pub list_from-requires : goal.list_from-requires
list_from-requires g c =
    let m = g.P.Plan.model c.args.self.now.plan.now in
    let t = c.args.self.now.round in
    let end = c.ranks-sender-end.ensures in
    let few = up_to-short (from m t) 32 c.loop-sender.sender (λ j h. from-short m t c.args.self.now.early j (omega arith)) in
    let next = c.loop-sender.invariant.put.next in
    let lim = m.rank_limit in
    omega arith

pub loop-sender-preserved : goal.loop-sender-preserved
loop-sender-preserved g c =
    let m = g.P.Plan.model c.args.self.now.plan.now in
    adds_turn (from m c.args.self.now.round) c.loop-sender.sender c.args.listing.now c.loop-sender.listing c.list_from.new.listing c.loop-sender.invariant c.in_ok-list_from.ensures
