use Rattle.std.proofs.Common.{refl, rules, arith}
use Rattle.plan.specs.Order.{in_round}
use Rattle.plan.proofs.Complete.{wrote}
use Rattle.plan.proofs.Putting.{adds_turn, up_to-short, round_short}
use Rattle.plan.proofs.transfers.list_rounds.Goals as goal

pub list_round-requires : goal.list_round-requires
list_round-requires g c =
    let m = g.P.Plan.model c.args.plan.now in
    let end = c.rounds-round-end.ensures in
    let few = up_to-short (in_round m) 1024 c.loop-round.round (λ j h. round_short m j (omega arith)) in
    let next = c.loop-round.invariant.put.next in
    let lim = m.round_limit in
    omega arith

pub loop-round-preserved : goal.loop-round-preserved
loop-round-preserved g c =
    let m = g.P.Plan.model c.args.plan.now in
    adds_turn (in_round m) c.loop-round.round _ c.loop-round.listing c.list_round.new.listing c.loop-round.invariant c.in_ok-list_round.ensures

pub returns : goal.returns
returns g c =
    let all = c.rounds-round-end.ensures in
    wrote (g.P.Plan.model c.args.plan.now) c.loop-round.round _ c.loop-round.listing _ (omega arith) refl (search rules) c.loop-round.invariant
