use Rattle.std.proofs.Common.{◌+◌, sym, ap, ap₂, ◌∙◌, add-one, arith}
use Rattle.plan.specs.Amounts.{sum_below, leaving}
use Rattle.plan.proofs.Counting.{left_is, leaving-few, sent-few}
use Rattle.plan.proofs.sending.sends.Goals as goal

pub overflow_add-sum : goal.overflow_add-sum
overflow_add-sum g c =
    let m = g.P.Plan.model c.args.plan.now in
    let t = c.loop-round.round in
    let r = c.args.rank in
    let end = c.rounds-round-end.ensures in
    let left = left_is m r t c.loop-round.old c.in_ok-new.new c.common.result (omega arith) c.loop-round.invariant.old_is c.in_ok-new.ensures c.common.ensures in
    let one = leaving-few m r t (omega arith) left.0 in
    let all = sent-few m r t (omega arith) left.0 in
    let few = m.round_limit in
    let sum = c.loop-round.invariant.sum_is in
    omega arith

pub loop-round-preserved : goal.loop-round-preserved
loop-round-preserved g c =
    let m = g.P.Plan.model c.args.plan.now in
    let t = c.loop-round.round in
    let r = c.args.rank in
    let end = c.rounds-round-end.ensures in
    let left = left_is m r t c.loop-round.old c.in_ok-new.new c.common.result (omega arith) c.loop-round.invariant.old_is c.in_ok-new.ensures c.common.ensures in
    record {
      sum_is = ap₂ ◌+◌ c.loop-round.invariant.sum_is left.2 ∙ ap (sum_below (leaving m r)) (sym (add-one t));
      old_is = rw (add-one t) left.1;
    }
