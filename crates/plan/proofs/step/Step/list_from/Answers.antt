use Rattle.std.proofs.Common.{◌≡◌, suc, ◌+◌, ◌-◌, sym, ap, subst, arith}
use Rattle.plan.specs.Order.{between, to_place, Adds}
use Rattle.plan.proofs.Putting.{adds_none, adds_turn, up_to-short, between-short}
use Rattle.plan.proofs.Telling.{next_group}
use Rattle.plan.proofs.step.Step.list_from.Goals as goal
use Rattle.plan.proofs.step.Step.list_from.Goals.{in-Some, in_default}

pub put-requires : goal.put-requires
put-requires g c =
    let m = g.P.Plan.model c.args.self.now.plan.now in
    let t = c.args.self.now.round in
    let f = c.args.sender in
    let r = c.loop-receiver.receiver in
    let early = c.args.self.now.early in
    let group = next_group m t f c.in_ok-group.group early c.in_ok-group.ensures in
    let start = ap (λ x. x.start) group.1 in
    let len = ap (λ x. x.len) group.1 in
    let fits = m.group_within (suc t) f (omega arith) group.0 in
    let few = up_to-short (to_place m t f) 1 (r - (m.group (suc t) f).start) (λ j h. between-short m t f _) in
    let next = c.loop-receiver.invariant.put.next in
    let lim = m.rank_limit in
    omega arith

pub loop-receiver-preserved : goal.loop-receiver-preserved
loop-receiver-preserved g c =
    let m = g.P.Plan.model c.args.self.now.plan.now in
    let t = c.args.self.now.round in
    let f = c.args.sender in
    let r = c.loop-receiver.receiver in
    let early = c.args.self.now.early in
    let group = next_group m t f c.in_ok-group.group early c.in_ok-group.ensures in
    let start = ap (λ x. x.start) group.1 in
    let first = (m.group (suc t) f).start in
    let one : Adds (between m t f r) c.loop-receiver.listing c.match-branch-3.listing =
    elim c.match-branch-3.branch [
      | in-Some w ↦ rw (sym c.in_ok-transfer.ensures, w.in-Some.is, w.listing-is) w.put.ensures
      | in_default w ↦ rw (sym c.in_ok-transfer.ensures, w.in_default.is, w.listing-is) (adds_none c.loop-receiver.listing)
    ]
    in
    let at : first + (r - first) ≡ r = omega arith in
    let next : r + 1 - first ≡ r - first + 1 = omega arith in
    rw next (adds_turn (to_place m t f) (r - first) c.args.listing.now c.loop-receiver.listing c.match-branch-3.listing c.loop-receiver.invariant (subst (λ n. Adds (between m t f n) c.loop-receiver.listing c.match-branch-3.listing) (sym at) one))
