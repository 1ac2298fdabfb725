use Rattle.std.proofs.Common.{◌+◌, ap, arith}
use Rattle.std.proofs.Math.Nat.{min-le_right}
use Rattle.plan.specs.Answers.{round_of}
use Rattle.plan.specs.Makers.{swap_of}
use Rattle.plan.proofs.Telling.{told_ok}
use Rattle.plan.proofs.swap_plan.SwapPlanPlan.span.Goals as goal

pub part-requires : goal.part-requires
part-requires c =
    let m = swap_of c.args.self.now in
    let t = round_of m c.args.round in
    let told = told_ok m c.args.rank (m.group t c.args.rank) _ c.in_ok-group.ensures in
    let inside = m.member t c.args.rank (min-le_right _ _) told.0 in
    let fits = m.group_within t c.args.rank (min-le_right _ _) told.0 in
    let ok = c.args.self.now.counts.limits in
    let start = ap (λ x. x.start) told.1 in
    let len = ap (λ x. x.len) told.1 in
    let tile = ap (λ x. x.start + x.len) c.tile.ensures in
    (omega arith, omega arith, omega arith)
