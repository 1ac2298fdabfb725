use Rattle.std.proofs.Common.{ℕ, ap, ap₂, ◌∙◌, sym}
use Rattle.chart.specs.Lines.{rank_line}
use Rattle.commands.proofs.Lines.{appends_none}
use Rattle.commands.proofs.Telling.{all_below, one_more, round_is, told_is}
use Rattle.commands.proofs.plans.write_round.Goals as goal

pub loop-rank-init : goal.loop-rank-init
loop-rank-init g c = appends_none _

pub loop-rank-preserved : goal.loop-rank-preserved
loop-rank-preserved g c =
    let m = g.P.Plan.model c.args.plan.now in
    let group = told_is m c.loop-rank.rank _ _ (sym c.group.ensures ∙ c.in_ok-group.was) ∙ ap (λ (t : ℕ). m.group t c.loop-rank.rank) (round_is m c.args.round c.requires) in
    let span = told_is m c.loop-rank.rank _ _ (sym c.span.ensures ∙ c.in_ok-span.was) ∙ ap (λ (t : ℕ). m.span t c.loop-rank.rank) (round_is m c.args.round c.requires) in
    one_more _ _ _ c.loop-rank.rank _ _ c.loop-rank.invariant c.in_ok-put.ensures.bytes (ap₂ (rank_line c.args.round c.loop-rank.rank) group span)

pub returns : goal.returns
returns g c = all_below _ _ _ c.loop-rank.rank c.ranks-rank-end.result _ c.loop-rank.auto.rank-end c.loop-rank-test.false c.ranks-rank-end.ensures c.loop-rank.invariant
