use Rattle.std.proofs.Common.{ℕ, ◌+◌, ◌++◌, ap, subst, ◌∙◌, sym}
use Rattle.std.specs.Prelude.{codes}
use Rattle.std.specs.Io.KnownBytes.{Appends}
use Rattle.chart.specs.Picture.{across, bar, frame, label}
use Rattle.commands.proofs.Lines.{appends_none, appends_both}
use Rattle.commands.proofs.Telling.{all_below, one_more, round_is, told_is}
use Rattle.commands.proofs.plans.draw_column.Goals as goal

pub loop-rank-init : goal.loop-rank-init
loop-rank-init g c = appends_none _

pub loop-rank-preserved : goal.loop-rank-preserved
loop-rank-preserved g c =
    let m = g.P.Plan.model c.args.plan.now in
    let span = told_is m c.loop-rank.rank _ _ (sym c.span.ensures ∙ c.in_ok-span.was) ∙ ap (λ (t : ℕ). m.span t c.loop-rank.rank) (round_is m c.args.round c.requires) in
    let left = c.column_left-left.ensures in
    let y = c.row_top-y.ensures in
    let pixels = c.pixels-pixels.ensures in
    let first = c.across.ensures ∙ (λ i. across (span i).start (pixels i)) in
    let size = c.across-in-loop-rank.ensures ∙ (λ i. across (span i).len (pixels i)) in
    one_more _ _ _ c.loop-rank.rank _ _ c.loop-rank.invariant (appends_both _ _ _ _ _ c.in_ok-put-2.ensures.bytes c.in_ok-put-3.ensures.bytes)
    (λ i. frame (left i) (y i) ++ bar (left i + first i) (y i) (size i))

pub returns : goal.returns
returns g c =
    appends_both _ _ _ _ _
    (subst (λ (x : ℕ). Appends (g.W.Write.contents c.args.output.now) (g.W.Write.contents c.put.new.output) (label x 24 (codes "round") c.args.round)) c.column_left-left.ensures c.in_ok-put.ensures.bytes)
    (all_below _ _ _ c.loop-rank.rank c.ranks-rank-end.result _ c.loop-rank.auto.rank-end c.loop-rank-test.false c.ranks-rank-end.ensures c.loop-rank.invariant)
