use Rattle.std.proofs.Common.{ℕ, ◌+◌, ap}
use Rattle.std.specs.Prelude.{codes}
use Rattle.chart.specs.Picture.{label}
use Rattle.commands.proofs.Lines.{appends_none}
use Rattle.commands.proofs.Telling.{all_below, one_more}
use Rattle.commands.proofs.plans.draw_ranks.Goals as goal

pub loop-rank-init : goal.loop-rank-init
loop-rank-init g c = appends_none _

pub loop-rank-preserved : goal.loop-rank-preserved
loop-rank-preserved g c =
    one_more _ _ _ c.loop-rank.rank _ _ c.loop-rank.invariant c.in_ok-put.ensures.bytes
    (ap (λ (y : ℕ). label 14 (y + 11) (codes "rank") c.loop-rank.rank) c.row_top.ensures)

pub returns : goal.returns
returns g c = all_below _ _ _ c.loop-rank.rank c.ranks-rank-end.result _ c.loop-rank.auto.rank-end c.loop-rank-test.false c.ranks-rank-end.ensures c.loop-rank.invariant
