use Rattle.std.proofs.Common.{ap, ◌∙◌, sym}
use Rattle.chart.specs.Lines.{sends_line}
use Rattle.commands.proofs.Lines.{appends_none}
use Rattle.commands.proofs.Telling.{all_below, one_more, told_is}
use Rattle.commands.proofs.plans.write_sends.Goals as goal

pub loop-rank-init : goal.loop-rank-init
loop-rank-init g c = appends_none _

pub loop-rank-preserved : goal.loop-rank-preserved
loop-rank-preserved g c =
    one_more _ _ _ c.loop-rank.rank _ _ c.loop-rank.invariant c.in_ok-put.ensures.bytes
    (ap (sends_line c.loop-rank.rank) (told_is (g.P.Plan.model c.args.plan.now) c.loop-rank.rank _ _ (sym c.sends.ensures ∙ c.in_ok-pixels.was)))

pub returns : goal.returns
returns g c = all_below _ _ _ c.loop-rank.rank c.ranks-rank-end.result _ c.loop-rank.auto.rank-end c.loop-rank-test.false c.ranks-rank-end.ensures c.loop-rank.invariant
