use Rattle.std.proofs.Common.{◌+◌, ap, ◌∙◌}
use Rattle.chart.specs.Picture.{column_left, stroke}
use Rattle.commands.specs.Plans.{transfer_stroke}
use Rattle.commands.proofs.Lines.{appends_none}
use Rattle.commands.proofs.Telling.{all_items, appends_same, one_item}
use Rattle.commands.proofs.plans.draw_transfers.Goals as goal

pub loop-transfer-init : goal.loop-transfer-init
loop-transfer-init g c = appends_none _

pub loop-transfer-preserved : goal.loop-transfer-preserved
loop-transfer-preserved g c =
    let left = c.column_left.ensures ∙ ap column_left c.saturating_sub.ensures in
    one_item _ _ _ transfer_stroke c.args.transfers.now c.loop-transfer.transfer-index
    (record { round = 0; sender = 0; receiver = 0; piece = record { start = 0; len = 0 } })
    c.loop-transfer-test.true c.loop-transfer.invariant
    (appends_same _ _ _ _ (λ i. stroke (left i + 160) (c.row_top.ensures i + 7) (c.column_left-in-loop-transfer.ensures i) (c.row_top-in-loop-transfer.ensures i + 7)) c.in_ok-put.ensures.bytes)

pub returns : goal.returns
returns g c = all_items _ _ transfer_stroke c.args.transfers.now c.loop-transfer.transfer-index c.loop-transfer-test.false c.loop-transfer.invariant
