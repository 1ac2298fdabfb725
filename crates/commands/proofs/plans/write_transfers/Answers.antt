use Rattle.chart.specs.Lines.{transfer_line}
use Rattle.commands.proofs.Lines.{appends_none}
use Rattle.commands.proofs.Telling.{all_items, one_item}
use Rattle.commands.proofs.plans.write_transfers.Goals as goal

pub loop-transfer-init : goal.loop-transfer-init
loop-transfer-init g c = appends_none _

pub loop-transfer-preserved : goal.loop-transfer-preserved
loop-transfer-preserved g c =
    one_item _ _ _ transfer_line c.args.transfers.now c.loop-transfer.transfer-index
    (record { round = 0; sender = 0; receiver = 0; piece = record { start = 0; len = 0 } })
    c.loop-transfer-test.true c.loop-transfer.invariant c.in_ok-put.ensures.bytes

pub returns : goal.returns
returns g c = all_items _ _ transfer_line c.args.transfers.now c.loop-transfer.transfer-index c.loop-transfer-test.false c.loop-transfer.invariant
