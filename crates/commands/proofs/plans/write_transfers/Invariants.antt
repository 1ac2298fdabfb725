use Rattle.std.proofs.Common.{take}
use Rattle.std.specs.List.{flat_map}
use Rattle.std.specs.Io.KnownBytes.{Appends}
use Rattle.chart.specs.Lines.{transfer_line}
use Rattle.commands.proofs.plans.write_transfers.Given as goal

abbrev pub invariant-loop-transfer : goal.invariant-loop-transfer
invariant-loop-transfer g l = Appends (g.W.Write.contents l.initial.output) (g.W.Write.contents l.output) (flat_map transfer_line (take l.transfer-index l.transfers))
