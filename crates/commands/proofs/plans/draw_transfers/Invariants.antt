use Rattle.std.proofs.Common.{take}
use Rattle.std.specs.List.{flat_map}
use Rattle.std.specs.Io.KnownBytes.{Appends}
use Rattle.commands.specs.Plans.{transfer_stroke}
use Rattle.commands.proofs.plans.draw_transfers.Given as goal

abbrev pub invariant-loop-transfer : goal.invariant-loop-transfer
invariant-loop-transfer g l = Appends (g.W.Write.contents l.initial.output) (g.W.Write.contents l.output) (flat_map transfer_stroke (take l.transfer-index l.transfers))
