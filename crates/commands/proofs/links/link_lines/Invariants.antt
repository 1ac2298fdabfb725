use Rattle.std.specs.Io.Iter.{split_known_bytes, pieces_left_to_read}
use Rattle.commands.specs.Replay.{start}
use Rattle.commands.specs.Steps.{Awaits, opens}
use Rattle.commands.proofs.Replaying.{turns}
use Rattle.commands.proofs.links.link_lines.Given as goal

abbrev pub invariant-loop-next : goal.invariant-loop-next
invariant-loop-next g l =
    Awaits (opens l.replay.desk.room) start l.next (g.R.Read.remaining l.fn.input) (split_known_bytes g.R.Read.remaining l.replay.lines)
    (g.W.Write.contents l.fn.output) (g.W.Write.contents l.output)

abbrev pub decreases-loop-next : goal.decreases-loop-next
decreases-loop-next g l = turns l.next (pieces_left_to_read l.replay.lines)
