use Rattle.std.proofs.Common.{◌≡◌, ℕ, ◌≤◌}
use Rattle.std.specs.Prelude.{nat_lt}
use Rattle.std.specs.Io.Iter.{split_known_bytes, pieces_left_to_read}
use Rattle.commands.specs.Steps.{Goes, at}
use Rattle.commands.proofs.links.Replay.calls.Given as goal

abbrev pub invariant-loop-line : goal.invariant-loop-line
invariant-loop-line g l =
    ((layers : ℕ) → l.more ≡ nat_lt 0 layers
    → Goes (at (g.L.Link.model l.initial.link) layers l.initial.self.desk.room) (at (g.L.Link.model l.link) layers l.self.desk.room)
    (split_known_bytes g.R.Read.remaining l.initial.self.lines) (split_known_bytes g.R.Read.remaining l.self.lines)
    (g.W.Write.contents l.initial.output) (g.W.Write.contents l.output))
    × (pieces_left_to_read l.self.lines ≤ pieces_left_to_read l.initial.self.lines)

abbrev pub decreases-loop-line : goal.decreases-loop-line
decreases-loop-line g l = pieces_left_to_read l.self.lines
