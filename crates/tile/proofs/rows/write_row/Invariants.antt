use Rattle.std.proofs.Common.{◌≡◌, ◌*◌, ◌++◌, take, drop}
use Rattle.tile.specs.Rows.{row_words}
use Rattle.tile.proofs.rows.write_row.Given as goal

abbrev pub invariant-loop-i : goal.invariant-loop-i
invariant-loop-i g l = l.out ≡ row_words g.P.Pixel.model (take l.i l.row) ++ drop (l.i * l.width) l.initial.out
