use Rattle.std.proofs.Common.{◌≡◌, ◌++◌, take, drop}
use lib.Lanes.{zip2}
use Rattle.tile.specs.Rows.{picture}
use Rattle.tile.proofs.rows.join_rows.Given as goal

abbrev pub invariant-loop-i : goal.invariant-loop-i
invariant-loop-i g l =
    let m = g.P.Pixel.model in
    let front = picture m l.initial.front in
    picture m l.front ≡ zip2 m.join (take l.i front) (take l.i (picture m l.back)) ++ drop l.i front
