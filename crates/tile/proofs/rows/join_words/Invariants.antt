use Rattle.std.proofs.Common.{◌≡◌, List, ◌++◌, ◌/◌, length, take, drop}
use Rattle.std.specs.List.{flat_map}
use lib.Lanes.{zip2}
use Rattle.tile.specs.Rows.{picture}
use Rattle.tile.proofs.RowLaws.{Numbered}
use Rattle.tile.proofs.rows.join_words.Given as goal

abbrev pub invariant-loop-i : goal.invariant-loop-i
invariant-loop-i g l =
    let m = g.P.Pixel.model in
    let front = picture m l.initial.front in
    let i = length l.yielded in
    record {
      goes : (goal.iterator-loop-i g).can_next l.i-iterator;
      ends : (goal.iterator-loop-i g).is_finite l.i-iterator;
      parts : Numbered m g.met.P.Pixel.lawful l.words l.initial.i-iterator;
      count : length l.words / m.width ≡ length l.initial.front;
      joined : (ps : List g.row.P.Denot) → flat_map m.words ps ≡ l.words → length ps ≡ length l.initial.front
          → picture m l.front ≡ zip2 m.join (take i front) (take i ps) ++ drop i front;
    }
