-- What each slot of a round does. Assumes nothing.
use Rattle.std.specs.Prelude.{ℕ, suc, ◌+◌, ◌-◌, ◌*◌, Bool, if◌then◌else◌, ◌&&◌, ◌||◌, ◌==◌, nat_le, nat_lt}
use Rattle.plan.specs.declared.runs.Run.{Run}
use Rattle.plan.specs.Model.{PlanModel, piece}
use Rattle.laws.specs.declared.moves.Move.{Move}
use Rattle.laws.specs.declared.moves.Move.TheVariants.{Pass, Send, Own, Take}
use Rattle.laws.specs.declared.records.RankRecord.{RankRecord}

-- a piece for a rank: nothing is sent to oneself, and no empty piece
abbrev pub send_move : ℕ → ℕ → Run → Move
send_move rank to q = if to == rank || q.len == 0 then Pass else Send to q

-- a piece from a rank
abbrev pub take_move : ℕ → ℕ → Run → Move
take_move rank sender q = if q.len == 0 then Pass else (if sender == rank then Own q else Take sender q)

-- Going on from round t to a new group g: the first slots send and the others take, members in ascending order.
abbrev pub move_in : PlanModel → ℕ → ℕ → ℕ → Run → Move
move_in p t rank s g =
    if nat_lt s g.len then send_move rank (g.start + s) (piece p t rank (g.start + s)) else take_move rank (g.start + (s - g.len)) (piece p t (g.start + (s - g.len)) rank)

-- the move that is next for a rank
abbrev pub move_of : PlanModel → ℕ → RankRecord → Move
move_of p rank e = move_in p e.round rank e.slot (p.group (suc e.round) rank)

-- the slot is the last of its round
abbrev pub is_last : PlanModel → ℕ → RankRecord → Bool
is_last p rank e = nat_le (2 * (p.group (suc e.round) rank).len) (suc e.slot)

-- the record stands at no slot of the plan
abbrev pub misplaced : PlanModel → ℕ → RankRecord → Bool
misplaced p rank e = nat_lt p.rounds e.round || (nat_lt e.round p.rounds && nat_le (2 * (p.group (suc e.round) rank).len) e.slot)

-- how many pixels a move sends
abbrev pub move_sent : Move → ℕ
move_sent Pass = 0
move_sent (Send to q) = q.len
move_sent (Own q) = 0
move_sent (Take sender q) = 0

-- a record after a move, which may be the last of its round
abbrev pub advanced : RankRecord → Move → Bool → RankRecord
advanced e v last = record {
  state = e.state;
  next = e.next;
  round = if last then suc e.round else e.round;
  slot = if last then 0 else suc e.slot;
  sent = e.sent + move_sent v;
}

-- the record after the move that is next
abbrev pub stepped : PlanModel → ℕ → RankRecord → RankRecord
stepped p rank e = advanced e (move_of p rank e) (is_last p rank e)
