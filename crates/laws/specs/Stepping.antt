-- One rank's next slot. Assumes nothing.
use Rattle.std.specs.Prelude.{ℕ, ◌-◌, ◌*◌, Bool, if◌then◌else◌, not, ◌||◌, List, [], ◌∷◌, Some, None, Option, nat_le, nat_lt, slice_index_or}
use Rattle.std.specs.List.{flat_map}
use Rattle.tile.specs.declared.fault.Fault.TheVariants.{Link, Call}
use Rattle.tile.specs.declared.fault.Ground.{Ground}
use Rattle.tile.specs.declared.fault.Ground.TheVariants.{Outside, TooShort, Unsuited, NotClosed, Finished, BoxTaken, BoxEmpty, BadMessage, Spoilt as SpoiltMessage}
use Rattle.tile.specs.Kinds.{Kind}
use Rattle.tile.specs.Rows.{row_of_words}
use Rattle.plan.specs.Runs.{has}
use Rattle.link.specs.Model.{BoxState, Empty, Holds, Spoilt, changed, message}
use Rattle.laws.specs.declared.moves.Move.{Move}
use Rattle.laws.specs.declared.moves.Move.TheVariants.{Pass, Send, Own, Take}
use Rattle.laws.specs.declared.records.RankRecord.{RankRecord}
use Rattle.laws.specs.Answers.{Answer, Accepted, Refused, judged}
use Rattle.laws.specs.Feeding.{some_or}
use Rattle.laws.specs.Machine.{Machine, Brought, changed_entry, changed_row, other_plan, short, strip, weak_link}
use Rattle.laws.specs.Moves.{move_of, is_last, misplaced, stepped}
use Rattle.laws.specs.Records.{is_closed, finished}

module _ {X R : Type 0} (K : Kind X R) where
  -- the words of the pixels f a, .., f (a + n - 1)
  abbrev pub words_of : (ℕ → X) → ℕ → ℕ → List ℕ
  words_of f a n = flat_map K.words (strip f a n)

  -- rank r sends into a box
  abbrev pub send_answer : ℕ → BoxState → Answer X
  send_answer r Empty = Accepted
  send_answer r (Holds ws) = Refused (Link BoxTaken r)
  send_answer r Spoilt = Refused (Link BoxTaken r)

  -- a message is accepted if its words are those of pixels
  abbrev pub row_answer : ℕ → Option (List X) → Answer X
  row_answer r None = Refused (Call BadMessage r)
  row_answer r (Some xs) = Accepted

  -- rank r takes n pixels from a box
  abbrev pub take_answer : ℕ → ℕ → BoxState → Answer X
  take_answer r n Empty = Refused (Link BoxEmpty r)
  take_answer r n (Holds ws) = row_answer r (row_of_words K n ws)
  take_answer r n Spoilt = Refused (Link SpoiltMessage r)

  -- the n pixels of the message in a box
  abbrev pub taken : ℕ → BoxState → List X
  taken n b = some_or [] (row_of_words K n (message b))

  abbrev pub move_answer : Machine X → ℕ → Move → Answer X
  move_answer S r Pass = Accepted
  move_answer S r (Send to q) = send_answer r (S.box r to)
  move_answer S r (Own q) = Accepted
  move_answer S r (Take sender q) = take_answer r q.len (S.box sender r)

  -- rank r's gathered row after a move: a piece is joined behind what stands there
  abbrev pub gathering : Machine X → ℕ → Move → ℕ → X
  gathering S r Pass x = S.gathered r x
  gathering S r (Send to q) x = S.gathered r x
  gathering S r (Own q) x = if has q x then K.join (S.gathered r x) (S.held r x) else S.gathered r x
  gathering S r (Take sender q) x = if has q x then K.join (S.gathered r x) (slice_index_or (taken q.len (S.box sender r)) (x - q.start) K.blank) else S.gathered r x

  -- the boxes after a move: a message is put into its box, or the box is cleared
  abbrev pub move_box : Machine X → ℕ → Move → ℕ → ℕ → BoxState
  move_box S r Pass = S.box
  move_box S r (Send to q) = changed S.box r to (Holds (words_of (S.held r) q.start q.len))
  move_box S r (Own q) = S.box
  move_box S r (Take sender q) = changed S.box sender r Empty

  module _ (b : Brought) where
    -- a step of rank r with a word area of so many words, as far as it can be judged before the move
    abbrev pub step_grounds : ℕ → ℕ → ℕ → RankRecord → ℕ → List (Ground × Bool)
    step_grounds ranks pixels r e area =
        (Outside, nat_le ranks r) ∷
        (TooShort, short b.planes ranks pixels || nat_lt area b.longest) ∷
        (Unsuited, weak_link b.link_ranks b.longest ranks (pixels * K.width) || (other_plan b.plan ranks pixels || misplaced b.plan r e)) ∷
        (NotClosed, not (is_closed e.state)) ∷
        (Finished, finished b.plan e) ∷
        []

    abbrev pub step_answer : Machine X → ℕ → ℕ → Answer X
    step_answer S r area = judged r (step_grounds S.ranks S.pixels r (S.entry r) area) (move_answer S r (move_of b.plan r (S.entry r)))

    -- rank r's rows after a step: the last take of a round makes the gathered row the held one, and blanks it
    abbrev pub held_after : Machine X → ℕ → ℕ → X
    held_after S r x = if is_last b.plan r (S.entry r) then gathering S r (move_of b.plan r (S.entry r)) x else S.held r x

    abbrev pub gathered_after : Machine X → ℕ → ℕ → X
    gathered_after S r x = if is_last b.plan r (S.entry r) then K.blank else gathering S r (move_of b.plan r (S.entry r)) x

    abbrev pub after_step : Machine X → ℕ → Machine X
    after_step S r = record {
      ranks = S.ranks;
      pixels = S.pixels;
      entry = changed_entry r (stepped b.plan r (S.entry r)) S.entry;
      held = changed_row r (held_after S r) S.held;
      gathered = changed_row r (gathered_after S r) S.gathered;
      box = move_box S r (move_of b.plan r (S.entry r));
    }
