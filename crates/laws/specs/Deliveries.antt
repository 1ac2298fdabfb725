-- Opening a delivery, putting pixels, closing and withdrawing. A delivery is a rank and the number of its next pixel. Assumes nothing.
use Rattle.std.specs.Prelude.{ℕ, ◌+◌, ◌-◌, Bool, if◌then◌else◌, not, ◌&&◌, List, [], ◌∷◌, length, ◌==◌, nat_le, nat_lt, slice_index_or}
use Rattle.tile.specs.declared.fault.Ground.{Ground}
use Rattle.tile.specs.declared.fault.Ground.TheVariants.{Outside, TooShort, NoDelivery}
use Rattle.tile.specs.Kinds.{Kind}
use Rattle.laws.specs.declared.records.DeliveryState.TheVariants.{Idle, Open, Closed}
use Rattle.laws.specs.declared.records.RankRecord.{RankRecord}
use Rattle.laws.specs.Answers.{Answer, Accepted, judged}
use Rattle.laws.specs.Machine.{Machine, Planes, changed_entry, changed_row, short}
use Rattle.laws.specs.Records.{is_open, engaged, with_delivery}

-- the delivery at pixel n agrees with a record: it is open there
abbrev pub expects : RankRecord → ℕ → Bool
expects e n = is_open e.state && e.next == n

-- pixel x of a row once xs is put from pixel n on
abbrev pub put_row : {X : Type 0} → X → ℕ → List X → (ℕ → X) → ℕ → X
put_row d n xs row x = if nat_le n x && nat_lt x (n + length xs) then slice_index_or xs (x - n) d else row x

module _ {X : Type 0} where
  -- the delivery of rank r at pixel n agrees with the record of its rank
  abbrev pub agrees : Machine X → ℕ → ℕ → Bool
  agrees S r n = nat_lt r S.ranks && expects (S.entry r) n

  abbrev pub deliver_grounds : Planes → Machine X → ℕ → List (Ground × Bool)
  deliver_grounds b S r =
      (Outside, nat_le S.ranks r) ∷
      (TooShort, short b S.ranks S.pixels) ∷
      (NoDelivery, engaged (S.entry r)) ∷
      []

  -- a strip of so many pixels
  abbrev pub put_grounds : Planes → Machine X → ℕ → ℕ → ℕ → List (Ground × Bool)
  put_grounds b S r n count =
      (Outside, nat_lt S.pixels (n + count)) ∷
      (TooShort, short b S.ranks S.pixels) ∷
      (NoDelivery, not (agrees S r n)) ∷
      []

  abbrev pub close_grounds : Machine X → ℕ → ℕ → List (Ground × Bool)
  close_grounds S r n = (NoDelivery, not (agrees S r n)) ∷ []

  abbrev pub deliver_answer : Planes → Machine X → ℕ → Answer X
  deliver_answer b S r = judged r (deliver_grounds b S r) Accepted

  abbrev pub put_answer : Planes → Machine X → ℕ → ℕ → List X → Answer X
  put_answer b S r n xs = judged r (put_grounds b S r n (length xs)) Accepted

  abbrev pub close_answer : Machine X → ℕ → ℕ → Answer X
  close_answer S r n = judged r (close_grounds S r n) Accepted

  -- the machine with another record of rank r
  abbrev pub with_entry : Machine X → ℕ → RankRecord → Machine X
  with_entry S r e = record {
    ranks = S.ranks;
    pixels = S.pixels;
    entry = changed_entry r e S.entry;
    held = S.held;
    gathered = S.gathered;
    box = S.box;
  }

  -- the machine with another held row of rank r
  abbrev pub with_held : Machine X → ℕ → (ℕ → X) → Machine X
  with_held S r row = record {
    ranks = S.ranks;
    pixels = S.pixels;
    entry = S.entry;
    held = changed_row r row S.held;
    gathered = S.gathered;
    box = S.box;
  }

  -- the state is closed; the pixels that were never put are blank already
  abbrev pub after_close : Machine X → ℕ → ℕ → Machine X
  after_close S r n = with_entry S r (with_delivery (S.entry r) Closed n)

  -- if the record agrees the state becomes none
  abbrev pub after_withdraw : Machine X → ℕ → ℕ → Machine X
  after_withdraw S r n = if agrees S r n then with_entry S r (with_delivery (S.entry r) Idle n) else S

module _ {X R : Type 0} (K : Kind X R) where
  -- the row is blank and the state open, at pixel 0
  abbrev pub after_deliver : Machine X → ℕ → Machine X
  after_deliver S r = with_held (with_entry S r (with_delivery (S.entry r) Open 0)) r (λ x. K.blank)

  -- the pixels stand at the next numbers of the row
  abbrev pub after_put : Machine X → ℕ → ℕ → List X → Machine X
  after_put S r n xs = with_held (with_entry S r (with_delivery (S.entry r) Open (n + length xs))) r (put_row K.blank n xs (S.held r))
