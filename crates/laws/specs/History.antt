-- What is known of each rank from the calls and their answers alone. Assumes nothing.
use Rattle.std.specs.Prelude.{◌≡◌, ℕ, suc, ◌-◌, ◌*◌, Bool, true, false, if◌then◌else◌, List, [], ◌∷◌, ◌++◌, length, replicate, ◌==◌, slice_index_or}
use Rattle.tile.specs.Kinds.{Kind}
use Rattle.plan.specs.Amounts.{group_sizes}
use Rattle.plan.specs.Model.{PlanModel}
use Rattle.laws.specs.Answers.{Answer, Accepted, Shown, Refused}
use Rattle.laws.specs.Calls.{Call, Deliver, Put, Close, Withdraw, Feed, Step, Show, Event}
use Rattle.laws.specs.Feeding.{Reading, Sound, Faulty, dump_pixel}
use Rattle.laws.specs.Machine.{strip}

-- a rank's list of pixels, whether it is closed, and the rank's accepted steps
pub record History (X : Type 0) : Type 0 where
  pub list : List X
  pub closed : Bool
  pub steps : ℕ

module _ {X R : Type 0} (K : Kind X R) (p : PlanModel) where
  -- the list that a dump makes of rank r's
  abbrev pub fed : {bytes : List ℕ} → Reading bytes → ℕ → History X → History X
  fed (Sound c form) r h = record { list = strip (dump_pixel K c r) 0 p.pixels; closed = true; steps = h.steps }
  fed (Faulty f fails) r h = h

  -- what an accepted call makes of the history of rank r
  abbrev pub noted : Call X → ℕ → History X → History X
  noted (Deliver q) r h = if q == r then record { list = []; closed = false; steps = h.steps } else h
  noted (Put q n xs) r h = if q == r then record { list = h.list ++ xs; closed = h.closed; steps = h.steps } else h
  noted (Close q n) r h = if q == r then record { list = h.list ++ replicate (p.pixels - length h.list) K.blank; closed = true; steps = h.steps } else h
  noted (Withdraw q n) r h = h
  noted (Feed bytes d) r h = fed d r h
  noted (Step q area) r h = if q == r then record { list = h.list; closed = h.closed; steps = suc h.steps } else h
  noted (Show x) r h = h

  -- a refused call makes nothing of it
  abbrev pub noted_if : Answer X → Call X → ℕ → History X → History X
  noted_if Accepted c r h = noted c r h
  noted_if (Shown x) c r h = h
  noted_if (Refused f) c r h = h

  -- at first an empty list, not closed, and no steps
  abbrev pub history : List (Event X) → ℕ → History X
  history [] r = record { list = []; closed = false; steps = 0 }
  history (e ∷ es) r = noted_if e.answered e.call r (history es r)

  -- the picture of rank r at pixel x
  abbrev pub picture_at : List (Event X) → ℕ → ℕ → X
  picture_at es r x = slice_index_or (history es r).list x K.blank

  abbrev pub IsClosed : List (Event X) → ℕ → Type 0
  IsClosed es r = (history es r).closed ≡ true

  -- rank r has had twice the sum of its group sizes in accepted steps
  abbrev pub HadAllSteps : List (Event X) → ℕ → Type 0
  HadAllSteps es r = (history es r).steps ≡ 2 * group_sizes p r

  -- a closed rank is finished when it has had all its steps
  abbrev pub IsFinished : List (Event X) → ℕ → Type 0
  IsFinished es r = IsClosed es r × HadAllSteps es r
