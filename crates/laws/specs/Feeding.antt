-- Feeding a whole dump. Assumes nothing.
use Rattle.std.specs.Prelude.{ℕ, Bool, not, ◌||◌, List, [], ◌∷◌, Some, None, Option, ◌==◌}
use Rattle.tile.specs.declared.fault.Fault.{Fault}
use Rattle.tile.specs.declared.fault.Ground.{Ground}
use Rattle.tile.specs.declared.fault.Ground.TheVariants.{TooShort, Unsuited, NoDelivery}
use Rattle.tile.specs.Faults.{no_rank}
use Rattle.tile.specs.Kinds.{Kind}
use Rattle.dump.specs.Phases.{Heading}
use Rattle.dump.specs.Grammar.{Content, HasForm, picture}
use Rattle.dump.specs.Order.{Fails}
use Rattle.laws.specs.declared.records.DeliveryState.TheVariants.{Closed}
use Rattle.laws.specs.Answers.{Answer, Accepted, Refused, judged}
use Rattle.laws.specs.Machine.{Machine, Planes, any_below, short}
use Rattle.laws.specs.Records.{engaged, with_delivery}

-- what bytes read as: what the dump holds if they have its form, else the fault of the first faulty record
pub data Reading (bytes : List ℕ) : Type 0 where
  Sound : (c : Content) → HasForm bytes c → Reading bytes
  Faulty : (f : Fault) → Fails bytes f → Reading bytes

-- the pixel that was read, or blank
abbrev pub some_or : {A : Type 0} → A → Option A → A
some_or d None = d
some_or d (Some a) = a

-- the dump is for another number of ranks or pixels, or of another kind
abbrev pub other_dump : Heading → ℕ → ℕ → ℕ → Bool
other_dump h ranks pixels kind = (not (h.ranks == ranks) || not (h.pixels == pixels)) || not (h.kind == kind)

module _ {X R : Type 0} (K : Kind X R) where
  -- pixel x of rank r in the dump, blank where none stands
  abbrev pub dump_pixel : Content → ℕ → ℕ → X
  dump_pixel c r x = some_or K.blank (K.reads (picture c r x))

  abbrev pub feed_grounds : Planes → Machine X → Heading → List (Ground × Bool)
  feed_grounds b S h =
      (TooShort, short b S.ranks S.pixels) ∷
      (Unsuited, other_dump h S.ranks S.pixels K.number) ∷
      (NoDelivery, any_below (λ r. engaged (S.entry r)) S.ranks) ∷
      []

  abbrev pub feed_answer : Planes → Machine X → {bytes : List ℕ} → Reading bytes → Answer X
  feed_answer b S (Sound c form) = judged no_rank (feed_grounds b S c.head) Accepted
  feed_answer b S (Faulty f fails) = Refused f

  -- every rank's row is the dump's picture of it, and closed
  abbrev pub after_content : Machine X → Content → Machine X
  after_content S c = record {
    ranks = S.ranks;
    pixels = S.pixels;
    entry = λ r. with_delivery (S.entry r) Closed S.pixels;
    held = dump_pixel c;
    gathered = S.gathered;
    box = S.box;
  }

  abbrev pub after_feed : Machine X → {bytes : List ℕ} → Reading bytes → Machine X
  after_feed S (Sound c form) = after_content S c
  after_feed S (Faulty f fails) = S
