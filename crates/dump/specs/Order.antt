-- The grounds on which a record is refused, by how far the dump has been read, and the first faulty record. Assumes nothing.
use Rattle.std.specs.Prelude.{◌≡◌, ℕ, ◌+◌, ◌-◌, Bool, false, if◌then◌else◌, not, ◌&&◌, ◌||◌, List, [], ◌∷◌, length, Some, None, Option, Result, MatchResult, ◌==◌, nat_le, nat_lt, slice_index}
use Rattle.tile.specs.declared.fault.Fault.{Fault}
use Rattle.tile.specs.declared.fault.Fault.TheVariants.{Dump}
use Rattle.tile.specs.declared.fault.Ground.{Ground}
use Rattle.tile.specs.declared.fault.Ground.TheVariants.{CutShort, OutOfPlace, WrongRank, OffLimits, WrongKind, UnlawfulPixel, Outside}
use Rattle.tile.specs.Answers.{first}
use Rattle.tile.specs.Faults.{number_of, no_rank}
use Rattle.tile.specs.Named.{named_width, named_lawful}
use Rattle.dump.specs.declared.stage.Stage.{Stage}
use Rattle.dump.specs.Phases.{Heading, Phase, Before, Between, Behind, phase}
use Rattle.dump.specs.Bytes.{half, words_in}
use Rattle.dump.specs.Grammar.{head_of}
use Rattle.dump.specs.Records.{body_size, kind_told, kind_at, body_at, behind, no_record}

-- a body of another length than its kind's is cut short; else its own grounds count
abbrev pub whole : ℕ → List ℕ → Option Ground → Option Ground
whole k b o = if length b == body_size k then o else Some CutShort

-- 1 to 32 ranks and 1 to 1,024 pixels
abbrev pub in_limits : Heading → Bool
in_limits h = nat_le 1 h.ranks && nat_le h.ranks 32 && nat_le 1 h.pixels && nat_le h.pixels 1024

-- HEAD stands at the start alone
abbrev pub head_ground : Phase → List ℕ → Option Ground
head_ground Before b = first ((OffLimits, not (in_limits (head_of b))) ∷ (WrongKind, (named_width (head_of b).kind == 0)) ∷ [])
head_ground (Between p) b = Some OutOfPlace
head_ground (Behind h) b = Some OutOfPlace

-- RANK tells the rank due, which is the count of sections so far
abbrev pub rank_ground : Phase → List ℕ → Option Ground
rank_ground Before b = Some OutOfPlace
rank_ground (Between p) b = first ((WrongRank, not (slice_index b 0 == p.sections)) ∷ (Outside, nat_le p.head.ranks (slice_index b 0)) ∷ [])
rank_ground (Behind h) b = Some OutOfPlace

-- PLACE tells a number above the one due
abbrev pub place_ground : Phase → List ℕ → Option Ground
place_ground Before b = Some OutOfPlace
place_ground (Between p) b = first ((OutOfPlace, (p.sections == 0) || nat_le (half b 0) p.due) ∷ (Outside, nat_le p.head.pixels (half b 0)) ∷ [])
place_ground (Behind h) b = Some OutOfPlace

-- a pixel of kind n stands in a section, is of HEAD's kind, lawful and within the tile
abbrev pub pixel_ground : ℕ → Phase → List ℕ → Option Ground
pixel_ground n Before b = Some OutOfPlace
pixel_ground n (Between p) b =
    first (
    (OutOfPlace, (p.sections == 0)) ∷
    (WrongKind, not (n == p.head.kind)) ∷
    (UnlawfulPixel, not (named_lawful n (words_in b))) ∷
    (Outside, nat_le p.head.pixels p.due) ∷
    [])
pixel_ground n (Behind h) b = Some OutOfPlace

-- END stands behind all sections
abbrev pub end_ground : Phase → Option Ground
end_ground Before = Some OutOfPlace
end_ground (Between p) = first ((WrongRank, nat_lt p.sections p.head.ranks) ∷ [])
end_ground (Behind h) = Some OutOfPlace

-- the ground on which a record of kind k with body b is refused at a stage, if any
unfoldable pub record_ground : Phase → ℕ → List ℕ → Option Ground
record_ground s k b =
    whole k b
    (if k == 1 then head_ground s b
    else (if k == 2 then rank_ground s b
    else (if k == 3 then place_ground s b
    else (if k == 6 then end_ground s else pixel_ground (kind_told k) s b))))

-- the stage behind a sound pixel
abbrev pub onward : Phase → Phase
onward Before = Before
onward (Between p) = Between (record { head = p.head; sections = p.sections; due = p.due + 1 })
onward (Behind h) = Behind h

-- the stage behind a sound record
abbrev pub next : Phase → ℕ → List ℕ → Phase
next Before k b = Between (record { head = head_of b; sections = 0; due = 0 })
next (Between p) k b =
    if k == 2 then Between (record { head = p.head; sections = p.sections + 1; due = 0 })
    else (if k == 3 then Between (record { head = p.head; sections = p.sections; due = half b 0 })
    else (if k == 6 then Behind p.head else onward (Between p)))
next (Behind h) k b = Behind h

abbrev pub or_else : {A : Type 0} → Option A → Option A → Option A
or_else (Some a) o = Some a
or_else None o = o

-- the ground on which what stands at the front is refused at a stage, if any
unfoldable pub refusal : Phase → List ℕ → Option Ground
refusal s rest = or_else (no_record rest) (record_ground s (kind_at rest) (body_at rest))

-- the stage behind a sound record, or the ground on which the record is refused
abbrev pub Answers : Option Ground → Phase → Result Stage Ground → Type 0
Answers o t r = MatchResult r (λ s. (o ≡ None) × (phase s ≡ t)) (λ g. o ≡ Some g)

-- sound records lead from a stage at the front of some bytes to a stage at the front of what is left of them
pub data Sound (s : Phase) (bytes : List ℕ) : Phase → List ℕ → Type 0 where
  none : Sound s bytes s bytes
  more : {t : Phase} {rest : List ℕ} → Sound s bytes t rest → refusal t rest ≡ None → Sound s bytes (next t (kind_at rest) (body_at rest)) (behind rest)

-- END was read, and no byte is left
abbrev pub finished : Phase → ℕ → Bool
finished Before left = false
finished (Between p) left = false
finished (Behind h) left = left == 0

-- the last sound RANK's rank
abbrev pub last_rank : ℕ → ℕ
last_rank sections = if sections == 0 then no_rank else sections - 1

-- the rank that a fault tells: for a wrong rank the one due, else the last sound RANK's
abbrev pub rank_told : Phase → Ground → ℕ
rank_told Before g = no_rank
rank_told (Between p) g = if number_of g == 4 then p.sections else last_rank p.sections
rank_told (Behind h) g = last_rank h.ranks

-- the first faulty record stands behind sound ones
pub record Fails (bytes : List ℕ) (f : Fault) : Type 0 where
  pub stage : Phase
  pub rest : List ℕ
  pub why : Ground
  pub before : Sound Before bytes stage rest
  pub going_on : finished stage (length rest) ≡ false
  pub refused : refusal stage rest ≡ Some why
  pub fault_is : f ≡ Dump why (rank_told stage why) (length bytes - length rest)
