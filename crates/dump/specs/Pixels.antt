-- The pixels that are handed out of a dump. Assumes nothing.
use Rattle.std.specs.Prelude.{◌≡◌, ℕ, zero, suc, ◌-◌, ◌≤◌, if◌then◌else◌, List, [], ◌∷◌, ◌++◌, length, drop, Some, None, Option, Result, MatchResult, ◌==◌}
use Rattle.tile.specs.declared.fault.Ground.{Ground}
use Rattle.dump.specs.declared.pixels.PixelAt.{PixelAt}
use Rattle.dump.specs.declared.pixels.Pixels.{Pixels}
use Rattle.dump.specs.declared.walk.Walk.{Walk}
use Rattle.dump.specs.Phases.{Phase, Before, Between, Behind, phase}
use Rattle.dump.specs.Bytes.{words_in}
use Rattle.dump.specs.Grammar.{Placed}
use Rattle.dump.specs.Order.{next, refusal}
use Rattle.dump.specs.Records.{kind_told, kind_at, body_at, behind}

-- the pixel that a sound record places at a stage, if it is a pixel record
abbrev pub placed : Phase → ℕ → List ℕ → List Placed
placed Before k b = []
placed (Between p) k b = if kind_told k == 0 then [] else record { rank = p.sections - 1; number = p.due; words = words_in b } ∷ []
placed (Behind h) k b = []

-- no pixels where a record is refused
abbrev pub if_sound : Option Ground → List Placed → List Placed
if_sound None ps = ps
if_sound (Some g) ps = []

-- the pixels of the sound records from a stage on, of at most n records
unfoldable pub pixels_by : ℕ → Phase → List ℕ → List Placed
pixels_by zero s rest = []
pixels_by (suc n) s rest = if_sound (refusal s rest) (placed s (kind_at rest) (body_at rest) ++ pixels_by n (next s (kind_at rest) (body_at rest)) (behind rest))

-- a record takes a byte at least, so there are no more records than bytes
abbrev pub pixels_from : Phase → List ℕ → List Placed
pixels_from s rest = pixels_by (length rest) s rest

abbrev pub pixels_in : List ℕ → List Placed
pixels_in bytes = pixels_from Before bytes

-- the pixel that is handed out
abbrev pub item : PixelAt → Placed
item f = record { rank = f.rank; number = f.number; words = words_in f.body.now }

-- the bytes behind the cursor
abbrev pub ahead : Walk → List ℕ
ahead w = drop w.reader.at w.reader.bytes.now

-- the pixels that are still to be handed out
abbrev pub left : Pixels → List Placed
left c = pixels_from (phase c.walk.stage) (ahead c.walk)

-- the next pixel is handed out, its body no longer than five words; or there is none, now and later
abbrev pub Given : List Placed → Option PixelAt → List Placed → Type 0
Given before (Some f) after = (before ≡ item f ∷ after) × (length f.body.now ≤ 20)
Given before None after = (before ≡ []) × (after ≡ [])

-- the pixel that a record places, if any
abbrev pub placed_by : Option PixelAt → List Placed
placed_by (Some f) = item f ∷ []
placed_by None = []

-- its body is no longer than five words
abbrev pub Short : Option PixelAt → Type 0
Short (Some f) = length f.body.now ≤ 20
Short None = Unit {0}

-- a sound record was taken, which placed the pixel o, if any
pub record Taken (before : Walk) (o : Option PixelAt) (after : Walk) : Type 0 where
  pub same : after.reader.bytes.now ≡ before.reader.bytes.now
  pub sound : refusal (phase before.stage) (ahead before) ≡ None
  pub stage : phase after.stage ≡ next (phase before.stage) (kind_at (ahead before)) (body_at (ahead before))
  pub rest : ahead after ≡ behind (ahead before)
  pub pixel : placed_by o ≡ placed (phase before.stage) (kind_at (ahead before)) (body_at (ahead before))
  pub short : Short o

-- a sound record was taken; or one was refused, and all stays
abbrev pub Stepped : Walk → Result (Option PixelAt) Ground → Walk → Type 0
Stepped before r after = MatchResult r (λ o. Taken before o after) (λ g. (refusal (phase before.stage) (ahead before) ≡ Some g) × (after ≡ before))
