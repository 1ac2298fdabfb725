-- The records of a dump: one byte of kind, then a body whose length the kind fixes. Assumes nothing.
use Rattle.std.specs.Prelude.{◌≡◌, ℕ, ◌+◌, ◌*◌, ◌≤◌, Bool, if◌then◌else◌, not, ◌&&◌, List, [], ◌∷◌, ◌++◌, length, take, drop, Option, ◌==◌, nat_le, nat_lt, slice_index}
use Rattle.tile.specs.declared.fault.Ground.{Ground}
use Rattle.tile.specs.declared.fault.Ground.TheVariants.{UnknownRecord, CutShort}
use Rattle.tile.specs.Answers.{first}
use Rattle.tile.specs.Named.{named_width}
use Rattle.dump.specs.declared.record.Record.{Record}
use Rattle.dump.specs.declared.record.Record.TheVariants.{Head, Rank, Place, Near, Cover, End}

-- HEAD, RANK, PLACE, the pixel records and END
abbrev pub Known : ℕ → Type 0
Known k = (1 ≤ k) × (k ≤ 6)

-- the pixel kind of a pixel record, 0 of any other
abbrev pub kind_told : ℕ → ℕ
kind_told k = if k == 4 then 1 else (if k == 5 then 2 else 0)

-- how long a body of kind k is: a pixel record has the four bytes of each word
abbrev pub body_size : ℕ → ℕ
body_size k = if k == 1 then 4 else (if k == 2 then 1 else (if k == 3 then 2 else 4 * named_width (kind_told k)))

abbrev pub kind_of : Record → ℕ
kind_of (Head b) = 1
kind_of (Rank b) = 2
kind_of (Place b) = 3
kind_of (Near b) = 4
kind_of (Cover b) = 5
kind_of End = 6

abbrev pub body_of : Record → List ℕ
body_of (Head b) = b.now
body_of (Rank b) = b.now
body_of (Place b) = b.now
body_of (Near b) = b.now
body_of (Cover b) = b.now
body_of End = []

-- the record's bytes in the dump
abbrev pub bytes_of : Record → List ℕ
bytes_of r = kind_of r ∷ body_of r

-- the record stands first in rest
pub record Leads (r : Record) (rest : List ℕ) : Type 0 where
  pub whole : length (body_of r) ≡ body_size (kind_of r)
  pub front : rest ≡ bytes_of r ++ drop (1 + body_size (kind_of r)) rest

-- kind and body of what stands at the front, and what lies behind it
abbrev pub kind_at : List ℕ → ℕ
kind_at rest = slice_index rest 0

abbrev pub body_at : List ℕ → List ℕ
body_at rest = take (body_size (kind_at rest)) (drop 1 rest)

abbrev pub behind : List ℕ → List ℕ
behind rest = drop (1 + body_size (kind_at rest)) rest

-- a byte is left, and no record has that kind
abbrev pub unknown : List ℕ → Bool
unknown rest = nat_lt 0 (length rest) && not (nat_le 1 (kind_at rest) && nat_le (kind_at rest) 6)

-- no byte is left, or fewer than the record has
abbrev pub cut : List ℕ → Bool
cut rest = nat_lt (length rest) (1 + body_size (kind_at rest))

-- the ground on which no record stands at the front, if none does
abbrev pub no_record : List ℕ → Option Ground
no_record rest = first ((UnknownRecord, unknown rest) ∷ (CutShort, cut rest) ∷ [])
