-- The kinds of records, by their numbers. Assumes nothing.
use Rattle.std.specs.Prelude.{◌≡◌, ℕ, Result, MatchResult}
use Rattle.tile.specs.declared.fault.Ground.{Ground}
use Rattle.tile.specs.declared.fault.Ground.TheVariants.{UnknownRecord}
use Rattle.dump.specs.declared.record.RecordKind.{RecordKind}
use Rattle.dump.specs.declared.record.RecordKind.TheVariants.{Head, Rank, Place, Near, Cover, End}
use Rattle.dump.specs.Records.{Known}

-- the byte that begins a record of the kind
abbrev pub record_number : RecordKind → ℕ
record_number Head = 1
record_number Rank = 2
record_number Place = 3
record_number Near = 4
record_number Cover = 5
record_number End = 6

-- the kind with this number, or the ground that no kind has it
abbrev pub HasNumber : ℕ → Result RecordKind Ground → Type 0
HasNumber n r = MatchResult r (λ k. record_number k ≡ n) (λ g. (g ≡ UnknownRecord) × (Known n → ⊥))
