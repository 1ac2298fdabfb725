-- A record at a cursor of a dump. Assumes nothing.
use Rattle.std.specs.Prelude.{◌≡◌, ℕ, ◌+◌, ◌≤◌, List, length, drop}
use Rattle.dump.specs.declared.record.Item.{Item}
use Rattle.dump.specs.Records.{Leads, body_size, kind_of}

-- item stands at the cursor `at`
pub record StandsAt (bytes : List ℕ) (at : ℕ) (item : Item) : Type 0 where
  pub offset : item.offset ≡ at
  pub leads : Leads item.content (drop at bytes)

-- item stands at the cursor `at`, and ends at `after`
pub record Stands (bytes : List ℕ) (at : ℕ) (item : Item) (after : ℕ) : Type 0 where
  pub offset : item.offset ≡ at
  pub leads : Leads item.content (drop at bytes)
  pub next : after ≡ at + (1 + body_size (kind_of item.content))
  pub within : after ≤ length bytes
