-- The groups and spans of the radix plan with the factors k 0, k 1, .. Assumes nothing.
use Rattle.std.specs.Prelude.{ℕ, zero, suc, ◌+◌, ◌*◌, ◌/◌, ◌%◌}
use Rattle.plan.specs.declared.runs.Run.{Run}
use Rattle.plan.specs.Factors.{width}
use Rattle.plan.specs.Runs.{run_of, share}

-- the group of rank r in round t: as many ranks as the first t factors make
abbrev pub group : (ℕ → ℕ) → ℕ → ℕ → Run
group k t r = run_of (r / width k t * width k t) (width k t)

-- which part of its span rank r keeps in going from round t on
abbrev pub digit : (ℕ → ℕ) → ℕ → ℕ → ℕ
digit k t r = r / width k t % k t

-- part d of n of a run
abbrev pub part : Run → ℕ → ℕ → Run
part s n d = run_of (s.start + (share s.len n d).start) (share s.len n d).len

-- a part of the span of the round before, from the P pixels of the tile on
unfoldable pub span : (ℕ → ℕ) → ℕ → ℕ → ℕ → Run
span k P zero r = run_of 0 P
span k P (suc t) r = part (span k P t r) (k t) (digit k t r)
