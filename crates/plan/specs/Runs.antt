-- Runs of neighbouring numbers, and shares of nearly equal length. Assumes nothing.
use Rattle.std.specs.Prelude.{ℕ, ◌+◌, ◌-◌, ◌*◌, ◌/◌, ◌<◌, ◌≤◌, min, max, Bool, ◌&&◌, nat_le, nat_lt}
use Rattle.plan.specs.declared.runs.Run.{Run}

-- so many numbers from the first on
abbrev pub run_of : ℕ → ℕ → Run
run_of first count = record { start = first; len = count }

-- x lies in the run
abbrev pub In : Run → ℕ → Type 0
In s x = (s.start ≤ x) × (x < s.start + s.len)

-- the same as a test
abbrev pub has : Run → ℕ → Bool
has s x = nat_le s.start x && nat_lt x (s.start + s.len)

-- the common part of two runs
abbrev pub common : Run → Run → Run
common a b = record {
  start = max a.start b.start;
  len = min (a.start + a.len) (b.start + b.len) - max a.start b.start;
}

-- where part j begins if p positions are shared out in n parts
abbrev pub cut : ℕ → ℕ → ℕ → ℕ
cut p n j = j * p / n

-- part j: from its beginning to just before the next
abbrev pub share : ℕ → ℕ → ℕ → Run
share p n j = run_of (cut p n j) (cut p n (j + 1) - cut p n j)
