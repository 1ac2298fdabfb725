-- The groups and spans of the 2-3 plan. Assumes nothing.
use Rattle.std.specs.Prelude.{ℕ, zero, suc, ◌+◌, ◌-◌, ◌*◌, ◌/◌, ◌^◌, min, if◌then◌else◌, ◌==◌, nat_le}
use Rattle.plan.specs.declared.runs.Run.{Run}
use Rattle.plan.specs.Runs.{run_of, share}

-- the largest t up to n with 2 ^ t at most R
abbrev pub top : ℕ → ℕ → ℕ
top zero R = 0
top (suc n) R = if nat_le (2 ^ suc n) R then suc n else top n R

-- which group rank r is in, if R ranks are cut into groups of w and the last one has what is left over too
abbrev pub index : ℕ → ℕ → ℕ → ℕ
index R w r = min (r / w) (R / w - 1)

-- its first rank
abbrev pub start : ℕ → ℕ → ℕ → ℕ
start R w r = index R w r * w

-- how many ranks it has: the last group runs to the last rank
abbrev pub size : ℕ → ℕ → ℕ → ℕ
size R w r = if index R w r + 1 == R / w then R - start R w r else w

-- the group itself
abbrev pub group_by : ℕ → ℕ → ℕ → Run
group_by R w r = run_of (start R w r) (size R w r)

-- in round t groups have 2 ^ t ranks
abbrev pub group : ℕ → ℕ → ℕ → Run
group R t r = group_by R (2 ^ t) r

-- the members of a group share out the P pixels of the tile in their order
abbrev pub span : ℕ → ℕ → ℕ → ℕ → Run
span R P t r = share P (group R t r).len (r - (group R t r).start)
