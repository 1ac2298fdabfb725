-- What a plan is: for each round and rank a group of ranks and a span of pixels, and the five rules. Assumes nothing.
use Rattle.std.specs.Prelude.{◌≡◌, ℕ, suc, ◌+◌, ◌<◌, ◌≤◌}
use Rattle.plan.specs.declared.runs.Run.{Run}
use Rattle.plan.specs.Runs.{run_of, In, common}

-- how many ranks and pixels there may be
abbrev pub Limits : ℕ → ℕ → Type 0
Limits ranks pixels = ((1 ≤ ranks) × (ranks ≤ 32)) × ((1 ≤ pixels) × (pixels ≤ 1024))

pub record PlanModel : Type 0 where
  -- how many ranks, pixels and rounds there are, round 0 left out
  pub ranks : ℕ
  pub pixels : ℕ
  pub rounds : ℕ
  -- by round and rank: the ranks that have merged, and the pixels that the rank holds
  pub group : ℕ → ℕ → Run
  pub span : ℕ → ℕ → Run
  -- 1 to 32 ranks, 1 to 1,024 pixels, at most 16 rounds
  pub rank_limit : (1 ≤ ranks) × (ranks ≤ 32)
  pub pixel_limit : (1 ≤ pixels) × (pixels ≤ 1024)
  pub round_limit : rounds ≤ 16
  -- a group is made of the plan's ranks, a span lies in the tile
  pub group_within : (t r : ℕ) → t ≤ rounds → r < ranks → (group t r).start + (group t r).len ≤ ranks
  pub span_within : (t r : ℕ) → t ≤ rounds → r < ranks → (span t r).start + (span t r).len ≤ pixels
  -- in round 0 each rank's group is itself and its span is the whole tile
  pub alone : (r : ℕ) → r < ranks → group 0 r ≡ run_of r 1
  pub whole : (r : ℕ) → r < ranks → span 0 r ≡ run_of 0 pixels
  -- each rank lies in its group, and all members of a group have that same group
  pub member : (t r : ℕ) → t ≤ rounds → r < ranks → In (group t r) r
  pub shared : (t r m : ℕ) → t ≤ rounds → r < ranks → In (group t r) m → group t m ≡ group t r
  -- in each round and group each position lies in the span of exactly one member
  pub one_holder : (t r x : ℕ) → t ≤ rounds → r < ranks → x < pixels → (m : ℕ) × In (group t r) m × In (span t m) x × ((k : ℕ) → In (group t r) k → In (span t k) x → k ≡ m)
  -- each group of a round consists of whole groups of the round before
  pub nested : (t r m : ℕ) → t < rounds → r < ranks → In (group (suc t) r) m → ((group (suc t) r).start ≤ (group t m).start) × ((group t m).start + (group t m).len ≤ (group (suc t) r).start + (group (suc t) r).len)
  -- in the last round one group holds all ranks
  pub all_together : (r : ℕ) → r < ranks → group rounds r ≡ run_of 0 ranks

-- what rank f has, going on from round t, of rank m's new span
abbrev pub piece : PlanModel → ℕ → ℕ → ℕ → Run
piece p t f m = common (p.span t f) (p.span (suc t) m)
