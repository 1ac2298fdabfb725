-- Sums over a plan's rounds: the sizes of a rank's groups, and the pixels that it sends. Assumes nothing.
use Rattle.std.specs.Prelude.{◌≡◌, ℕ, zero, suc, ◌+◌, ◌<◌, Bool, if◌then◌else◌, not, ◌&&◌, ◌==◌, ◌≢◌}
use Rattle.plan.specs.Model.{PlanModel, piece}
use Rattle.plan.specs.Runs.{In, has}

-- the sum of f 0, .., f (n - 1)
abbrev pub sum_below : (ℕ → ℕ) → ℕ → ℕ
sum_below f zero = 0
sum_below f (suc n) = sum_below f n + f n

-- how many numbers below n pass the test
abbrev pub count_below : (ℕ → Bool) → ℕ → ℕ
count_below f n = sum_below (λ k. if f k then 1 else 0) n

-- the sum of the sizes of a rank's groups, round 0 left out
abbrev pub group_sizes : PlanModel → ℕ → ℕ
group_sizes p r = sum_below (λ t. (p.group (suc t) r).len) p.rounds

-- how many pixels of rank r's old span lie outside its new one, going on from round t
abbrev pub leaving : PlanModel → ℕ → ℕ → ℕ
leaving p r t = count_below (λ x. has (p.span t r) x && not (has (p.span (suc t) r) x)) p.pixels

-- how many pixels a rank sends over all rounds
abbrev pub sent : PlanModel → ℕ → ℕ
sent p r = sum_below (leaving p r) p.rounds

-- how many pixels rank f sends to rank m, going on from round t; none to itself
abbrev pub sent_to : PlanModel → ℕ → ℕ → ℕ → ℕ
sent_to p t f m = if m == f then 0 else (piece p t f m).len

-- what rank f sends, going on from round t, is what is left of its old span outside the new one
pub record IsLeft (p : PlanModel) (t f : ℕ) : Type 0 where
  -- a piece for another member of the new group lies in the old span and outside the new one
  pub outside_new : (m x : ℕ) → In (p.group (suc t) f) m → (m ≢ f) → In (piece p t f m) x → In (p.span t f) x × (In (p.span (suc t) f) x → ⊥)
  -- each position of the old span outside the new one lies in the piece for another member
  pub covered : (x : ℕ) → In (p.span t f) x → (In (p.span (suc t) f) x → ⊥) → (m : ℕ) × In (p.group (suc t) f) m × (m ≢ f) × In (piece p t f m) x
  -- so the pixels that go to the members of the new group are as many as leave
  pub counted : sum_below (λ i. sent_to p t f ((p.group (suc t) f).start + i)) (p.group (suc t) f).len ≡ leaving p f t

-- this holds in every round of every plan
abbrev pub PiecesAreLeft : Type 0
PiecesAreLeft = (p : PlanModel) (t f : ℕ) → t < p.rounds → f < p.ranks → IsLeft p t f
