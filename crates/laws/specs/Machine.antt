-- A merge with its pixels and its link, by rank; and what calls bring. Assumes nothing.
use Rattle.std.specs.Prelude.{◌≡◌, ℕ, zero, suc, ◌+◌, ◌*◌, ◌<◌, Bool, false, if◌then◌else◌, not, ◌||◌, ◌≢◌, List, [], ◌∷◌, ◌==◌, nat_lt}
use Rattle.tile.specs.Kinds.{Kind}
use Rattle.plan.specs.Model.{PlanModel}
use Rattle.link.specs.Model.{BoxState}
use Rattle.laws.specs.declared.records.RankRecord.{RankRecord}

pub record Machine (X : Type 0) : Type 0 where
  -- the ranks and pixels of the last accepted opening, 0 before
  pub ranks : ℕ
  pub pixels : ℕ
  -- the record of each rank
  pub entry : ℕ → RankRecord
  -- the two rows of each rank, by pixel number
  pub held : ℕ → ℕ → X
  pub gathered : ℕ → ℕ → X
  -- the boxes, by sender and receiver
  pub box : ℕ → ℕ → BoxState

-- how many records the two planes have that a call brings
pub record Planes : Type 0 where
  pub held_length : ℕ
  pub gathered_length : ℕ

-- what an opening brings, and the calls after it: the plan, the planes, and the link with its ranks and longest message
pub record Brought : Type 0 where
  pub plan : PlanModel
  pub planes : Planes
  pub link_ranks : ℕ
  pub longest : ℕ

-- the two agree on the ranks and pixels of the last opening
pub record Alike {X : Type 0} (S S' : Machine X) : Type 0 where
  pub same_ranks : S.ranks ≡ S'.ranks
  pub same_pixels : S.pixels ≡ S'.pixels
  pub entries : (r : ℕ) → r < S.ranks → S.entry r ≡ S'.entry r
  pub held_rows : (r x : ℕ) → r < S.ranks → x < S.pixels → S.held r x ≡ S'.held r x
  pub gathered_rows : (r x : ℕ) → r < S.ranks → x < S.pixels → S.gathered r x ≡ S'.gathered r x
  pub boxes : (f m : ℕ) → f < S.ranks → m < S.ranks → f ≢ m → S.box f m ≡ S'.box f m

-- some number below n passes the test
abbrev pub any_below : (ℕ → Bool) → ℕ → Bool
any_below f zero = false
any_below f (suc n) = any_below f n || f n

-- f a, .., f (a + n - 1)
abbrev pub strip : {X : Type 0} → (ℕ → X) → ℕ → ℕ → List X
strip f a zero = []
strip f a (suc n) = f a ∷ strip f (suc a) n

-- the join of f a, .., f (a + n - 1), from the front
abbrev pub join_all : {X R : Type 0} → Kind X R → (ℕ → X) → ℕ → ℕ → X
join_all K f a zero = K.blank
join_all K f a (suc n) = K.join (join_all K f a n) (f (a + n))

-- one rank's record changed
abbrev pub changed_entry : ℕ → RankRecord → (ℕ → RankRecord) → ℕ → RankRecord
changed_entry r e entries q = if q == r then e else entries q

-- one rank's row changed
abbrev pub changed_row : {X : Type 0} → ℕ → (ℕ → X) → (ℕ → ℕ → X) → ℕ → ℕ → X
changed_row r row rows q x = if q == r then row x else rows q x

-- a plane has fewer records than so many ranks and pixels need
abbrev pub short : Planes → ℕ → ℕ → Bool
short b ranks pixels = nat_lt b.held_length (ranks * pixels) || nat_lt b.gathered_length (ranks * pixels)

-- a link has fewer ranks than these, or its longest message has fewer words
abbrev pub weak_link : ℕ → ℕ → ℕ → ℕ → Bool
weak_link link_ranks longest ranks words = nat_lt link_ranks ranks || nat_lt longest words

-- the plan is for another number of ranks or pixels
abbrev pub other_plan : PlanModel → ℕ → ℕ → Bool
other_plan p ranks pixels = not (p.ranks == ranks) || not (p.pixels == pixels)
