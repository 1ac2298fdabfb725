-- The promise of a merge over every list of calls after an accepted opening. Assumes nothing.
use Rattle.std.specs.Prelude.{◌≡◌, ℕ, ◌<◌, ◌≤◌, ◌↔◌, List}
use Rattle.tile.specs.declared.fault.Fault.TheVariants.{Call as CallFault}
use Rattle.tile.specs.declared.fault.Ground.TheVariants.{Finished}
use Rattle.tile.specs.Kinds.{Kind}
use Rattle.plan.specs.Amounts.{sent}
use Rattle.laws.specs.Answers.{Answer, Accepted, Shown, Refused}
use Rattle.laws.specs.Calls.{Event, Step, Show, answer, LeadsTo}
use Rattle.laws.specs.History.{picture_at, IsClosed, HadAllSteps, IsFinished}
use Rattle.laws.specs.Machine.{Machine, Brought, Alike, join_all}
use Rattle.laws.specs.Opening.{open_answer, opened}

-- a pixel is shown
abbrev pub Shows : {X : Type 0} → Answer X → Type 0
Shows {X} a = (v : X) × (a ≡ Shown v)

module _ {X R : Type 0} (K : Kind X R) (b : Brought) where
  -- every rank has the property
  abbrev pub EveryRank : (ℕ → Type 0) → Type 0
  EveryRank P = (r : ℕ) → r < b.plan.ranks → P r

  -- the sentences of the promise, after the calls es have led to the machine S
  pub record Kept (es : List (Event X)) (S : Machine X) : Type 0 where
    -- Show accepts a pixel of the tile exactly when every rank is finished;
    pub shows : (x : ℕ) → x < b.plan.pixels → Shows (answer K b S (Show x)) ↔ EveryRank (IsFinished K b.plan es)
    -- it then gives the join of all closed pictures at that pixel, in rank order from the front.
    pub frame : (x : ℕ) → x < b.plan.pixels → EveryRank (IsFinished K b.plan es) → answer K b S (Show x) ≡ Shown (join_all K (λ r. picture_at K b.plan es r x) 0 b.plan.ranks)
    -- While all pictures are closed and a rank is unfinished, some rank's step would be accepted, if brought enough memory.
    pub goes_on : EveryRank (IsClosed K b.plan es) → (r : ℕ) → r < b.plan.ranks → ¬ (IsFinished K b.plan es r) → (m : ℕ) × (m < b.plan.ranks) × ((area : ℕ) → b.longest ≤ area → answer K b S (Step m area) ≡ Accepted)
    -- Brought that, a closed rank's step is refused as finished exactly when the rank has had all its steps.
    pub ends : (r area : ℕ) → r < b.plan.ranks → b.longest ≤ area → IsClosed K b.plan es r → (answer K b S (Step r area) ≡ Refused (CallFault Finished r)) ↔ HadAllSteps K b.plan es r
    -- A finished rank's count of sent pixels is the sum, over the rounds, of the pixels of its old span outside its new one.
    pub sent_pixels : (r : ℕ) → r < b.plan.ranks → IsFinished K b.plan es r → (S.entry r).sent ≡ sent b.plan r

  -- the promise is kept after every list of calls from the machine S₀ on
  abbrev pub Promised : Machine X → Type 0
  Promised S₀ = (es : List (Event X)) (S : Machine X) → LeadsTo K b S₀ es S → Kept es S

-- it is kept from what any accepted opening leaves, with any plan, planes and link
abbrev pub Stands : {X R : Type 0} → Kind X R → Type 0
Stands {X} K = (b : Brought) (S S₀ : Machine X) → open_answer K b S ≡ Accepted → Alike S₀ (opened K b S) → Promised K b S₀
