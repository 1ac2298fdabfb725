-- Lists of calls on a merge. Assumes nothing.
use Rattle.std.specs.Prelude.{ℕ, List, [], ◌∷◌}
use Rattle.tile.specs.Kinds.{Kind}
use Rattle.laws.specs.Answers.{Answer, Accepted, Shown, Refused}
use Rattle.laws.specs.Deliveries.{deliver_answer, put_answer, close_answer, after_deliver, after_put, after_close, after_withdraw}
use Rattle.laws.specs.Feeding.{Reading, feed_answer, after_feed}
use Rattle.laws.specs.Machine.{Machine, Brought, Alike}
use Rattle.laws.specs.Showing.{show_answer}
use Rattle.laws.specs.Stepping.{step_answer, after_step}

-- A call with what it brings of its own: a rank; a delivery's rank and next pixel, and a strip; a dump; the length of the word area; a pixel number.
pub data Call (X : Type 0) : Type 0 where
  Deliver : (rank : ℕ) → Call X
  Put : (rank next : ℕ) → List X → Call X
  Close : (rank next : ℕ) → Call X
  Withdraw : (rank next : ℕ) → Call X
  Feed : (bytes : List ℕ) → Reading bytes → Call X
  Step : (rank area : ℕ) → Call X
  Show : (pixel : ℕ) → Call X

-- a call and its answer
pub record Event (X : Type 0) : Type 0 where
  pub call : Call X
  pub answered : Answer X

module _ {X R : Type 0} (K : Kind X R) (b : Brought) where
  -- what a call answers that brings the plan, the planes and the link b
  abbrev pub answer : Machine X → Call X → Answer X
  answer S (Deliver r) = deliver_answer b.planes S r
  answer S (Put r n xs) = put_answer b.planes S r n xs
  answer S (Close r n) = close_answer S r n
  answer S (Withdraw r n) = Accepted
  answer S (Feed bytes d) = feed_answer K b.planes S d
  answer S (Step r area) = step_answer K b S r area
  answer S (Show x) = show_answer K b.plan b.planes S x

  -- what an accepted call leaves
  abbrev pub after : Machine X → Call X → Machine X
  after S (Deliver r) = after_deliver K S r
  after S (Put r n xs) = after_put K S r n xs
  after S (Close r n) = after_close S r n
  after S (Withdraw r n) = after_withdraw S r n
  after S (Feed bytes d) = after_feed K S d
  after S (Step r area) = after_step K b S r
  after S (Show x) = S

  -- a refused call leaves everything as it was
  abbrev pub left_by : Answer X → Machine X → Machine X → Machine X
  left_by Accepted S S' = S'
  left_by (Shown x) S S' = S
  left_by (Refused f) S S' = S

  -- what a call leaves
  abbrev pub left : Machine X → Call X → Machine X
  left S c = left_by (answer S c) S (after S c)

  -- the calls, with their answers and the newest first, lead from one machine to another
  pub data LeadsTo (S₀ : Machine X) : List (Event X) → Machine X → Type 0 where
    start : LeadsTo S₀ [] S₀
    then : {es : List (Event X)} {S : Machine X} → LeadsTo S₀ es S → (c : Call X) {S' : Machine X} → Alike S' (left S c) → LeadsTo S₀ (record { call = c; answered = answer S c } ∷ es) S'
