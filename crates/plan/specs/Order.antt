-- All transfers in the order in which they are written, and how they are written into an area. Assumes nothing.
use Rattle.std.specs.Prelude.{◌≡◌, ℕ, zero, suc, ◌+◌, ◌≤◌, if◌then◌else◌, List, [], ◌∷◌, ◌++◌, length, take, drop, ◌==◌}
use Rattle.plan.specs.declared.listing.Listing.{Listing}
use Rattle.plan.specs.declared.transfer.Transfer.{Transfer}
use Rattle.plan.specs.Model.{PlanModel}
use Rattle.plan.specs.Transfers.{transfer_of, Lists}

-- the lists g 0, g 1, .. before g n, one after another
abbrev pub up_to : (ℕ → List Transfer) → ℕ → List Transfer
up_to g zero = []
up_to g (suc n) = up_to g n ++ g n

-- the transfer from rank f to rank r, if there is one
abbrev pub between : PlanModel → ℕ → ℕ → ℕ → List Transfer
between p t f r = if f == r then [] else (if (transfer_of p t f r).piece.len == 0 then [] else transfer_of p t f r ∷ [])

-- to member i of rank f's new group
abbrev pub to_place : PlanModel → ℕ → ℕ → ℕ → List Transfer
to_place p t f i = between p t f ((p.group (suc t) f).start + i)

-- all that rank f sends, going on from round t
abbrev pub from : PlanModel → ℕ → ℕ → List Transfer
from p t f = up_to (to_place p t f) (p.group (suc t) f).len

-- all that ranks send, going on from round t
abbrev pub in_round : PlanModel → ℕ → List Transfer
in_round p t = up_to (from p t) p.ranks

-- all that they send
abbrev pub all_rounds : PlanModel → List Transfer
all_rounds p = up_to (in_round p) p.rounds

-- ys goes to the places from n up to k, if there are so many
pub record Put (ys : List Transfer) (n : ℕ) (old new : List Transfer) (k : ℕ) : Type 0 where
  pub next : k ≡ n + length ys
  pub front : k ≤ length old → take k new ≡ take n old ++ ys
  pub rest : k ≤ length old → drop k new ≡ drop k old

-- ys goes behind what is listed already, in the same area
pub record Adds (ys : List Transfer) (old new : Listing) : Type 0 where
  pub same_area : new.area.ghost_name ≡ old.area.ghost_name
  pub same_length : length new.area.now ≡ length old.area.now
  pub put : Put ys old.count old.area.now new.area.now new.count

-- all transfers are in the first n entries, if the area has so many, and no list of them is shorter
pub record Wrote (p : PlanModel) (old new : List Transfer) (n : ℕ) : Type 0 where
  pub count : n ≡ length (all_rounds p)
  pub least : (xs : List Transfer) → Lists p xs → n ≤ length xs
  pub listed : n ≤ length old → Lists p (take n new) × (drop n new ≡ drop n old)
