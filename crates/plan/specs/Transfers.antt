-- The transfer list. Assumes nothing.
use Rattle.std.specs.Prelude.{◌≡◌, ℕ, suc, ◌<◌, ◌≤◌, List, ◌∷◌, ◌++◌, length, take, drop, Ok, Err, Result, ◌≢◌}
use Rattle.std.specs.List.{AllByRecursion}
use Rattle.tile.specs.declared.fault.Fault.{Fault}
use Rattle.tile.specs.declared.fault.Ground.TheVariants.{TooShort}
use Rattle.tile.specs.Faults.{unranked}
use Rattle.plan.specs.declared.transfer.Transfer.{Transfer}
use Rattle.plan.specs.Model.{PlanModel, piece}
use Rattle.plan.specs.Runs.{In}

-- what rank f has for rank r, going on from round t
abbrev pub transfer_of : PlanModel → ℕ → ℕ → ℕ → Transfer
transfer_of p t f r = record { round = suc t; sender = f; receiver = r; piece = piece p t f r }

-- x is a piece that is not empty, between different ranks of one new group
pub record IsTransfer (p : PlanModel) (x : Transfer) : Type 0 where
  pub before : ℕ
  pub early : before < p.rounds
  pub known : x.sender < p.ranks
  pub together : In (p.group (suc before) x.sender) x.receiver
  pub different : x.sender ≡ x.receiver → ⊥
  pub filled : 0 < x.piece.len
  pub is : x ≡ transfer_of p before x.sender x.receiver

-- x stands in the list exactly once
abbrev pub Once : Transfer → List Transfer → Type 0
Once x xs = (front : List Transfer) × (back : List Transfer) × (xs ≡ front ++ x ∷ back) × AllByRecursion (λ y. y ≢ x) (front ++ back)

pub record Lists (p : PlanModel) (xs : List Transfer) : Type 0 where
  -- nothing else is there
  pub sound : AllByRecursion (IsTransfer p) xs
  -- every piece is there, and none twice
  pub complete : (x : Transfer) → IsTransfer p x → Once x xs

-- the first n entries are the list and the others are as they were; or the area has fewer entries than any such list, and is as it was
abbrev pub Listed : PlanModel → List Transfer → List Transfer → Result ℕ Fault → Type 0
Listed p old new (Ok n) = (n ≤ length old) × Lists p (take n new) × (drop n new ≡ drop n old)
Listed p old new (Err f) = (f ≡ unranked TooShort) × (new ≡ old) × ((xs : List Transfer) → Lists p xs → length old < length xs)
