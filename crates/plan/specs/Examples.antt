-- Worked examples of the two plans. Assumes nothing.
use Rattle.std.specs.Prelude.{◌≡◌, ℕ, zero, suc, [], ◌∷◌, map, refl}
use Rattle.std.proofs.Common.{arith, lit≤}
use Rattle.plan.specs.Amounts.{group_sizes, sent}
use Rattle.plan.specs.Factors.{Each, Suits}
use Rattle.plan.specs.Model.{PlanModel}
use Rattle.plan.specs.RadixRules.{radix_model}
use Rattle.plan.specs.Runs.{run_of, In}
use Rattle.plan.specs.SwapRules.{swap_model}

each_fits : Each (2 ∷ 2 ∷ [])
each_fits zero h = (lit≤ tt, lit≤ tt)
each_fits (suc zero) h = (lit≤ tt, lit≤ tt)
each_fits (suc (suc t)) h = absurd (omega arith)

pub twos_suit : Suits 4 (2 ∷ 2 ∷ [])
twos_suit = (lit≤ tt, each_fits, refl)

-- 4 ranks, 10 pixels and the factors 2 and 2
abbrev pub radix : PlanModel
radix = radix_model 4 10 (2 ∷ 2 ∷ []) ((lit≤ tt, lit≤ tt), (lit≤ tt, lit≤ tt)) twos_suit

-- 5 ranks and 10 pixels
abbrev pub swap : PlanModel
swap = swap_model 5 10 ((lit≤ tt, lit≤ tt), (lit≤ tt, lit≤ tt))

pub record Examples : Type 0 where
  -- the ranks of the radix plan end with the spans from 0, 5, 2 and 7
  pub radix_ends : map (radix.span radix.rounds) (0 ∷ 1 ∷ 2 ∷ 3 ∷ []) ≡ (run_of 0 2 ∷ run_of 5 2 ∷ run_of 2 3 ∷ run_of 7 3 ∷ [])
  -- rank 0 sends 8 pixels, rank 2 sends 7
  pub radix_sends : map (sent radix) (0 ∷ 2 ∷ []) ≡ (8 ∷ 7 ∷ [])
  -- in round 1 the 2-3 plan has the groups 0 to 1 and 2 to 4
  pub swap_groups : map (swap.group 1) (0 ∷ 1 ∷ 2 ∷ 3 ∷ 4 ∷ []) ≡ (run_of 0 2 ∷ run_of 0 2 ∷ run_of 2 3 ∷ run_of 2 3 ∷ run_of 2 3 ∷ [])
  -- rank 4 then holds the pixels 6 to 9
  pub swap_holds : swap.span 1 4 ≡ run_of 6 4
  -- rank 2 sends 10 pixels, rank 4 sends 8
  pub swap_sends : map (sent swap) (2 ∷ 4 ∷ []) ≡ (10 ∷ 8 ∷ [])
  -- rank 0 is in groups of 2 and 5, rank 4 in groups of 3 and 5
  pub swap_sizes : map (group_sizes swap) (0 ∷ 4 ∷ []) ≡ (7 ∷ 8 ∷ [])
  -- a span need not lie inside that of the round before: in round 2 rank 2 holds a pixel that it did not hold in round 1
  pub not_inside : (x : ℕ) × In (swap.span 2 2) x × (In (swap.span 1 2) x → ⊥)
