-- What the plan makers make, and what they refuse. Assumes nothing.
use Rattle.std.specs.Prelude.{◌≡◌, ℕ, suc, ◌^◌, ◌<◌, ◌≤◌, ◌⊎◌, List, length, take, Ok, Err, Result}
use Rattle.tile.specs.declared.fault.Fault.{Fault}
use Rattle.tile.specs.declared.fault.Fault.TheVariants.{Plan}
use Rattle.tile.specs.declared.fault.Ground.TheVariants.{OffLimits, Unsuited}
use Rattle.plan.specs.declared.radix.RadixPlan.{RadixPlan}
use Rattle.plan.specs.declared.swap.SwapPlan.{SwapPlan}
use Rattle.plan.specs.Factors.{factor, Suits}
use Rattle.plan.specs.Model.{Limits, PlanModel}
use Rattle.plan.specs.Radix as radix
use Rattle.plan.specs.RadixRules.{radix_model}
use Rattle.plan.specs.Swap as swap
use Rattle.plan.specs.SwapRules.{swap_model}

-- the factors that count
abbrev pub factors_of : RadixPlan → List ℕ
factors_of p = take p.factors.count p.factors.values

-- what a radix plan stands for
abbrev pub radix_of : RadixPlan → PlanModel
radix_of p = radix_model p.counts.ranks p.counts.pixels (factors_of p) p.counts.limits p.suits

-- what a 2-3 plan stands for
abbrev pub swap_of : SwapPlan → PlanModel
swap_of p = swap_model p.counts.ranks p.counts.pixels p.counts.limits

-- the radix plan of R ranks, P pixels and factors ks
pub record IsRadix (R P : ℕ) (ks : List ℕ) (p : PlanModel) : Type 0 where
  pub ranks : p.ranks ≡ R
  pub pixels : p.pixels ≡ P
  pub rounds : p.rounds ≡ length ks
  pub group : p.group ≡ radix.group (factor ks)
  pub span : p.span ≡ radix.span (factor ks) P

-- the 2-3 plan of R ranks and P pixels: the last round is the largest t with 2 ^ t at most R
pub record IsSwap (R P : ℕ) (p : PlanModel) : Type 0 where
  pub ranks : p.ranks ≡ R
  pub pixels : p.pixels ≡ P
  pub rounds : (2 ^ p.rounds ≤ R) × (R < 2 ^ suc p.rounds)
  pub group : p.group ≡ swap.group R
  pub span : p.span ≡ swap.span R P

-- made exactly if the counts are within their limits and the factors suit; the limits are looked at first
abbrev pub RadixMade : ℕ → ℕ → List ℕ → Result RadixPlan Fault → Type 0
RadixMade R P ks (Ok p) = Limits R P × Suits R ks × IsRadix R P ks (radix_of p)
RadixMade R P ks (Err f) = ((Limits R P → ⊥) × (f ≡ Plan OffLimits)) ⊎ (Limits R P × (Suits R ks → ⊥) × (f ≡ Plan Unsuited))

-- made exactly if the counts are within their limits
abbrev pub SwapMade : ℕ → ℕ → Result SwapPlan Fault → Type 0
SwapMade R P (Ok p) = Limits R P × IsSwap R P (swap_of p)
SwapMade R P (Err f) = (Limits R P → ⊥) × (f ≡ Plan OffLimits)
