use Rattle.std.proofs.Common.{◌^◌, ◌<◌, ◌≤◌, suc, arith, ⊎_elim, pow_mono, pow-suc}
use Rattle.plan.specs.Swap.{top}
use Rattle.plan.specs.SwapRules.{top_le, top_lt}
use Rattle.std.proofs.lemmas.Bool.{cases_lt}
use Rattle.plan.proofs.swap_plan.SwapPlanPlan.rounds.Goals as goal

pub returns : goal.returns
returns c =
    let R = c.args.self.now.counts.ranks in
    let limits = c.args.self.now.counts.limits in
    let t = c.ilog2.result in
    let u = top 5 R in
    let low = top_le 5 R limits.0.0 in
    let high = top_lt 5 R (omega (arith, limits)) in
    let next = pow-suc 2 t in
    let after = pow-suc 2 u in
    ⊎_elim
    (λ (h : t < u). let up : 2 ^ suc t ≤ 2 ^ u = pow_mono (omega arith) in absurd (omega arith))
    (λ (h : u ≤ t). ⊎_elim (λ (k : u < t). let up : 2 ^ suc u ≤ 2 ^ t = pow_mono (omega arith) in absurd (omega arith)) (λ (k : t ≤ u). omega arith) (cases_lt u t))
    (cases_lt t u)
