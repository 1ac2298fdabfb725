use Rattle.std.proofs.Common.{◌≡◌, min, ap, ◌∙◌, arith, pow_pos}
use Rattle.std.proofs.Math.Nat.{min-le_right}
use Rattle.std.proofs.lemmas.Nat.{one_shl}
use Rattle.plan.specs.Makers.{swap_of}
use Rattle.plan.specs.SwapRules.{width_le}
use Rattle.plan.proofs.swap.SwapPlan.width_at.Goals as goal

pub returns-clause-fits : goal.returns-clause-fits
returns-clause-fits c =
    let p = c.args.self.now in
    let m = swap_of p in
    let t = c.min.result in
    let limits = p.counts.limits in
    let e : t ≡ min c.args.round m.rounds = c.min.ensures ∙ ap (min c.args.round) c.rounds.ensures in
    let last = min-le_right c.args.round m.rounds in
    let le = width_le p.counts.ranks 1 limits.0 t (omega arith) in
    let few = m.round_limit in
    omega (arith, one_shl t 32 (omega arith), pow_pos t)
