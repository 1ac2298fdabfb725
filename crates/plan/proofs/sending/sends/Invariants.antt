use Rattle.std.proofs.Common.{◌≡◌}
use Rattle.plan.specs.Amounts.{sum_below, leaving}
use Rattle.plan.proofs.sending.sends.Given as goal

abbrev pub invariant-loop-round : goal.invariant-loop-round
invariant-loop-round g l = record {
  sum_is : l.sum ≡ sum_below (leaving (g.P.Plan.model l.plan) l.rank) l.round;
  old_is : l.old ≡ (g.P.Plan.model l.plan).span l.round l.rank;
}
