use Rattle.std.proofs.Common.{◌≡◌, ◌/◌}
use Rattle.plan.specs.Factors.{factor, width}
use Rattle.plan.specs.Makers.{factors_of}
use Rattle.plan.specs.Radix.{span}
use Rattle.plan.proofs.radix.RadixPlan.span_at.Given as goal

abbrev pub invariant-loop-parts : goal.invariant-loop-parts
invariant-loop-parts l = record {
  rest_is : l.rest ≡ l.rank / width (factor (factors_of l.self)) l.parts-index;
  span_is : l.span ≡ span (factor (factors_of l.self)) l.self.counts.pixels l.parts-index l.rank;
}
