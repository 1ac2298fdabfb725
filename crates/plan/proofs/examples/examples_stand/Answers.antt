use Rattle.std.proofs.Common.{refl, arith, lit≤}
use Rattle.plan.specs.Radix.{span}
use Rattle.plan.proofs.examples.examples_stand.Goals as goal

pub returns : goal.returns
unfolding span
returns c = record {
  radix_ends = refl;
  radix_sends = refl;
  swap_groups = refl;
  swap_holds = refl;
  swap_sizes = refl;
  swap_sends = refl;
  not_inside = (4, (lit≤ tt, lit≤ tt), λ i. omega arith);
}
