use Rattle.std.proofs.Common.{◌/◌, ◌%◌, sym, ap, ap₂, ◌∙◌, mod-lt, div-one, add-one, arith}
use Rattle.std.proofs.Math.Nat.{div-div-eq-div-mul}
use Rattle.plan.specs.Factors.{factor, width}
use Rattle.plan.specs.Makers.{factors_of}
use Rattle.plan.specs.Radix.{part, span}
use Rattle.plan.specs.RadixRules.{factor_pos, fits}
use Rattle.plan.proofs.Factoring.{read}
use Rattle.plan.proofs.radix.RadixPlan.span_at.Goals as goal

pub loop-parts-init : goal.loop-parts-init
unfolding span
loop-parts-init c = record { rest_is = sym (div-one c.args.rank); span_is = c.tile-span.ensures }

pub nonzero_rem-rest : goal.nonzero_rem-rest
nonzero_rem-rest c =
    let p = c.args.self.now in
    let at = read (factors_of p) c.up_to-parts-items.result.now _ c.loop-parts.parts-index c.up_to-parts-items.ensures c.loop-parts-test.true p.suits.1 in
    omega arith

pub part-span-requires : goal.part-span-requires
part-span-requires c =
    let p = c.args.self.now in
    let ks = factors_of p in
    let i = c.loop-parts.parts-index in
    let at = read ks c.up_to-parts-items.result.now _ i c.up_to-parts-items.ensures c.loop-parts-test.true p.suits.1 in
    let f = fits (factor ks) (factor_pos ks p.suits.1) p.counts.pixels i c.args.rank in
    let start = ap (λ x. x.start) c.loop-parts.invariant.span_is in
    let len = ap (λ x. x.len) c.loop-parts.invariant.span_is in
    let limits = p.counts.limits in
    (mod-lt c.loop-parts.rest (omega arith), omega arith, omega arith)

pub nonzero_div-rest : goal.nonzero_div-rest
nonzero_div-rest c =
    let p = c.args.self.now in
    let at = read (factors_of p) c.up_to-parts-items.result.now _ c.loop-parts.parts-index c.up_to-parts-items.ensures c.loop-parts-test.true p.suits.1 in
    omega arith

pub loop-parts-preserved : goal.loop-parts-preserved
unfolding span
loop-parts-preserved c =
    let p = c.args.self.now in
    let ks = factors_of p in
    let r = c.args.rank in
    let i = c.loop-parts.parts-index in
    let w = width (factor ks) i in
    let at = read ks c.up_to-parts-items.result.now _ i c.up_to-parts-items.ensures c.loop-parts-test.true p.suits.1 in
    record {
      rest_is = rw (add-one i) (ap₂ (λ a b. a / b) c.loop-parts.invariant.rest_is at.0 ∙ div-div-eq-div-mul r w (factor ks i));
      span_is = rw (add-one i) (c.part-span.ensures ∙ ap₂ (λ s n. part s n (c.loop-parts.rest % n)) c.loop-parts.invariant.span_is at.0 ∙ ap (λ a. part (span (factor ks) p.counts.pixels i r) (factor ks i) (a % factor ks i)) c.loop-parts.invariant.rest_is);
    }
