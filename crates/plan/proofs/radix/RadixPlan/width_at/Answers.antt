use Rattle.std.proofs.Common.{min, take, length, sym, ◌∙◌, arith}
use Rattle.std.proofs.Math.Nat.{min-le_right}
use Rattle.plan.specs.Factors.{factor}
use Rattle.plan.specs.Makers.{factors_of}
use Rattle.plan.specs.RadixRules.{factor_pos, width_pos}
use Rattle.plan.proofs.Factoring.{product_fits, product_is, width-take, width_le}
use Rattle.plan.proofs.radix.RadixPlan.width_at.Goals as goal

pub product-requires-clause-fits : goal.product-requires-clause-fits
product-requires-clause-fits c =
    let p = c.args.self.now in
    let ks = factors_of p in
    let n = min c.args.round (length ks) in
    let last = min-le_right c.args.round (length ks) in
    let is = width-take ks n last in
    let le = width_le p.counts.ranks ks p.suits n last in
    let pos = width_pos (factor ks) (factor_pos ks p.suits.1) n in
    let limits = p.counts.limits in
    product_fits (take n ks) c.iter.result 4294967296 (cc) (omega arith) (omega arith)

pub returns-clause-is : goal.returns-clause-is
returns-clause-is c =
    let ks = factors_of c.args.self.now in
    let n = min c.args.round (length ks) in
    product_is (take n ks) c.iter.result c.product.result (cc) c.product.ensures.ran ∙ sym (width-take ks n (min-le_right c.args.round (length ks)))

pub returns-clause-some : goal.returns-clause-some
returns-clause-some c =
    let ks = factors_of c.args.self.now in
    let n = min c.args.round (length ks) in
    let is = product_is (take n ks) c.iter.result c.product.result (cc) c.product.ensures.ran in
    let same = width-take ks n (min-le_right c.args.round (length ks)) in
    let pos = width_pos (factor ks) (factor_pos ks c.args.self.now.suits.1) n in
    omega arith
