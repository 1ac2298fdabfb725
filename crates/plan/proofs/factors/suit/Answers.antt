use Rattle.std.proofs.Common.{◌≡◌, ◌≤◌, length, sym, ◌∙◌, eq-eqb, arith}
use Rattle.std.proofs.lemmas.Bool.{leb-true, eqb-true}
use Rattle.plan.specs.Factors.{Each, product}
use Rattle.plan.proofs.Factoring.{product_fits, product_is, product_small}
use Rattle.plan.proofs.factors.suit.Goals as goal
use Rattle.plan.proofs.factors.suit.Goals.{then-factors-le5, else-factors-le5}

pub product-requires-clause-fits : goal.product-requires-clause-fits
product-requires-clause-fits c =
    let ks = c.args.factors.now in
    let known : (length ks ≤ 5) × Each ks = elim c.if-factors-le5.branch [ then-factors-le5 w ↦ (w.if-factors-le5.true, w.each_fits.ensures.0 (sym w.value-is ∙ c.if-each_fits.true)) | else-factors-le5 w ↦ absurd (omega (arith, leb-true (length ks) 5 (sym w.value-is ∙ c.if-each_fits.true))) ] in
    let small = product_small ks known.0 known.1 in
    product_fits ks c.iter.result 4294967296 (cc) small.0 small.1

pub returns-then-each_fits : goal.returns-then-each_fits
returns-then-each_fits c =
    let ks = c.args.factors.now in
    let known : (length ks ≤ 5) × Each ks = elim c.if-factors-le5.branch [ then-factors-le5 w ↦ (w.if-factors-le5.true, w.each_fits.ensures.0 (sym w.value-is ∙ c.if-each_fits.true)) | else-factors-le5 w ↦ absurd (omega (arith, leb-true (length ks) 5 (sym w.value-is ∙ c.if-each_fits.true))) ] in
    let all : c.product.result ≡ product ks = product_is ks c.iter.result c.product.result (cc) c.product.ensures.ran in
    (λ t. (known.0, known.1, sym all ∙ eqb-true c.product.result c.args.ranks t), λ s. eq-eqb c.product.result c.args.ranks (all ∙ s.2))
