use Rattle.std.proofs.Common.{sym, refl, ◌∙◌, arith}
use Rattle.std.proofs.lemmas.Bool.Decides.{nat_tests}
use Rattle.dump.proofs.Lawful.{body_told}
use Rattle.dump.proofs.order.at_pixel.Goals as goal

pub returns-then-is_none : goal.returns-then-is_none
returns-then-is_none g c =
    let told = body_told g.P.Pixel.model g.met.P.Pixel.lawful c.requires.named c.args.body.now c.read_body.result c.requires.size c.read_body.ensures.value c.read_body.ensures.words in
    let law = sym told ∙ c.if-is_none.ensures in
    rw c.in_ok-p.ensures (grind (arith, nat_tests))

pub returns-then-p : goal.returns-then-p
returns-then-p g c =
    let told = body_told g.P.Pixel.model g.met.P.Pixel.lawful c.requires.named c.args.body.now c.read_body.result c.requires.size c.read_body.ensures.value c.read_body.ensures.words in
    let law = sym told ∙ c.if-is_none.ensures in
    rw c.in_ok-p.ensures (grind (arith, nat_tests))

pub returns : goal.returns
returns g c =
    let told = body_told g.P.Pixel.model g.met.P.Pixel.lawful c.requires.named c.args.body.now c.read_body.result c.requires.size c.read_body.ensures.value c.read_body.ensures.words in
    let law = sym told ∙ c.if-is_none.ensures in
    rw c.in_ok-p.ensures (grind (arith, nat_tests), refl)
