use Rattle.std.proofs.Common.{replicate, ap, ◌∙◌, rules}
use Rattle.std.proofs.lemmas.List.{places}
use Rattle.link.proofs.Trims.{spread_written}
use Rattle.link.proofs.zeros.write_spread.Goals as goal

pub returns : goal.returns
returns c = spread_written c.args.area.now c.args.inner.now _ _ _ c.args.count c.args.zeros c.requires.fits (c.fill.ensures.after (λ y e. e) ∙ ap (λ n. replicate n 0) (search (rules, places))) c.copy_from_slice.ensures.after (c.fill-2.ensures.after (λ y e. e) ∙ ap (λ n. replicate n 0) (search (rules, places)))
