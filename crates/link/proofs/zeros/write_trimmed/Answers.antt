use Rattle.std.proofs.Common.{refl, rules}
use Rattle.link.proofs.Trims.{written}
use Rattle.link.proofs.zeros.write_trimmed.Goals as goal

pub returns-clause-form : goal.returns-clause-form
returns-clause-form c = written c.args.words.now c.args.form.now _ _ c.leading_zeros-zeros.result c.max.result c.leading_zeros-zeros.ensures.is (search rules) refl c.copy_from_slice.ensures.after c.requires.room
