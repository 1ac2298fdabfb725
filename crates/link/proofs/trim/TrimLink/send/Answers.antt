use Rattle.std.proofs.Common.{rules}
use Rattle.link.proofs.Layers.{trim_send}
use Rattle.link.proofs.trim.TrimLink.send.Goals as goal

pub returns : goal.returns
returns g c = trim_send _ _ _ _ c.args.words.now _ _ (search rules) c.write_trimmed-size.ensures.form c.send.ensures
