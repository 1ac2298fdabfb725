use Rattle.std.proofs.Common.{rules}
use Rattle.request.proofs.Names.{layer_trim}
use Rattle.request.proofs.links.kind_named.Goals as goal

pub returns-in-layer-trim : goal.returns-in-layer-trim
returns-in-layer-trim c = search (rules, layer_trim)
