use Rattle.std.proofs.Common.{rules}
use Rattle.request.proofs.Names.{waiting}
use Rattle.request.proofs.links.call_named.Goals as goal

pub returns-in-waiting : goal.returns-in-waiting
returns-in-waiting c = search (rules, waiting)
