use Rattle.std.proofs.Common.{rules}
use Rattle.boxes.specs.CellLaws.{place-within}
use Rattle.boxes.proofs.cell.CellLink.start.Goals as goal

pub returns-clause-within : goal.returns-clause-within
returns-clause-within c = place-within c.args.self.now.sizes.ranks c.args.self.now.sizes.longest c.args.pair.from c.args.pair.to (search rules)
