use Rattle.std.proofs.Common.{rules}
use Rattle.boxes.proofs.CellCalls.{clear_done}
use Rattle.boxes.proofs.cell_link.CellLinkLink.clear.Goals as goal

pub returns : goal.returns
returns c = clear_done c.args.self.now c.args.pair.from c.args.pair.to c.in_ok-at.at (search rules) (search rules) (search rules)
