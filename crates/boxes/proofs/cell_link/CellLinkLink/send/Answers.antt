use Rattle.std.proofs.Common.{refl, rules}
use Rattle.boxes.proofs.CellCalls.{pair_box, send_done}
use Rattle.boxes.proofs.cell_link.CellLinkLink.send.Goals as goal

pub returns-in_err-require-2 : goal.returns-in_err-require-2
returns-in_err-require-2 c =
    let b = pair_box c.args.self.now c.args.pair.from c.args.pair.to c.in_ok-at.at (search rules) (search rules) in
    search rules

pub returns : goal.returns
returns c = send_done c.args.self.now c.args.pair.from c.args.pair.to c.in_ok-at.at (search rules) (search rules) c.args.words.now _ _ (search rules) (search rules) c.write_message.ensures refl
