use Rattle.std.proofs.Common.{rules, arith}
use Rattle.std.proofs.lemmas.List.{take_rest}
use Rattle.std.proofs.lemmas.Bool.Decides.{nat_tests}
use Rattle.boxes.proofs.CellCalls.{pair_box, read_done}
use Rattle.boxes.proofs.cell.CellLink.read_words.Goals as goal

pub returns-in_err-require-2 : goal.returns-in_err-require-2
returns-in_err-require-2 c =
    let b = pair_box c.args.self.now c.args.pair.from c.args.pair.to c.in_ok-at.at (search rules) (search rules) in
    search rules

pub returns-in_err-require-3 : goal.returns-in_err-require-3
returns-in_err-require-3 c =
    let b = pair_box c.args.self.now c.args.pair.from c.args.pair.to c.in_ok-at.at (search rules) (search rules) in
    grind (arith, nat_tests)

pub returns : goal.returns
returns c =
    read_done c.args.self.now c.args.pair.from c.args.pair.to c.in_ok-at.at (search rules) (search rules) c.args.area.now _ _ c.read_message.result (take_rest c.args.self.now.words.now c.in_ok-at.at) (search rules) (search rules) (search rules) c.read_message.ensures.is c.read_message.ensures.after
