use Rattle.std.proofs.Common.{◌+◌, rules}
use Rattle.std.proofs.lemmas.List.{take_rest}
use Rattle.boxes.proofs.LineCalls.{vacancy, size-short, read_done}
use Rattle.boxes.proofs.line.LineLink.read_words.Goals as goal

pub returns-in_err-at : goal.returns-in_err-at
returns-in_err-at c =
    let empty = vacancy c.args.self.now c.args.pair.from c.args.pair.to (search rules) c.seek.result (search rules) in
    search rules

pub read_message-requires-clause-room : goal.read_message-requires-clause-room
read_message-requires-clause-room c =
    size-short c.args.self.now c.args.pair.from c.args.pair.to (search rules) c.in_ok-at.at (search rules) c.args.area.now (search rules) _ (take_rest c.args.self.now.words.now (c.in_ok-at.at + 1))

pub returns : goal.returns
returns c =
    read_done c.args.self.now c.args.pair.from c.args.pair.to (search rules) c.in_ok-at.at (search rules) c.args.area.now (search rules) _ (take_rest c.args.self.now.words.now (c.in_ok-at.at + 1)) _ c.read_message.result c.read_message.ensures.is c.read_message.ensures.after
