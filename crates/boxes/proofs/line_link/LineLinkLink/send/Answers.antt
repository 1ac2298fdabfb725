use Rattle.std.proofs.Common.{rules}
use Rattle.boxes.proofs.LineCalls.{send_room, send_kept, send_done, send_order}
use Rattle.boxes.proofs.line_link.LineLinkLink.send.Goals as goal

pub write_entry-requires-clause-room : goal.write_entry-requires-clause-room
write_entry-requires-clause-room c =
    let room = send_room c.args.self.now c.args.pair.from c.args.pair.to (search rules) (search rules) c.args.words.now (search rules) in
    search rules

pub invariant_of-self : goal.invariant_of-self
invariant_of-self c =
    let s = c.args.self.now in
    let room = send_room s c.args.pair.from c.args.pair.to (search rules) (search rules) c.args.words.now (search rules) in
    let kept = send_kept s c.args.pair.from c.args.pair.to (search rules) (search rules) c.args.words.now (search rules) c.in_ok-number.number _ _ (search rules) c.write_entry.ensures (λ k. (c.type_inv.words k).fits) in
    record { few = search rules; short = search rules; room = search rules; within = search rules; spelt = kept.spelt; good = kept.good; fits = kept.fits }

pub returns-clause-call : goal.returns-clause-call
returns-clause-call c =
    send_done c.args.self.now c.args.pair.from c.args.pair.to (search rules) (search rules) c.args.words.now (search rules) c.in_ok-number.number _ _ (search rules) c.write_entry.ensures

pub returns-clause-order : goal.returns-clause-order
returns-clause-order c =
    send_order c.args.self.now c.args.pair.from c.args.pair.to (search rules) (search rules) c.args.words.now (search rules) c.in_ok-number.number _ _ (search rules) c.write_entry.ensures
