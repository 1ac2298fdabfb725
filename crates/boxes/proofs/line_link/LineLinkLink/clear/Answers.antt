use Rattle.std.proofs.Common.{◌+◌, get_or, arith, rules}
use Rattle.boxes.proofs.LineCalls.{short_kept, clear_kept, clear_done, clear_order}
use Rattle.boxes.proofs.line_link.LineLinkLink.clear.Goals as goal

pub invariant_of-self : goal.invariant_of-self
invariant_of-self c =
    let s = c.args.self.now in
    let kept = short_kept s c.args.pair.from c.args.pair.to (search rules) c.in_ok-at.at (search rules) in
    record { few = s.few; short = s.short; room = s.room; within = search rules; spelt = kept.spelt; good = kept.good; fits = kept.fits }

pub invariant_of-self-2 : goal.invariant_of-self-2
invariant_of-self-2 c =
    let s = c.args.self.now in
    let at = c.in_ok-at.at in
    let next = at + 2 + get_or s.words.now (at + 1) 0 in
    let kept = clear_kept s c.args.pair.from c.args.pair.to (search rules) at (search rules) next _ (omega arith) c.copy_within.ensures.after in
    record { few = search rules; short = search rules; room = search rules; within = search rules; spelt = kept.spelt; good = kept.good; fits = kept.fits }

pub returns-clause-call : goal.returns-clause-call
returns-clause-call c =
    let at = c.in_ok-at.at in
    let next = at + 2 + get_or c.args.self.now.words.now (at + 1) 0 in
    clear_done c.args.self.now c.args.pair.from c.args.pair.to (search rules) at (search rules) next _ (omega arith) c.copy_within.ensures.after

pub returns-clause-order : goal.returns-clause-order
returns-clause-order c =
    let at = c.in_ok-at.at in
    let next = at + 2 + get_or c.args.self.now.words.now (at + 1) 0 in
    clear_order c.args.self.now c.args.pair.from c.args.pair.to (search rules) at (search rules) next _ (omega arith) c.copy_within.ensures.after
