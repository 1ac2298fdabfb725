use Rattle.std.proofs.Common.{rules, vec_items, arith, ap, ◌∙◌, length}
use Rattle.std.proofs.lemmas.List.{length-append}
use Rattle.std.specs.Slice.Iter.{chunks_exact_rest}
use Rattle.console.proofs.Texts.{odd_digits, pair_more}
use Rattle.console.proofs.hex.joined_pairs.Goals as goal

pub returns-then-not-is_empty : goal.returns-then-not-is_empty
returns-then-not-is_empty c = odd_digits c.args.values.now (search rules)

pub loop-pair-preserved : goal.loop-pair-preserved
loop-pair-preserved c =
    let inv = c.loop-pair.invariant in
    let step = c.in-Some.ensures.steps in
    let pair = c.in-Some.pair.now in
    let left = chunks_exact_rest c.next.new.self in
    let long = ap length step.1.0 ∙ length-append pair left in (
      step.0 ∙ inv.0,
      pair_more c.args.values.now (vec_items c.loop-pair.bytes) pair _ left _ (step.1.1 ∙ inv.0) step.1.0 inv.1 c.in_ok-push.ensures.items,
      omega arith,
    )
