use Rattle.std.proofs.Common.{ℕ, ◌+◌, ◌<◌, List, get_or, drop, vec_items, sym, ap, ◌∙◌, subst, below_more}
use Rattle.console.specs.Hex.{digits_in}
use Rattle.request.proofs.Decimals.{prepend}
use Rattle.console.proofs.Texts.{space_more, digit-more, digit-small, small-more, space_readable, digit-readable}
use Rattle.console.proofs.hex.digits.Goals as goal

pub loop-i-preserved-then-is_space : goal.loop-i-preserved-then-is_space
loop-i-preserved-then-is_space c =
    let inv = c.loop-i.invariant in
    let is = sym c.if-is_space.ensures in
    let text = c.args.text.now in
    let i = c.loop-i.i in (
      space_more text i c.loop-i-test.true (vec_items c.loop-i.values) is inv.0,
      inv.1,
      below_more _ _ inv.2 (space_readable (get_or text i 0) is),
    )

pub loop-i-preserved : goal.loop-i-preserved
loop-i-preserved c =
    let inv = c.loop-i.invariant in
    let text = c.args.text.now in
    let i = c.loop-i.i in
    let d = c.in-Some.value in
    let xs = vec_items c.loop-i.values in
    let no = sym c.if-is_space.ensures in
    let is = sym c.in-Some.ensures in
    let more = sym c.in_ok-push.ensures.items in (
      digit-more text i c.loop-i-test.true xs d no is inv.0 ∙ ap (λ (ys : List ℕ). prepend ys (digits_in (drop (i + 1) text))) more,
      subst (λ (ys : List ℕ). (k : ℕ) → get_or ys k 0 < 16) more (small-more xs d inv.1 (digit-small (get_or text i 0) d is)),
      below_more _ _ inv.2 (digit-readable (get_or text i 0) d is),
    )
