use Rattle.std.proofs.Common.{arith}
use Rattle.boxes.proofs.Lines.{walk_start, walk_end, walk_within, walk_here, walk_more}
use Rattle.boxes.proofs.entries.find.Goals as goal

pub loop-at-init : goal.loop-at-init
loop-at-init c = walk_start _ c.args.wanted c.requires

pub returns-then-line-at : goal.returns-then-line-at
returns-then-line-at c = walk_here _ _ _ c.loop-at.invariant c.loop-at-test.true c.if-line-at.true

pub bounds-line-at-in-loop-at : goal.bounds-line-at-in-loop-at
bounds-line-at-in-loop-at c = omega (arith, walk_within _ _ _ c.loop-at.invariant c.loop-at-test.true)

pub loop-at-preserved : goal.loop-at-preserved
loop-at-preserved c = walk_more _ _ _ c.loop-at.invariant c.loop-at-test.true c.if-line-at.false

pub returns : goal.returns
returns c = walk_end _ _ _ c.loop-at.invariant c.loop-at-test.false
