use Rattle.commands.proofs.Replaying.{awaits, awaits_next}
use Rattle.commands.proofs.links.link_lines.Goals as goal

pub loop-next-preserved : goal.loop-next-preserved
loop-next-preserved g c =
    let made = c.in_ok-next-2.ensures.steps in
    awaits _ _ _ _ _ _ _ _ _ _ (awaits_next _ _ _ _ _ _ _ _ c.in-Some.is c.loop-next.invariant made.0 made.1) made.2
