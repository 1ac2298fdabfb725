use Rattle.std.proofs.Common.{◌≡◌, ap, ◌∙◌, length, min, rules, ◌*◌, ◌+◌}
use Rattle.std.proofs.lemmas.Result.{IfOk-weaker}
use Rattle.link.specs.Model.{LinkModel}
use Rattle.commands.specs.Steps.{at}
use Rattle.commands.proofs.Replaying.{awaits_from, line_fresh}
use Rattle.commands.proofs.links.Replay.on_link.Goals as goal

pub returns-clause-steps : goal.returns-clause-steps
returns-clause-steps g c =
    let brought : length c.as_mut_slice-words.result.now ≡ min c.args.opening.ranks 32 * min c.args.opening.ranks 32 * (min c.args.opening.longest 5200 + 2) = search rules in
    let new = ap (λ (m : LinkModel). at m 4 c.args.self.now.desk.room) (c.new-in-Line.ensures ∙ line_fresh c.args.opening.ranks c.args.opening.longest _ brought) in
    IfOk-weaker c.on_pile-in-Line.result _ _ (λ next reached. (_, c.in_ok-tell.ensures, reached)) (awaits_from _ _ _ _ _ _ _ _ new c.on_pile-in-Line.ensures.steps)
