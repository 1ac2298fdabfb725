use Rattle.std.proofs.Common.{◌≡◌, ◌-◌, ℕ, suc, ap, ap₂, ◌∙◌, arith}
use Rattle.std.specs.Prelude.{Some}
use Rattle.link.specs.Model.{LinkModel}
use Rattle.link.specs.Trim.{trim_model}
use Rattle.commands.specs.Steps.{at}
use Rattle.commands.proofs.Replaying.{awaits_from, awaits_next, awaits_ok, takes_more}
use Rattle.commands.proofs.links.OneMoreLayers.on_pile.Goals as goal

pub returns-in-Some-Link-clause-steps : goal.returns-in-Some-Link-clause-steps
returns-in-Some-Link-clause-steps g c =
    awaits_next _ _ _ _ _ _ _ _ (c.in-Some-Link.is ∙ ap Some c.in-Some-Link.field-0-is) (c.in_ok-opening.ensures.steps (suc g.M.Layers.left) (takes_more g.M.Layers.left))

pub returns-in_ok-tell-in-Some-Layer-clause-steps : goal.returns-in_ok-tell-in-Some-Layer-clause-steps
returns-in_ok-tell-in-Some-Layer-clause-steps g c =
    let here = awaits_next _ _ _ _ _ _ _ _ (c.in-Some-Layer.is ∙ ap Some c.in-Some-Layer.field-0-is) (c.in_ok-opening.ensures.steps (suc g.M.Layers.left) (takes_more g.M.Layers.left)) in
    let count : g.M.Layers.left ≡ suc g.M.Layers.left - 1 = omega arith in
    let laid = ap₂ (λ (m : LinkModel) (n : ℕ). at (trim_model m) n c.calls.new.self.desk.room) (ap g.L.Link.model c.new.ensures) count in
    awaits_ok _ _ _ _ _ _ _ _ _ _ (here _ c.in_ok-tell-in-Some-Layer.ensures) (awaits_from _ _ _ _ _ _ _ _ laid c.on_pile.ensures.steps)

pub returns-in-None-clause-steps : goal.returns-in-None-clause-steps
returns-in-None-clause-steps g c =
    awaits_next _ _ _ _ _ _ _ _ c.in-None.is (c.in_ok-opening.ensures.steps (suc g.M.Layers.left) (takes_more g.M.Layers.left))
