use Rattle.std.proofs.Common.{ap, sym, ◌∙◌, vec_items, refl, rules}
use Rattle.std.specs.Prelude.{None, Some}
use Rattle.std.specs.Option.{option_map}
use Rattle.request.specs.Requests.{told}
use Rattle.commands.specs.Steps.{at, makes}
use Rattle.commands.proofs.Lines.{of_ok}
use Rattle.commands.proofs.Replaying.{begins, calls_line, comes_none, comes_some, goes, ends}
use Rattle.commands.proofs.links.Replay.calls.Goals as goal

pub loop-line-init : goal.loop-line-init
loop-line-init g c = (λ layers e. begins _ _ _, search rules)

pub loop-line-preserved-in_default-2 : goal.loop-line-preserved-in_default-2
loop-line-preserved-in_default-2 g c =
    let line = vec_items c.in_ok-line.field-0 in
    let piece = of_ok _ c.in_ok-line.was c.in-Some.ensures.steps.2 in
    let asked = sym (ap (option_map told) c.in_default-2.is) ∙ c.in_ok-asked.ensures in (
      λ layers e.
          let s = at (g.L.Link.model c.loop-line.link) layers c.loop-line.self.desk.room in
          goes _ _ _ _ _ _ _ _ _ _ line (c.loop-line.invariant.0 layers e) c.loop-line.self.feeds piece.0 piece.1
          (calls_line s s s None _ line _ _ asked c.as_slice.ensures.value refl (c.in_ok-tell.ensures, refl)),
      search rules,
    )

pub loop-line-preserved : goal.loop-line-preserved
loop-line-preserved g c =
    let line = vec_items c.in_ok-line.field-0 in
    let piece = of_ok _ c.in_ok-line.was c.in-Some.ensures.steps.2 in
    let asked = sym (ap (option_map told) c.in-Some-2.is) ∙ c.in_ok-asked.ensures in (
      λ layers e.
          let here = at (g.L.Link.model c.loop-line.link) layers c.loop-line.self.desk.room in
          let s = at (g.L.Link.model c.call.new.link) layers c.call.new.self.room in
          goes _ _ _ _ _ _ _ _ _ _ line (c.loop-line.invariant.0 layers e) c.loop-line.self.feeds piece.0 piece.1
          (calls_line here s s _ _ line _ _ asked c.as_slice.ensures.value refl (comes_none here (Some (told c.in-Some-2.asked)) s _ _ _ c.in_default-3.is (c.in_ok-next.ensures.step layers e))),
      search rules,
    )

pub returns-in-Some-3-clause-steps : goal.returns-in-Some-3-clause-steps
returns-in-Some-3-clause-steps g c layers e now w =
    let line = vec_items c.in_ok-line.field-0 in
    let piece = of_ok _ c.in_ok-line.was c.in-Some.ensures.steps.2 in
    let asked = sym (ap (option_map told) c.in-Some-2.is) ∙ c.in_ok-asked.ensures in
    let here = at (g.L.Link.model c.loop-line.link) layers c.loop-line.self.desk.room in
    let s = at (g.L.Link.model c.call.new.link) layers c.call.new.self.room in
    goes _ _ _ _ _ _ _ _ _ _ line (c.loop-line.invariant.0 layers e) c.loop-line.self.feeds piece.0 piece.1
    (calls_line here _ (makes s c.in-Some-3.next) _ _ line _ _ asked c.as_slice.ensures.value refl (comes_some here (Some (told c.in-Some-2.asked)) s _ _ _ _ c.in-Some-3.is (c.in_ok-next.ensures.step layers e) now w))

pub returns-clause-steps : goal.returns-clause-steps
returns-clause-steps g c layers e = ends _ _ _ _ _ _ (c.loop-line.invariant.0 layers e) c.in_default.ensures.steps.2
