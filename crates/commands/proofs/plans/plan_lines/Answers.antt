use Rattle.std.proofs.Common.{ℕ, List, ap, subst, ◌∙◌}
use Rattle.std.specs.Io.Iter.{split_byte, split_known_bytes}
use Rattle.commands.specs.Plans.{PlanReply}
use Rattle.commands.specs.declared.form.Form.TheVariants.{Lines}
use Rattle.commands.proofs.Lines.{begins, ends, flushed, goes, of_ok}
use Rattle.commands.proofs.plans.plan_lines.Goals as goal

pub loop-line-init : goal.loop-line-init
loop-line-init g c =
    let same = c.into_iter-line-iterator.ensures.into_iter_gives in (
      ap split_byte same ∙ c.split-line-items.ensures.byte,
      begins (PlanReply Lines) _ _ _ (ap (split_known_bytes g.R.Read.remaining) same ∙ c.split-line-items.ensures.bytes),
    )

pub loop-line-preserved : goal.loop-line-preserved
loop-line-preserved g c =
    let told = of_ok _ c.in_ok-line.was c.in-Some.ensures.steps.2 in
    let reply = c.in_ok-answer.ensures in (
      c.in-Some.ensures.steps.1 ∙ c.loop-line.invariant.0,
      goes (PlanReply Lines) _ _ _ _ _ _ _ _ reply.0 c.loop-line.invariant.1 c.loop-line.invariant.0 told.0 told.1
          (subst (λ (l : List ℕ). PlanReply Lines l reply.0) c.as_slice.ensures.value reply.1)
          (flushed _ _ _ _ reply.2 c.flush.ensures.bytes),
    )

pub returns : goal.returns
returns g c = ends (PlanReply Lines) _ _ _ _ c.loop-line.invariant.1 c.in-None.ensures.steps.2
