use Rattle.std.proofs.Common.{◌≡◌}
use Rattle.std.specs.Io.Iter.{split_byte, split_known_bytes}
use Rattle.commands.specs.Plans.{PlanReply}
use Rattle.commands.specs.declared.form.Form.TheVariants.{Lines}
use Rattle.commands.proofs.Lines.{Going}
use Rattle.commands.proofs.plans.plan_lines.Given as goal

abbrev pub invariant-loop-line : goal.invariant-loop-line
invariant-loop-line g l =
    (split_byte l.line-iterator ≡ 10)
    × Going (PlanReply Lines) (g.R.Read.remaining l.fn.input) (g.W.Write.contents l.initial.output) (g.W.Write.contents l.output) (split_known_bytes g.R.Read.remaining l.line-iterator)
