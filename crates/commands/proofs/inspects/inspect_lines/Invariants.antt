use Rattle.std.proofs.Common.{◌≡◌}
use Rattle.std.specs.Io.Iter.{split_byte, split_known_bytes}
use Rattle.console.specs.Reports.{AnswerTo}
use Rattle.commands.proofs.Lines.{Going}
use Rattle.commands.proofs.inspects.inspect_lines.Given as goal

abbrev pub invariant-loop-line : goal.invariant-loop-line
invariant-loop-line g l =
    (split_byte l.line-iterator ≡ 10)
    × Going AnswerTo (g.R.Read.remaining l.fn.input) (g.W.Write.contents l.initial.output) (g.W.Write.contents l.output) (split_known_bytes g.R.Read.remaining l.line-iterator)
