use Rattle.std.proofs.Common.{ℕ, List, string_bytes, ap, subst, ◌∙◌}
use Rattle.std.specs.Io.Iter.{split_byte, split_known_bytes}
use Rattle.std.specs.Io.KnownBytes.{Appends}
use Rattle.console.specs.Reports.{AnswerTo}
use Rattle.commands.proofs.Lines.{begins, ends, flushed, goes, of_ok}
use Rattle.commands.proofs.inspects.inspect_lines.Goals as goal

pub loop-line-init : goal.loop-line-init
loop-line-init g c =
    let same = c.into_iter-line-iterator.ensures.into_iter_gives in (
      ap split_byte same ∙ c.split-line-items.ensures.byte,
      begins AnswerTo _ _ _ (ap (split_known_bytes g.R.Read.remaining) same ∙ c.split-line-items.ensures.bytes),
    )

pub loop-line-preserved : goal.loop-line-preserved
loop-line-preserved g c =
    let told = of_ok _ c.in_ok-line.was c.in-Some.ensures.steps.2 in (
      c.in-Some.ensures.steps.1 ∙ c.loop-line.invariant.0,
      goes AnswerTo _ _ _ _ _ _ _ _ (string_bytes c.in_ok-text.text) c.loop-line.invariant.1 c.loop-line.invariant.0 told.0 told.1
          (subst (λ (l : List ℕ). AnswerTo l (string_bytes c.in_ok-text.text)) c.as_slice.ensures.value c.in_ok-text.ensures)
          (flushed _ _ _ _ (subst (λ (l : List ℕ). Appends (g.W.Write.contents c.loop-line.output) (g.W.Write.contents c.write_all.new.self) l) c.as_bytes.ensures.value c.in_ok-write_all.ensures.bytes) c.flush.ensures.bytes),
    )

pub returns : goal.returns
returns g c = ends AnswerTo _ _ _ _ c.loop-line.invariant.1 c.in-None.ensures.steps.2
