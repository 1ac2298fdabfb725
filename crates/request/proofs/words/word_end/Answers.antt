use Rattle.std.proofs.Common.{unwrap_or, length, ap, ◌∙◌}
use Rattle.request.proofs.Cuts as cuts
use Rattle.request.proofs.words.word_end.Goals as goal

pub returns : goal.returns
returns c =
    let text = c.args.text.now in
    c.unwrap_or.ensures ∙ ap (λ o. unwrap_or o (length text)) c.gap.ensures ∙ cuts.word_end text
