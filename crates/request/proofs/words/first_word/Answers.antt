use Rattle.std.proofs.Common.{rules}
use Rattle.std.proofs.lemmas.List.{take_rest}
use Rattle.request.proofs.Cuts.{first_word, no_word}
use Rattle.request.proofs.words.first_word.Goals as goal

pub returns-in_err-from_word : goal.returns-in_err-from_word
returns-in_err-from_word c = search (rules, no_word)

pub returns : goal.returns
returns c = first_word c.args.text.now _ _ _ c.in_ok-from_word.field-0 c.word_end.result (search rules) (take_rest c.args.text.now c.in_ok-from_word.field-0) c.word_end.ensures c.split_at.ensures.front c.split_at.ensures.back
