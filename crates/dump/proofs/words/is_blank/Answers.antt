use Rattle.std.proofs.Common.{rules, ◌==◌}
use borrow.Author.Tests.{tests}
use Rattle.std.proofs.lemmas.Iterator.Consumers.{YieldsList-from_first}
use Rattle.std.proofs.lemmas.Iterator.Search.{all_from_yields_List}
use Rattle.dump.specs.Bytes.{words_in, words_left}
use Rattle.dump.proofs.words.is_blank.Goals as goal

pub returns : goal.returns
returns c =
    all_from_yields_List (λ w. w == 0) c.all.new.self _ c.all.result c.all.ensures.ran (YieldsList-from_first (λ w. w) words_left {s = c.body_words.result} (words_in c.args.body.now) c.body_words.ensures)
    (λ x b q k. search (rules, tests))
