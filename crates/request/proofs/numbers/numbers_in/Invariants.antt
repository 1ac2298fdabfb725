use Rattle.std.proofs.Common.{◌≡◌, vec_items}
use Rattle.request.specs.Numbers.{numbers}
use Rattle.request.specs.Words.{words_in}
use Rattle.request.proofs.Decimals.{prepend}
use Rattle.request.proofs.numbers.numbers_in.Given as goal

abbrev pub invariant-loop-word : goal.invariant-loop-word
invariant-loop-word l = numbers (words_in l.text) ≡ prepend (vec_items l.values) (numbers (words_in l.word-iterator.left.now))
