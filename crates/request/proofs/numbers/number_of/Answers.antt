use Rattle.std.proofs.Common.{rules}
use Rattle.request.proofs.Decimals.{digit-more, too_large}
use Rattle.request.proofs.numbers.number_of.Goals as goal

pub returns-in_err-checked_mul : goal.returns-in_err-checked_mul
returns-in_err-checked_mul c = search (rules, digit-more, too_large)

pub returns-in_err-value : goal.returns-in_err-value
returns-in_err-value c = search (rules, digit-more, too_large)
