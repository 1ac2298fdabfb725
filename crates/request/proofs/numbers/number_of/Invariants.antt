use Rattle.std.proofs.Common.{◌≡◌, ◌^◌, ◌<◌, drop}
use Rattle.request.specs.Numbers.{number, number_on}
use Rattle.request.proofs.numbers.number_of.Given as goal

abbrev pub invariant-loop-c : goal.invariant-loop-c
invariant-loop-c l = (number l.word ≡ number_on l.value (drop l.c-index l.word)) × (l.value < 2 ^ 32)
