use Rattle.std.proofs.Common.{◌≡◌, ◌++◌}
use Rattle.std.specs.Fmt.{HasWritten, IsPlainFormatter}
use Rattle.dump.specs.Bytes.{words_left}
use Rattle.console.specs.Reports.{words_text}
use Rattle.console.proofs.inspect.PixelLineDisplay.fmt.Given as goal

abbrev pub invariant-loop-word : goal.invariant-loop-word
invariant-loop-word g l = record {
  words : words_left l.initial.word-iterator ≡ l.yielded ++ words_left l.word-iterator;
  written : IsPlainFormatter l.initial.f → HasWritten g.W.Write.write_str_gives l.initial.f (words_text l.yielded) l.f;
}
