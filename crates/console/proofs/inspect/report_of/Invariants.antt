use Rattle.std.proofs.Common.{◌≡◌, ◌++◌, string_bytes}
use Rattle.dump.specs.Pixels.{left}
use Rattle.console.specs.Reports.{pixel_lines}
use Rattle.console.proofs.inspect.report_of.Given as goal

abbrev pub invariant-loop-pixel : goal.invariant-loop-pixel
invariant-loop-pixel l = string_bytes l.text ++ pixel_lines (left l.pixel-iterator) ≡ string_bytes l.initial.text ++ pixel_lines (left l.initial.pixel-iterator)
