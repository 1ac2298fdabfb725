use Rattle.std.proofs.Common.{◌≡◌, map, take, string_bytes}
use Rattle.commands.specs.Plans.{form_in, line_in}
use Rattle.commands.proofs.plans.plan_words.Given as goal

abbrev pub invariant-loop-word : goal.invariant-loop-word
invariant-loop-word g l =
    (l.form ≡ form_in (map string_bytes (take l.word-index l.words)))
    × (string_bytes l.line ≡ line_in (map string_bytes (take l.word-index l.words)))
