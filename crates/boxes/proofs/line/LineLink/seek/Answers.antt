use Rattle.std.proofs.Common.{◌≡◌, ◌+◌, ◌≤◌, ℕ, Some, None, Option, get_or, rules}
use Rattle.std.specs.Option.{IfSome}
use Rattle.boxes.proofs.LineCalls.{next-within}
use Rattle.boxes.specs.Lines.{place}
use Rattle.boxes.specs.LineState.{queue}
use Rattle.boxes.specs.declared.line.LineLink.{LineLink}
use Rattle.boxes.proofs.line.LineLink.seek.Goals as goal

-- an entry that was found ends within the used words
within : (s : LineLink) (b : ℕ) (r : Option ℕ) → r ≡ place b (queue s) → IfSome r (λ at. at + (2 + get_or s.words.now (at + 1) 0) ≤ s.used)
within s b None is = tt
within s b (Some at) is = next-within s b at is

pub returns-clause-within : goal.returns-clause-within
returns-clause-within c = within c.args.self.now c.args.number _ (search rules)
