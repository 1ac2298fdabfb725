-- What sending a message, reading it back and clearing its box comes to. Assumes nothing.
use Rattle.std.specs.Prelude.{◌≡◌, ℕ, List, length, Option, Result, nat_lt, ◌∷◌, []}
use Rattle.std.specs.Option.{option_or}
use Rattle.tile.specs.declared.fault.Fault.{Fault}
use Rattle.tile.specs.declared.fault.Fault.TheVariants.{Link}
use Rattle.tile.specs.declared.fault.Ground.TheVariants.{TooShort}
use Rattle.tile.specs.Answers.{first, answered, kept}
use Rattle.link.specs.Model.{LinkModel, Holds, put}
use Rattle.link.specs.Calls.{send_fault, filled_with}

-- the fault of send, else that the area is too short
abbrev pub echo_fault : LinkModel → ℕ → ℕ → ℕ → ℕ → Option Fault
echo_fault m from to count room = option_or (send_fault m from to count) (first ((Link TooShort to, nat_lt room m.longest) ∷ []))

pub record Echo (m n : LinkModel) (from to : ℕ) (words area area' : List ℕ) (r : Result ℕ Fault) : Type 0 where
  pub answer : r ≡ answered (echo_fault m from to (length words) (length area)) (length words)
  pub filled : area' ≡ kept (echo_fault m from to (length words) (length area)) (filled_with words area) area
  -- a message that cannot be read for want of room stays in its box
  pub after : n ≡ kept (echo_fault m from to (length words) (length area)) m (kept (send_fault m from to (length words)) (put m from to (Holds words)) m)
