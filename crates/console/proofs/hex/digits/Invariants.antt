use Rattle.std.proofs.Common.{◌≡◌, ℕ, ◌<◌, true, get_or, drop, vec_items}
use Rattle.console.specs.Hex.{digits_in, readable}
use Rattle.request.proofs.Decimals.{prepend}
use Rattle.console.proofs.hex.digits.Given as goal

abbrev pub invariant-loop-i : goal.invariant-loop-i
invariant-loop-i l =
    (digits_in l.text ≡ prepend (vec_items l.values) (digits_in (drop l.i l.text)))
    × ((k : ℕ) → get_or (vec_items l.values) k 0 < 16)
    × ((k : ℕ) → k < l.i → readable (get_or l.text k 0) ≡ true)
