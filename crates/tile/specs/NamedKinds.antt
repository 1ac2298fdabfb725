-- The pixel kinds that have names, by their numbers. Assumes nothing.
use Rattle.std.specs.Prelude.{◌≡◌, ℕ, Result, MatchResult}
use Rattle.tile.specs.declared.fault.Ground.{Ground}
use Rattle.tile.specs.declared.fault.Ground.TheVariants.{WrongKind}
use Rattle.tile.specs.declared.named.PixelKind.{PixelKind}
use Rattle.tile.specs.declared.named.PixelKind.TheVariants.{Nearest, Coverage}
use Rattle.tile.specs.Named.{named_width}

-- the number of a kind
abbrev pub kind_number : PixelKind → ℕ
kind_number Nearest = 1
kind_number Coverage = 2

-- the kind with this number, or the ground that no kind has it
abbrev pub HasNumber : ℕ → Result PixelKind Ground → Type 0
HasNumber n r = MatchResult r (λ k. kind_number k ≡ n) (λ g. (g ≡ WrongKind) × (named_width n ≡ 0))
