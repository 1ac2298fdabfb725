-- The sizes of a link over lent words, and the link as it starts. Assumes nothing.
use Rattle.std.specs.Prelude.{ℕ, ◌^◌, ◌<◌, Bool, if◌then◌else◌, ◌&&◌, List, nat_le, slice_index}
use Rattle.link.specs.Model.{LinkModel, vacant}

abbrev pub in_limits : ℕ → ℕ → Bool
in_limits ranks longest = (nat_le 1 ranks && nat_le ranks 32) && (nat_le 1 longest && nat_le longest 5200)

-- whether the sizes are within their limits and the words brought are as many as needed
abbrev pub suffices : ℕ → ℕ → ℕ → ℕ → Bool
suffices ranks longest needed brought = in_limits ranks longest && nat_le needed brought

-- the link as it starts: all boxes empty, or no ranks
abbrev pub started : ℕ → ℕ → ℕ → ℕ → LinkModel
started ranks longest needed brought = if suffices ranks longest needed brought then vacant ranks longest else vacant 0 0

-- the first `n` are words
abbrev pub WordsBelow : ℕ → List ℕ → Type 0
WordsBelow n ws = (k : ℕ) → k < n → slice_index ws k < 2 ^ 32
