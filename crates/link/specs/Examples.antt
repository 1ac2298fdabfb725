-- Worked examples of the trimmed form. Assumes nothing.
use Rattle.std.specs.Prelude.{◌≡◌, [], ◌∷◌}
use Rattle.link.specs.Trim.{trimmed}

pub record Examples : Type 0 where
  pub one_word : trimmed (0 ∷ 0 ∷ 7 ∷ 0 ∷ []) ≡ 4 ∷ 2 ∷ 7 ∷ []
  pub all_zero : trimmed (0 ∷ 0 ∷ []) ≡ 2 ∷ 2 ∷ []
