-- Nearest pixels. Assumes nothing.
use Rattle.std.specs.Prelude.{◌≡◌, ℕ, zero, suc, ◌≤◌, if◌then◌else◌, List, [], ◌∷◌, nat_le, slice_index, refl}
use Rattle.std.proofs.Common.{arith}
use Rattle.tile.specs.Kinds.{Kind, reading}
use Rattle.tile.specs.Words.{low}
use Rattle.tile.specs.declared.near.Nearest.{Nearest}
use Rattle.tile.specs.declared.near.NearestRecord.{NearestRecord}

-- the colour c at the nearness n: with nearness 0 it does not count
abbrev pub colour_at : ℕ → ℕ → ℕ
colour_at zero c = 0
colour_at (suc n) c = c

pub colour_le : (n c : ℕ) → colour_at n c ≤ c
colour_le zero c = omega arith
colour_le (suc n) c = omega arith

pub colour_none : (n c : ℕ) → n ≡ 0 → colour_at n c ≡ 0
colour_none zero c e = refl
colour_none (suc n) c e = omega arith

-- the pixel that a record stands for
abbrev pub meaning : NearestRecord → Nearest
meaning r = record {
  nearness = low r.nearness;
  colour = colour_at (low r.nearness) (low r.colour);
  lawful = (omega arith, omega (arith, colour_le (low r.nearness) (low r.colour)), colour_none (low r.nearness) (low r.colour));
}

abbrev pub blank : Nearest
blank = record { nearness = 0; colour = 0; lawful = (omega arith, omega arith, λ e. refl) }

-- a tie goes to the front
abbrev pub join : Nearest → Nearest → Nearest
join front back = if nat_le back.nearness front.nearness then front else back

abbrev pub words : Nearest → List ℕ
words p = p.nearness ∷ p.colour ∷ []

abbrev pub of_words : List ℕ → Nearest
of_words ws = meaning (record { nearness = slice_index ws 0; colour = slice_index ws 1 })

abbrev pub nearest : Kind Nearest NearestRecord
nearest = record {
  number = 1;
  width = 2;
  meaning = meaning;
  plain = λ p. record { nearness = p.nearness; colour = p.colour };
  blank = blank;
  join = join;
  words = words;
  reads = reading words of_words;
}
