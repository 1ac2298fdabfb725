-- Coverage pixels. Assumes nothing.
use Rattle.std.specs.Prelude.{◌≡◌, ℕ, zero, suc, ◌-◌, ◌^◌, ◌<◌, min, max, List, [], ◌∷◌, drop, slice_index, refl}
use Rattle.std.proofs.Common.{sym, ap, ◌∙◌, arith}
use Rattle.std.specs.Int.Bits.{bit_and, bit_or, and_self}
use Rattle.std.proofs.lemmas.Nat.{and_assoc, and_le_l, and_le_r, or_lt}
use Rattle.std.proofs.lemmas.Nat.Bits.{bit_at_and, bit_at_or, bit_at_not, same_from_bits_below}
use Rattle.std.specs.Int.{bit_at}
use mir.Syntax.{w32}
use Rattle.tile.specs.Kinds.{Kind, reading}
use Rattle.tile.specs.Named.{Inside}
use Rattle.tile.specs.Words.{low}
use Rattle.tile.specs.declared.cover.Coverage.{Coverage}
use Rattle.tile.specs.declared.cover.CoverageRecord.{CoverageRecord}

-- a plane of the joined pixel: the front plane's bits, and the back plane's outside the front mask
abbrev pub over : ℕ → ℕ → ℕ → ℕ
over mask front back = bit_or front (bit_and back ((2 ^ 32 - 1) - mask))

abbrev pub four : (ℕ → ℕ) → List ℕ
four f = f 0 ∷ f 1 ∷ f 2 ∷ f 3 ∷ []

pub four_inside : (f : ℕ → ℕ) (m : ℕ) → ((k : ℕ) → Inside m (f k)) → (k : ℕ) → Inside m (slice_index (four f) k)
four_inside f m h zero = h 0
four_inside f m h (suc zero) = h 1
four_inside f m h (suc (suc zero)) = h 2
four_inside f m h (suc (suc (suc zero))) = h 3
four_inside f m h (suc (suc (suc (suc k)))) = refl

-- a plane inside a mask that is a word is a word
pub inside-word : (m p : ℕ) → m < 2 ^ 32 → Inside m p → p < 2 ^ 32
inside-word m p h e = omega (arith, and_le_r p m)

pub over-bit : (k m f b : ℕ) → k < 32 → m < 2 ^ 32 → bit_at (over m f b) k ≡ max (bit_at f k) (min (bit_at b k) (1 - bit_at m k))
over-bit k m f b l h =
    bit_at_or f (bit_and b ((2 ^ 32 - 1) - m)) k
    ∙ ap (max (bit_at f k)) (bit_at_and b ((2 ^ 32 - 1) - m) k ∙ ap (min (bit_at b k)) (bit_at_not w32 m k h l))

pub over_word : (m f b : ℕ) → f < 2 ^ 32 → b < 2 ^ 32 → over m f b < 2 ^ 32
over_word m f b hf hb = or_lt 32 f (bit_and b ((2 ^ 32 - 1) - m)) hf (omega (arith, and_le_l b ((2 ^ 32 - 1) - m)))

inside-digit : (m n f b : ℕ) → m < 2 → n < 2 → f < 2 → b < 2 → min f m ≡ f → min b n ≡ b → min (max f (min b (1 - m))) (max m n) ≡ max f (min b (1 - m))
inside-digit m n f b hm hn hf hb ef eb = omega arith

pub over-inside : (m n f b : ℕ) → m < 2 ^ 32 → n < 2 ^ 32 → Inside m f → Inside n b → Inside (bit_or m n) (over m f b)
over-inside m n f b hm hn ef eb =
    let word : over m f b < 2 ^ 32 = over_word m f b (inside-word m f hm ef) (inside-word n b hn eb) in
    same_from_bits_below 32 _ _ (omega (arith, and_le_l (over m f b) (bit_or m n))) word
    (λ k l.
    let o = over-bit k m f b l hm in
    bit_at_and (over m f b) (bit_or m n) k
    ∙ (λ i. min (o i) (bit_at_or m n k i))
    ∙ inside-digit (bit_at m k) (bit_at n k) (bit_at f k) (bit_at b k) (omega arith) (omega arith) (omega arith) (omega arith)
    (sym (bit_at_and f m k) ∙ ap (λ x. bit_at x k) ef) (sym (bit_at_and b n k) ∙ ap (λ x. bit_at x k) eb)
    ∙ sym o)

pub and_inside : (m p : ℕ) → Inside m (bit_and p m)
and_inside m p = and_assoc m p m ∙ ap (bit_and p) (and_self m)

-- the pixel that a record stands for: bits outside the mask do not count
abbrev pub meaning : CoverageRecord → Coverage
meaning r = record {
  mask = low r.mask;
  planes = four (λ k. bit_and (slice_index r.planes k) (low r.mask));
  lawful = (
    omega arith,
    refl,
    four_inside (λ k. bit_and (slice_index r.planes k) (low r.mask)) (low r.mask) (λ k. and_inside (low r.mask) (slice_index r.planes k)),
  );
}

abbrev pub blank : Coverage
blank = record { mask = 0; planes = four (λ _. 0); lawful = (omega arith, refl, four_inside (λ _. 0) 0 (λ _. refl)) }

abbrev pub join : Coverage → Coverage → Coverage
join front back = record {
  mask = bit_or front.mask back.mask;
  planes = four (λ k. over front.mask (slice_index front.planes k) (slice_index back.planes k));
  lawful = (
    or_lt 32 front.mask back.mask front.lawful.0 back.lawful.0,
    refl,
    four_inside (λ k. over front.mask (slice_index front.planes k) (slice_index back.planes k)) (bit_or front.mask back.mask)
        (λ k. over-inside front.mask back.mask (slice_index front.planes k) (slice_index back.planes k) front.lawful.0 back.lawful.0 (front.lawful.2 k) (back.lawful.2 k)),
  );
}

abbrev pub words : Coverage → List ℕ
words p = p.mask ∷ p.planes

abbrev pub of_words : List ℕ → Coverage
of_words ws = meaning (record { mask = slice_index ws 0; planes = drop 1 ws })

abbrev pub coverage : Kind Coverage CoverageRecord
coverage = record {
  number = 2;
  width = 5;
  meaning = meaning;
  plain = λ p. record { mask = p.mask; planes = p.planes };
  blank = blank;
  join = join;
  words = words;
  reads = reading words of_words;
}
