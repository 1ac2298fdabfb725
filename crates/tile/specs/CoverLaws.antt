-- Coverage pixels are a kind. Assumes nothing.
use Rattle.std.specs.Prelude.{◌≡◌, ℕ, zero, suc, ◌-◌, ◌^◌, ◌<◌, min, max, true, List, [], ◌∷◌, length, drop, bit_and, slice_index, refl}
use Rattle.std.proofs.Common.{sym, ap, subst, ◌∙◌, mod-eq_of_lt, arith}
use Rattle.std.proofs.lemmas.Bool.Decides.{nat_tests}
use mathlib.Core.HLevel.{is_prop→PathP, Π_prop, ×₃_prop}
use Rattle.std.proofs.Math.Bridge.{le_prop}
use Rattle.std.proofs.Math.Nat.{ℕ_set, zero-max}
use Rattle.std.specs.Int.Bits.{bit_or, or_zero_r}
use Rattle.std.proofs.lemmas.Nat.{and_mask, or_lt}
use Rattle.std.proofs.lemmas.Nat.Bits.{bit_at_or, same_from_bits, same_from_bits_below}
use Rattle.std.specs.Int.{bit_at}
use Rattle.tile.specs.Cover.{coverage, join, blank, meaning, words, of_words, four, over, over-bit, over_word, inside-word}
use Rattle.tile.specs.Kinds.{KindLaws}
use Rattle.tile.specs.ReadLaws.{reading-back, reading-only}
use Rattle.tile.specs.Named.{SameKind, Inside, cover_lawful}
use Rattle.tile.specs.Words.{low, AreWords}
use Rattle.tile.specs.declared.cover.Coverage.{Coverage}

pub same-coverage : (p q : Coverage) → p.mask ≡ q.mask → p.planes ≡ q.planes → p ≡ q
same-coverage p q m s j = record {
  mask = m j;
  planes = s j;
  lawful = is_prop→PathP
      (λ i. m i < 2 ^ 32 × length (s i) ≡ 4 × ((k : ℕ) → bit_and (slice_index (s i) k) (m i) ≡ slice_index (s i) k))
      (λ i. ×₃_prop le_prop (ℕ_set _ _) (Π_prop (λ _. ℕ_set _ _)))
      p.lawful q.lawful j;
}

pub four_is : (ps : List ℕ) → length ps ≡ 4 → four (λ k. slice_index ps k) ≡ ps
four_is [] h = absurd (omega arith)
four_is (a ∷ []) h = absurd (omega arith)
four_is (a ∷ b ∷ []) h = absurd (omega arith)
four_is (a ∷ b ∷ c ∷ []) h = absurd (omega arith)
four_is (a ∷ b ∷ c ∷ d ∷ []) h = refl
four_is (a ∷ b ∷ c ∷ d ∷ x ∷ ps) h = absurd (omega arith)

pub same-four : (f g : ℕ → ℕ) → ((k : ℕ) → f k ≡ g k) → four f ≡ four g
same-four f g e i = four (λ k. e k i)

-- planes of which each is given
pub four_made : (f : ℕ → ℕ) (ps : List ℕ) → length ps ≡ 4 → slice_index ps 0 ≡ f 0 → slice_index ps 1 ≡ f 1 → slice_index ps 2 ≡ f 2 → slice_index ps 3 ≡ f 3 → ps ≡ four f
four_made f ps l a b c d = sym (four_is ps l) ∙ (λ i. a i ∷ b i ∷ c i ∷ d i ∷ [])

module _ (p : Coverage) where
  pub plane-word : (k : ℕ) → slice_index p.planes k < 2 ^ 32
  plane-word k = inside-word p.mask (slice_index p.planes k) p.lawful.0 (p.lawful.2 k)

  planes_are : (f : ℕ → ℕ) → ((k : ℕ) → f k ≡ slice_index p.planes k) → four f ≡ p.planes
  planes_are f e = same-four f (λ k. slice_index p.planes k) e ∙ four_is p.planes p.lawful.1

  pub low_mask : low p.mask ≡ p.mask
  low_mask = mod-eq_of_lt p.lawful.0

  pub meaning_plain : meaning (coverage.plain p) ≡ p
  meaning_plain =
      same-coverage _ _ low_mask
      (planes_are (λ k. bit_and (slice_index p.planes k) (low p.mask))
      (λ k. ap (bit_and (slice_index p.planes k)) low_mask ∙ p.lawful.2 k))

  pub left : join blank p ≡ p
  left =
      same-coverage _ _ refl
      (planes_are (λ k. over 0 0 (slice_index p.planes k)) (λ k. and_mask (slice_index p.planes k) 32 ∙ mod-eq_of_lt (plane-word k)))

  pub right : join p blank ≡ p
  right =
      same-coverage _ _ (or_zero_r p.mask)
      (planes_are (λ k. over p.mask (slice_index p.planes k) 0) (λ k. or_zero_r (slice_index p.planes k)))

  pub are_words : AreWords (coverage.words p)
  are_words zero = p.lawful.0
  are_words (suc k) = plane-word k

or_assoc : (a b c : ℕ) → bit_or (bit_or a b) c ≡ bit_or a (bit_or b c)
or_assoc a b c = same_from_bits _ _ (λ k. omega (arith, bit_at_or (bit_or a b) c k, bit_at_or a b k, bit_at_or a (bit_or b c) k, bit_at_or b c k))

-- one sample that the front does not cover, and one that it does
past-front : (f b x : ℕ) → b < 2 → x < 2 → max (max f (min b 1)) x ≡ max f (min (max b x) 1)
past-front f b x hb hx = omega arith

at_front : (f b c y : ℕ) → max (max f (min b 0)) (min c 0) ≡ max f (min y 0)
at_front f b c y = omega arith

over-digit : (m n f b c : ℕ) → m < 2 → n < 2 → b < 2 → c < 2 → max (max f (min b (1 - m))) (min c (1 - max m n)) ≡ max f (min (max b (min c (1 - n))) (1 - m))
over-digit zero n f b c hm hn hb hc =
    ap (λ x. max (max f (min b 1)) (min c (1 - x))) (zero-max n) ∙ past-front f b (min c (1 - n)) hb (omega arith)
over-digit (suc zero) n f b c hm hn hb hc =
    let none : 1 - max 1 n ≡ 0 = omega arith in
    ap (λ x. max (max f (min b 0)) (min c x)) none ∙ at_front f b c (max b (min c (1 - n)))
over-digit (suc (suc m)) n f b c hm hn hb hc = absurd (omega arith)

over-assoc : (m n f b c : ℕ) → m < 2 ^ 32 → n < 2 ^ 32 → f < 2 ^ 32 → b < 2 ^ 32 → c < 2 ^ 32 → over (bit_or m n) (over m f b) c ≡ over m f (over n b c)
over-assoc m n f b c hm hn hf hb hc =
    same_from_bits_below 32 _ _ (over_word (bit_or m n) (over m f b) c (over_word m f b hf hb) hc) (over_word m f (over n b c) hf (over_word n b c hb hc))
    (λ k l.
    over-bit k (bit_or m n) (over m f b) c l (or_lt 32 m n hm hn)
    ∙ (λ i. max (over-bit k m f b l hm i) (min (bit_at c k) (1 - bit_at_or m n k i)))
    ∙ over-digit (bit_at m k) (bit_at n k) (bit_at f k) (bit_at b k) (bit_at c k) (omega arith) (omega arith) (omega arith) (omega arith)
    ∙ sym (over-bit k m f (over n b c) l hm ∙ (λ i. max (bit_at f k) (min (over-bit k n b c l hn i) (1 - bit_at m k)))))

pub assoc : (p q s : Coverage) → join (join p q) s ≡ join p (join q s)
assoc p q s =
    same-coverage _ _ (or_assoc p.mask q.mask s.mask)
    (same-four
    (λ k. over (bit_or p.mask q.mask) (over p.mask (slice_index p.planes k) (slice_index q.planes k)) (slice_index s.planes k))
    (λ k. over p.mask (slice_index p.planes k) (over q.mask (slice_index q.planes k) (slice_index s.planes k)))
    (λ k. over-assoc p.mask q.mask _ _ _ p.lawful.0 q.lawful.0 (plane-word p k) (plane-word q k) (plane-word s k)))

pub inside_all : (m a b c d : ℕ) → Inside m a → Inside m b → Inside m c → Inside m d → (k : ℕ) → Inside m (slice_index (a ∷ b ∷ c ∷ d ∷ []) k)
inside_all m a b c d ia ib ic id zero = ia
inside_all m a b c d ia ib ic id (suc zero) = ib
inside_all m a b c d ia ib ic id (suc (suc zero)) = ic
inside_all m a b c d ia ib ic id (suc (suc (suc zero))) = id
inside_all m a b c d ia ib ic id (suc (suc (suc (suc k)))) = refl

cover_told : (m a b c d : ℕ) → Inside m a → Inside m b → Inside m c → Inside m d → cover_lawful (m ∷ a ∷ b ∷ c ∷ d ∷ []) ≡ true
cover_told m a b c d ia ib ic id = grind (arith, nat_tests)

to_cover : (ws : List ℕ) → length ws ≡ 5 → AreWords ws → cover_lawful ws ≡ true → (p : Coverage) × (coverage.words p ≡ ws)
to_cover [] l are t = absurd (omega arith)
to_cover (m ∷ []) l are t = absurd (omega arith)
to_cover (m ∷ a ∷ []) l are t = absurd (omega arith)
to_cover (m ∷ a ∷ b ∷ []) l are t = absurd (omega arith)
to_cover (m ∷ a ∷ b ∷ c ∷ []) l are t = absurd (omega arith)
to_cover (m ∷ a ∷ b ∷ c ∷ d ∷ x ∷ ws) l are t = absurd (omega arith)
to_cover (m ∷ a ∷ b ∷ c ∷ d ∷ []) l are t = (record { mask = m; planes = a ∷ b ∷ c ∷ d ∷ []; lawful = (are 0, refl, inside_all m a b c d (grind (arith, nat_tests)) (grind (arith, nat_tests)) (grind (arith, nat_tests)) (grind (arith, nat_tests))) }, refl)

from_cover : (p : Coverage) → cover_lawful (coverage.words p) ≡ true
from_cover p =
    subst (λ (ps : List ℕ). cover_lawful (p.mask ∷ ps) ≡ true) (four_is p.planes p.lawful.1)
    (cover_told p.mask (slice_index p.planes 0) (slice_index p.planes 1) (slice_index p.planes 2) (slice_index p.planes 3) (p.lawful.2 0) (p.lawful.2 1) (p.lawful.2 2) (p.lawful.2 3))

named : SameKind 2 5 (λ ws. (p : Coverage) × (coverage.words p ≡ ws))
named = record {
  same_width = refl;
  allowed = λ ws l. subst (λ (vs : List ℕ). cover_lawful vs ≡ true) l.1 (from_cover l.0);
  all_allowed = to_cover;
}

pub laws : KindLaws coverage
laws = record {
  meaning_plain = meaning_plain;
  left = left;
  right = right;
  assoc = assoc;
  some_words = omega arith;
  words_length = λ p. ap suc p.lawful.1;
  are_words = are_words;
  read_back = reading-back words of_words meaning_plain;
  read_only = reading-only words of_words;
  blank_zeros = refl;
  blank_alone = λ p e. same-coverage p blank (ap (λ ws. slice_index ws 0) e) (ap (drop 1) e);
  named = λ _. named;
}

pub five_words : (ws : List ℕ) → length ws ≡ 5 → slice_index ws 0 ∷ four (λ k. slice_index ws (suc k)) ≡ ws
five_words [] h = absurd (omega arith)
five_words (m ∷ ws) h = ap (λ ps. m ∷ ps) (four_is ws (omega arith))
