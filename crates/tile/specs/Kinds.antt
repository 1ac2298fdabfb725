-- What a kind of pixel is: pixels P, and records R as they lie in memory. Assumes nothing.
use Rattle.std.specs.Prelude.{◌≡◌, ℕ, ◌≤◌, if◌then◌else◌, List, length, replicate, Some, None, Option, nat_eq}
use Rattle.std.specs.Cmp.Lexicographic.{pointwise}
use Rattle.tile.specs.Words.{AreWords}
use Rattle.tile.specs.Named.{Named}

pub record Kind (P R : Type 0) : Type 0 where
  pub number : ℕ
  -- how many words a pixel has
  pub width : ℕ
  -- the pixel that a record stands for
  pub meaning : R → P
  -- a record that stands for the pixel
  pub plain : P → R
  pub blank : P
  -- front, then back
  pub join : P → P → P
  pub words : P → List ℕ
  -- the pixel that has these words, if one has
  pub reads : List ℕ → Option P

pub record KindLaws {P R : Type 0} (m : Kind P R) : Type 0 where
  pub meaning_plain : (p : P) → m.meaning (m.plain p) ≡ p
  -- blank joined on either side changes no pixel
  pub left : (p : P) → m.join m.blank p ≡ p
  pub right : (p : P) → m.join p m.blank ≡ p
  pub assoc : (p q s : P) → m.join (m.join p q) s ≡ m.join p (m.join q s)
  pub some_words : 1 ≤ m.width
  pub words_length : (p : P) → length (m.words p) ≡ m.width
  pub are_words : (p : P) → AreWords (m.words p)
  -- a pixel's words read back as that pixel
  pub read_back : (p : P) → m.reads (m.words p) ≡ Some p
  -- words of no pixel are not read
  pub read_only : (ws : List ℕ) (p : P) → m.reads ws ≡ Some p → m.words p ≡ ws
  -- blank, and blank alone, has only zero words
  pub blank_zeros : m.words m.blank ≡ replicate m.width 0
  pub blank_alone : (p : P) → m.words p ≡ replicate m.width 0 → p ≡ m.blank
  -- with the number of a named kind, the words are those of that kind
  pub named : Named m.number m.width (λ ws. (p : P) × (m.words p ≡ ws))

-- the pixel made of the words, if it has these words
abbrev pub reading : {P : Type 0} → (P → List ℕ) → (List ℕ → P) → List ℕ → Option P
reading words of_words ws = if pointwise nat_eq (words (of_words ws)) ws then Some (of_words ws) else None
