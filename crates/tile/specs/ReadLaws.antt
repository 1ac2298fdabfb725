-- Words that are read. Assumes nothing.
use Rattle.std.specs.Prelude.{◌≡◌, ◌≢◌, ℕ, Bool, true, false, List, Option, Some, None, nat_eq, if◌then◌else◌, refl}
use Rattle.std.proofs.Common.{sym, ap, ◌∙◌}
use Rattle.std.proofs.lemmas.Bool.{cond-true}
use Rattle.std.proofs.lemmas.Slice.Eq.{bytes_eq-Decides}
use Rattle.std.specs.Cmp.Lexicographic.{pointwise}
use Rattle.tile.specs.Kinds.{Kind, KindLaws, reading}

module _ {P : Type 0} (words : P → List ℕ) (of_words : List ℕ → P) where
  pub reading-back : ((p : P) → of_words (words p) ≡ p) → (p : P) → reading words of_words (words p) ≡ Some p
  reading-back made p =
      let e = made p in
      let same : pointwise nat_eq (words (of_words (words p))) (words p) ≡ true = (bytes_eq-Decides (words (of_words (words p))) (words p)).1 (ap words e) in
      cond-true _ _ _ same ∙ ap Some e

  pub reading-only : (ws : List ℕ) (p : P) → reading words of_words ws ≡ Some p → words p ≡ ws
  reading-only ws p = only (pointwise nat_eq (words (of_words ws)) ws) (bytes_eq-Decides (words (of_words ws)) ws).0
    where
      only : (same : Bool) → (same ≡ true → words (of_words ws) ≡ ws) → (if same then Some (of_words ws) else None) ≡ Some p → words p ≡ ws
      only true told e = let q : of_words ws ≡ p = cc in ap words (sym q) ∙ told refl
      only false told e = cc

  -- words of which no pixel is made are not read
  pub reading-none : (ws : List ℕ) → (words (of_words ws) ≢ ws) → None ≡ reading words of_words ws
  reading-none ws h = none (pointwise nat_eq (words (of_words ws)) ws) (bytes_eq-Decides (words (of_words ws)) ws).0
    where
      none : (same : Bool) → (same ≡ true → words (of_words ws) ≡ ws) → ◌≡◌ {A = Option P} None (if same then Some (of_words ws) else None)
      none true told = absurd (h (told refl))
      none false told = refl

  -- words that the pixel made of them has are read
  pub reading-some : (ws : List ℕ) (p : P) → ((p : P) → of_words (words p) ≡ p) → words p ≡ ws → Some p ≡ reading words of_words ws
  reading-some ws p made h = sym (ap (reading words of_words) (sym h) ∙ reading-back made p)

module _ {P R : Type 0} (m : Kind P R) (laws : KindLaws m) where
  -- two pixels with the same words are one
  pub words-once : (p q : P) → m.words p ≡ m.words q → p ≡ q
  words-once p q e =
      let s : Some p ≡ Some q = sym (laws.read_back p) ∙ ap m.reads e ∙ laws.read_back q in
      cc
