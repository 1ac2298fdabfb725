-- Nearest pixels are a kind. Assumes nothing.
use Rattle.std.specs.Prelude.{◌≡◌, ℕ, zero, suc, ◌^◌, ◌<◌, true, List, [], ◌∷◌, length, nat_le, slice_index, refl}
use Rattle.std.proofs.Common.{sym, ap, ap₂, subst, ◌∙◌, mod-eq_of_lt, arith}
use mathlib.Core.HLevel.{is_prop→PathP, Π_prop, ×₃_prop}
use Rattle.std.proofs.Math.Bridge.{le_prop}
use Rattle.std.proofs.Math.Nat.{ℕ_set}
use Rattle.std.proofs.lemmas.Bool.{cond_both, leb-true, leb-false}
use Rattle.std.proofs.lemmas.Bool.Decides.{nat_tests}
use Rattle.tile.specs.Kinds.{KindLaws}
use Rattle.tile.specs.Named.{SameKind, near_lawful}
use Rattle.tile.specs.Words.{low, AreWords}
use Rattle.tile.specs.Near.{nearest, join, blank, meaning, colour_at, words, of_words}
use Rattle.tile.specs.ReadLaws.{reading-back, reading-only}
use Rattle.tile.specs.declared.near.Nearest.{Nearest}

pub same-nearest : (p q : Nearest) → p.nearness ≡ q.nearness → p.colour ≡ q.colour → p ≡ q
same-nearest p q n c j = record {
  nearness = n j;
  colour = c j;
  lawful = is_prop→PathP
      (λ k. n k < 2 ^ 32 × c k < 2 ^ 32 × (n k ≡ 0 → c k ≡ 0))
      (λ k. ×₃_prop le_prop le_prop (Π_prop (λ _. ℕ_set _ _)))
      p.lawful q.lawful j;
}

pub lawful_colour : (n c : ℕ) → (n ≡ 0 → c ≡ 0) → colour_at n c ≡ c
lawful_colour zero c h = sym (h refl)
lawful_colour (suc n) c h = refl

pub meaning_plain : (p : Nearest) → meaning (nearest.plain p) ≡ p
meaning_plain p =
    let n : low p.nearness ≡ p.nearness = mod-eq_of_lt p.lawful.0 in
    let c : low p.colour ≡ p.colour = mod-eq_of_lt p.lawful.1 in
    same-nearest _ _ n (ap₂ colour_at n c ∙ lawful_colour p.nearness p.colour p.lawful.2)

pub left : (p : Nearest) → join blank p ≡ p
left p =
    cond_both (nat_le p.nearness 0) blank p (λ x. x ≡ p)
    (λ e.
    let none : p.nearness ≡ 0 = omega (arith, leb-true p.nearness 0 e) in
    same-nearest blank p (sym none) (sym (p.lawful.2 none)))
    (λ e. refl)

pub right : (p : Nearest) → join p blank ≡ p
right p = cond_both (nat_le 0 p.nearness) p blank (λ x. x ≡ p) (λ e. refl) (λ e. absurd (omega (arith, leb-false 0 p.nearness e)))

pub assoc : (p q s : Nearest) → join (join p q) s ≡ join p (join q s)
assoc p q s = grind (arith, nat_tests)

are_words : (p : Nearest) → AreWords (nearest.words p)
are_words p zero = p.lawful.0
are_words p (suc zero) = p.lawful.1
are_words p (suc (suc k)) = omega arith

near_told : (n c : ℕ) → (n ≡ 0 → c ≡ 0) → near_lawful (n ∷ c ∷ []) ≡ true
near_told n c law = grind (arith, nat_tests)

to_near : (ws : List ℕ) → length ws ≡ 2 → AreWords ws → near_lawful ws ≡ true → (p : Nearest) × (nearest.words p ≡ ws)
to_near [] l are t = absurd (omega arith)
to_near (n ∷ []) l are t = absurd (omega arith)
to_near (n ∷ c ∷ x ∷ ws) l are t = absurd (omega arith)
to_near (n ∷ c ∷ []) l are t = (record { nearness = n; colour = c; lawful = (are 0, are 1, λ e. grind (arith, nat_tests)) }, refl)

named : SameKind 1 2 (λ ws. (p : Nearest) × (nearest.words p ≡ ws))
named = record {
  same_width = refl;
  allowed = λ ws l. subst (λ (vs : List ℕ). near_lawful vs ≡ true) l.1 (near_told l.0.nearness l.0.colour l.0.lawful.2);
  all_allowed = to_near;
}

pub laws : KindLaws nearest
laws = record {
  meaning_plain = meaning_plain;
  left = left;
  right = right;
  assoc = assoc;
  some_words = omega arith;
  words_length = λ p. refl;
  are_words = are_words;
  read_back = reading-back words of_words meaning_plain;
  read_only = reading-only words of_words;
  blank_zeros = refl;
  blank_alone = λ p e. same-nearest p blank (ap (λ ws. slice_index ws 0) e) (ap (λ ws. slice_index ws 1) e);
  named = λ _. named;
}

pub two_words : (ws : List ℕ) → length ws ≡ 2 → slice_index ws 0 ∷ slice_index ws 1 ∷ [] ≡ ws
two_words [] h = absurd (omega arith)
two_words (a ∷ []) h = absurd (omega arith)
two_words (a ∷ b ∷ []) h = refl
two_words (a ∷ b ∷ x ∷ ws) h = absurd (omega arith)
