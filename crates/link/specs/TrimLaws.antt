-- The layer keeps the laws of a link. Assumes nothing.
use Rattle.std.proofs.Common.{◌≡◌, ℕ, suc, ◌+◌, ◌-◌, ◌≤◌, Bool, true, false, if◌then◌else◌, List, [], ◌∷◌, length, replicate, refl, arith}
use Rattle.std.proofs.lemmas.List.{length-append, length-replicate}
use Rattle.std.proofs.lemmas.Bool.Decides.{nat_tests}
use Rattle.link.specs.Model.{LinkModel, BoxState, Empty, Holds, Spoilt, Allowed, LinkLaws}
use Rattle.link.specs.Trim.{has_form, spread, trim_box, trim_model}
use Rattle.link.specs.WordLaws.{append_words, zero_words}
use Rattle.tile.specs.Words.{AreWords}

-- the message of a form has as many words as the form says
pub length-spread : (count lead : ℕ) (mid : List ℕ) → lead + length mid ≤ count → length (spread count lead mid) ≡ count
length-spread count lead mid h = simp (length-append, length-replicate) (omega arith)

-- the words of a form's message are words
spread_words : (count lead : ℕ) (mid : List ℕ) → AreWords mid → AreWords (spread count lead mid)
spread_words count lead mid h =
    append_words (replicate lead 0) _ (zero_words lead) (append_words mid _ h (zero_words (count - (lead + length mid))))

trim_allowed : (l below : ℕ) (b : BoxState) → Allowed below b → Allowed l (trim_box l b)
trim_allowed l below Empty h = tt
trim_allowed l below Spoilt h = tt
trim_allowed l below (Holds []) h = tt
trim_allowed l below (Holds (x ∷ [])) h = tt
trim_allowed l below (Holds (count ∷ lead ∷ mid)) h = at (has_form l count lead mid) refl
  where
    at : (t : Bool) → has_form l count lead mid ≡ t → Allowed l (if t then Holds (spread count lead mid) else Spoilt)
    at false e = tt
    at true e =
        let fits : lead + length mid ≤ count = grind (arith, nat_tests) in
        let n = length-spread count lead mid fits in
        (grind (arith, nat_tests), grind (arith, nat_tests), spread_words count lead mid (λ k. h.2 (suc (suc k))))

pub trim_lawful : (m : LinkModel) → LinkLaws m → LinkLaws (trim_model m)
trim_lawful m h = record {
  few = h.few;
  short = omega (arith, h.short);
  allowed = λ i j. trim_allowed (m.longest - 2) m.longest (m.boxes i j) (h.allowed i j);
}
