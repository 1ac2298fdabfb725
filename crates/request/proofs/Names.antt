-- Names read byte by byte. Assumes nothing.
use Rattle.std.proofs.Common.{◌≡◌, ℕ, ◌<◌, ◌≤◌, List, [], ◌∷◌, length, get_or, Some, refl, arith}
use Rattle.request.specs.Links.{call_named, kind_named}
use Rattle.request.specs.declared.links.LinkCall.TheVariants.{Trim, Waiting}

pub waiting : (w : List ℕ) → 7 ≤ length w → length w < 8 → get_or w 0 0 ≡ 119 → get_or w 1 0 ≡ 97 → get_or w 2 0 ≡ 105 → get_or w 3 0 ≡ 116 → get_or w 4 0 ≡ 105 → get_or w 5 0 ≡ 110 → get_or w 6 0 ≡ 103 → Some Waiting ≡ call_named w
waiting (a ∷ b ∷ c ∷ d ∷ e ∷ f ∷ g ∷ []) l m ha hb hc hd he hf hg = rw (ha, hb, hc, hd, he, hf, hg) refl
waiting w l m ha hb hc hd he hf hg = absurd (omega arith)

layer : (w : List ℕ) → 5 ≤ length w → length w < 6 → get_or w 0 0 ≡ 108 → get_or w 1 0 ≡ 97 → get_or w 2 0 ≡ 121 → get_or w 3 0 ≡ 101 → get_or w 4 0 ≡ 114 → w ≡ 108 ∷ 97 ∷ 121 ∷ 101 ∷ 114 ∷ []
layer (a ∷ b ∷ c ∷ d ∷ e ∷ []) l m ha hb hc hd he = rw (ha, hb, hc, hd, he) refl
layer w l m ha hb hc hd he = absurd (omega arith)

trim : (k : List ℕ) → 4 ≤ length k → length k < 5 → get_or k 0 0 ≡ 116 → get_or k 1 0 ≡ 114 → get_or k 2 0 ≡ 105 → get_or k 3 0 ≡ 109 → k ≡ 116 ∷ 114 ∷ 105 ∷ 109 ∷ []
trim (a ∷ b ∷ c ∷ d ∷ []) l m ha hb hc hd = rw (ha, hb, hc, hd) refl
trim k l m ha hb hc hd = absurd (omega arith)

pub layer_trim : (w k : List ℕ) → 5 ≤ length w → length w < 6 → get_or w 0 0 ≡ 108 → get_or w 1 0 ≡ 97 → get_or w 2 0 ≡ 121 → get_or w 3 0 ≡ 101 → get_or w 4 0 ≡ 114 → 4 ≤ length k → length k < 5 → get_or k 0 0 ≡ 116 → get_or k 1 0 ≡ 114 → get_or k 2 0 ≡ 105 → get_or k 3 0 ≡ 109 → Some Trim ≡ kind_named w k
layer_trim w k l m ha hb hc hd he n o hf hg hh hi = rw (layer w l m ha hb hc hd he, trim k n o hf hg hh hi) refl
