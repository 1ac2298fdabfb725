-- A dump's pixels lie within the limits of its head. Assumes nothing.
use Rattle.std.proofs.Common.{◌≡◌, ℕ, ◌+◌, ◌*◌, ◌<◌, ◌≤◌, true, List, [], ◌∷◌, ◌++◌, length, sym, ap, subst, arith}
use Rattle.tile.specs.Named.{named_width, named_lawful}
use Rattle.dump.specs.Phases.{Heading}
use Rattle.dump.specs.Bytes.{words_in}
use Rattle.dump.specs.Grammar.{Piece, place, pixel, Upward, Sections, HasForm, Content, Placed, numbered, all_numbered, Inside, AllInside}
use Rattle.dump.specs.Records.{body_size, kind_told}
use Rattle.dump.proofs.PixelRecords.{pixel_record, some_kind}
use Rattle.dump.proofs.Spelled.{length_words_in}

both_inside : (h : Heading) (ps qs : List Placed) → AllInside h ps → AllInside h qs → AllInside h (ps ++ qs)
both_inside h [] qs a b = b
both_inside h (p ∷ ps) qs a b = (a.0, both_inside h ps qs a.1 b)

module _ (h : Heading) (some : 1 ≤ named_width h.kind) where
  one_inside : (r due k : ℕ) (b : List ℕ) → r < h.ranks → due < h.pixels → kind_told k ≡ h.kind → length b ≡ body_size k → named_lawful h.kind (words_in b) ≡ true → Inside h (record { rank = r; number = due; words = words_in b })
  one_inside r due k b low below is size law =
      let acts = pixel_record k (subst (λ (n : ℕ). 1 ≤ n) (sym is) (some_kind h.kind some)) in
      let words = length_words_in b in
      let width = ap named_width is in
      record { rank_in = low; number_in = below; long = omega (arith, acts.size_is); law = law }

  pieces-inside : (r due : ℕ) (ps : List Piece) → r < h.ranks → Upward h due ps → AllInside h (numbered r due ps)
  pieces-inside r due [] low up = tt
  pieces-inside r due (place a b ∷ ps) low up = pieces-inside r (a * 256 + b) ps low up.2
  pieces-inside r due (pixel k b ∷ ps) low up = (one_inside r due k b low up.0 up.1 up.2 up.3, pieces-inside r (due + 1) ps low up.4)

  sections-inside : (r : ℕ) (ss : List (List Piece)) → r + length ss ≤ h.ranks → Sections h ss → AllInside h (all_numbered r ss)
  sections-inside r [] low each = tt
  sections-inside r (ps ∷ ss) low each = both_inside h (numbered r 0 ps) (all_numbered (r + 1) ss) (pieces-inside r 0 ps (omega arith) each.0) (sections-inside (r + 1) ss (omega arith) each.1)

pub all_inside : (bytes : List ℕ) (c : Content) → HasForm bytes c → AllInside c.head c.pixels
all_inside bytes c f = subst (AllInside c.head) (sym f.holds) (sections-inside c.head f.limits.kind_in 0 f.sections (omega (arith, f.all)) f.each)
