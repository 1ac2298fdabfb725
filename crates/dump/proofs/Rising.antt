-- A dump's pixels stand in order of rank and number. Assumes nothing.
use Rattle.std.proofs.Common.{◌≡◌, ℕ, ◌+◌, ◌*◌, ◌<◌, ◌≤◌, List, [], ◌∷◌, ◌++◌, sym, refl, subst, inl, inr, ⊎_elim, arith}
use Rattle.dump.specs.Phases.{Heading}
use Rattle.dump.specs.Grammar.{Piece, place, pixel, Upward, Sections, HasForm, Content, Placed, numbered, all_numbered, Rising}

-- what rises from a later place rises from an earlier one
later_rank : (r i : ℕ) (ps : List Placed) → Rising (r + 1) 0 ps → Rising r i ps
later_rank r i [] h = tt
later_rank r i (p ∷ ps) h = (⊎_elim (λ (l : r + 1 < p.rank). inl (omega arith)) (λ (e : (r + 1 ≡ p.rank) × (0 ≤ p.number)). inl (omega (arith, e.0))) h.0, h.1)

later-number : (r i j : ℕ) (ps : List Placed) → i ≤ j → Rising r j ps → Rising r i ps
later-number r i j [] le h = tt
later-number r i j (p ∷ ps) le h = (⊎_elim (λ (l : r < p.rank). inl l) (λ (e : (r ≡ p.rank) × (j ≤ p.number)). inr (e.0, omega (arith, e.1))) h.0, h.1)

pieces_rise : (h : Heading) (r due : ℕ) (ps : List Piece) (rest : List Placed) → Upward h due ps → Rising (r + 1) 0 rest → Rising r due (numbered r due ps ++ rest)
pieces_rise h r due [] rest up on = later_rank r due rest on
pieces_rise h r due (place a b ∷ ps) rest up on = later-number r due (a * 256 + b) (numbered r (a * 256 + b) ps ++ rest) (omega (arith, up.0)) (pieces_rise h r (a * 256 + b) ps rest up.2 on)
pieces_rise h r due (pixel k b ∷ ps) rest up on = (inr (refl, omega arith), pieces_rise h r (due + 1) ps rest up.4 on)

sections_rise : (h : Heading) (r : ℕ) (ss : List (List Piece)) → Sections h ss → Rising r 0 (all_numbered r ss)
sections_rise h r [] each = tt
sections_rise h r (ps ∷ ss) each = pieces_rise h r 0 ps (all_numbered (r + 1) ss) each.0 (sections_rise h (r + 1) ss each.1)

pub all_rising : (bytes : List ℕ) (c : Content) → HasForm bytes c → Rising 0 0 c.pixels
all_rising bytes c f = subst (Rising 0 0) (sym f.holds) (sections_rise c.head 0 f.sections f.each)
