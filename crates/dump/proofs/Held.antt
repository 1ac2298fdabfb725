-- The pixels that a run places are those of the grammar. Assumes nothing.
use Rattle.std.proofs.Common.{◌≡◌, ℕ, zero, suc, ◌+◌, ◌-◌, ◌*◌, ◌<◌, ◌≤◌, List, [], ◌∷◌, ◌++◌, length, Some, None, Option, sym, refl, ap, ◌∙◌, subst, ap₂, arith, length-drop}
use Rattle.std.proofs.lemmas.List.{nil_from_length}
use Rattle.std.proofs.lemmas.Option.{none-some}
use Rattle.tile.specs.declared.fault.Ground.{Ground}
use Rattle.tile.specs.declared.fault.Ground.TheVariants.{CutShort}
use Rattle.tile.specs.Named.{named_width}
use Rattle.dump.specs.Phases.{Heading, Advance, Phase, Before, Behind, phase}
use Rattle.dump.specs.Grammar.{Piece, place, pixel, pieces_then, sections_then, Upward, Sections, Limits, HasForm, Content, Placed, numbered, all_numbered}
use Rattle.dump.specs.Order.{record_ground, next, refusal}
use Rattle.dump.specs.declared.pixels.PixelAt.{PixelAt}
use Rattle.dump.specs.declared.walk.Walk.{Walk}
use Rattle.dump.specs.Pixels.{Taken, ahead, if_sound, placed, placed_by, pixels_by, pixels_from, pixels_in}
use Rattle.dump.specs.Records.{Known, body_size, kind_at, body_at, behind}
use Rattle.dump.proofs.Parses.{at_stage, body_same, behind-same, refusal-same, place-sound, rank-sound, end_sound, head-sound, pixel-sound}

-- no record stands where no byte is left
pub at_end : (s : Phase) (rest : List ℕ) → rest ≡ [] → refusal s rest ≡ Some CutShort
unfolding refusal
at_end s rest e = ap (refusal s) e

shorter : (rest : List ℕ) (n : ℕ) → length rest ≤ suc n → length (behind rest) ≤ n
shorter rest n h = let cut = length-drop (1 + body_size (kind_at rest)) rest in omega arith

-- any bound that is long enough
enough : (n m : ℕ) (s : Phase) (rest : List ℕ) → length rest ≤ n → length rest ≤ m → pixels_by n s rest ≡ pixels_by m s rest
unfolding pixels_by
enough zero zero s rest hn hm = refl
enough zero (suc m) s rest hn hm = rw (at_end s rest (nil_from_length rest (omega arith)))
enough (suc n) zero s rest hn hm = rw (at_end s rest (nil_from_length rest (omega arith)))
enough (suc n) (suc m) s rest hn hm =
    ap (λ ps. if_sound (refusal s rest) (placed s (kind_at rest) (body_at rest) ++ ps))
    (enough n m (next s (kind_at rest) (body_at rest)) (behind rest) (shorter rest n hn) (shorter rest m hm))

-- one sound record more
pub taken : (s : Phase) (rest : List ℕ) → refusal s rest ≡ None → pixels_from s rest ≡ placed s (kind_at rest) (body_at rest) ++ pixels_from (next s (kind_at rest) (body_at rest)) (behind rest)
unfolding pixels_by
taken s [] f =
    absurd (none-some _ (sym f ∙ at_end s [] refl))
taken s (k ∷ xs) f =
    let rest = k ∷ xs in
    let more = enough (length xs) (length (behind rest)) (next s k (body_at rest)) (behind rest) (shorter rest (length xs) (omega arith)) (omega arith) in
    rw f (ap (λ ps. placed s k (body_at rest) ++ ps) more)

-- a sound record takes a byte at least
pub shrinks : (s : Phase) (rest : List ℕ) → refusal s rest ≡ None → length (behind rest) < length rest
shrinks s [] f = absurd (none-some _ (sym f ∙ at_end s [] refl))
shrinks s (k ∷ xs) f = let less = shorter (k ∷ xs) (length xs) (omega arith) in omega arith

-- a faulty record, or none
pub stopped : (s : Phase) (rest : List ℕ) (g : Ground) → refusal s rest ≡ Some g → pixels_from s rest ≡ []
unfolding pixels_by
stopped s [] g f = refl
stopped s (k ∷ xs) g f = rw f

-- a step on takes the pixel that it places from those that are left
pub stepped : {w u : Walk} {o : Option PixelAt} → Taken w o u → pixels_from (phase w.stage) (ahead w) ≡ placed_by o ++ pixels_from (phase u.stage) (ahead u)
stepped {w} {u} t = taken (phase w.stage) (ahead w) t.sound ∙ rw (t.stage, t.rest, t.pixel)

-- one sound record, whose bytes stand at the front
one : (t : Phase) (k : ℕ) (b left : List ℕ) → Known k → length b ≡ body_size k → record_ground t k b ≡ None → pixels_from t (k ∷ (b ++ left)) ≡ placed t k b ++ pixels_from (next t k b) left
one t k b left known size sound =
    taken t (k ∷ (b ++ left)) (refusal-same t k b left known size ∙ sound)
    ∙ ap₂ (λ (c l : List ℕ). placed t k c ++ pixels_from (next t k c) l) (body_same t k b left known size) (behind-same t k b left known size)

module _ (h : Heading) (kinds : 1 ≤ named_width h.kind) where
  pieces-held : (r due : ℕ) (ps : List Piece) (left : List ℕ) → 0 < r → Upward h due ps → (d : ℕ) × (pixels_from (at_stage h r due) (pieces_then ps left) ≡ numbered (r - 1) due ps ++ pixels_from (at_stage h r d) left)
  pieces-held r due [] left some up = (due, refl)
  pieces-held r due (place a b ∷ ps) left some up =
      let more = pieces-held r (a * 256 + b) ps left some up.2 in
      (more.0, one (at_stage h r due) 3 (a ∷ b ∷ []) (pieces_then ps left) (omega arith, omega arith) refl (place-sound h r due a b some up.0 up.1) ∙ more.1)
  pieces-held r due (pixel k b ∷ ps) left some up =
      let more = pieces-held r (due + 1) ps left some up.4 in
      let p : Advance = record { head = h; sections = r; due = due } in
      let s = pixel-sound h r due k b kinds some up.0 up.1 up.2 up.3 in (
        more.0,
        one (at_stage h r due) k b (pieces_then ps left) s.0.known up.2 s.1
            ∙ ap₂ (λ (qs : List Placed) (t : Phase). qs ++ pixels_from t (pieces_then ps left)) (s.0.placed_is p b) (s.0.next_is p b)
            ∙ ap (λ (qs : List Placed). numbered (r - 1) due (pixel k b ∷ []) ++ qs) more.1,
      )

  sections-held : (r due : ℕ) (ss : List (List Piece)) → r + length ss ≡ h.ranks → Sections h ss → pixels_from (at_stage h r due) (sections_then r ss) ≡ all_numbered r ss
  sections-held r due [] all each = one (at_stage h r due) 6 [] [] (omega arith, omega arith) refl (end_sound h r due (omega arith)) ∙ stopped (Behind h) [] CutShort (at_end (Behind h) [] refl)
  sections-held r due (ps ∷ ss) all each =
      let after = sections_then (r + 1) ss in
      let begun = one (at_stage h r due) 2 (r ∷ []) (pieces_then ps after) (omega arith, omega arith) refl (rank-sound h r due (omega arith)) in
      let through = pieces-held (r + 1) 0 ps after (omega arith) each.0 in
      let on = sections-held (r + 1) through.0 ss (omega arith) each.1 in
      let same : r + 1 - 1 ≡ r = omega arith in
      begun ∙ through.1 ∙ ap₂ (λ (k : ℕ) (qs : List Placed). numbered k 0 ps ++ qs) same on

pub form-held : (bytes : List ℕ) (c : Content) → HasForm bytes c → pixels_in bytes ≡ c.pixels
form-held bytes c f =
    let b = f.body in
    let sound = head-sound b f.size (subst Limits (sym f.head_is) f.limits) in
    ap pixels_in f.spelled
    ∙ one Before 1 b (sections_then 0 f.sections) (omega arith, omega arith) f.size sound
    ∙ ap (λ (x : Heading). pixels_from (at_stage x 0 0) (sections_then 0 f.sections)) f.head_is
    ∙ sections-held c.head f.limits.kind_in 0 0 f.sections (omega (arith, f.all)) f.each
    ∙ sym f.holds
