-- Bytes of the form are a run of sound records. Assumes nothing.
use Rattle.std.proofs.Common.{◌≡◌, ℕ, ◌+◌, ◌*◌, ◌<◌, ◌≤◌, true, List, [], ◌∷◌, ◌++◌, length, drop, None, sym, refl, ap, ◌∙◌, subst, one-add, arith, length-append}
use Rattle.std.proofs.lemmas.List.{take_at, drop_at}
use Rattle.std.proofs.lemmas.Bool.Decides.{nat_tests}
use Rattle.tile.specs.Named.{named_width, named_lawful}
use Rattle.dump.specs.Phases.{Heading, Advance, Phase, Before, Between, Behind}
use Rattle.dump.specs.Bytes.{words_in}
use Rattle.dump.specs.Grammar.{Piece, place, pixel, pieces_then, sections_then, head_of, Upward, Sections, Limits, HasForm, Content}
use Rattle.dump.specs.Order.{record_ground, next, or_else, refusal, pixel_ground, Sound, none, more}
use Rattle.dump.specs.Records.{Known, body_size, kind_told, body_at, behind, no_record}
use Rattle.dump.proofs.Runs.{missing-none}
use Rattle.dump.proofs.PixelRecords.{Acts, pixel_record, some_kind}

-- a whole record with its bytes at the front
module _ (t : Phase) (k : ℕ) (b left : List ℕ) (known : Known k) (size : length b ≡ body_size k) where
  pub body_same : body_at (k ∷ (b ++ left)) ≡ b
  body_same = take_at b left (body_size k) size

  pub behind-same : behind (k ∷ (b ++ left)) ≡ left
  behind-same = ap (λ n. drop n (k ∷ (b ++ left))) (one-add (body_size k)) ∙ drop_at b left (body_size k) size

  pub refusal-same : refusal t (k ∷ (b ++ left)) ≡ record_ground t k b
  unfolding refusal
  refusal-same =
      let rest = k ∷ (b ++ left) in
      let sum = length-append b left in
      let there : no_record rest ≡ None = missing-none (length rest) k (body_size k) (omega arith) known in
      ap (λ o. or_else o (record_ground t k (body_at rest))) there ∙ ap (record_ground t k) body_same

-- one more sound record, whose bytes stand at the front
pub one : {bytes : List ℕ} {t : Phase} (k : ℕ) (b left : List ℕ) → Known k → length b ≡ body_size k → record_ground t k b ≡ None → Sound Before bytes t (k ∷ (b ++ left)) → Sound Before bytes (next t k b) left
one {bytes} {t} k b left known size sound run =
    let fine = refusal-same t k b left known size ∙ sound in
    subst (λ l. Sound Before bytes (next t k b) l) (behind-same t k b left known size)
    (subst (λ c. Sound Before bytes (next t k c) (behind (k ∷ (b ++ left)))) (body_same t k b left known size) (more run fine))

abbrev pub at_stage : Heading → ℕ → ℕ → Phase
at_stage h r due = Between (record { head = h; sections = r; due = due })

pub place-sound : (h : Heading) (r due a b : ℕ) → 0 < r → due < a * 256 + b → a * 256 + b < h.pixels → record_ground (at_stage h r due) 3 (a ∷ b ∷ []) ≡ None
unfolding record_ground
place-sound h r due a b some up in-tile = grind (arith, nat_tests)

pub rank-sound : (h : Heading) (r due : ℕ) → r < h.ranks → record_ground (at_stage h r due) 2 (r ∷ []) ≡ None
unfolding record_ground
rank-sound h r due below = grind (arith, nat_tests)

pub end_sound : (h : Heading) (r due : ℕ) → r ≡ h.ranks → record_ground (at_stage h r due) 6 [] ≡ None
unfolding record_ground
end_sound h r due all = grind (arith, nat_tests)

pub head-sound : (b : List ℕ) → length b ≡ 4 → Limits (head_of b) → record_ground Before 1 b ≡ None
unfolding record_ground
head-sound b size limits =
    let rs = limits.ranks_in in
    let ps = limits.pixels_in in
    let ks = limits.kind_in in
    grind (arith, nat_tests)

pixel_fine : (n : ℕ) (p : Advance) (b : List ℕ) → 0 < p.sections → n ≡ p.head.kind → p.due < p.head.pixels → named_lawful n (words_in b) ≡ true → pixel_ground n (Between p) b ≡ None
pixel_fine n p b some is below law = grind (arith, nat_tests)

pub pixel-sound : (h : Heading) (r due k : ℕ) (b : List ℕ) → 1 ≤ named_width h.kind → 0 < r → due < h.pixels → kind_told k ≡ h.kind → length b ≡ body_size k → named_lawful h.kind (words_in b) ≡ true → Acts k × (record_ground (at_stage h r due) k b ≡ None)
pixel-sound h r due k b some begun below is size law =
    let acts = pixel_record k (subst (λ (n : ℕ). 1 ≤ n) (sym is) (some_kind h.kind some)) in
    let p : Advance = record { head = h; sections = r; due = due } in
    (acts, acts.ground_is (Between p) b size ∙ pixel_fine (kind_told k) p b begun is below (ap (λ n. named_lawful n (words_in b)) is ∙ law))

module _ (bytes : List ℕ) (h : Heading) (kinds : 1 ≤ named_width h.kind) where
  pieces-read : (r due : ℕ) (ps : List Piece) (left : List ℕ) → 0 < r → Upward h due ps → Sound Before bytes (at_stage h r due) (pieces_then ps left) → (d : ℕ) × Sound Before bytes (at_stage h r d) left
  pieces-read r due [] left some up run = (due, run)
  pieces-read r due (place a b ∷ ps) left some up run =
      pieces-read r (a * 256 + b) ps left some up.2 (one 3 (a ∷ b ∷ []) (pieces_then ps left) (omega arith, omega arith) refl (place-sound h r due a b some up.0 up.1) run)
  pieces-read r due (pixel k b ∷ ps) left some up run =
      let s = pixel-sound h r due k b kinds some up.0 up.1 up.2 up.3 in
      pieces-read r (due + 1) ps left some up.4 (subst (λ t. Sound Before bytes t (pieces_then ps left)) (s.0.next_is _ b) (one k b (pieces_then ps left) s.0.known up.2 s.1 run))

  sections-read : (r due : ℕ) (ss : List (List Piece)) → r + length ss ≡ h.ranks → Sections h ss → Sound Before bytes (at_stage h r due) (sections_then r ss) → Sound Before bytes (Behind h) []
  sections-read r due [] all each run = one 6 [] [] (omega arith, omega arith) refl (end_sound h r due (omega arith)) run
  sections-read r due (ps ∷ ss) all each run =
      let begun = one 2 (r ∷ []) (pieces_then ps (sections_then (r + 1) ss)) (omega arith, omega arith) refl (rank-sound h r due (omega arith)) run in
      let through = pieces-read (r + 1) 0 ps (sections_then (r + 1) ss) (omega arith) each.0 begun in
      sections-read (r + 1) through.0 ss (omega arith) each.1 through.1

pub form_reads : (bytes : List ℕ) (c : Content) → HasForm bytes c → Sound Before bytes (Behind c.head) []
form_reads bytes c f =
    let b = f.body in
    let run = subst (Sound Before bytes Before) f.spelled none in
    let sound = head-sound b f.size (subst Limits (sym f.head_is) f.limits) in
    let begun = one 1 b (sections_then 0 f.sections) (omega arith, omega arith) f.size sound run in
    sections-read bytes c.head f.limits.kind_in 0 0 f.sections (omega (arith, f.all)) f.each (subst (λ (x : Heading). Sound Before bytes (at_stage x 0 0) (sections_then 0 f.sections)) f.head_is begun)
