-- What a run of sound records up to END is by the grammar. Assumes nothing.
use Rattle.std.proofs.Common.{◌≡◌, ℕ, zero, suc, ◌+◌, ◌*◌, ◌<◌, ◌≤◌, true, List, [], ◌∷◌, ◌++◌, length, get_or, take, drop, Some, None, Option, sym, refl, ap, ◌∙◌, subst, one-add, arith, take-append-drop, length-take-le}
use Rattle.std.proofs.lemmas.Bool.Decides.{nat_tests}
use Rattle.std.proofs.lemmas.Option.{none-some}
use Rattle.tile.specs.declared.fault.Ground.{Ground}
use Rattle.tile.specs.Named.{named_lawful}
use Rattle.dump.specs.Phases.{Heading, Advance, Phase, Before, Between, Behind}
use Rattle.dump.specs.Bytes.{half, words_in}
use Rattle.dump.specs.Grammar.{Piece, place, pixel, pieces_then, sections_then, head_of, Upward, Sections, Limits, HasForm, Placed, all_numbered}
use Rattle.dump.specs.Order.{record_ground, next, or_else, refusal, pixel_ground, Sound, none, more}
use Rattle.dump.specs.Reading.{holding}
use Rattle.dump.specs.Records.{Known, body_size, kind_told, kind_at, body_at, behind, no_record}
use Rattle.dump.proofs.Runs.{missing}
use Rattle.dump.proofs.PixelRecords.{Acts, near_acts, cover_acts}
use Rattle.dump.proofs.Held.{form-held, at_end}

-- n sound records lead to a stage e with z left
pub data Left (e : Phase) (z : List ℕ) : ℕ → Phase → List ℕ → Type 0 where
  done : Left e z 0 e z
  then : {n : ℕ} {t : Phase} {rest : List ℕ} → refusal t rest ≡ None → Left e z n (next t (kind_at rest) (body_at rest)) (behind rest) → Left e z (suc n) t rest

pub join : {e : Phase} {z : List ℕ} {s : Phase} {bytes : List ℕ} {t : Phase} {rest : List ℕ} (n : ℕ) → Sound s bytes t rest → Left e z n t rest → (m : ℕ) × Left e z m s bytes
join n none l = (n, l)
join n (more run f) l = join (suc n) run (then f l)

-- the record at the front of rest
record Front (t : Phase) (rest : List ℕ) : Type 0 where
  known : Known (kind_at rest)
  size : length (body_at rest) ≡ body_size (kind_at rest)
  sound : record_ground t (kind_at rest) (body_at rest) ≡ None
  split : rest ≡ kind_at rest ∷ (body_at rest ++ behind rest)

none-missing : (n k z : ℕ) → missing n k z ≡ None → (0 < n) × Known k × (1 + z ≤ n)
none-missing n k z h = (grind (arith, nat_tests), (grind (arith, nat_tests), grind (arith, nat_tests)), grind (arith, nat_tests))

none_both : (o p : Option Ground) → or_else o p ≡ None → (o ≡ None) × (p ≡ None)
none_both None p h = (refl, h)
none_both (Some g) p h = absurd (none-some g (sym h))

front : (t : Phase) (rest : List ℕ) → refusal t rest ≡ None → Front t rest
unfolding refusal
front t [] f = absurd (none-some _ (sym f ∙ at_end t [] refl))
front t (k ∷ xs) f =
    let z = none_both (no_record (k ∷ xs)) (record_ground t k (body_at (k ∷ xs))) f in
    let m = none-missing (length (k ∷ xs)) k (body_size k) z.0 in
    let fits : body_size k ≤ length xs = omega (arith, m.2) in
    record {
      known = m.1;
      size = length-take-le (body_size k) xs fits;
      sound = z.1;
      split = ap (λ l. k ∷ l) (sym (take-append-drop (body_size k) xs) ∙ ap (λ n. take (body_size k) xs ++ drop n (k ∷ xs)) (sym (one-add (body_size k))));
    }

-- what is left of a dump within its sections
record Parse (h : Heading) (p : Advance) (rest : List ℕ) : Type 0 where
  same : p.head ≡ h
  pieces : List Piece
  sections : List (List Piece)
  begun : p.sections ≡ 0 → pieces ≡ []
  up : Upward p.head p.due pieces
  each : Sections p.head sections
  all : p.sections + length sections ≡ p.head.ranks
  spelled : rest ≡ pieces_then pieces (sections_then p.sections sections)

no_head : (p : Advance) (b : List ℕ) → record_ground (Between p) 1 b ≡ None → ⊥
unfolding record_ground
no_head p b g = grind (arith, nat_tests)

rank_told : (p : Advance) (b : List ℕ) → record_ground (Between p) 2 b ≡ None → (get_or b 0 0 ≡ p.sections) × (p.sections < p.head.ranks)
unfolding record_ground
rank_told p b g = (grind (arith, nat_tests), grind (arith, nat_tests))

place-told : (p : Advance) (b : List ℕ) → record_ground (Between p) 3 b ≡ None → (p.sections ≡ 0 → ⊥) × (p.due < half b 0) × (half b 0 < p.head.pixels)
unfolding record_ground
place-told p b g = (λ e. grind (arith, nat_tests), grind (arith, nat_tests), grind (arith, nat_tests))

end_told : (p : Advance) (b : List ℕ) → record_ground (Between p) 6 b ≡ None → p.head.ranks ≤ p.sections
unfolding record_ground
end_told p b g = grind (arith, nat_tests)

all_told : (k : ℕ) (b : List ℕ) → record_ground Before k b ≡ None → k ≡ 1
unfolding record_ground
all_told k b g = grind (arith, nat_tests)

head-told : (b : List ℕ) → record_ground Before 1 b ≡ None → Limits (head_of b)
unfolding record_ground
head-told b g = record { ranks_in = (grind (arith, nat_tests), grind (arith, nat_tests)); pixels_in = (grind (arith, nat_tests), grind (arith, nat_tests)); kind_in = grind (arith, nat_tests) }

-- a sound pixel record
pixel-told : (n : ℕ) (p : Advance) (b : List ℕ) → pixel_ground n (Between p) b ≡ None → (p.sections ≡ 0 → ⊥) × (n ≡ p.head.kind) × (p.due < p.head.pixels) × (named_lawful n (words_in b) ≡ true)
pixel-told n p b g = (λ e. grind (arith, nat_tests), grind (arith, nat_tests), grind (arith, nat_tests), grind (arith, nat_tests))

none_after : (d : Heading) (k : ℕ) (b : List ℕ) → record_ground (Behind d) k b ≡ None → ⊥
unfolding record_ground
none_after d k b g = grind (arith, nat_tests)

pub opened : {e : Phase} {z : List ℕ} {n : ℕ} {t : Phase} {rest : List ℕ} → Left e z (suc n) t rest → (refusal t rest ≡ None) × Left e z n (next t (kind_at rest) (body_at rest)) (behind rest)
opened (then f l) = (f, l)

pub ended : {e : Phase} {z : List ℕ} {t : Phase} {rest : List ℕ} → Left e z 0 t rest → (t ≡ e) × (rest ≡ z)
ended done = (refl, refl)

pub end_same : (d h : Heading) → ◌≡◌ {A = Phase} (Behind d) (Behind h) → d ≡ h
end_same d h e = cc

not-ended : (p : Advance) (h : Heading) → ◌≡◌ {A = Phase} (Between p) (Behind h) → ⊥
not-ended p h e = let z : ◌≡◌ {A = ℕ} 0 1 = cc in omega arith

not-started : (h : Heading) → ◌≡◌ {A = Phase} Before (Behind h) → ⊥
not-started h e = let z : ◌≡◌ {A = ℕ} 0 1 = cc in omega arith

after_end : (h d : Heading) (n : ℕ) (left : List ℕ) → Left (Behind h) [] n (Behind d) left → (d ≡ h) × (left ≡ [])
after_end h d zero left l = let e = ended l in (end_same d h e.0, e.1)
after_end h d (suc n) left l = absurd (none_after d _ _ (front (Behind d) left (opened l).0).sound)

module _ (h : Heading) (n : ℕ) (p : Advance) (le : p.sections ≤ p.head.ranks) (ih : (q : Advance) (rest : List ℕ) → q.sections ≤ q.head.ranks → Left (Behind h) [] n (Between q) rest → Parse h q rest) where
  abbrev Step : ℕ → Type 0
  Step k = (b left : List ℕ) → length b ≡ body_size k → record_ground (Between p) k b ≡ None → Left (Behind h) [] n (next (Between p) k b) left → Parse h p (k ∷ (b ++ left))

  at_head : Step 1
  at_head b left size g l = absurd (no_head p b g)

  at_rank : Step 2
  at_rank [] left size g l = absurd (omega arith)
  at_rank (x ∷ y ∷ b) left size g l = absurd (omega arith)
  at_rank (x ∷ []) left size g l =
      let told = rank_told p (x ∷ []) g in
      let r = ih (record { head = p.head; sections = p.sections + 1; due = 0 }) left (omega (arith, told.1)) l in
      record {
        same = r.same;
        pieces = [];
        sections = r.pieces ∷ r.sections;
        begun = λ e. refl;
        up = tt;
        each = (r.up, r.each);
        all = omega (arith, r.all);
        spelled = ap (λ y. 2 ∷ y ∷ left) told.0 ∙ ap (λ l. 2 ∷ p.sections ∷ l) r.spelled;
      }

  at_place : Step 3
  at_place [] left size g l = absurd (omega arith)
  at_place (x ∷ []) left size g l = absurd (omega arith)
  at_place (x ∷ y ∷ z ∷ b) left size g l = absurd (omega arith)
  at_place (x ∷ y ∷ []) left size g l =
      let told = place-told p (x ∷ y ∷ []) g in
      let r = ih (record { head = p.head; sections = p.sections; due = x * 256 + y }) left le l in
      record {
        same = r.same;
        pieces = place x y ∷ r.pieces;
        sections = r.sections;
        begun = λ e. absurd (told.0 e);
        up = (told.1, told.2, r.up);
        each = r.each;
        all = r.all;
        spelled = ap (λ l. 3 ∷ x ∷ y ∷ l) r.spelled;
      }

  at_pixel : (k : ℕ) → Acts k → Step k
  at_pixel k acts b left size g l =
      let told = pixel-told (kind_told k) p b (sym (acts.ground_is (Between p) b size) ∙ g) in
      let r = ih (record { head = p.head; sections = p.sections; due = p.due + 1 }) left le (subst (λ (t : Phase). Left (Behind h) [] n t left) (acts.next_is p b) l) in
      record {
        same = r.same;
        pieces = pixel k b ∷ r.pieces;
        sections = r.sections;
        begun = λ e. absurd (told.0 e);
        up = (told.2, told.1, size, ap (λ m. named_lawful m (words_in b)) (sym told.1) ∙ told.3, r.up);
        each = r.each;
        all = r.all;
        spelled = ap (λ l. k ∷ (b ++ l)) r.spelled;
      }

  at_last : Step 6
  at_last (x ∷ b) left size g l = absurd (omega arith)
  at_last [] left size g l =
      let stop = after_end h p.head n left l in
      record {
        same = stop.0;
        pieces = [];
        sections = [];
        begun = λ e. refl;
        up = tt;
        each = tt;
        all = omega (arith, end_told p [] g);
        spelled = ap (λ l. 6 ∷ l) stop.1;
      }

  any : (k : ℕ) → Known k → Step k
  any zero known = absurd (omega (arith, known.0))
  any (suc zero) known = at_head
  any (suc (suc zero)) known = at_rank
  any (suc (suc (suc zero))) known = at_place
  any (suc (suc (suc (suc zero)))) known = at_pixel 4 near_acts
  any (suc (suc (suc (suc (suc zero))))) known = at_pixel 5 cover_acts
  any (suc (suc (suc (suc (suc (suc zero)))))) known = at_last
  any (suc (suc (suc (suc (suc (suc (suc k))))))) known = absurd (omega (arith, known.1))

parse : (h : Heading) (n : ℕ) (p : Advance) (rest : List ℕ) → p.sections ≤ p.head.ranks → Left (Behind h) [] n (Between p) rest → Parse h p rest
parse h zero p rest le l = absurd (not-ended p h (ended l).0)
parse h (suc n) p rest le l =
    let o = opened l in
    let f = front (Between p) rest o.0 in
    subst (Parse h p) (sym f.split) (any h n p le (parse h n) (kind_at rest) f.known (body_at rest) (behind rest) f.size f.sound o.1)

begins : (h : Heading) (m : ℕ) (bytes : List ℕ) → Left (Behind h) [] m Before bytes → HasForm bytes (holding h bytes)
begins h zero bytes l = absurd (not-started h (ended l).0)
begins h (suc n) bytes l =
    let o = opened l in
    let f = front Before bytes o.0 in
    let b = body_at bytes in
    let one = all_told (kind_at bytes) b f.sound in
    let told = head-told b (subst (λ k. record_ground Before k b ≡ None) one f.sound) in
    let q = parse h n (record { head = head_of b; sections = 0; due = 0 }) (behind bytes) (omega arith) o.1 in
    let start : behind bytes ≡ sections_then 0 q.sections = q.spelled ∙ ap (λ ps. pieces_then ps (sections_then 0 q.sections)) (q.begun refl) in
    let made : HasForm bytes (record { head = head_of b; pixels = all_numbered 0 q.sections }) = record {
      body = b;
      sections = q.sections;
      spelled = f.split ∙ ap (λ k. k ∷ (b ++ behind bytes)) one ∙ ap (λ l. 1 ∷ (b ++ l)) start;
      size = f.size ∙ ap body_size one;
      head_is = refl;
      limits = told;
      all = omega (arith, q.all);
      each = q.each;
      holds = refl;
    } in
    let held = sym (form-held bytes _ made) in
    subst (λ (x : Heading). HasForm bytes (holding x bytes)) q.same (subst (λ (ps : List Placed). HasForm bytes (record { head = head_of b; pixels = ps })) held made)

pub reads_form : (bytes : List ℕ) (h : Heading) → Sound Before bytes (Behind h) [] → HasForm bytes (holding h bytes)
reads_form bytes h run = let j = join 0 run done in begins h j.0 bytes j.1
