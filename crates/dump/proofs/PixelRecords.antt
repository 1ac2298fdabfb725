-- What a pixel record does, whichever its kind. Assumes nothing.
use Rattle.std.proofs.Common.{◌≡◌, ℕ, ◌-◌, ◌*◌, ◌≤◌, ◌⊎◌, List, [], ◌∷◌, length, Ok, Err, Result, sym, refl, ◌∙◌, subst, ⊎_elim, arith, eq-eqb}
use Rattle.std.proofs.lemmas.Bool.Decides.{nat_tests}
use Rattle.std.proofs.lemmas.Option.{none-some}
use Rattle.tile.specs.declared.fault.Ground.{Ground}
use Rattle.tile.specs.Named.{named_width}
use Rattle.dump.specs.declared.stage.Stage.{Stage}
use Rattle.dump.specs.Phases.{Advance, Phase, Before, Between, Behind}
use Rattle.dump.specs.Bytes.{words_in}
use Rattle.dump.specs.Order.{Answers, record_ground, head_ground, rank_ground, place_ground, next, onward, pixel_ground}
use Rattle.dump.specs.Pixels.{placed}
use Rattle.dump.specs.Records.{Known, body_size, kind_told}

-- a record of kind k places a pixel
pub record Acts (k : ℕ) : Type 0 where
  pub known : Known k
  pub size_is : body_size k ≡ 4 * named_width (kind_told k)
  pub ground_is : (s : Phase) (b : List ℕ) → length b ≡ body_size k → record_ground s k b ≡ pixel_ground (kind_told k) s b
  pub next_is : (p : Advance) (b : List ℕ) → next (Between p) k b ≡ onward (Between p)
  pub placed_is : (p : Advance) (b : List ℕ) → placed (Between p) k b ≡ record { rank = p.sections - 1; number = p.due; words = words_in b } ∷ []

pub near_acts : Acts 4
unfolding record_ground
near_acts = record { known = (omega arith, omega arith); size_is = refl; ground_is = λ s b size. rw (eq-eqb (length b) 8 size); next_is = λ p b. refl; placed_is = λ p b. refl }

pub cover_acts : Acts 5
unfolding record_ground
cover_acts = record { known = (omega arith, omega arith); size_is = refl; ground_is = λ s b size. rw (eq-eqb (length b) 20 size); next_is = λ p b. refl; placed_is = λ p b. refl }

which : (k : ℕ) → 1 ≤ kind_told k → (k ≡ 4) ⊎ (k ≡ 5)
which k h = grind (arith, nat_tests)

pub pixel_record : (k : ℕ) → 1 ≤ kind_told k → Acts k
pixel_record k h = ⊎_elim (λ (e : k ≡ 4). subst Acts (sym e) near_acts) (λ (e : k ≡ 5). subst Acts (sym e) cover_acts) (which k h)

pub some_kind : (n : ℕ) → 1 ≤ named_width n → 1 ≤ n
some_kind n h = grind (arith, nat_tests)

-- a pixel is refused outside the sections, so the stage behind it there does not matter
pub admitted : (k : ℕ) (acts : Acts k) (s : Phase) (b : List ℕ) (r : Result Stage Ground) → length b ≡ body_size k → Answers (pixel_ground (kind_told k) s b) (onward s) r → Answers (record_ground s k b) (next s k b) r
admitted k acts s b (Err g) size e = acts.ground_is s b size ∙ e
admitted k acts Before b (Ok t) size e = absurd (none-some _ (sym e.0))
admitted k acts (Between p) b (Ok t) size e = (acts.ground_is (Between p) b size ∙ e.0, e.1 ∙ sym (acts.next_is p b))
admitted k acts (Behind h) b (Ok t) size e = absurd (none-some _ (sym e.0))

-- a record whose body is as long as its kind says is judged on the grounds of its kind alone
pub head_own : (s : Phase) (b : List ℕ) → length b ≡ 4 → record_ground s 1 b ≡ head_ground s b
unfolding record_ground
head_own s b size = rw (eq-eqb (length b) 4 size)

pub rank_own : (s : Phase) (b : List ℕ) → length b ≡ 1 → record_ground s 2 b ≡ rank_ground s b
unfolding record_ground
rank_own s b size = rw (eq-eqb (length b) 1 size)

pub place_own : (s : Phase) (b : List ℕ) → length b ≡ 2 → record_ground s 3 b ≡ place_ground s b
unfolding record_ground
place_own s b size = rw (eq-eqb (length b) 2 size)
