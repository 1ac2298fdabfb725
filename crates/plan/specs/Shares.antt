-- Of p positions shared out in n parts each lies in exactly one. Assumes nothing.
use Rattle.std.specs.Prelude.{◌≡◌, ℕ, ◌+◌, ◌-◌, ◌*◌, ◌/◌, ◌<◌, ◌≤◌}
use Rattle.std.proofs.Common.{ap, ◌∙◌, arith, le-div_iff_mul-le, div-lt_iff_lt-mul, mul-le-mul_right, mul_comm, mul-div_cancel, div-mul-le_self, zero-mul, le_refl, ⊎_elim}
use Rattle.std.proofs.Math.Nat.{zero-div}
use Rattle.std.proofs.lemmas.Bool.{cases_lt}
use Rattle.plan.specs.Runs.{cut}

-- the part that position x lies in
abbrev pub part_of : ℕ → ℕ → ℕ → ℕ
part_of p n x = ((x + 1) * n - 1) / p

module _ (p n : ℕ) (some : 0 < n) where
  pub cut-none : cut p n 0 ≡ 0
  cut-none = rw (zero-mul p, zero-div n)

  pub cut_all : cut p n n ≡ p
  cut_all = ap (λ y. y / n) (mul_comm n p) ∙ mul-div_cancel p some

  pub cut_up : (i j : ℕ) → i ≤ j → cut p n i ≤ cut p n j
  cut_up i j h =
      let a = div-mul-le_self (i * p) n in
      let b : i * p ≤ j * p = mul-le-mul_right p h in
      let c : i * p / n * n ≤ j * p = omega arith in
      (le-div_iff_mul-le some).1 c

  part-from : (j x : ℕ) → 0 < p → cut p n j ≤ x → j ≤ part_of p n x
  part-from j x pos h =
      let a : j * p / n < x + 1 = omega arith in
      let b : j * p < (x + 1) * n = (div-lt_iff_lt-mul some).0 a in
      let c : j * p ≤ (x + 1) * n - 1 = omega arith in
      (le-div_iff_mul-le pos).1 c

  from-part : (j x : ℕ) → 0 < p → j ≤ part_of p n x → cut p n j ≤ x
  from-part j x pos h =
      let c : j * p ≤ (x + 1) * n - 1 = (le-div_iff_mul-le pos).0 h in
      let d : 1 * n ≤ (x + 1) * n = mul-le-mul_right n (omega arith) in
      let b : j * p < (x + 1) * n = omega arith in
      let a : j * p / n < x + 1 = (div-lt_iff_lt-mul some).1 b in
      omega arith

  -- x lies in part j
  abbrev pub Lies : ℕ → ℕ → Type 0
  Lies j x = (cut p n j ≤ x) × (x < cut p n (j + 1))

  pub lies_in_one : (x : ℕ) → x < p → Lies (part_of p n x) x
  lies_in_one x h =
      let pos : 0 < p = omega arith in
      (from-part (part_of p n x) x pos (le_refl (part_of p n x)), ⊎_elim (λ d. d) (λ d. absurd (let past = part-from (part_of p n x + 1) x pos d in omega arith)) (cases_lt x (cut p n (part_of p n x + 1))))

  pub lies_once : (j x : ℕ) → x < p → Lies j x → j ≡ part_of p n x
  lies_once j x h l =
      let pos : 0 < p = omega arith in
      let up = part-from j x pos l.0 in
      ⊎_elim (λ d. absurd (let past = from-part (j + 1) x pos (omega arith) in omega arith)) (λ d. omega arith) (cases_lt j (part_of p n x))

  pub part-below : (x : ℕ) → x < p → part_of p n x < n
  part-below x h =
      let pos : 0 < p = omega arith in
      let a : (x + 1) * n ≤ p * n = mul-le-mul_right n (omega arith) in
      let b = mul_comm p n in
      let d : 1 * n ≤ (x + 1) * n = mul-le-mul_right n (omega arith) in
      let c : (x + 1) * n - 1 < n * p = omega arith in
      (div-lt_iff_lt-mul pos).1 c
