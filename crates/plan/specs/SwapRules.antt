-- The 2-3 plan keeps the five rules. Assumes nothing.
use Rattle.std.specs.Prelude.{◌≡◌, ℕ, zero, suc, ◌+◌, ◌-◌, ◌*◌, ◌/◌, ◌^◌, ◌<◌, ◌≤◌, if◌then◌else◌, ◌==◌}
use Rattle.std.proofs.Common.{sym, ap, ap₂, subst, ◌∙◌, ⊎_elim, arith, le-div_iff_mul-le, div-mul-le_self, mul-le-mul_right, div-one, mul-one, add-mul, mul_assoc, mul_comm, pow-suc, zero-mul, pow_pos, pow_mono, eq-eqb, ne_eqb, le-leb}
use Rattle.std.proofs.Math.Nat.{lt-div-mul-add, div-eq_of_lt-le, div-div-eq-div-mul, min-le_left}
use Rattle.std.proofs.lemmas.Bool.{lt-leb, cases_lt}
use Rattle.plan.specs.Model.{Limits, PlanModel}
use Rattle.plan.specs.Runs.{run_of, In, cut}
use Rattle.plan.specs.Shares.{part_of, cut-none, cut_all, cut_up, lies_in_one, lies_once, part-below}
use Rattle.plan.specs.Swap.{top, index, start, size, group_by, group, span}

module _ (R w : ℕ) (pos : 0 < w) (fits : w ≤ R) where
  some-group : 1 ≤ R / w
  some-group = let one : 1 * w ≤ R = omega arith in (le-div_iff_mul-le pos).1 one

  -- a rank is in a full group that is not the last, or in the last
  data Where (r : ℕ) : Type 0 where
    early : index R w r ≡ r / w → r / w + 1 < R / w → size R w r ≡ w → Where r
    late : index R w r + 1 ≡ R / w → R / w ≤ r / w + 1 → size R w r ≡ R - start R w r → Where r

  where_is : (r : ℕ) → Where r
  where_is r =
      let g = some-group in
      ⊎_elim
      (λ (h : r / w + 1 < R / w).
      let i : index R w r ≡ r / w = omega arith in
      let ne : index R w r + 1 ≡ R / w → ⊥ = λ e. omega arith in
      early i h (rw (ne_eqb (index R w r + 1) (R / w) ne)))
      (λ (h : R / w ≤ r / w + 1).
      let e : index R w r + 1 ≡ R / w = omega arith in
      late e h (rw (eq-eqb (index R w r + 1) (R / w) e)))
      (cases_lt (r / w + 1) (R / w))

  start_le : (r : ℕ) → start R w r ≤ r
  start_le r =
      let a : index R w r * w ≤ r / w * w = mul-le-mul_right w (min-le_left (r / w) (R / w - 1)) in
      let b = div-mul-le_self r w in
      omega arith

  pub below : (r : ℕ) → start R w r ≤ R
  below r =
      let a : index R w r * w ≤ R / w * w = mul-le-mul_right w (omega arith) in
      let b = div-mul-le_self R w in
      omega arith

  pub end_le : (r : ℕ) → start R w r + size R w r ≤ R
  end_le r =
      elim (where_is r) [
        | early i h s ↦
            let a : (r / w + 1) * w ≤ R / w * w = mul-le-mul_right w (omega arith) in
            let b = div-mul-le_self R w in
            let c = add-mul (r / w) 1 w in
            let e : start R w r ≡ r / w * w = ap (λ x. x * w) i in
            omega arith
        | late e h s ↦ let b = below r in omega arith
      ]

  pub in_group : (r : ℕ) → r < R → In (group_by R w r) r
  in_group r h = (
    start_le r,
    elim (where_is r) [
      | early i k s ↦
          let a : r < r / w * w + w = lt-div-mul-add pos in
          let e : start R w r ≡ r / w * w = ap (λ x. x * w) i in
          omega arith
      | late e k s ↦ let b = below r in omega arith
    ],
  )

  same_index : (r q : ℕ) → In (group_by R w r) q → index R w q ≡ index R w r
  same_index r q h =
      elim (where_is r) [
        | early i k s ↦
            let e : start R w r ≡ r / w * w = ap (λ x. x * w) i in
            let c = add-mul (r / w) 1 w in
            let low : r / w * w ≤ q = omega arith in
            let high : q < (r / w + 1) * w = omega arith in
            let same : q / w ≡ r / w = div-eq_of_lt-le w low high in
            omega arith
        | late e k s ↦
            let low : index R w r * w ≤ q = h.0 in
            let up : index R w r ≤ q / w = (le-div_iff_mul-le pos).1 low in
            omega arith
      ]

-- a group of w lies within one of 2 * w
within-next : (R w : ℕ) → 0 < w → w * 2 ≤ R → (r : ℕ) → r < R → (start R (w * 2) r ≤ start R w r) × (start R w r + size R w r ≤ start R (w * 2) r + size R (w * 2) r)
within-next R w pos double r h =
    let pos' : 0 < w * 2 = omega arith in
    let fits : w ≤ R = omega arith in
    let a : r / w / 2 ≡ r / (w * 2) = div-div-eq-div-mul r w 2 in
    let b : R / w / 2 ≡ R / (w * 2) = div-div-eq-div-mul R w 2 in
    let g = some-group R (w * 2) pos' double in
    let less : index R (w * 2) r * 2 ≤ index R w r = omega arith in
    let m : index R (w * 2) r * 2 * w ≤ index R w r * w = mul-le-mul_right w less in
    let e : index R (w * 2) r * 2 * w ≡ index R (w * 2) r * (w * 2) = mul_assoc (index R (w * 2) r) 2 w ∙ ap (λ x. index R (w * 2) r * x) (mul_comm 2 w) in
    let ends = end_le R w pos fits r in (
      omega arith,
      elim (where_is R (w * 2) pos' double r) [
        | early i k s ↦
            elim (where_is R w pos fits r) [
              | early i₁ k₁ s₁ ↦
                  let c = add-mul (index R w r) 1 w in
                  let d = add-mul (index R (w * 2) r * 2) 2 w in
                  let up : (index R w r + 1) * w ≤ (index R (w * 2) r * 2 + 2) * w = mul-le-mul_right w (omega arith) in
                  omega arith
              | late e₁ k₁ s₁ ↦ absurd (omega arith)
            ]
        | late e₁ k s ↦ let f = below R (w * 2) pos' double r in omega arith
      ],
    )

all_in_one : (R w : ℕ) → 0 < w → w ≤ R → R < w * 2 → (r : ℕ) → r < R → (start R w r ≡ 0) × (size R w r ≡ R)
all_in_one R w pos fits under r h =
    let low : 1 * w ≤ R = omega arith in
    let high : R < (1 + 1) * w = omega arith in
    let one : R / w ≡ 1 = div-eq_of_lt-le w low high in
    let i : index R w r ≡ 0 = omega arith in
    let from : start R w r ≡ 0 = ap (λ x. x * w) i ∙ zero-mul w in (
      from,
      elim (where_is R w pos fits r) [
        | early e k s ↦ absurd (omega arith)
        | late e k s ↦ omega arith
      ],
    )

pub top_le : (n R : ℕ) → 1 ≤ R → 2 ^ top n R ≤ R
top_le zero R h = h
top_le (suc n) R h =
    ⊎_elim (λ (k : R < 2 ^ suc n). rw (lt-leb (2 ^ suc n) R k) (top_le n R h)) (λ (k : 2 ^ suc n ≤ R). rw (le-leb (2 ^ suc n) R k) k) (cases_lt R (2 ^ suc n))

pub top-few : (n R : ℕ) → top n R ≤ n
top-few zero R = omega arith
top-few (suc n) R =
    ⊎_elim
    (λ (k : R < 2 ^ suc n). rw (lt-leb (2 ^ suc n) R k) (let ih = top-few n R in omega arith))
    (λ (k : 2 ^ suc n ≤ R). rw (le-leb (2 ^ suc n) R k) (omega arith))
    (cases_lt R (2 ^ suc n))

pub top_lt : (n R : ℕ) → R < 2 ^ suc n → R < 2 ^ suc (top n R)
top_lt zero R h = h
top_lt (suc n) R h =
    ⊎_elim (λ (k : R < 2 ^ suc n). rw (lt-leb (2 ^ suc n) R k) (top_lt n R k)) (λ (k : 2 ^ suc n ≤ R). rw (le-leb (2 ^ suc n) R k) h) (cases_lt R (2 ^ suc n))

-- the place of rank r among its group's members
abbrev place : ℕ → ℕ → ℕ → ℕ
place R t r = r - (group R t r).start

abbrev span_end : ℕ → ℕ → ℕ → ℕ → ℕ
span_end R P t r = cut P (group R t r).len (place R t r + 1)

module _ (R P : ℕ) (limits : (1 ≤ R) × (R ≤ 32)) where
  abbrev rounds : ℕ
  rounds = top 5 R

  pub width_le : (t : ℕ) → t ≤ rounds → 2 ^ t ≤ R
  width_le t h = let a : 2 ^ t ≤ 2 ^ rounds = pow_mono h in let b = top_le 5 R limits.0 in omega arith

  -- the member of rank r's group that holds position x
  abbrev pub holder : ℕ → ℕ → ℕ → ℕ
  holder t r x = (group R t r).start + part_of P (group R t r).len x

  module _ (t r : ℕ) (le : t ≤ rounds) (h : r < R) where
    pub inside : In (group R t r) r
    inside = in_group R (2 ^ t) (pow_pos t) (width_le t le) r h

    some : 0 < (group R t r).len
    some = let i = inside in omega arith

    ordered : (span R P t r).start ≤ span_end R P t r
    ordered = cut_up P (group R t r).len some (place R t r) (place R t r + 1) (omega arith)

    span_below : span_end R P t r ≤ P
    span_below =
        let i = inside in
        let all = cut_all P (group R t r).len some in
        let up = cut_up P (group R t r).len some (place R t r + 1) (group R t r).len (omega arith) in
        omega arith

    pub spans : (span R P t r).start + (span R P t r).len ≤ P
    spans = let a = ordered in let b = span_below in omega arith

    pub same : (q : ℕ) → In (group R t r) q → ((group R t q).start ≡ (group R t r).start) × ((group R t q).len ≡ (group R t r).len)
    same q k =
        let e = same_index R (2 ^ t) (pow_pos t) (width_le t le) r q k in
        (ap (λ i. i * 2 ^ t) e, ap (λ i. if i + 1 == R / 2 ^ t then R - i * 2 ^ t else 2 ^ t) e)

    pub holds : (x : ℕ) → x < P → In (group R t r) (holder t r x) × In (span R P t (holder t r x)) x
    holds x k =
        let b = part-below P (group R t r).len some x k in
        let l = lies_in_one P (group R t r).len some x k in
        let i : In (group R t r) (holder t r x) = (omega arith, omega arith) in
        let e = same (holder t r x) i in
        let j : place R t (holder t r x) ≡ part_of P (group R t r).len x = omega arith in
        let low : (span R P t (holder t r x)).start ≡ cut P (group R t r).len (part_of P (group R t r).len x) = rw (e.1, j) in
        let high : span_end R P t (holder t r x) ≡ cut P (group R t r).len (part_of P (group R t r).len x + 1) = rw (e.1, j) in
        (i, (omega arith, omega arith))

  pub holds-once : (t r x q : ℕ) → t ≤ rounds → r < R → In (group R t r) q → In (span R P t q) x → q ≡ holder t r x
  holds-once t r x q le h i k =
      let ends = end_le R (2 ^ t) (pow_pos t) (width_le t le) r in
      let e = same t r le h q i in
      let below-q : q < R = omega arith in
      let up = ordered t q le below-q in
      let fits = span_below t q le below-q in
      let n : (group R t q).len ≡ (group R t r).len = e.1 in
      let low : (span R P t q).start ≡ cut P (group R t r).len (place R t q) = ap (λ m. cut P m (place R t q)) n in
      let high : span_end R P t q ≡ cut P (group R t r).len (place R t q + 1) = ap (λ m. cut P m (place R t q + 1)) n in
      let j = lies_once P (group R t r).len (some t r le h) (place R t q) x (omega arith) (omega arith, omega arith) in
      omega arith

  pub round_zero : (r : ℕ) → r < R → ((group R 0 r).start ≡ r) × ((group R 0 r).len ≡ 1) × ((span R P 0 r).start ≡ 0) × ((span R P 0 r).len ≡ P)
  round_zero r h =
      let i : index R 1 r ≡ r = let a = div-one r in let b = div-one R in omega arith in
      let own : (group R 0 r).start ≡ r = ap (λ x. x * 1) i ∙ mul-one r in
      let one : (group R 0 r).len ≡ 1 =
      elim (where_is R 1 (omega arith) limits.0 r) [
        | early e k n ↦ n
        | late e k n ↦ let b = div-one R in omega arith
      ]
      in
      let none : place R 0 r ≡ 0 = omega arith in
      let from : (span R P 0 r).start ≡ 0 = rw (one, none) (cut-none P 1 (omega arith)) in
      let to : span_end R P 0 r ≡ P = rw (one, none) (cut_all P 1 (omega arith)) in
      (own, one, from, omega arith)

  next_round : (t r : ℕ) → t < rounds → r < R → ((group R (suc t) r).start ≤ (group R t r).start) × ((group R t r).start + (group R t r).len ≤ (group R (suc t) r).start + (group R (suc t) r).len)
  next_round t r lt h =
      let pw : 2 ^ t * 2 ≡ 2 ^ suc t = sym (pow-suc 2 t) in
      let fits = width_le (suc t) (omega arith) in
      subst (λ v. (start R v r ≤ start R (2 ^ t) r) × (start R (2 ^ t) r + size R (2 ^ t) r ≤ start R v r + size R v r)) pw (within-next R (2 ^ t) (pow_pos t) (omega arith) r h)

  -- whole groups merge
  pub merged : (t r m : ℕ) → t < rounds → r < R → In (group R (suc t) r) m → ((group R (suc t) r).start ≤ (group R t m).start) × ((group R t m).start + (group R t m).len ≤ (group R (suc t) r).start + (group R (suc t) r).len)
  merged t r m lt h i =
      let ends = end_le R (2 ^ suc t) (pow_pos (suc t)) (width_le (suc t) (omega arith)) r in
      let e = same (suc t) r (omega arith) h m i in
      let up = next_round t m lt (omega arith) in
      (omega arith, omega arith)

  pub last_round : (r : ℕ) → r < R → ((group R rounds r).start ≡ 0) × ((group R rounds r).len ≡ R)
  last_round r h =
      let under : R < 2 ^ suc rounds = top_lt 5 R (omega (arith, limits)) in
      let pw = pow-suc 2 rounds in
      all_in_one R (2 ^ rounds) (pow_pos rounds) (top_le 5 R limits.0) (omega arith) r h

-- the 2-3 plan of R ranks and P pixels
abbrev pub swap_model : (R P : ℕ) → Limits R P → PlanModel
swap_model R P limits = record {
  ranks = R;
  pixels = P;
  rounds = top 5 R;
  group = group R;
  span = span R P;
  rank_limit = limits.0;
  pixel_limit = limits.1;
  round_limit = let few = top-few 5 R in omega arith;
  group_within = λ t r le h. end_le R (2 ^ t) (pow_pos t) (width_le R P limits.0 t le) r;
  span_within = spans R P limits.0;
  alone = λ r h. let z = round_zero R P limits.0 r h in ap₂ run_of z.0 z.1;
  whole = λ r h. let z = round_zero R P limits.0 r h in ap₂ run_of z.2 z.3;
  member = inside R P limits.0;
  shared = λ t r m le h i. let e = same R P limits.0 t r le h m i in ap₂ run_of e.0 e.1;
  one_holder = λ t r x le h k. let f = holds R P limits.0 t r le h x k in (holder R P limits.0 t r x, f.0, f.1, λ m i s. holds-once R P limits.0 t r x m le h i s);
  nested = merged R P limits.0;
  all_together = λ r h. let e = last_round R P limits.0 r h in ap₂ run_of e.0 e.1;
}
