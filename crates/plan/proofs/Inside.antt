-- Whether a number lies in a run, and the common part of two.
use Rattle.std.proofs.Common.{◌≡◌, ℕ, ◌+◌, ◌<◌, ◌≤◌, true, false, ltb, leb, ◌⊎◌, inl, inr, ⊎_elim, arith}
use Rattle.std.proofs.lemmas.Bool.{le-leb, lt-leb, lt-ltb, le-ltb, cases_lt, and_from, and_left, and_right}
use Rattle.plan.specs.declared.runs.Run.{Run}
use Rattle.plan.specs.Runs.{In, has, common}

pub has_in : (s : Run) (x : ℕ) → In s x → has s x ≡ true
has_in s x h = and_from (leb s.start x) (ltb x (s.start + s.len)) (le-leb _ _ h.0) (lt-ltb _ _ h.1)

pub has-before : (s : Run) (x : ℕ) → x < s.start → has s x ≡ false
has-before s x h = and_left (leb s.start x) (ltb x (s.start + s.len)) (lt-leb _ _ h)

pub has-behind : (s : Run) (x : ℕ) → s.start + s.len ≤ x → has s x ≡ false
has-behind s x h = and_right (leb s.start x) (ltb x (s.start + s.len)) (le-ltb _ _ h)

-- in the run, before it, or behind it
pub where_is : (s : Run) (x : ℕ) → (In s x) ⊎ ((x < s.start) ⊎ (s.start + s.len ≤ x))
where_is s x = ⊎_elim (λ a. inr (inl a)) (λ a. ⊎_elim (λ b. inl (a, b)) (λ b. inr (inr b)) (cases_lt x (s.start + s.len))) (cases_lt x s.start)

pub in_or_not : (s : Run) (x : ℕ) → In s x ⊎ (In s x → ⊥)
in_or_not s x = ⊎_elim (λ a. inl a) (λ b. inr (λ h. ⊎_elim (λ l. omega (arith, h.0)) (λ l. omega (arith, h.1)) b)) (where_is s x)

pub has-out : (s : Run) (x : ℕ) → (In s x → ⊥) → has s x ≡ false
has-out s x n = ⊎_elim (λ a. absurd (n a)) (⊎_elim (has-before s x) (has-behind s x)) (where_is s x)

pub has-true : (s : Run) (x : ℕ) → has s x ≡ true → In s x
has-true s x e = ⊎_elim (λ a. a) (λ n. let z : ◌≡◌ {A = ℕ} 0 1 = (let f = has-out s x n in cc) in omega arith) (in_or_not s x)

pub common_in : (a b : Run) (x : ℕ) → In a x → In b x → In (common a b) x
common_in a b x h k = omega arith

pub in_common : (a b : Run) (x : ℕ) → In (common a b) x → (In a x) × (In b x)
in_common a b x h = (omega arith, omega arith)
