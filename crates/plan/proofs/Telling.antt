-- What an answer about a rank says.
use Rattle.std.proofs.Common.{◌≡◌, ℕ, suc, ◌+◌, ◌<◌, ◌≤◌, ltb, Ok, Err, Result, ap, ◌∙◌, ⊎_elim, add-one, arith}
use Rattle.std.proofs.lemmas.Bool.{cases_lt, cond-true, cond-false, lt-ltb, le-ltb}
use Rattle.tile.specs.declared.fault.Fault.{Fault}
use Rattle.plan.specs.declared.runs.Run.{Run}
use Rattle.plan.specs.Answers.{asked, told, outside, round_of, group_told, span_told}
use Rattle.plan.specs.Model.{PlanModel}

module _ {A : Type 0} (p : PlanModel) (rank : ℕ) where
  pub asked_in : (answer : Result A Fault) → rank < p.ranks → asked p rank answer ≡ answer
  asked_in answer h = cond-true (ltb rank p.ranks) answer (Err (outside rank)) (lt-ltb rank p.ranks h)

  asked-out : (answer : Result A Fault) → p.ranks ≤ rank → asked p rank answer ≡ Err (outside rank)
  asked-out answer h = cond-false (ltb rank p.ranks) answer (Err (outside rank)) (le-ltb rank p.ranks h)

  -- an answer is that of a rank of the plan
  pub told_ok : (x a : A) → Ok a ≡ told p rank x → (rank < p.ranks) × (a ≡ x)
  told_ok x a e =
      ⊎_elim
      (λ (h : rank < p.ranks). (h, let f = asked_in (Ok x) h in cc))
      (λ (h : p.ranks ≤ rank). absurd (let f = asked-out (Ok x) h in let z : ◌≡◌ {A = ℕ} 0 1 = cc in omega arith))
      (cases_lt rank p.ranks)

module _ (p : PlanModel) where
  reached : (t u : ℕ) → u ≡ t → t ≤ p.rounds → round_of p u ≡ t
  reached t u e h = omega arith

  -- what was told of the next round
  pub next_group : (t r : ℕ) (s : Run) → t < p.rounds → Ok s ≡ group_told p (t + 1) r → (r < p.ranks) × (s ≡ p.group (suc t) r)
  next_group t r s ht e = let k = told_ok p r (p.group (round_of p (t + 1)) r) s e in (k.0, k.1 ∙ ap (λ u. p.group u r) (reached (suc t) (t + 1) (add-one t) (omega arith)))

  pub next_span : (t r : ℕ) (s : Run) → t < p.rounds → Ok s ≡ span_told p (t + 1) r → (r < p.ranks) × (s ≡ p.span (suc t) r)
  next_span t r s ht e = let k = told_ok p r (p.span (round_of p (t + 1)) r) s e in (k.0, k.1 ∙ ap (λ u. p.span u r) (reached (suc t) (t + 1) (add-one t) (omega arith)))
