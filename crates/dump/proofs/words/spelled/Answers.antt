use Rattle.std.proofs.Common.{rules, ◌≡◌, ℕ, zero, suc, ◌+◌, ◌<◌, ◌≤◌, List, [], ◌∷◌, length, get_or, take, slice_get, unwrap_or, refl, ap₂, ◌∙◌, subst, arith}
use borrow.Author.Tests.{tests}
use denote.Param.Members.{Mut}
use Rattle.std.specs.Fn.{Called}
use Rattle.std.specs.Array.{IsFromFnResultFrom}
use Rattle.dump.specs.Bytes.{words_in}
use Rattle.dump.proofs.Spelled.{length_words_in}
use Rattle.dump.proofs.words.spelled.Goals as goal

-- calls of a function that stays what it was gave its answer at each index
module _ {F : Type 0} (g : Mut F (ℕ × Unit {0}) ℕ) (f : F) (h : ℕ → ℕ) (ys : List ℕ) (same : (i r : ℕ) (q : F) → Called g f (i, tt) r q → (q ≡ f) × (r ≡ h i)) where
  each-told : (n i : ℕ) → IsFromFnResultFrom g f ys i n → (k j : ℕ) → k < n → j ≡ i + k → get_or ys j 0 ≡ h j
  each-told zero i e k j l at = absurd (omega arith)
  each-told (suc n) i e zero j l at = subst (λ (m : ℕ). get_or ys m 0 ≡ h m) (omega arith) (e.2.1 0 ∙ (same i e.1 e.0 e.3).1)
  each-told (suc n) i e (suc k) j l at = each-told n (i + 1) (subst (λ (p : F). IsFromFnResultFrom g p ys (i + 1) n) (same i e.1 e.0 e.3).0 e.4) k j (omega arith) (omega arith)

word_or : (ws : List ℕ) (k : ℕ) → unwrap_or (slice_get ws k) 0 ≡ get_or ws k 0
word_or [] k = refl
word_or (w ∷ ws) zero = refl
word_or (w ∷ ws) (suc k) = word_or ws k

begins : (ws xs : List ℕ) → length ws ≤ length xs → ((k : ℕ) → k < length ws → get_or xs k 0 ≡ get_or ws k 0) → take (length ws) xs ≡ ws
begins [] xs le h = refl
begins (w ∷ ws) [] le h = absurd (omega arith)
begins (w ∷ ws) (x ∷ xs) le h = ap₂ (λ (a : ℕ) (l : List ℕ). a ∷ l) (h 0 (omega arith)) (begins ws xs (omega arith) (λ k l. h (suc k) (omega arith)))

pub returns-clause-words : goal.returns-clause-words
returns-clause-words c =
    let ws = words_in c.args.body.now in
    let long = length_words_in c.args.body.now in
    let made = c.from_fn.ensures.items in
    let read = each-told _ _ (λ i. unwrap_or (slice_get ws i) 0) c.from_fn.result (λ i r q k. search (rules, tests)) 5 0 made.each in
    rw (← long) (begins ws c.from_fn.result (omega (arith, made.long)) (λ k l. read k k (omega arith) (omega arith) ∙ word_or ws k))
