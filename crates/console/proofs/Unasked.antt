-- Words that ask for nothing. Assumes nothing.
use Rattle.std.proofs.Common.{◌≡◌, ◌≢◌, ℕ, ◌-◌, ◌≤◌, List, [], ◌∷◌, length, get_or, drop, map, codes, sym, ap, ◌∙◌, ⊎_elim, arith, length-drop}
use Rattle.std.proofs.lemmas.List.{drop_more, length-map}
use Rattle.console.specs.Requests.{AsksNothing}

-- two names whose first letters differ
apart : (word x y : List ℕ) → word ≡ x → word ≡ y → (get_or x 0 0 ≡ get_or y 0 0 → ⊥) → ⊥
apart word x y e f differ = differ (ap (λ l. get_or l 0 0) (sym e ∙ f))

-- a list that begins with a word
module _ (all : List (List ℕ)) (word : List ℕ) (ws : List (List ℕ)) (is : all ≡ word ∷ ws) where
  front : (x : List ℕ) (xs : List (List ℕ)) → all ≡ x ∷ xs → (word ≡ x) × (ws ≡ xs)
  front x xs e = let both : word ∷ ws ≡ x ∷ xs = sym is ∙ e in (cc, cc)

  alone : (x : List ℕ) → (word ≡ x → 1 ≤ length ws) → all ≡ x ∷ [] → ⊥
  alone x more e =
      let p = front x [] e in
      let long = more p.0 in
      let none : length ws ≡ 0 = ap length p.1 in
      omega arith

  nothing : (word ≡ codes "help" → 1 ≤ length ws) → (word ≡ codes "inspect" → 2 ≤ length ws) → (word ≢ codes "plan") → (word ≡ codes "link" → 1 ≤ length ws) → AsksNothing all
  nothing help inspect plan link = (
    ⊎_elim (λ e. let none : word ∷ ws ≡ [] = sym is ∙ e in cc) (alone (codes "help") help),
    alone (codes "inspect") (λ e. let long = inspect e in omega arith),
    λ path e. let p = front _ _ e in let long = inspect p.0 in let one : length ws ≡ 1 = ap length p.1 in omega arith,
    λ asked e. plan (front _ _ e).0,
    alone (codes "link") link,
  )

-- the words of a command line, of which the first is at hand
module _ {W : Type 0} (text : W → List ℕ) (words : List W) (first : W) (word : List ℕ) (some : 1 ≤ length words) (here : first ≡ get_or words 0 first) (is : word ≡ text first) where
  abbrev rest : List (List ℕ)
  rest = map text (drop 1 words)

  abbrev Unasked : Type 0
  Unasked = ((ws : List (List ℕ)) × (map text words ≡ word ∷ ws)) × AsksNothing (map text words)

  begins : map text words ≡ word ∷ rest
  begins = ap (map text) (drop_more words 0 first (omega arith)) ∙ ap (λ w. w ∷ rest) (ap text (sym here) ∙ sym is)

  long : length rest ≡ length words - 1
  long = length-map (drop 1 words) text ∙ length-drop 1 words

  pub other : word ≢ codes "help" → word ≢ codes "inspect" → word ≢ codes "plan" → word ≢ codes "link" → Unasked
  other help inspect plan link = ((rest, begins), nothing _ word rest begins (λ e. absurd (help e)) (λ e. absurd (inspect e)) plan (λ e. absurd (link e)))

  pub after_help : word ≡ codes "help" → 2 ≤ length words → Unasked
  after_help e more = (
    (rest, begins),
    nothing _ word rest begins
        (λ f. omega (arith, long))
        (λ f. absurd (apart word _ _ e f (λ z. omega arith)))
        (λ f. apart word _ _ e f (λ z. omega arith))
        (λ f. absurd (apart word _ _ e f (λ z. omega arith))),
  )

  pub after_link : word ≡ codes "link" → 2 ≤ length words → Unasked
  after_link e more = (
    (rest, begins),
    nothing _ word rest begins
        (λ f. absurd (apart word _ _ e f (λ z. omega arith)))
        (λ f. absurd (apart word _ _ e f (λ z. omega arith)))
        (λ f. apart word _ _ e f (λ z. omega arith))
        (λ f. omega (arith, long)),
  )

  pub after_inspect : word ≡ codes "inspect" → 3 ≤ length words → Unasked
  after_inspect e more = (
    (rest, begins),
    nothing _ word rest begins
        (λ f. absurd (apart word _ _ e f (λ z. omega arith)))
        (λ f. omega (arith, long))
        (λ f. apart word _ _ e f (λ z. omega arith))
        (λ f. absurd (apart word _ _ e f (λ z. omega arith))),
  )
