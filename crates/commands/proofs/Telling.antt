-- Telling a plan, piece by piece.
use Rattle.std.specs.Prelude.{◌≡◌, ℕ, suc, ◌+◌, ◌<◌, ◌≤◌, Bool, true, false, List, [], ◌∷◌, ◌++◌, length, take, Option, Ok, Err, nat_lt, slice_index_or, if◌then◌else◌, refl}
use Rattle.std.proofs.Common.{sym, ap, subst, ◌∙◌, append-nil, map, string_bytes, take_all, String, Global, arith}
use Rattle.std.specs.Io.KnownBytes.{Appends}
use Rattle.std.specs.List.{flat_map}
use Rattle.std.proofs.lemmas.Grind.{flat_map-append}
use Rattle.std.proofs.lemmas.List.{map-append, take_more}
use Rattle.plan.specs.Answers.{outside, told, round_of}
use Rattle.plan.specs.Model.{PlanModel}
use Rattle.std.specs.Str.{bytes_eq}
use Rattle.commands.specs.declared.form.Form.TheVariants.{Picture}
use Rattle.commands.specs.Plans.{before_space, below, form_in, line_in, svg}
use Rattle.commands.proofs.Lines.{appends_both}

-- a text is written, and is another by its parts
pub appends_same : (a b : Option (List ℕ)) (t u : List ℕ) → t ≡ u → Appends a b t → Appends a b u
appends_same a b t u e = subst (Appends a b) e

-- the text of one more number is written
pub one_more : (a b c : Option (List ℕ)) (n : ℕ) (text : ℕ → List ℕ) (t : List ℕ) → Appends a b (below n text) → Appends b c t → t ≡ text n → Appends a c (below (n + 1) text)
one_more a b c n text t p q e =
    let next : suc n ≡ n + 1 = omega arith in
    subst (λ (k : ℕ). Appends a c (below k text)) next
    (appends_both a b c (below n text) (text n) p (subst (Appends b c) e q))

-- an accepted query tells what the plan has
pub told_is : {A : Type 0} (m : PlanModel) (r : ℕ) (x y : A) → told m r x ≡ Ok y → y ≡ x
told_is {A = A} m r x y = by (nat_lt r m.ranks)
  where
    by : (b : Bool) → (if b then Ok x else Err (outside r)) ≡ Ok y → y ≡ x
    by true e = cc
    by false e = let z : ◌≡◌ {A = ℕ} 0 1 = cc in absurd (omega arith)

pub round_is : (m : PlanModel) (t : ℕ) → t ≤ m.rounds → round_of m t ≡ t
round_is m t h = omega arith

-- the texts of all numbers below the end are written
pub all_below : (a b : Option (List ℕ)) (text : ℕ → List ℕ) (n end m : ℕ) → n ≤ end → end ≤ n → end ≡ m → Appends a b (below n text) → Appends a b (below m text)
all_below a b text n end m low high e p =
    let same : n ≡ m = omega arith in
    subst (λ (k : ℕ). Appends a b (below k text)) same p

-- the text of one more item is written
pub one_item : {X : Type 0} (a b c : Option (List ℕ)) (f : X → List ℕ) (xs : List X) (i : ℕ) (d : X) → i < length xs → Appends a b (flat_map f (take i xs)) → Appends b c (f (slice_index_or xs i d)) → Appends a c (flat_map f (take (i + 1) xs))
one_item a b c f xs i d h p q =
    let x = slice_index_or xs i d in
    let more : flat_map f (take (i + 1) xs) ≡ flat_map f (take i xs) ++ f x =
    ap (flat_map f) (take_more xs i d h) ∙ flat_map-append f (take i xs) (x ∷ []) ∙ ap (λ (l : List ℕ). flat_map f (take i xs) ++ l) (append-nil (f x)) in
    subst (Appends a c) (sym more) (appends_both a b c (flat_map f (take i xs)) (f x) p q)

-- the texts of all items are written
pub all_items : {X : Type 0} (a b : Option (List ℕ)) (f : X → List ℕ) (xs : List X) (i : ℕ) → length xs ≤ i → Appends a b (flat_map f (take i xs)) → Appends a b (flat_map f xs)
all_items a b f xs i h p = subst (λ l. Appends a b (flat_map f l)) (take_all i xs h) p

-- one more word behind the others
pub form_more : (ws : List (List ℕ)) (w : List ℕ) → form_in (ws ++ w ∷ []) ≡ (if bytes_eq w svg then Picture else form_in ws)
form_more [] w = refl
form_more (v ∷ ws) w = by (bytes_eq v svg) (bytes_eq w svg) (form_more ws w)
  where
    by : (a b : Bool) → form_in (ws ++ w ∷ []) ≡ (if b then Picture else form_in ws) → (if a then Picture else form_in (ws ++ w ∷ [])) ≡ (if b then Picture else if a then Picture else form_in ws)
    by true true e = refl
    by true false e = refl
    by false b e = e

pub line_more : (ws : List (List ℕ)) (w : List ℕ) → line_in (ws ++ w ∷ []) ≡ line_in ws ++ before_space w
line_more ws w = flat_map-append before_space ws (w ∷ []) ∙ ap (λ (l : List ℕ). line_in ws ++ l) (append-nil (before_space w))

pub words_more : (xs : List (String Global)) (i : ℕ) (d : String Global) → i < length xs → map string_bytes (take (i + 1) xs) ≡ map string_bytes (take i xs) ++ string_bytes (slice_index_or xs i d) ∷ []
words_more xs i d h = ap (map string_bytes) (take_more xs i d h) ∙ map-append string_bytes (take i xs) (slice_index_or xs i d ∷ [])
