-- Products of factors, and what a radix plan's factors make of ranks and pixels.
use Rattle.std.proofs.Common.{◌≡◌, ℕ, zero, suc, ◌*◌, ◌^◌, ◌<◌, ◌≤◌, List, [], ◌∷◌, ◌++◌, length, get_or, take, drop, map, sym, refl, ap, ◌∙◌, mul-le-mul, mul-one, one-mul, mul_assoc, arith, ⊎_elim}
use Rattle.std.proofs.Math.Nat.{mul-pos, le-mul_of_pos_right, pow-succ', pow-le-pow_right, mul-zero}
use Rattle.std.proofs.lemmas.List.{get_or-take, get_or_default, length-take, take-append-drop}
use Rattle.std.proofs.lemmas.List.Folds.{fold-map}
use Rattle.std.proofs.lemmas.Iterator.{YieldsList-from_slice}
use Rattle.std.proofs.iter.Yields.{fronts, gives_along, gives_Drains}
use Rattle.std.proofs.iter.runs.Made.{runs_from_along}
use Rattle.std.specs.Iterator.{Drains}
use Rattle.std.specs.Iterator.Runs.{EachRunFrom}
use Rattle.std.specs.List.{fold}
use Rattle.std.specs.Prelude.{⊤}
use Rattle.std.specs.Borrow.{Bor}
use Rattle.std.proofs.Common.{Iter}
use Rattle.plan.specs.Factors.{product, factor, width, Each, Suits}
use Rattle.plan.specs.RadixRules.{ahead}
use Rattle.std.proofs.lemmas.Bool.{cases_lt}

fold-product : (a : ℕ) (xs : List ℕ) → fold (λ x y. x * y) a xs ≡ a * product xs
fold-product a [] = sym (mul-one a)
fold-product a (x ∷ xs) = fold-product (a * x) xs ∙ mul_assoc a x (product xs)

product-append : (xs ys : List ℕ) → product (xs ++ ys) ≡ product xs * product ys
product-append [] ys = sym (one-mul (product ys))
product-append (x ∷ xs) ys = ap (λ n. x * n) (product-append xs ys) ∙ sym (mul_assoc x (product xs) (product ys))

multiplied : (seen : List (Bor ℕ)) → fold (λ a (x : Bor ℕ). a * x.now) 1 seen ≡ product (map (λ (x : Bor ℕ). x.now) seen)
multiplied seen =
    let seen' = map (λ (x : Bor ℕ). x.now) seen in
    sym (fold-map (λ a x. a * x) (λ (x : Bor ℕ). x.now) 1 seen) ∙ fold-product 1 seen' ∙ one-mul (product seen')

front-le : (a b : ℕ) → 0 < a * b → a ≤ a * b
front-le a b h = ⊎_elim (λ (p : 0 < b). le-mul_of_pos_right a p) (λ (z : b ≤ 0). let e : b ≡ 0 = omega arith in let n : a * b ≡ 0 = ap (λ x. a * x) e ∙ mul-zero a in absurd (omega arith)) (cases_lt 0 b)

-- what `product` asks of a slice
pub product_fits : (xs : List ℕ) (s : Iter ℕ) (top : ℕ) → s.rest.now ≡ xs → 0 < product xs → product xs < top → EachRunFrom fronts s (λ p. fold (λ a (x : Bor ℕ). a * x.now) 1 p.items < top)
product_fits xs s top e pos h =
    runs_from_along fronts s (λ seen. fold (λ a (x : Bor ℕ). a * x.now) 1 seen < top) (gives_along fronts (λ (y : Bor ℕ). y.now) (λ seen. fold (λ a (x : Bor ℕ). a * x.now) 1 seen < top) xs s (YieldsList-from_slice xs e).runs (λ seen more w.
    let front = map (λ (x : Bor ℕ). x.now) seen in
    let all : product xs ≡ product front * product more = ap product w ∙ product-append front more in
    let le = front-le (product front) (product more) (omega arith) in
    let m = multiplied seen in
    omega arith))

-- what it answers
pub product_is : (xs : List ℕ) (s : Iter ℕ) (r : ℕ) → s.rest.now ≡ xs → ((ys : List (Bor ℕ)) × (⊤ → Drains fronts s ys) × (r ≡ fold (λ a (x : Bor ℕ). a * x.now) 1 ys)) → r ≡ product xs
product_is xs s r e h = h.2 ∙ multiplied h.0 ∙ ap product (gives_Drains fronts (λ (y : Bor ℕ). y.now) h.0 xs s (YieldsList-from_slice xs e).runs (h.1 tt))

-- of factors of 2 to 32
product_bound : (ks : List ℕ) → Each ks → (0 < product ks) × (product ks ≤ 32 ^ length ks)
product_bound [] e = (omega arith, omega arith)
product_bound (k ∷ ks) e =
    let ih = product_bound ks (λ t h. e (suc t) (omega arith)) in
    let one = e 0 (omega arith) in
    (mul-pos (omega arith) ih.0, rw (pow-succ' 32 (length ks)) (mul-le-mul one.1 ih.1))

pub product_small : (ks : List ℕ) → length ks ≤ 5 → Each ks → (0 < product ks) × (product ks < 2 ^ 32)
product_small ks few each =
    let b = product_bound ks each in
    let top : 32 ^ length ks ≤ 32 ^ 5 = pow-le-pow_right (omega arith) few in
    (b.0, omega arith)

-- a width is the product of the first factors
pub width-take : (ks : List ℕ) (t : ℕ) → t ≤ length ks → width (factor ks) t ≡ product (take t ks)
width-take ks zero h = refl
width-take [] (suc t) h = absurd (omega arith)
width-take (k ∷ ks) (suc t) h = ahead k ks t ∙ ap (λ w. k * w) (width-take ks t (omega arith))

-- no group is wider than the last
pub width_le : (R : ℕ) (ks : List ℕ) → Suits R ks → (t : ℕ) → t ≤ length ks → width (factor ks) t ≤ R
width_le R ks suits t h =
    let first = product (take t ks) in
    let others = product (drop t ks) in
    let all : product ks ≡ first * others = ap product (sym (take-append-drop t ks)) ∙ product-append (take t ks) (drop t ks) in
    let pos = (product_bound ks suits.1).0 in
    let le = front-le first others (omega arith) in
    let is = width-take ks t h in
    let whole = suits.2 in
    omega arith

-- the factor at hand, where the first n are gone through
pub read : (ks xs : List ℕ) (n i : ℕ) → xs ≡ take n ks → i < length xs → Each ks → (get_or xs i 0 ≡ factor ks i) × (2 ≤ get_or xs i 0) × (get_or xs i 0 ≤ 32)
read ks xs n i e h each =
    let few = length-take n ks in
    let len = ap length e in
    let at : get_or xs i 0 ≡ factor ks i = ap (λ ys. get_or ys i 0) e ∙ get_or-take n ks i 0 (omega arith) ∙ get_or_default ks i 0 1 (omega arith) in
    let one = each i (omega arith) in
    (at, omega arith, omega arith)
