-- Entries and their words. Assumes nothing.
use Rattle.std.proofs.Common.{◌≡◌, ℕ, zero, suc, ◌+◌, ◌-◌, ◌*◌, ◌<◌, ◌≤◌, Bool, true, false, if◌then◌else◌, eqb, ◌⊎◌, List, [], ◌∷◌, ◌++◌, length, get_or, take, drop, Some, None, Option, sym, refl, ap, ◌∙◌, inl, inr, add-mul, one-mul, add-one, arith}
use Rattle.std.proofs.lemmas.Nat.{mul-le}
use Rattle.std.proofs.lemmas.List.{append_assoc, length-append, length-drop, get_or-drop, take_at, drop_at, drop-drop}
use Rattle.std.proofs.lemmas.Bool.Decides.{nat_tests}
use Rattle.std.specs.Option.{option_map}
use Rattle.link.specs.Model.{BoxState, Empty, Holds, Spoilt, is_empty}
use Rattle.boxes.specs.Lines.{Entry, spelled, parsed, entries, lookup, place, removed, is_sound, is_good, Spelt}

-- Words and entries: each list of entries is read back from its words.
parsed-spelled : (f : ℕ) (es : List Entry) → length es ≤ f → parsed f (spelled es) ≡ es
parsed-spelled zero [] h = refl
parsed-spelled (suc f) [] h = refl
parsed-spelled zero (e ∷ es) h = absurd (omega arith)
parsed-spelled (suc f) (e ∷ es) h =
    let t = take_at e.message (spelled es) (length e.message) refl in
    let d = drop_at e.message (spelled es) (length e.message) refl in
    let r = parsed-spelled f es (omega arith) in
    rw (t, d, r)

length-spelled : (es : List Entry) → length es ≤ length (spelled es)
length-spelled [] = omega arith
length-spelled (e ∷ es) = let h = length-spelled es in simp length-append (omega arith)

entries-spelled : (es : List Entry) → entries (spelled es) ≡ es
unfolding entries
entries-spelled es = parsed-spelled (length (spelled es)) es (length-spelled es)

module _ (ws : List ℕ) (es : List Entry) (e : ws ≡ spelled es) where
  pub entries_of : entries ws ≡ es
  entries_of = ap entries e ∙ entries-spelled es

  pub spelt_of : Spelt ws
  spelt_of = e ∙ sym (ap spelled entries_of)

  pub good_of : (m l : ℕ) → is_good m l es ≡ true → is_good m l (entries ws) ≡ true
  good_of m l h = ap (is_good m l) entries_of ∙ h

pub spelled_append : (xs ys : List Entry) → spelled (xs ++ ys) ≡ spelled xs ++ spelled ys
spelled_append [] ys = refl
spelled_append (x ∷ xs) ys =
    let h = spelled_append xs ys in
    let a = append_assoc x.message (spelled xs) (spelled ys) in
    cc

-- One entry more, at the end.
pub lookup_add : (b : ℕ) (es : List Entry) (e : Entry) → lookup b (es ++ e ∷ []) ≡ (if is_empty (lookup b es) then (if eqb e.box b then Holds e.message else Empty) else lookup b es)
lookup_add b [] e = refl
lookup_add b (x ∷ es) e = let h = lookup_add b es e in grind (arith, nat_tests)

pub good_add : (m l : ℕ) (es : List Entry) (e : Entry) → is_good m l es ≡ true → is_sound m l e ≡ true → is_empty (lookup e.box es) ≡ true → is_good m l (es ++ e ∷ []) ≡ true
good_add m l [] e g s h = grind (arith, nat_tests)
good_add m l (x ∷ es) e g s h =
    let r = good_add m l es e in
    let a = lookup_add x.box es e in
    grind (arith, nat_tests)

-- One entry less.
empty_is : (s : BoxState) → is_empty s ≡ true → s ≡ Empty
empty_is Empty h = refl
empty_is (Holds ws) h = absurd cc
empty_is Spoilt h = absurd cc

pub lookup_empty : (b : ℕ) (es : List Entry) → is_empty (lookup b es) ≡ true → lookup b es ≡ Empty
lookup_empty b es h = empty_is (lookup b es) h

pub lookup_removed-other : (b c : ℕ) (es : List Entry) → (b ≡ c → ⊥) → lookup c (removed b es) ≡ lookup c es
lookup_removed-other b c [] h = refl
lookup_removed-other b c (e ∷ es) h = let r = lookup_removed-other b c es h in grind (arith, nat_tests)

pub lookup-removed : (m l b : ℕ) (es : List Entry) → is_good m l es ≡ true → lookup b (removed b es) ≡ Empty
lookup-removed m l b [] g = refl
lookup-removed m l b (e ∷ es) g =
    let r = lookup-removed m l b es in
    let i = empty_is (lookup e.box es) in
    grind (arith, nat_tests)

pub good_removed : (m l b : ℕ) (es : List Entry) → is_good m l es ≡ true → is_good m l (removed b es) ≡ true
good_removed m l b [] g = refl
good_removed m l b (e ∷ es) g =
    let r = good_removed m l b es in
    let o = lookup_removed-other b e.box es in
    grind (arith, nat_tests)

-- the first of good entries are good
lookup-front : (b : ℕ) (xs ys : List Entry) → is_empty (lookup b (xs ++ ys)) ≡ true → is_empty (lookup b xs) ≡ true
lookup-front b [] ys h = refl
lookup-front b (x ∷ xs) ys h = let r = lookup-front b xs ys in grind (arith, nat_tests)

pub good_front : (m l : ℕ) (xs ys : List Entry) → is_good m l (xs ++ ys) ≡ true → is_good m l xs ≡ true
good_front m l [] ys g = refl
good_front m l (x ∷ xs) ys g =
    let r = good_front m l xs ys in
    let f = lookup-front x.box xs ys in
    grind (arith, nat_tests)

length_removed : (b : ℕ) (es : List Entry) → length es ≤ 1 + length (removed b es)
length_removed b [] = omega arith
length_removed b (e ∷ es) = let r = length_removed b es in grind (arith, nat_tests)

-- Good entries for `m` boxes are at most `m`, so their words fit into m * (l + 2).
tighten : (m l : ℕ) (es : List Entry) → is_good (suc m) l es ≡ true → lookup m es ≡ Empty → is_good m l es ≡ true
tighten m l [] g h = refl
tighten m l (e ∷ es) g h = let r = tighten m l es in grind (arith, nat_tests)

at_most : (m l : ℕ) (es : List Entry) → is_good m l es ≡ true → length es ≤ m
at_most zero l [] g = omega arith
at_most zero l (e ∷ es) g = absurd (grind (arith, nat_tests))
at_most (suc m) l es g =
    let r = at_most m l (removed m es) (tighten m l (removed m es) (good_removed (suc m) l m es g) (lookup-removed (suc m) l m es g)) in
    let n = length_removed m es in
    omega arith

size_good : (m l : ℕ) (es : List Entry) → is_good m l es ≡ true → length (spelled es) ≤ length es * (l + 2)
size_good m l [] g = omega arith
size_good m l (e ∷ es) g =
    let rest : is_good m l es ≡ true = grind (arith, nat_tests) in
    let short : length e.message ≤ l = grind (arith, nat_tests) in
    let r = size_good m l es rest in
    let a = add-mul (length es) 1 (l + 2) in
    let o = one-mul (l + 2) in
    let s : suc (length es) * (l + 2) ≡ (length es + 1) * (l + 2) = ap (λ n. n * (l + 2)) (sym (add-one (length es))) in
    simp length-append (omega arith)

-- there is room for an entry whose box is empty
pub room_for : (m l : ℕ) (es : List Entry) (e : Entry) → is_good m l es ≡ true → is_sound m l e ≡ true → is_empty (lookup e.box es) ≡ true → length (spelled es) + (2 + length e.message) ≤ m * (l + 2)
room_for m l es e g s h =
    let all : is_good m l (e ∷ es) ≡ true = grind (arith, nat_tests) in
    let size = size_good m l (e ∷ es) all in
    let few = at_most m l (e ∷ es) all in
    let most = mul-le (length (e ∷ es)) (l + 2) m (l + 2) few (omega arith) in
    let len = length-append e.message (spelled es) in
    omega arith

-- Where the entry of a box lies.
pub record Split (b : ℕ) (es : List Entry) : Type 0 where
  pub before : List Entry
  pub entry : Entry
  pub behind : List Entry
  pub all : es ≡ before ++ entry ∷ behind
  pub start : place b es ≡ Some (length (spelled before))
  pub held : lookup b es ≡ Holds entry.message
  pub left : removed b es ≡ before ++ behind

pub split : (b : ℕ) (es : List Entry) → ((lookup b es ≡ Empty) × (place b es ≡ None)) ⊎ Split b es
split b [] = inl (refl, refl)
split b (e ∷ es) = at (eqb e.box b) refl (split b es)
  where
    at : (t : Bool) → eqb e.box b ≡ t → ((lookup b es ≡ Empty) × (place b es ≡ None)) ⊎ Split b es → ((lookup b (e ∷ es) ≡ Empty) × (place b (e ∷ es) ≡ None)) ⊎ Split b (e ∷ es)
    at true q h = inr (record { before = []; entry = e; behind = es; all = refl; start = rw q; held = rw q; left = rw q })
    at false q (inl h) = inl (rw q h.0, rw (q, h.1))
    at false q (inr s) = inr (record {
      before = e ∷ s.before;
      entry = s.entry;
      behind = s.behind;
      all = ap (λ t. e ∷ t) s.all;
      start = rw (q, s.start) (ap Some (simp length-append (omega arith)));
      held = rw q s.held;
      left = rw q (ap (λ t. e ∷ t) s.left);
    })

-- The first of the entries whose words start at `at`.
pub record Head (ws : List ℕ) (at : ℕ) (e : Entry) (es : List Entry) : Type 0 where
  pub box : get_or ws at 0 ≡ e.box
  pub size : get_or ws (at + 1) 0 ≡ length e.message
  pub rest : drop (at + (2 + length e.message)) ws ≡ spelled es
  pub within : at + (2 + length e.message) ≤ length ws

head : (ws : List ℕ) (at : ℕ) (e : Entry) (es : List Entry) → drop at ws ≡ spelled (e ∷ es) → at < length ws → Head ws at e es
head ws at e es h lt =
    let first = get_or-drop at ws 0 0 in
    let second = get_or-drop at ws 1 0 in
    let n = length e.message in
    let len : length (drop at ws) ≡ length ws - at = length-drop at ws in
    let sum : length (drop at ws) ≡ 2 + (n + length (spelled es)) = ap length h ∙ simp length-append (omega arith) in
    record {
      box = ap (λ k. get_or ws k 0) (omega arith) ∙ sym first ∙ ap (λ t. get_or t 0 0) h;
      size = sym second ∙ ap (λ t. get_or t 1 0) h;
      rest = sym (drop-drop (2 + n) at ws) ∙ ap (drop (2 + n)) h ∙ drop_at (e.box ∷ n ∷ e.message) (spelled es) (2 + n) (omega arith);
      within = omega arith;
    }

-- some entry is the first
record Front (ws : List ℕ) (at : ℕ) (es : List Entry) : Type 0 where
  entry : Entry
  behind : List Entry
  all : es ≡ entry ∷ behind
  head : Head ws at entry behind

front : (ws : List ℕ) (at : ℕ) (es : List Entry) → drop at ws ≡ spelled es → at < length ws → Front ws at es
front ws at [] h lt = absurd (omega (arith, ap length h, length-drop at ws))
front ws at (e ∷ es) h lt = record { entry = e; behind = es; all = refl; head = head ws at e es h lt }

-- places counted from further on
shifted-none : (o : Option ℕ) → o ≡ option_map (λ k. 0 + k) o
shifted-none None = refl
shifted-none (Some x) = ap Some (omega arith)

shifted-more : (a b c : ℕ) (o : Option ℕ) → a + b ≡ c → option_map (λ k. a + k) (option_map (λ k. b + k) o) ≡ option_map (λ k. c + k) o
shifted-more a b c None e = refl
shifted-more a b c (Some x) e = ap Some (omega arith)

-- The search for the entry of a box: at `at` some entries are left, and the entry is sought among them.
pub record Walk (ws : List ℕ) (b at : ℕ) : Type 0 where
  pub left : List Entry
  pub words : drop at ws ≡ spelled left
  pub sought : place b (entries ws) ≡ option_map (λ k. at + k) (place b left)

pub walk_start : (ws : List ℕ) (b : ℕ) → Spelt ws → Walk ws b 0
walk_start ws b h = record { left = entries ws; words = h; sought = shifted-none (place b (entries ws)) }

module _ (ws : List ℕ) (b at : ℕ) (w : Walk ws b at) where
  pub walk_end : length ws ≤ at → None ≡ place b (entries ws)
  walk_end h = ended w.left w.words w.sought
    where
      ended : (es : List Entry) → drop at ws ≡ spelled es → place b (entries ws) ≡ option_map (λ k. at + k) (place b es) → None ≡ place b (entries ws)
      ended [] p q = sym q
      ended (e ∷ es) p q = absurd (omega (arith, ap length p, length-drop at ws))

  module _ (lt : at < length ws) where
    seen : Front ws at w.left
    seen = front ws at w.left w.words lt

    pub walk_within : at + (2 + get_or ws (at + 1) 0) ≤ length ws
    walk_within = let f = seen in omega (arith, f.head.size, f.head.within)

    first : place b w.left ≡ (if eqb (get_or ws at 0) b then Some 0 else option_map (λ k. 2 + get_or ws (at + 1) 0 + k) (place b seen.behind))
    first = let f = seen in rw (f.head.box, f.head.size) (ap (place b) f.all)

    pub walk_here : get_or ws at 0 ≡ b → Some at ≡ place b (entries ws)
    walk_here h =
        let here : eqb (get_or ws at 0) b ≡ true = grind (arith, nat_tests) in
        ap Some (omega arith) ∙ sym (w.sought ∙ ap (option_map (λ k. at + k)) (rw here at first))

    pub walk_more : (get_or ws at 0 ≡ b → ⊥) → Walk ws b (at + (2 + get_or ws (at + 1) 0))
    walk_more h =
        let f = seen in
        let other : eqb (get_or ws at 0) b ≡ false = grind (arith, nat_tests) in
        record {
          left = f.behind;
          words = ap (λ k. drop (at + (2 + k)) ws) f.head.size ∙ f.head.rest;
          sought = w.sought ∙ ap (option_map (λ k. at + k)) (rw other at first) ∙ shifted-more at _ _ _ refl;
        }

-- The entry of a box that was found in the words of a line.
pub record Found (b : ℕ) (ws : List ℕ) (at : ℕ) : Type 0 where
  pub parts : Split b (entries ws)
  pub size : get_or ws (at + 1) 0 ≡ length parts.entry.message
  pub within : at + (2 + length parts.entry.message) ≤ length ws
  pub words : take (length parts.entry.message) (drop (at + 2) ws) ≡ parts.entry.message
  pub front : take at ws ≡ spelled parts.before
  pub rest : drop (at + (2 + length parts.entry.message)) ws ≡ spelled parts.behind

module _ (ws : List ℕ) (b : ℕ) where
  pub missing : None ≡ place b (entries ws) → lookup b (entries ws) ≡ Empty
  missing is = elim (split b (entries ws)) [
    | inl p ↦ p.0
    | inr s ↦ let e = s.start in absurd cc
  ]

  pub found : (at : ℕ) → Spelt ws → Some at ≡ place b (entries ws) → Found b ws at
  found at h is = elim (split b (entries ws)) [
    | inl p ↦ let e = p.1 in absurd cc
    | inr s ↦
        let e = s.entry in
        let x = spelled s.before in
        let y = spelled (e ∷ s.behind) in
        let place_is = s.start in
        let start : length x ≡ at = cc in
        let all : ws ≡ x ++ y = h ∙ ap spelled s.all ∙ spelled_append s.before (e ∷ s.behind) in
        let lt : at < length ws = omega (arith, start, simp length-append at (ap length all)) in
        let cut : drop at ws ≡ y = ap (drop at) all ∙ drop_at x y at start in
        let f = head ws at e s.behind cut lt in
        record {
          parts = s;
          size = f.size;
          within = f.within;
          words = ap (take (length e.message)) (sym (drop-drop 2 at ws) ∙ ap (drop 2) cut) ∙ take_at e.message (spelled s.behind) (length e.message) refl;
          front = ap (take at) all ∙ take_at x y at start;
          rest = f.rest;
        }
  ]
