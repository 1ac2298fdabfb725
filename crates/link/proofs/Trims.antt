-- What the trimmed form keeps of a message, and what the layer keeps of the link below. Assumes nothing.
use Rattle.std.proofs.Common.{◌≡◌, ℕ, eqb, reverse, ◌+◌, ◌-◌, ◌<◌, ◌≤◌, max, Bool, true, false, if◌then◌else◌, ltb, ◌⊎◌, List, [], ◌∷◌, ◌++◌, length, get_or, take, drop, set, replicate, sym, refl, ap, ◌∙◌, ⊎_elim, arith, length-set, rules}
use borrow.Rule.Slice.PartMut.{put_mid}
use Rattle.std.proofs.lemmas.Slice.{take-put_mid}
use Rattle.std.proofs.lemmas.List.Sums.{prefix_len-le-length, prefix_len_passes, prefix_len_stops}
use Rattle.std.specs.List.{suffix_len}
use Rattle.std.proofs.lemmas.List.{get_or-reverse, length-reverse, length-append, length-replicate, length-take-le, length-drop, get_or-take, get_or-drop, get_or_past, ext_get_or, take_at, drop_at, drop-drop, append_assoc, places}
use Rattle.std.proofs.lemmas.Bool.{cases_lt}
use Rattle.std.proofs.lemmas.Bool.Decides.{nat_tests}
use Rattle.link.specs.Model.{LinkModel, BoxState, Empty, Holds, Spoilt, is_empty, changed, put}
use Rattle.link.specs.Trim.{leading, ending, middle, trimmed, has_form, spread, untrimmed, trim_box, trim_model}
use Rattle.link.proofs.Links.{same_link}
use Rattle.link.specs.TrimLaws.{length-spread}

-- a box is empty above where it is empty below
pub trim_empty : (l : ℕ) (b : BoxState) → is_empty (trim_box l b) ≡ is_empty b
trim_empty l Empty = refl
trim_empty l Spoilt = refl
trim_empty l (Holds []) = refl
trim_empty l (Holds (x ∷ [])) = refl
trim_empty l (Holds (x ∷ y ∷ mid)) = grind arith

-- a change of a box below is one of the box above
pub trim_put : (m : LinkModel) (from to : ℕ) (b : BoxState) → trim_model (put m from to b) ≡ put (trim_model m) from to (trim_box (m.longest - 2) b)
trim_put m from to b = same_link _ _ refl refl (λ i j. at i j)
  where
    at : (i j : ℕ) → trim_box (m.longest - 2) (changed m.boxes from to b i j) ≡ changed (λ i j. trim_box (m.longest - 2) (m.boxes i j)) from to (trim_box (m.longest - 2) b) i j
    at i j = grind arith

-- The words before `leading` are zero, the word at it is not.
pub leading_le : (ws : List ℕ) → leading ws ≤ length ws
leading_le ws = prefix_len-le-length (λ w. eqb w 0) ws

pub leading-zero : (ws : List ℕ) (k : ℕ) → k < leading ws → get_or ws k 0 ≡ 0
leading-zero ws k h = let p = prefix_len_passes (λ w. eqb w 0) ws k 0 h in grind (arith, nat_tests)

pub leading-not : (ws : List ℕ) → leading ws < length ws → get_or ws (leading ws) 0 ≡ 0 → ⊥
leading-not ws h e = let p = prefix_len_stops (λ w. eqb w 0) ws 0 h in grind (arith, nat_tests)

-- The words from `ending` on are zero, the word before it is not.
pub ending_le : (ws : List ℕ) → ending ws ≤ length ws
ending_le ws = omega arith

-- a word by its place from the end
from_end : (ws : List ℕ) (k : ℕ) → k < length ws → get_or (reverse ws) (length ws - 1 - k) 0 ≡ get_or ws k 0
from_end ws k h = get_or-reverse ws (length ws - 1 - k) 0 (omega arith) ∙ ap (λ n. get_or ws n 0) (omega arith)

pub ending-zero : (ws : List ℕ) (k : ℕ) → ending ws ≤ k → get_or ws k 0 ≡ 0
ending-zero ws k h = ⊎_elim
    (λ (u : k < length ws).
    let p = prefix_len_passes (λ w. eqb w 0) (reverse ws) (length ws - 1 - k) 0 (omega arith) in
    let e = from_end ws k u in
    grind (arith, nat_tests))
    (λ (u : length ws ≤ k). get_or_past ws k 0 u)
    (cases_lt k (length ws))

pub ending-not : (ws : List ℕ) → 0 < ending ws → get_or ws (ending ws - 1) 0 ≡ 0 → ⊥
ending-not ws h e =
    let n : length (reverse ws) ≡ length ws = length-reverse ws in
    let p = prefix_len_stops (λ w. eqb w 0) (reverse ws) 0 (omega arith) in
    let r = from_end ws (ending ws - 1) (omega arith) in
    let i : length ws - 1 - (ending ws - 1) ≡ suffix_len (λ w. eqb w 0) ws = omega arith in
    grind (arith, nat_tests)

-- all words are zero, or the first that is not stands before the end
pub leading-ending : (ws : List ℕ) → (leading ws < ending ws) ⊎ ((leading ws ≡ length ws) × (ending ws ≡ 0))
leading-ending ws =
    let a = leading_le ws in
    let z = leading-zero ws (ending ws - 1) in
    let p = leading-not ws in
    let q = ending-not ws in
    let y = ending-zero ws (leading ws) in
    grind arith

pub length-middle : (ws : List ℕ) → length (middle ws) ≡ ending ws - leading ws
length-middle ws = let h = ending_le ws in rw (length-drop, length-take-le)

pub length-trimmed : (ws : List ℕ) → (2 ≤ length (trimmed ws)) × (length (trimmed ws) ≤ length ws + 2)
length-trimmed ws = omega (arith, length-middle ws, ending_le ws)

middle-at : (ws : List ℕ) (k : ℕ) → leading ws + k < ending ws → get_or (middle ws) k 0 ≡ get_or ws (leading ws + k) 0
middle-at ws k h = rw (get_or-drop, get_or-take)

trimmed-form : (l : ℕ) (ws : List ℕ) → 1 ≤ length ws → length ws ≤ l → has_form l (length ws) (leading ws) (middle ws) ≡ true
trimmed-form l ws few fits =
    let n = length-middle ws in
    let e = ending_le ws in
    let a = leading_le ws in
    let w = leading-ending ws in
    let first = middle-at ws 0 in
    let last = middle-at ws (length (middle ws) - 1) in
    let p = leading-not ws in
    let q = ending-not ws in
    grind (arith, nat_tests)

-- the words of the message that a form stands for
pub spread_at : (count lead : ℕ) (mid : List ℕ) (k : ℕ) → k < count → lead + length mid ≤ count → get_or (spread count lead mid) k 0 ≡ (if ltb k lead then 0 else (if ltb k (lead + length mid) then get_or mid (k - lead) 0 else 0))
spread_at count lead mid k h fits = grind (arith, nat_tests, places)

spread-trimmed : (ws : List ℕ) → spread (length ws) (leading ws) (middle ws) ≡ ws
spread-trimmed ws =
    let n = length-middle ws in
    let e = ending_le ws in
    let a = leading_le ws in
    let w = leading-ending ws in
    let len : length (spread (length ws) (leading ws) (middle ws)) ≡ length ws = length-spread (length ws) (leading ws) (middle ws) (omega arith) in
    ext_get_or 0 _ ws len (λ k h.
    let s = spread_at (length ws) (leading ws) (middle ws) k (omega arith) (omega arith) in
    let m = middle-at ws (k - leading ws) in
    let p = leading-zero ws k in
    let q = ending-zero ws k in
    grind (arith, nat_tests))

pub round_trip : (l : ℕ) (ws : List ℕ) → 1 ≤ length ws → length ws ≤ l → untrimmed l (trimmed ws) ≡ Holds ws
round_trip l ws few fits = rw (trimmed-form l ws few fits, spread-trimmed ws)

-- A place with zeros before it and none at it is `leading`; one with zeros from it on and none before it is `ending`.
pub leading-is : (ws : List ℕ) (n : ℕ) → n ≤ length ws → ((k : ℕ) → k < n → get_or ws k 0 ≡ 0) → (n < length ws → get_or ws n 0 ≡ 0 → ⊥) → n ≡ leading ws
leading-is ws n le zeros stop =
    let a = leading_le ws in
    let p = leading-zero ws n in
    let q = leading-not ws in
    let z = zeros (leading ws) in
    grind arith

pub ending-is : (ws : List ℕ) (n : ℕ) → n ≤ length ws → ((k : ℕ) → n ≤ k → get_or ws k 0 ≡ 0) → (0 < n → get_or ws (n - 1) 0 ≡ 0 → ⊥) → n ≡ ending ws
ending-is ws n le zeros stop =
    let a = ending_le ws in
    let p = ending-zero ws (n - 1) in
    let q = ending-not ws in
    let z = zeros (ending ws - 1) in
    grind arith

-- The parts of a form are those of its message.
module _ (l count zeros : ℕ) (inner : List ℕ) (form : has_form l count zeros inner ≡ true) where
  abbrev whole : List ℕ
  whole = spread count zeros inner

  fits : zeros + length inner ≤ count
  fits = grind (arith, nat_tests)

  whole_length : length whole ≡ count
  whole_length = length-spread count zeros inner fits

  whole-at : (k : ℕ) → get_or whole k 0 ≡ (if ltb k zeros then 0 else (if ltb k (zeros + length inner) then get_or inner (k - zeros) 0 else 0))
  whole-at k = ⊎_elim
      (λ (u : k < count). spread_at count zeros inner k u fits)
      (λ (u : count ≤ k). let n = whole_length in let f = fits in get_or_past whole k 0 (omega arith) ∙ grind (arith, nat_tests))
      (cases_lt k count)

  zeros_lead : zeros ≡ leading whole
  zeros_lead =
      let n = whole_length in
      let f = fits in
      leading-is whole zeros (omega arith)
      (λ k h. let e = whole-at k in grind (arith, nat_tests))
      (λ h e. let w = whole-at zeros in grind (arith, nat_tests))

  -- where not all words are zero
  inner_ends : 0 < length inner → zeros + length inner ≡ ending whole
  inner_ends some =
      let n = whole_length in
      let f = fits in
      ending-is whole (zeros + length inner) (omega arith)
      (λ k h. let e = whole-at k in grind (arith, nat_tests))
      (λ h e. let w = whole-at (zeros + length inner - 1) in grind (arith, nat_tests))

  all_zero : length inner ≡ 0 → 0 ≡ ending whole
  all_zero none =
      let f = fits in
      ending-is whole 0 (omega arith)
      (λ k h. let e = whole-at k in grind (arith, nat_tests))
      (λ h e. omega arith)

  inner_middle : middle whole ≡ inner
  inner_middle =
      let a = zeros_lead in
      let n = length-middle whole in
      let some = inner_ends in
      let none = all_zero in
      let len : length (middle whole) ≡ length inner = grind (arith, nat_tests) in
      ext_get_or 0 _ inner len (λ k h.
      let m = middle-at whole k in
      let w = whole-at (leading whole + k) in
      grind (arith, nat_tests))

  parts-back : count ∷ zeros ∷ inner ≡ trimmed whole
  parts-back = let n = whole_length in let z = zeros_lead in let m = inner_middle in cc

pub only-form : (l : ℕ) (form ws : List ℕ) → untrimmed l form ≡ Holds ws → form ≡ trimmed ws
only-form l [] ws h = absurd cc
only-form l (x ∷ []) ws h = absurd cc
only-form l (count ∷ zeros ∷ inner) ws h = at (has_form l count zeros inner) refl h
  where
    at : (t : Bool) → has_form l count zeros inner ≡ t → (if t then Holds (spread count zeros inner) else Spoilt) ≡ Holds ws → count ∷ zeros ∷ inner ≡ trimmed ws
    at false e q = absurd cc
    at true e q = let same : spread count zeros inner ≡ ws = cc in parts-back l count zeros inner e ∙ ap trimmed same

first_two : (out : List ℕ) (x y : ℕ) → 2 ≤ length out → take 2 (set (set out 0 x) 1 y) ≡ x ∷ y ∷ []
first_two [] x y h = absurd (omega arith)
first_two (a ∷ []) x y h = absurd (omega arith)
first_two (a ∷ b ∷ out) x y h = refl

-- the middle as a part of the message in memory
middle-part : (ws : List ℕ) → take (max (ending ws) (leading ws) - leading ws) (drop (leading ws) ws) ≡ middle ws
middle-part ws =
    let e = ending_le ws in
    let a = leading_le ws in
    let n = length-middle ws in
    ext_get_or 0 _ _ (search (rules, places)) (λ k h. grind (arith, places))

-- what `out` holds after its first two words and then the middle were written
pub written : (ws out mid ys : List ℕ) (zeros end : ℕ) → zeros ≡ leading ws → end ≡ max (ending ws) zeros → mid ≡ take (end - zeros) (drop zeros ws) → ys ≡ mid → length ws + 2 ≤ length out → take (2 + length mid) (put_mid 2 (2 + length mid - 2) (set (set out 0 (length ws)) 1 zeros) ys) ≡ trimmed ws
written ws out mid ys zeros end z e m y room =
    let is : mid ≡ middle ws = rw (m, e, z) (middle-part ws) in
    let outer : 2 ≤ length (set (set out 0 (length ws)) 1 zeros) = simp length-set (omega arith) in
    let len : 2 + length mid ≡ 2 + length ys = omega (arith, ap length y) in
    take-put_mid 2 _ _ ys (2 + length mid) len outer ∙ ap (λ t. t ++ ys) (first_two out (length ws) zeros (omega arith)) ∙ cc

-- a part written right after a front of its own
put-after : (x y rest : List ℕ) (a k : ℕ) → length x ≡ a → put_mid a k (x ++ rest) y ≡ (x ++ y) ++ drop k rest
put-after x y rest a k p =
    let t = take_at x rest a p in
    let d = drop_at x rest a p in
    rw (t, d) (sym (append_assoc x y (drop k rest)))

-- what `area` holds after the three parts of the message were written
pub spread_written : (area mid y z₁ z₂ : List ℕ) (count lead : ℕ) → lead + length mid ≤ count → z₁ ≡ replicate lead 0 → y ≡ mid → z₂ ≡ replicate (count - (lead + length mid)) 0 → put_mid (lead + length mid) (count - (lead + length mid)) (put_mid lead (lead + length mid - lead) (z₁ ++ drop lead area) y) z₂ ≡ spread count lead mid ++ drop count area
spread_written area mid y z₁ z₂ count lead fits p q r =
    let n = length mid in
    let zeros : List ℕ = replicate lead 0 in
    let rest : List ℕ = drop lead area in
    let tail : List ℕ = replicate (count - (lead + n)) 0 in
    let len : length zeros ≡ lead = length-replicate lead 0 in
    let both : length (zeros ++ mid) ≡ lead + n = simp length-append (omega arith) in
    let inner : put_mid lead (lead + n - lead) (zeros ++ rest) mid ≡ (zeros ++ mid) ++ drop (lead + n - lead) rest = put-after zeros mid rest lead (lead + n - lead) len in
    let outer = put-after (zeros ++ mid) tail (drop (lead + n - lead) rest) (lead + n) (count - (lead + n)) both in
    let all : lead + ((lead + n - lead) + (count - (lead + n))) ≡ count = omega arith in
    let left : drop (count - (lead + n)) (drop (lead + n - lead) rest) ≡ drop count area = drop-drop _ _ rest ∙ drop-drop _ _ area ∙ ap (λ k. drop k area) all in
    rw (p, q, r) (ap (λ t. put_mid (lead + n) (count - (lead + n)) t tail) inner ∙ outer ∙ ap (λ t. ((zeros ++ mid) ++ tail) ++ t) left ∙ ap (λ t. t ++ drop count area) (append_assoc zeros mid tail))
