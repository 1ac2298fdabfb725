-- Rows joined pixel by pixel, as a loop does it. Assumes nothing.
use Rattle.std.proofs.Common.{◌≡◌, ℕ, zero, suc, ◌+◌, ◌-◌, ◌*◌, ◌/◌, ◌%◌, ◌<◌, ◌≤◌, Bool, true, false, ◌&&◌, List, [], ◌∷◌, ◌++◌, map, length, get_or, take, drop, set, is_some, Some, None, Ok, Option, sym, refl, ap, ◌∙◌, subst, ap₂, append_assoc, mul-le-mul_right, suc-mul, div-add-mod', mul-div_cancel, arith, take-append-drop}
use borrow.Rule.Slice.PartMut.{put_mid}
use denote.Ref.{Bor}
use Rattle.std.proofs.lemmas.Iterator.{YieldsList}
use Rattle.std.proofs.lemmas.Iterator.Consumers.{YieldsList-from_enumerate, YieldsList-turn, YieldsList-end}
use Rattle.std.proofs.lemmas.Iterator.Splits.{YieldsList-from_shown_while}
use Rattle.std.proofs.lemmas.List.{flat_map_more, map_more, take_rest, take_at, drop_at, drop-drop, length-drop, length-append, length-map, take_more, drop_more, get_or_at, set_at, take_all, drop_all, append-nil, length-take-le, get_or-map}
use Rattle.std.proofs.lemmas.List.FromFn.{length-enumerate_from, get_or-enumerate_from}
use Rattle.std.proofs.lemmas.Simd.{length-zip2}
use native.Mathlib.Nat.{mul-mod_left}
use Rattle.std.proofs.Math.Nat.{add-div_left, div-eq_of_lt}
use Rattle.std.proofs.lemmas.Nat.{mod_below}
use Rattle.std.specs.Iterator.{Yields}
use Rattle.std.specs.Iterator.Adapters.{enumerate_source, enumerate_count, enumerate_steps}
use Rattle.std.specs.List.{enumerate_from, flat_map, list_all}
use Rattle.std.specs.Simd.{first_chunks}
use lib.Lanes.{zip2}
use Rattle.std.specs.Slice.Iter.{chunks_exact_rest, chunks_exact_size, chunks_exact_steps}
use Rattle.std.specs.declared.iter.Enumerate.{Enumerate}
use Rattle.std.specs.declared.slice.ChunksExact.{ChunksExact}
use Rattle.tile.specs.Rows.{picture, row_words, AreRow, JoinedBehind, put_front, row_of_words}
use Rattle.tile.specs.Kinds.{Kind, KindLaws}

module _ {P : Type 0} (f : P → P → P) where
  zipped_push : (xs ys : List P) (x y : P) → length xs ≡ length ys → zip2 f (xs ++ x ∷ []) (ys ++ y ∷ []) ≡ zip2 f xs ys ++ f x y ∷ []
  zipped_push [] [] x y h = refl
  zipped_push [] (v ∷ ys) x y h = absurd (omega arith)
  zipped_push (u ∷ xs) [] x y h = absurd (omega arith)
  zipped_push (u ∷ xs) (v ∷ ys) x y h = ap (λ zs. f u v ∷ zs) (zipped_push xs ys x y (omega arith))

  -- one pixel more
  pub zipped-more : (F B Z : List P) (i : ℕ) (x y : P) → i < length F → length F ≡ length B → Z ≡ zip2 f (take i F) (take i B) ++ drop i F → x ≡ get_or Z i x → y ≡ get_or B i y → set Z i (f x y) ≡ zip2 f (take (i + 1) F) (take (i + 1) B) ++ drop (i + 1) F
  zipped-more F B Z i x y h l e rx ry =
      let a : List P = zip2 f (take i F) (take i B) in
      let nF : length (take i F) ≡ i = length-take-le i F (omega arith) in
      let nB : length (take i B) ≡ i = length-take-le i B (omega arith) in
      let na : length a ≡ i = length-zip2 f (take i F) (take i B) (nF ∙ sym nB) ∙ nF in
      let z : Z ≡ a ++ (get_or F i x ∷ drop (i + 1) F) = e ∙ ap (λ r. a ++ r) (drop_more F i x h) in
      let xF : x ≡ get_or F i x = rx ∙ ap (λ w. get_or w i x) z ∙ get_or_at a (get_or F i x) (drop (i + 1) F) x i na in
      let pushed : zip2 f (take (i + 1) F) (take (i + 1) B) ≡ a ++ f x y ∷ [] =
      ap₂ (zip2 f) (take_more F i x h) (take_more B i y (omega arith))
      ∙ zipped_push (take i F) (take i B) (get_or F i x) (get_or B i y) (nF ∙ sym nB)
      ∙ ap₂ (λ u v. a ++ f u v ∷ []) (sym xF) (sym ry) in
      ap (λ w. set w i (f x y)) z ∙ set_at a (get_or F i x) (drop (i + 1) F) (f x y) i na
      ∙ sym (append_assoc a (f x y ∷ []) (drop (i + 1) F))
      ∙ ap (λ w. w ++ drop (i + 1) F) (sym pushed)

  pub zipped-all : (F B : List P) (i : ℕ) → length F ≤ i → length F ≡ length B → zip2 f (take i F) (take i B) ++ drop i F ≡ zip2 f F B
  zipped-all F B i h l =
      ap₂ ◌++◌ (ap₂ (zip2 f) (take_all i F h) (take_all i B (omega arith))) (drop_all i F h) ∙ append-nil (zip2 f F B)

module _ {P R : Type 0} (m : Kind P R) where
  -- the pixel of a record that is read
  pub picture-read : (rs : List R) (i : ℕ) (r : R) (p : P) → i < length rs → r ≡ get_or rs i r → p ≡ m.meaning r → p ≡ get_or (picture m rs) i p
  picture-read rs i r p h is e = e ∙ ap m.meaning is ∙ sym (get_or-map m.meaning rs i r p h)

-- n pixels of w words that fit into l words, and that do not
pub all_fit : (n w l : ℕ) → n ≤ l / w → n * w ≤ l
all_fit n w l k = let p : n * w ≤ l / w * w = mul-le-mul_right w k in omega (arith, p, div-add-mod' l w)

pub too_short : (n w l : ℕ) → l / w < n → 0 < w → l < n * w
too_short n w l h k =
    let p : suc (l / w) * w ≤ n * w = mul-le-mul_right w (omega arith) in
    omega (arith, p, suc-mul (l / w) w, div-add-mod' l w, mod_below l w k)

-- the words ws, written behind the words A
pub written-more : (A ws out₀ out after : List ℕ) (at w : ℕ) → length A ≡ at → length ws ≡ w → out ≡ A ++ drop at out₀ → after ≡ ws ++ drop (length ws) (take (length out - at) (drop at out)) → put_mid at (length out - at) out after ≡ (A ++ ws) ++ drop (at + w) out₀
written-more A ws out₀ out after at w nA nw inv e =
    let rest : take (length out - at) (drop at out) ≡ drop at out₀ = take_rest out at ∙ ap (drop at) inv ∙ drop_at A (drop at out₀) at nA in
    let new : after ≡ ws ++ drop (at + w) out₀ = e ∙ ap₂ (λ n b. ws ++ drop n b) nw rest ∙ ap (λ b. ws ++ b) (drop-drop w at out₀) in
    let front : take at out ≡ A = ap (take at) inv ∙ take_at A (drop at out₀) at nA in
    let none : drop (length out - at) (drop at out) ≡ [] = drop_all (length out - at) (drop at out) (omega (arith, length-drop at out)) in
    ap₂ (λ a b. a ++ (after ++ b)) front none
    ∙ ap (λ b. A ++ b) (append-nil after ∙ new)
    ∙ sym (append_assoc A ws (drop (at + w) out₀))

-- a slice in parts of w words
module _ {T : Type 0} where
  parts_more : (w : ℕ) (x rest : List T) → 0 < w → length x ≡ w → first_chunks w (length (x ++ rest) / w) (x ++ rest) ≡ x ∷ first_chunks w (length rest / w) rest
  parts_more w x rest h l =
      let count : length (x ++ rest) / w ≡ suc (length rest / w) =
      ap (λ n. n / w) (length-append x rest ∙ ap (λ n. n + length rest) l) ∙ add-div_left (length rest) h ∙ omega arith in
      ap (λ n. first_chunks w n (x ++ rest)) count
      ∙ ap₂ (λ a b. a ∷ first_chunks w (length rest / w) b) (take_at x rest w l) (drop_at x rest w l)

  no_parts : (w : ℕ) (rest : List T) → length rest < w → length (first_chunks w (length rest / w) rest) ≡ 0
  no_parts w rest h = ap (λ n. length (first_chunks w n rest)) (div-eq_of_lt h)

  pub parts : (s : ChunksExact T) → 0 < chunks_exact_size s → YieldsList chunks_exact_steps (λ x. x.now) s (first_chunks (chunks_exact_size s) (length (chunks_exact_rest s) / chunks_exact_size s) (chunks_exact_rest s))
  parts s h =
      YieldsList-from_shown_while chunks_exact_steps (λ x. x.now)
      (λ s. first_chunks (chunks_exact_size s) (length (chunks_exact_rest s) / chunks_exact_size s) (chunks_exact_rest s))
      (λ s. 0 < chunks_exact_size s)
      (λ s t h e. no_parts (chunks_exact_size s) (chunks_exact_rest s) e.1.0)
      (λ s x t h e. (
        omega (arith, e.0),
        ap (λ rest. first_chunks (chunks_exact_size s) (length rest / chunks_exact_size s) rest) e.1.0
            ∙ parts_more (chunks_exact_size s) x.now (chunks_exact_rest t) h e.1.1
            ∙ ap (λ w. x.now ∷ first_chunks w (length (chunks_exact_rest t) / w) (chunks_exact_rest t)) (sym e.0),
      ))
      s h

module _ {P R : Type 0} (m : Kind P R) (laws : KindLaws m) where
  pub length_joined : (ps : List P) → length (flat_map m.words ps) ≡ length ps * m.width
  length_joined [] = omega arith
  length_joined (p ∷ ps) =
      length-append (m.words p) (flat_map m.words ps)
      ∙ omega (arith, laws.words_length p, length_joined ps, suc-mul (length ps) m.width)

  pub length-words : (rs : List R) → length (row_words m rs) ≡ length rs * m.width
  length-words rs = length_joined (picture m rs) ∙ ap (λ n. n * m.width) (length-map rs m.meaning)

  pub words_more : (rs : List R) (i : ℕ) (r : R) (p : P) → i < length rs → r ≡ get_or rs i r → p ≡ m.meaning r → row_words m (take (i + 1) rs) ≡ row_words m (take i rs) ++ m.words p
  words_more rs i r p h is e =
      ap (flat_map m.words) (map_more m.meaning rs i r h)
      ∙ sym (flat_map_more m.words [] (picture m (take i rs)) (m.meaning (get_or rs i r)))
      ∙ ap (λ q. row_words m (take i rs) ++ m.words q) (sym (e ∙ ap m.meaning is))

  -- the words of a row, part by part
  abbrev pub row_parts : List ℕ → List (List ℕ)
  row_parts ws = first_chunks m.width (length ws / m.width) ws

  pub yields_parts : (s : ChunksExact ℕ) (ws : List ℕ) → chunks_exact_rest s ≡ ws → chunks_exact_size s ≡ m.width → YieldsList chunks_exact_steps (λ x. x.now) s (row_parts ws)
  yields_parts s ws rest size =
      subst (λ (l : List (List ℕ)). YieldsList chunks_exact_steps (λ x. x.now) s l)
      (ap₂ (λ w l. first_chunks w (length l / w) l) size rest)
      (parts s (omega (arith, laws.some_words, size)))

  -- words that do not divide into pixels
  pub not_even : (ws : List ℕ) → (length ws % m.width ≡ 0 → ⊥) → (ps : List P) → flat_map m.words ps ≡ ws → ⊥
  not_even ws h ps e = h (ap (λ n. n % m.width) (sym (ap length e) ∙ length_joined ps) ∙ mul-mod_left (length ps) m.width)

  -- of words in suc n parts, the first pixel and the words behind it
  uncons : (n : ℕ) (ws : List ℕ) (ps : List P) → length ws ≡ suc n * m.width → flat_map m.words ps ≡ ws → (p : P) × (qs : List P) × (m.reads (take m.width ws) ≡ Some p) × (flat_map m.words qs ≡ drop m.width ws)
  uncons n ws [] l e = absurd (omega (arith, ap length e, laws.some_words, suc-mul n m.width))
  uncons n ws (p ∷ ps) l e = (
    p,
    ps,
    ap (λ v. m.reads (take m.width v)) (sym e) ∙ ap m.reads (take_at (m.words p) (flat_map m.words ps) m.width (laws.words_length p)) ∙ laws.read_back p,
    sym (drop_at (m.words p) (flat_map m.words ps) m.width (laws.words_length p)) ∙ ap (drop m.width) e,
  )

  -- words in n parts are those of pixels if each part is
  are_parts : (n : ℕ) (ws : List ℕ) → length ws ≡ n * m.width → AreRow m ws (list_all (λ part. is_some (m.reads part)) (first_chunks m.width n ws))
  are_parts zero [] l = ([], refl)
  are_parts zero (w ∷ ws) l = absurd (omega arith)
  are_parts (suc n) ws l =
      more (m.reads (take m.width ws)) (list_all (λ part. is_some (m.reads part)) (first_chunks m.width n (drop m.width ws))) refl
      (are_parts n (drop m.width ws) (length-drop m.width ws ∙ omega (arith, suc-mul n m.width)))
    where
      more : (o : Option P) (rest : Bool) → m.reads (take m.width ws) ≡ o → AreRow m (drop m.width ws) rest → AreRow m ws (is_some o && rest)
      more None rest e r = λ ps q.
          let u = uncons n ws ps l q in
          let s : Some u.0 ≡ None = sym u.2 ∙ e in
          cc
      more (Some p) true e r = (p ∷ r.0, ap₂ ◌++◌ (laws.read_only (take m.width ws) p e) r.1 ∙ take-append-drop m.width ws)
      more (Some p) false e r = λ ps q. let u = uncons n ws ps l q in r u.1 u.3

  pub are_row : (ws : List ℕ) → length ws % m.width ≡ 0 → AreRow m ws (list_all (λ part. is_some (m.reads part)) (row_parts ws))
  are_row ws h = are_parts (length ws / m.width) ws (omega (arith, div-add-mod' (length ws) m.width))

  -- the parts of a row are the words of its pixels
  parts_are : (ps : List P) → first_chunks m.width (length ps) (flat_map m.words ps) ≡ map m.words ps
  parts_are [] = refl
  parts_are (p ∷ ps) =
      ap₂ (λ a b. a ∷ first_chunks m.width (length ps) b)
      (take_at (m.words p) (flat_map m.words ps) m.width (laws.words_length p))
      (drop_at (m.words p) (flat_map m.words ps) m.width (laws.words_length p))
      ∙ ap (λ l. m.words p ∷ l) (parts_are ps)

  -- so many words for each of these pixels
  pub row_count : (ps : List P) (ws : List ℕ) → flat_map m.words ps ≡ ws → length ws / m.width ≡ length ps
  row_count ps ws e =
      let long : length ws ≡ length ps * m.width = sym (ap length e) ∙ length_joined ps in
      ap (λ n. n / m.width) long ∙ mul-div_cancel (length ps) laws.some_words

  -- part i reads as pixel i
  pub read-part : (ws : List ℕ) (ps : List P) (i : ℕ) (part : List ℕ) (d : P) → i < length ps → flat_map m.words ps ≡ ws → part ≡ get_or (row_parts ws) i part → m.reads part ≡ Some (get_or ps i d)
  read-part ws ps i part d h e is =
      let all : row_parts ws ≡ map m.words ps = ap₂ (first_chunks m.width) (row_count ps ws e) (sym e) ∙ parts_are ps in
      ap m.reads (is ∙ ap (λ l. get_or l i part) all ∙ get_or-map m.words ps i d part h) ∙ laws.read_back (get_or ps i d)

  length_parts : (n : ℕ) (ws : List ℕ) → length (first_chunks m.width n ws) ≡ n
  length_parts zero ws = refl
  length_parts (suc n) ws = ap suc (length_parts n (drop m.width ws))

  -- the parts of a row, numbered
  pub record Numbered (ws : List ℕ) (s : Enumerate (ChunksExact ℕ)) : Type 0 where
    pub yields : YieldsList {B = ℕ × List ℕ} (enumerate_steps chunks_exact_steps) (λ p. (p.0, p.1.now)) s (enumerate_from 0 (row_parts ws))

  pub numbered : (it s : Enumerate (ChunksExact ℕ)) (cut : ChunksExact ℕ) (ws : List ℕ) (w : ℕ) → it ≡ s → enumerate_source s ≡ cut → enumerate_count s ≡ 0 → chunks_exact_rest cut ≡ ws → chunks_exact_size cut ≡ w → w ≡ m.width → Numbered ws it
  numbered it s cut ws w begins source none rest size wide =
      let from : enumerate_source it ≡ cut = ap enumerate_source begins ∙ source in
      record {
        yields = YieldsList-from_enumerate
            (yields_parts (enumerate_source it) ws (ap chunks_exact_rest from ∙ rest) (ap chunks_exact_size from ∙ size ∙ wide))
            (ap enumerate_count begins ∙ none);
      }

  module _ {ws : List ℕ} {s : Enumerate (ChunksExact ℕ)} (parts : Numbered ws s) (xs : List (ℕ × Bor (List ℕ))) (t u : Enumerate (ChunksExact ℕ)) (r : Option (ℕ × Bor (List ℕ))) (y : Yields (enumerate_steps chunks_exact_steps) s xs t) where
    count_parts : length (enumerate_from 0 (row_parts ws)) ≡ length ws / m.width
    count_parts = length-enumerate_from 0 (row_parts ws) ∙ length_parts (length ws / m.width) ws

    -- the number and the part at one turn of a loop over them
    pub part-turn : (i : ℕ) (part : Bor (List ℕ)) → r ≡ Some (i, part) → enumerate_steps chunks_exact_steps t r u → (i ≡ length xs) × (i < length ws / m.width) × (part.now ≡ get_or (row_parts ws) i part.now)
    part-turn i part is step =
        let turn = YieldsList-turn parts.yields xs t y r u (i, part) is step in
        let within : length xs < length (row_parts ws) = omega (arith, turn.0, length-enumerate_from 0 (row_parts ws)) in
        let here : ◌≡◌ {A = ℕ × List ℕ} (i, part.now) (0 + length xs, get_or (row_parts ws) (length xs) part.now) = turn.1 ∙ get_or-enumerate_from 0 (row_parts ws) (length xs) (i, part.now) within in
        let at : i ≡ length xs = ap (λ (p : ℕ × List ℕ). p.0) here ∙ omega arith in (
          at,
          omega (arith, turn.0, count_parts),
          ap (λ (p : ℕ × List ℕ). p.1) here ∙ ap (λ n. get_or (row_parts ws) n part.now) (sym at),
        )

    pub part-end : r ≡ None → enumerate_steps chunks_exact_steps t r u → length xs ≡ length ws / m.width
    part-end is step = (YieldsList-end parts.yields xs t y r u is step).1 ∙ count_parts

  pub row_made : (ps : List P) → row_of_words m (length ps) (flat_map m.words ps) ≡ Some ps
  row_made [] = refl
  row_made (p ∷ ps) =
      ap₂ (λ a b. put_front (m.reads a) (row_of_words m (length ps) b)) (take_at (m.words p) (flat_map m.words ps) m.width (laws.words_length p)) (drop_at (m.words p) (flat_map m.words ps) m.width (laws.words_length p))
      ∙ ap₂ put_front (laws.read_back p) (row_made ps)

  split-front : (o : Option P) (os : Option (List P)) (ps : List P) → put_front o os ≡ Some ps → (q : P) × (qs : List P) × (o ≡ Some q) × (os ≡ Some qs) × (ps ≡ q ∷ qs)
  split-front None os ps e = cc
  split-front (Some q) None ps e = cc
  split-front (Some q) (Some qs) ps e = let s : ps ≡ q ∷ qs = cc in (q, qs, refl, refl, s)

  pub row_back : (n : ℕ) (ws : List ℕ) (ps : List P) → row_of_words m n ws ≡ Some ps → (flat_map m.words ps ≡ ws) × (length ps ≡ n)
  row_back zero [] ps e = let s : ps ≡ [] = cc in (ap (flat_map m.words) s, ap length s)
  row_back zero (w ∷ ws) ps e = cc
  row_back (suc n) ws ps e =
      let s = split-front (m.reads (take m.width ws)) (row_of_words m n (drop m.width ws)) ps e in
      let rest = row_back n (drop m.width ws) s.1 s.3 in
      let front = laws.read_only (take m.width ws) s.0 s.2 in (
        ap (flat_map m.words) s.4 ∙ ap₂ ◌++◌ front rest.0 ∙ take-append-drop m.width ws,
        ap length s.4 ∙ ap suc rest.1,
      )

  -- a row of another length, or the words of no pixels
  pub no_row : (n : ℕ) (ws : List ℕ) → ((ps : List P) → flat_map m.words ps ≡ ws → length ps ≡ n → ⊥) → is_some (row_of_words m n ws) ≡ false
  no_row n ws h = none (row_of_words m n ws) (λ ps e. let b = row_back n ws ps e in h ps b.0 b.1)
    where
      none : (o : Option (List P)) → ((ps : List P) → o ≡ Some ps → ⊥) → is_some o ≡ false
      none None k = refl
      none (Some ps) k = absurd (k ps refl)

  -- the test of a row, from that of its words
  pub is_row : (b : Bool) (n : ℕ) (ws : List ℕ) → AreRow m ws b → length ws / m.width ≡ n → b ≡ is_some (row_of_words m n ws)
  is_row true n ws (ps, e) c =
      let k : length ps ≡ n = sym (row_count ps ws e) ∙ c in
      sym (ap₂ (λ i l. is_some (row_of_words m i l)) (sym k) (sym e) ∙ ap is_some (row_made ps))
  is_row false n ws h c = sym (no_row n ws (λ ps e k. h ps e))

  pub wrong_count : (n : ℕ) (ws : List ℕ) → (length ws / m.width ≡ n → ⊥) → is_some (row_of_words m n ws) ≡ false
  wrong_count n ws h = no_row n ws (λ ps e k. h (row_count ps ws e ∙ k))

  -- the pixels that the words of so many pixels are those of
  pub some_row : (n : ℕ) (ws : List ℕ) → is_some (row_of_words m n ws) ≡ true → (ps : List P) × (row_of_words m n ws ≡ Some ps) × (flat_map m.words ps ≡ ws) × (length ps ≡ n)
  some_row n ws e = let s = some (row_of_words m n ws) e in let b = row_back n ws s.0 s.1 in (s.0, s.1, b.0, b.1)
    where
      some : (o : Option (List P)) → is_some o ≡ true → (ps : List P) × (o ≡ Some ps)
      some None e = cc
      some (Some ps) e = (ps, refl)

  pub row_long : (n : ℕ) (ws : List ℕ) → is_some (row_of_words m n ws) ≡ true → length ws / m.width ≡ n
  row_long n ws e = let s = some_row n ws e in row_count s.0 ws s.2 ∙ s.3

  -- what joining leaves, from the pixels that the words are those of
  pub joined_row : (front after : List R) (ws : List ℕ) → is_some (row_of_words m (length front) ws) ≡ true → ((ps : List P) → flat_map m.words ps ≡ ws → length ps ≡ length front → picture m after ≡ zip2 m.join (picture m front) ps) → JoinedBehind m front (row_of_words m (length front) ws) after (Ok tt)
  joined_row front after ws e k =
      let s = some_row (length front) ws e in
      subst (λ (o : Option (List P)). JoinedBehind m front o after (Ok tt)) (sym s.1) (refl, k s.0 s.2 s.3)
