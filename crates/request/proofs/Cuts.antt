-- Words cut off one by one. Assumes nothing.
use Rattle.std.proofs.Common.{◌≡◌, ℕ, suc, ◌+◌, ◌-◌, ◌<◌, ◌≤◌, Bool, true, false, cond, if◌then◌else◌, not, nat_lt, unwrap_or, length-take, List, [], ◌∷◌, length, get_or, take, drop, position, Some, None, sym, refl, ap, ◌∙◌, subst, ⊎_elim, arith, length-drop}
use Rattle.std.specs.List.{position_or_len, prefix_len, take_while}
use Rattle.std.proofs.lemmas.List.Folds.{length-prefix_len}
use Rattle.std.proofs.lemmas.List.{drop_more}
use Rattle.std.proofs.lemmas.List.Quantifiers.{position-Some}
use Rattle.std.proofs.lemmas.Bool.Decides.{nat_tests}
use Rattle.std.proofs.lemmas.Bool.{cond-true, cond-false, cases_Bool, not-true, true≢false}
use Rattle.std.proofs.lemmas.Grind.{common_steps}
use Rattle.request.specs.Words.{at_gap, is_letter, is_space, onto, words_in}

-- the white space at the front, and the bytes of a word at the front
abbrev pub spaces : List ℕ → ℕ
spaces l = position_or_len is_letter l

abbrev pub letters : List ℕ → ℕ
letters l = prefix_len is_letter l

module _ (c : ℕ) (cs : List ℕ) where
  space_more : is_space c ≡ true → spaces (c ∷ cs) ≡ suc (spaces cs)
  space_more e = ap (λ b. if not (not b) then 1 + spaces cs else 0) e ∙ omega arith

  no_space : is_space c ≡ false → spaces (c ∷ cs) ≡ 0
  no_space e = ap (λ b. if not (not b) then 1 + spaces cs else 0) e

  letter_more : is_space c ≡ false → letters (c ∷ cs) ≡ suc (letters cs)
  letter_more e = ap (λ b. if not b then 1 + letters cs else 0) e ∙ omega arith

  no_letter : is_space c ≡ true → letters (c ∷ cs) ≡ 0
  no_letter e = ap (λ b. if not b then 1 + letters cs else 0) e

-- a word that begins the text ends at the first white space, or with the text
pub word_end : (l : List ℕ) → unwrap_or (position is_space l) (length l) ≡ length (take_while is_letter l)
word_end l = by (nat_lt (letters l) (length l)) refl
  where
    by : (b : Bool) → nat_lt (letters l) (length l) ≡ b → unwrap_or (cond b (Some (letters l)) None) (length l) ≡ length (take_while is_letter l)
    by true e = sym (length-prefix_len is_letter l)
    by false e =
        let none : length l ≤ letters l = grind (arith, nat_tests) in
        omega (arith, length-prefix_len is_letter l, length-take (letters l) l)

-- white space at the front has no word
past_spaces : (l : List ℕ) → words_in (drop (spaces l) l) ≡ words_in l
past_spaces [] = refl
past_spaces (c ∷ cs) =
    ⊎_elim
    (λ e. ap (λ n. words_in (drop n (c ∷ cs))) (space_more c cs e) ∙ past_spaces cs ∙ sym (cond-true _ _ _ e))
    (λ e. ap (λ n. words_in (drop n (c ∷ cs))) (no_space c cs e))
    (cases_Bool (is_space c))

-- nothing but white space has no word
all_spaces : (l : List ℕ) → length l ≤ spaces l → words_in l ≡ []
all_spaces [] h = refl
all_spaces (c ∷ cs) h =
    ⊎_elim
    (λ e. let more = space_more c cs e in cond-true _ _ _ e ∙ all_spaces cs (omega arith))
    (λ e. let none = no_space c cs e in absurd (omega arith))
    (cases_Bool (is_space c))

pub no_word : (l : List ℕ) → position is_letter l ≡ None → words_in l ≡ []
no_word l e = all_spaces l (grind (arith, common_steps))

-- no byte of a word at a gap
gap_none : (l : List ℕ) → at_gap l ≡ true → letters l ≡ 0
gap_none [] e = refl
gap_none (c ∷ cs) e = no_letter c cs e

-- a byte of a word where there is no gap
gap_some : (l : List ℕ) → at_gap l ≡ false → 0 < letters l
gap_some [] e = absurd (true≢false e)
gap_some (c ∷ cs) e = let some = letter_more c cs e in omega arith

-- the first n bytes are the first word
abbrev Cut_at : List ℕ → ℕ → Type 0
Cut_at l n = words_in l ≡ take n l ∷ words_in (drop n l)

-- a byte of a word before a text
module _ (c : ℕ) (cs : List ℕ) (e : is_space c ≡ false) where
  ends : at_gap cs ≡ true → Cut_at (c ∷ cs) (letters (c ∷ cs))
  ends g = subst (Cut_at (c ∷ cs)) (sym (letter_more c cs e ∙ ap suc (gap_none cs g))) (cond-false _ _ _ e ∙ cond-true _ _ _ g)

  goes_on : at_gap cs ≡ false → Cut_at cs (letters cs) → Cut_at (c ∷ cs) (letters (c ∷ cs))
  goes_on g first = subst (Cut_at (c ∷ cs)) (sym (letter_more c cs e)) (cond-false _ _ _ e ∙ cond-false _ _ _ g ∙ ap (onto c) first)

-- bytes of a word at the front are the first word
one_word : (l : List ℕ) → 0 < letters l → Cut_at l (letters l)
one_word [] h = absurd (omega arith)
one_word (c ∷ cs) h =
    ⊎_elim
    (λ e. let none = no_letter c cs e in absurd (omega arith))
    (λ e. ⊎_elim (ends c cs e) (λ g. goes_on c cs e g (one_word cs (gap_some cs g))) (cases_Bool (at_gap cs)))
    (cases_Bool (is_space c))

-- the first word of a text, behind its white space
pub first_word : (l from word rest : List ℕ) (s n : ℕ) → position is_letter l ≡ Some s → from ≡ drop s l → n ≡ length (take_while is_letter from) → word ≡ take n from → rest ≡ drop n from → (words_in l ≡ word ∷ words_in rest) × (length rest < length l)
first_word l from word rest s n found at long front back =
    let is : n ≡ letters from = long ∙ length-prefix_len is_letter from in
    let p = position-Some is_letter l s 0 found in
    let start : s ≡ spaces l = grind (arith, common_steps) in
    let some : 0 < letters from = begins (get_or l s 0) (drop (s + 1) l) from (not-true (is_space (get_or l s 0)) p.1) (at ∙ drop_more l s 0 p.0) in
    let first : words_in from ≡ take n from ∷ words_in (drop n from) = subst (Cut_at from) (sym is) (one_word from some) in
    let behind : words_in from ≡ words_in l = ap words_in (at ∙ ap (λ n. drop n l) start) ∙ past_spaces l in
    let after : length from ≡ length l - s = ap length at ∙ length-drop s l in
    let left : length rest ≡ length from - n = ap length back ∙ length-drop n from in
    (sym behind ∙ first ∙ (λ i. sym front i ∷ words_in (sym back i)), omega arith)
  where
    begins : (c : ℕ) (cs from : List ℕ) → is_space c ≡ false → from ≡ c ∷ cs → 0 < letters from
    begins c cs from e at = let more = letter_more c cs e in let same : letters from ≡ letters (c ∷ cs) = ap letters at in omega arith
