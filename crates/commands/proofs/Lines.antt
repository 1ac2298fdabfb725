-- Answering the lines of a text, line by line.
use Rattle.std.specs.Prelude.{◌≡◌, ℕ, ◌<◌, List, [], ◌++◌, length, Option, None, Some, IfSome, Result, Ok, IfOk}
use Rattle.std.proofs.Common.{sym, ap, subst, ◌∙◌, append_assoc, append-nil}
use Rattle.std.specs.Io.BufRead.{first_piece, drop_through, DropsThrough}
use Rattle.std.specs.Io.KnownBytes.{Appends, IsAtEnd, Keeps}
use Rattle.commands.specs.Lines.{Answered, Answered.none, Answered.more, Answers}

pub appends_none : (o : Option (List ℕ)) → Appends o o []
appends_none None = tt
appends_none (Some xs) = sym (append-nil xs)

pub appends_both : (a b c : Option (List ℕ)) (x y : List ℕ) → Appends a b x → Appends b c y → Appends a c (x ++ y)
appends_both None b c x y p q = tt
appends_both (Some xs) None c x y p q = absurd p
appends_both (Some xs) (Some ys) None x y p q = absurd q
appends_both (Some xs) (Some ys) (Some zs) x y p q = q ∙ ap (λ (l : List ℕ). l ++ y) p ∙ append_assoc xs x y

-- what is written stays when it is written out
pub flushed : (a b c : Option (List ℕ)) (x : List ℕ) → Appends a b x → Keeps b c → Appends a c x
flushed None b c x p k = tt
flushed (Some xs) None c x p k = absurd p
flushed (Some xs) (Some ys) None x p k = absurd k
flushed (Some xs) (Some ys) (Some zs) x p k = k ∙ p

-- what holds of an answer that is accepted
pub of_ok : {X E : Type 0} (P : X → Type 0) {r : Result X E} {x : X} → r ≡ Ok x → IfOk r P → P x
of_ok P e p = subst (λ o. IfOk o P) e p

module _ (A : List ℕ → List ℕ → Type 0) where
  -- some lines are answered, and with what is answered to the rest all are
  abbrev pub Going : Option (List ℕ) → Option (List ℕ) → Option (List ℕ) → Option (List ℕ) → Type 0
  Going input before now known =
      IfSome input
      (λ text. (done : List ℕ) × (left : List ℕ) × (known ≡ Some left) × Appends before now done
      × ((out : List ℕ) → Answered A left out → Answered A text (done ++ out)))

  pub begins : (input before known : Option (List ℕ)) → known ≡ input → Going input before before known
  begins None before known e = tt
  begins (Some text) before known e = ([], text, e, appends_none before, λ out a. a)

  pub goes :
      (input before now now' known known' : Option (List ℕ)) (byte : ℕ) (piece answer : List ℕ)
      → Going input before now known
      → byte ≡ 10
      → IfSome known (λ xs. (0 < length xs) × (piece ≡ first_piece byte xs))
      → DropsThrough known known' byte
      → A piece answer
      → Appends now now' answer
      → Going input before now' known'
  goes None before now now' known known' byte piece answer g b first drops a w = tt
  goes (Some text) before now now' known known' byte piece answer (done, left, e, app, go) b first drops a w =
      let f : (0 < length left) × (piece ≡ first_piece 10 left) =
      subst (λ (n : ℕ). (0 < length left) × (piece ≡ first_piece n left)) b
      (subst (λ (o : Option (List ℕ)). IfSome o (λ xs. (0 < length xs) × (piece ≡ first_piece byte xs))) e first) in
      let d : known' ≡ Some (drop_through 10 left) =
      subst (λ (n : ℕ). known' ≡ Some (drop_through n left)) b (subst (λ (o : Option (List ℕ)). DropsThrough o known' byte) e drops) in (
        done ++ answer,
        drop_through 10 left,
        d,
        appends_both before now now' done answer app w,
        λ out rest. subst (Answered A text) (sym (append_assoc done answer out)) (go (answer ++ out) (more f.0 (subst (λ (p : List ℕ). A p answer) f.1 a) rest)),
      )

  pub ends : (input before now known : Option (List ℕ)) → Going input before now known → IsAtEnd known → Answers A input before now
  ends None before now known g at = tt
  ends (Some text) before now known (done, left, e, app, go) at =
      let z : left ≡ [] = subst IsAtEnd e at in
      (done, subst (Answered A text) (append-nil done) (go [] (subst (λ (l : List ℕ). Answered A l []) (sym z) none)), app)
