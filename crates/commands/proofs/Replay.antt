-- Replaying calls of links, line by line.
use Rattle.std.proofs.Common.{◌≡◌, ℕ, zero, suc, ◌-◌, ◌<◌, ◌≤◌, Bool, false, List, [], ◌∷◌, length, take, drop, get_or, take_all, Option, None, Some, IfSome, Result, Err, refl, sym, subst, ap, ◌∙◌, arith}
use Rattle.std.proofs.lemmas.Bool.Decides.{nat_tests}
use Rattle.std.specs.Prelude.{nat_le, nat_lt, ◌==◌, codes}
use Rattle.std.specs.Io.KnownBytes.{Appends}
use Rattle.tile.specs.declared.fault.Fault.{Fault}
use Rattle.tile.specs.Answers.{answered}
use Rattle.tile.specs.Texts.{fault_text}
use Rattle.link.specs.Calls.{clear_fault, send_fault}
use Rattle.link.specs.Model.{Empty, Holds, put}
use Rattle.request.specs.declared.links.LinkCall.{LinkCall}
use Rattle.request.specs.declared.links.LinkCall.TheVariants.{Cell, Line, Trim, Send, Read, Clear, Waiting, Area}
use Rattle.console.specs.Reports.{line_of}
use Rattle.commands.specs.Replay.{State, Step, answer_line, layered, no_call, on_link, step}
use Rattle.commands.specs.Steps.{Calls, outcome}

-- an accepted call tells its answer, a refused one its fault
pub refused : {A : Type 0} (o : Option Fault) (a : A) (f : Fault) (text : List ℕ) → answered o a ≡ Err f → answer_line o text ≡ line_of (fault_text f)
refused None a f text e = let z : ◌≡◌ {A = ℕ} 0 1 = cc in absurd (omega arith)
refused (Some g) a f text e = let same : g ≡ f = cc in ap (λ x. line_of (fault_text x)) same

pub done : {A : Type 0} (o : Option Fault) (a : A) (r : Result A Fault) (text : List ℕ) (P : List ℕ → Type 0) → r ≡ answered o a → IfSome (outcome (λ _. Some text) r) P → P (answer_line o text)
done o a r text P e p = by o (subst (λ x. IfSome (outcome (λ _. Some text) x) P) e p)
  where
    by : (o : Option Fault) → IfSome (outcome (λ _. Some text) (answered o a)) P → P (answer_line o text)
    by None q = q
    by (Some f) q = q

-- whether a call takes so many numbers
abbrev pub takes : LinkCall → ℕ → Bool
takes Cell n = n == 2
takes Line n = n == 2
takes Trim n = n == 0
takes Send n = nat_le 2 n
takes Read n = n == 2
takes Clear n = n == 2
takes Waiting n = n == 2
takes Area n = n == 1

-- what holds of other counts of numbers
not_none : (P : List ℕ → Type 0) (ns : List ℕ) → (length ns == 0) ≡ false → ((x : ℕ) (xs : List ℕ) → P (x ∷ xs)) → P ns
not_none P [] e p = let z : 1 ≤ 0 = grind (arith, nat_tests) in absurd (omega arith)
not_none P (x ∷ xs) e p = p x xs

not_one : (P : List ℕ → Type 0) (ns : List ℕ) → (length ns == 1) ≡ false → P [] → ((x y : ℕ) (xs : List ℕ) → P (x ∷ y ∷ xs)) → P ns
not_one P [] e p q = p
not_one P (x ∷ []) e p q = let z : 1 ≤ 0 = grind (arith, nat_tests) in absurd (omega arith)
not_one P (x ∷ y ∷ xs) e p q = q x y xs

not_two : (P : List ℕ → Type 0) (ns : List ℕ) → (length ns == 2) ≡ false → P [] → ((x : ℕ) → P (x ∷ [])) → ((x y z : ℕ) (xs : List ℕ) → P (x ∷ y ∷ z ∷ xs)) → P ns
not_two P [] e p q r = p
not_two P (x ∷ []) e p q r = q x
not_two P (x ∷ y ∷ []) e p q r = let z : 1 ≤ 0 = grind (arith, nat_tests) in absurd (omega arith)
not_two P (x ∷ y ∷ z ∷ xs) e p q r = r x y z xs

fewer : (P : List ℕ → Type 0) (ns : List ℕ) → nat_le 2 (length ns) ≡ false → P [] → ((x : ℕ) → P (x ∷ [])) → P ns
fewer P [] e p q = p
fewer P (x ∷ []) e p q = q x
fewer P (x ∷ y ∷ xs) e p q = let z : 1 ≤ 0 = grind (arith, nat_tests) in absurd (omega arith)

-- a call with another count of numbers is told so
pub unasked : (s : State) (c : LinkCall) (ns : List ℕ) → takes c (length ns) ≡ false → step s (Some (c, ns)) ≡ (line_of no_call, s)
unasked s Cell ns e = not_two (λ l. step s (Some (Cell, l)) ≡ (line_of no_call, s)) ns e refl (λ x. refl) (λ x y z xs. refl)
unasked s Line ns e = not_two (λ l. step s (Some (Line, l)) ≡ (line_of no_call, s)) ns e refl (λ x. refl) (λ x y z xs. refl)
unasked s Trim ns e = not_none (λ l. step s (Some (Trim, l)) ≡ (line_of no_call, s)) ns e (λ x xs. refl)
unasked s Send ns e = fewer (λ l. step s (Some (Send, l)) ≡ (line_of no_call, s)) ns e refl (λ x. refl)
unasked s Read ns e = not_two (λ l. step s (Some (Read, l)) ≡ (line_of no_call, s)) ns e refl (λ x. refl) (λ x y z xs. refl)
unasked s Clear ns e = not_two (λ l. step s (Some (Clear, l)) ≡ (line_of no_call, s)) ns e refl (λ x. refl) (λ x y z xs. refl)
unasked s Waiting ns e = not_two (λ l. step s (Some (Waiting, l)) ≡ (line_of no_call, s)) ns e refl (λ x. refl) (λ x y z xs. refl)
unasked s Area ns e = not_one (λ l. step s (Some (Area, l)) ≡ (line_of no_call, s)) ns e refl (λ x y xs. refl)

pub none_is : (P : List ℕ → Type 0) (ns : List ℕ) → P [] → length ns < 1 → P ns
none_is P [] p h = p
none_is P (x ∷ ns) p h = absurd (omega arith)

-- a line whose step is known is answered
pub steps : (s s' : State) (c k : LinkCall) (ns items text : List ℕ) (a b : Option (List ℕ)) → c ≡ k → ns ≡ items → step s (Some (k, ns)) ≡ (text, s') → Appends a b text → Calls s (Some (c, items)) s' a b
steps s s' c k ns items text a b call same e w =
    let from : step s (Some (c, items)) ≡ (text, s') = ap (λ (x : LinkCall). step s (Some (x, items))) call ∙ ap (λ (l : List ℕ). step s (Some (k, l))) (sym same) ∙ e in
    (subst (Appends a b) (sym (ap (λ (x : Step). x.0) from)) w, ap (λ (x : Step). x.1) from)

pub send_is : (s : State) (ns : List ℕ) → 2 ≤ length ns →
    let from = get_or ns 0 0 in
    let to = get_or ns 1 0 in
    let words = take (length ns - 2) (drop 2 ns) in
    step s (Some (Send, ns)) ≡ on_link s (send_fault s.link from to (length words)) (codes "ok") (put s.link from to (Holds words))
send_is s [] h = absurd (omega arith)
send_is s (x ∷ []) h = absurd (omega arith)
send_is s (x ∷ y ∷ ws) h =
    ap (λ (l : List ℕ). on_link s (send_fault s.link x y (length l)) (codes "ok") (put s.link x y (Holds l))) (sym (take_all (length (x ∷ y ∷ ws) - 2) ws (omega arith)))

pub clear_is : (s : State) (ns : List ℕ) → 2 ≤ length ns → length ns < 3 →
    let from = get_or ns 0 0 in
    let to = get_or ns 1 0 in
    step s (Some (Clear, ns)) ≡ on_link s (clear_fault s.link from to) (codes "ok") (put s.link from to Empty)
clear_is s [] h k = absurd (omega arith)
clear_is s (x ∷ []) h k = absurd (omega arith)
clear_is s (x ∷ y ∷ []) h k = refl
clear_is s (x ∷ y ∷ z ∷ ws) h k = absurd (omega arith)

-- no layer goes on a link that has all that it takes
pub full : (s : State) (layers : ℕ) → nat_lt 0 layers ≡ false → layered s layers ≡ (line_of (codes "no more than four layers"), s)
full s zero e = refl
full s (suc layers) e = let z : suc layers ≤ 0 = grind (arith, nat_tests) in absurd (omega arith)
