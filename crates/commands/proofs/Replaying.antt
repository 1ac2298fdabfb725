-- A replay on its way, line by line.
use Rattle.std.specs.Prelude.{◌≡◌, ℕ, ◌+◌, ◌-◌, ◌*◌, ◌<◌, ◌≤◌, min, Bool, true, false, cond, ◌&&◌, if◌then◌else◌, nat_le, nat_lt, suc, Result, IfOk, List, [], ◌++◌, length, Option, None, Some, IfSome}
use Rattle.std.proofs.Common.{refl, sym, ap, ap₂, arith, subst, ◌∙◌, append_assoc, append-nil}
use Rattle.std.specs.Io.BufRead.{first_piece, drop_through, DropsThrough}
use Rattle.std.specs.Io.KnownBytes.{IsAtEnd}
use Rattle.std.proofs.lemmas.Bool.Decides.{nat_tests}
use Rattle.std.proofs.lemmas.Nat.{mul-le}
use Rattle.std.proofs.lemmas.Result.{IfOk-weaker}
use Rattle.link.specs.Model.{vacant}
use Rattle.boxes.specs.Lines.{line_words}
use Rattle.boxes.specs.Sizes.{in_limits, started}
use Rattle.request.specs.declared.links.LinkCall.{LinkCall}
use Rattle.request.specs.Links.{link_asked}
use Rattle.request.specs.Words.{words_in}
use Rattle.commands.specs.Replay.{State, asked, fresh, step, Replayed, Replayed.none, Replayed.more, Replays}
use Rattle.commands.specs.declared.links.Next.{Next}
use Rattle.commands.specs.Steps.{Awaits, Calls, Comes, Goes, Once, Reaches}
use Rattle.commands.proofs.Lines.{appends_none, appends_both}

pub begins : (s : State) (input before : Option (List ℕ)) → Goes s s input input before before
begins s None before = tt
begins s (Some text) before = ([], text, refl, appends_none before, λ out r. r)

-- a call is what a line asks for
pub calls_line : (s s' t : State) (q : Option (LinkCall × List ℕ)) (line piece : List ℕ) (a b : Option (List ℕ)) → q ≡ link_asked (words_in line) → line ≡ piece → s' ≡ t → Calls s q s' a b → Calls s (link_asked (words_in piece)) t a b
calls_line s s' t q line piece a b e same after call =
    subst (λ (l : List ℕ). Calls s (link_asked (words_in l)) t a b) same
    (subst (λ (x : Option (LinkCall × List ℕ)). Calls s x t a b) e (subst (λ (u : State). Calls s q u a b) after call))

-- a line that asks for nothing to be made is answered, and one that does once that is told
pub comes_none : (s : State) (q : Option (LinkCall × List ℕ)) (s' : State) (next : Option Next) (a b : Option (List ℕ)) → next ≡ None → Comes s q s' next a b → Calls s q s' a b
comes_none s q s' next a b e = subst (λ (o : Option Next). Comes s q s' o a b) e

pub comes_some : (s : State) (q : Option (LinkCall × List ℕ)) (s' : State) (next : Option Next) (n : Next) (a b : Option (List ℕ)) → next ≡ Some n → Comes s q s' next a b → Comes s q s' (Some n) a b
comes_some s q s' next n a b e = subst (λ (o : Option Next). Comes s q s' o a b) e

-- one more line is answered
pub goes :
    (s s' s'' : State) (input left left' before now now' : Option (List ℕ)) (byte : ℕ) (piece : List ℕ)
    → Goes s s' input left before now
    → byte ≡ 10
    → IfSome left (λ xs. (0 < length xs) × (piece ≡ first_piece byte xs))
    → DropsThrough left left' byte
    → Calls s' (link_asked (words_in piece)) s'' now now'
    → Goes s s'' input left' before now'
goes s s' s'' None left left' before now now' byte piece g b first drops call = tt
goes s s' s'' (Some text) left left' before now now' byte piece (done, rest, e, app, go) b first drops call =
    let f : (0 < length rest) × (piece ≡ first_piece 10 rest) =
    subst (λ (n : ℕ). (0 < length rest) × (piece ≡ first_piece n rest)) b
    (subst (λ (o : Option (List ℕ)). IfSome o (λ xs. (0 < length xs) × (piece ≡ first_piece byte xs))) e first) in
    let d : left' ≡ Some (drop_through 10 rest) =
    subst (λ (n : ℕ). left' ≡ Some (drop_through n rest)) b (subst (λ (o : Option (List ℕ)). DropsThrough o left' byte) e drops) in
    let c : Calls s' (asked rest) s'' now now' = subst (λ (l : List ℕ). Calls s' (link_asked (words_in l)) s'' now now') f.1 call in
    let answer = (step s' (asked rest)).0 in (
      done ++ answer,
      drop_through 10 rest,
      d,
      appends_both before now now' done answer app c.0,
      λ out r. subst (Replayed s text) (sym (append_assoc done answer out)) (go (answer ++ out) (more f.0 (subst (λ (t : State). Replayed t (drop_through 10 rest) out) (sym c.1) r))),
    )

-- some lines are answered, and then some more
pub goes_both :
    (s s' s'' : State) (input left left' before now now' : Option (List ℕ))
    → Goes s s' input left before now
    → Goes s' s'' left left' now now'
    → Goes s s'' input left' before now'
goes_both s s' s'' None left left' before now now' g h = tt
goes_both s s' s'' (Some text) left left' before now now' (done, rest, e, app, go) h =
    let k = subst (λ (o : Option (List ℕ)). Goes s' s'' o left' now now') e h in (
      done ++ k.0,
      k.1,
      k.2,
      appends_both before now now' done k.0 app k.3,
      λ out r. subst (Replayed s text) (sym (append_assoc done k.0 out)) (go (k.0 ++ out) (k.4 out r)),
    )

-- all lines are answered once none is left
pub ends : (s s' : State) (input left before now : Option (List ℕ)) → Goes s s' input left before now → IsAtEnd left → Replays s input before now
ends s s' None left before now g at = tt
ends s s' (Some text) left before now (done, rest, e, app, go) at =
    let z : rest ≡ [] = subst IsAtEnd e at in
    (done, subst (Replayed s text) (append-nil done) (go [] (subst (λ (l : List ℕ). Replayed s' l []) (sym z) none)), app)

pub replays_both :
    (s s' : State) (input left before now now' : Option (List ℕ))
    → Goes s s' input left before now
    → Replays s' left now now'
    → Replays s input before now'
replays_both s s' None left before now now' g h = tt
replays_both s s' (Some text) left before now now' (done, rest, e, app, go) h =
    let k = subst (λ (o : Option (List ℕ)). Replays s' o now now') e h in
    (done ++ k.0, go k.0 k.1, appends_both before now now' done k.0 app k.2)

pub reaches :
    {N : Type 0} (makes : N → State) (s s' : State) (next : Option N) (input left left' before now now' : Option (List ℕ))
    → Goes s s' input left before now
    → Reaches makes s' next left left' now now'
    → Reaches makes s next input left' before now'
reaches makes s s' None input left left' before now now' g h = replays_both s s' input left before now now' g h
reaches makes s s' (Some n) input left left' before now now' g h = goes_both s s' (makes n) input left left' before now now' g h

-- what follows from what holds, now or once what is to be made is told
once : {N : Type 0} (next : Option N) (P Q : Option (List ℕ) → Type 0) (after : Option (List ℕ)) → ((now : Option (List ℕ)) → P now → Q now) → Once next P after → Once next Q after
once None P Q after f h = f after h
once (Some next) P Q after f h = λ now told. f now (h now told)

pub awaits :
    {N : Type 0} (makes : N → State) (s s' : State) (next : Option N) (input left left' before now now' : Option (List ℕ))
    → Goes s s' input left before now
    → Awaits makes s' next left left' now now'
    → Awaits makes s next input left' before now'
awaits makes s s' next input left left' before now now' g =
    once next (Reaches makes s' next left left' now) (Reaches makes s next input left' before) now'
    (λ told. reaches makes s s' next input left left' before now told g)

-- what is next, by another name
pub awaits_next :
    {N : Type 0} (makes : N → State) (s : State) (next next' : Option N) (input left before after : Option (List ℕ))
    → next ≡ next'
    → Awaits makes s next input left before after
    → Awaits makes s next' input left before after
awaits_next {N = N} makes s next next' input left before after e = subst (λ (n : Option N). Awaits makes s n input left before after) e

-- what is reached from a state, by another name for it
pub awaits_from :
    {N E : Type 0} (makes : N → State) (s t : State) (r : Result (Option N) E) (input left before after : Option (List ℕ))
    → s ≡ t
    → IfOk r (λ next. Awaits makes s next input left before after)
    → IfOk r (λ next. Awaits makes t next input left before after)
awaits_from makes s t r input left before after e = subst (λ (u : State). IfOk r (λ next. Awaits makes u next input left before after)) e

pub awaits_ok :
    {N E : Type 0} (makes : N → State) (s s' : State) (r : Result (Option N) E) (input left left' before now now' : Option (List ℕ))
    → Goes s s' input left before now
    → IfOk r (λ next. Awaits makes s' next left left' now now')
    → IfOk r (λ next. Awaits makes s next input left' before now')
awaits_ok makes s s' r input left left' before now now' g =
    IfOk-weaker r (λ next. Awaits makes s' next left left' now now') (λ next. Awaits makes s next input left' before now')
    (λ next. awaits makes s s' next input left left' before now now' g)

-- whether a link that takes one more layer takes a layer
pub takes_more : (n : ℕ) → true ≡ nat_lt 0 (suc n)
takes_more n = grind (arith, nat_tests)

-- the boxes of a line link fit into the memory that is brought
pub line_fresh : (ranks longest brought : ℕ) → brought ≡ min ranks 32 * min ranks 32 * (min longest 5200 + 2) → started ranks longest (line_words ranks longest) brought ≡ fresh ranks longest
line_fresh ranks longest brought e = by (in_limits ranks longest) refl
  where
    by : (b : Bool) → in_limits ranks longest ≡ b → cond (b && nat_le (line_words ranks longest) brought) (vacant ranks longest) (vacant 0 0) ≡ (if b then vacant ranks longest else vacant 0 0)
    by false l = refl
    by true l =
        let few : ranks ≤ 32 = grind (arith, nat_tests) in
        let short : longest ≤ 5200 = grind (arith, nat_tests) in
        let same : brought ≡ ranks * ranks * (longest + 2) = e ∙ ap₂ (λ (r k : ℕ). r * r * (k + 2)) (omega arith) (omega arith) in
        let boxes : ranks * (ranks - 1) ≤ ranks * ranks = mul-le ranks (ranks - 1) ranks ranks (omega arith) (omega arith) in
        let words : line_words ranks longest ≤ ranks * ranks * (longest + 2) = mul-le (ranks * (ranks - 1)) (longest + 2) (ranks * ranks) (longest + 2) boxes (omega arith) in
        let fits : nat_le (line_words ranks longest) brought ≡ true = rw same (grind (arith, nat_tests)) in
        ap (λ (b : Bool). cond b (vacant ranks longest) (vacant 0 0)) fits

-- a bound on the links that are still made: none where none is asked for
abbrev pub turns : {N : Type 0} → Option N → ℕ → ℕ
turns None n = 0
turns (Some next) n = suc n
