use Rattle.std.proofs.Common.{arith, ℕ, Bool, List, [], ◌∷◌, ◌++◌, ◌≡◌, map, string_bytes, take, take_all, ap, append-nil, append_assoc, sym, subst, ◌∙◌, refl}
use Rattle.std.specs.Prelude.{if◌then◌else◌}
use Rattle.std.specs.Str.{bytes_eq}
use Rattle.commands.specs.declared.form.Form.{Form}
use Rattle.commands.specs.declared.form.Form.TheVariants.{Picture}
use Rattle.commands.specs.Plans.{PlanReply, form_in, line_in, svg}
use Rattle.commands.proofs.Lines.{flushed}
use Rattle.commands.proofs.Telling.{form_more, line_more, words_more}
use Rattle.commands.proofs.plans.plan_words.Goals as goal
use Rattle.commands.proofs.plans.plan_words.Goals.{then-eq, else-eq+in_ok-push_str+in_ok-push}

pub loop-word-init : goal.loop-word-init
loop-word-init g c = (refl, c.new-line.ensures.bytes)

pub loop-word-preserved : goal.loop-word-preserved
loop-word-preserved g c =
    let i = c.loop-word.word-index in
    let ws : List (List ℕ) = map string_bytes (take i c.args.words.now) in
    let word : List ℕ = string_bytes c.word-item.result in
    let same : c.eq.result ≡ bytes_eq word svg = c.eq.ensures ∙ ap (λ (l : List ℕ). bytes_eq l svg) c.as_str.ensures.value in
    let more = words_more c.args.words.now i c.word-item.result c.loop-word-test.true ∙ ap (λ x. ws ++ string_bytes x ∷ []) (sym c.word-item.is) in
    let form = ap form_in more ∙ form_more ws word in
    let line = ap line_in more ∙ line_more ws word in
    elim c.if-eq.branch [
      | then-eq w ↦
          let yes = sym same ∙ w.if-eq.true in (
            w.form-is ∙ sym (form ∙ ap (λ (b : Bool). if b then Picture else form_in ws) yes),
            ap string_bytes w.line-is ∙ c.loop-word.invariant.1
                ∙ sym (line ∙ ap (λ (b : Bool). line_in ws ++ (if b then [] else word ++ 32 ∷ [])) yes ∙ append-nil (line_in ws)),
          )
      | else-eq+in_ok-push_str+in_ok-push w ↦
          let no = sym same ∙ w.if-eq.false in (
            w.form-is ∙ c.loop-word.invariant.0 ∙ sym (form ∙ ap (λ (b : Bool). if b then Picture else form_in ws) no),
            ap string_bytes w.line-is ∙ w.in_ok-push.ensures.bytes
                ∙ ap (λ (l : List ℕ). string_bytes w.push_str.new.self ++ l) (w.in_ok-push.ensures.ascii (omega arith))
                ∙ ap (λ (l : List ℕ). l ++ 32 ∷ []) (w.in_ok-push_str.ensures.bytes ∙ ap (λ (l : List ℕ). string_bytes c.loop-word.line ++ l) w.as_str-else-eq.ensures.value)
                ∙ append_assoc (string_bytes c.loop-word.line) word (32 ∷ [])
                ∙ ap (λ (l : List ℕ). l ++ (word ++ 32 ∷ [])) c.loop-word.invariant.1
                ∙ sym (line ∙ ap (λ (b : Bool). line_in ws ++ (if b then [] else word ++ 32 ∷ [])) no),
          )
    ]

pub returns : goal.returns
returns g c =
    let all = ap (map string_bytes) (take_all c.loop-word.word-index c.args.words.now c.loop-word-test.false) in
    let reply = c.in_ok-answer.ensures in (
      reply.0,
      subst (λ (f : Form). PlanReply f (line_in (map string_bytes c.args.words.now)) reply.0) (c.loop-word.invariant.0 ∙ ap form_in all)
          (subst (λ (l : List ℕ). PlanReply c.loop-word.form l reply.0) (c.as_bytes.ensures.value ∙ c.loop-word.invariant.1 ∙ ap line_in all) reply.1),
      flushed _ _ _ _ reply.2 c.flush.ensures.bytes,
    )
