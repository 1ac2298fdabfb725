use Rattle.std.proofs.Common.{◌≡◌, ℕ, ◌-◌, ◌*◌, Option, None, Some, List, [], ◌∷◌, MatchOption, length, length-drop, slice_get, drop, sym, ap, ◌∙◌, arith}
use Rattle.std.proofs.lemmas.List.{take_all}
use Rattle.std.proofs.lemmas.Option.{slice_get_past}
use Rattle.dump.specs.Bytes.{words_in}
use Rattle.dump.proofs.Spelled.{length_words_in, word_leads}
use Rattle.dump.proofs.words.body_word.Goals as goal

-- what came first is what leads the list
leads : (r : Option ℕ) (ws vs : List ℕ) → MatchOption r ((ws ≡ []) × (vs ≡ [])) (λ x. ws ≡ x ∷ vs) → r ≡ slice_get ws 0
leads None ws vs h = sym (ap (λ l. slice_get l 0) h.0)
leads (Some x) ws vs h = sym (ap (λ l. slice_get l 0) h)

pub returns-then-index-body : goal.returns-then-index-body
returns-then-index-body c = let long = length_words_in c.args.body.now in sym (slice_get_past (words_in c.args.body.now) c.args.index (omega arith))

pub returns : goal.returns
returns c =
    let body = c.args.body.now in
    let at = 4 * c.args.index in
    let all = take_all (length body - at) (drop at body) (omega (arith, length-drop at body)) in
    leads c.next.result _ _ c.next.ensures.steps ∙ ap (λ ws. slice_get ws 0) (c.body_words.ensures ∙ ap words_in all) ∙ sym (word_leads body c.args.index)
