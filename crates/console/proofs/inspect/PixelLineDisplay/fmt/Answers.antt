use Rattle.std.proofs.Common.{rules, ◌≡◌, ◌++◌, [], ◌∷◌, decimal, sym, refl, ap, ◌∙◌, append_assoc}
use Rattle.dump.specs.Bytes.{words_in, words_left}
use Rattle.std.proofs.lemmas.List.{append-nil, flat_map_more}
use Rattle.std.proofs.Output.{has_written_append, has_written_of_eq}
use Rattle.console.proofs.inspect.PixelLineDisplay.fmt.Goals as goal

pub loop-word-preserved : goal.loop-word-preserved
loop-word-preserved g c =
    record {
      words = c.loop-word.invariant.words ∙ ap (λ l. c.loop-word.yielded ++ l) c.in-Some.ensures.steps ∙ sym (append_assoc c.loop-word.yielded (c.in-Some.word ∷ []) _);
      written = λ p. has_written_of_eq _ _ _ _ _ (flat_map_more (λ w. 32 ∷ decimal w) [] c.loop-word.yielded c.in-Some.word) (has_written_append _ _ _ _ _ _ (c.loop-word.invariant.written p) (search rules));
    }

pub returns-clause-writes : goal.returns-clause-writes
returns-clause-writes g c =
    λ p ok.
    let first = c.in_ok-write.ensures.writes p refl in
    let words = c.loop-word.invariant.written first.plain in
    let last = c.writeln.ensures.writes words.plain ok in
    let given = ap words_left c.into_iter-word-iterator.ensures.into_iter_gives ∙ c.body_words-word-items.ensures in
    let all : c.loop-word.yielded ≡ words_in c.args.self.now.0.body.now = sym (append-nil _) ∙ ap (λ l. c.loop-word.yielded ++ l) (sym c.in-None.ensures.steps.0) ∙ sym c.loop-word.invariant.words ∙ given in
    has_written_of_eq _ _ _ _ _ (rw (← c.if-is_blank.ensures, ← all) refl) (has_written_append _ _ _ _ _ _ first (has_written_append _ _ _ _ _ _ words last))
