use Rattle.std.proofs.Common.{◌≡◌, ◌%◌, Bool, is_some, length, sym, ap, subst, ◌∙◌, rules}
use Rattle.std.proofs.lemmas.Bool.{ne_eqb}
use Rattle.std.proofs.lemmas.Iterator.Search.{all_from_yields_List}
use Rattle.std.specs.List.{list_all}
use Rattle.tile.specs.Rows.{AreRow}
use Rattle.tile.proofs.RowLaws.{yields_parts, are_row, not_even, row_parts}
use Rattle.tile.proofs.rows.lawful_words.Goals as goal

pub returns-then-words-width-eq0 : goal.returns-then-words-width-eq0
returns-then-words-width-eq0 g c =
    let m = g.P.Pixel.model in
    let laws = g.met.P.Pixel.lawful in
    let ws = c.args.words.now in
    let s = c.chunks_exact.result in
    let all : c.all.result ≡ list_all (λ part. is_some (m.reads part)) (row_parts m laws ws) =
    all_from_yields_List (λ part. is_some (m.reads part)) _ _ _ c.all.ensures.ran
    (yields_parts m laws s ws c.chunks_exact.ensures.rest (c.chunks_exact.ensures.size ∙ c.width-width.ensures))
    (λ x b q k. search rules) in
    subst (λ (b : Bool). AreRow m ws b) (sym all)
    (are_row m laws ws (ap (λ n. length ws % n) (sym c.width-width.ensures) ∙ c.if-words-width-eq0.true))

pub returns-else-words-width-eq0 : goal.returns-else-words-width-eq0
returns-else-words-width-eq0 g c =
    let m = g.P.Pixel.model in
    let ws = c.args.words.now in
    subst (λ (b : Bool). AreRow m ws b) (sym (ne_eqb _ _ c.if-words-width-eq0.false))
    (not_even m g.met.P.Pixel.lawful ws (λ e. c.if-words-width-eq0.false (ap (λ n. length ws % n) c.width-width.ensures ∙ e)))
