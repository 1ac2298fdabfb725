use Rattle.std.proofs.Common.{◌≡◌, ◌+◌, ◌*◌, ◌<◌, ◌≤◌, ◌++◌, length, take, drop, sym, refl, ap, ◌∙◌, ap₂, add-mul, arith, rules}
use Rattle.std.proofs.lemmas.List.{length-take-le, take_all}
use Rattle.tile.specs.Rows.{row_words}
use Rattle.tile.proofs.RowLaws.{too_short, all_fit, length-words, words_more, written-more}
use Rattle.tile.proofs.rows.write_row.Goals as goal

pub returns-then-out-width : goal.returns-then-out-width
returns-then-out-width g c =
    let m = g.P.Pixel.model in
    let laws = g.met.P.Pixel.lawful in
    let w = c.width-width.result in
    let some : 0 < w = omega (arith, laws.some_words, c.width-width.ensures) in
    let short = too_short (length c.args.row.now) w (length c.args.out.now) c.if-out-width.true some in
    let all = length-words m laws c.args.row.now ∙ ap (λ n. length c.args.row.now * n) (sym c.width-width.ensures) in
    (omega arith, refl, c.unranked.ensures)

pub loop-i-preserved : goal.loop-i-preserved
loop-i-preserved g c =
    let m = g.P.Pixel.model in
    let laws = g.met.P.Pixel.lawful in
    let row = c.args.row.now in
    let i = c.loop-i.i in
    let w = c.width-width.result in
    let within : i ≤ length row = omega arith in
    let front = length-words m laws (take i row) ∙ ap₂ ◌*◌ (length-take-le i row within) (sym c.width-width.ensures) in
    let wide = laws.words_length c.from_record.result ∙ sym c.width-width.ensures in
    let more : row_words m (take (i + 1) row) ≡ row_words m (take i row) ++ m.words c.from_record.result = search (rules, words_more m laws row i) in
    let next : i * w + w ≡ (i + 1) * w = omega (arith, add-mul i 1 w) in
    written-more (row_words m (take i row)) (m.words c.from_record.result) c.args.out.now c.loop-i.out c.write.new.out (i * w) w front wide c.loop-i.invariant c.in_ok-write.ensures.1
    ∙ ap₂ (λ a n. a ++ drop n c.args.out.now) (sym more) next

pub returns : goal.returns
returns g c =
    let m = g.P.Pixel.model in
    let laws = g.met.P.Pixel.lawful in
    let row = c.args.row.now in
    let i = c.loop-i.i in
    let w = c.width-width.result in
    let all : i ≡ length row = omega arith in
    let wide : i * w ≡ length (row_words m row) = ap₂ ◌*◌ all c.width-width.ensures ∙ sym (length-words m laws row) in
    let whole = take_all i row c.loop-i-test.false in
    let room : i * w ≤ length c.args.out.now = omega (arith, all_fit i w (length c.args.out.now) (omega (arith, all))) in
    (omega arith, c.loop-i.invariant ∙ ap₂ (λ rs n. row_words m rs ++ drop n c.args.out.now) whole wide)
