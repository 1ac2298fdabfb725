use borrow.Author.Rules.{scaled_Fits}
use Rattle.std.proofs.Common.{◌≡◌, ℕ, ◌+◌, ◌<◌, ◌++◌, [], ◌∷◌, length, get_or, take, drop, set, Some, None, sym, refl, ap, ◌∙◌, arith, rules}
use Rattle.std.proofs.lemmas.List.{map-set, length-map, length-append}
use lib.Lanes.{zip2}
use Rattle.tile.specs.Rows.{picture}
use Rattle.tile.proofs.RowLaws.{joined_row, zipped-more, zipped-all, picture-read, read-part, numbered, part-turn, part-end, row_long}
use Rattle.tile.proofs.rows.join_words.Given as given
use Rattle.tile.proofs.rows.join_words.Goals as goal

pub loop-i-init : goal.loop-i-init
loop-i-init g c =
    let m = g.P.Pixel.model in
    let laws = g.met.P.Pixel.lawful in
    let begins = c.into_iter-i-iterator.ensures.into_iter_gives in
    let items = c.enumerate-i-items.ensures in
    let cut = c.chunks_exact.ensures in
    record {
      goes = search rules;
      ends = search rules;
      parts = numbered m laws c.into_iter-i-iterator.result c.enumerate-i-items.result c.chunks_exact.result c.args.words.now c.width.result begins items.source items.count cut.rest cut.size c.width.ensures;
      count = row_long m laws (length c.args.front.now) c.args.words.now (sym c.is_row.ensures ∙ c.if-not-is_row.false);
      joined = λ ps e n. refl;
    }

within : (g : given.Over) (c : goal.In-Some-read g) → c.in-Some.i < length c.loop-i.front
within g c =
    let turn = part-turn g.P.Pixel.model g.met.P.Pixel.lawful c.loop-i.invariant.parts c.loop-i.yielded c.loop-i.i-iterator c.next.new.self c.next.result c.loop-i.yielded_by c.in-Some.i c.in-Some.pixel c.in-Some.is c.next.ensures.steps in
    omega (arith, turn.1)

pub offset_bounds-front-i : goal.offset_bounds-front-i
offset_bounds-front-i g c = scaled_Fits c.in-Some.i (length c.loop-i.front) _ (within g c) (search rules)

pub bounds-front-i : goal.bounds-front-i
bounds-front-i g c = within g c

pub loop-i-preserved-in-Some-read : goal.loop-i-preserved-in-Some-read
loop-i-preserved-in-Some-read g c =
    let m = g.P.Pixel.model in
    let laws = g.met.P.Pixel.lawful in
    let ws = c.args.words.now in
    let front = c.args.front.now in
    let i = c.in-Some.i in
    let under = c.in-Some-read.under in
    let over = c.from_record.result in
    let turn = part-turn m laws c.loop-i.invariant.parts c.loop-i.yielded c.loop-i.i-iterator c.next.new.self c.next.result c.loop-i.yielded_by i c.in-Some.pixel c.in-Some.is c.next.ensures.steps in
    let here : i < length c.loop-i.front = omega (arith, turn.1) in
    let nF : length (picture m front) ≡ length front = length-map front m.meaning in
    let more : i + 1 ≡ length (c.loop-i.yielded ++ (i, c.in-Some.pixel) ∷ []) = omega (arith, turn.0, length-append c.loop-i.yielded ((i, c.in-Some.pixel) ∷ [])) in
    record {
      goes = search rules;
      ends = search rules;
      parts = c.loop-i.invariant.parts;
      count = c.loop-i.invariant.count;
      joined = λ ps e n.
          let at = λ (k : ℕ). zip2 m.join (take k (picture m front)) (take k ps) ++ drop k (picture m front) in
          let there : i < length ps = omega arith in
          let got : Some under ≡ Some (get_or ps i under) = sym c.in-Some-read.is ∙ c.read.ensures ∙ read-part m laws ws ps i c.in-Some.pixel.now under there e turn.2 in
          let under-is : under ≡ get_or ps i under = cc in
          let written = ap m.meaning c.to_record.ensures ∙ laws.meaning_plain c.join.result ∙ c.join.ensures in
          map-set m.meaning c.loop-i.front i c.to_record.result
          ∙ ap (set (picture m c.loop-i.front) i) written
          ∙ zipped-more m.join (picture m front) ps (picture m c.loop-i.front) i over under
          (omega arith) (omega arith) (c.loop-i.invariant.joined ps e n ∙ ap at (sym turn.0))
          (picture-read m c.loop-i.front i _ over here (ap (get_or c.loop-i.front i) c.index-front-i.is) c.from_record.ensures)
          under-is
          ∙ ap at more;
    }

pub loop-i-preserved : goal.loop-i-preserved
loop-i-preserved g c =
    let m = g.P.Pixel.model in
    let laws = g.met.P.Pixel.lawful in
    let i = c.in-Some.i in
    let turn = part-turn m laws c.loop-i.invariant.parts c.loop-i.yielded c.loop-i.i-iterator c.next.new.self c.next.result c.loop-i.yielded_by i c.in-Some.pixel c.in-Some.is c.next.ensures.steps in
    record {
      goes = search rules;
      ends = search rules;
      parts = c.loop-i.invariant.parts;
      count = c.loop-i.invariant.count;
      joined = λ ps e n.
          let there : i < length ps = omega (arith, turn.1) in
          let got : None ≡ Some (get_or ps i m.blank) = sym c.in_default.is ∙ c.read.ensures ∙ read-part m laws c.args.words.now ps i c.in-Some.pixel.now m.blank there e turn.2 in
          cc;
    }

pub returns : goal.returns
returns g c =
    let m = g.P.Pixel.model in
    let laws = g.met.P.Pixel.lawful in
    let front = c.args.front.now in
    let all = part-end m laws c.loop-i.invariant.parts c.loop-i.yielded c.loop-i.i-iterator c.next.new.self c.next.result c.loop-i.yielded_by c.in-None.is c.next.ensures.steps in
    let nF : length (picture m front) ≡ length front = length-map front m.meaning in
    joined_row m laws front c.loop-i.front c.args.words.now (sym c.is_row.ensures ∙ c.if-not-is_row.false)
    (λ ps e n. c.loop-i.invariant.joined ps e n ∙ zipped-all m.join (picture m front) ps (length c.loop-i.yielded) (omega (arith, all)) (omega arith))
