use Rattle.std.proofs.Common.{◌≡◌, [], ◌∷◌, true, false, length, get_or, sym, refl, ◌∙◌, arith, rules}
use Rattle.std.proofs.lemmas.Bool.Decides.{nat_tests}
use Rattle.std.proofs.lemmas.Iterator.{YieldsList-from_slice}
use Rattle.std.proofs.lemmas.Iterator.Search.{all_from_yields_List}
use Rattle.std.specs.List.{list_all}
use Rattle.tile.specs.Cover.{words, of_words}
use Rattle.tile.specs.CoverLaws.{meaning_plain, five_words, inside_all}
use Rattle.tile.specs.Named.{inside}
use Rattle.tile.specs.ReadLaws.{reading-some}
use Rattle.tile.proofs.cover_kind.CoveragePixel.read.Goals as goal

pub invariant_of-result : goal.invariant_of-result
invariant_of-result c =
    let ws = c.args.words.now in
    let m = get_or ws 0 0 in
    let planes = get_or ws 1 0 ∷ get_or ws 2 0 ∷ get_or ws 3 0 ∷ get_or ws 4 0 ∷ [] in
    let told : c.all.result ≡ list_all (inside m) planes =
    all_from_yields_List (inside m) _ _ _ c.all.ensures.ran (YieldsList-from_slice planes c.iter.ensures.rest) (λ x b q k. search rules) in
    let all : list_all (inside m) planes ≡ true = sym told ∙ c.if-all.true in
    record {
      lawful = (
        search rules,
        refl,
        inside_all m (get_or ws 1 0) (get_or ws 2 0) (get_or ws 3 0) (get_or ws 4 0) (grind (arith, nat_tests)) (grind (arith, nat_tests)) (grind (arith, nat_tests)) (grind (arith, nat_tests)),
      );
    }

pub returns-then-all : goal.returns-then-all
returns-then-all c = let five : length c.args.words.now ≡ 5 = search rules in reading-some words of_words c.args.words.now _ meaning_plain (five_words c.args.words.now five)

pub returns-else-all : goal.returns-else-all
returns-else-all c =
    let ws = c.args.words.now in
    let m = get_or ws 0 0 in
    let planes = get_or ws 1 0 ∷ get_or ws 2 0 ∷ get_or ws 3 0 ∷ get_or ws 4 0 ∷ [] in
    let told : c.all.result ≡ list_all (inside m) planes =
    all_from_yields_List (inside m) _ _ _ c.all.ensures.ran (YieldsList-from_slice planes c.iter.ensures.rest) (λ x b q k. search rules) in
    let some : list_all (inside m) planes ≡ false = sym told ∙ c.if-all.false in
    search rules
