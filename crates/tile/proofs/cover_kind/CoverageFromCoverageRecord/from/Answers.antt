use Rattle.std.proofs.Common.{◌≡◌, ℕ, ◌^◌, ◌<◌, List, length, get_or, sym, refl, ap, subst, ◌∙◌, mod-eq_of_lt, arith, rules}
use lib.Bits.{bit_and}
use Rattle.tile.specs.Cover.{four_inside, and_inside}
use Rattle.tile.specs.Named.{Inside}
use Rattle.tile.specs.Words.{low}
use Rattle.tile.specs.CoverLaws.{same-coverage, same-four, four_made}
use Rattle.tile.proofs.cover_kind.CoverageFromCoverageRecord.from.Goals as goal

pub invariant_of-result : goal.invariant_of-result
invariant_of-result c =
    let m = c.args.plain.mask in
    let f = λ (k : ℕ). bit_and (get_or c.args.plain.planes k 0) m in
    let word : m < 2 ^ 32 = omega arith in
    let made = four_made f c.map.result c.map.ensures.items.long (search rules) (search rules) (search rules) (search rules) in
    let P : List ℕ → Type 0 = λ ps. (length ps ≡ 4) × ((k : ℕ) → Inside m (get_or ps k 0)) in
    let lawful : P c.map.result = subst P (sym made) (refl, four_inside f m (λ k. and_inside m (get_or c.args.plain.planes k 0))) in
    record { lawful = (word, lawful.0, lawful.1) }

pub returns : goal.returns
returns c =
    let m = c.args.plain.mask in
    let f = λ (k : ℕ). bit_and (get_or c.args.plain.planes k 0) m in
    let same : m ≡ low m = sym (mod-eq_of_lt (omega arith)) in
    same-coverage _ _ same
    (four_made f c.map.result c.map.ensures.items.long (search rules) (search rules) (search rules) (search rules)
    ∙ same-four f (λ k. bit_and (get_or c.args.plain.planes k 0) (low m)) (λ k. ap (bit_and (get_or c.args.plain.planes k 0)) same))
