use Rattle.std.proofs.Common.{◌≡◌, if◌then◌else◌, length, arith, rules}
use Rattle.boxes.proofs.LineCalls.{line_started, none_kept}
use Rattle.boxes.specs.Lines.{line_words}
use Rattle.boxes.specs.Sizes.{suffices}
use Rattle.boxes.proofs.line.LineLink.new.Goals as goal

pub invariant_of-result : goal.invariant_of-result
invariant_of-result c =
    let sizes = c.unwrap_or_default-sizes.result in
    let kept = none_kept sizes.ranks sizes.longest in
    record { few = search rules; short = search rules; room = search rules; within = omega arith; spelt = kept.spelt; good = kept.good; fits = kept.fits }

pub returns : goal.returns
returns c =
    let sizes = c.unwrap_or_default-sizes.result in
    let fits = suffices c.args.ranks c.args.longest (line_words c.args.ranks c.args.longest) (length c.args.words.now) in
    let ranks : sizes.ranks ≡ (if fits then c.args.ranks else 0) = search rules in
    let longest : sizes.longest ≡ (if fits then c.args.longest else 0) = search rules in
    line_started c.args.ranks c.args.longest (length c.args.words.now) sizes.ranks sizes.longest ranks longest
