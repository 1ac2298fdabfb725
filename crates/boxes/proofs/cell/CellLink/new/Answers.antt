use Rattle.std.proofs.Common.{◌≡◌, ◌≤◌, true, length, replicate, rules}
use Rattle.boxes.proofs.Cells.{cells_started}
use Rattle.boxes.specs.Cells.{cell_words}
use Rattle.boxes.specs.Sizes.{suffices}
use Rattle.boxes.proofs.cell.CellLink.new.Goals as goal

pub returns : goal.returns
returns c =
    let sizes = c.in-Some.sizes in
    let brought = length c.args.words.now in
    let zeros : c.fill.new.self ≡ replicate brought 0 = search rules in
    let room : cell_words sizes.ranks sizes.longest ≤ brought = search rules in
    let ranks : sizes.ranks ≡ c.args.ranks = search rules in
    let longest : sizes.longest ≡ c.args.longest = search rules in
    let fits : suffices c.args.ranks c.args.longest (cell_words c.args.ranks c.args.longest) brought ≡ true = search rules in
    cells_started c.args.ranks c.args.longest brought sizes.ranks sizes.longest c.fill.new.self zeros room ranks longest fits
