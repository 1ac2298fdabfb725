-- What a cell link holds. Assumes nothing.
use Rattle.boxes.specs.Cells.{cell_model}
use Rattle.boxes.specs.declared.cell.CellLink.{CellLink}
use Rattle.link.specs.Model.{LinkModel}

-- the model of a cell link, from its words
abbrev pub cell_link_model : CellLink → LinkModel
cell_link_model s = cell_model s.sizes.ranks s.sizes.longest s.words.now
