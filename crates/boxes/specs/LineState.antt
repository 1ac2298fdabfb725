-- What a line link holds. Assumes nothing.
use Rattle.std.specs.Prelude.{ℕ, List, take}
use Rattle.boxes.specs.Lines.{Entry, entries, line_model}
use Rattle.boxes.specs.declared.line.LineLink.{LineLink}
use Rattle.link.specs.Model.{LinkModel}

-- the words of the waiting messages
abbrev pub used_words : LineLink → List ℕ
used_words s = take s.used s.words.now

-- the waiting messages in order of sending
abbrev pub queue : LineLink → List Entry
queue s = entries (used_words s)

-- the model of a line link, from its words
abbrev pub line_link_model : LineLink → LinkModel
line_link_model s = line_model s.sizes.ranks s.sizes.longest (used_words s)
