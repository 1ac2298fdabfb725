use Rattle.std.proofs.Common.{◌≡◌, length, rules}
use Rattle.tile.specs.Near.{words, of_words}
use Rattle.tile.specs.NearLaws.{meaning_plain, two_words}
use Rattle.tile.specs.ReadLaws.{reading-some}
use Rattle.tile.proofs.near_kind.NearestPixel.read.Goals as goal

pub returns : goal.returns
returns c = let two : length c.args.words.now ≡ 2 = search rules in reading-some words of_words c.args.words.now _ meaning_plain (two_words c.args.words.now two)
