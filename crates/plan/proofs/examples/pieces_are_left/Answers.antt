use Rattle.plan.proofs.Counting.{pieces_are_left}
use Rattle.plan.proofs.examples.pieces_are_left.Goals as goal

pub returns : goal.returns
returns c = pieces_are_left
