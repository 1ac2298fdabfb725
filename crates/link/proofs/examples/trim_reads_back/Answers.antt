use Rattle.link.proofs.Trims.{round_trip, only-form}
use Rattle.link.proofs.examples.trim_reads_back.Goals as goal

pub returns : goal.returns
returns c = record { back = round_trip; only = only-form }
