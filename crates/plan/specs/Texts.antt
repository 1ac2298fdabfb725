-- Runs and transfers as text. Assumes nothing.
use Rattle.std.specs.Prelude.{ℕ, List, ◌++◌, codes, decimal}
use Rattle.plan.specs.declared.runs.Run.{Run}
use Rattle.plan.specs.declared.transfer.Transfer.{Transfer}

-- a run by its start and length
abbrev pub run_text : Run → List ℕ
run_text run = decimal run.start ++ (codes "+" ++ decimal run.len)

-- who sends whom which piece, and in which round
abbrev pub transfer_text : Transfer → List ℕ
transfer_text x = codes "round " ++ (decimal x.round ++ (codes ": " ++ (decimal x.sender ++ (codes " -> " ++ (decimal x.receiver ++ (codes " " ++ run_text x.piece))))))
