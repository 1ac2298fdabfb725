-- The lines that tell a plan. Assumes nothing.
use Rattle.std.specs.Prelude.{ℕ, List, ◌++◌, codes, decimal}
use Rattle.plan.specs.declared.runs.Run.{Run}
use Rattle.plan.specs.declared.transfer.Transfer.{Transfer}
use Rattle.plan.specs.Texts.{run_text, transfer_text}

-- ranks, pixels and rounds
abbrev pub plan_line : ℕ → ℕ → ℕ → List ℕ
plan_line ranks pixels rounds = codes "plan: ranks " ++ (decimal ranks ++ (codes ", pixels " ++ (decimal pixels ++ (codes ", rounds " ++ (decimal rounds ++ codes "\n")))))

-- a rank's group and span in a round, each by its start and length
abbrev pub rank_line : ℕ → ℕ → Run → Run → List ℕ
rank_line round rank group span =
    codes "round " ++ (decimal round ++ (codes " rank " ++ (decimal rank ++ (codes ": group " ++ (run_text group ++ (codes " span " ++ (run_text span ++ codes "\n")))))))

-- a piece that is sent
abbrev pub transfer_line : Transfer → List ℕ
transfer_line x = codes "transfer " ++ (transfer_text x ++ codes "\n")

-- how many pixels a rank sends in all
abbrev pub sends_line : ℕ → ℕ → List ℕ
sends_line rank pixels = codes "rank " ++ (decimal rank ++ (codes " sends " ++ (decimal pixels ++ codes "\n")))
