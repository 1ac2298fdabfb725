-- What a plan's queries answer. Assumes nothing.
use Rattle.std.specs.Prelude.{ℕ, suc, min, if◌then◌else◌, Ok, Err, Result, nat_lt}
use Rattle.tile.specs.declared.fault.Fault.{Fault}
use Rattle.tile.specs.declared.fault.Fault.TheVariants.{Call}
use Rattle.tile.specs.declared.fault.Ground.TheVariants.{Outside}
use Rattle.plan.specs.declared.runs.Run.{Run}
use Rattle.plan.specs.Model.{PlanModel}
use Rattle.plan.specs.Runs.{common}

-- a round above the last stands for the last
abbrev pub round_of : PlanModel → ℕ → ℕ
round_of p t = min t p.rounds

-- the refusal of a rank that a plan does not have
abbrev pub outside : ℕ → Fault
outside rank = Call Outside rank

-- the answer about a rank of the plan; any other rank is refused
abbrev pub asked : {A : Type 0} → PlanModel → ℕ → Result A Fault → Result A Fault
asked p rank answer = if nat_lt rank p.ranks then answer else Err (outside rank)

-- what is told of a rank
abbrev pub told : {A : Type 0} → PlanModel → ℕ → A → Result A Fault
told p rank answer = asked p rank (Ok answer)

-- the group in a round
abbrev pub group_told : PlanModel → ℕ → ℕ → Result Run Fault
group_told p t r = told p r (p.group (round_of p t) r)

-- the span in a round
abbrev pub span_told : PlanModel → ℕ → ℕ → Result Run Fault
span_told p t r = told p r (p.span (round_of p t) r)

-- the piece from rank f to rank r, going on from round t; the sender is looked at first
abbrev pub piece_told : PlanModel → ℕ → ℕ → ℕ → Result Run Fault
piece_told p t f r = asked p f (told p r (common (p.span (round_of p t) f) (p.span (round_of p (suc t)) r)))
