-- Grounds by number, and faults by number, part, rank and place. Assumes nothing.
use Rattle.std.specs.Prelude.{ℕ}
use Rattle.tile.specs.declared.fault.Ground.{Ground}
use Rattle.tile.specs.declared.fault.Ground.TheVariants.{UnknownRecord, CutShort, OutOfPlace, WrongRank, OffLimits, WrongKind, UnlawfulPixel, Outside, TooShort, Unsuited, WrongLength, BoxTaken, BoxEmpty, Spoilt, NoDelivery, NotClosed, Finished, Unfinished, BoxesInUse, BadMessage}
use Rattle.tile.specs.declared.fault.Fault.{Fault}
use Rattle.tile.specs.declared.fault.Fault.TheVariants.{Dump, Plan, Link, Call}

-- the number of a ground
abbrev pub number_of : Ground → ℕ
number_of UnknownRecord = 1
number_of CutShort = 2
number_of OutOfPlace = 3
number_of WrongRank = 4
number_of OffLimits = 5
number_of WrongKind = 6
number_of UnlawfulPixel = 7
number_of Outside = 8
number_of TooShort = 9
number_of Unsuited = 10
number_of WrongLength = 11
number_of BoxTaken = 12
number_of BoxEmpty = 13
number_of Spoilt = 14
number_of NoDelivery = 15
number_of NotClosed = 16
number_of Finished = 17
number_of Unfinished = 18
number_of BoxesInUse = 19
number_of BadMessage = 20

-- the rank of a fault that concerns none
abbrev pub no_rank : ℕ
no_rank = 4294967295

abbrev pub ground_of : Fault → Ground
ground_of (Dump g r p) = g
ground_of (Plan g) = g
ground_of (Link g r) = g
ground_of (Call g r) = g

-- the four numbers of a fault
abbrev pub fault_number : Fault → ℕ
fault_number f = number_of (ground_of f)

abbrev pub fault_part : Fault → ℕ
fault_part (Dump g r p) = 1
fault_part (Plan g) = 3
fault_part (Link g r) = 4
fault_part (Call g r) = 2

abbrev pub fault_rank : Fault → ℕ
fault_rank (Dump g r p) = r
fault_rank (Plan g) = no_rank
fault_rank (Link g r) = r
fault_rank (Call g r) = r

abbrev pub fault_place : Fault → ℕ
fault_place (Dump g r p) = p
fault_place (Plan g) = 0
fault_place (Link g r) = 0
fault_place (Call g r) = 0

-- a refusal that concerns no rank
abbrev pub unranked : Ground → Fault
unranked g = Call g no_rank

-- the same fault at another rank
abbrev pub at_rank : ℕ → Fault → Fault
at_rank r (Dump g s p) = Dump g r p
at_rank r (Plan g) = Plan g
at_rank r (Link g s) = Link g r
at_rank r (Call g s) = Call g r
