-- Faults as text. Assumes nothing.
use Rattle.std.specs.Prelude.{ℕ, if◌then◌else◌, List, ◌++◌, codes, decimal, ◌==◌}
use Rattle.tile.specs.declared.fault.Ground.{Ground}
use Rattle.tile.specs.declared.fault.Ground.TheVariants.{UnknownRecord, CutShort, OutOfPlace, WrongRank, OffLimits, WrongKind, UnlawfulPixel, Outside, TooShort, Unsuited, WrongLength, BoxTaken, BoxEmpty, Spoilt, NoDelivery, NotClosed, Finished, Unfinished, BoxesInUse, BadMessage}
use Rattle.tile.specs.declared.fault.Fault.{Fault}
use Rattle.tile.specs.Faults.{ground_of, fault_number, fault_part, fault_rank, fault_place, no_rank}

-- what a ground means, in a few words
abbrev pub sentence : Ground → List ℕ
sentence UnknownRecord = codes "unknown record kind"
sentence CutShort = codes "dump cut short"
sentence OutOfPlace = codes "record out of place"
sentence WrongRank = codes "not the rank due"
sentence OffLimits = codes "ranks or pixels outside their limits"
sentence WrongKind = codes "wrong pixel kind"
sentence UnlawfulPixel = codes "unlawful pixel"
sentence Outside = codes "rank or pixel number outside"
sentence TooShort = codes "memory too short"
sentence Unsuited = codes "does not suit"
sentence WrongLength = codes "no words or too many"
sentence BoxTaken = codes "box not empty"
sentence BoxEmpty = codes "box empty"
sentence Spoilt = codes "message spoilt"
sentence NoDelivery = codes "no such delivery"
sentence NotClosed = codes "picture not closed"
sentence Finished = codes "rank finished"
sentence Unfinished = codes "some rank unfinished"
sentence BoxesInUse = codes "messages waiting"
sentence BadMessage = codes "wrong message"

-- a rank, `none` where there is none
abbrev pub rank_text : ℕ → List ℕ
rank_text r = if r == no_rank then codes "none" else decimal r

-- the line that tells a fault
abbrev pub fault_text : Fault → List ℕ
fault_text f = codes "refused " ++ (decimal (fault_number f) ++ (codes ": " ++ (sentence (ground_of f) ++ (codes " (part " ++ (decimal (fault_part f) ++ (codes ", rank " ++ (rank_text (fault_rank f) ++ (codes ", place " ++ (decimal (fault_place f) ++ codes ")")))))))))
