-- The four calls of a link: the fault of a refusal, the answer, and what the link holds after. Assumes nothing.
use Rattle.std.specs.Prelude.{◌≡◌, ℕ, Bool, not, ◌&&◌, List, [], ◌∷◌, ◌++◌, length, drop, Option, Result, nat_le, nat_lt}
use Rattle.tile.specs.declared.fault.Fault.{Fault}
use Rattle.tile.specs.declared.fault.Fault.TheVariants.{Link}
use Rattle.tile.specs.declared.fault.Ground.TheVariants.{Outside, TooShort, WrongLength, BoxTaken, BoxEmpty, Spoilt as SpoiltMessage}
use Rattle.tile.specs.Answers.{first, answered, kept}
use Rattle.link.specs.Model.{LinkModel, Empty, Holds, is_empty, is_spoilt, message, is_pair, put}

-- whether a message may have so many words
abbrev pub is_length : ℕ → ℕ → Bool
is_length longest count = nat_lt 0 count && nat_le count longest

-- The fault with which a call is refused, if any: it names the receiver; `count` is the length of the message, `room` that of the area.
abbrev pub send_fault : LinkModel → ℕ → ℕ → ℕ → Option Fault
send_fault m from to count = first (
    (Link Outside to, not (is_pair m.ranks from to)) ∷
    (Link WrongLength to, not (is_length m.longest count)) ∷
    (Link BoxTaken to, not (is_empty (m.boxes from to))) ∷ [])

abbrev pub read_fault : LinkModel → ℕ → ℕ → ℕ → Option Fault
read_fault m from to room = first (
    (Link Outside to, not (is_pair m.ranks from to)) ∷
    (Link TooShort to, nat_lt room m.longest) ∷
    (Link BoxEmpty to, is_empty (m.boxes from to)) ∷
    (Link SpoiltMessage to, is_spoilt (m.boxes from to)) ∷ [])

abbrev pub clear_fault : LinkModel → ℕ → ℕ → Option Fault
clear_fault m from to = first (
    (Link Outside to, not (is_pair m.ranks from to)) ∷
    (Link BoxEmpty to, is_empty (m.boxes from to)) ∷ [])

abbrev pub waiting_fault : LinkModel → ℕ → ℕ → Option Fault
waiting_fault m from to = first ((Link Outside to, not (is_pair m.ranks from to)) ∷ [])

-- the area with a message first
abbrev pub filled_with : List ℕ → List ℕ → List ℕ
filled_with ws area = ws ++ drop (length ws) area

-- The calls: `m` is the link before and `n` after, `area` the area before and `area'` after, `r` the answer.
pub record Send (m n : LinkModel) (from to : ℕ) (words : List ℕ) (r : Result (Unit {0}) Fault) : Type 0 where
  pub answer : r ≡ answered (send_fault m from to (length words)) tt
  pub after : n ≡ kept (send_fault m from to (length words)) (put m from to (Holds words)) m

pub record Read (m n : LinkModel) (from to : ℕ) (area area' : List ℕ) (r : Result ℕ Fault) : Type 0 where
  pub answer : r ≡ answered (read_fault m from to (length area)) (length (message (m.boxes from to)))
  pub filled : area' ≡ kept (read_fault m from to (length area)) (filled_with (message (m.boxes from to)) area) area
  pub after : n ≡ m

pub record Clear (m n : LinkModel) (from to : ℕ) (r : Result (Unit {0}) Fault) : Type 0 where
  pub answer : r ≡ answered (clear_fault m from to) tt
  pub after : n ≡ kept (clear_fault m from to) (put m from to Empty) m

abbrev pub Waiting : LinkModel → ℕ → ℕ → Result Bool Fault → Type 0
Waiting m from to r = r ≡ answered (waiting_fault m from to) (not (is_empty (m.boxes from to)))
