-- Replaying calls of links: the state between two lines, and what each line is answered. Assumes nothing.
use Rattle.std.specs.Prelude.{ℕ, suc, zero, ◌<◌, min, if◌then◌else◌, List, [], ◌∷◌, ◌++◌, length, Option, None, Some, IfSome, codes}
use Rattle.std.specs.Io.BufRead.{first_piece, drop_through}
use Rattle.std.specs.Io.KnownBytes.{Appends}
use Rattle.tile.specs.declared.fault.Fault.{Fault}
use Rattle.tile.specs.Answers.{kept}
use Rattle.tile.specs.Texts.{fault_text}
use Rattle.link.specs.Calls.{send_fault, read_fault, clear_fault, waiting_fault}
use Rattle.link.specs.Model.{LinkModel, Holds, Empty, is_empty, message, put, vacant}
use Rattle.link.specs.Trim.{trim_model}
use Rattle.boxes.specs.Sizes.{in_limits}
use Rattle.request.specs.declared.links.LinkCall.{LinkCall}
use Rattle.request.specs.declared.links.LinkCall.TheVariants.{Cell, Line, Trim, Send, Read, Clear, Waiting, Area}
use Rattle.request.specs.Links.{link_asked}
use Rattle.request.specs.Words.{words_in}
use Rattle.console.specs.Reports.{line_of, words_text}

-- the link at hand, how many more layers may be laid on it, and how long an area reads bring
pub record State : Type 0 where
  pub link : LinkModel
  pub layers : ℕ
  pub room : ℕ

-- a new link: all boxes empty; one without ranks where a size is outside its limits
abbrev pub fresh : ℕ → ℕ → LinkModel
fresh ranks longest = if in_limits ranks longest then vacant ranks longest else vacant 0 0

-- a new link takes four layers
abbrev pub opened : ℕ → ℕ → ℕ → State
opened ranks longest room = record { link = fresh ranks longest; layers = 4; room = room }

-- before the first line there is a link without ranks
abbrev pub start : State
start = opened 0 0 5200

-- a message that was read
abbrev pub message_text : List ℕ → List ℕ
message_text ws = codes "ok:" ++ words_text ws

-- the line that tells the answer to a call, or its refusal
abbrev pub answer_line : Option Fault → List ℕ → List ℕ
answer_line None text = line_of text
answer_line (Some f) text = line_of (fault_text f)

-- what a line tells, and the state after it
abbrev pub Step : Type 0
Step = List ℕ × State

-- what is told of a line that asks for no call
abbrev pub no_call : List ℕ
no_call = codes "no link request: see 'tilemerge help'"

-- a call that changes at most the link
abbrev pub on_link : State → Option Fault → List ℕ → LinkModel → Step
on_link s fault text after = (answer_line fault text, record s { link = kept fault after s.link })

-- one more layer on the link, unless it has all that it takes
abbrev pub layered : State → ℕ → Step
layered s zero = (line_of (codes "no more than four layers"), s)
layered s (suc layers) = (line_of (codes "ok"), record s { link = trim_model s.link; layers = layers })

-- the call that a line asks for, with its numbers; any other line is told so and changes nothing
abbrev pub step : State → Option (LinkCall × List ℕ) → Step
step s (Some (Send, from ∷ to ∷ words)) = on_link s (send_fault s.link from to (length words)) (codes "ok") (put s.link from to (Holds words))
step s (Some (Read, from ∷ to ∷ [])) = on_link s (read_fault s.link from to (min s.room 5200)) (message_text (message (s.link.boxes from to))) s.link
step s (Some (Clear, from ∷ to ∷ [])) = on_link s (clear_fault s.link from to) (codes "ok") (put s.link from to Empty)
step s (Some (Waiting, from ∷ to ∷ [])) = on_link s (waiting_fault s.link from to) (if is_empty (s.link.boxes from to) then codes "no" else codes "yes") s.link
step s (Some (Area, room ∷ [])) = (line_of (codes "ok"), record s { room = room })
step s (Some (Trim, [])) = layered s s.layers
step s (Some (Cell, ranks ∷ longest ∷ [])) = (line_of (codes "ok"), opened ranks longest s.room)
step s (Some (Line, ranks ∷ longest ∷ [])) = (line_of (codes "ok"), opened ranks longest s.room)
step s asked = (line_of no_call, s)

-- what the first line of a text asks for
abbrev pub asked : List ℕ → Option (LinkCall × List ℕ)
asked text = link_asked (words_in (first_piece 10 text))

-- the lines of a text, replayed from a state one after another, are answered by a text
pub data Replayed : State → List ℕ → List ℕ → Type 0 where
  none : {s : State} → Replayed s [] []
  more : {s : State} {text rest : List ℕ} → 0 < length text → Replayed (step s (asked text)).1 (drop_through 10 text) rest → Replayed s text ((step s (asked text)).0 ++ rest)

-- where input and output are known, the answers to the input's lines are written behind what was there
abbrev pub Replays : State → Option (List ℕ) → Option (List ℕ) → Option (List ℕ) → Type 0
Replays s input before after = IfSome input (λ text. (out : List ℕ) × Replayed s text out × Appends before after out)
