-- A replay on its way: from a state with some input left to a later one. Assumes nothing.
use Rattle.std.specs.Prelude.{◌≡◌, ℕ, ◌-◌, min, List, ◌++◌, Option, None, Some, IfSome, Result, Ok, Err, codes}
use Rattle.std.specs.Io.KnownBytes.{Appends}
use Rattle.std.specs.Option.{option_map}
use Rattle.tile.specs.declared.fault.Fault.{Fault}
use Rattle.tile.specs.Texts.{fault_text}
use Rattle.link.specs.Calls.{read_fault}
use Rattle.link.specs.Model.{LinkModel, message}
use Rattle.link.specs.Trim.{trim_model}
use Rattle.request.specs.declared.links.LinkCall.{LinkCall}
use Rattle.console.specs.Reports.{line_of}
use Rattle.commands.specs.declared.links.Next.{Next}
use Rattle.commands.specs.declared.links.Next.TheVariants.{Link, Layer}
use Rattle.commands.specs.declared.links.Opening.{Opening}
use Rattle.commands.specs.Replay.{State, answer_line, message_text, opened, step, Replayed, Replays}

-- the line that tells an answer or a refusal, where the answer's text is known
abbrev pub outcome : {T : Type 0} → (T → Option (List ℕ)) → Result T Fault → Option (List ℕ)
outcome output (Ok told) = option_map line_of (output told)
outcome output (Err fault) = Some (line_of (fault_text fault))

-- the state with this link
abbrev pub at : LinkModel → ℕ → ℕ → State
at link layers room = record { link = link; layers = layers; room = room }

-- the state once a link is made
abbrev pub opens : ℕ → Opening → State
opens room opening = opened opening.ranks opening.longest room

-- the state once a link or a layer is made
abbrev pub makes : State → Next → State
makes s (Link opening) = opens s.room opening
makes s Layer = record s { link = trim_model s.link; layers = s.layers - 1 }

-- the same, if one is to be made
abbrev pub made : State → Option Next → State
made s None = s
made s (Some next) = makes s next

-- a line's answer is written, and its state reached
abbrev pub Calls : State → Option (LinkCall × List ℕ) → State → Option (List ℕ) → Option (List ℕ) → Type 0
Calls s asked s' before after = Appends before after (step s asked).0 × ((step s asked).1 ≡ s')

-- what is told of a link or a layer once it is there
abbrev pub ready : List ℕ
ready = line_of (codes "ok")

-- what holds of the output now, or, where something is to be made, once that is told
abbrev pub Once : {N : Type 0} → Option N → (Option (List ℕ) → Type 0) → Option (List ℕ) → Type 0
Once None Holds after = Holds after
Once (Some next) Holds after = (now : Option (List ℕ)) → Appends after now ready → Holds now

-- a line's answer is written and its state reached, once what is to be made is told
abbrev pub Comes : State → Option (LinkCall × List ℕ) → State → Option Next → Option (List ℕ) → Option (List ℕ) → Type 0
Comes s asked s' next before = Once next (Calls s asked (made s' next) before)

-- a read is told, and leaves the link as it is
abbrev pub Reads : LinkModel → LinkModel → ℕ → ℕ → ℕ → Option (List ℕ) → Option (List ℕ) → Type 0
Reads m n from to room before after = Appends before after (answer_line (read_fault m from to (min room 5200)) (message_text (message (m.boxes from to)))) × (n ≡ m)

-- some lines are answered, and with what is answered to the rest from the state reached all are
abbrev pub Goes : State → State → Option (List ℕ) → Option (List ℕ) → Option (List ℕ) → Option (List ℕ) → Type 0
Goes s s' input left before after =
    IfSome input
    (λ text. (done : List ℕ) × (rest : List ℕ) × (left ≡ Some rest) × Appends before after done
    × ((out : List ℕ) → Replayed s' rest out → Replayed s text (done ++ out)))

-- the lines are answered up to one that asks for what is next, or all
abbrev pub Reaches : {N : Type 0} → (N → State) → State → Option N → Option (List ℕ) → Option (List ℕ) → Option (List ℕ) → Option (List ℕ) → Type 0
Reaches makes s None input left before after = Replays s input before after
Reaches makes s (Some next) input left before after = Goes s (makes next) input left before after

-- the same, once what is next is told
abbrev pub Awaits : {N : Type 0} → (N → State) → State → Option N → Option (List ℕ) → Option (List ℕ) → Option (List ℕ) → Option (List ℕ) → Type 0
Awaits makes s next input left before = Once next (Reaches makes s next input left before)

-- what was made is told, and then the lines are answered from the state with it
abbrev pub Begins : {N : Type 0} → (N → State) → State → Option N → Option (List ℕ) → Option (List ℕ) → Option (List ℕ) → Option (List ℕ) → Type 0
Begins makes s next input left before after = (now : Option (List ℕ)) × Appends before now ready × Awaits makes s next input left now after
