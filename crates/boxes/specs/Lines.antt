-- How the line link lays its waiting messages out in words: one behind the other in order of sending, each behind the
-- number of its box and its length. Assumes nothing.
use Rattle.std.specs.Prelude.{◌≡◌, ℕ, zero, suc, ◌+◌, ◌-◌, ◌*◌, Bool, true, if◌then◌else◌, ◌&&◌, List, [], ◌∷◌, ◌++◌, length, take, drop, Some, None, Option, ◌==◌, nat_lt}
use Rattle.tile.specs.Answers.{kept}
use Rattle.std.specs.Option.{option_map}
use Rattle.link.specs.Calls.{is_length, send_fault, clear_fault}
use Rattle.link.specs.Model.{LinkModel, BoxState, Empty, Holds, is_empty, is_pair}

-- how many boxes a link has
abbrev pub box_count : ℕ → ℕ
box_count ranks = ranks * (ranks - 1)

-- the words of all boxes, each with a longest message
abbrev pub line_words : ℕ → ℕ → ℕ
line_words ranks longest = box_count ranks * (longest + 2)

-- The boxes are numbered from 0 by sender and then by receiver, the sender itself left out.
abbrev pub box_number : ℕ → ℕ → ℕ → ℕ
box_number ranks from to = from * (ranks - 1) + (if nat_lt to from then to else to - 1)

-- a waiting message and the number of its box
pub record Entry : Type 0 where
  pub box : ℕ
  pub message : List ℕ

-- the words of the entries
abbrev pub spelled : List Entry → List ℕ
spelled [] = []
spelled (e ∷ es) = e.box ∷ length e.message ∷ (e.message ++ spelled es)

-- at most `limit` entries, read from words
abbrev pub parsed : ℕ → List ℕ → List Entry
parsed zero ws = []
parsed (suc limit) [] = []
parsed (suc limit) (box ∷ []) = []
parsed (suc limit) (box ∷ count ∷ ws) = record { box = box; message = take count ws } ∷ parsed limit (drop count ws)

-- the entries that words spell
unfoldable pub entries : List ℕ → List Entry
entries ws = parsed (length ws) ws

-- what a box holds
abbrev pub lookup : ℕ → List Entry → BoxState
lookup box [] = Empty
lookup box (e ∷ es) = if e.box == box then Holds e.message else lookup box es

-- where the entry of a box starts, if there is one
abbrev pub place : ℕ → List Entry → Option ℕ
place box [] = None
place box (e ∷ es) = if e.box == box then Some 0 else option_map (λ at. 2 + length e.message + at) (place box es)

-- the entries without that of a box
abbrev pub removed : ℕ → List Entry → List Entry
removed box [] = []
removed box (e ∷ es) = if e.box == box then es else e ∷ removed box es

-- whether an entry is for one of so many boxes, with a message that may be sent
abbrev pub is_sound : ℕ → ℕ → Entry → Bool
is_sound boxes longest e = nat_lt e.box boxes && is_length longest (length e.message)

-- whether entries are sound, no two for one box
abbrev pub is_good : ℕ → ℕ → List Entry → Bool
is_good boxes longest [] = true
is_good boxes longest (e ∷ es) = (is_sound boxes longest e && is_empty (lookup e.box es)) && is_good boxes longest es

-- the words are those of their entries, and no more
abbrev pub Spelt : List ℕ → Type 0
Spelt ws = ws ≡ spelled (entries ws)

-- the entries of words are good ones for a link of these sizes
abbrev pub Good : ℕ → ℕ → List ℕ → Type 0
Good ranks longest ws = is_good (box_count ranks) longest (entries ws) ≡ true

-- the link of these sizes over the words of its waiting messages
abbrev pub line_model : ℕ → ℕ → List ℕ → LinkModel
line_model ranks longest ws = record {
  ranks = ranks;
  longest = longest;
  boxes = λ i j. if is_pair ranks i j then lookup (box_number ranks i j) (entries ws) else Empty;
}

-- the waiting messages after a send: the sent one is the last
abbrev pub Queued : LinkModel → ℕ → ℕ → List ℕ → List Entry → List Entry → Type 0
Queued m from to words es es' =
    es' ≡ kept (send_fault m from to (length words)) (es ++ record { box = box_number m.ranks from to; message = words } ∷ []) es

-- the waiting messages after a clear: the others stay in their order
abbrev pub Dequeued : LinkModel → ℕ → ℕ → List Entry → List Entry → Type 0
Dequeued m from to es es' = es' ≡ kept (clear_fault m from to) (removed (box_number m.ranks from to) es) es
