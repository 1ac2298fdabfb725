-- Requests for calls of a link. Assumes nothing.
use Rattle.std.specs.Prelude.{ℕ, if◌then◌else◌, ◌&&◌, List, [], ◌∷◌, Some, None, codes, Option}
use Rattle.std.specs.Str.{bytes_eq}
use Rattle.request.specs.declared.links.LinkCall.{LinkCall}
use Rattle.request.specs.declared.links.LinkCall.TheVariants.{Cell, Line, Trim, Send, Read, Clear, Waiting, Area}
use Rattle.request.specs.Requests.{numbered, with_words}

-- the calls with a name of one word
abbrev pub call_named : List ℕ → Option LinkCall
call_named word =
    if bytes_eq word (codes "send") then Some Send
    else (if bytes_eq word (codes "read") then Some Read
    else (if bytes_eq word (codes "clear") then Some Clear
    else (if bytes_eq word (codes "waiting") then Some Waiting
    else (if bytes_eq word (codes "area") then Some Area else None))))

-- a new link, or a layer, with a name of two words
abbrev pub kind_named : List ℕ → List ℕ → Option LinkCall
kind_named word kind =
    if bytes_eq word (codes "link") && bytes_eq kind (codes "cell") then Some Cell
    else (if bytes_eq word (codes "link") && bytes_eq kind (codes "line") then Some Line
    else (if bytes_eq word (codes "layer") && bytes_eq kind (codes "trim") then Some Trim else None))

-- a name of two words, the first of which is w
abbrev pub second_named : List ℕ → List (List ℕ) → Option (LinkCall × List (List ℕ))
second_named w [] = None
second_named w (k ∷ ws) = with_words (kind_named w k) ws

abbrev pub named_or : Option LinkCall → List ℕ → List (List ℕ) → Option (LinkCall × List (List ℕ))
named_or (Some c) w ws = Some (c, ws)
named_or None w ws = second_named w ws

-- the call that the words of a line name, and the words behind its name
abbrev pub named_words : List (List ℕ) → Option (LinkCall × List (List ℕ))
named_words [] = None
named_words (w ∷ ws) = named_or (call_named w) w ws

-- the request in the words of a line: the name of a call, then only numbers
abbrev pub link_asked : List (List ℕ) → Option (LinkCall × List ℕ)
link_asked words = numbered (named_words words)
