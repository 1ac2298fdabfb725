-- Requests for plans. Assumes nothing.
use Rattle.std.specs.Prelude.{ℕ, if◌then◌else◌, List, [], ◌∷◌, Some, None, codes, Option}
use Rattle.std.specs.Str.{bytes_eq}
use Rattle.request.specs.declared.plans.Maker.{Maker}
use Rattle.request.specs.declared.plans.Maker.TheVariants.{Swap, Radix}
use Rattle.request.specs.Requests.{numbered, with_words}

-- the maker of this name
abbrev pub plan_named : List ℕ → Option Maker
plan_named word = if bytes_eq word (codes "swap") then Some Swap else (if bytes_eq word (codes "radix") then Some Radix else None)

-- the maker that the words of a line name, and the words behind its name
abbrev pub maker_words : List (List ℕ) → Option (Maker × List (List ℕ))
maker_words [] = None
maker_words (w ∷ ws) = with_words (plan_named w) ws

-- the request in the words of a line: the name of a maker, then only numbers
abbrev pub plan_asked : List (List ℕ) → Option (Maker × List ℕ)
plan_asked words = numbered (maker_words words)
