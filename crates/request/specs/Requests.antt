-- Requests: a call with the numbers that it is given. Assumes nothing.
use Rattle.std.specs.Prelude.{ℕ, List, Some, None, Option, vec_items}
use Rattle.request.specs.declared.requests.Request.{Request}
use Rattle.request.specs.declared.words.Cut.{Cut}
use Rattle.request.specs.Numbers.{numbers}
use Rattle.request.specs.Words.{words_in}

-- what may be named, with the words behind the name
abbrev pub with_words : {C : Type 0} → Option C → List (List ℕ) → Option (C × List (List ℕ))
with_words None ws = None
with_words (Some c) ws = Some (c, ws)

-- what is named, with its numbers, where there are some
abbrev pub with_numbers : {C : Type 0} → C → Option (List ℕ) → Option (C × List ℕ)
with_numbers c None = None
with_numbers c (Some ns) = Some (c, ns)

-- what is named, with the numbers that the words behind the name write
abbrev pub numbered : {C : Type 0} → Option (C × List (List ℕ)) → Option (C × List ℕ)
numbered None = None
numbered (Some q) = with_numbers q.0 (numbers q.1)

-- a call that is cut off a line, with the words behind it
abbrev pub call_and_words : {C : Type 0} → Cut C → C × List (List ℕ)
call_and_words cut = (cut.front, words_in cut.rest.now)

abbrev pub told : {C : Type 0} → Request C → C × List ℕ
told q = (q.call, vec_items q.numbers)
