-- The line link keeps the laws of a link. Assumes nothing.
use Rattle.std.proofs.Common.{◌≡◌, ℕ, zero, suc, ◌-◌, ◌*◌, Bool, true, false, if◌then◌else◌, eqb, List, [], ◌∷◌, length, take, drop, arith, lit<}
use Rattle.std.proofs.lemmas.Bool.Decides.{nat_tests}
use Rattle.link.specs.Model.{Empty, Holds, message, is_pair, Allowed, LinkLaws}
use Rattle.link.specs.WordLaws.{take_words, drop_words}
use Rattle.boxes.specs.LineState.{used_words, queue, line_link_model}
use Rattle.boxes.specs.Lines.{Entry, box_number, parsed, entries, lookup, is_good}
use Rattle.boxes.specs.declared.line.LineLink.{LineLink}
use Rattle.tile.specs.Words.{AreWords}

-- the message of an entry is of words where all are
parsed_words : (f : ℕ) (ws : List ℕ) → AreWords ws → (b : ℕ) → AreWords (message (lookup b (parsed f ws)))
parsed_words zero ws h b = λ k. lit< tt
parsed_words (suc f) [] h b = λ k. lit< tt
parsed_words (suc f) (x ∷ []) h b = λ k. lit< tt
parsed_words (suc f) (x ∷ n ∷ ws) h b = at (eqb x b) (parsed_words f (drop n ws) (drop_words n ws (λ i. h (suc (suc i)))) b)
  where
    at : (t : Bool) → AreWords (message (lookup b (parsed f (drop n ws)))) → AreWords (message (if t then Holds (take n ws) else lookup b (parsed f (drop n ws))))
    at true rest = take_words n ws (λ i. h (suc (suc i)))
    at false rest = rest

pub entry_words : (ws : List ℕ) → AreWords ws → (b : ℕ) → AreWords (message (lookup b (entries ws)))
unfolding entries
entry_words ws h b = parsed_words (length ws) ws h b

pub allowed : (m l b : ℕ) (es : List Entry) → is_good m l es ≡ true → AreWords (message (lookup b es)) → Allowed l (lookup b es)
allowed m l b [] g h = tt
allowed m l b (e ∷ es) g h = at (eqb e.box b) h (allowed m l b es (grind (arith, nat_tests)))
  where
    at : (t : Bool) → AreWords (message (if t then Holds e.message else lookup b es)) → (AreWords (message (lookup b es)) → Allowed l (lookup b es)) → Allowed l (if t then Holds e.message else lookup b es)
    at true w rest = (grind (arith, nat_tests), grind (arith, nat_tests), w)
    at false w rest = rest w

pub lawful : (s : LineLink) → LinkLaws (line_link_model s)
lawful s = record { few = s.few; short = s.short; allowed = λ i j. at (box_number s.sizes.ranks i j) (is_pair s.sizes.ranks i j) }
  where
    at : (b : ℕ) (t : Bool) → Allowed s.sizes.longest (if t then lookup b (queue s) else Empty)
    at b true = allowed (s.sizes.ranks * (s.sizes.ranks - 1)) s.sizes.longest b (queue s) s.good (entry_words (used_words s) s.fits b)
    at b false = tt
