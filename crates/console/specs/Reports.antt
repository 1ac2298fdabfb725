-- What is told of a dump, as text. Assumes nothing.
use Rattle.std.specs.Prelude.{◌≡◌, ℕ, if◌then◌else◌, ◌⊎◌, List, [], ◌∷◌, ◌++◌, Some, codes, decimal, ◌≢◌}
use Rattle.std.specs.List.{flat_map}
use Rattle.tile.specs.declared.fault.Fault.{Fault}
use Rattle.tile.specs.Texts.{fault_text}
use Rattle.dump.specs.Phases.{Heading}
use Rattle.dump.specs.Bytes.{all_zero}
use Rattle.dump.specs.Grammar.{Content, HasForm, Placed}
use Rattle.dump.specs.Order.{Fails}
use Rattle.console.specs.declared.hex.HexFault.{HexFault}
use Rattle.console.specs.declared.hex.HexFault.TheVariants.{Memory}
use Rattle.console.specs.Hex.{Unread, bad_hex_text, hex_bytes}

-- a text as a line of its own
abbrev pub line_of : List ℕ → List ℕ
line_of text = text ++ (10 ∷ [])

-- what the head tells
abbrev pub head_line : Heading → List ℕ
head_line h = codes "dump: ranks " ++ (decimal h.ranks ++ (codes ", pixels " ++ (decimal h.pixels ++ (codes ", kind " ++ (decimal h.kind ++ codes "\n")))))

-- a space before each word
abbrev pub words_text : List ℕ → List ℕ
words_text ws = flat_map (λ w. 32 ∷ decimal w) ws

-- a pixel's rank, number and words
abbrev pub pixel_line : ℕ → ℕ → List ℕ → List ℕ
pixel_line rank number ws = (codes "  " ++ (decimal rank ++ (codes "." ++ (decimal number ++ codes ":")))) ++ (words_text ws ++ (10 ∷ []))

-- the line of a pixel, nothing of a blank one
abbrev pub shown_pixel : Placed → List ℕ
shown_pixel p = if all_zero p.words then [] else pixel_line p.rank p.number p.words

-- a line for each pixel that is not blank
abbrev pub pixel_lines : List Placed → List ℕ
pixel_lines ps = flat_map shown_pixel ps

-- all that is told of a dump that has the form
abbrev pub report : Content → List ℕ
report c = head_line c.head ++ pixel_lines c.pixels

-- what is told of bytes: the report of what they hold, or the fault of the first faulty record
abbrev pub Told : List ℕ → List ℕ → Type 0
Told bytes text = ((c : Content) × HasForm bytes c × (text ≡ report c)) ⊎ ((f : Fault) × Fails bytes f × (text ≡ line_of (fault_text f)))

-- why a line spells no bytes
abbrev pub NotHex : List ℕ → List ℕ → Type 0
NotHex line text = (e : HexFault) × Unread line e × (e ≢ Memory) × (text ≡ line_of (bad_hex_text e))

-- the answer to a line: what is told of the bytes that it spells, or why it spells none
abbrev pub AnswerTo : List ℕ → List ℕ → Type 0
AnswerTo line text = ((bytes : List ℕ) × (hex_bytes line ≡ Some bytes) × Told bytes text) ⊎ NotHex line text
