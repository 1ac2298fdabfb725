-- The form of a dump as a grammar: HEAD, a section for each rank in order, END and no more. Assumes nothing.
use Rattle.std.specs.Prelude.{◌≡◌, ℕ, ◌+◌, ◌*◌, ◌<◌, ◌≤◌, true, if◌then◌else◌, ◌&&◌, ◌⊎◌, List, [], ◌∷◌, ◌++◌, length, replicate, ◌==◌, slice_index}
use Rattle.tile.specs.Named.{named_width, named_lawful}
use Rattle.dump.specs.Phases.{Heading}
use Rattle.dump.specs.Bytes.{half, words_in}
use Rattle.dump.specs.Records.{body_size, kind_told}

-- a pixel of a dump: its rank, its number and its words
pub record Placed : Type 0 where
  pub rank : ℕ
  pub number : ℕ
  pub words : List ℕ

-- what a dump holds
pub record Content : Type 0 where
  pub head : Heading
  pub pixels : List Placed

-- what a section is made of: the two bytes of the next pixel's number, or a pixel record by its kind and body
pub data Piece : Type 0 where
  place : ℕ → ℕ → Piece
  pixel : ℕ → List ℕ → Piece

-- the bytes of pieces before what follows
abbrev pub pieces_then : List Piece → List ℕ → List ℕ
pieces_then [] left = left
pieces_then (place a b ∷ ps) left = 3 ∷ a ∷ b ∷ pieces_then ps left
pieces_then (pixel k b ∷ ps) left = k ∷ (b ++ pieces_then ps left)

-- the bytes of sections from rank r on, and END
abbrev pub sections_then : ℕ → List (List Piece) → List ℕ
sections_then r [] = 6 ∷ []
sections_then r (ps ∷ ss) = 2 ∷ r ∷ pieces_then ps (sections_then (r + 1) ss)

-- the body of HEAD: ranks, pixels in two bytes, kind
abbrev pub head_of : List ℕ → Heading
head_of b = record { ranks = slice_index b 0; pixels = half b 1; kind = slice_index b 3 }

module _ (h : Heading) where
  -- the pieces run upward from the pixel due, within the tile, each pixel lawful and of HEAD's kind
  abbrev pub Upward : ℕ → List Piece → Type 0
  Upward due [] = Unit {0}
  Upward due (place a b ∷ ps) = (due < a * 256 + b) × (a * 256 + b < h.pixels) × Upward (a * 256 + b) ps
  Upward due (pixel k b ∷ ps) = (due < h.pixels) × (kind_told k ≡ h.kind) × (length b ≡ body_size k) × (named_lawful h.kind (words_in b) ≡ true) × Upward (due + 1) ps

  -- each section runs upward from pixel 0
  abbrev pub Sections : List (List Piece) → Type 0
  Sections [] = Unit {0}
  Sections (ps ∷ ss) = Upward 0 ps × Sections ss

-- the pixels that a section's pieces place, from the number due on
abbrev pub numbered : ℕ → ℕ → List Piece → List Placed
numbered r due [] = []
numbered r due (place a b ∷ ps) = numbered r (a * 256 + b) ps
numbered r due (pixel k b ∷ ps) = record { rank = r; number = due; words = words_in b } ∷ numbered r (due + 1) ps

-- those of sections from rank r on
abbrev pub all_numbered : ℕ → List (List Piece) → List Placed
all_numbered r [] = []
all_numbered r (ps ∷ ss) = numbered r 0 ps ++ all_numbered (r + 1) ss

-- 1 to 32 ranks, 1 to 1,024 pixels, a pixel kind that has a name
pub record Limits (h : Heading) : Type 0 where
  pub ranks_in : (1 ≤ h.ranks) × (h.ranks ≤ 32)
  pub pixels_in : (1 ≤ h.pixels) × (h.pixels ≤ 1024)
  pub kind_in : 1 ≤ named_width h.kind

-- the bytes have the form of a dump, and hold c
pub record HasForm (bytes : List ℕ) (c : Content) : Type 0 where
  pub body : List ℕ
  pub sections : List (List Piece)
  pub spelled : bytes ≡ 1 ∷ (body ++ sections_then 0 sections)
  pub size : length body ≡ 4
  pub head_is : head_of body ≡ c.head
  pub limits : Limits c.head
  pub all : length sections ≡ c.head.ranks
  pub each : Sections c.head sections
  pub holds : c.pixels ≡ all_numbered 0 sections

-- the words at a number of a rank's picture: those of the pixel placed there, or ws if there is none
abbrev pub shown : List ℕ → List Placed → ℕ → ℕ → List ℕ
shown ws [] r i = ws
shown ws (p ∷ ps) r i = shown (if p.rank == r && p.number == i then p.words else ws) ps r i

-- the words of rank r's pixel i: as many zero words as the kind has where none stands
abbrev pub picture : Content → ℕ → ℕ → List ℕ
picture c r i = shown (replicate (named_width c.head.kind) 0) c.pixels r i

-- a pixel lies within the limits of the head, and has lawful words of its kind
pub record Inside (h : Heading) (p : Placed) : Type 0 where
  pub rank_in : p.rank < h.ranks
  pub number_in : p.number < h.pixels
  pub long : length p.words ≡ named_width h.kind
  pub law : named_lawful h.kind p.words ≡ true

abbrev pub AllInside : Heading → List Placed → Type 0
AllInside h [] = Unit {0}
AllInside h (p ∷ ps) = Inside h p × AllInside h ps

-- the place of p is that of pixel i of rank r, or comes later
abbrev pub NotBefore : ℕ → ℕ → Placed → Type 0
NotBefore r i p = (r < p.rank) ⊎ ((r ≡ p.rank) × (i ≤ p.number))

-- from pixel i of rank r on the places rise, by rank and then by number, so that none comes twice
abbrev pub Rising : ℕ → ℕ → List Placed → Type 0
Rising r i [] = Unit {0}
Rising r i (p ∷ ps) = NotBefore r i p × Rising p.rank (p.number + 1) ps
