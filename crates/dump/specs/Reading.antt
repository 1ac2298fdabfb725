-- What reading a whole dump answers. Assumes nothing.
use Rattle.std.specs.Prelude.{◌≡◌, ℕ, List}
use Rattle.tile.specs.declared.fault.Fault.{Fault}
use Rattle.dump.specs.declared.dumps.Dump.{Dump}
use Rattle.dump.specs.Phases.{Heading, heading}
use Rattle.dump.specs.Grammar.{AllInside, Content, HasForm, Rising}
use Rattle.dump.specs.Order.{Fails}
use Rattle.dump.specs.Pixels.{left, pixels_in}

-- what a dump that was read holds
abbrev pub content : Dump → Content
content d = record { head = heading d.head; pixels = left d.pixels }

-- the head, with the pixels that the bytes place
abbrev pub holding : Heading → List ℕ → Content
holding h bytes = record { head = h; pixels = pixels_in bytes }

-- the bytes have the form and hold c
pub record Accepted (bytes : List ℕ) (c : Content) : Type 0 where
  pub form : HasForm bytes c
  -- and nothing else
  pub only : (d : Content) → HasForm bytes d → d ≡ c
  -- each pixel lies within the limits of the head
  pub inside : AllInside c.head c.pixels
  -- in order of rank and number, no place twice
  pub rising : Rising 0 0 c.pixels
  -- no record is faulty
  pub no_fault : (f : Fault) → Fails bytes f → ⊥

-- the first faulty record gives the fault f
pub record Refused (bytes : List ℕ) (f : Fault) : Type 0 where
  pub fails : Fails bytes f
  -- and no other
  pub only : (g : Fault) → Fails bytes g → g ≡ f
  -- the bytes do not have the form
  pub no_form : (c : Content) → HasForm bytes c → ⊥
