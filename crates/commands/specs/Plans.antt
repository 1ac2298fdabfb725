-- What is told of a plan, and of a request for one. Assumes nothing.
use Rattle.std.specs.Prelude.{◌≡◌, ℕ, zero, suc, ◌+◌, ◌-◌, List, [], ◌∷◌, ◌++◌, Ok, Err, Option, Some, None, Result, codes, if◌then◌else◌}
use Rattle.std.specs.List.{flat_map}
use Rattle.std.specs.Str.{bytes_eq}
use Rattle.tile.specs.declared.fault.Fault.{Fault}
use Rattle.tile.specs.Texts.{fault_text}
use Rattle.plan.specs.declared.transfer.Transfer.{Transfer}
use Rattle.plan.specs.Amounts.{sent}
use Rattle.plan.specs.Model.{PlanModel}
use Rattle.plan.specs.Transfers.{Lists}
use Rattle.plan.specs.declared.radix.RadixPlan.{RadixPlan}
use Rattle.plan.specs.declared.swap.SwapPlan.{SwapPlan}
use Rattle.plan.specs.Makers.{radix_of, swap_of, RadixMade, SwapMade}
use Rattle.request.specs.declared.plans.Maker.{Maker}
use Rattle.request.specs.declared.plans.Maker.TheVariants.{Swap, Radix}
use Rattle.request.specs.Plans.{plan_asked}
use Rattle.request.specs.Words.{words_in}
use Rattle.commands.specs.declared.form.Form.{Form}
use Rattle.commands.specs.declared.form.Form.TheVariants.{Lines, Picture}
use Rattle.chart.specs.Lines.{plan_line, rank_line, sends_line, transfer_line}
use Rattle.chart.specs.Picture.{across, bar, column_left, column_width, frame, label, picture_head, row_height, row_top, stroke}

-- the texts of the numbers below n, one after another
abbrev pub below : ℕ → (ℕ → List ℕ) → List ℕ
below zero text = []
below (suc n) text = below n text ++ text n

-- the line of a transfer from the column of its old round to that of its new one
abbrev pub transfer_stroke : Transfer → List ℕ
transfer_stroke x = stroke (column_left (x.round - 1) + column_width) (row_top x.sender + 7) (column_left x.round) (row_top x.receiver + 7)

-- the name of a rank before its row
abbrev pub named : ℕ → List ℕ
named r = label 14 (row_top r + 11) (codes "rank") r

module _ (m : PlanModel) where
  -- a rank's group and span in a round
  abbrev pub ranked : ℕ → ℕ → List ℕ
  ranked t r = rank_line t r (m.group t r) (m.span t r)

  -- those of all ranks
  abbrev pub round_lines : ℕ → List ℕ
  round_lines t = below m.ranks (ranked t)

  -- what a rank sends
  abbrev pub sending : ℕ → List ℕ
  sending r = sends_line r (sent m r)

  -- what each rank sends
  abbrev pub sends_lines : List ℕ
  sends_lines = below m.ranks sending

  -- the plan as lines, with its transfers in this order
  abbrev pub plan_lines : List Transfer → List ℕ
  plan_lines xs = plan_line m.ranks m.pixels m.rounds ++ (below (suc m.rounds) round_lines ++ (flat_map transfer_line xs ++ sends_lines))

  -- the names of all ranks
  abbrev pub rank_names : List ℕ
  rank_names = below m.ranks named

  -- the bar of a span in its frame
  abbrev pub framed : ℕ → ℕ → List ℕ
  framed t r = frame (column_left t) (row_top r) ++ bar (column_left t + across (m.span t r).start m.pixels) (row_top r) (across (m.span t r).len m.pixels)

  -- a round's column, with its name
  abbrev pub column : ℕ → List ℕ
  column t = label (column_left t) 24 (codes "round") t ++ below m.ranks (framed t)

  -- the plan as a picture, with its transfers in this order
  abbrev pub picture : List Transfer → List ℕ
  picture xs =
      picture_head (column_left m.rounds + column_width + 70) (row_top m.ranks + row_height)
      ++ (rank_names ++ (below (suc m.rounds) column ++ (flat_map transfer_stroke xs ++ codes "</svg>\n")))

  -- the plan is shown in a form, its transfers in some order
  abbrev pub Shows : Form → List ℕ → Type 0
  Shows Lines text = (xs : List Transfer) × Lists m xs × (text ≡ plan_lines xs)
  Shows Picture text = (xs : List Transfer) × Lists m xs × (text ≡ picture xs)

-- the plan that was made is shown, or the fault of its maker is told
abbrev pub Tells : {P : Type 0} → (P → PlanModel) → Form → Result P Fault → List ℕ → Type 0
Tells model form (Ok p) text = Shows (model p) form text
Tells model form (Err f) text = text ≡ fault_text f ++ codes "\n"

-- what is told of words that ask for no plan
abbrev pub no_request : List ℕ
no_request = codes "no plan request: write 'swap R P' or 'radix R P K..'\n"

-- what is told of a request: a 2-3 plan takes two numbers, a radix plan two and its factors
abbrev pub Replies : Form → Option (Maker × List ℕ) → List ℕ → Type 0
Replies form (Some (Swap, R ∷ P ∷ [])) text = (made : Result SwapPlan Fault) × SwapMade R P made × Tells swap_of form made text
Replies form (Some (Radix, R ∷ P ∷ ks)) text = (made : Result RadixPlan Fault) × RadixMade R P ks made × Tells radix_of form made text
Replies form (Some (Swap, [])) text = text ≡ no_request
Replies form (Some (Swap, R ∷ [])) text = text ≡ no_request
Replies form (Some (Swap, R ∷ P ∷ k ∷ ks)) text = text ≡ no_request
Replies form (Some (Radix, [])) text = text ≡ no_request
Replies form (Some (Radix, R ∷ [])) text = text ≡ no_request
Replies form None text = text ≡ no_request

-- what is told of a line
abbrev pub PlanReply : Form → List ℕ → List ℕ → Type 0
PlanReply form line text = Replies form (plan_asked (words_in line)) text

-- the word that asks for a picture
abbrev pub svg : List ℕ
svg = codes "--svg"

-- a picture where one of the words asks for it
abbrev pub form_in : List (List ℕ) → Form
form_in [] = Lines
form_in (w ∷ ws) = if bytes_eq w svg then Picture else form_in ws

-- a word before a space, nothing of the one that asks for a picture
abbrev pub before_space : List ℕ → List ℕ
before_space w = if bytes_eq w svg then [] else w ++ 32 ∷ []

-- the other words as a line
abbrev pub line_in : List (List ℕ) → List ℕ
line_in ws = flat_map before_space ws
