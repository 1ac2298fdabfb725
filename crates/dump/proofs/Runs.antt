-- One more record of a run. Assumes nothing.
use Rattle.std.proofs.Common.{◌≡◌, ℕ, ◌+◌, ◌≤◌, not, ◌&&◌, ltb, leb, List, [], ◌∷◌, ◌++◌, length, get_or, take, drop, Some, None, Option, sym, ap, ◌∙◌, subst, ap₂, arith, length-append}
use Rattle.std.proofs.lemmas.List.{take_at}
use Rattle.std.proofs.lemmas.Bool.Decides.{nat_tests}
use Rattle.tile.specs.declared.fault.Ground.{Ground}
use Rattle.tile.specs.declared.fault.Ground.TheVariants.{UnknownRecord, CutShort}
use Rattle.tile.specs.Answers.{first}
use Rattle.dump.specs.declared.record.Record.{Record}
use Rattle.dump.specs.declared.record.Record.TheVariants.{Head, Rank, Place, Near, Cover, End}
use Rattle.dump.specs.Phases.{Phase}
use Rattle.dump.specs.Order.{record_ground, next, or_else, refusal}
use Rattle.dump.specs.Records.{Known, body_size, kind_of, body_of, bytes_of, kind_at, body_at, behind, no_record, Leads}

known : (r : Record) → Known (kind_of r)
known (Head b) = (omega arith, omega arith)
known (Rank b) = (omega arith, omega arith)
known (Place b) = (omega arith, omega arith)
known (Near b) = (omega arith, omega arith)
known (Cover b) = (omega arith, omega arith)
known End = (omega arith, omega arith)

-- n bytes are left, the first is k, and a body of that kind has z bytes
abbrev pub missing : ℕ → ℕ → ℕ → Option Ground
missing n k z = first ((UnknownRecord, ltb 0 n && not (leb 1 k && leb k 6)) ∷ (CutShort, ltb n (1 + z)) ∷ [])

pub missing-none : (n k z : ℕ) → 1 + z ≤ n → Known k → missing n k z ≡ None
missing-none n k z h w = grind (arith, nat_tests)

module _ {r : Record} {rest : List ℕ} (l : Leads r rest) where
  pub kind_is : kind_at rest ≡ kind_of r
  kind_is = ap (λ x. get_or x 0 0) l.front

  pub body_is : body_at rest ≡ body_of r
  body_is = ap (λ k. take (body_size k) (drop 1 rest)) kind_is ∙ ap (λ x. take (body_size (kind_of r)) (drop 1 x)) l.front ∙ take_at (body_of r) _ _ l.whole

  there : no_record rest ≡ None
  there =
      let k = known r in
      let e = kind_is in
      let long : length rest ≡ length (bytes_of r ++ drop (1 + body_size (kind_of r)) rest) = ap length l.front in
      let sum = length-append (bytes_of r) (drop (1 + body_size (kind_of r)) rest) in
      let whole = l.whole in
      let size = ap body_size e in
      let some : 1 + body_size (kind_at rest) ≤ length rest = omega arith in
      missing-none (length rest) (kind_at rest) (body_size (kind_at rest)) some (subst Known (sym e) k)

  pub refusal-there : (s : Phase) → refusal s rest ≡ record_ground s (kind_of r) (body_of r)
  unfolding refusal
  refusal-there s = ap (λ o. or_else o (record_ground s (kind_at rest) (body_at rest))) there ∙ ap₂ (record_ground s) kind_is body_is

  pub next-there : (s : Phase) → next s (kind_at rest) (body_at rest) ≡ next s (kind_of r) (body_of r)
  next-there s = ap₂ (next s) kind_is body_is

  pub behind-there : behind rest ≡ drop (1 + body_size (kind_of r)) rest
  behind-there = ap (λ k. drop (1 + body_size k) rest) kind_is

pub refusal-missing : (s : Phase) (rest : List ℕ) (g : Ground) → no_record rest ≡ Some g → refusal s rest ≡ Some g
unfolding refusal
refusal-missing s rest g h = ap (λ o. or_else o (record_ground s (kind_at rest) (body_at rest))) h
