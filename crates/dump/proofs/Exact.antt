-- Bytes have the form and hold one content, or fail with one fault, and never both. Assumes nothing.
use Rattle.std.proofs.Common.{◌≡◌, ℕ, zero, suc, ◌-◌, List, [], length, Some, Option, sym, refl, ap₂, ◌∙◌}
use borrow.Author.Tests.{clash}
use Rattle.std.proofs.lemmas.Option.{none-some}
use Rattle.tile.specs.declared.fault.Fault.{Fault}
use Rattle.tile.specs.declared.fault.Fault.TheVariants.{Dump}
use Rattle.tile.specs.declared.fault.Ground.{Ground}
use Rattle.tile.specs.declared.fault.Ground.TheVariants.{CutShort}
use Rattle.dump.specs.Phases.{Heading, Phase, Before, Behind}
use Rattle.dump.specs.Grammar.{Content, HasForm}
use Rattle.dump.specs.Order.{refusal, finished, rank_told, Sound, Fails}
use Rattle.dump.specs.Reading.{Accepted, Refused, holding}
use Rattle.dump.proofs.Held.{form-held, at_end}
use Rattle.dump.proofs.Limits.{all_inside}
use Rattle.dump.proofs.Rising.{all_rising}
use Rattle.dump.proofs.Parsed.{Left, done, join, opened, ended, end_same, reads_form}
use Rattle.dump.proofs.Parses.{form_reads}

one_ground : (o : Option Ground) (g h : Ground) → o ≡ Some g → o ≡ Some h → g ≡ h
one_ground o g h p q = cc

-- of two runs from one start, each up to a refused record, neither goes on where the other stops
same_stop : (n m : ℕ) (s : Phase) (bytes : List ℕ) (e d : Phase) (z y : List ℕ) (g h : Ground) → refusal e z ≡ Some g → refusal d y ≡ Some h → Left e z n s bytes → Left d y m s bytes → (e ≡ d) × (z ≡ y) × (g ≡ h)
same_stop zero zero s bytes e d z y g h p q l k =
    let a = ended l in
    let b = ended k in
    (sym a.0 ∙ b.0, sym a.1 ∙ b.1, one_ground (refusal s bytes) g h (ap₂ refusal a.0 a.1 ∙ p) (ap₂ refusal b.0 b.1 ∙ q))
same_stop zero (suc m) s bytes e d z y g h p q l k = let a = ended l in absurd (none-some g (sym (opened k).0 ∙ ap₂ refusal a.0 a.1 ∙ p))
same_stop (suc n) zero s bytes e d z y g h p q l k = let b = ended k in absurd (none-some h (sym (opened l).0 ∙ ap₂ refusal b.0 b.1 ∙ q))
same_stop (suc n) (suc m) s bytes e d z y g h p q l k = same_stop n m _ _ e d z y g h p q (opened l).1 (opened k).1

one_stop : (bytes : List ℕ) (e d : Phase) (z y : List ℕ) (g h : Ground) → Sound Before bytes e z → Sound Before bytes d y → refusal e z ≡ Some g → refusal d y ≡ Some h → (e ≡ d) × (z ≡ y) × (g ≡ h)
one_stop bytes e d z y g h run other p q =
    let a = join 0 run done in
    let b = join 0 other done in
    same_stop a.0 b.0 Before bytes e d z y g h p q a.1 b.1

-- a dump that has the form has no first fault
pub not-both : (bytes : List ℕ) (f : Fault) (c : Content) → Fails bytes f → HasForm bytes c → ⊥
not-both bytes f c fails form =
    let same = one_stop bytes fails.stage (Behind c.head) fails.rest [] fails.why CutShort fails.before (form_reads bytes c form) fails.refused (at_end _ _ refl) in
    clash (sym fails.going_on ∙ ap₂ (λ (t : Phase) (r : List ℕ). finished t (length r)) same.0 same.1)

one-head : (bytes : List ℕ) (h d : Heading) → Sound Before bytes (Behind h) [] → Sound Before bytes (Behind d) [] → h ≡ d
one-head bytes h d run other = end_same h d (one_stop bytes (Behind h) (Behind d) [] [] CutShort CutShort run other (at_end _ _ refl) (at_end _ _ refl)).0

pub one-content : (bytes : List ℕ) (c d : Content) → HasForm bytes c → HasForm bytes d → c ≡ d
one-content bytes c d f g =
    let head = one-head bytes c.head d.head (form_reads bytes c f) (form_reads bytes d g) in
    let pixels = sym (form-held bytes c f) ∙ form-held bytes d g in
    λ i. record { head = head i; pixels = pixels i }

pub one_fault : (bytes : List ℕ) (f g : Fault) → Fails bytes f → Fails bytes g → f ≡ g
one_fault bytes f g p q =
    let same = one_stop bytes p.stage q.stage p.rest q.rest p.why q.why p.before q.before p.refused q.refused in
    p.fault_is
    ∙ (λ i. Dump (same.2 i) (rank_told (same.0 i) (same.2 i)) (length bytes - length (same.1 i)))
    ∙ sym q.fault_is

pub refuses : (bytes : List ℕ) (f : Fault) → Fails bytes f → Refused bytes f
refuses bytes f fails = record { fails = fails; only = λ g other. one_fault bytes g f other fails; no_form = λ c form. not-both bytes f c fails form }

pub accepts : (bytes : List ℕ) (h : Heading) → Sound Before bytes (Behind h) [] → Accepted bytes (holding h bytes)
accepts bytes h run =
    let form = reads_form bytes h run in
    record { form = form; only = λ d other. one-content bytes d (holding h bytes) other form; inside = all_inside bytes _ form; rising = all_rising bytes _ form; no_fault = λ f fails. not-both bytes f _ fails form }
