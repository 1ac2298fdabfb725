use Rattle.std.proofs.Common.{◌≡◌, ℕ, ◌≤◌, List, ◌∷◌, length, take, sym, ap, ◌∙◌, one-add, take-append-drop, length-take-le}
use native.Mathlib.Nat.{sub-zero}
use Rattle.dump.specs.declared.record.Record.{Record}
use Rattle.dump.specs.Records.{Leads, body_of, body_size, kind_of}
use Rattle.dump.proofs.reader.leading.Goals as goal

-- a kind's byte, a body as long as the kind says, and what is left
leads : (r : Record) (rest : List ℕ) (k : ℕ) (after : List ℕ) (n : ℕ) → rest ≡ k ∷ after → kind_of r ≡ k → n ≡ body_size k → n ≤ length after → body_of r ≡ take n after → Leads r rest
leads r rest k after n split kind size fits body =
    rw split (record {
      whole = ap length body ∙ length-take-le n after fits ∙ size ∙ ap body_size (sym kind);
      front = rw (kind, ← size, one-add, body) (ap (λ l. k ∷ l) (sym (take-append-drop n after)));
    })

pub returns : goal.returns
returns c =
    let split = rw c.in_ok-number.ensures.ok_part at c.split_first.ensures.cases in
    let part = rw c.in_ok-body.ensures.ok_part at c.get.ensures.lookup.0 in
    let made = c.with_body.ensures in
    let size = c.body_size.ensures ∙ ap body_size c.in_ok-kind.ensures in
    leads _ _ _ _ c.body_size.result split.0 (made.kind ∙ c.in_ok-kind.ensures) size part.1 (made.body ∙ rw (← sub-zero c.body_size.result) part.2)
