-- A send of the trim layer, from the send below. Assumes nothing.
use Rattle.std.proofs.Common.{◌≡◌, ℕ, ◌-◌, ◌≤◌, true, List, length, Some, None, Option, Result, ap, ◌∙◌, arith}
use Rattle.std.proofs.lemmas.Bool.Decides.{nat_tests}
use Rattle.tile.specs.declared.fault.Fault.{Fault}
use Rattle.link.specs.Model.{LinkModel, BoxState, Holds, put}
use Rattle.tile.specs.Answers.{kept}
use Rattle.link.specs.Calls.{is_length, send_fault, Send}
use Rattle.link.specs.Trim.{trimmed, untrimmed, trim_box, trim_model}
use Rattle.link.proofs.Trims.{trim_empty, trim_put, round_trip, length-trimmed}

-- a model that a call keeps or changes, seen from the layer
trim_kept : (o : Option Fault) (from to : ℕ) (m n : LinkModel) (b : BoxState) → n ≡ kept o (put m from to b) m → trim_model n ≡ kept o (put (trim_model m) from to (trim_box (m.longest - 2) b)) (trim_model m)
trim_kept None from to m n b e = ap trim_model e ∙ trim_put m from to b
trim_kept (Some f) from to m n b e = ap trim_model e

-- a message of 1 to `longest` words, sent in its trimmed form
pub trim_send : (m n : LinkModel) (from to : ℕ) (ws form : List ℕ) (r : Result (Unit {0}) Fault) → is_length (m.longest - 2) (length ws) ≡ true → form ≡ trimmed ws → Send m n from to form r → Send (trim_model m) (trim_model n) from to ws r
trim_send m n from to ws form r fits is h =
    let some : 1 ≤ length ws = grind (arith, nat_tests) in
    let short : length ws ≤ m.longest - 2 = grind (arith, nat_tests) in
    let below : is_length m.longest (length form) ≡ true = rw is (grind (arith, nat_tests, length-trimmed ws)) in
    let same : send_fault (trim_model m) from to (length ws) ≡ send_fault m from to (length form) = rw (fits, below, trim_empty (m.longest - 2) (m.boxes from to)) in
    let back : untrimmed (m.longest - 2) form ≡ Holds ws = rw is (round_trip (m.longest - 2) ws some short) in
    record {
      answer = rw same h.answer;
      after = rw (same, ← back) (trim_kept (send_fault m from to (length form)) from to m n (Holds form) h.after);
    }
