use Rattle.std.proofs.Common.{ℕ, sym, subst, ◌≤◌, suc, ◌≡◌, ◌+◌, ap, refl, arith}
use Rattle.std.specs.List.{flat_map}
use Rattle.chart.specs.Lines.{plan_line, transfer_line}
use Rattle.commands.specs.Plans.{below, round_lines, plan_lines}
use Rattle.commands.proofs.Lines.{appends_none, appends_both}
use Rattle.commands.proofs.Telling.{appends_same, one_more}
use Rattle.commands.proofs.plans.write_lines.Goals as goal
use Rattle.commands.proofs.plans.write_lines.Goals.{else-loop-round-test, then-loop-round-test+in_ok-write_round+else-round-rounds}
use Rattle.std.specs.Io.KnownBytes.{Appends}

pub loop-round-init : goal.loop-round-init
loop-round-init g c = appends_none _

pub loop-round-preserved : goal.loop-round-preserved
loop-round-preserved g c = one_more _ _ _ c.loop-round.round _ _ c.loop-round.invariant c.in_ok-write_round.ensures refl

pub returns : goal.returns
returns g c =
    let m = g.P.Plan.model c.args.plan.now in
    let xs = c.in_ok-transfers.transfers.items in
    let last : c.loop-round.round ≤ c.rounds-rounds.result = c.loop-round.auto.round-end in
    let written : Appends (g.W.Write.contents c.put.new.output) (g.W.Write.contents c.loop-round-test.output) (below (suc m.rounds) (round_lines m)) =
    elim c.loop-round-test.branch [
      | else-loop-round-test w ↦ absurd (omega arith)
      | then-loop-round-test+in_ok-write_round+else-round-rounds w ↦
          let end : c.loop-round.round + 1 ≡ suc m.rounds = omega (arith, c.rounds-rounds.ensures) in
          let more = one_more _ _ _ c.loop-round.round _ _ c.loop-round.invariant w.in_ok-write_round.ensures refl in
          subst (λ o. Appends (g.W.Write.contents c.put.new.output) (g.W.Write.contents o) (below (suc m.rounds) (round_lines m))) (sym w.output-is)
          (subst (λ (n : ℕ). Appends (g.W.Write.contents c.put.new.output) (g.W.Write.contents w.write_round.new.output) (below n (round_lines m))) end more)
    ] in
    let head = appends_same _ _ _ _ (λ i. plan_line (c.ranks.ensures i) (c.pixels.ensures i) (c.rounds-rounds.ensures i)) c.in_ok-put.ensures.bytes in
    let transfers = appends_same _ _ _ _ (ap (flat_map transfer_line) c.as_slice.ensures.value) c.in_ok-write_transfers.ensures in (
      plan_lines m xs,
      (xs, c.in_ok-transfers.ensures, refl),
      appends_both _ _ _ _ _ head (appends_both _ _ _ _ _ written (appends_both _ _ _ _ _ transfers c.in_ok-write_sends.ensures)),
    )
