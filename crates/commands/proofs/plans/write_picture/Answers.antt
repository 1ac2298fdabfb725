use Rattle.std.proofs.Common.{ℕ, sym, subst, ◌≤◌, suc, ◌≡◌, ◌+◌, ap, ◌∙◌, refl, arith}
use Rattle.std.specs.List.{flat_map}
use Rattle.chart.specs.Picture.{column_left, picture_head, row_top}
use Rattle.commands.specs.Plans.{below, column, picture, transfer_stroke}
use Rattle.commands.proofs.Lines.{appends_none, appends_both}
use Rattle.commands.proofs.Telling.{appends_same, one_more}
use Rattle.commands.proofs.plans.write_picture.Goals as goal
use Rattle.commands.proofs.plans.write_picture.Goals.{else-loop-round-test, then-loop-round-test+in_ok-draw_column+else-round-rounds}
use Rattle.std.specs.Io.KnownBytes.{Appends}

pub loop-round-init : goal.loop-round-init
loop-round-init g c = appends_none _

pub loop-round-preserved : goal.loop-round-preserved
loop-round-preserved g c = one_more _ _ _ c.loop-round.round _ _ c.loop-round.invariant c.in_ok-draw_column.ensures refl

pub returns : goal.returns
returns g c =
    let m = g.P.Plan.model c.args.plan.now in
    let xs = c.in_ok-transfers.transfers.items in
    let last : c.loop-round.round ≤ c.rounds-rounds.result = c.loop-round.auto.round-end in
    let written : Appends (g.W.Write.contents c.draw_ranks.new.output) (g.W.Write.contents c.loop-round-test.output) (below (suc m.rounds) (column m)) =
    elim c.loop-round-test.branch [
      | else-loop-round-test w ↦ absurd (omega arith)
      | then-loop-round-test+in_ok-draw_column+else-round-rounds w ↦
          let end : c.loop-round.round + 1 ≡ suc m.rounds = omega (arith, c.rounds-rounds.ensures) in
          let more = one_more _ _ _ c.loop-round.round _ _ c.loop-round.invariant w.in_ok-draw_column.ensures refl in
          subst (λ o. Appends (g.W.Write.contents c.draw_ranks.new.output) (g.W.Write.contents o) (below (suc m.rounds) (column m))) (sym w.output-is)
          (subst (λ (n : ℕ). Appends (g.W.Write.contents c.draw_ranks.new.output) (g.W.Write.contents w.draw_column.new.output) (below n (column m))) end more)
    ] in
    let left = c.column_left.ensures ∙ ap column_left c.rounds-rounds.ensures in
    let top = c.row_top.ensures ∙ ap row_top c.ranks.ensures in
    let head = appends_same _ _ _ _ (λ i. picture_head (left i + 160 + 70) (top i + 14)) c.in_ok-put.ensures.bytes in
    let transfers = appends_same _ _ _ _ (ap (flat_map transfer_stroke) c.as_slice.ensures.value) c.in_ok-draw_transfers.ensures in (
      picture m xs,
      (xs, c.in_ok-transfers.ensures, refl),
      appends_both _ _ _ _ _ head (appends_both _ _ _ _ _ c.in_ok-draw_ranks.ensures (appends_both _ _ _ _ _ written (appends_both _ _ _ _ _ transfers c.in_ok-write_all.ensures.bytes))),
    )
