use Rattle.std.proofs.Common.{◌≡◌, ◌-◌, ◌∙◌, sym, length, rules, ap, take, drop, get_or, refl, false, Some}
use Rattle.std.specs.Prelude.{codes}
use Rattle.std.specs.Io.KnownBytes.{Appends}
use Rattle.link.specs.Calls.{clear_fault, send_fault}
use Rattle.link.specs.Model.{LinkModel}
use Rattle.console.specs.Reports.{line_of}
use Rattle.request.specs.declared.links.LinkCall.TheVariants.{Trim, Send, Clear}
use Rattle.commands.specs.Replay.{answer_line, no_call, step}
use Rattle.commands.specs.Steps.{at}
use Rattle.commands.proofs.Replay.{clear_is, done, full, none_is, send_is, steps, takes, unasked}
use Rattle.commands.proofs.links.Desk.call.Goals as goal
use Rattle.commands.proofs.links.Desk.call.Goals.{in_default-via-in-Send+then-as_slice-lt2, in_default-via-in-Read+then-this-lt2, in_default-via-in-Read+else-this-lt2+else-this-lt3, in_default-via-in-Clear+then-this-lt2-2, in_default-via-in-Clear+else-this-lt2-2+else-this-lt3-2, in_default-via-in-Waiting+then-this-lt2-3, in_default-via-in-Waiting+else-this-lt2-3+else-this-lt3-3, in_default-via-in-Area+then-this-lt1, in_default-via-in-Area+else-this-lt1+else-this-lt2-4, in_default-via-in-Trim+else-this-lt1-2, in_default-via-in-Cell+then-this-lt2-5, in_default-via-in-Cell+else-this-lt2-5+else-this-lt3-4, in_default-via-in-Line+then-this-lt2-6, in_default-via-in-Line+else-this-lt2-6+else-this-lt3-5}

pub returns-in_ok-tell_done-in-Send-len2-up-clause-step : goal.returns-in_ok-tell_done-in-Send-len2-up-clause-step
returns-in_ok-tell_done-in-Send-len2-up-clause-step g c layers e =
    let m = g.L.Link.model c.args.link.now in
    let room = c.args.self.now.room in
    let ns = c.as_slice.result.now in
    let fault = send_fault m (get_or ns 0 0) (get_or ns 1 0) (length (take (length ns - 2) (drop 2 ns))) in
    steps (at m layers room) _ _ Send ns _ (answer_line fault (codes "ok")) _ _ c.in-Send-len2-up.is-0 c.as_slice.ensures.value
    (send_is (at m layers room) ns c.in-Send-len2-up.len_at_least ∙ ap (λ (n : LinkModel). (answer_line fault (codes "ok"), at n layers room)) (sym c.send.ensures.after))
    (done fault tt c.send.result (codes "ok") (Appends (g.W.Write.contents c.args.output.now) (g.W.Write.contents c.tell_done.new.output)) c.send.ensures.answer c.in_ok-tell_done-in-Send-len2-up.ensures)

pub returns-in_ok-tell_done-in-Clear-len2-clause-step : goal.returns-in_ok-tell_done-in-Clear-len2-clause-step
returns-in_ok-tell_done-in-Clear-len2-clause-step g c layers e =
    let m = g.L.Link.model c.args.link.now in
    let room = c.args.self.now.room in
    let ns = c.as_slice.result.now in
    let fault = clear_fault m (get_or ns 0 0) (get_or ns 1 0) in
    steps (at m layers room) _ _ Clear ns _ (answer_line fault (codes "ok")) _ _ c.in-Clear-len2.is-0 c.as_slice.ensures.value
    (clear_is (at m layers room) ns c.in-Clear-len2.len_at_least c.in-Clear-len2.len_below ∙ ap (λ (n : LinkModel). (answer_line fault (codes "ok"), at n layers room)) (sym c.clear.ensures.after))
    (done fault tt c.clear.result (codes "ok") (Appends (g.W.Write.contents c.args.output.now) (g.W.Write.contents c.tell_done-in-Clear-len2.new.output)) c.clear.ensures.answer c.in_ok-tell_done-in-Clear-len2.ensures)

pub returns-in_ok-tell-in-Trim-empty-clause-step : goal.returns-in_ok-tell-in-Trim-empty-clause-step
returns-in_ok-tell-in-Trim-empty-clause-step g c layers e =
    let s = at (g.L.Link.model c.args.link.now) layers c.args.self.now.room in
    let none_left = full s layers (sym e ∙ c.if-not-more.true) in
    steps s s _ Trim c.as_slice.result.now _ (line_of (codes "no more than four layers")) _ _ c.in-Trim-empty.is-0 c.as_slice.ensures.value
    (none_is (λ ns. step s (Some (Trim, ns)) ≡ (line_of (codes "no more than four layers"), s)) c.as_slice.result.now none_left c.in-Trim-empty.len_below)
    c.in_ok-tell-in-Trim-empty.ensures

pub returns-in_ok-tell-in_default-clause-step : goal.returns-in_ok-tell-in_default-clause-step
returns-in_ok-tell-in_default-clause-step g c layers e =
    let s = at (g.L.Link.model c.args.link.now) layers c.args.self.now.room in
    let ns = c.as_slice.result.now in
    let call = c.args.asked.now.call in
    let other : takes call (length ns) ≡ false =
    elim c.in_default.branch [
      | in_default-via-in-Send+then-as_slice-lt2 w ↦ search rules
      | in_default-via-in-Read+then-this-lt2 w ↦ search rules
      | in_default-via-in-Read+else-this-lt2+else-this-lt3 w ↦ search rules
      | in_default-via-in-Clear+then-this-lt2-2 w ↦ search rules
      | in_default-via-in-Clear+else-this-lt2-2+else-this-lt3-2 w ↦ search rules
      | in_default-via-in-Waiting+then-this-lt2-3 w ↦ search rules
      | in_default-via-in-Waiting+else-this-lt2-3+else-this-lt3-3 w ↦ search rules
      | in_default-via-in-Area+then-this-lt1 w ↦ search rules
      | in_default-via-in-Area+else-this-lt1+else-this-lt2-4 w ↦ search rules
      | in_default-via-in-Trim+else-this-lt1-2 w ↦ search rules
      | in_default-via-in-Cell+then-this-lt2-5 w ↦ search rules
      | in_default-via-in-Cell+else-this-lt2-5+else-this-lt3-4 w ↦ search rules
      | in_default-via-in-Line+then-this-lt2-6 w ↦ search rules
      | in_default-via-in-Line+else-this-lt2-6+else-this-lt3-5 w ↦ search rules
    ] in
    steps s s call call ns _ (line_of no_call) _ _ refl c.as_slice.ensures.value (unasked s call ns other) c.in_ok-tell-in_default.ensures
