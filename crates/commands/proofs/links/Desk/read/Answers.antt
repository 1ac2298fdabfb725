use Rattle.std.proofs.Common.{◌≡◌, ◌∙◌, ℕ, ap, subst, sym, length, min, rules}
use Rattle.std.proofs.lemmas.Result.{on_ok_weaker}
use Rattle.std.specs.Io.KnownBytes.{Appends}
use Rattle.tile.specs.Answers.{answered}
use Rattle.link.specs.Calls.{read_fault}
use Rattle.link.specs.Model.{message}
use Rattle.commands.specs.Replay.{message_text}
use Rattle.commands.proofs.Replay.{refused}
use Rattle.commands.proofs.links.Desk.read.Goals as goal

pub returns : goal.returns
returns g c =
    let m = g.L.Link.model c.args.link.now in
    let fault = read_fault m c.args.pair.from c.args.pair.to in
    let size = message (m.boxes c.args.pair.from c.args.pair.to) in
    let room : length c.as_mut_slice.result.now ≡ min c.args.self.now.room 5200 = search rules in
    let answer = sym (ap (λ (n : ℕ). answered (fault n) (length size)) room) ∙ sym c.read.ensures.answer ∙ c.in-Err.is in
    on_ok_weaker c.tell-in-Err.result
    (λ told. (subst (Appends (g.W.Write.contents c.args.output.now) (g.W.Write.contents c.tell-in-Err.new.output)) (sym (refused (fault (min c.args.self.now.room 5200)) (length size) c.in-Err.fault (message_text size) answer)) told, c.read.ensures.after))
    c.tell-in-Err.ensures
