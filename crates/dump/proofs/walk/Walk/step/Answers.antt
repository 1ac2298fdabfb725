use Rattle.std.proofs.Common.{◌+◌, sym, refl, ◌∙◌, ap₂, drop-drop}
use Rattle.std.proofs.lemmas.Result.{err_from_is_err_and}
use Rattle.dump.specs.Phases.{phase}
use Rattle.dump.specs.Pixels.{placed}
use Rattle.dump.specs.Records.{body_size, kind_of}
use Rattle.dump.proofs.Runs.{kind_is, body_is, refusal-there, refusal-missing, next-there, behind-there}
use Rattle.dump.proofs.walk.Walk.step.Goals as goal

pub returns-in_err-item : goal.returns-in_err-item
returns-in_err-item c =
    let p = err_from_is_err_and c.from_residual.result c.from_residual.ensures.1 in
    rw (p.1, p.2) (refusal-missing _ _ _ c.in_err-item.ensures, refl)

pub returns-in_err-next : goal.returns-in_err-next
returns-in_err-next c =
    let p = err_from_is_err_and c.from_residual-in_err-next.result c.from_residual-in_err-next.ensures.1 in
    rw (p.1, p.2) (refusal-there c.in_ok-item.ensures.leads _ ∙ c.in_err-next.ensures, refl)

pub returns : goal.returns
returns c =
    let here = c.args.self.now.reader in
    let s = phase c.args.self.now.stage in
    let l = c.in_ok-item.ensures.leads in
    let told = c.in_ok-next.ensures in
    let passed = c.pass.ensures in
    record {
      same = passed.bytes;
      sound = refusal-there l s ∙ told.0;
      stage = told.1 ∙ sym (next-there l s);
      rest = rw (passed.bytes, passed.stands.next) (sym (behind-there l ∙ drop-drop (1 + body_size (kind_of c.in_ok-item.item.content)) here.at here.bytes.now));
      pixel = c.pixel_at-placed.ensures.pixel ∙ sym (ap₂ (placed s) (kind_is l) (body_is l));
      short = c.pixel_at-placed.ensures.short;
    }
