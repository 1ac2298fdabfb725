use Rattle.std.proofs.Common.{◌≡◌, ℕ, ltb, List, [], ◌∷◌, length, Some, Ok, Err, sym, ◌∙◌}
use Rattle.std.proofs.lemmas.Result.{err_from_is_err_and}
use Rattle.tile.specs.declared.fault.Fault.{Fault}
use Rattle.tile.specs.declared.fault.Fault.TheVariants.{Link}
use Rattle.tile.specs.declared.fault.Ground.TheVariants.{TooShort}
use Rattle.tile.specs.Answers.{first}
use Rattle.link.specs.Model.{LinkModel, Holds, put}
use Rattle.link.specs.Calls.{read_fault, Send, Read}
use Rattle.link.specs.Echo.{echo_fault, Echo}
use Rattle.link.proofs.Links.{accepted, refused, send_permitted, changed-here}
use Rattle.link.proofs.echo.echo.Goals as goal

-- the area is too short to read what was sent
unread : (m n k : LinkModel) (from to : ℕ) (words area area' : List ℕ) (f : Fault) → Send m n from to words (Ok tt) → Read n k from to area area' (Err f) → Echo m k from to words area area' (Err f)
unread m n k from to words area area' f s r =
    let none = (accepted _ _ tt s.answer).0 in
    let p = send_permitted m from to (length words) none in
    let sent : n ≡ put m from to (Holds words) = rw none at s.after in
    let short : read_fault n from to (length area) ≡ first ((Link TooShort to, ltb (length area) m.longest) ∷ []) = rw (sent, p.0, changed-here m.boxes from to (Holds words)) in
    let why = refused _ _ f r.answer in
    let fault : echo_fault m from to (length words) (length area) ≡ Some f = rw none (sym short ∙ why) in
    record { answer = rw fault; filled = rw fault (rw why at r.filled); after = rw fault (rw none (r.after ∙ sent)) }

pub returns-in_err-count : goal.returns-in_err-count
returns-in_err-count g c =
    let p = err_from_is_err_and c.from_residual-in_err-count.result c.from_residual-in_err-count.ensures.1 in
    rw (p.1, p.2) (unread _ _ _ _ _ _ _ _ _ c.in_ok-send.ensures c.in_err-count.ensures)
