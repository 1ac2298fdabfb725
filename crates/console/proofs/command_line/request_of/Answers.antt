use Rattle.std.proofs.Common.{rules}
use Rattle.console.proofs.Unasked.{after_help, after_inspect, after_link, other}
use Rattle.console.proofs.command_line.request_of.Goals as goal

pub returns-in_default-rest : goal.returns-in_default-rest
returns-in_default-rest g c =
    after_help g.W.AsStr.text c.args.words.now c.first-item.result _ c.in-len1-up.len_at_least (search rules) c.as_str-word.ensures c.in-help.is (search rules)

pub returns-in_default-rest-2 : goal.returns-in_default-rest-2
returns-in_default-rest-2 g c =
    after_inspect g.W.AsStr.text c.args.words.now c.first-item.result _ c.in-len1-up.len_at_least (search rules) c.as_str-word.ensures c.in-inspect.is (search rules)

pub returns-in_default-rest-3 : goal.returns-in_default-rest-3
returns-in_default-rest-3 g c =
    after_link g.W.AsStr.text c.args.words.now c.first-item.result _ c.in-len1-up.len_at_least (search rules) c.as_str-word.ensures c.in-link.is (search rules)

pub returns-in_default-word : goal.returns-in_default-word
returns-in_default-word g c =
    let asked = c.in_default-word in
    other g.W.AsStr.text c.args.words.now c.first-item.result _ c.in-len1-up.len_at_least (search rules) c.as_str-word.ensures asked.not-help asked.not-inspect asked.not-plan asked.not-link
