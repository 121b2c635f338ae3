use Rattle.std.proofs.Common.{sym, ◌∙◌}
use Rattle.std.specs.Map.{keys_of}
use Rattle.check_rules.proofs.Finding.{find_new, find_old}
use Rattle.check_rules.proofs.SideLemmas.{on_ok}
use Rattle.check_rules.proofs.cycle.find.Goals as goal

pub returns-then-has : goal.returns-then-has
returns-then-has c = find_old (keys_of c.args.found.now) c.args.part.now (sym c.has.ensures ∙ c.if-has.true)

pub returns : goal.returns
returns c = on_ok c.put.result c.put.ensures.put (λ put. find_new c.args.found.now c.put.new.self c.args.part.now c.in_ok-share.field-0 put c.in_ok-share.ensures)
