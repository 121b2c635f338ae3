use Rattle.std.proofs.Common.{◌≡◌, ◌++◌, drop}
use Rattle.grammar_forms.specs.Written.{run}
use Rattle.sql_print.proofs.writing.all.Given as goal

abbrev pub invariant-loop-item : goal.invariant-loop-item
invariant-loop-item g l = l.out.items ++ run g.T.Written.tokens (drop l.item-index l.items) ≡ l.fn.out.items ++ run g.T.Written.tokens l.items
