use Rattle.std.proofs.Common.{drop, map}
use Rattle.sql_tree.specs.View.{statement_tree}
use Rattle.sql_engine.specs.Exported.{exports_in}
use Rattle.sql_engine.proofs.Exporting.{Exporting}
use Rattle.sql_engine.proofs.exports.exported.Given as goal

abbrev pub invariant-loop-statement : goal.invariant-loop-statement
invariant-loop-statement l = Exporting l.order l.fn.tables (exports_in (map statement_tree l.statements)) (exports_in (map statement_tree (drop l.statement-index l.statements))) l.left l.out
