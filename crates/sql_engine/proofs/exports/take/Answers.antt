use Rattle.std.proofs.Common.{◌∙◌, IsSome, Some, ap, sym, subst}
use Rattle.vtl_rows.specs.Named.{table_of}
use Rattle.vtl_rows.specs.Tables.{listed}
use Rattle.sql_engine.proofs.TableLookups.{looked_other, there_is}
use Rattle.sql_engine.proofs.exports.take.Goals as goal

pub unwrap-table-requires : goal.unwrap-table-requires
unwrap-table-requires c = there_is c.get.result (table_of c.args.name.now c.args.tables.now) (λ t. listed t.now) c.get.ensures c.requires

pub unwrap-taken-requires : goal.unwrap-taken-requires
unwrap-taken-requires c = subst IsSome (sym c.replace.ensures.before) c.requires

pub returns-clause-table : goal.returns-clause-table
returns-clause-table c = sym c.replace.ensures.before ∙ c.unwrap-taken.ensures ∙ ap (λ t. Some t) (sym c.into_shared.ensures)

pub returns-clause-others : goal.returns-clause-others
returns-clause-others c = λ other unlike.
    ap (table_of other) c.replace.ensures.replaced ∙ looked_other c.args.name.now other c.args.tables.now c.in_ok-empty.empty unlike
