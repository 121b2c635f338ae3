use Rattle.vtl_rows.specs.Tables.{listed}
use Rattle.sql_tree.specs.View.{query_tree}
use Rattle.sql_check_parts.specs.Queries.{query_columns}
use Rattle.sql_meaning.specs.Selects.{query_value}
use Rattle.sql_from.specs.Held.{base_held, tables_held}
use Rattle.sql_engine.proofs.Putting.{create_put}
use Rattle.sql_engine.proofs.statements.run_create.Goals as goal

pub returns-in_ok-put-in-Ok : goal.returns-in_ok-put-in-Ok
returns-in_ok-put-in-Ok g c =
    let s = c.args.create.now in
    let before = c.args.tables.now in
    create_put s.name c.in_ok-share-in-Ok.field-0 (query_columns (tables_held before) (query_tree s.query)) (query_value (base_held c.args.p.now before) (query_tree s.query)) before c.put.new.self
    (listed c.in-Ok.table) c.in_ok-held-in-Ok.held c.in-Ok.ensures.columns c.in-Ok.ensures.rows c.in_ok-held-in-Ok.ensures c.in_ok-share-in-Ok.ensures c.in_ok-put-in-Ok.ensures.put
