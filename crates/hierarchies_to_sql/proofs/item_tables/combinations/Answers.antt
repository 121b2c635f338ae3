use Rattle.std.proofs.Common.{[], ◌∷◌, List, ap, length, map, ◌∙◌}
use Rattle.std.proofs.lemmas.Result.{IfOk-weaker}
use Rattle.vtl_tree.specs.declared.structure.Component.{Component}
use Rattle.vtl_tree.specs.declared.structure.Structure.{Structure}
use Rattle.sql_tree.specs.Trees.{Text}
use Rattle.sql_tree.specs.View.{query_tree, statement_tree}
use Rattle.joins_to_sql.specs.FullJoins.{keys_query}
use Rattle.selects_to_sql.specs.Tables.{numbered}
use Rattle.hierarchies_to_sql.proofs.ItemTableForms.{combined_next}
use Rattle.hierarchies_to_sql.proofs.item_tables.combinations.Goals as goal

pub returns-clause-name : goal.returns-clause-name
returns-clause-name c =
    IfOk-weaker c.store-2.result _ _ (λ t e. e ∙ ap (λ m. numbered c.args.target.now m) c.in_ok-all.ensures.next) c.store-2.ensures.name

pub returns-clause-tables : goal.returns-clause-tables
returns-clause-tables c =
    let reference = c.in_ok-reference.reference in
    IfOk-weaker c.store-2.result _ _
    (λ t e h a f.
    combined_next c.args.writer.now c.args.target.now h a c.args.table.now c.args.draft.now.next c.store.new.self.next
    (map statement_tree c.args.draft.now.statements.items) (map statement_tree c.store.new.self.statements.items) (map statement_tree c.store-2.new.self.statements.items)
    reference c.in_ok-keys.keys c.in_ok-all.all (query_tree c.in_ok-given.given) (query_tree c.in_ok-once.once)
    (ap (λ (ys : List Component). record { components = ys }) (c.in_ok-reference.ensures ∙ f)) c.in_ok-keys.ensures
    (c.in_ok-given.ensures (a ∷ []) (ap length c.from_ref.ensures.value) ∙ ap (λ (l : List Text). keys_query c.args.writer.now reference (a ∷ []) l) c.from_ref.ensures.value)
    c.in_ok-all.ensures.name c.in_ok-once.ensures c.in_ok-all.ensures.next c.in_ok-all.ensures.statements e) c.store-2.ensures.statements
