use Rattle.std.proofs.Common.{ℕ, ◌+◌, List, [], ◌∷◌, ap, length, map, ◌∙◌}
use Rattle.vtl_tree.specs.Shown.{shown}
use Rattle.sql_tree.specs.View.{statement_tree}
use Rattle.hierarchies_to_sql.specs.ItemTables.{item_tables, tables_by}
use Rattle.hierarchies_to_sql.specs.RuleItems.{ruled_of}
use Rattle.hierarchies_to_sql.proofs.CheckForms.{sided_tables}
use Rattle.hierarchies_to_sql.proofs.checks.tabled.Goals as goal

pub returns-clause-names : goal.returns-clause-names
returns-clause-names c = λ item.
    let items = c.args.items.now in
    let h = ruled_of c.args.measured in
    let a = c.args.a.now.structure.now in
    c.in_ok-tables.ensures.names a item
    ∙ ap (λ (k : ℕ). tables_by items (item_tables c.args.writer.now c.args.target.now h a (c.args.a.now.table.now ∷ []) items k).names item) c.in_ok-keys.ensures.next

pub returns-clause-tables : goal.returns-clause-tables
returns-clause-tables c =
    let h = ruled_of c.args.measured in
    let a = c.args.a.now.structure.now in
    sided_tables c.args.writer.now c.args.target.now h a c.args.a.now.table.now c.args.draft.now.next c.args.items.now c.combinations.new.draft.next (map statement_tree c.args.draft.now.statements.items) (map statement_tree c.combinations.new.draft.statements.items) (map statement_tree c.item_tables.new.draft.statements.items)
    c.in_ok-keys.ensures.next (c.in_ok-keys.ensures.tables h a (ap shown c.deref.ensures.value ∙ c.in_ok-others.ensures)) (c.in_ok-tables.ensures.tables a (ap shown c.deref-2.ensures.value ∙ c.in_ok-others.ensures))

pub returns-clause-next : goal.returns-clause-next
returns-clause-next c = c.in_ok-tables.ensures.next ∙ ap (λ (k : ℕ). k + length c.args.items.now) c.in_ok-keys.ensures.next
