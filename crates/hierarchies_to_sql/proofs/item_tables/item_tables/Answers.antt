use Rattle.std.proofs.Common.{ap, ◌∙◌}
use Rattle.std.proofs.lemmas.Result.{IfOk-weaker}
use Rattle.vtl_tree.specs.Shown.{shown}
use Rattle.vtl_tree.specs.Structure.{columns_of}
use Rattle.hierarchies_to_sql.specs.RuleItems.{ruled_of}
use Rattle.hierarchies_to_sql.proofs.ItemTableForms.{all_found}
use Rattle.hierarchies_to_sql.proofs.item_tables.item_tables.Goals as goal

pub returns-clause-names : goal.returns-clause-names
returns-clause-names c =
    IfOk-weaker c.named_tables.result _ _
    (λ named f a item. all_found c.args.writer.now c.args.target.now (ruled_of c.args.measured.now) a c.args.table.now c.args.draft.now.next c.args.items.now named item (f item)) c.named_tables.ensures.names

pub returns-clause-tables : goal.returns-clause-tables
returns-clause-tables c =
    IfOk-weaker c.named_tables.result _ _
    (λ named f a e. f a e (ap shown c.deref.ensures.value ∙ c.in_ok-columns.ensures ∙ ap columns_of (c.in_ok-structure.ensures a e))) c.named_tables.ensures.tables
