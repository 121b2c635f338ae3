use Rattle.std.proofs.Common.{◌≡◌, List, drop, length, map}
use Rattle.vtl_tree.specs.Shown.{shown}
use Rattle.vtl_tree.specs.declared.structure.Structure.{Structure}
use Rattle.sql_tree.specs.Trees.{Text}
use Rattle.sql_tree.specs.View.{statement_tree}
use Rattle.hierarchies_to_sql.specs.ComputedTables.{run_tables}
use Rattle.hierarchies_to_sql.specs.RuleItems.{IsShaped, ruled_of, tables_in}
use Rattle.hierarchies_to_sql.proofs.RunForms.{Continues}
use Rattle.hierarchies_to_sql.proofs.computed.run_tables.Given as goal

abbrev pub invariant-loop-rule : goal.invariant-loop-rule
invariant-loop-rule l =
    let h = ruled_of l.shape.measured.now in
    let keys = l.shape.keys.now in
    record {
      many : length l.names.items ≡ l.rule-index;
      gives : (a : Structure) (items : List Text) → IsShaped h (shown l.shape.others.now) (shown l.shape.columns.now) l.given a items
          → Continues l.writer l.target h l.mode l.input a keys items (run_tables l.writer l.target h l.mode l.input a keys items (tables_in l.tables) (shown (drop l.rule-index l.rules)) l.draft.next) (run_tables l.writer l.target h l.mode l.input a keys items (tables_in l.fn.tables) (shown l.rules) l.fn.draft.next)
          l.names.items (map statement_tree l.fn.draft.statements.items) (map statement_tree l.draft.statements.items);
    }
