use Rattle.std.proofs.Common.{◌≡◌, ◌+◌, ◌++◌, ◌∷◌, [], List, map, take}
use Rattle.std.specs.Map.{lookup}
use Rattle.vtl_text.specs.Texts.{same_text}
use Rattle.vtl_tree.specs.Shown.{shown}
use Rattle.vtl_tree.specs.Structure.{columns_of}
use Rattle.vtl_tree.specs.declared.structure.Structure.{Structure}
use Rattle.vtl_meaning.specs.Turned.{other_identifiers}
use Rattle.sql_tree.specs.Trees.{Text}
use Rattle.sql_tree.specs.View.{statement_tree}
use Rattle.selects_to_sql.specs.Tables.{create_for}
use Rattle.hierarchies_to_sql.specs.ItemTables.{item_structure, item_tables}
use Rattle.hierarchies_to_sql.specs.RuleItems.{found_by, numbered_from, ruled_of}
use Rattle.hierarchies_to_sql.proofs.item_tables.named_tables.Given as goal

abbrev pub invariant-loop-item : goal.invariant-loop-item
invariant-loop-item l =
    let h = ruled_of l.measured in
    let items = take l.item-index l.items in
    record {
      next : l.draft.next ≡ l.fn.draft.next + l.item-index;
      found : (q : Text) → lookup (same_text q) l.tables ≡ found_by items (numbered_from l.target l.fn.draft.next items) q;
      made : (a : Structure) → shown l.others ≡ other_identifiers h.id a → shown l.columns ≡ columns_of (item_structure h a)
          → map statement_tree l.draft.statements.items ≡ map statement_tree l.fn.draft.statements.items ++ map create_for (item_tables l.writer l.target h a (l.table ∷ []) items l.fn.draft.next).tables;
    }
