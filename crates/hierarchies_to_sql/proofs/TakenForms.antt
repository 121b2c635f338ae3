-- The table that stands for a computed item in the rules behind.
use Rattle.std.proofs.Common.{◌≡◌, ◌+◌, ℕ, true, false, cond, List, [], ◌∷◌, ◌++◌, map, sym, ap, ◌∙◌}
use Rattle.vtl_decimal.specs.Settings.{Settings}
use Rattle.vtl_syntax.specs.declared.statements.HierRule.{HierRule}
use Rattle.vtl_syntax.specs.declared.word_groups.HierInput.{HierInput}
use Rattle.vtl_syntax.specs.declared.word_groups.HierInput.TheVariants as input
use Rattle.vtl_syntax.specs.declared.word_groups.Mode.{Mode}
use Rattle.vtl_tree.specs.Names.{is_among}
use Rattle.vtl_tree.specs.RuleItems.{left_item}
use Rattle.vtl_tree.specs.Structure.{columns_of}
use Rattle.vtl_tree.specs.declared.structure.Component.{Component}
use Rattle.vtl_tree.specs.declared.structure.Structure.{Structure}
use Rattle.vtl_meaning.specs.Turned.{other_identifiers}
use Rattle.vtl_rulings.specs.HierarchyChecks.{Ruled}
use Rattle.sql_tree.specs.Trees.{QueryTree, StatementTree, Text}
use Rattle.selects_to_sql.specs.Queries.{alias_of}
use Rattle.selects_to_sql.specs.Tables.{Sources, by_name, create_for, numbered, table_of}
use Rattle.hierarchies_to_sql.specs.ComputedTables.{merged_query, taken_table}
use Rattle.hierarchies_to_sql.specs.ItemTables.{Tables, item_structure}
use Rattle.hierarchies_to_sql.specs.RuleItems.{merged_as}
use Rattle.hierarchies_to_sql.proofs.BesideForms.{merged_written}

module _ (p : Settings) (r : Text) (h : Ruled) (m : Mode) (a : Structure) (keys : Text) (items : List Text) (f : Tables) (rule : HierRule) (made : Text) (n : ℕ) where
  abbrev pub taken_by : HierInput → Sources
  taken_by i = taken_table p r h m i a keys items i f rule made n

  abbrev pub merged : Sources
  merged = record { names = numbered r n ∷ []; tables = table_of (numbered r n) (merged_query p h a keys made (f (left_item rule))) ∷ []; next = n + 1 }

  -- where the operand gives the item
  pub merged_is : is_among (left_item rule) items ≡ true → merged ≡ taken_by input.RulePriority
  merged_is e = ap (λ b. cond b merged (by_name made n)) (sym e)

  -- and where it does not
  pub kept_is : is_among (left_item rule) items ≡ false → by_name made n ≡ taken_by input.RulePriority
  kept_is e = ap (λ b. cond b merged (by_name made n)) (sym e)

  -- both merged, as the code writes them
  pub merged_tables : (ys zs : List Component) (item : Text) (old new : List StatementTree) → ys ≡ other_identifiers h.id a → zs ≡ columns_of (item_structure h a) → item ≡ left_item rule
      → new ≡ old ++ create_for (table_of (numbered r n) (merged_as h (alias_of 0) keys ys zs made (f item) ∷ [])) ∷ [] → new ≡ old ++ map create_for merged.tables
  merged_tables ys zs item old new ey ez ei e =
      let with = λ (q : QueryTree). old ++ create_for (table_of (numbered r n) q) ∷ [] in
      e
      ∙ ap (λ (l : List Component). with (merged_as h (alias_of 0) keys l zs made (f item) ∷ [])) ey
      ∙ ap (λ (l : List Component). with (merged_as h (alias_of 0) keys (other_identifiers h.id a) l made (f item) ∷ [])) ez
      ∙ ap (λ (x : Text). with (merged_as h (alias_of 0) keys (other_identifiers h.id a) (columns_of (item_structure h a)) made (f x) ∷ [])) ei
      ∙ ap with (sym (merged_written h a p keys made (f (left_item rule))))
