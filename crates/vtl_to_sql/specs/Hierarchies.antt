-- The tables of forms under hierarchical rules. Those of `hierarchy` are those of the points that it computes, and where all points are
-- shown, the union of these and the operand.
use Rattle.std.specs.Prelude.{ℕ, List, []}
use Rattle.vtl_decimal.specs.Settings.{Settings}
use Rattle.vtl_syntax.specs.declared.statements.HierRule.{HierRule}
use Rattle.vtl_syntax.specs.declared.word_groups.HierInput.{HierInput}
use Rattle.vtl_syntax.specs.declared.word_groups.HierOut.{HierOut}
use Rattle.vtl_syntax.specs.declared.word_groups.HierOut.TheVariants as out
use Rattle.vtl_syntax.specs.declared.word_groups.Mode.{Mode}
use Rattle.vtl_tree.specs.Trees as nodes
use Rattle.vtl_tree.specs.Trees.{FormTree, structure_of}
use Rattle.vtl_tree.specs.declared.structure.Structure.{Structure}
use Rattle.vtl_rulings.specs.HierarchyChecks.{Ruled, ruled_by}
use Rattle.vtl_rulings.specs.Ordered.{places_or_none}
use Rattle.sql_tree.specs.Trees.{Text}
use Rattle.selects_to_sql.specs.Tables.{Made, Sources, and_then, by_names, over, stored, with_two}
use Rattle.hierarchies_to_sql.specs.CheckTables.{check_hierarchy_made}
use Rattle.hierarchies_to_sql.specs.ComputedTables.{computed_made}
use Rattle.vtl_to_sql.specs.Sets.{union_query}

-- a table of the computed points, over an operand that is there
abbrev pub computed_table : Settings → (result : Text) → Ruled → Mode → HierInput → List HierRule → (order : List ℕ) → (a s : Structure) → (names : List Text) → ℕ → Sources
computed_table p r h m i rules order a s names n = stored r (computed_made p r h m i rules order a s (by_names names n))

-- the computed points come first, and behind them the operand's points that are not computed
abbrev pub hierarchy_made : Settings → (result : Text) → Ruled → Mode → HierInput → HierOut → List HierRule → (order : List ℕ) → (a s : Structure) → Sources → Made
hierarchy_made p r h m i out.Computed rules order a s os = computed_made p r h m i rules order a s os
hierarchy_made p r h m i out.All rules order a s os = over (and_then os (computed_table p r h m i rules order a s os.names)) (with_two (λ x y. union_query p s a s y x))

-- of a form under hierarchical rules, and of no other
unfoldable pub ruled_made : Settings → (result : Text) → FormTree → (s : Structure) → Sources → Made
ruled_made p r (nodes.check_hierarchy a rules m o) s os = check_hierarchy_made p r (ruled_by rules (structure_of a)) m o rules.rules (structure_of a) s os
ruled_made p r (nodes.hierarchy a rules m i o) s os = hierarchy_made p r (ruled_by rules (structure_of a)) m i o rules.rules (places_or_none rules.order) (structure_of a) s os
ruled_made p r other s os = over os (λ names. [])
