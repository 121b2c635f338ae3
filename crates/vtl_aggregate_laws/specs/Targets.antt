-- `aggr` with an aggregate of each measure under the measure's own name.
use Rattle.std.specs.Prelude.{ℕ, List, [], ◌∷◌, map, Option, None}
use Rattle.vtl_cell.specs.declared.operator.AggKind.{AggKind}
use Rattle.vtl_cell.specs.declared.operator.AggKind.TheVariants as agg
use Rattle.vtl_tree.specs.Columns.{measures_of}
use Rattle.vtl_tree.specs.CompExp.{CompExp}
use Rattle.vtl_tree.specs.Measures.{int_var}
use Rattle.vtl_tree.specs.Trees.{AggTree}
use Rattle.vtl_tree.specs.declared.specifications.AggItems.TheVariants as items
use Rattle.vtl_tree.specs.declared.specifications.AggTarget.{AggTarget}
use Rattle.vtl_tree.specs.declared.structure.Structure.{Structure}
use Rattle.vtl_meaning.specs.Aggregates.{measure_call}

abbrev pub own_target : AggKind → List ℕ → AggTarget
own_target f name = record { role = None; target = name; call = measure_call f name }

-- `m := f(m)` for each measure `m`; for `count` of a data set `int_var := count()`
abbrev pub own_targets : AggKind → Structure → List AggTarget
own_targets agg.Count a = own_target agg.Count int_var.name ∷ []
own_targets f a = map (λ x. own_target f x.name) (measures_of a)

-- `f(ds group by names having h)`
abbrev pub of_all_measures : AggKind → (names : List (List ℕ)) → (having : Option CompExp) → AggTree
of_all_measures f names h = record { items = items.Measures f; grouping = names; having = h }

-- `ds[aggr m := f(m), .. group by names having h]`
abbrev pub of_own_targets : AggKind → Structure → (names : List (List ℕ)) → (having : Option CompExp) → AggTree
of_own_targets f a names h = record { items = items.Targets (own_targets f a); grouping = names; having = h }
