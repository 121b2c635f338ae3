-- What expressions and results depend on, over data sets by name.
use Rattle.std.specs.Prelude.{ℕ, cond, List, [], ◌∷◌, ◌++◌, map, Option, None, Some}
use Rattle.std.specs.List.{list_any}
use Rattle.std.specs.Map.{keys_of, lookup, set_value}
use Rattle.std.specs.Option.{option_map_or}
use Rattle.vtl_tree.specs.Structure.{same_name}
use Rattle.vtl_tree.specs.Trees as nodes
use Rattle.vtl_tree.specs.Trees.{FormTree, MaybeNode, NodeTree, NodeTrees, OperandTrees, structure_of}
use Rattle.vtl_tree.specs.declared.structure.Structure.{Structure}
use Rattle.vtl_scripts.specs.Meaning.{Statement}
use Rattle.vtl_sources.specs.Sources.{Sources, Traced, sources, traced}
use Rattle.vtl_sources.specs.Table.{of_aggregate, of_check, of_choice, of_datapoint, of_filter, of_join, of_left, of_made, of_measured, of_measures, of_pair, of_pivot, of_points, of_set, points_of_all}

-- what data sets depend on, by name
abbrev pub Past : Type 0 → Type 0
Past S = List (List ℕ × Sources S)

-- of the data set of this name; a name that is missing has none, and no typed script holds one
abbrev pub sources_named : {S : Type 0} → (nothing : S) → List ℕ → Past S → Sources S
sources_named nothing name past = option_map_or (λ from. from) (lookup (same_name name) past) (sources nothing [])

-- the data set of an expression
abbrev pub operand_of : {S : Type 0} → NodeTree → Sources S → Traced S
operand_of n from = traced (structure_of n) from

-- one data set more, in place of one of its name
abbrev pub with_sources : {S : Type 0} → Past S → List ℕ → Sources S → Past S
with_sources past name from = cond (list_any (same_name name) (keys_of past)) (set_value (same_name name) past from) (past ++ (name, from) ∷ [])

module _ {S : Type 0} (joined : S → S → S) (nothing : S) where
  -- Each form has its line, so that no new one is passed over.
  abbrev mutual
    pub lineage : Past S → NodeTree → Sources S
    lineage past (nodes.node s form) = form_lineage past s form

    pub form_lineage : Past S → Structure → FormTree → Sources S
    form_lineage past s (nodes.named name) = sources_named nothing name past
    form_lineage past s (nodes.measures m a) = of_measures joined nothing (operand_of a (lineage past a)) m s
    form_lineage past s (nodes.pair o a b) = of_pair joined nothing (operand_of a (lineage past a)) (operand_of b (lineage past b)) s
    form_lineage past s (nodes.choose t a b) = of_choice joined nothing (operand_of t (lineage past t)) (operand_of a (lineage past a)) (operand_of b (lineage past b)) s
    form_lineage past s (nodes.member a m) = of_left joined nothing (operand_of a (lineage past a)) s
    form_lineage past s (nodes.filter a e) = of_filter joined nothing (operand_of a (lineage past a)) e
    form_lineage past s (nodes.calc a items) = of_made joined nothing (operand_of a (lineage past a)) (nodes.of_items items) s
    form_lineage past s (nodes.keep a names) = of_left joined nothing (operand_of a (lineage past a)) s
    form_lineage past s (nodes.drop_named a names) = of_left joined nothing (operand_of a (lineage past a)) s
    form_lineage past s (nodes.rename a pairs) = lineage past a
    form_lineage past s (nodes.sub a items) = of_left joined nothing (operand_of a (lineage past a)) s
    form_lineage past s (nodes.pivot a id m) = of_pivot joined nothing (operand_of a (lineage past a)) m s
    form_lineage past s (nodes.unpivot a id m) = of_measured joined nothing (operand_of a (lineage past a)) s
    form_lineage past s (nodes.join os spec) = of_join joined nothing (operands_lineage past os)
    form_lineage past s (nodes.union ns) = of_set joined nothing (nodes_lineage past ns) s
    form_lineage past s (nodes.intersect ns) = of_set joined nothing (nodes_lineage past ns) s
    form_lineage past s (nodes.set_diff a b) = of_set joined nothing (operand_of a (lineage past a) ∷ operand_of b (lineage past b) ∷ []) s
    form_lineage past s (nodes.sym_diff a b) = of_set joined nothing (operand_of a (lineage past a) ∷ operand_of b (lineage past b) ∷ []) s
    form_lineage past s (nodes.exists_in a b r) = of_points joined nothing (points_of_all joined nothing (operand_of a (lineage past a) ∷ operand_of b (lineage past b) ∷ [])) s
    form_lineage past s (nodes.aggregate a spec) = of_aggregate joined nothing (operand_of a (lineage past a)) spec s
    form_lineage past s (nodes.analytic_of a spec) = of_made joined nothing (operand_of a (lineage past a)) spec s
    form_lineage past s (nodes.time a o) = of_left joined nothing (operand_of a (lineage past a)) s
    form_lineage past s (nodes.check a i spec) = of_check joined nothing (operand_of a (lineage past a)) (maybe_lineage past i)
    form_lineage past s (nodes.check_datapoint a rules out) = of_datapoint joined nothing (operand_of a (lineage past a)) rules.rules out
    form_lineage past s (nodes.check_hierarchy a rules m out) = of_measured joined nothing (operand_of a (lineage past a)) s
    form_lineage past s (nodes.hierarchy a rules m i out) = of_measured joined nothing (operand_of a (lineage past a)) s

    pub maybe_lineage : Past S → MaybeNode → Option (Traced S)
    maybe_lineage past nodes.no_node = None
    maybe_lineage past (nodes.some_node n) = Some (operand_of n (lineage past n))

    pub nodes_lineage : Past S → NodeTrees → List (Traced S)
    nodes_lineage past nodes.no_nodes = []
    nodes_lineage past (nodes.and_node n ns) = operand_of n (lineage past n) ∷ nodes_lineage past ns

    pub operands_lineage : Past S → OperandTrees → List (Traced S)
    operands_lineage past nodes.no_operands = []
    operands_lineage past (nodes.operand n alias os) = operand_of n (lineage past n) ∷ operands_lineage past os

  -- Of each result that is written, in order: its name, its structure, and what it depends on. Each statement sees the results before it.
  abbrev pub outputs_lineage : Past S → List Statement → List (List ℕ × Traced S)
  outputs_lineage past [] = []
  outputs_lineage past (s ∷ rest) =
      let from = lineage past s.node in
      let more = outputs_lineage (with_sources past s.result from) rest in
      cond s.persistent ((s.result, operand_of s.node from) ∷ more) more
