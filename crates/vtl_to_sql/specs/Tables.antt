-- The tables that are made for an expression on data sets, for a statement and for a script. An expression is the tables of its
-- operands and then one query.
use Rattle.std.specs.Prelude.{ℕ, ◌+◌, Bool, true, false, List, [], ◌∷◌, ◌++◌, Some}
use Rattle.std.specs.List.{flat_map}
use Rattle.vtl_decimal.specs.Settings.{Settings}
use Rattle.vtl_tree.specs.CompExp.{CompExp}
use Rattle.vtl_tree.specs.declared.structure.Structure.{Structure}
use Rattle.vtl_tree.specs.Joins as joins
use Rattle.vtl_scripts.specs.Made.{operands_in}
use Rattle.vtl_scripts.specs.Meaning.{Statement}
use Rattle.vtl_tree.specs.Trees as nodes
use Rattle.vtl_tree.specs.Trees.{FormTree, NodeTree, NodeTrees, OperandTrees, structure_of}
use Rattle.sql_tree.specs.Trees.{Text, QueryTree}
use Rattle.groups_to_sql.specs.Grouped.{aggregate_query}
use Rattle.selects_to_sql.specs.Queries.{calc_query, choose_query, copy_query, filter_query, left_query, measures_query, pair_query, rename_query, sub_query}
use Rattle.vtl_to_sql.specs.Sets.{difference_query, intersection_query, shown_query, symmetric_difference_query, union_query, existence_query}
use Rattle.groups_to_sql.specs.Turned.{pivot_query, unpivot_query}
use Rattle.groups_to_sql.specs.Windowed.{analytic_query}
use Rattle.joins_to_sql.specs.FilteredJoins.{filtered_made}
use Rattle.joins_to_sql.specs.JoinTables.{join_made}
use Rattle.rules_to_sql.specs.CheckQueries.{check_query, imbalance_query}
use Rattle.rules_to_sql.specs.PointQueries.{datapoint_query}
use Rattle.times_to_sql.specs.TimeTables.{time_made}
use Rattle.vtl_to_sql.specs.Hierarchies.{ruled_made}
use Rattle.selects_to_sql.specs.Tables.{Table, table_of, Made, Sources, by_name, stored, and_then, with_one, with_two, with_three, over, by_names, first_number}

abbrev pub source_of : Text → FormTree → ℕ → Made → Sources
source_of result (nodes.named x) n m = by_name x n
source_of result form n m = stored result m

-- ---- filters

-- whether the query of an expression can have the condition of a filter of it: that of a join can, since it shows columns alone
abbrev pub takes_filter : NodeTree → Bool
takes_filter (nodes.node s (nodes.join os spec)) = true
takes_filter a = false

-- in the query of its operand, or over the operand's table
abbrev pub filter_made : Settings → CompExp → (s : Structure) → (taken : Bool) → Made → Sources → Made
filter_made p e s true m os = filtered_made p (Some e) m
filter_made p e s false m os = over os (with_one (filter_query p e s))

-- ---- expressions

abbrev mutual
  pub made_of : Settings → (result : Text) → NodeTree → ℕ → Made
  made_of p r (nodes.node s form) n = made_of_form p r s form n

  pub sources_of : Settings → (result : Text) → NodeTree → ℕ → Sources
  sources_of p r (nodes.node s form) n = source_of r form n (made_of_form p r s form n)

  pub made_of_form : Settings → (result : Text) → Structure → FormTree → ℕ → Made
  made_of_form p r s (nodes.named x) n = over (by_name x n) (with_one (copy_query p s))
  made_of_form p r s (nodes.measures m a) n = over (sources_of p r a n) (with_one (measures_query p m (structure_of a) s))
  made_of_form p r s (nodes.pair o a b) n = over (and_then (sources_of p r a n) (sources_of p r b)) (with_two (pair_query p o (structure_of a) (structure_of b) s))
  made_of_form p r s (nodes.choose t a b) n =
      over (and_then (sources_of p r t n) (λ m. and_then (sources_of p r a m) (sources_of p r b))) (with_three (choose_query p (structure_of t) (structure_of a) (structure_of b) s))
  made_of_form p r s (nodes.member a m) n = over (sources_of p r a n) (with_one (left_query p (structure_of a) s))
  made_of_form p r s (nodes.filter a e) n = filter_made p e s (takes_filter a) (made_of p r a n) (sources_of p r a n)
  made_of_form p r s (nodes.calc a items) n = over (sources_of p r a n) (with_one (calc_query p items (structure_of a) s))
  made_of_form p r s (nodes.keep a names) n = over (sources_of p r a n) (with_one (left_query p (structure_of a) s))
  made_of_form p r s (nodes.drop_named a names) n = over (sources_of p r a n) (with_one (left_query p (structure_of a) s))
  -- a naming that renames nothing is its operand
  made_of_form p r s (nodes.rename a []) n = made_of p r a n
  made_of_form p r s (nodes.rename a (x ∷ xs)) n = over (sources_of p r a n) (with_one (rename_query p (structure_of a) s))
  made_of_form p r s (nodes.sub a items) n = over (sources_of p r a n) (with_one (sub_query p items (structure_of a) s))
  made_of_form p r s (nodes.join os spec) n = join_made p r spec.kind (joins.structures_of (operands_in os)) s (operands_of p r os n)
  made_of_form p r s (nodes.union (nodes.and_node a ns)) n = combined_of p r (λ b c. union_query p b c s) s ns (structure_of a) (sources_of p r a n)
  made_of_form p r s (nodes.intersect (nodes.and_node a ns)) n = combined_of p r (λ b c. intersection_query p b c s) s ns (structure_of a) (sources_of p r a n)
  made_of_form p r s (nodes.set_diff a b) n = over (and_then (sources_of p r a n) (sources_of p r b)) (with_two (difference_query p (structure_of a) (structure_of b) s))
  made_of_form p r s (nodes.sym_diff a b) n = over (and_then (sources_of p r a n) (sources_of p r b)) (with_two (symmetric_difference_query p (structure_of a) (structure_of b) s))
  made_of_form p r s (nodes.exists_in a b kept) n = over (and_then (sources_of p r a n) (sources_of p r b)) (with_two (existence_query p kept (structure_of a) (structure_of b) s))
  made_of_form p r s (nodes.pivot a id m) n = over (sources_of p r a n) (with_one (pivot_query p id m (structure_of a) s))
  made_of_form p r s (nodes.analytic_of a spec) n = over (sources_of p r a n) (with_one (analytic_query p spec (structure_of a) s))
  made_of_form p r s (nodes.time a o) n = time_made p r o (structure_of a) s (sources_of p r a n)
  made_of_form p r s (nodes.aggregate a spec) n = over (sources_of p r a n) (with_one (aggregate_query p spec (structure_of a) s))
  made_of_form p r s (nodes.unpivot a id m) n = over (sources_of p r a n) (with_one (unpivot_query p (structure_of a) s))
  made_of_form p r s (nodes.check a nodes.no_node spec) n = over (sources_of p r a n) (with_one (check_query p spec (structure_of a) s))
  made_of_form p r s (nodes.check a (nodes.some_node i) spec) n = over (and_then (sources_of p r a n) (sources_of p r i)) (with_two (imbalance_query p spec (structure_of a) (structure_of i) s))
  made_of_form p r s (nodes.check_datapoint a rules out) n = over (sources_of p r a n) (with_one (datapoint_query p rules.rules out (structure_of a) s))
  made_of_form p r s (nodes.check_hierarchy a rules m out) n = ruled_made p r (nodes.check_hierarchy a rules m out) s (sources_of p r a n)
  made_of_form p r s (nodes.hierarchy a rules m i out) n = ruled_made p r (nodes.hierarchy a rules m i out) s (sources_of p r a n)
  -- of nothing, which is never typed
  made_of_form p r s (nodes.union nodes.no_nodes) n = record { tables = []; query = []; next = n }
  made_of_form p r s (nodes.intersect nodes.no_nodes) n = record { tables = []; query = []; next = n }

  -- all operands of a join
  pub operands_of : Settings → (result : Text) → OperandTrees → ℕ → Sources
  operands_of p r nodes.no_operands n = by_names [] n
  operands_of p r (nodes.operand a alias os) n = and_then (sources_of p r a n) (operands_of p r os)

  -- operands one after the other: what there is and the next operand are in a table of their own, until the last operand comes
  pub combined_of : Settings → (result : Text) → (Structure → Structure → Text → Text → QueryTree) → Structure → NodeTrees → Structure → Sources → Made
  combined_of p r q s nodes.no_nodes a os = over os (with_one (shown_query p a s))
  combined_of p r q s (nodes.and_node b nodes.no_nodes) a os = over (and_then os (sources_of p r b)) (with_two (q a (structure_of b)))
  combined_of p r q s (nodes.and_node b (nodes.and_node c ns)) a os = combined_of p r q s (nodes.and_node c ns) s (stored r (over (and_then os (sources_of p r b)) (with_two (q a (structure_of b)))))

-- a filter of an expression
abbrev pub made_of_filter : Settings → (result : Text) → Structure → NodeTree → CompExp → ℕ → Made
made_of_filter p r s a e n = made_of_form p r s (nodes.filter a e) n

-- ---- statements

-- the last of a statement's tables has the result's name
abbrev pub statement_tables : Settings → Statement → List Table
statement_tables p s =
    let m = made_of p s.result s.node first_number in
    m.tables ++ table_of s.result m.query ∷ []

abbrev pub script_tables : Settings → List Statement → List Table
script_tables p ss = flat_map (statement_tables p) ss
