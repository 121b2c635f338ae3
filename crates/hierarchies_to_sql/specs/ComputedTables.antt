-- The tables of the points that `hierarchy` computes: the combinations, a table for each item that the operand gives, and in the order of
-- the rules a table of what each computes.
use Rattle.std.specs.Prelude.{◌+◌, ℕ, Bool, cond, true, filter, List, [], ◌∷◌, ◌++◌, map, not, Some, None}
use Rattle.std.specs.List.{flat_map, list_any}
use Rattle.vtl_decimal.specs.Settings.{Settings}
use Rattle.vtl_cell.specs.declared.cell.Cell.TheVariants as c
use Rattle.vtl_cell.specs.declared.operator.ScalarOp.TheVariants as op
use Rattle.vtl_syntax.specs.declared.statements.HierRule.{HierRule}
use Rattle.vtl_syntax.specs.declared.word_groups.HierInput.{HierInput}
use Rattle.vtl_syntax.specs.declared.word_groups.HierInput.TheVariants as input
use Rattle.vtl_syntax.specs.declared.word_groups.Mode.{Mode}
use Rattle.vtl_tree.specs.Columns.{column_named, columns_named, identifiers_of}
use Rattle.vtl_tree.specs.CompExp.{CompExp, const}
use Rattle.vtl_tree.specs.Names.{is_among}
use Rattle.vtl_tree.specs.RuleItems.{definitions, left_item, right_items}
use Rattle.vtl_tree.specs.Structure.{columns_of, same_name}
use Rattle.vtl_tree.specs.declared.structure.Structure.{Structure}
use Rattle.vtl_tuples.specs.Keys.{each_once}
use Rattle.vtl_meaning.specs.Turned.{other_identifiers}
use Rattle.vtl_rulings.specs.Hierarchies.{defines}
use Rattle.vtl_rulings.specs.HierarchyChecks.{Ruled}
use Rattle.sql_tree.specs.Trees.{QueryTree, SelectTree, Text}
use Rattle.selects_to_sql.specs.Queries.{first_alias, of_one, points_query, select_of, source_as}
use Rattle.selects_to_sql.specs.Tables.{Made, Sources, and_then, by_name, by_names, numbered, over, stored, table_of, with_one}
use Rattle.hierarchies_to_sql.specs.CheckTables.{sided, with_behind}
use Rattle.hierarchies_to_sql.specs.ItemTables.{Tables, combinations_structure, item_structure, key_exp, leaves_for, tables_by, with_table}
use Rattle.hierarchies_to_sql.specs.RuleSelects.{beside_items, computed_query}
use Rattle.hierarchies_to_sql.specs.SideExps.{Leaf, between, either, filled_exp, holds_never}
use Rattle.vtl_rulings.specs.Ordered.{rules_at}

-- ---- items that the operand gives

abbrev pub is_defined : List HierRule → (item : List ℕ) → Bool
is_defined rules item = list_any (defines item) rules

-- the right items, without those for which rules alone are asked
abbrev pub is_given : HierInput → List HierRule → (item : List ℕ) → Bool
is_given input.Dataset rules item = true
is_given input.Rule rules item = not (is_defined rules item)
is_given input.RulePriority rules item = true

abbrev pub given_items : HierInput → List HierRule → List (List ℕ)
given_items i rules = filter (is_given i rules) (each_once same_name (flat_map right_items rules))

-- ---- a computed item and the operand's

-- the computed value where it is not null, and otherwise the operand's
abbrev pub value_of_two : Ruled → (made given : Leaf) → CompExp
value_of_two h made given = between op.ValueOr h.kind made.value given.value

abbrev pub merged_exps : Ruled → Structure → List Leaf → List CompExp
merged_exps h a (made ∷ given ∷ ls) = columns_named (columns_of (combinations_structure h a)) (other_identifiers h.id a) ++ (value_of_two h made given ∷ const (c.Bool true) ∷ [])
merged_exps h a ls = []

-- where one of them is there
abbrev pub one_there : List Leaf → CompExp
one_there (made ∷ given ∷ ls) = either (filled_exp made) given.there
one_there ls = holds_never

-- two tables of one item
abbrev pub merged_query : Settings → Ruled → Structure → (keys made given : Text) → QueryTree
merged_query p h a keys made given =
    let both = made ∷ given ∷ [] in
    let leaves = leaves_for h a both in
    beside_items p h a keys both (merged_exps h a leaves) (item_structure h a) (Some (one_there leaves)) ∷ []

-- ---- rules one after the other

abbrev pub first_name : List Text → Text
first_name [] = []
first_name (x ∷ xs) = x

module _ (p : Settings) (result : Text) (h : Ruled) (m : Mode) (i : HierInput) (a : Structure) (keys : Text) (given : List (List ℕ)) where
  -- The table that stands for a computed item in the rules behind: that of the operand's item, that of the rule, or both merged. Where
  -- no rule has the item on the right, there is no table of the operand's, and the rule's is not read.
  abbrev pub taken_table : HierInput → Tables → HierRule → (made : Text) → ℕ → Sources
  taken_table input.Dataset tables r made n = by_name (tables (left_item r)) n
  taken_table input.Rule tables r made n = by_name made n
  taken_table input.RulePriority tables r made n =
      cond (is_among (left_item r) given) (stored result (over (by_name made n) (with_one (λ x. merged_query p h a keys x (tables (left_item r)))))) (by_name made n)

  -- the tables of rules, each behind those of its items
  abbrev pub run_tables : Tables → List HierRule → ℕ → Sources
  run_tables tables [] n = by_names [] n
  run_tables tables (r ∷ rules) n =
      let made = numbered result n in
      let taken = taken_table i tables r made (n + 1) in
      let others = run_tables (with_table (left_item r) (first_name taken.names) tables) rules taken.next in
      record { names = made ∷ others.names; tables = table_of made (computed_query p h a keys tables m r) ∷ (taken.tables ++ others.tables); next = others.next }

-- ---- the computed points

-- those of an item, from a table of its values
abbrev pub points_exps : Ruled → Structure → (item : List ℕ) → List CompExp
points_exps h a item =
    let columns = columns_of (item_structure h a) in
    map (key_exp h.id columns item) (identifiers_of a) ++ (column_named columns h.measure ∷ [])

abbrev pub points_select : Settings → Ruled → (a s : Structure) → (tables : Tables) → HierRule → SelectTree
points_select p h a s tables r = select_of p of_one (points_exps h a (left_item r)) s (source_as first_alias (tables (left_item r))) [] None

-- rule after rule, as they are written
abbrev pub all_points_query : Settings → Ruled → (a s : Structure) → (tables : Tables) → List HierRule → QueryTree
all_points_query p h a s tables rules = map (points_select p h a s tables) rules

-- where no rule computes an item
abbrev pub no_points_query : Settings → (a s : Structure) → (table : Text) → QueryTree
no_points_query p a s x = points_query p (columns_named (columns_of a) (columns_of s)) s (Some holds_never) x

module _ (p : Settings) (result : Text) (h : Ruled) (m : Mode) (i : HierInput) (a : Structure) (given : List (List ℕ)) (order : List HierRule) where
  -- the tables of rules in an order, over those of the combinations and of the items that the operand gives
  abbrev pub run_over : ℕ → (names : List Text) → Sources
  run_over n [] = by_names [] n
  run_over n (keys ∷ xs) = run_tables p result h m i a keys given (tables_by given xs) order n

  abbrev pub ordered_tables : (tables : List Text) → ℕ → Sources
  ordered_tables xs n =
      let os = sided p result h a given xs n in
      let run = run_over os.next os.names in
      record { names = run.names; tables = os.tables ++ run.tables; next = run.next }

module _ (p : Settings) (result : Text) (h : Ruled) (m : Mode) (i : HierInput) where
  abbrev pub computed_by : (defined order : List HierRule) → (a s : Structure) → Sources → Made
  computed_by [] order a s os = over os (with_one (no_points_query p a s))
  computed_by (r ∷ rules) order a s os =
      let run = ordered_tables p result h m i a (given_items i (r ∷ rules)) order os.names in
      over (and_then os run) (with_behind (λ x xs. all_points_query p h a s (tables_by (map left_item order) xs) (r ∷ rules)))

  -- the rules are run in the order of these places, and their points stand in the order in which the rules are written
  abbrev pub computed_made : List HierRule → (order : List ℕ) → (a s : Structure) → Sources → Made
  computed_made rules order a s os = computed_by (definitions rules) (rules_at rules order) a s os
