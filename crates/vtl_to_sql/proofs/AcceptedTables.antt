-- The next number of a table counts the tables that are made.
use Rattle.std.proofs.Common.{◌≡◌, ℕ, ◌+◌, Bool, true, false, cond, List, [], ◌∷◌, ◌++◌, length, arith, length-append}
use Rattle.vtl_decimal.specs.Settings.{Settings}
use Rattle.vtl_tree.specs.CompExp.{CompExp}
use Rattle.vtl_tree.specs.declared.structure.Structure.{Structure}
use Rattle.vtl_syntax.specs.declared.statements.HierRule.{HierRule}
use Rattle.vtl_syntax.specs.declared.word_groups.CheckOut.{CheckOut}
use Rattle.vtl_syntax.specs.declared.word_groups.HierInput.{HierInput}
use Rattle.vtl_syntax.specs.declared.word_groups.HierInput.TheVariants as input
use Rattle.vtl_syntax.specs.declared.word_groups.HierOut.{HierOut}
use Rattle.vtl_syntax.specs.declared.word_groups.HierOut.TheVariants as points
use Rattle.vtl_syntax.specs.declared.word_groups.Mode.{Mode}
use Rattle.vtl_syntax.specs.declared.word_groups.JoinKind.{JoinKind}
use Rattle.vtl_syntax.specs.declared.word_groups.JoinKind.TheVariants as join
use Rattle.vtl_tree.specs.Names.{is_among}
use Rattle.vtl_tree.specs.declared.calls.TimeOp.{TimeOp}
use Rattle.vtl_tree.specs.declared.calls.TimeOp.TheVariants as time
use Rattle.vtl_tree.specs.RuleItems.{definitions, left_item}
use Rattle.vtl_rulings.specs.HierarchyChecks.{Ruled, ruled_by}
use Rattle.vtl_rulings.specs.Ordered.{places_or_none, rules_at}
use Rattle.vtl_scripts.specs.Made.{operands_in}
use Rattle.vtl_tree.specs.Trees as nodes
use Rattle.vtl_tree.specs.Trees.{FormTree, NodeTree, NodeTrees, OperandTrees, structure_of}
use Rattle.vtl_tree.specs.Joins.{structures_of}
use Rattle.sql_tree.specs.Trees.{QueryTree, Text}
use Rattle.vtl_to_sql.specs.Sets.{intersection_query, union_query}
use Rattle.joins_to_sql.specs.FullJoins.{key_structure, keys_query, once_query}
use Rattle.selects_to_sql.specs.Tables.{Made, Sources, and_then, by_name, by_names, numbered, over, stored, table_of, with_one, with_two}
use Rattle.vtl_to_sql.specs.Tables.{combined_of, filter_made, made_of, made_of_form, operands_of, source_of, sources_of, takes_filter}
use Rattle.joins_to_sql.specs.JoinTables.{full_made, join_made, keys_of}
use Rattle.hierarchies_to_sql.specs.CheckTables.{check_hierarchy_made, checked_items, sided}
use Rattle.hierarchies_to_sql.specs.ComputedTables.{computed_by, computed_made, first_name, given_items, merged_query, ordered_tables, run_over, run_tables, taken_table}
use Rattle.hierarchies_to_sql.specs.ItemTables.{Tables as ItemTables, combinations_of, item_query, item_tables, others_structure, tables_by, with_table}
use Rattle.times_to_sql.specs.Fills.{fill_keys_query}
use Rattle.times_to_sql.specs.Flows.{parts_query, previous_value, total}
use Rattle.times_to_sql.specs.TimeTables.{time_made}
use Rattle.vtl_to_sql.specs.Hierarchies.{computed_table, hierarchy_made, ruled_made}

-- the next number behind so many tables
abbrev AreCounted : ℕ → Sources → Type 0
AreCounted k os = os.next ≡ k + length os.tables

stored_counted : (r : Text) (m : Made) (k : ℕ) → m.next ≡ k + length m.tables → AreCounted k (stored r m)
stored_counted r m k h = omega (arith, h, length-append m.tables (table_of (numbered r m.next) m.query ∷ []))

source_counted : (r : Text) (form : FormTree) (k : ℕ) (m : Made) → m.next ≡ k + length m.tables → AreCounted k (source_of r form k m)
source_counted r (nodes.named x) k m h = omega arith
source_counted r form k m h = stored_counted r m k h

-- operands, and others behind them
behind_counted : (a b : Sources) (k : ℕ) → AreCounted k a → AreCounted a.next b → b.next ≡ k + length (a.tables ++ b.tables)
behind_counted a b k h i = omega (arith, h, i, length-append a.tables b.tables)

filter_counted : (p : Settings) (e : CompExp) (s : Structure) (taken : Bool) (m : Made) (os : Sources) (k : ℕ) → m.next ≡ k + length m.tables → AreCounted k os → (filter_made p e s taken m os).next ≡ k + length (filter_made p e s taken m os).tables
filter_counted p e s true m os k h i = h
filter_counted p e s false m os k h i = i

-- a full join has two tables of its own
keys_counted : (p : Settings) (r : Text) (a : Structure) (ss : List Structure) (names : List Text) (k : ℕ) → AreCounted k (keys_of p r a ss names k)
keys_counted p r a ss names k =
    let all = over (by_names names k) (keys_query p a ss) in
    let once = over (stored r all) (with_one (once_query p (key_structure a))) in
    stored_counted r once k (stored_counted r all k (omega arith))

full_counted : (p : Settings) (r : Text) (ss : List Structure) (s : Structure) (os : Sources) (k : ℕ) → AreCounted k os → (full_made p r ss s os).next ≡ k + length (full_made p r ss s os).tables
full_counted p r [] s os k h = h
full_counted p r (a ∷ ss) s os k h = behind_counted os (keys_of p r a (a ∷ ss) os.names os.next) k h (keys_counted p r a (a ∷ ss) os.names os.next)

join_counted : (p : Settings) (r : Text) (kind : JoinKind) (ss : List Structure) (s : Structure) (os : Sources) (k : ℕ) → AreCounted k os → (join_made p r kind ss s os).next ≡ k + length (join_made p r kind ss s os).tables
join_counted p r join.Inner ss s os k h = h
join_counted p r join.Left ss s os k h = h
join_counted p r join.Cross ss s os k h = h
join_counted p r join.Full ss s os k h = full_counted p r ss s os k h

-- ---- tables of hierarchical rules

module _ (p : Settings) (r : Text) (h : Ruled) (a : Structure) where
  items_counted : (xs : List Text) (items : List (List ℕ)) (k : ℕ) → AreCounted k (item_tables p r h a xs items k)
  items_counted xs [] k = omega arith
  items_counted xs (item ∷ items) k =
      let m = over (by_names xs k) (with_one (item_query p h a item)) in
      let one = stored r m in
      behind_counted one (item_tables p r h a xs items one.next) k (stored_counted r m k (omega arith)) (items_counted xs items one.next)

  sided_counted : (items : List (List ℕ)) (xs : List Text) (k : ℕ) → AreCounted k (sided p r h a items xs k)
  sided_counted items xs k =
      let first = combinations_of p r h a xs k in
      behind_counted first (item_tables p r h a xs items first.next) k (keys_counted p r (others_structure h a) (a ∷ []) xs k) (items_counted xs items first.next)

  checked_counted : (m : Mode) (o : CheckOut) (rules : List HierRule) (s : Structure) (os : Sources) (k : ℕ) → AreCounted k os → (check_hierarchy_made p r h m o rules a s os).next ≡ k + length (check_hierarchy_made p r h m o rules a s os).tables
  checked_counted m o rules s os k c = behind_counted os (sided p r h a (checked_items rules) os.names os.next) k c (sided_counted (checked_items rules) os.names os.next)

  module _ (m : Mode) (i : HierInput) where
    module _ (keys : Text) (given : List (List ℕ)) where
      taken_counted : (input : HierInput) (tables : ItemTables) (q : HierRule) (made : Text) (k : ℕ) → AreCounted k (taken_table p r h m i a keys given input tables q made k)
      taken_counted input.Dataset tables q made k = omega arith
      taken_counted input.Rule tables q made k = omega arith
      taken_counted input.RulePriority tables q made k = go (is_among (left_item q) given)
        where
          both : Made
          both = over (by_name made k) (with_one (λ x. merged_query p h a keys x (tables (left_item q))))

          go : (b : Bool) → AreCounted k (cond b (stored r both) (by_name made k))
          go true = stored_counted r both k (omega arith)
          go false = omega arith

      run_counted : (tables : ItemTables) (rules : List HierRule) (k : ℕ) → AreCounted k (run_tables p r h m i a keys given tables rules k)
      run_counted tables [] k = omega arith
      run_counted tables (q ∷ rules) k =
          let taken = taken_table p r h m i a keys given i tables q (numbered r k) (k + 1) in
          let behind = with_table (left_item q) (first_name taken.names) tables in
          let others = run_tables p r h m i a keys given behind rules taken.next in
          omega (arith, taken_counted i tables q (numbered r k) (k + 1), run_counted behind rules taken.next, length-append taken.tables others.tables)

    over_counted : (given : List (List ℕ)) (order : List HierRule) (k : ℕ) (names : List Text) → AreCounted k (run_over p r h m i a given order k names)
    over_counted given order k [] = omega arith
    over_counted given order k (keys ∷ xs) = run_counted keys given (tables_by given xs) order k

    ordered_counted : (given : List (List ℕ)) (order : List HierRule) (xs : List Text) (k : ℕ) → AreCounted k (ordered_tables p r h m i a given order xs k)
    ordered_counted given order xs k =
        let first = sided p r h a given xs k in
        behind_counted first (run_over p r h m i a given order first.next first.names) k (sided_counted given xs k) (over_counted given order first.next first.names)

    computed_counted : (defined order : List HierRule) (s : Structure) (os : Sources) (k : ℕ) → AreCounted k os → (computed_by p r h m i defined order a s os).next ≡ k + length (computed_by p r h m i defined order a s os).tables
    computed_counted [] order s os k c = c
    computed_counted (q ∷ qs) order s os k c =
        let given = given_items i (q ∷ qs) in
        behind_counted os (ordered_tables p r h m i a given order os.names os.next) k c (ordered_counted given order os.names os.next)

    hierarchy_counted : (o : HierOut) (rules : List HierRule) (order : List ℕ) (s : Structure) (os : Sources) (k : ℕ) → AreCounted k os → (hierarchy_made p r h m i o rules order a s os).next ≡ k + length (hierarchy_made p r h m i o rules order a s os).tables
    hierarchy_counted points.Computed rules order s os k c = computed_counted (definitions rules) (rules_at rules order) s os k c
    hierarchy_counted points.All rules order s os k c =
        let made = computed_made p r h m i rules order a s (by_names os.names os.next) in
        behind_counted os (computed_table p r h m i rules order a s os.names os.next) k c (stored_counted r made os.next (computed_counted (definitions rules) (rules_at rules order) s (by_names os.names os.next) os.next (omega arith)))

-- ---- tables of time operators
over_parts_counted : (r : Text) (Q : List Text → QueryTree) (os : Sources) (k : ℕ) → AreCounted k os → let all = stored r (over (by_names os.names os.next) Q) in all.next ≡ k + length (os.tables ++ all.tables)
over_parts_counted r Q os k h =
    let m = over (by_names os.names os.next) Q in
    behind_counted os (stored r m) k h (stored_counted r m os.next (omega arith))

time_counted : (p : Settings) (r : Text) (o : TimeOp) (a s : Structure) (os : Sources) (k : ℕ) → AreCounted k os → (time_made p r o a s os).next ≡ k + length (time_made p r o a s os).tables
time_counted p r (time.Shift n) a s os k h = h
time_counted p r (time.Fill f) a s os k h = over_parts_counted r (with_one (fill_keys_query f a)) os k h
time_counted p r time.FlowToStock a s os k h = over_parts_counted r (with_one (parts_query p total a s)) os k h
time_counted p r time.StockToFlow a s os k h = over_parts_counted r (with_one (parts_query p previous_value a s)) os k h

module _ (p : Settings) (r : Text) where
  mutual
    unfolding ruled_made

    pub made_counted : (n : NodeTree) (k : ℕ) → (made_of p r n k).next ≡ k + length (made_of p r n k).tables
    made_counted (nodes.node s form) k = form_counted s form k

    operand_counted : (n : NodeTree) (k : ℕ) → (sources_of p r n k).next ≡ k + length (sources_of p r n k).tables
    operand_counted (nodes.node s form) k = source_counted r form k (made_of_form p r s form k) (form_counted s form k)

    form_counted : (s : Structure) (form : FormTree) (k : ℕ) → (made_of_form p r s form k).next ≡ k + length (made_of_form p r s form k).tables
    form_counted s (nodes.named x) k = omega arith
    form_counted s (nodes.measures m a) k = operand_counted a k
    form_counted s (nodes.pair o a b) k = let x = sources_of p r a k in behind_counted x (sources_of p r b x.next) k (operand_counted a k) (operand_counted b x.next)
    form_counted s (nodes.choose q a b) k =
        let x = sources_of p r q k in
        let y = sources_of p r a x.next in
        let z = sources_of p r b y.next in
        behind_counted x (record { names = y.names ++ z.names; tables = y.tables ++ z.tables; next = z.next }) k (operand_counted q k) (behind_counted y z x.next (operand_counted a x.next) (operand_counted b y.next))
    form_counted s (nodes.member a m) k = operand_counted a k
    form_counted s (nodes.filter a e) k = filter_counted p e s (takes_filter a) (made_of p r a k) (sources_of p r a k) k (made_counted a k) (operand_counted a k)
    form_counted s (nodes.calc a items) k = operand_counted a k
    form_counted s (nodes.keep a names) k = operand_counted a k
    form_counted s (nodes.drop_named a names) k = operand_counted a k
    form_counted s (nodes.rename a []) k = made_counted a k
    form_counted s (nodes.rename a (x ∷ xs)) k = operand_counted a k
    form_counted s (nodes.sub a items) k = operand_counted a k
    form_counted s (nodes.pivot a id m) k = operand_counted a k
    form_counted s (nodes.unpivot a id m) k = operand_counted a k
    form_counted s (nodes.aggregate a spec) k = operand_counted a k
    form_counted s (nodes.analytic_of a spec) k = operand_counted a k
    form_counted s (nodes.time a o) k = time_counted p r o (structure_of a) s (sources_of p r a k) k (operand_counted a k)
    form_counted s (nodes.union (nodes.and_node a ns)) k = combined_counted (λ b c. union_query p b c s) s ns (structure_of a) (sources_of p r a k) k (operand_counted a k)
    form_counted s (nodes.intersect (nodes.and_node a ns)) k = combined_counted (λ b c. intersection_query p b c s) s ns (structure_of a) (sources_of p r a k) k (operand_counted a k)
    form_counted s (nodes.set_diff a b) k = let x = sources_of p r a k in behind_counted x (sources_of p r b x.next) k (operand_counted a k) (operand_counted b x.next)
    form_counted s (nodes.sym_diff a b) k = let x = sources_of p r a k in behind_counted x (sources_of p r b x.next) k (operand_counted a k) (operand_counted b x.next)
    form_counted s (nodes.exists_in a b kept) k = let x = sources_of p r a k in behind_counted x (sources_of p r b x.next) k (operand_counted a k) (operand_counted b x.next)
    form_counted s (nodes.join os spec) k = join_counted p r spec.kind (structures_of (operands_in os)) s (operands_of p r os k) k (operands_counted os k)
    form_counted s (nodes.check a nodes.no_node spec) k = operand_counted a k
    form_counted s (nodes.check a (nodes.some_node i) spec) k = let x = sources_of p r a k in behind_counted x (sources_of p r i x.next) k (operand_counted a k) (operand_counted i x.next)
    form_counted s (nodes.check_datapoint a rules out) k = operand_counted a k
    form_counted s (nodes.check_hierarchy a rules m o) k = checked_counted p r (ruled_by rules (structure_of a)) (structure_of a) m o rules.rules s (sources_of p r a k) k (operand_counted a k)
    form_counted s (nodes.hierarchy a rules m i o) k = hierarchy_counted p r (ruled_by rules (structure_of a)) (structure_of a) m i o rules.rules (places_or_none rules.order) s (sources_of p r a k) k (operand_counted a k)
    form_counted s (nodes.union nodes.no_nodes) k = omega arith
    form_counted s (nodes.intersect nodes.no_nodes) k = omega arith

    operands_counted : (os : OperandTrees) (k : ℕ) → (operands_of p r os k).next ≡ k + length (operands_of p r os k).tables
    operands_counted nodes.no_operands k = omega arith
    operands_counted (nodes.operand a alias os) k = let x = sources_of p r a k in behind_counted x (operands_of p r os x.next) k (operand_counted a k) (operands_counted os x.next)

    combined_counted : (q : Structure → Structure → Text → Text → QueryTree) (s : Structure) (ns : NodeTrees) (a : Structure) (os : Sources) (k : ℕ) → os.next ≡ k + length os.tables → (combined_of p r q s ns a os).next ≡ k + length (combined_of p r q s ns a os).tables
    combined_counted q s nodes.no_nodes a os k h = h
    combined_counted q s (nodes.and_node b nodes.no_nodes) a os k h = behind_counted os (sources_of p r b os.next) k h (operand_counted b os.next)
    combined_counted q s (nodes.and_node b (nodes.and_node c ns)) a os k h =
        let m = over (and_then os (sources_of p r b)) (with_two (q a (structure_of b))) in
        combined_counted q s (nodes.and_node c ns) s (stored r m) k (stored_counted r m k (behind_counted os (sources_of p r b os.next) k h (operand_counted b os.next)))
