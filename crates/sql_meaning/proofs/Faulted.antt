-- The fault of a query is the worst of those of all that its selects evaluate.
use Rattle.std.proofs.Common.{◌≡◌, List, [], ◌∷◌, ◌++◌, map, Bool, true, false, cond, ◌||◌, Option, Some, None, refl, sym, ap, ◌∙◌}
use Rattle.std.specs.Prelude.{fold, zip}
use Rattle.std.specs.List.{flat_map, list_any}
use Rattle.std.specs.Option.{is_none}
use Rattle.vtl_decimal.specs.declared.number.Fault.TheVariants.{DivZero, Range}
use Rattle.vtl_decimal.specs.declared.number.Fault.{Fault}
use Rattle.vtl_cell.specs.Outcome.{Outcome, after, fault_in, faults_by, join, unless}
use Rattle.vtl_cell.specs.Row.{Row}
use Rattle.vtl_cell.specs.declared.kind.Kind.{Kind}
use Rattle.sql_tree.specs.Trees as tree
use Rattle.sql_tree.specs.Trees.{Exp, JoinTree, QueryTree, SelectTree}
use Rattle.sql_check_parts.specs.Queries.{is_grouped, joined_scope, query_columns, scope_of}
use Rattle.sql_check_parts.specs.Scopes.{Scope, with_source}
use Rattle.sql_meaning.specs.Faults.{Evaluations, at_condition, at_grouped, at_having, at_joins, at_keys, at_plain, evaluations, first_evaluations, is_division, is_range, query_evaluations, second_evaluations, worst}
use Rattle.sql_meaning.specs.From.{Joined, condition_fault, fault_at, first_of, joined, kept, pairs, source_rows, with_join}
use Rattle.sql_meaning.specs.Groups.{keys_by, rows_with}
use Rattle.sql_meaning.specs.Outcomes.{row_at, row_fault}
use Rattle.sql_meaning.specs.Selects.{Wanted, at_key, group_item, group_rows, grouped_rows, having_fault, item_value, kept_keys, plain_rows, query_value, rows_in, second_phase, select_value}
use Rattle.sql_meaning.specs.Tables.{Base, kinds_of, rows_from}
use Rattle.sql_meaning.specs.Values.{View, at_groups, at_rows}
use Rattle.sql_meaning.specs.Windows.{told_apart}
use Rattle.sql_meaning.proofs.UpToOrder.{faults_by-append, join_assoc, join_none}

-- ---- the worst of many

-- taken one after the other
abbrev one_by_one : Evaluations → Option Fault
one_by_one es = faults_by (λ e. e) es

worst_more : (e : Option Fault) (a b : Bool) → cond (is_division e || a) (Some DivZero) (cond (is_range e || b) (Some Range) None) ≡ join e (cond a (Some DivZero) (cond b (Some Range) None))
worst_more None a b = refl
worst_more (Some DivZero) a b = refl
worst_more (Some Range) true b = refl
worst_more (Some Range) false true = refl
worst_more (Some Range) false false = refl

worst_is : (es : Evaluations) → worst es ≡ one_by_one es
worst_is [] = refl
worst_is (e ∷ es) = worst_more e (list_any is_division es) (list_any is_range es) ∙ ap (join e) (worst_is es)

of_mapped : {X : Type 0} (f : X → Option Fault) (xs : List X) → faults_by f xs ≡ one_by_one (map f xs)
of_mapped f [] = refl
of_mapped f (x ∷ xs) = ap (join (f x)) (of_mapped f xs)

of_parts : {X : Type 0} (f : X → Evaluations) (xs : List X) → faults_by (λ x. one_by_one (f x)) xs ≡ one_by_one (flat_map f xs)
of_parts f [] = refl
of_parts f (x ∷ xs) = ap (join (one_by_one (f x))) (of_parts f xs) ∙ sym (faults_by-append (λ e. e) (f x) (flat_map f xs))

-- those of some items at many places
of_items : {I X : Type 0} (f : I → X → Option Fault) (items : List I) (xs : List X) → faults_by (λ x. faults_by (λ i. f i x) items) xs ≡ one_by_one (flat_map (λ x. map (λ i. f i x) items) xs)
of_items f items xs = ap (λ g. faults_by g xs) (λ i x. of_mapped (λ j. f j x) items i) ∙ of_parts (λ x. map (λ i. f i x) items) xs

pub fault_unless : {A : Type 0} (o : Option Fault) (x : A) → fault_in (unless o x) ≡ o
fault_unless None x = refl
fault_unless (Some f) x = refl

module _ (b : Base) where
  -- ---- the first phase

  joins_fault : (js : List JoinTree) (f : Joined) → (fold (with_join b) f js).fault ≡ join f.fault (one_by_one (at_joins b f js))
  joins_fault [] f = sym (join_none f.fault)
  joins_fault (tree.cross s ∷ js) f = joins_fault js (with_join b f (tree.cross s))
  joins_fault (tree.on kind s e ∷ js) f =
      let v = at_rows b (with_source b.tables f.scope s) in
      let rows = pairs f.rows (rows_from b s) in
      let next = with_join b f (tree.on kind s e) in
      joins_fault js next
      ∙ join_assoc f.fault (faults_by (fault_at v e) rows) (one_by_one (at_joins b next js))
      ∙ ap (λ g. join f.fault (join g (one_by_one (at_joins b next js)))) (of_mapped (fault_at v e) rows)
      ∙ ap (join f.fault) (sym (faults_by-append (λ e. e) (map (fault_at v e) rows) (at_joins b next js)))

  joins_scope : (js : List JoinTree) (f : Joined) → (fold (with_join b) f js).scope ≡ joined_scope b.tables f.scope js
  joins_scope [] f = refl
  joins_scope (tree.cross s ∷ js) f = joins_scope js (with_join b f (tree.cross s))
  joins_scope (tree.on kind s e ∷ js) f = joins_scope js (with_join b f (tree.on kind s e))

  pub scope_is : (s : SelectTree) → (joined b s).scope ≡ scope_of b.tables s
  scope_is s = joins_scope s.joins (first_of b s.source)

  where_fault : (v : View) (e : Option Exp) (rows : List Row) → condition_fault v e rows ≡ one_by_one (at_condition v e rows)
  where_fault v None rows = refl
  where_fault v (Some e) rows = of_mapped (fault_at v e) rows

  first_fault : (s : SelectTree) → join (joined b s).fault (condition_fault (at_rows b (scope_of b.tables s)) s.condition (joined b s).rows) ≡ worst (first_evaluations b s)
  first_fault s =
      let v = at_rows b (scope_of b.tables s) in
      let ons = at_joins b (first_of b s.source) s.joins in
      let wheres = at_condition v s.condition (joined b s).rows in
      (λ i. join (joins_fault s.joins (first_of b s.source) i) (where_fault v s.condition (joined b s).rows i))
      ∙ sym (faults_by-append (λ e. e) ons wheres)
      ∙ sym (worst_is (ons ++ wheres))

  -- FROM and WHERE, over the sources of the select
  source_is : (s : SelectTree) → source_rows b s ≡ unless (worst (first_evaluations b s)) (kept (at_rows b (scope_of b.tables s)) s.condition (joined b s).rows)
  source_is s =
      let f = joined b s in
      ap (λ (scope : Scope). unless (join f.fault (condition_fault (at_rows b scope) s.condition f.rows)) (kept (at_rows b scope) s.condition f.rows)) (scope_is s)
      ∙ ap (λ o. unless o (kept (at_rows b (scope_of b.tables s)) s.condition f.rows)) (first_fault s)

  pub source_fault : (s : SelectTree) → fault_in (source_rows b s) ≡ worst (first_evaluations b s)
  source_fault s = ap fault_in (source_is s) ∙ fault_unless (worst (first_evaluations b s)) (kept (at_rows b (scope_of b.tables s)) s.condition (joined b s).rows)

  -- ---- the second phase

  plain_fault : (v : View) (items : List Wanted) (rows : List Row) → fault_in (plain_rows v items rows) ≡ one_by_one (at_plain v items rows)
  plain_fault v items rows =
      fault_unless (faults_by (row_fault (item_value v rows) items) (told_apart rows)) (map (row_at (item_value v rows) items) (told_apart rows))
      ∙ of_items (λ i x. fault_in (item_value v rows i x)) items (told_apart rows)

  having_is : (v : View) (members : Row → List Row) (having : Option Exp) (keys : List Row) → having_fault v members having keys ≡ one_by_one (at_having v members having keys)
  having_is v members None keys = refl
  having_is v members (Some e) keys = of_mapped (λ key. fault_in (at_key v members e key)) keys

  keys_fault : (v : View) (items : List Wanted) (having : Option Exp) (members : Row → List Row) (keys : List Row) → fault_in (group_rows v items having members keys) ≡ one_by_one (at_keys v items having members keys)
  keys_fault v items having members keys =
      let ks = kept_keys v members having keys in
      fault_unless (join (having_fault v members having keys) (faults_by (row_fault (group_item v members) items) ks)) (map (row_at (group_item v members) items) ks)
      ∙ (λ i. join (having_is v members having keys i) (of_items (λ i x. fault_in (group_item v members i x)) items ks i))
      ∙ sym (faults_by-append (λ e. e) (at_having v members having keys) (flat_map (λ key. map (λ i. fault_in (group_item v members i key)) items) ks))

  second_fault : (v : View) (items : List Wanted) (s : SelectTree) (rows : List Row) → fault_in (second_phase v items s rows) ≡ worst (second_evaluations v items s rows)
  second_fault v items s rows = go (is_grouped s) ∙ sym (worst_is (second_evaluations v items s rows))
    where
      go : (g : Bool) → fault_in (cond g (grouped_rows v items s.group s.having rows) (plain_rows v items rows)) ≡ one_by_one (cond g (at_grouped v items s rows) (at_plain v items rows))
      go true = keys_fault (at_groups v.base v.scope s.group) items s.having (rows_with (map v.place s.group) rows) (keys_by (map v.place s.group) rows)
      go false = plain_fault v items rows

  -- ---- selects and queries

  select_fault : (kinds : List Kind) (s : SelectTree) → fault_in (select_value b kinds s) ≡ one_by_one (evaluations b kinds s)
  select_fault kinds s =
      let v = at_rows b (scope_of b.tables s) in
      let rows = kept v s.condition (joined b s).rows in
      let first = first_evaluations b s in
      let second = second_evaluations v (zip s.items kinds) s rows in
      let rest = cond (is_none (worst first)) second [] in
      ap (λ m. fault_in (after m (second_phase v (zip s.items kinds) s))) (source_is s)
      ∙ go (worst first) (second_phase v (zip s.items kinds) s) rows second (second_fault v (zip s.items kinds) s rows)
      ∙ ap (λ o. join o (one_by_one rest)) (worst_is first)
      ∙ sym (faults_by-append (λ e. e) first rest)
    where
      go : (o : Option Fault) (f : List Row → Outcome (List Row)) (rows : List Row) (second : Evaluations) → fault_in (f rows) ≡ worst second → fault_in (after (unless o rows) f) ≡ join o (one_by_one (cond (is_none o) second []))
      go None f rows second e = e ∙ worst_is second
      go (Some d) f rows second e = sym (join_none (Some d))

  pub select_worst : (kinds : List Kind) (s : SelectTree) → fault_in (select_value b kinds s) ≡ worst (evaluations b kinds s)
  select_worst kinds s = select_fault kinds s ∙ sym (worst_is (evaluations b kinds s))

  pub query_fault : (q : QueryTree) → fault_in (query_value b q) ≡ worst (query_evaluations b q)
  query_fault q =
      let kinds = kinds_of (query_columns b.tables q) in
      fault_unless (faults_by fault_in (map (select_value b kinds) q)) (flat_map rows_in (map (select_value b kinds) q))
      ∙ each kinds q
      ∙ of_parts (evaluations b kinds) q
      ∙ sym (worst_is (query_evaluations b q))
    where
      each : (kinds : List Kind) (ss : List SelectTree) → faults_by fault_in (map (select_value b kinds) ss) ≡ faults_by (λ s. one_by_one (evaluations b kinds s)) ss
      each kinds [] = refl
      each kinds (s ∷ ss) = λ i. join (select_fault kinds s i) (each kinds ss i)
