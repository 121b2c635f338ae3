-- An aggregate is a grouped select with an item for each aggregate.
use Rattle.std.proofs.Common.{◌≡◌, ℕ, ◌≤◌, true, false, List, [], ◌∷◌, ◌++◌, cond, map, Option, Some, None, Ok, Err, refl, ap, sym, ◌∙◌, subst, arith}
use Rattle.std.specs.Prelude.{IfOk, is_some, option_and_then}
use Rattle.std.specs.List.{AllByRecursion, filter}
use Rattle.std.specs.Option.{IfSome, option_map_or}
use Rattle.std.proofs.lemmas.List.{map-append}
use Rattle.vtl_lists.proofs.Alls.{all_more}
use Rattle.grammar_forms.specs.Written.{Each}
use Rattle.vtl_cell.specs.Conversion.{as_kind}
use Rattle.vtl_cell.specs.Kinds.{is_of}
use Rattle.vtl_decimal.specs.declared.number.Fault.{Fault}
use Rattle.vtl_cell.specs.Outcome.{Outcome, after, fault_in, faults_by, join, unless}
use Rattle.vtl_cell.specs.Outcomes.{branch, first_chosen, is_true}
use Rattle.vtl_cell.specs.Row.{Row}
use Rattle.vtl_cell.specs.ScalarKinds.{common_kind, meets}
use Rattle.vtl_decimal.specs.Settings.{Settings}
use Rattle.vtl_cell.specs.declared.cell.Cell.{Cell}
use Rattle.vtl_cell.specs.declared.cell.Cell.TheVariants as c
use Rattle.vtl_cell.specs.declared.kind.Kind.{Kind}
use Rattle.vtl_cell.specs.declared.kind.Kind.TheVariants as k
use Rattle.vtl_cell.specs.declared.operator.AggKind.{AggKind}
use Rattle.vtl_cell.specs.declared.operator.AggKind.TheVariants as agg
use Rattle.vtl_tree.specs.CompExp.{CompExp, aggregate, const}
use Rattle.vtl_tree.specs.DataSet.{IsDataSet, is_point}
use Rattle.vtl_tree.specs.Structure.{columns_of, names_of}
use Rattle.vtl_tree.specs.declared.expression.AggCall.{AggCall}
use Rattle.vtl_tree.specs.declared.structure.Component.{Component}
use Rattle.vtl_tree.specs.declared.structure.Structure.{Structure}
use Rattle.vtl_tuples.proofs.Lists.{map_same}
use Rattle.vtl_tree.specs.Names.{component_of}
use Rattle.vtl_cell.specs.AggregateKinds.{aggregate_kind}
use Rattle.vtl_meaning.specs.Aggregates.{Condition, Made, aggregate_of, call_for, condition_fault, condition_of, group_fault, group_point, is_kept, made_of}
use Rattle.vtl_meaning.specs.AggregateShapes.{IsMadeColumn, given_kind, given_of}
use Rattle.vtl_tree.specs.Columns.{columns_named, identifiers_of, kind_named, others_of, place_of, places_in}
use Rattle.vtl_meaning.specs.GroupExpressions.{aggregated}
use Rattle.vtl_meaning.specs.Groups.{keys_by, places_named}
use Rattle.vtl_meaning.specs.Made.{Aggregates, IsColumnAt, IsGroupCondition, IsGrouped, IsTypedInGroups}
use Rattle.vtl_meaning.specs.Points.{cell_or_null, with_points}
use Rattle.vtl_tree.specs.Trees.{AggTree}
use Rattle.vtl_meaning.proofs.FoundColumns.{at-place, kind-found}
use Rattle.vtl_meaning.proofs.GroupLooks.{all_points, one_key}
use Rattle.vtl_meaning.proofs.GroupPoints.{kept_are, point_is}
use Rattle.expressions_to_sql.proofs.OverGroups.{group_fits, group_formed, group_kind, group_value_is}
use Rattle.vtl_meaning.proofs.OwnColumns.{columns_apart, own_among}
use Rattle.vtl_meaning.proofs.Places.{columns_split, identifiers_apart}
use Rattle.vtl_meaning.proofs.ValueKinds.{point_parts}
use Rattle.sql_tree.specs.Formed.{IsColumn, IsExp, IsMaybeExp, IsName, exp_depth}
use Rattle.sql_tree.specs.Trees.{Exp, SelectTree, Text}
use Rattle.sql_tree.specs.declared.parts.Column.{Column}
use Rattle.sql_check_parts.specs.Expressions.{site}
use Rattle.sql_check_laws.specs.Fits.{IsCondition, IsMaybeCondition, IsSeen}
use Rattle.sql_check_parts.specs.Kinds.{kind_in}
use Rattle.sql_meaning.specs.Groups.{rows_with}
use Rattle.sql_meaning.specs.Groups as sql
use Rattle.expressions_to_sql.specs.Names.{Names}
use Rattle.sql_check_parts.specs.Queries.{is_grouped}
use Rattle.sql_check_parts.specs.Scopes.{Scope, grouping_of, or_null}
use Rattle.sql_meaning.specs.Scripts.{Data, base_of, tables_in}
use Rattle.sql_meaning.specs.Selects.{having_fault, kept_keys}
use Rattle.sql_meaning.specs.Tables.{Base}
use Rattle.expressions_to_sql.specs.ToSql.{aggregate_to_sql, group_columns, to_sql}
use Rattle.sql_meaning.specs.Values.{View, at_groups, place_in, value as sql_value}
use Rattle.selects_to_sql.specs.Writable.{CanBeWritten, HaveNames}
use Rattle.groups_to_sql.specs.Grouped.{aggregate_query, aggregated_exps, kept_where, made_exp, where_rows}
use Rattle.selects_to_sql.specs.Queries.{all_to_sql, first_alias, items_as, of_one, source_as}
use Rattle.selects_to_sql.specs.Runs.{IsTable, printable_depth}
use Rattle.selects_to_sql.specs.Groups.{grouped_as, has_rows}
use Rattle.selects_to_sql.proofs.Coded.{truth_of}
use Rattle.selects_to_sql.proofs.Exact.{IsExactly}
use Rattle.selects_to_sql.proofs.Expressions.{Translates}
use Rattle.selects_to_sql.proofs.Givens.{AreGiven}
use Rattle.selects_to_sql.proofs.GroupItems.{AreGroupItems, IsGroupItem, each_kept, groups_behind, groups_give}
use Rattle.selects_to_sql.proofs.GroupKeys.{IsIn, group_printed, group_seen, key_cell, key_items, keys_before, keys_quiet, placed_in, truth_is}
use Rattle.selects_to_sql.proofs.OneOperand.{one_from, own_cells, rows_there, same_functions}
use Rattle.selects_to_sql.proofs.SelectItems.{Valued, gives_same, values_at, values_fault}
use Rattle.selects_to_sql.proofs.Sources.{one_formed, one_names, one_scope}
use Rattle.selects_to_sql.proofs.Unions.{one_exactly}

-- ---- kinds

-- an aggregate that is given a kind takes the values of its component
taken : (xs : List Component) (f : AggKind) (component : Option (List ℕ)) (kind : Kind) → given_of xs f component ≡ Some kind → Aggregates xs f component kind
taken xs f (Some name) kind e = go (component_of name xs) refl e
  where
    go : (o : Option Component) → component_of name xs ≡ o → option_and_then (λ x. aggregate_kind f x.kind) o ≡ Some kind → Aggregates xs f (Some name) kind
    go None h i = cc
    go (Some x) h i =
        let known : kind_named name xs ≡ x.kind = kind-found name xs x h in
        (subst (λ q. IsColumnAt (place_of name xs) name q xs) (sym known) (at-place name xs x h), ap (aggregate_kind f) known ∙ i)
taken xs agg.Count None kind e = let same : kind ≡ k.Int = cc in (refl, same)
taken xs f None kind e = cc

truth_shared : (kind : Kind) → meets k.Bool kind ≡ true → common_kind (kind ∷ k.Bool ∷ []) ≡ Some k.Bool
truth_shared k.Null h = refl
truth_shared k.Bool h = refl
truth_shared kind h = cc

after_bool : (p : Settings) (m : Outcome Cell) → after m (as_kind p k.Bool) ≡ m
after_bool p (Ok v) = refl
after_bool p (Err f) = refl

shallow : (f : AggKind) (component : Option (List ℕ)) → exp_depth (aggregate_to_sql of_one f component) ≤ printable_depth
shallow f None = omega arith
shallow f (Some name) = omega arith

-- what stands behind the cells of columns is a point of the others
point_behind : (zs ys : List Component) (key r : Row) → is_point zs key ≡ true → is_point (zs ++ ys) (key ++ r) ≡ true → is_point ys r ≡ true
point_behind [] ys [] r h e = e
point_behind [] ys (v ∷ key) r h e = cc
point_behind (z ∷ zs) ys [] r h e = cc
point_behind (z ∷ zs) ys (v ∷ key) r h e = point_behind zs ys key r (point_parts z zs v key h).2 (point_parts z (zs ++ ys) v (key ++ r) e).2

abbrev IsOfKind : (Component → Outcome Cell) → Component → Type 0
IsOfKind f y = IfOk (f y) (λ v. is_of y.kind v ≡ true)

each_of_kind : (f : Component → Outcome Cell) (ys : List Component) → is_point ys (map (λ y. cell_or_null (f y)) ys) ≡ true → AllByRecursion (IsOfKind f) ys
each_of_kind f [] h = tt
each_of_kind f (y ∷ ys) h =
    let parts = point_parts y ys (cell_or_null (f y)) (map (λ z. cell_or_null (f z)) ys) h in
    (found (f y) parts.0, each_of_kind f ys parts.2)
  where
    found : (m : Outcome Cell) → is_of y.kind (cell_or_null m) ≡ true → IfOk m (λ v. is_of y.kind v ≡ true)
    found (Ok v) i = i
    found (Err e) i = tt

places_by_names : (xs zs : List Component) → places_in xs zs ≡ places_named (names_of zs) xs
places_by_names xs [] = refl
places_by_names xs (z ∷ zs) = ap (λ l. place_of z.name xs ∷ l) (places_by_names xs zs)

-- all keys, and no fault, where there is no condition
all_kept : (at : Condition) (keys : List Row) → filter (is_kept at None) keys ≡ keys
all_kept at [] = refl
all_kept at (key ∷ keys) = ap (λ l. key ∷ l) (all_kept at keys)

none_told : (at : Condition) (keys : List Row) → faults_by (condition_fault at None) keys ≡ None
none_told at [] = refl
none_told at (key ∷ keys) = none_told at keys

module _ (p : Settings) (law : Translates p) (before : Data) (name : Text) (a s : Structure) (d : List Row) (there : IsTable before name a d) (named : IsName name) (na : HaveNames (columns_of a)) (set : IsDataSet a d) (spec : AggTree) (i : IsGrouped p spec a s) (written : IfSome spec.having CanBeWritten) (given : AreGiven (columns_of s)) where
  abbrev xs : List Component
  xs = columns_of a

  abbrev zs : List Component
  zs = identifiers_of s

  abbrev ys : List Component
  ys = others_of s

  abbrev b : Base
  b = base_of p before

  abbrev scope : Scope
  scope = one_scope xs

  abbrev group : List Column
  group = group_columns first_alias spec.grouping

  abbrev places : List ℕ
  places = places_named spec.grouping xs

  abbrev members : Row → List Row
  members = rows_with places d

  abbrev view : View
  view = at_groups b scope group

  abbrev IsKey : Row → Type 0
  IsKey key = is_point zs key ≡ true

  -- what the meaning evaluates at a key
  abbrev at : Condition
  at = condition_of p spec xs d

  abbrev made : Made
  made = made_of p spec xs d

  names : Names of_one scope xs
  names = one_names xs (columns_apart a set.well_formed)

  -- ---- the grouping identifiers

  ids_there : AllByRecursion (IsIn xs) zs
  ids_there = all_more (λ y. component_of y.name xs ≡ Some y) (IsIn xs) (λ y e. at-place y.name xs y e) zs i.aggregated.identifiers

  ids_own : AllByRecursion (IsIn zs) zs
  ids_own = own_among zs (identifiers_apart s i.aggregated.well_formed)

  placed : map (place_in scope) group ≡ places
  placed = subst (λ ns. map (place_in scope) (group_columns first_alias ns) ≡ places_named ns xs) i.aggregated.grouping (placed_in p law before xs (columns_apart a set.well_formed) na zs ids_there ∙ places_by_names xs zs)

  abbrev key_values : List Valued
  key_values = map (key_cell zs) zs

  ids_items : AreGroupItems b scope group members IsKey key_values (all_to_sql p of_one (columns_named xs zs)) zs
  ids_items =
      subst (λ ns. AreGroupItems b scope (group_columns first_alias ns) members IsKey key_values (all_to_sql p of_one (columns_named xs zs)) zs) i.aggregated.grouping
      (key_items p law before xs (columns_apart a set.well_formed) na zs members zs ids_there ids_own)

  -- ---- the aggregates

  abbrev value_of : Option AggCall → Valued
  value_of o key = option_map_or (λ x. aggregated p xs x.kind x.component (members key)) o (Ok c.Null)

  made_item : (y : Component) → IsMadeColumn spec.items xs y → ((key : Row) → IsKey key → IsOfKind (λ z. made z key) y) → IsGroupItem b scope group members IsKey (made y) (to_sql p of_one (made_exp spec.items y)) y
  made_item y e typed = go (call_for spec.items y.name) e typed
    where
      go : (o : Option AggCall) → option_and_then (given_kind xs) o ≡ Some y.kind → ((key : Row) → IsKey key → IfOk (value_of o key) (λ v. is_of y.kind v ≡ true))
          → IsGroupItem b scope group members IsKey (value_of o) (to_sql p of_one (option_map_or (λ x. aggregate x y.kind) o (const c.Null))) y
      go None f of_kind = cc
      go (Some x) f of_kind =
          let e = aggregate x y.kind in
          let h : IsTypedInGroups p spec.grouping xs e = taken xs x.kind x.component y.kind f in
          record {
            kind = group_kind first_alias spec.grouping xs scope names p e h;
            fits = group_fits first_alias spec.grouping xs scope names p b.tables law.low e h tt;
            printed = (group_formed first_alias spec.grouping xs p law.low (one_formed xs na) e h tt, shallow x.kind x.component);
            value_is = λ key t. group_value_is first_alias spec.grouping xs scope names b key (members key) law.low e h tt;
            of_kind = of_kind;
          }

  made_items : (us : List Component) → AllByRecursion (IsMadeColumn spec.items xs) us → ((key : Row) → IsKey key → AllByRecursion (IsOfKind (λ z. made z key)) us) → AreGroupItems b scope group members IsKey (map made us) (all_to_sql p of_one (map (made_exp spec.items) us)) us
  made_items [] all typed = tt
  made_items (u ∷ us) all typed = (made_item u all.0 (λ key h. (typed key h).0), made_items us all.1 (λ key h. (typed key h).1))

  made_typed : (key : Row) → IsKey key → AllByRecursion (IsOfKind (λ z. made z key)) ys
  made_typed key h =
      let point = point_is p spec (with_points a d) s i.aggregated set key h in
      each_of_kind (λ z. made z key) ys (point_behind zs ys key (map (λ y. cell_or_null (made y key)) ys) h (subst (λ us. is_point us (group_point made ys key) ≡ true) (columns_split s) point))

  -- ---- all items

  abbrev all : List Valued
  all = key_values ++ map made ys

  abbrev es : List Exp
  es = all_to_sql p of_one (aggregated_exps spec a s)

  items : AreGroupItems b scope group members IsKey all es (columns_of s)
  items =
      let key_exps = all_to_sql p of_one (columns_named xs zs) in
      let made_exps = all_to_sql p of_one (map (made_exp spec.items) ys) in
      subst (λ l. AreGroupItems b scope group members IsKey all l (columns_of s)) (sym (map-append (to_sql p of_one) (columns_named xs zs) (map (made_exp spec.items) ys)))
      (subst (AreGroupItems b scope group members IsKey all (key_exps ++ made_exps)) (sym (columns_split s))
      (groups_behind b scope group members IsKey key_values (map made ys) key_exps made_exps zs ys ids_items (made_items ys i.aggregated.columns made_typed)))

  made_fault : (us : List Component) (key : Row) → values_fault (map made us) key ≡ group_fault made us key
  made_fault [] key = refl
  made_fault (u ∷ us) key = ap (join (fault_in (made u key))) (made_fault us key)

  made_cells : (us : List Component) (key : Row) → values_at (map made us) key ≡ map (λ y. cell_or_null (made y key)) us
  made_cells [] key = refl
  made_cells (u ∷ us) key = ap (λ l. cell_or_null (made u key) ∷ l) (made_cells us key)

  abbrev keys : List Row
  keys = keys_by places d

  abbrev left : List Row
  left = filter (is_kept at spec.having) keys

  abbrev fault : Option Fault
  fault = faults_by (condition_fault at spec.having) keys

  point_same : (key : Row) → IsKey key → values_at all key ≡ group_point made ys key
  point_same key h =
      keys_before zs zs (map made ys) key
      ∙ ap (λ l. l ++ values_at (map made ys) key) (own_cells zs key (identifiers_apart s i.aggregated.well_formed) h)
      ∙ ap (λ l. key ++ l) (made_cells ys key)

  left_are : AllByRecursion IsKey left
  left_are = kept_are p spec (with_points a d) s i.aggregated set

  rows_are : each_kept fault all left ≡ aggregate_of p spec (with_points a d) s
  rows_are =
      ap (λ f. unless (join fault (faults_by f left)) (map (values_at all) left)) (same_functions (values_fault all) (group_fault made ys) (λ key. keys_quiet zs zs (map made ys) key ∙ made_fault ys key))
      ∙ ap (unless (join fault (faults_by (group_fault made ys) left))) (map_same (values_at all) (group_point made ys) left (all_more IsKey (λ key. values_at all key ≡ group_point made ys key) point_same left left_are))

  -- ---- HAVING

  abbrev IsHeld : CompExp → Type 0
  IsHeld e = IsGroupCondition p spec a e × CanBeWritten e

  condition_is : (e : CompExp) → IsHeld e → (key : Row) → sql_value view (to_sql p of_one e) key (members key) ≡ at e key
  condition_is e h key = group_value_is first_alias spec.grouping xs scope names b key (members key) law.low e h.0.0 h.1.constants

  condition_fits : (e : CompExp) → IsHeld e → IsCondition (site p (tables_in before) scope) (Some (grouping_of group)) (to_sql p of_one e)
  condition_fits e h = (group_fits first_alias spec.grouping xs scope names p b.tables law.low e h.0.0 h.1.constants, ap (meets k.Bool) (group_kind first_alias spec.grouping xs scope names p e h.0.0) ∙ h.0.1)

  guard_kind : (e : CompExp) → IsHeld e → common_kind (kind_in scope (to_sql p of_one e) ∷ k.Bool ∷ []) ≡ Some k.Bool
  guard_kind e h = truth_shared (kind_in scope (to_sql p of_one e)) (condition_fits e h).1

  guard_fits : (e : CompExp) → IsHeld e → IsCondition (site p (tables_in before) scope) (Some (grouping_of group)) (where_rows (to_sql p of_one e))
  guard_fits e h = ((((refl, refl, refl), refl, (condition_fits e h).0, tt), refl, ap is_some (guard_kind e h)), ap (λ o. meets k.Bool (or_null o)) (guard_kind e h))

  having_fits : (ns : List (List ℕ)) (having : Option CompExp) → IfSome having IsHeld → IsMaybeCondition (site p (tables_in before) scope) (Some (grouping_of group)) (kept_where p ns having)
  having_fits [] None h = ((refl, refl, refl), refl)
  having_fits [] (Some e) h = guard_fits e h
  having_fits (n ∷ ns) None h = tt
  having_fits (n ∷ ns) (Some e) h = condition_fits e h

  condition_printed : (e : CompExp) → IsHeld e → IsExp printable_depth (to_sql p of_one e)
  condition_printed e h = (group_formed first_alias spec.grouping xs p law.low (one_formed xs na) e h.0.0 h.1.constants, omega (arith, law.depth of_one e, h.1.shallow))

  having_printed : (ns : List (List ℕ)) (having : Option CompExp) → IfSome having IsHeld → IsMaybeExp printable_depth (kept_where p ns having)
  having_printed [] None h = (tt, omega arith)
  having_printed [] (Some e) h = ((tt, (tt, (condition_printed e h).0, tt), tt), omega (arith, law.depth of_one e, h.1.shallow))
  having_printed (n ∷ ns) None h = tt
  having_printed (n ∷ ns) (Some e) h = condition_printed e h

  having_groups : (ns : List (List ℕ)) (having : Option CompExp) → is_grouped (grouped_as (items_as es (columns_of s)) (source_as first_alias name) (group_columns first_alias ns) (kept_where p ns having)) ≡ true
  having_groups [] None = refl
  having_groups [] (Some e) = refl
  having_groups (n ∷ ns) having = refl

  -- ---- the one group without grouping

  -- the condition, which is false where there is no row
  abbrev guarded : CompExp → List Row → Outcome Cell
  guarded e [] = Ok (c.Bool false)
  guarded e (r ∷ rows) = at e []

  one_truth : spec.grouping ≡ [] → sql_value view has_rows [] (members []) ≡ Ok (truth_of d)
  one_truth none = truth_is p law before xs (columns_apart a set.well_formed) na group [] (members []) ∙ ap (λ l. Ok (truth_of l)) (ap (λ ns. rows_with (places_named ns xs) d []) none ∙ all_points d)

  guard_is : (e : CompExp) → IsHeld e → spec.grouping ≡ [] → sql_value view (where_rows (to_sql p of_one e)) [] (members []) ≡ guarded e d
  guard_is e h none =
      ap (λ t. put t (kind_in scope (where_rows (to_sql p of_one e)))) (one_truth none)
      ∙ ap (λ o. put (Ok (truth_of d)) (or_null o)) (guard_kind e h)
      ∙ go d
    where
      put : Outcome Cell → Kind → Outcome Cell
      put t kind = after (after t (λ z. branch (first_chosen z) (sql_value view (to_sql p of_one e) [] (members [])) (Ok (c.Bool false)))) (as_kind p kind)

      go : (rows : List Row) → put (Ok (truth_of rows)) k.Bool ≡ guarded e rows
      go [] = refl
      go (r ∷ rows) = after_bool p (sql_value view (to_sql p of_one e) [] (members [])) ∙ condition_is e h []

  guard_keeps : (e : CompExp) (rows : List Row) → filter (λ key. is_true (guarded e rows)) ([] ∷ []) ≡ filter (is_kept at (Some e)) (keys_by [] rows)
  guard_keeps e [] = refl
  guard_keeps e (r ∷ rows) = ap (filter (is_kept at (Some e))) (sym (one_key r rows))

  guard_tells : (e : CompExp) (rows : List Row) → join (fault_in (guarded e rows)) None ≡ faults_by (condition_fault at (Some e)) (keys_by [] rows)
  guard_tells e [] = refl
  guard_tells e (r ∷ rows) = ap (faults_by (condition_fault at (Some e))) (sym (one_key r rows))

  truth_keeps : (rows : List Row) → filter (λ key. is_true (Ok (truth_of rows))) ([] ∷ []) ≡ filter (is_kept at None) (keys_by [] rows)
  truth_keeps [] = refl
  truth_keeps (r ∷ rows) = ap (filter (is_kept at None)) (sym (one_key r rows))

  -- ---- the groups that are kept

  kept_for : (ns : List (List ℕ)) → spec.grouping ≡ ns → (having : Option CompExp) → IfSome having IsHeld → kept_keys view members (kept_where p ns having) (sql.keys_by (places_named ns xs) d) ≡ filter (is_kept at having) (keys_by (places_named ns xs) d)
  kept_for [] none None h = ap (λ o. cond (is_true o) ([] ∷ []) []) (one_truth none) ∙ truth_keeps d
  kept_for [] none (Some e) h = ap (λ o. cond (is_true o) ([] ∷ []) []) (guard_is e h none) ∙ guard_keeps e d
  kept_for (n ∷ ns) some None h = sym (all_kept at (keys_by (places_named (n ∷ ns) xs) d))
  kept_for (n ∷ ns) some (Some e) h = ap (λ f. filter (λ key. is_true (f key)) (keys_by (places_named (n ∷ ns) xs) d)) (same_functions (λ key. sql_value view (to_sql p of_one e) key (members key)) (at e) (condition_is e h))

  told_for : (ns : List (List ℕ)) → spec.grouping ≡ ns → (having : Option CompExp) → IfSome having IsHeld → having_fault view members (kept_where p ns having) (sql.keys_by (places_named ns xs) d) ≡ faults_by (condition_fault at having) (keys_by (places_named ns xs) d)
  told_for [] none None h = ap (λ o. join (fault_in o) None) (one_truth none) ∙ sym (none_told at (keys_by [] d))
  told_for [] none (Some e) h = ap (λ o. join (fault_in o) None) (guard_is e h none) ∙ guard_tells e d
  told_for (n ∷ ns) some None h = sym (none_told at (keys_by (places_named (n ∷ ns) xs) d))
  told_for (n ∷ ns) some (Some e) h = ap (λ f. faults_by (λ key. fault_in (f key)) (keys_by (places_named (n ∷ ns) xs) d)) (same_functions (λ key. sql_value view (to_sql p of_one e) key (members key)) (at e) (condition_is e h))

  held : (having : Option CompExp) → IfSome having (IsGroupCondition p spec a) → IfSome having CanBeWritten → IfSome having IsHeld
  held None h w = tt
  held (Some e) h w = (h, w)

  pub aggregate_means : IsExactly p before (aggregate_query p spec a s name) s (aggregate_of p spec (with_points a d) s)
  aggregate_means =
      let it : SelectTree = grouped_as (items_as es (columns_of s)) (source_as first_alias name) group (kept_where p spec.grouping spec.having) in
      let from = one_from p law before name a d there named set.well_formed na (items_as es (columns_of s)) None tt tt in
      let own = columns_apart a set.well_formed in
      let condition = held spec.having i.condition written in
      one_exactly p before s given it (aggregate_of p spec (with_points a d) s)
      (gives_same p before s it (each_kept fault all left) (aggregate_of p spec (with_points a d) s) rows_are
      (groups_give p before scope group places placed d IsKey all es s items given (source_as first_alias name) (kept_where p spec.grouping spec.having)
      (record {
        grouped = having_groups spec.grouping spec.having;
        scope = from.scope;
        source = from.source;
        group = (
          subst (λ ns. AllByRecursion (IsSeen scope None) (group_columns first_alias ns)) i.aggregated.grouping (group_seen p law before xs own na zs ids_there),
          subst (λ ns. Each IsColumn (group_columns first_alias ns)) i.aggregated.grouping (group_printed p law before xs own na zs ids_there),
        );
        having = (having_fits spec.grouping spec.having condition, having_printed spec.grouping spec.having condition);
      })
      (ap Ok (rows_there p law before name a d there named set.well_formed na)) left fault (kept_for spec.grouping refl spec.having condition) (told_for spec.grouping refl spec.having condition) left_are))
