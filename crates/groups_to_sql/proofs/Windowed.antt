-- An analytic operator is a select with a window for all_each call.
use Rattle.std.proofs.Common.{◌≡◌, ℕ, Bool, true, false, cond, List, [], ◌∷◌, map, Option, Some, None, Ok, refl, ap, sym, ◌∙◌, subst, arith}
use Rattle.std.specs.Prelude.{IfOk, is_some, option_map}
use Rattle.std.specs.List.{AllByRecursion}
use Rattle.std.specs.Option.{option_map_or}
use Rattle.vtl_cell.specs.Conversion.{as_kind}
use Rattle.vtl_cell.specs.Kinds.{is_of}
use Rattle.vtl_cell.specs.Outcome.{Outcome, after}
use Rattle.vtl_cell.specs.Profile.{IsOfProfile}
use Rattle.vtl_cell.specs.Row.{Row, column_of}
use Rattle.vtl_decimal.specs.Settings.{Settings}
use Rattle.vtl_cell.specs.declared.cell.Cell.{Cell}
use Rattle.vtl_cell.specs.declared.kind.Kind.{Kind}
use Rattle.vtl_cell.specs.declared.kind.Kind.TheVariants as k
use Rattle.vtl_lists.proofs.Alls.{all_append, all_each, all_front, all_more, all_with}
use Rattle.vtl_lists.proofs.Tests.{then_some}
use Rattle.vtl_tree.specs.CompExp.{CompExp}
use Rattle.vtl_tree.specs.DataSet.{IsDataSet, is_point}
use Rattle.vtl_tree.specs.Environment.{DataSet}
use Rattle.vtl_tree.specs.Structure.{IsStructure, columns_of, key_width, same_name}
use Rattle.vtl_tree.specs.Value.{value}
use Rattle.vtl_tree.specs.declared.structure.Component.{Component}
use Rattle.vtl_tree.specs.declared.structure.Structure.{Structure}
use Rattle.vtl_tree.specs.Measures.{is_measure}
use Rattle.vtl_tree.specs.Names.{component_of}
use Rattle.vtl_meaning.specs.Analytics.{analytic_of, item_named, made_of, measure_call, tree_value, value_for}
use Rattle.vtl_meaning.specs.AnalyticShapes.{IsMadeColumn, IsMadeOrStays, analyzed_components, default_in, given_of, taken, takes}
use Rattle.vtl_meaning.specs.Shapes.{tree_kind}
use Rattle.vtl_tree.specs.Columns.{identifiers_of, others_of, place_of}
use Rattle.sql_check_parts.specs.Expressions.{site}
use Rattle.vtl_tree.specs.Kinds.{exp_kind, given_kind}
use Rattle.vtl_meaning.specs.Made.{AreValuesOver, IsTyped, IsValueOver, IsWindowOver, IsWindowed}
use Rattle.expressions_to_sql.specs.Names.{Names}
use Rattle.vtl_meaning.specs.Windows.{keys_in}
use Rattle.vtl_meaning.specs.Windows as points
use Rattle.vtl_meaning.specs.Points.{with_points}
use Rattle.vtl_meaning.specs.Reaches.{AreNear, IsNear, IsNearValue, is_near_operator}
use Rattle.sql_check_parts.specs.Scopes.{Scope, or_null}
use Rattle.sql_meaning.specs.Scripts.{Data, base_of}
use Rattle.sql_meaning.specs.Tables.{Base}
use Rattle.expressions_to_sql.specs.ToSql.{to_sql}
use Rattle.vtl_tree.specs.Trees as nodes
use Rattle.vtl_tree.specs.Trees.{AnalyticTree, ItemTree, ValueTree}
use Rattle.sql_meaning.specs.Values.{at_rows}
use Rattle.sql_meaning.specs.Windows.{keys_of, told_apart}
use Rattle.vtl_tree.specs.declared.calls.AnalyticCall.{AnalyticCall}
use Rattle.vtl_tree.specs.declared.calls.AnalyticOp.{AnalyticOp}
use Rattle.vtl_tree.specs.declared.calls.AnalyticOp.TheVariants as op
use Rattle.vtl_meaning.proofs.FoundColumns.{at-place, in-columns, of-columns}
use Rattle.vtl_meaning.proofs.Lists as lists
use Rattle.vtl_meaning.proofs.OwnColumns.{columns_apart}
use Rattle.vtl_meaning.proofs.Places.{columns_split}
use Rattle.vtl_meaning.proofs.ValueKinds.{cell_is_of, value_is_of}
use Rattle.vtl_meaning.proofs.WindowPlaces.{rows_apart}
use Rattle.sql_tree.specs.Formed.{IsName}
use Rattle.sql_tree.specs.Trees.{Exp, ItemTree as Item, Text, column, expression}
use Rattle.sql_tree.specs.declared.parts.Source.{Source}
use Rattle.sql_meaning.specs.From.{source_rows}
use Rattle.groups_to_sql.specs.Writable.{CallsCanBeWritten, ValueCanBeWritten}
use Rattle.selects_to_sql.specs.Writable.{CanBeWritten, HaveNames}
use Rattle.selects_to_sql.specs.Queries.{first_alias, of_one, select_as, source_as}
use Rattle.selects_to_sql.specs.Runs.{IsTable}
use Rattle.groups_to_sql.specs.WindowItems.{analytic_items}
use Rattle.groups_to_sql.specs.Windowed.{analytic_item, analytic_query, argument_of, made_to_sql, over_to_sql}
use Rattle.selects_to_sql.proofs.Aggregates.{no_aggregate}
use Rattle.selects_to_sql.proofs.Exact.{IsExactly}
use Rattle.selects_to_sql.proofs.Expressions.{Translates}
use Rattle.selects_to_sql.proofs.Givens.{AreGiven}
use Rattle.selects_to_sql.proofs.OneOperand.{one_from, rows_there}
use Rattle.selects_to_sql.proofs.SelectItems.{GivesRows, IsFrom, stays_after}
use Rattle.selects_to_sql.proofs.Selects.{expression_printed}
use Rattle.selects_to_sql.proofs.Sources.{one_formed, one_names, one_scope}
use Rattle.groups_to_sql.proofs.TargetKinds.{IsOfTarget, of_targets}
use Rattle.selects_to_sql.proofs.Unions.{one_exactly}
use Rattle.groups_to_sql.proofs.ValueItems.{AreValueItems, IsValueItem, values_give}
use Rattle.groups_to_sql.proofs.WindowCalls.{IsCallOf, IsDefaultHeld, call_of, rank_call, rank_keys, window_is, window_printed, window_typed}
use Rattle.groups_to_sql.proofs.WindowOrders.{IsAlone, told_all, told_alone}

-- ---- what makes a column

module _ (p : Settings) (xs : List Component) where
  -- a target is typed, its window is near, and it can be written
  abbrev IsReady : ValueTree → Type 0
  IsReady (nodes.scalar e) = IsTyped p xs e × CanBeWritten e
  IsReady (nodes.analytic x) = IsWindowOver xs x.op x.window × IsNear x.op x.window × ValueCanBeWritten (nodes.analytic x)

find_passes : (P : ItemTree → Type 0) (name : List ℕ) (items : List ItemTree) → AllByRecursion P items → (i : ItemTree) → item_named items name ≡ Some i → P i
find_passes P name [] h i e = cc
find_passes P name (j ∷ items) h i e = go (same_name j.target name) e (find_passes P name items h.1 i)
  where
    go : (b : Bool) → cond b (Some j) (item_named items name) ≡ Some i → (item_named items name ≡ Some i → P i) → P i
    go true t ih = let s : j ≡ i = cc in subst P s h.0
    go false t ih = ih t

if_some : {A : Type 0} (b : Bool) (x y : A) → cond b (Some x) None ≡ Some y → (b ≡ true) × (x ≡ y)
if_some true x y e = let same : x ≡ y = cc in (refl, same)
if_some false x y e = cc

-- what makes a column is ready where all targets are
ready : (p : Settings) (a s : Structure) (spec : AnalyticTree) → AreValuesOver p (columns_of a) spec → AreNear spec → CallsCanBeWritten spec → (y : Component) (v : ValueTree) → value_for spec y ≡ Some v → IsReady p (columns_of a) v
ready p a s (nodes.of_measures o w) h n c y v e = subst (IsReady p (columns_of a)) (if_some (is_measure y) (measure_call o w y.name) v e).1 (h, n, c)
ready p a s (nodes.of_items items) h n c y v e = go (item_named items y.name) refl e
  where
    one : (u : ValueTree) → IsValueOver p (columns_of a) u → IsNearValue u → ValueCanBeWritten u → IsReady p (columns_of a) u
    one (nodes.scalar e) h n c = (h, c)
    one (nodes.analytic x) h n c = (h, n, c)

    all : (us : List ItemTree) → AllByRecursion (λ i. IsValueOver p (columns_of a) i.value) us → AllByRecursion (λ i. IsNearValue i.value) us → AllByRecursion (λ i. ValueCanBeWritten i.value) us → AllByRecursion (λ i. IsReady p (columns_of a) i.value) us
    all [] h n c = tt
    all (u ∷ us) h n c = (one u.value h.0 n.0 c.0, all us h.1 n.1 c.1)

    go : (o : Option ItemTree) → item_named items y.name ≡ o → option_map (λ i. i.value) o ≡ Some v → IsReady p (columns_of a) v
    go None f g = cc
    go (Some j) f g = let same : j.value ≡ v = cc in subst (IsReady p (columns_of a)) same (find_passes (λ i. IsReady p (columns_of a) i.value) y.name items (all items h n c) j f)

-- an expression that makes a column has its kind
abbrev IsKinded : AnalyticTree → Component → Type 0
IsKinded spec y = (e : CompExp) → value_for spec y ≡ Some (nodes.scalar e) → exp_kind e ≡ y.kind

kinded : (spec : AnalyticTree) (a s : Structure) → IsStructure s → s.components ≡ analyzed_components spec a.components → AllByRecursion (IsKinded spec) s.components
kinded (nodes.of_measures o w) a s formed shape = all_each (IsKinded (nodes.of_measures o w)) (λ y e f. none y e (is_measure y) f) s.components
  where
    none : (y : Component) (e : CompExp) (b : Bool) → cond b (Some (measure_call o w y.name)) None ≡ Some (nodes.scalar e) → exp_kind e ≡ y.kind
    none y e true f = cc
    none y e false f = cc
kinded (nodes.of_items items) a s formed shape = all_more (IsOfTarget a.components items) (IsKinded (nodes.of_items items)) (λ y h e f. go y e h (item_named items y.name) refl f) s.components (of_targets items a s formed shape)
  where
    go : (y : Component) (e : CompExp) → IsOfTarget a.components items y → (o : Option ItemTree) → item_named items y.name ≡ o → option_map (λ i. i.value) o ≡ Some (nodes.scalar e) → exp_kind e ≡ y.kind
    go y e h None f g = cc
    go y e h (Some j) f g = let same : j.value ≡ nodes.scalar e = cc in sym (ap (tree_kind a.components) same) ∙ h j f

-- ---- the operator

module _ (p : Settings) (law : Translates p) (before : Data) (a s : Structure) (d : List Row) (na : HaveNames (columns_of a)) (set : IsDataSet a d) (spec : AnalyticTree) (i : IsWindowed p spec a s) (near : AreNear spec) (written : CallsCanBeWritten spec) (given : AreGiven (columns_of s)) where
  abbrev xs : List Component
  xs = columns_of a

  abbrev b : Base
  b = base_of p before

  abbrev scope : Scope
  scope = one_scope xs

  abbrev operand : DataSet
  operand = with_points a d

  -- a point, and no other row is the same
  abbrev IsRow : Row × ℕ → Type 0
  IsRow x = (is_point xs x.0 ≡ true) × IsAlone d x

  names : Names of_one scope xs
  names = one_names xs (columns_apart a set.well_formed)

  -- ---- calls

  call_for : (x : AnalyticCall) (kind : Kind) → given_of xs x.op x.component ≡ Some kind → IsOfProfile p (default_in x.op) → IsReady p xs (nodes.analytic x)
      → IsCallOf p before scope a x.window x.op (argument_of x.component) (points.argument xs x.component) kind
  call_for x kind gives proper h = go x.component x.op gives h.1.offset (h.2, proper)
    where
      keys : keys_of (at_rows (base_of p before) (one_scope (columns_of a))) (over_to_sql a op.Rank x.window) ≡ keys_in (columns_of a) x.window
      keys = rank_keys p law.low before a d set na x.op x.window h.0

      go : (component : Option Text) (o : AnalyticOp) → given_of (columns_of a) o component ≡ Some kind → is_near_operator o ≡ true → IsDefaultHeld p law.low (default_in o)
          → IsCallOf p before (one_scope (columns_of a)) a x.window o (argument_of component) (points.argument (columns_of a) component) kind
      go (Some n) o f off held =
          let found = then_some (component_of n (columns_of a)) (λ z. taken o z.kind) kind f in
          let it = if_some (takes o found.0.kind) (given_kind o found.0.kind) kind found.2 in
          let at = at-place n (columns_of a) found.0 found.1 in
          let place = place_of n (columns_of a) in
          subst (IsCallOf p before (one_scope (columns_of a)) a x.window o (argument_of (Some n)) (points.argument (columns_of a) (Some n))) it.1
          (call_of p law.low before (one_scope (columns_of a)) a x.window h.1.frame (argument_of (Some n)) place found.0.kind (names.known place n found.0.kind at) (names.placed place n found.0.kind at) (one_formed (columns_of a) na place n found.0.kind at) o it.0 off held keys)
      go None op.Rank f off held =
          let same : k.Int ≡ kind = cc in
          subst (IsCallOf p before (one_scope (columns_of a)) a x.window op.Rank (argument_of None) (points.argument (columns_of a) None)) same
          (rank_call p law.low before (one_scope (columns_of a)) a x.window h.1.frame keys (argument_of None) (points.argument (columns_of a) None))
      go None o f off held = cc

  -- ---- items

  abbrev made_by : Option ValueTree → Component → Row → Outcome Cell
  made_by o y r = option_map_or (λ v. tree_value p operand y.kind v r) o (Ok (column_of (place_of y.name xs) r))

  abbrev item_by : Option ValueTree → Component → Item
  item_by o y = record { value = option_map_or (made_to_sql p a) o (expression (column (of_one (place_of y.name xs) y.name))); name = y.name }

  item_for : (y : Component) → IsName y.name → IsMadeColumn p spec xs y → IsKinded spec y → IsValueItem b scope d IsRow (made_of p spec operand y) (analytic_item p spec a y) y
  item_for y word is kind = go (value_for spec y) refl is
    where
      go : (o : Option ValueTree) → value_for spec y ≡ o → IsMadeOrStays p (columns_of a) y o → IsValueItem (base_of p before) (one_scope (columns_of a)) d IsRow (made_by o y) (item_by o y) y
      go None e found =
          let place = place_of y.name (columns_of a) in
          let at = at-place y.name (columns_of a) y found in
          record {
            name = refl;
            kind = ap or_null (names.known place y.name y.kind at);
            single = refl;
            fits = (ap is_some (names.known place y.name y.kind at), refl);
            printed = ((one_formed (columns_of a) na place y.name y.kind at, omega arith), word);
            value_is = λ x h. ap (λ n. after (Ok (column_of n x.0)) (as_kind p y.kind)) (names.placed place y.name y.kind at) ∙ stays_after p y.kind (Ok (column_of place x.0)) (cell_is_of place y.name y.kind (columns_of a) x.0 at h.0);
          }
      go (Some (nodes.scalar e)) f evaluated =
          let it = ready p a s spec i.values near written y (nodes.scalar e) f in
          let same = kind e f in
          let fits = law.fits (base_of p before).tables of_one (one_scope (columns_of a)) (columns_of a) names e it.0 it.1.constants in
          record {
            name = refl;
            kind = law.kind of_one (one_scope (columns_of a)) (columns_of a) names e it.0 ∙ same;
            single = no_aggregate (site p (base_of p before).tables (one_scope (columns_of a))) (to_sql p of_one e) fits;
            fits = fits;
            printed = (expression_printed p law of_one (columns_of a) (one_formed (columns_of a) na) e it.0 it.1, word);
            value_is = λ x h.
                ap (λ m. after m (as_kind p y.kind)) (law.value_at (base_of p before) of_one (one_scope (columns_of a)) (columns_of a) x.0 [] refl names e it.0 it.1.constants)
                ∙ stays_after p y.kind (value p e x.0) (subst (λ q. IfOk (value p e x.0) (λ v. is_of q v ≡ true)) same (value_is_of p (columns_of a) e x.0 it.0 h.0));
          }
      go (Some (nodes.analytic x)) f gives =
          let it = ready p a s spec i.values near written y (nodes.analytic x) f in
          let call = call_for x y.kind gives.0 gives.1 it in
          let at = points.argument (columns_of a) x.component in
          record {
            name = refl;
            kind = ap or_null call.kind;
            single = refl;
            fits = window_typed p law.low before a d set na x.op x.window it.0 it.1.frame (argument_of x.component) at y.kind call;
            printed = (window_printed p law.low before a d set na x.op x.window it.0 it.1.frame (argument_of x.component) at y.kind call, word);
            value_is = λ z h. ap (λ m. after m (as_kind p y.kind)) (window_is p law.low before a d set na x.op x.window it.0 it.1.frame (argument_of x.component) at y.kind call z h.0 h.1);
          }

  -- identifiers stay, and the other columns are made or stay
  columns_made : AllByRecursion (IsMadeColumn p spec xs) (columns_of s)
  columns_made =
      let P : Component → Type 0 = IsMadeColumn p spec xs in
      let own : AllByRecursion (λ y. component_of y.name xs ≡ Some y) (identifiers_of a) =
      all_front (λ y. component_of y.name xs ≡ Some y) (identifiers_of a) (others_of a) (subst (AllByRecursion (λ y. component_of y.name xs ≡ Some y)) (columns_split a) (of-columns (λ y. component_of y.name xs ≡ Some y) a (in-columns a set.well_formed))) in
      subst (AllByRecursion P) (sym (columns_split s))
      (all_append P (identifiers_of s) (others_of s)
      (lists.joined (λ y. value_for spec y ≡ None) (λ y. component_of y.name xs ≡ Some y) P (identifiers_of s) (λ y e found. subst (IsMadeOrStays p (columns_of a) y) (sym e) found) i.analyzed.free (subst (AllByRecursion (λ y. component_of y.name xs ≡ Some y)) (sym i.analyzed.identifiers) own))
      i.analyzed.columns)

  items : AreValueItems b scope d IsRow (made_of p spec operand) (analytic_item p spec a) (columns_of s)
  items = go (columns_of s) given.named columns_made (of-columns (IsKinded spec) s (kinded spec a s i.analyzed.well_formed i.analyzed.shape))
    where
      go : (ys : List Component) → HaveNames ys → AllByRecursion (IsMadeColumn p spec (columns_of a)) ys → AllByRecursion (IsKinded spec) ys → AreValueItems (base_of p before) (one_scope (columns_of a)) d IsRow (made_of p spec operand) (analytic_item p spec a) ys
      go [] n m h = tt
      go (y ∷ ys) n m h = (item_for y n.0 m.0 h.0, go ys n.1 m.1 h.1)

  told : AllByRecursion IsRow (told_apart d)
  told = all_with (λ x. is_point xs x.0 ≡ true) (IsAlone d) (told_apart d) (told_all (λ r. is_point xs r ≡ true) d set.typed) (told_alone d (rows_apart (key_width a) d set.distinct))

  -- over a table of which a condition keeps these points
  pub analytic_gives : (source : Source) (condition : Option Exp) → IsFrom p before scope (select_as (analytic_items p spec a (columns_of s)) source [] condition)
      → source_rows b (select_as (analytic_items p spec a (columns_of s)) source [] condition) ≡ Ok d → GivesRows p before s (select_as (analytic_items p spec a (columns_of s)) source [] condition) (analytic_of p spec operand s)
  analytic_gives source condition from rows = values_give p before scope d IsRow (made_of p spec operand) (analytic_item p spec a) s items given source condition from rows told

module _ (p : Settings) (law : Translates p) (before : Data) (name : Text) (a s : Structure) (d : List Row) (there : IsTable before name a d) (named : IsName name) (na : HaveNames (columns_of a)) (set : IsDataSet a d) (spec : AnalyticTree) (i : IsWindowed p spec a s) (near : AreNear spec) (written : CallsCanBeWritten spec) (given : AreGiven (columns_of s)) where
  pub analytic_means : IsExactly p before (analytic_query p spec a s name) s (analytic_of p spec (with_points a d) s)
  analytic_means =
      let from = one_from p law before name a d there named set.well_formed na (analytic_items p spec a (columns_of s)) None tt tt in
      one_exactly p before s given (select_as (analytic_items p spec a (columns_of s)) (source_as first_alias name) [] None) (analytic_of p spec (with_points a d) s)
      (analytic_gives p law before a s d na set spec i near written given (source_as first_alias name) None from (ap Ok (rows_there p law before name a d there named set.well_formed na)))
