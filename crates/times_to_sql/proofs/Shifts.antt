-- `timeshift` is a select over the operand's table.
use Rattle.std.proofs.Common.{◌≡◌, ◌≤◌, ◌^◌, ◌-◌, ℤ, pos, negsuc, suc, Bool, true, false, cond, List, [], ◌∷◌, map, Option, Some, None, Ok, Err, refl, ap, sym, ◌∙◌, subst, arith}
use Rattle.std.proofs.lemmas.Bool.{lt-ltb, and_parts}
use Rattle.std.proofs.Math.Nat.{pow-le-pow_right}
use Rattle.std.specs.Prelude.{IfOk, IsOk, is_some, unsigned_abs, if◌then◌else◌}
use Rattle.vtl_decimal.specs.Settings.{Settings}
use Rattle.vtl_decimal.specs.declared.number.Fault.TheVariants.{Range}
use Rattle.vtl_cell.specs.Conversion.{as_kind}
use Rattle.vtl_cell.specs.Held.{IsHeld}
use Rattle.vtl_cell.specs.Kinds.{is_of, same_kind}
use Rattle.vtl_cell.specs.Literals.{lies_between, longest_reach}
use Rattle.vtl_cell.specs.Outcome.{Outcome, after, fault_in, faults_by, join, unless}
use Rattle.vtl_cell.specs.Profile.{IsOfProfile}
use Rattle.vtl_cell.specs.Row.{Row, column_of}
use Rattle.vtl_cell.specs.ScalarPeriods.{period, places_in, shifted_of}
use Rattle.vtl_cell.specs.declared.cell.Cell.{Cell}
use Rattle.vtl_cell.specs.declared.cell.Cell.TheVariants as c
use Rattle.vtl_cell.specs.declared.kind.Kind.{Kind}
use Rattle.vtl_cell.specs.declared.kind.Kind.TheVariants as k
use Rattle.vtl_cell.specs.declared.operator.ScalarOp.TheVariants as op
use Rattle.vtl_time.specs.Periods.{YearPart, shift_of}
use Rattle.vtl_tree.specs.Columns.{place_of}
use Rattle.vtl_tree.specs.CompExp.{const}
use Rattle.vtl_tree.specs.DataSet.{IsDataSet}
use Rattle.vtl_tree.specs.Structure.{columns_of, same_role}
use Rattle.vtl_tree.specs.declared.structure.Component.{Component}
use Rattle.vtl_tree.specs.declared.structure.Role.TheVariants as role
use Rattle.vtl_tree.specs.declared.structure.Structure.{Structure}
use Rattle.vtl_meaning.specs.Made.{AreAmong, IsColumnAt}
use Rattle.vtl_meaning.specs.Points.{cell_or_null, with_points}
use Rattle.vtl_meaning.specs.Reaches.{is_near}
use Rattle.vtl_meaning.proofs.OwnColumns.{columns_apart, own_columns}
use Rattle.vtl_meaning.proofs.ValueKinds.{cell_is_of}
use Rattle.vtl_timing.specs.Times.{is_time, shifted_value, timeshift_of}
use Rattle.vtl_timing.proofs.ShiftKept.{period_kind}
use Rattle.sql_tree.specs.Trees.{Exp, ItemTree, Text}
use Rattle.sql_check_parts.specs.Kinds.{given_kind, kind_in, operator_kind}
use Rattle.sql_check_parts.specs.Literals.{is_shift}
use Rattle.sql_check_parts.specs.Scopes.{Scope, or_null}
use Rattle.sql_meaning.specs.Outcomes.{operated}
use Rattle.sql_meaning.specs.Scripts.{Data, base_of}
use Rattle.sql_meaning.specs.Tables.{Base}
use Rattle.sql_meaning.specs.Values.{at_rows, value as sql_value}
use Rattle.expressions_to_sql.specs.Constants.{const_to_sql}
use Rattle.expressions_to_sql.specs.Names.{Names}
use Rattle.expressions_to_sql.proofs.WrittenConstants.{integer_there, size_fits}
use Rattle.sql_tree.specs.Formed.{IsName}
use Rattle.selects_to_sql.specs.Items.{first_column}
use Rattle.selects_to_sql.specs.Queries.{first_alias, item_as, items_as, of_one, select_as, source_as}
use Rattle.selects_to_sql.specs.Runs.{IsTable}
use Rattle.selects_to_sql.specs.Writable.{HaveNames}
use Rattle.selects_to_sql.proofs.Exact.{IsExactly, exactly_same}
use Rattle.selects_to_sql.proofs.Expressions.{Translates}
use Rattle.selects_to_sql.proofs.Givens.{AreGiven}
use Rattle.selects_to_sql.proofs.OneOperand.{one_from, rows_there}
use Rattle.selects_to_sql.proofs.SelectItems.{AreItems, IsItem, Valued, each_by, select_gives, values_at, values_fault}
use Rattle.selects_to_sql.proofs.Selects.{IsPointOf}
use Rattle.selects_to_sql.proofs.Sources.{one_formed, one_names, one_scope}
use Rattle.selects_to_sql.proofs.Unions.{one_exactly}
use Rattle.times_to_sql.specs.Shifts.{later, shift_query, shifted_column}

-- ---- the number of periods

module _ (p : Settings) (low : p.scale ≤ 9) (n : ℤ) (near : is_near (unsigned_abs n) ≡ true) where
  pub ranged : IsOfProfile p (c.Int n)
  ranged =
      let size : unsigned_abs n ≤ 1_000_000 = grind (arith, near) in
      let power = pow-le-pow_right {n = 10} (omega arith) {i = 9} {j = 18 - p.scale} (omega (arith, low)) in
      let fits = lt-ltb (unsigned_abs n) (10 ^ (18 - p.scale)) (omega (arith, size, power)) in
      subst (λ b. IsOk (cond b (Ok n) (Err Range))) (sym fits) refl

  pub held : IsHeld (c.Int n)
  held = grind (arith, near)

  pub reached : places_in (c.Int n) ≡ Some n
  reached = grind (arith, near)

pub is_written : (p : Settings) (n : ℤ) → is_near (unsigned_abs n) ≡ true → IsOfProfile p (c.Int n) → is_shift p (const_to_sql p (c.Int n)) ≡ true
is_written p (pos n) near i = ap (lies_between (pos 0) longest_reach) (integer_there p n i) ∙ grind (arith, near)
is_written p (negsuc n) near i = ap (lies_between (pos 0) longest_reach) (integer_there p (suc n) (size_fits p n i)) ∙ grind (arith, near)

-- ---- items

-- each column under its own name
pub items_each : (f : Component → Exp) (ys : List Component) → items_as (map f ys) ys ≡ map (λ y. item_as y.name (f y)) ys
items_each f [] = refl
items_each f (y ∷ ys) = ap (λ l. item_as y.name (f y) ∷ l) (items_each f ys)

-- the values of a list of columns at a row, and their fault
values_map : (f : Component → Valued) (ys : List Component) (r : Row) → values_at (map f ys) r ≡ map (λ y. cell_or_null (f y r)) ys
values_map f [] r = refl
values_map f (y ∷ ys) r = ap (λ l. cell_or_null (f y r) ∷ l) (values_map f ys r)

fault_map : (f : Component → Valued) (ys : List Component) (r : Row) → values_fault (map f ys) r ≡ faults_by (λ y. fault_in (f y r)) ys
fault_map f [] r = refl
fault_map f (y ∷ ys) r = ap (join (fault_in (f y r))) (fault_map f ys r)

pub time_kind : (y : Component) → is_time y ≡ true → y.kind ≡ k.Period
time_kind y t = period_kind y.kind (and_parts (same_role y.role role.Identifier) (same_kind y.kind k.Period) t).1

-- a period, or null
shifted_period : (v : Cell) (o : Option ℤ) → IfOk (shifted_of v o) (λ w. is_of k.Period w ≡ true)
shifted_period (c.Period q) (Some n) = go (shift_of q n)
  where
    go : (o : Option YearPart) → IfOk (period o) (λ w. is_of k.Period w ≡ true)
    go None = tt
    go (Some m) = refl
shifted_period (c.Period q) None = refl
shifted_period c.Null o = refl
shifted_period (c.Bool b) o = refl
shifted_period (c.Int i) o = refl
shifted_period (c.Num i) o = refl
shifted_period (c.Text t) o = refl
shifted_period (c.Day d) o = refl

-- which is a value of the kind already
shifted_stays : (p : Settings) (m : Outcome Cell) → IfOk m (λ w. is_of k.Period w ≡ true) → after m (as_kind p k.Period) ≡ m
shifted_stays p (Ok v) h = refl
shifted_stays p (Err f) h = refl

-- ---- the operator

module _ (p : Settings) (law : Translates p) (before : Data) (name : Text) (a : Structure) (d : List Row) (there : IsTable before name a d) (named : IsName name) (na : HaveNames (columns_of a)) (set : IsDataSet a d) (given : AreGiven (columns_of a)) (n : ℤ) (near : is_near (unsigned_abs n) ≡ true) where
  abbrev xs : List Component
  xs = columns_of a

  abbrev b : Base
  b = base_of p before

  abbrev scope : Scope
  scope = one_scope xs

  abbrev v : Cell
  v = c.Int n

  names : Names of_one scope xs
  names = one_names xs (columns_apart a set.well_formed)

  is_ranged : IsOfProfile p v
  is_ranged = ranged p law.low n near

  is_held : IsHeld v
  is_held = held p law.low n near

  -- the time, shifted
  later_item : (y : Component) → IsColumnAt (place_of y.name xs) y.name y.kind xs → is_time y ≡ true → IsItem b scope (IsPointOf xs) (λ r. shifted_of (column_of (place_of y.name xs) r) (Some n)) (later p v y.name) y
  later_item y at t =
      let place = place_of y.name xs in
      let known = names.known place y.name y.kind at in
      let kind = time_kind y t in
      let size : Kind = kind_in scope (const_to_sql p v) in
      let given_by : Kind → Kind = λ q. given_kind op.PeriodShift (q ∷ size ∷ []) in
      let whole : kind_in scope (later p v y.name) ≡ k.Period = ap (λ o. given_by (or_null o)) known ∙ ap given_by kind in
      let met : Kind → Bool = λ q. is_some (operator_kind op.PeriodShift (q ∷ size ∷ [])) in
      record {
        kind = whole ∙ sym kind;
        fits = (((ap is_some known, refl), (law.fits b.tables of_one scope xs names (const v) is_ranged is_held, tt)), ap (λ o. met (or_null o)) known ∙ ap met kind, is_written p n near is_ranged);
        printed = ((refl, tt, (one_formed xs na place y.name y.kind at, (law.formed of_one xs (one_formed xs na) (const v) is_ranged is_held, tt))), omega (arith, law.depth of_one (const v)));
        value_is = λ r h.
            let u = column_of place r in
            ap (λ i. operated p (kind_in scope (later p v y.name)) (Ok (column_of i r) ∷ sql_value (at_rows b scope) (const_to_sql p v) r [] ∷ []) op.PeriodShift) (names.placed place y.name y.kind at)
            ∙ ap (λ m. operated p (kind_in scope (later p v y.name)) (Ok u ∷ m ∷ []) op.PeriodShift) (law.value_at b of_one scope xs r [] refl names (const v) is_ranged is_held)
            ∙ ap (λ o. after (shifted_of u o) (as_kind p (kind_in scope (later p v y.name)))) (reached p law.low n near)
            ∙ ap (λ q. after (shifted_of u (Some n)) (as_kind p q)) whole
            ∙ shifted_stays p (shifted_of u (Some n)) (shifted_period u (Some n));
        of_kind = λ r h. subst (λ q. IfOk (shifted_of (column_of place r) (Some n)) (λ w. is_of q w ≡ true)) (sym kind) (shifted_period (column_of place r) (Some n));
      }

  -- another column, as it is
  own_item : (y : Component) → IsColumnAt (place_of y.name xs) y.name y.kind xs → IsItem b scope (IsPointOf xs) (λ r. Ok (column_of (place_of y.name xs) r)) (first_column y.name) y
  own_item y at =
      let place = place_of y.name xs in
      let known = names.known place y.name y.kind at in
      record {
        kind = ap or_null known;
        fits = (ap is_some known, refl);
        printed = (one_formed xs na place y.name y.kind at, omega arith);
        value_is = λ r h. ap (λ i. Ok (column_of i r)) (names.placed place y.name y.kind at);
        of_kind = λ r h. cell_is_of place y.name y.kind xs r at h;
      }

  abbrev made : Component → Valued
  made y r = shifted_value n xs y r

  item_for : (y : Component) → IsColumnAt (place_of y.name xs) y.name y.kind xs → IsItem b scope (IsPointOf xs) (made y) (shifted_column p v y) y
  item_for y at = go (is_time y) refl
    where
      go : (t : Bool) → is_time y ≡ t → IsItem b scope (IsPointOf xs) (λ r. let w = column_of (place_of y.name xs) r in if t then shifted_of w (Some n) else Ok w) (if t then later p v y.name else first_column y.name) y
      go true t = later_item y at t
      go false t = own_item y at

  items_for : (ys : List Component) → AreAmong ys xs → AreItems b scope (IsPointOf xs) (map made ys) (map (shifted_column p v) ys) ys
  items_for [] all = tt
  items_for (y ∷ ys) all = (item_for y all.0, items_for ys all.1)

  -- its values at each point
  each_is : (e : List Row) → each_by (map made xs) e ≡ timeshift_of n (with_points a e)
  each_is e = λ i. unless (faults i) (rows i)
    where
      faults : faults_by (values_fault (map made xs)) e ≡ faults_by (λ r. faults_by (λ y. fault_in (made y r)) xs) e
      faults = ap (λ f. faults_by f e) (λ i. λ r. fault_map made xs r i)

      rows : map (values_at (map made xs)) e ≡ map (λ r. map (λ y. cell_or_null (made y r)) xs) e
      rows = ap (λ f. map f e) (λ i. λ r. values_map made xs r i)

  pub shift_means : IsExactly p before (shift_query p n a name) a (timeshift_of n (with_points a d))
  shift_means =
      let fs = map made xs in
      let es = map (shifted_column p v) xs in
      let items = items_for xs (own_columns a set.well_formed) in
      let source = source_as first_alias name in
      let from = one_from p law before name a d there named set.well_formed na (items_as es xs) None tt tt in
      let rows = rows_there p law before name a d there named set.well_formed na in
      let it = select_gives p before scope (IsPointOf xs) fs es a items given source [] None from (Ok d) (ap Ok rows) set.typed in
      let whole = exactly_same p before (select_as (items_as es xs) source [] None ∷ []) a (each_by fs d) (timeshift_of n (with_points a d)) (each_is d) (one_exactly p before a given (select_as (items_as es xs) source [] None) (each_by fs d) it) in
      subst (λ (l : List ItemTree). IsExactly p before (select_as l source [] None ∷ []) a (timeshift_of n (with_points a d))) (items_each (shifted_column p v) xs) whole
