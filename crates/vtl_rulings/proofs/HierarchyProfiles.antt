-- The points of `check_hierarchy` and of `hierarchy` are of the profile where those of the operand are.
use Rattle.std.proofs.Common.{◌≡◌, ◌<◌, ◌-◌, ◌^◌, ℕ, ℤ, pos, Bool, true, false, cond, List, [], ◌∷◌, ◌++◌, map, Option, Some, None, Ok, Err, refl, sym, subst, arith}
use Rattle.std.specs.Prelude.{◌/◌, ◌%◌, ◌==◌, IfOk, IfSome, IsOk, encode_utf8_all, nat_lt, option_map, unsigned_abs}
use Rattle.std.specs.List.{AllByRecursion, filter_map, find, flat_map}
use Rattle.std.specs.Option.{option_and_then, option_to_list}
use Rattle.std.specs.Result.{result_ok}
use Rattle.std.proofs.Math.Nat.{one-le-pow}
use Rattle.std.proofs.lemmas.Bool.{lt-ltb}
use Rattle.vtl_lists.proofs.Alls.{all_append, all_each, all_flat_map, all_more}
use Rattle.vtl_lists.proofs.Sorts.{AllByRecursion-map}
use Rattle.vtl_decimal.specs.Numeral.{Numeral, denominator, integer_of, numeral_of, numerator, signed}
use Rattle.vtl_decimal.specs.Range.{fit_integer, fit_number}
use Rattle.vtl_decimal.specs.Settings.{Settings}
use Rattle.vtl_decimal.specs.declared.number.Fault.{Fault}
use Rattle.vtl_decimal.specs.declared.number.Fault.TheVariants.{Range}
use Rattle.vtl_cell.specs.Conversion.{as_kind}
use Rattle.vtl_cell.specs.Literals.{integer_written}
use Rattle.vtl_cell.specs.Outcome.{Outcome, after, faults_by}
use Rattle.vtl_cell.specs.Outcomes.{result_of}
use Rattle.vtl_cell.specs.Profile.{IsOfProfile}
use Rattle.vtl_cell.specs.Row.{Row, same_key, same_row}
use Rattle.vtl_cell.specs.ScalarArithmetic.{units}
use Rattle.vtl_cell.specs.Scalars.{scalar_of}
use Rattle.vtl_cell.specs.declared.cell.Cell.{Cell}
use Rattle.vtl_cell.specs.declared.cell.Cell.TheVariants as c
use Rattle.vtl_cell.specs.declared.kind.Kind.{Kind}
use Rattle.vtl_cell.specs.declared.kind.Kind.TheVariants as k
use Rattle.vtl_cell.specs.declared.operator.ScalarOp.{ScalarOp}
use Rattle.vtl_cell.specs.declared.operator.ScalarOp.TheVariants as op
use Rattle.vtl_scalar.proofs.ProfileLemmas.{Gives, number_gives, value_is_of_profile}
use Rattle.vtl_syntax.specs.declared.statements.HierRule.{HierRule}
use Rattle.vtl_syntax.specs.declared.word_groups.Addition.{Addition}
use Rattle.vtl_syntax.specs.declared.word_groups.Addition.TheVariants as sign
use Rattle.vtl_syntax.specs.declared.word_groups.CheckOut.{CheckOut}
use Rattle.vtl_syntax.specs.declared.word_groups.HierInput.{HierInput}
use Rattle.vtl_syntax.specs.declared.word_groups.HierOut.{HierOut}
use Rattle.vtl_syntax.specs.declared.word_groups.HierOut.TheVariants as out
use Rattle.vtl_syntax.specs.declared.word_groups.Mode.{Mode}
use Rattle.vtl_tree.specs.Columns.{identifiers_of, place_of}
use Rattle.vtl_tree.specs.DataSet.{AreOfProfile}
use Rattle.vtl_tree.specs.Environment.{DataSet}
use Rattle.vtl_tree.specs.RuleItems.{definitions, left_item}
use Rattle.vtl_tree.specs.Structure.{columns_of, key_width, same_name}
use Rattle.vtl_tree.specs.declared.structure.Component.{Component}
use Rattle.vtl_tree.specs.declared.structure.Structure.{Structure}
use Rattle.vtl_meaning.specs.Agreement.{values_in}
use Rattle.vtl_meaning.specs.LookUps.{value_named}
use Rattle.vtl_meaning.specs.Operators.{left_of}
use Rattle.vtl_meaning.specs.Points.{cell_or_null, with_points}
use Rattle.vtl_meaning.specs.Turned.{is_coded, other_identifiers}
use Rattle.vtl_tuples.proofs.Onces.{once_hold}
use Rattle.vtl_meaning.proofs.JoinParts.{found_is}
use Rattle.vtl_meaning.proofs.JoinProfiles.{values_hold}
use Rattle.vtl_meaning.proofs.Profiles.{IsRowOfProfile, cell_is, drawn_are}
use Rattle.vtl_meaning.proofs.SetsKept.{all_flat}
use Rattle.vtl_meaning.proofs.SetsProfiles.{left_profile}
use Rattle.vtl_meaning.proofs.TurnedKept.{filter_map_drawn}
use Rattle.vtl_meaning.proofs.ValueKinds.{after_if}
use Rattle.vtl_meaning.proofs.GroupPoints.{unless_has}
use Rattle.vtl_rulings.specs.Hierarchies.{hierarchy_of, made_at, made_fault, made_point, made_points, shown_points}
use Rattle.vtl_rulings.specs.HierarchyChecks.{Ruled, SidedRule, check_cells, check_fault, check_hierarchy_of, check_point, combinations, is_checked, items_at, key_at, key_cell, sided_rules}
use Rattle.vtl_rulings.specs.Modes.{Items, zero_of}
use Rattle.vtl_rulings.specs.Outputs.{is_shown}
use Rattle.vtl_rulings.specs.Sides.{comparison_op, difference, first_value, holds, left_side, right_side, rule_errors, sign_op}
use Rattle.vtl_rulings.proofs.Checked.{given_or_null, parts_hold}
use Rattle.vtl_rulings.proofs.Profiles.{errors_profile}
use Rattle.vtl_rulings.proofs.SidesHold.{AllHave, IsKept, left_holds, made_holds, right_holds}

-- ---- integers that digits write, and 0
pub fits : (s : ℕ) (n : ℤ) → IfSome (result_ok (fit_integer s n)) (λ m. IsOk (fit_integer s m))
fits s n = go (nat_lt (unsigned_abs n) (10 ^ (18 - s))) refl
  where
    go : (b : Bool) → nat_lt (unsigned_abs n) (10 ^ (18 - s)) ≡ b → IfSome (result_ok {T = ℤ} {E = Fault} (cond b (Ok n) (Err Range))) (λ m. IsOk (fit_integer s m))
    go true e = subst (λ b. IsOk {T = ℤ} {E = Fault} (cond b (Ok n) (Err Range))) (sym e) refl
    go false e = tt

pub written_fits : (p : Settings) (digits : List ℕ) → IfSome (integer_written p digits) (λ n. IsOk (fit_integer p.scale n))
written_fits p digits = read (numeral_of (encode_utf8_all digits))
  where
    whole : (n : Numeral) (b : Bool) → IfSome (cond b (result_ok (fit_integer p.scale (signed n.negative (numerator 0 n / denominator n)))) None) (λ m. IsOk (fit_integer p.scale m))
    whole n true = fits p.scale (signed n.negative (numerator 0 n / denominator n))
    whole n false = tt

    read : (o : Option Numeral) → IfSome (option_and_then (integer_of p.scale) o) (λ n. IsOk (fit_integer p.scale n))
    read None = tt
    read (Some n) = whole n (numerator 0 n % denominator n == 0)

pub level_fits : (p : Settings) (level : Option (List ℕ)) → IfSome (option_and_then (integer_written p) level) (λ n. IsOfProfile p (c.Int n))
level_fits p None = tt
level_fits p (Some digits) = written_fits p digits

zero_fits : (s : ℕ) → IsOk (fit_integer s (pos 0))
zero_fits s =
    let some : 0 < 10 ^ (18 - s) = one-le-pow (18 - s) 10 (omega arith) in
    let is : nat_lt 0 (10 ^ (18 - s)) ≡ true = lt-ltb 0 (10 ^ (18 - s)) some in
    subst (λ b. IsOk {T = ℤ} {E = Fault} (cond b (Ok (pos 0)) (Err Range))) (sym is) refl

pub zero_profile : (p : Settings) (kind : Kind) → IsOfProfile p (zero_of kind)
zero_profile p k.Int = zero_fits p.scale
zero_profile p other = tt

module _ (p : Settings) where
  abbrev Of : Cell → Type 0
  Of v = IsOfProfile p v

  -- ---- operators
  as_kind_gives : (kind : Kind) (v : Cell) → Of v → Gives p (as_kind p kind v)
  as_kind_gives k.Num (c.Int n) h = number_gives p (fit_number (units p n))
  as_kind_gives kind v h = h

  result_gives : (o : ScalarOp) (kind : Kind) (vs : Row) → IsRowOfProfile p vs → Gives p (result_of p o kind vs)
  result_gives o kind vs h = after_if (scalar_of p o vs) (as_kind p kind) Of Of (value_is_of_profile p o vs h) (as_kind_gives kind)

  signed_gives : (kind : Kind) (s : Addition) (v : Cell) → Of v → Gives p (first_value p kind (Some s) v)
  signed_gives kind sign.Plus v h = result_gives op.Identity kind (v ∷ []) (h, tt)
  signed_gives kind sign.Minus v h = result_gives op.Negate kind (v ∷ []) (h, tt)

  kept : (kind : Kind) → IsKept p kind Of
  kept kind = record {
    null = tt;
    nothing = zero_profile p kind;
    signed = signed_gives kind;
    added = λ s u v h i. result_gives (sign_op s) kind (u ∷ v ∷ []) (h, (i, tt));
  }

  -- ---- what stands behind the identifiers of a check
  module _ (o : CheckOut) (m : Mode) (kind : Kind) (items : Items) (have : AllHave Of items) (r : HierRule) where
    left_profile_of : Of (left_side m kind items r)
    left_profile_of = left_holds p kind Of (kept kind) m items have r

    right_gives : Gives p (right_side p m kind items r)
    right_gives = right_holds p kind Of (kept kind) m items have r

    holds_gives : Gives p (holds p m kind items r)
    holds_gives =
        let left = left_side m kind items r in
        after_if (right_side p m kind items r) (λ v. result_of p (comparison_op r.comparison) k.Bool (left ∷ v ∷ [])) Of Of right_gives (λ v i. result_gives (comparison_op r.comparison) k.Bool (left ∷ v ∷ []) (left_profile_of, (i, tt)))

    difference_gives : Gives p (difference p m kind items r)
    difference_gives =
        let left = left_side m kind items r in
        after_if (right_side p m kind items r) (λ v. after (result_of p op.Subtract kind (left ∷ v ∷ [])) (as_kind p k.Num)) Of Of right_gives
        (λ v i. after_if (result_of p op.Subtract kind (left ∷ v ∷ [])) (as_kind p k.Num) Of Of (result_gives op.Subtract kind (left ∷ v ∷ []) (left_profile_of, (i, tt))) (as_kind_gives k.Num))

    cells_profile : IsRowOfProfile p (check_cells p o m kind items r (cell_or_null (holds p m kind items r)))
    cells_profile =
        let truth = cell_or_null (holds p m kind items r) in
        parts_hold Of o (left_side m kind items r ∷ []) truth (cell_or_null (difference p m kind items r) ∷ rule_errors p r truth) (left_profile_of, tt) (given_or_null Of (holds p m kind items r) tt holds_gives)
        (given_or_null Of (difference p m kind items r) tt difference_gives, errors_profile p r.error.code (option_and_then (integer_written p) r.error.level) truth (level_fits p r.error.level))

  module _ (a : Structure) (d : List Row) (h : AreOfProfile p d) where
    abbrev operand : DataSet
    operand = with_points a d

    -- ---- combinations, and items at them
    rows_profile : (id : List ℕ) → AllByRecursion (IsRowOfProfile p) (combinations id operand)
    rows_profile id =
        let ids = other_identifiers id a in
        let f = values_in a ids in
        once_hold (IsRowOfProfile p) same_row (map f d) (AllByRecursion-map f (IsRowOfProfile p) d (all_more (IsRowOfProfile p) (λ r. IsRowOfProfile p (f r)) (λ r i. values_hold Of tt (columns_of a) ids r i) d h))

    key_profile_at : (id : List ℕ) (row : Row) (item : List ℕ) → IsRowOfProfile p row → IsRowOfProfile p (key_at id a row item)
    key_profile_at id row item t =
        let others = other_identifiers id a in
        let f = key_cell id others row item in
        AllByRecursion-map f Of (identifiers_of a) (all_each (λ y. Of (f y)) (λ y. cell y (same_name y.name id)) (identifiers_of a))
      where
        cell : (y : Component) (b : Bool) → Of (cond b (c.Text item) (value_named (other_identifiers id a) row y.name))
        cell y true = tt
        cell y false = cell_is p (place_of y.name (other_identifiers id a)) row t

    items_profile : (ruled : Ruled) (row : Row) → AllHave Of (items_at ruled operand row)
    items_profile ruled row name = go (find (is_coded a ruled.id row name) d) refl
      where
        go : (found : Option Row) → find (is_coded a ruled.id row name) d ≡ found → IfSome (option_map (λ r. value_named (columns_of a) r ruled.measure) found) Of
        go None e = tt
        go (Some r) e = cell_is p (place_of ruled.measure (columns_of a)) r (found_is (IsRowOfProfile p) (is_coded a ruled.id row name) d r h e)

    -- what is made of combinations, where there is something
    made_of_rows : (id : List ℕ) (at : Row → Option Row) → ((row : Row) → IsRowOfProfile p row → AreOfProfile p (option_to_list (at row))) → AreOfProfile p (filter_map at (combinations id operand))
    made_of_rows id at f = subst (AreOfProfile p) (sym (filter_map_drawn at (combinations id operand))) (drawn_are p (λ row. option_to_list (at row)) (combinations id operand) f (rows_profile id))

    -- ---- `check_hierarchy`
    module _ (o : CheckOut) (ruled : Ruled) (m : Mode) where
      sided_profile : (x : SidedRule) (row : Row) → IsRowOfProfile p row → AreOfProfile p (option_to_list (check_point p o ruled m operand x row))
      sided_profile x row t = go (is_checked m (items_at ruled operand row) x.1) (is_shown o truth)
        where
          truth : Cell
          truth = cell_or_null (holds p m ruled.kind (items_at ruled operand row) x.1)

          cells : Row
          cells = check_cells p o m ruled.kind (items_at ruled operand row) x.1 truth

          go : (b b' : Bool) → AreOfProfile p (option_to_list (cond b (cond b' (Some (key_at ruled.id a row (left_item x.1) ++ (c.Text x.0 ∷ cells))) None) None))
          go false b' = tt
          go true false = tt
          go true true =
              (all_append Of (key_at ruled.id a row (left_item x.1)) (c.Text x.0 ∷ cells) (key_profile_at ruled.id row (left_item x.1) t) (tt, cells_profile o m ruled.kind (items_at ruled operand row) (items_profile ruled row) x.1), tt)

      pub check_hierarchy_profile : (rules : List HierRule) → IfOk (check_hierarchy_of p o ruled m operand rules) (AreOfProfile p)
      check_hierarchy_profile rules =
          let rows = combinations ruled.id operand in
          let all = sided_rules rules in
          let points : SidedRule → List Row = λ x. filter_map (check_point p o ruled m operand x) rows in
          unless_has (AreOfProfile p) (faults_by (λ x. faults_by (λ row. check_fault p m ruled.kind (items_at ruled operand row) x.1) rows) all) (flat_map points all)
          (all_flat_map (IsRowOfProfile p) points all (all_each (λ x. AreOfProfile p (points x)) (λ x. made_of_rows ruled.id (check_point p o ruled m operand x) (sided_profile x)) all))

    -- ---- `hierarchy`
    module _ (ruled : Ruled) (m : Mode) (i : HierInput) (rules : List HierRule) where
      point_profile : (r : HierRule) (row : Row) → IsRowOfProfile p row → AreOfProfile p (option_to_list (made_point p ruled m i rules operand r row))
      point_profile r row t = go (made_at p ruled m i rules operand r row) (made_holds p ruled.kind Of (kept ruled.kind) m i (definitions rules) (items_at ruled operand row) (items_profile ruled row) r)
        where
          go : (v : Option (Outcome Cell)) → IfSome v (Gives p) → AreOfProfile p (option_to_list (option_map (λ w. key_at ruled.id a row (left_item r) ++ (cell_or_null w ∷ [])) v))
          go None f = tt
          go (Some w) f = (all_append Of (key_at ruled.id a row (left_item r)) (cell_or_null w ∷ []) (key_profile_at ruled.id row (left_item r) t) (given_or_null Of w tt f, tt), tt)

      made_profile : AreOfProfile p (made_points p ruled m i rules operand)
      made_profile =
          let all = definitions rules in
          let points : HierRule → List Row = λ r. filter_map (made_point p ruled m i rules operand r) (combinations ruled.id operand) in
          all_flat_map (IsRowOfProfile p) points all (all_each (λ r. AreOfProfile p (points r)) (λ r. made_of_rows ruled.id (made_point p ruled m i rules operand r) (point_profile r)) all)

      shown_profile : (o : HierOut) (s : Structure) → AreOfProfile p (shown_points p ruled m i rules operand o s)
      shown_profile out.Computed s = made_profile
      shown_profile out.All s =
          let both = made_points p ruled m i rules operand ∷ left_of operand s ∷ [] in
          once_hold (IsRowOfProfile p) (same_key (key_width s)) (flat_map (λ l. l) both) (all_flat (IsRowOfProfile p) both (made_profile, (left_profile p operand s h, tt)))

      pub hierarchy_profile : (o : HierOut) (s : Structure) → IfOk (hierarchy_of p ruled m i rules operand o s) (AreOfProfile p)
      hierarchy_profile o s = unless_has (AreOfProfile p) (faults_by (λ r. faults_by (made_fault p ruled m i rules operand r) (combinations ruled.id operand)) (definitions rules)) (shown_points p ruled m i rules operand o s) (shown_profile o s)
