-- A hierarchy under which every check holds gives the operand's points.
use Rattle.std.proofs.Common.{◌≡◌, ℕ, zero, suc, Bool, true, false, cond, List, [], ◌∷◌, ◌++◌, length, map, take, ℤ, ◌⊎◌, inl, inr, Option, Some, None, Ok, Err, refl, sym, ap, ◌∙◌, subst, true≢false}
use Rattle.std.specs.Prelude.{IfOk, IfSome, option_map}
use Rattle.std.specs.List.{AllByRecursion, Contains, filter, find, flat_map, list_all}
use Rattle.std.specs.Option.{option_map_or, option_or, option_to_list}
use Rattle.std.proofs.lemmas.Bool.{and_parts}
use Rattle.std.proofs.lemmas.List.Elements.{All-from_recursion, filter-append}
use Rattle.vtl_decimal.specs.Settings.{Settings}
use Rattle.vtl_decimal.specs.declared.number.Fault.{Fault}
use Rattle.vtl_lists.proofs.Alls.{all_filtered, all_more}
use Rattle.vtl_cell.specs.Order.{same_cell}
use Rattle.vtl_cell.specs.Outcome.{Outcome, after, fault_in, faults_by, join, unless}
use Rattle.vtl_cell.specs.Outcomes.{Same, result_of}
use Rattle.vtl_cell.specs.Row.{Row, same_key}
use Rattle.vtl_cell.specs.declared.cell.Cell.{Cell}
use Rattle.vtl_cell.specs.declared.cell.Cell.TheVariants as c
use Rattle.vtl_cell.specs.declared.kind.Kind.{Kind}
use Rattle.vtl_cell.specs.declared.kind.Kind.TheVariants as k
use Rattle.vtl_cell.specs.declared.operator.ScalarOp.TheVariants as op
use Rattle.vtl_cell.proofs.Cells.{same_cell-is}
use Rattle.vtl_rows.specs.Tables.{cells_at}
use Rattle.vtl_syntax.specs.declared.statements.HierRule.{HierRule}
use Rattle.vtl_syntax.specs.declared.word_groups.Comparison.{Comparison}
use Rattle.vtl_syntax.specs.declared.word_groups.Comparison.TheVariants as compared
use Rattle.vtl_syntax.specs.declared.word_groups.HierInput.TheVariants as input
use Rattle.vtl_syntax.specs.declared.word_groups.HierOut.TheVariants as out
use Rattle.vtl_syntax.specs.declared.word_groups.Mode.TheVariants as mode
use Rattle.vtl_tree.specs.Checks.{uncoded, without_codes}
use Rattle.vtl_tree.specs.Columns.{identifiers_of, measures_of, others_of, places_in}
use Rattle.vtl_tree.specs.DataSet.{IsDataSet, is_point, look}
use Rattle.vtl_tree.specs.Environment.{DataSet}
use Rattle.vtl_tree.specs.RuleItems.{definitions, is_equal, left_item, right_items}
use Rattle.vtl_tree.specs.Structure.{columns_of, key_width, same_name, same_role}
use Rattle.vtl_tree.specs.declared.rules.HierRules.{HierRules}
use Rattle.vtl_tree.specs.declared.structure.Component.{Component}
use Rattle.vtl_tree.specs.declared.structure.Role.TheVariants as role
use Rattle.vtl_tree.specs.declared.structure.Structure.{Structure}
use Rattle.vtl_tree.proofs.LookUps.{Perm-from_look}
use Rattle.vtl_tuples.proofs.Onces.{once_apart}
use Rattle.vtl_meaning.specs.LookUps.{value_named}
use Rattle.vtl_meaning.specs.Made.{component_kinds}
use Rattle.vtl_meaning.specs.Operators.{left_of}
use Rattle.vtl_meaning.specs.Points.{cell_or_null, with_points}
use Rattle.vtl_meaning.specs.Sets.{united}
use Rattle.vtl_meaning.specs.Turned.{is_coded}
use Rattle.vtl_meaning.proofs.JoinParts.{found_is}
use Rattle.vtl_meaning.proofs.Kept.{look_is, shown_split}
use Rattle.vtl_meaning.proofs.Looks.{look_key}
use Rattle.vtl_meaning.proofs.Places.{IsIdentifier, all_of_map, are_identifiers, identifier_role, key_cells, key_within}
use Rattle.vtl_meaning.proofs.SetsKept.{shown_kept}
use Rattle.vtl_meaning.proofs.SetsLooks.{united_look}
use Rattle.vtl_meaning.proofs.ValueKinds.{IsOf}
use Rattle.vtl_meaning.proofs.JoinPartners.{all_pass}
use Rattle.vtl_meaning.proofs.JoinLooks.{look_own}
use Rattle.vtl_rulings.specs.Hierarchies.{computed, defines, hierarchy_of, items_of, items_within, made_at, made_fault, made_points, shown_points, taken}
use Rattle.vtl_rulings.specs.HierarchyChecks.{Ruled, combinations, is_checked, items_at, key_at, only_name, ruled_by}
use Rattle.vtl_rulings.specs.HierarchyShapes.{IsHierarchyMade, IsNumeric}
use Rattle.vtl_rulings.specs.Modes.{Items, appears, counted, is_filled}
use Rattle.vtl_rulings.specs.Sides.{comparison_op, holds, left_side, right_side}
use Rattle.vtl_rulings.proofs.HierarchyKeys.{items_are}
use Rattle.vtl_rulings.proofs.SideKinds.{right_is}
use Rattle.vtl_readings.specs.Hierarchies.{EveryCheckHolds, HoldsAt}
use Rattle.vtl_readings.proofs.ItemKeys.{key_of_item}
use Rattle.vtl_readings.proofs.LeftItems.{IsRow, IsRule, are_rows, are_rules, made_hold}

-- ---- lists
found_passes : (q : Row → Bool) (xs : List Row) (x : Row) → find q xs ≡ Some x → q x ≡ true
found_passes q [] x e = cc
found_passes q (y ∷ ys) x e = go (q y) refl e (found_passes q ys x)
  where
    go : (b : Bool) → q y ≡ b → cond b (Some y) (find q ys) ≡ Some x → (find q ys ≡ Some x → q x ≡ true) → q x ≡ true
    go true f g ih = let same : y ≡ x = cc in subst (λ z. q z ≡ true) same f
    go false f g ih = ih g

no_fault : {X : Type 0} (f : X → Option Fault) (xs : List X) → AllByRecursion (λ x. f x ≡ None) xs → faults_by f xs ≡ None
no_fault f [] all = refl
no_fault f (x ∷ xs) all = ap (λ o. join o (faults_by f xs)) all.0 ∙ no_fault f xs all.1

-- what holds of all holds of one of them
held_at : {X : Type 0} (P : X → Type 0) (xs : List X) (x : X) → AllByRecursion P xs → Contains xs x → P x
held_at P xs x all at = subst P at.2 (All-from_recursion P xs all at.0 x at.1)

-- ---- columns
no_measures : (id : List ℕ) (xs : List Component) → AllByRecursion IsIdentifier xs → filter (λ x. same_role x.role role.Measure) (without_codes id xs) ≡ []
no_measures id [] all = refl
no_measures id (x ∷ xs) all = ap (λ b. cond b (uncoded id x ∷ rest) rest) (uncoded_is (same_name x.name id)) ∙ no_measures id xs all.1
  where
    rest : List Component
    rest = filter (λ y. same_role y.role role.Measure) (without_codes id xs)

    is : same_role x.role role.Measure ≡ false
    is = ap (λ z. same_role z role.Measure) (identifier_role x.role all.0)

    uncoded_is : (b : Bool) → same_role (cond b (record x { codes = None }) x).role role.Measure ≡ false
    uncoded_is true = is
    uncoded_is false = is

same_measures : (id : List ℕ) (a s : Structure) → s.components ≡ without_codes id (identifiers_of a) ++ measures_of a → measures_of s ≡ measures_of a
same_measures id a s e =
    let is_measure : Component → Bool = λ x. same_role x.role role.Measure in
    ap (filter is_measure) e ∙ filter-append is_measure (without_codes id (identifiers_of a)) (measures_of a)
    ∙ ap (λ l. l ++ filter is_measure (measures_of a)) (no_measures id (identifiers_of a) (are_identifiers a))
    ∙ all_pass is_measure (measures_of a) (all_filtered is_measure a.components)

only_one : (kind : Kind) (xs ys : List Component) → component_kinds (xs ++ ys) ≡ kind ∷ [] → component_kinds xs ≡ kind ∷ [] → xs ++ ys ≡ xs
only_one kind [] ys e f = cc
only_one kind (x ∷ []) [] e f = refl
only_one kind (x ∷ []) (y ∷ ys) e f = cc
only_one kind (x ∷ z ∷ xs) ys e f = cc

only_cell : (cs xs : List Component) (kind : Kind) (r : Row) → component_kinds xs ≡ kind ∷ [] → cells_at (places_in cs xs) r ≡ value_named cs r (only_name xs) ∷ []
only_cell cs [] kind r e = cc
only_cell cs (x ∷ []) kind r e = refl
only_cell cs (x ∷ z ∷ xs) kind r e = cc

-- ---- equal sides
is_integer : (v : Cell) → IsOf k.Int v → (v ≡ c.Null) ⊎ ((n : ℤ) × (v ≡ c.Int n))
is_integer c.Null h = inl refl
is_integer (c.Int n) h = inr (n, refl)
is_integer (c.Bool x) h = cc
is_integer (c.Num x) h = cc
is_integer (c.Text x) h = cc
is_integer (c.Day x) h = cc
is_integer (c.Period x) h = cc

is_number : (v : Cell) → IsOf k.Num v → (v ≡ c.Null) ⊎ ((n : ℤ) × (v ≡ c.Num n))
is_number c.Null h = inl refl
is_number (c.Num n) h = inr (n, refl)
is_number (c.Bool x) h = cc
is_number (c.Int x) h = cc
is_number (c.Text x) h = cc
is_number (c.Day x) h = cc
is_number (c.Period x) h = cc

module _ (p : Settings) where
  abbrev equal : Cell → Cell → Outcome Cell
  equal u v = result_of p op.Equal k.Bool (u ∷ v ∷ [])

  same_if : (of : ℤ → Cell) → ((x y : ℤ) → equal (of x) (of y) ≡ Ok (c.Bool (same_cell (of x) (of y)))) → ((x : ℤ) → equal (of x) c.Null ≡ Ok c.Null) → (u v : Cell) → (u ≡ c.Null) ⊎ ((n : ℤ) × (u ≡ of n)) → (v ≡ c.Null) ⊎ ((n : ℤ) × (v ≡ of n)) → equal u v ≡ Ok (c.Bool true) → u ≡ v
  same_if of both one u v (inl f) g e = let bad : Ok c.Null ≡ Ok (c.Bool true) = ap (λ z. equal z v) (sym f) ∙ e in cc
  same_if of both one u v (inr f) (inl g) e = let bad : Ok c.Null ≡ Ok (c.Bool true) = sym (one f.0) ∙ ap (λ z. equal z c.Null) (sym f.1) ∙ ap (equal u) (sym g) ∙ e in cc
  same_if of both one u v (inr f) (inr g) e =
      let tied : Ok (c.Bool (same_cell (of f.0) (of g.0))) ≡ Ok (c.Bool true) = sym (both f.0 g.0) ∙ ap (λ z. equal z (of g.0)) (sym f.1) ∙ ap (equal u) (sym g.1) ∙ e in
      let same : same_cell (of f.0) (of g.0) ≡ true = cc in
      f.1 ∙ same_cell-is (of f.0) (of g.0) same ∙ sym g.1

  -- values of the measure's kind that are equal are the same
  sides_same : (kind : Kind) → IsNumeric kind → (u v : Cell) → IsOf kind u → IsOf kind v → equal u v ≡ Ok (c.Bool true) → u ≡ v
  sides_same k.Int n u v h i e = same_if c.Int (λ x y. refl) (λ x. refl) u v (is_integer u h) (is_integer v i) e
  sides_same k.Num n u v h i e = same_if c.Num (λ x y. refl) (λ x. refl) u v (is_number u h) (is_number v i) e
  sides_same k.Null n u v h i e = absurd n
  sides_same k.Bool n u v h i e = absurd n
  sides_same k.Text n u v h i e = absurd n
  sides_same k.Day n u v h i e = absurd n
  sides_same k.Period n u v h i e = absurd n

is_equality : (x : Comparison) → is_equal x ≡ true → comparison_op x ≡ op.Equal
is_equality compared.Equal e = refl
is_equality compared.Less e = cc
is_equality compared.LessOrEqual e = cc
is_equality compared.Greater e = cc
is_equality compared.GreaterOrEqual e = cc

-- with input `dataset` rules take of the items what the operand has
given_alone : (p : Settings) (kind : Kind) (rules : List HierRule) (given : Items) (n : ℕ) (item : List ℕ) → items_within p mode.NonNull kind input.Dataset rules given n item ≡ given item
given_alone p kind rules given zero item = refl
given_alone p kind rules given (suc n) item = go (find (defines item) rules)
  where
    go : (o : Option HierRule) → option_map_or (λ r. taken input.Dataset (given item) (computed p mode.NonNull kind (items_within p mode.NonNull kind input.Dataset rules given n) r)) o (given item) ≡ given item
    go None = refl
    go (Some r) = refl

module _ (p : Settings) (rules : HierRules) (a s : Structure) (d : List Row) (set : IsDataSet a d) (is : IsHierarchyMade (ruled_by rules a) rules.rules a s) (hold : EveryCheckHolds p (ruled_by rules a) rules.rules (with_points a d)) where
  abbrev h : Ruled
  h = ruled_by rules a

  abbrev operand : DataSet
  operand = with_points a d

  abbrev n : ℕ
  n = key_width s

  abbrev left : List Row
  left = left_of operand s

  left_set : IsDataSet s left
  left_set = shown_kept operand s (is.well_formed, is.no_attributes) is.operand set

  -- a point that the operand has, in the columns of the result
  abbrev IsShown : Row → Type 0
  IsShown q = look n left (take n q) ≡ Some q

  abbrev show : Row → Row
  show r = cells_at (places_in (columns_of a) (columns_of s)) r

  abbrev is_item : HierRule → Row → Row → Bool
  is_item r row z = is_coded a h.id row (left_item r) z

  abbrev value_of : Row → Cell
  value_of z = value_named (columns_of a) z h.measure

  -- the operand's point of a left item
  others_same : others_of s ≡ measures_of a
  others_same =
      let measures = same_measures h.id a s is.shape in
      only_one h.kind (measures_of s) (filter (λ x. same_role x.role role.Attribute) s.components) is.others (ap component_kinds measures ∙ is.itemized.only) ∙ measures

  shown_is : (r : HierRule) (row z : Row) → IsRow h rules.rules a d set row → find (is_item r row) d ≡ Some z → show z ≡ key_at h.id a row (left_item r) ++ value_of z ∷ []
  shown_is r row z t e =
      let point = found_is (λ x. is_point (columns_of a) x ≡ true) (is_item r row) d z set.typed e in
      let key = key_of_item h.id a set.well_formed is.itemized.coded row (left_item r) z t.1 point (found_passes (is_item r row) d z e) in
      shown_split (columns_of a) s z
      ∙ ap (λ l. l ++ cells_at (places_in (columns_of a) (others_of s)) z) (key_cells a s z set.well_formed is.identifiers (key_within a z point) ∙ key)
      ∙ ap (λ l. key_at h.id a row (left_item r) ++ l) (ap (λ ys. cells_at (places_in (columns_of a) ys) z) others_same ∙ only_cell (columns_of a) (measures_of a) h.kind z is.itemized.only)

  shown_there : (r : HierRule) (row z : Row) → find (is_item r row) d ≡ Some z → IsShown (show z)
  shown_there r row z e = found_is (λ x. IsShown (show x)) (is_item r row) d z (all_of_map show IsShown d (look_own n left left_set.distinct)) e

  -- ---- one rule at one combination
  abbrev key : HierRule → Row → Row
  key r row = key_at h.id a row (left_item r)

  -- what it makes is nothing, or the value that the operand has, and no fault
  abbrev IsSame : HierRule → Row → Option (Outcome Cell) → Type 0
  IsSame r row v = AllByRecursion IsShown (option_to_list (option_map (λ w. key r row ++ (cell_or_null w ∷ [])) v)) × (option_map_or fault_in v None ≡ None)

  abbrev compared_to : HierRule → Cell → Outcome Cell → Outcome Cell
  compared_to r u m = after m (λ v. result_of p (comparison_op r.comparison) k.Bool (u ∷ v ∷ []))

  abbrev items : Row → Items
  items row = items_at h operand row

  made_same : (r : HierRule) (row : Row) → IsRule h rules.rules a d set r → IsRow h rules.rules a d set row → IsSame r row (computed p mode.NonNull h.kind (items row) r)
  made_same r row g t = go (appears mode.NonNull (map (items row) (right_items r))) (find (is_item r row) d) (right_side p mode.NonNull h.kind (items row) r) refl refl refl
    where
      checked : appears mode.NonNull (map (items row) (right_items r)) ≡ true → (is_checked mode.NonNull (items row) r ≡ true) × (holds p mode.NonNull h.kind (items row) r ≡ Ok (c.Bool true))
      checked e = held_at (HoldsAt p h operand r) (combinations h.id operand) row (held_at (λ q. AllByRecursion (HoldsAt p h operand q) (combinations h.id operand)) (definitions rules.rules) r hold g.0) t.0 e

      found_filled : appears mode.NonNull (map (items row) (right_items r)) ≡ true → is_filled (option_map value_of (find (is_item r row) d)) ≡ true
      found_filled e = (and_parts (is_filled (items row (left_item r))) (list_all is_filled (map (items row) (right_items r))) (checked e).0).0

      side : (u : Cell) → IsOf h.kind u → (m : Outcome Cell) → IfOk m (IsOf h.kind) → compared_to r u m ≡ Ok (c.Bool true) → m ≡ Ok u
      side u f (Err x) i e = cc
      side u f (Ok v) i e = ap Ok (sym (sides_same p h.kind is.itemized.numeric u v f i (ap (λ o. result_of p o k.Bool (u ∷ v ∷ [])) (sym (is_equality r.comparison g.1)) ∙ e)))

      go : (b : Bool) (o : Option Row) (m : Outcome Cell) → appears mode.NonNull (map (items row) (right_items r)) ≡ b → find (is_item r row) d ≡ o → right_side p mode.NonNull h.kind (items row) r ≡ m → IsSame r row (cond b (Some m) None)
      go false o m eb eo em = (tt, refl)
      go true None m eb eo em = absurd (true≢false (sym (found_filled eb) ∙ ap (λ x. is_filled (option_map value_of x)) eo))
      go true (Some z) m eb eo em =
          let u = value_of z in
          let have : IsOf h.kind u = subst (λ x. IfSome (option_map value_of x) (IsOf h.kind)) eo (items_are h a d is.itemized set row (left_item r)) in
          let given : IfOk m (IsOf h.kind) = subst (λ x. IfOk x (IsOf h.kind)) em (right_is p mode.NonNull h.kind is.itemized.numeric (items row) (items_are h a d is.itemized set row) r) in
          let beside : left_side mode.NonNull h.kind (items row) r ≡ u = ap (λ x. counted mode.NonNull h.kind (option_map value_of x)) eo in
          let value : m ≡ Ok u = side u have m given (ap (λ x. compared_to r x m) (sym beside) ∙ ap (compared_to r (left_side mode.NonNull h.kind (items row) r)) (sym em) ∙ (checked eb).1) in
          let there : IsShown (key r row ++ u ∷ []) = subst IsShown (shown_is r row z t eo) (shown_there r row z eo) in
          subst (λ x. IsSame r row (Some x)) (sym value) ((there, tt), refl)

  made_alone : (r : HierRule) (row : Row) → made_at p h mode.NonNull input.Dataset rules.rules operand r row ≡ computed p mode.NonNull h.kind (items row) r
  made_alone r row =
      let own : items_of p mode.NonNull h.kind input.Dataset (definitions rules.rules) (items row) ≡ items row = λ x item. given_alone p h.kind (definitions rules.rules) (items row) (length (definitions rules.rules)) item x in
      ap (λ f. computed p mode.NonNull h.kind f r) own

  at_row : (r : HierRule) (row : Row) → IsRule h rules.rules a d set r → IsRow h rules.rules a d set row → IsSame r row (made_at p h mode.NonNull input.Dataset rules.rules operand r row)
  at_row r row g t = subst (IsSame r row) (sym (made_alone r row)) (made_same r row g t)

  -- ---- all
  abbrev made : List Row
  made = made_points p h mode.NonNull input.Dataset rules.rules operand

  all_shown : AllByRecursion IsShown made
  all_shown = made_hold h rules.rules a d set p mode.NonNull input.Dataset IsShown (λ r row g t. (at_row r row g t).0)

  abbrev fault : Option Fault
  fault = faults_by (λ r. faults_by (made_fault p h mode.NonNull input.Dataset rules.rules operand r) (combinations h.id operand)) (definitions rules.rules)

  none : fault ≡ None
  none =
      let rows = combinations h.id operand in
      let at : HierRule → Row → Option Fault = λ r row. made_fault p h mode.NonNull input.Dataset rules.rules operand r row in
      no_fault (λ r. faults_by (at r) rows) (definitions rules.rules)
      (all_more (IsRule h rules.rules a d set) (λ r. faults_by (at r) rows ≡ None) (λ r g. no_fault (at r) rows (all_more (IsRow h rules.rules a d set) (λ row. at r row ≡ None) (λ row t. (at_row r row g t).1) rows (are_rows h rules.rules a d set)))
      (definitions rules.rules) (are_rules h rules.rules a d set))

  same_looks : (j : Row) → look n (united n (made ∷ left ∷ [])) j ≡ look n left j
  same_looks j = united_look n (made ∷ left ∷ []) j ∙ go (look n made j) refl (look n left j) refl
    where
      go : (o : Option Row) → look n made j ≡ o → (u : Option Row) → look n left j ≡ u → option_or o (option_or u None) ≡ u
      go None e None f = refl
      go None e (Some q) f = refl
      go (Some q) e u f = sym (ap (look n left) (sym (look_key n made j q e)) ∙ look_is IsShown n made j q all_shown e) ∙ f

  pub nothing_changes : Same (hierarchy_of p h mode.NonNull input.Dataset rules.rules operand out.All s) (Ok left)
  nothing_changes =
      subst (λ f. Same (unless f (shown_points p h mode.NonNull input.Dataset rules.rules operand out.All s)) (Ok left)) (sym none)
      (Perm-from_look n (united n (made ∷ left ∷ [])) left (once_apart (same_key n) (flat_map (λ l. l) (made ∷ left ∷ []))) left_set.distinct same_looks)
