-- The select of a rule of `check_hierarchy` gives the points of the rule at all combinations, or its fault.
use Rattle.std.proofs.Common.{◌≡◌, ◌<◌, ◌+◌, ◌^◌, ℕ, Bool, true, false, ◌&&◌, cond, List, [], ◌∷◌, ◌++◌, length, map, Option, Some, None, Ok, refl, sym, ap, ◌∙◌, subst}
use Rattle.std.specs.List.{AllByRecursion, filter_map}
use Rattle.vtl_lists.proofs.Alls.{all_more}
use Rattle.vtl_decimal.specs.Settings.{Settings}
use Rattle.vtl_decimal.specs.declared.number.Fault.{Fault}
use Rattle.vtl_cell.specs.Literals.{is_null_kind}
use Rattle.vtl_cell.specs.Outcome.{Outcome, after, fault_in, faults_by, join, unless}
use Rattle.vtl_cell.specs.Outcomes.{is_true}
use Rattle.vtl_cell.specs.Row.{Row}
use Rattle.vtl_cell.specs.declared.cell.Cell.{Cell}
use Rattle.vtl_cell.specs.declared.cell.Cell.TheVariants as c
use Rattle.vtl_cell.specs.declared.kind.Kind.{Kind}
use Rattle.vtl_syntax.specs.declared.statements.HierRule.{HierRule}
use Rattle.vtl_syntax.specs.declared.word_groups.CheckOut.{CheckOut}
use Rattle.vtl_syntax.specs.declared.word_groups.CheckOut.TheVariants as out
use Rattle.vtl_syntax.specs.declared.word_groups.Mode.{Mode}
use Rattle.vtl_tree.specs.Columns.{column_named, identifiers_of}
use Rattle.vtl_tree.specs.CompExp.{CompExp, const}
use Rattle.vtl_tree.specs.Environment.{DataSet}
use Rattle.vtl_tree.specs.RuleItems.{items_of, left_item}
use Rattle.vtl_tree.specs.Structure.{columns_of, same_name}
use Rattle.vtl_tree.specs.Value.{value}
use Rattle.vtl_tree.specs.declared.structure.Component.{Component}
use Rattle.vtl_tree.specs.declared.structure.Structure.{Structure}
use Rattle.vtl_tree.proofs.Faults.{faults_by-append}
use Rattle.vtl_tuples.proofs.Lists.{map-map}
use Rattle.vtl_meaning.specs.LookUps.{value_named}
use Rattle.vtl_meaning.specs.Made.{AreFor}
use Rattle.vtl_meaning.specs.Points.{cell_or_null, each_point, point_fault, point_of, with_points}
use Rattle.vtl_rulings.specs.HierarchyChecks.{Ruled, SidedRule, check_cells, check_fault, check_point, is_checked, items_at, key_at, key_cell}
use Rattle.vtl_rulings.specs.HierarchyShapes.{IsNumeric}
use Rattle.vtl_rulings.specs.Modes.{Found, Items}
use Rattle.vtl_rulings.specs.Outputs.{is_false, is_shown}
use Rattle.vtl_rulings.specs.Sides.{difference, holds}
use Rattle.sql_tree.specs.Trees.{Text}
use Rattle.sql_meaning.specs.Scripts.{Data}
use Rattle.joins_to_sql.specs.Joins.{placed_from, where_of, width_of}
use Rattle.joins_to_sql.proofs.HeldOperands.{IsHeld}
use Rattle.selects_to_sql.specs.Writable.{AllCanBeWritten, HaveNames}
use Rattle.selects_to_sql.proofs.Expressions.{Translates}
use Rattle.selects_to_sql.proofs.Givens.{AreGiven}
use Rattle.selects_to_sql.proofs.OneOperand.{same_functions}
use Rattle.selects_to_sql.proofs.SelectItems.{GivesRows, gives_same}
use Rattle.selects_to_sql.proofs.Selects.{IsTest}
use Rattle.rules_to_sql.proofs.Columns.{points_append}
use Rattle.rules_to_sql.proofs.Lists.{both_none}
use Rattle.hierarchies_to_sql.specs.ItemTables.{Tables, key_exp, leaf_at, leaves_for, structures_for}
use Rattle.hierarchies_to_sql.specs.RuleSelects.{checked_exps, checked_select}
use Rattle.hierarchies_to_sql.specs.SideExps.{Leaf, appears_exp, check_parts, check_where}
use Rattle.hierarchies_to_sql.proofs.CheckedSides as checks
use Rattle.hierarchies_to_sql.proofs.ChainRows.{AllKnown, IsLead, ItemsAt, all_columns, beside_give, combination, facts, first, items_show, keys_show, row_of}
use Rattle.hierarchies_to_sql.proofs.ItemColumns.{IsSided, keys, others, t}
use Rattle.hierarchies_to_sql.proofs.KeptRows.{IsMade, Tells, kept_plain, kept_sure}
use Rattle.hierarchies_to_sql.proofs.SideColumns.{IsId, are_ids}
use Rattle.hierarchies_to_sql.proofs.SideExps as sides

-- what there is of an item at each combination
abbrev pub found_of : (Row → Items) → List ℕ → Row → Found
found_of items item k = items k item

both_passed : {X : Type 0} (a b : Bool) (x : X) → cond (a && b) (Some x) None ≡ cond a (cond b (Some x) None) None
both_passed true b x = refl
both_passed false b x = refl

-- a condition that is sure keeps the rows at which it is true
pub sure_tells : (p : Settings) (kind : Kind) (numeric : IsNumeric kind) (row : Row) (o : Option CompExp) (b : Bool) → sides.Appears p kind numeric row o b → Tells p o row None b
sure_tells p kind numeric row None b h = (refl, sym h)
sure_tells p kind numeric row (Some e) b h = (ap fault_in h.is, λ n. ap is_true h.is ∙ h.told)

module _ (p : Settings) (law : Translates p) (now : Data) (h : Ruled) (a : Structure) (is : IsSided h a) (na : HaveNames (columns_of a)) (kinds : AllByRecursion (λ y. is_null_kind y.kind ≡ false) (identifiers_of a)) (qs : List Row) (x : Text) (here : IsHeld now x (with_points (keys h a is) qs)) (typed : AllByRecursion (IsLead h a is) qs) (tables : Tables) where
  abbrev ks : List Component
  ks = others h a is

  abbrev F : List Component
  F = first h a is

  abbrev at : Row → Row
  at q = combination h a is q

  -- the tables of these items hold what there is of them
  abbrev pub TablesKnow : (Row → Items) → (names : List (List ℕ)) → Type 0
  TablesKnow items names = AllKnown h a is now (map at qs) (map tables names) (map (found_of items) names)

  module _ (items : Row → Items) (names : List (List ℕ)) (known : TablesKnow items names) (few : 1 + length (map tables names) < 2 ^ 64) where
    abbrev pub row : Row → Row
    row q = row_of h a is p law now na kinds qs x here typed (map tables names) (map (found_of items) names) known few q

    abbrev pub columns : List Component
    columns = all_columns h a is (map tables names)

    same_structures : structures_for h a (map tables names) ≡ structures_for h a names
    same_structures = map-map (λ z. t h a is) tables names

    abbrev At : Row → Type 0
    At q = IsLead h a is q × ItemsAt h a is now (map at qs) (at q) (map tables names) (map (found_of items) names) known

    pub all_at : AllByRecursion At qs
    all_at = facts h a is p law now na kinds qs x here typed (map tables names) (map (found_of items) names) known few

    -- the leaves show the items
    pub leaves_show : (q : Row) → At q → sides.AllShow p h.kind is.itemized.numeric (row q) (leaves_for h a names) (map (items (at q)) names)
    leaves_show q i =
        let shown = items_show h a is p law now na kinds qs x here typed (map tables names) (map (found_of items) names) known few is.itemized.numeric q i.0 i.1 in
        let moved = subst (λ ss. sides.AllShow p h.kind is.itemized.numeric (row q) (map (leaf_at h) (placed_from (width_of (keys h a is)) ss)) (map (λ f. f (at q)) (map (found_of items) names))) same_structures shown in
        subst (sides.AllShow p h.kind is.itemized.numeric (row q) (leaves_for h a names)) (map-map (λ (f : Row → Found). f (at q)) (found_of items) names) moved

    -- an identifier of an item's point
    key_value : (q : Row) → IsLead h a is q → (item : List ℕ) (y : Component) → IsId p h a is y → value p (key_exp h.id F item y) (row q) ≡ Ok (key_cell h.id ks (at q) item y)
    key_value q lead item y i = go (same_name y.name h.id) refl
      where
        go : (b : Bool) → same_name y.name h.id ≡ b → value p (cond b (const (c.Text item)) (column_named F y.name)) (row q) ≡ Ok (cond b (c.Text item) (value_named ks (at q) y.name))
        go true e = refl
        go false e =
            let kept = i.kept e in
            keys_show h a is p law now na kinds qs x here typed (map tables names) (map (found_of items) names) known few q lead y kept.0 kept.1

    pub keys_point : (q : Row) → IsLead h a is q → (item : List ℕ) → point_of p (map (key_exp h.id F item) (identifiers_of a)) (row q) ≡ key_at h.id a (at q) item
    keys_point q lead item = go (identifiers_of a) (are_ids p h a is)
      where
        go : (ys : List Component) → AllByRecursion (IsId p h a is) ys → point_of p (map (key_exp h.id F item) ys) (row q) ≡ map (key_cell h.id ks (at q) item) ys
        go [] all = refl
        go (y ∷ ys) all = ap (λ v. cell_or_null v ∷ point_of p (map (key_exp h.id F item) ys) (row q)) (key_value q lead item y all.0) ∙ ap (λ l. key_cell h.id ks (at q) item y ∷ l) (go ys all.1)

    pub keys_quiet : (q : Row) → IsLead h a is q → (item : List ℕ) → point_fault p (map (key_exp h.id F item) (identifiers_of a)) (row q) ≡ None
    keys_quiet q lead item = go (identifiers_of a) (are_ids p h a is)
      where
        go : (ys : List Component) → AllByRecursion (IsId p h a is) ys → point_fault p (map (key_exp h.id F item) ys) (row q) ≡ None
        go [] all = refl
        go (y ∷ ys) all = ap (λ v. join (fault_in v) (point_fault p (map (key_exp h.id F item) ys) (row q))) (key_value q lead item y all.0) ∙ go ys all.1

  -- ---- a rule of `check_hierarchy`

  module _ (m : Mode) (d : List Row) (rule : SidedRule) (known : TablesKnow (items_at h (with_points a d)) (items_of rule.1)) (few : 1 + length (map tables (items_of rule.1)) < 2 ^ 64) where
    abbrev A : DataSet
    A = with_points a d

    abbrev r : HierRule
    r = rule.1

    abbrev items : Row → Items
    items q = items_at h A (at q)

    abbrev R : Row → Row
    R q = row (items_at h A) (items_of r) known few q

    abbrev Here : Row → Type 0
    Here q = IsLead h a is q × ItemsAt h a is now (map at qs) (at q) (map tables (items_of r)) (map (found_of (items_at h A)) (items_of r)) known

    abbrev leaves : List Leaf
    leaves = leaves_for h a (items_of r)

    abbrev es : CheckOut → List CompExp
    es o = checked_exps p h a x tables o m rule

    abbrev key : List CompExp
    key = map (key_exp h.id F (left_item r)) (identifiers_of a)

    abbrev T : Row → Outcome Cell
    T q = holds p m h.kind (items q) r

    abbrev truth : Row → Cell
    truth q = cell_or_null (T q)

    abbrev D : Row → Outcome Cell
    D q = difference p m h.kind (items q) r

    abbrev fault : Row → Option Fault
    fault q = check_fault p m h.kind (items q) r

    abbrev checked : Row → Bool
    checked q = is_checked m (items q) r

    abbrev point : CheckOut → Row → Row
    point o q = key_at h.id a (at q) (left_item r) ++ (c.Text rule.0 ∷ check_cells p o m h.kind (items q) r (truth q))

    shows : (q : Row) → Here q → sides.AllShow p h.kind is.itemized.numeric (R q) leaves (map (items q) (items_of r))
    shows q i = leaves_show (items_at h A) (items_of r) known few q i

    point_is : (o : CheckOut) (q : Row) → Here q → is_shown o (truth q) ≡ true → point_of p (es o) (R q) ≡ point o q
    point_is o q i e =
        let parts = check_parts p o m h.kind r leaves in
        points_append p key (const (c.Text rule.0) ∷ parts) (R q)
        ∙ ap (λ z. z ++ (c.Text rule.0 ∷ point_of p parts (R q))) (keys_point (items_at h A) (items_of r) known few q i.0 (left_item r))
        ∙ ap (λ z. key_at h.id a (at q) (left_item r) ++ (c.Text rule.0 ∷ z)) (checks.parts_are p h.kind is.itemized.numeric (R q) m (items q) r leaves (shows q i) o e)

    fault_is : (o : CheckOut) (q : Row) → Here q → point_fault p (es o) (R q) ≡ point_fault p (check_parts p o m h.kind r leaves) (R q)
    fault_is o q i =
        let parts = check_parts p o m h.kind r leaves in
        faults_by-append (λ e. fault_in (value p e (R q))) key (const (c.Text rule.0) ∷ parts)
        ∙ ap (λ f. join f (point_fault p parts (R q))) (keys_quiet (items_at h A) (items_of r) known few q i.0 (left_item r))

    appears_at : (q : Row) → Here q → Tells p (appears_exp m h.kind leaves) (R q) None (checked q)
    appears_at q i = sure_tells p h.kind is.itemized.numeric (R q) (appears_exp m h.kind leaves) (checked q) (sides.appears_is p h.kind is.itemized.numeric (R q) m leaves (map (items q) (items_of r)) (shows q i))

    -- where all points are shown
    abbrev AllMade : CheckOut → Row → Type 0
    AllMade o q = IsMade p (check_where o m h.kind r leaves) (es o) R (λ z. None) checked (λ z. join (fault_in (T z)) (fault_in (D z))) (point o) q

    all_made : (o : CheckOut) → ((v : Cell) → is_shown o v ≡ true) → (q : Row) → Here q → AllMade o q
    all_made out.All every q i = record {
      told = appears_at q i;
      fault = λ n e. fault_is out.All q i ∙ checks.all_fault p h.kind is.itemized.numeric (R q) m (items q) r leaves (shows q i);
      point = λ n e. point_is out.All q i refl;
    }
    all_made out.AllMeasures every q i = record {
      told = appears_at q i;
      fault = λ n e. fault_is out.AllMeasures q i ∙ checks.all_measures_fault p h.kind is.itemized.numeric (R q) m (items q) r leaves (shows q i);
      point = λ n e. point_is out.AllMeasures q i refl;
    }
    all_made out.Invalid every q i = let never = every c.Null in cc

    -- where those are shown at which the rule does not hold
    abbrev failing : Row → Bool
    failing q = checked q && is_false (truth q)

    checked_where : (q : Row) → failing q ≡ true → (checked q ≡ true) × (is_false (truth q) ≡ true)
    checked_where q e = go (checked q) (is_false (truth q)) e
      where
        go : (u v : Bool) → (u && v) ≡ true → (u ≡ true) × (v ≡ true)
        go true v f = (refl, f)
        go false v f = let never : true ≡ false = sym f in cc

    -- the difference has no fault where the condition has none
    sure : (q : Row) → fault q ≡ None → checked q ≡ true → fault_in (D q) ≡ None
    sure q n e = (both_none (fault_in (T q)) (fault_in (D q)) (sym (ap (λ b. cond b (join (fault_in (T q)) (fault_in (D q))) None) e) ∙ n)).1

    failing_made : (q : Row) → Here q → IsMade p (check_where out.Invalid m h.kind r leaves) (es out.Invalid) R fault failing (λ z. None) (point out.Invalid) q
    failing_made q i = record {
      told = (checks.where_fault p h.kind is.itemized.numeric (R q) m (items q) r leaves (shows q i), checks.where_told p h.kind is.itemized.numeric (R q) m (items q) r leaves (shows q i));
      fault = λ n e. fault_is out.Invalid q i ∙ checks.invalid_fault p h.kind is.itemized.numeric (R q) m (items q) r leaves (shows q i) ∙ sure q n (checked_where q e).0;
      point = λ n e. point_is out.Invalid q i (checked_where q e).1;
    }

    -- the points of the rule, unless it has a fault
    abbrev pub gives : CheckOut → Outcome (List Row)
    gives o = unless (faults_by fault qs) (filter_map (λ q. check_point p o h m A rule (at q)) qs)

    here_all : AllByRecursion Here qs
    here_all = all_at (items_at h A) (items_of r) known few

    rows_are : (o : CheckOut) → after (where_of p (check_where o m h.kind r leaves) (map R qs)) (each_point p (es o)) ≡ unless (faults_by fault qs) (filter_map (λ q. cond (checked q) (cond (is_shown o (truth q)) (Some (point o q)) None) None) qs)
    rows_are out.All = kept_sure p (check_where out.All m h.kind r leaves) (es out.All) R (λ z. None) checked (λ z. join (fault_in (T z)) (fault_in (D z))) (point out.All) (λ z. refl) qs (all_more Here (AllMade out.All) (all_made out.All (λ v. refl)) qs here_all)
    rows_are out.AllMeasures = kept_sure p (check_where out.AllMeasures m h.kind r leaves) (es out.AllMeasures) R (λ z. None) checked (λ z. join (fault_in (T z)) (fault_in (D z))) (point out.AllMeasures) (λ z. refl) qs (all_more Here (AllMade out.AllMeasures) (all_made out.AllMeasures (λ v. refl)) qs here_all)
    rows_are out.Invalid =
        kept_plain p (check_where out.Invalid m h.kind r leaves) (es out.Invalid) R fault failing (λ z. None) (point out.Invalid) (λ z. refl) qs (all_more Here _ failing_made qs here_all)
        ∙ ap (λ f. unless (faults_by fault qs) (filter_map f qs)) (same_functions (λ q. cond (failing q) (Some (point out.Invalid q)) None) (λ q. cond (checked q) (cond (is_false (truth q)) (Some (point out.Invalid q)) None) None) (λ q. both_passed (checked q) (is_false (truth q)) (point out.Invalid q)))

    pub rule_gives : (o : CheckOut) (s : Structure) → AreGiven (columns_of s) → AreFor p (columns (items_at h A) (items_of r) known few) (es o) (columns_of s) → AllCanBeWritten (es o) → IsTest p (columns (items_at h A) (items_of r) known few) (check_where o m h.kind r leaves)
        → GivesRows p now s (checked_select p h a x tables o m s rule) (gives o)
    rule_gives o s given i written tested =
        gives_same p now s (checked_select p h a x tables o m s rule) (after (where_of p (check_where o m h.kind r leaves) (map R qs)) (each_point p (es o))) (gives o) (rows_are o)
        (beside_give h a is p law now na kinds qs x here typed (map tables (items_of r)) (map (found_of (items_at h A)) (items_of r)) known few (es o) s (check_where o m h.kind r leaves) i written given tested)
