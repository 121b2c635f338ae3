-- Rules of a hierarchy that are run one after the other compute what the recursion means.
use Rattle.std.proofs.Common.{◌≡◌, ℕ, suc, ◌+◌, ◌<◌, Bool, true, false, cond, ◌||◌, List, [], ◌∷◌, ◌++◌, length, map, drop, get_or, Option, Some, None, refl, sym, ap, ◌∙◌, subst, arith, append_assoc}
use Rattle.std.specs.Prelude.{All, option_map, slice_get, slice_index_or}
use Rattle.std.specs.List.{AllByRecursion, cons_option, filter_map, find, flat_map, list_any}
use Rattle.std.specs.Map.{keys_of, lookup}
use Rattle.std.specs.Option.{option_map_or, option_or}
use Rattle.std.proofs.lemmas.List.{append-nil}
use Rattle.std.proofs.lemmas.List.Elements.{recursion_from_All}
use Rattle.std.proofs.lemmas.List.FromFn.{get_or-map-range_with_len, get_or-range_with_len, length-range_with_len}
use Rattle.vtl_decimal.specs.Settings.{Settings}
use Rattle.vtl_decimal.specs.declared.number.Fault.{Fault}
use Rattle.vtl_lists.specs.Apart.{all_apart}
use Rattle.vtl_lists.proofs.Aparts.{all_apart-Perm, apart_parts}
use Rattle.vtl_lists.proofs.Perms.{Perm-refl}
use Rattle.vtl_lists.proofs.Alls.{all_back, all_more}
use Rattle.vtl_lists.proofs.Filters.{filter_map-map, found_passes, none_found as all_fail}
use Rattle.vtl_lists.proofs.Tests.{or_none}
use Rattle.vtl_text.specs.Texts.{same_text}
use Rattle.vtl_cell.specs.Outcome.{Outcome, faults_by, join}
use Rattle.vtl_cell.specs.Row.{Row}
use Rattle.vtl_cell.specs.declared.cell.Cell.{Cell}
use Rattle.vtl_cell.specs.declared.kind.Kind.{Kind}
use Rattle.vtl_rows.specs.Tables.{cells_at, fits}
use Rattle.vtl_rows.specs.declared.column.Column.{Column}
use Rattle.vtl_syntax.specs.declared.statements.HierRule.{HierRule}
use Rattle.vtl_syntax.specs.declared.word_groups.HierInput.{HierInput}
use Rattle.vtl_syntax.specs.declared.word_groups.HierInput.TheVariants as input
use Rattle.vtl_syntax.specs.declared.word_groups.Mode.{Mode}
use Rattle.vtl_tree.specs.DataSet.{IsDataSet, is_point}
use Rattle.vtl_tree.specs.Environment.{DataSet}
use Rattle.vtl_tree.specs.RuleItems.{definitions, left_item, right_items}
use Rattle.vtl_tree.specs.Structure.{columns_of, same_name}
use Rattle.vtl_tree.specs.declared.rules.HierRules.{HierRules}
use Rattle.vtl_tree.specs.declared.structure.Structure.{Structure}
use Rattle.vtl_tree.proofs.Faults.{faults_by-Perm, join_assoc}
use Rattle.vtl_tuples.proofs.Lists.{flat_map_same, map-map, map_same}
use Rattle.vtl_sets.specs.TableOf.{table_columns}
use Rattle.vtl_sets.proofs.TableLemmas.{point_fits}
use Rattle.vtl_meaning.specs.Points.{cell_or_null}
use Rattle.vtl_meaning.proofs.JoinParts.{found_is}
use Rattle.vtl_meaning.proofs.Places.{same_name-is, same_name-sym}
use Rattle.vtl_rulings.specs.Hierarchies.{computed, defines, items_of, made_fault, made_point, made_points, taken}
use Rattle.vtl_rulings.specs.HierarchyChecks.{Ruled, combinations, items_at, key_at, ruled_by}
use Rattle.vtl_rulings.specs.HierarchyShapes.{IsHierarchyMade}
use Rattle.vtl_rulings.specs.Modes.{Found, Items, appears, counted}
use Rattle.vtl_rulings.specs.Running.{AreOrdered, AreThese, IsFree}
use Rattle.vtl_rulings.specs.Sides.{sum_of}
use Rattle.vtl_rulings.proofs.HierarchiesMade.{made_kept}
use Rattle.vtl_rulings.proofs.Running.{depths_suffice, these_are}
use Rattle.vtl_rules.specs.ComputedItems.{column_by, computed_at, computed_of, fault_by, fault_of, made_row, made_rows, ran_columns, ran_fault, value_or_null, with_column}
use Rattle.vtl_rulings.specs.Ordered.{HasOrder, IsOrder, places_or_none, rules_at}
use Rattle.vtl_rules.specs.Itemized.{Computed, Itemized, chosen_value, combination_at, given_at, item_key, itemized_by, numbers_of, source_of, taken_at}
use Rattle.vtl_rules.proofs.ItemLemmas.{combination_wide, combinations_are, faults_by-map, given_is, key_is}
use Rattle.vtl_rules.proofs.NumberLemmas.{places_behind}
use Rattle.vtl_rules.proofs.RulingLemmas.{filter_map_where}

-- ---- lists
find-append : {X : Type 0} (p : X → Bool) (xs ys : List X) → find p (xs ++ ys) ≡ option_or (find p xs) (find p ys)
find-append p [] ys = refl
find-append p (x ∷ xs) ys = go (p x) (find-append p xs ys)
  where
    go : (b : Bool) → find p (xs ++ ys) ≡ option_or (find p xs) (find p ys) → cond b (Some x) (find p (xs ++ ys)) ≡ option_or (cond b (Some x) (find p xs)) (find p ys)
    go true h = refl
    go false h = h

none_found : {X : Type 0} (p : X → Bool) (xs : List X) → AllByRecursion (λ x. p x ≡ false) xs → find p xs ≡ None
none_found p [] h = refl
none_found p (x ∷ xs) h = ap (λ b. cond b (Some x) (find p xs)) h.0 ∙ none_found p xs h.1

faults_same : {X : Type 0} (f g : X → Option Fault) (xs : List X) → AllByRecursion (λ x. f x ≡ g x) xs → faults_by f xs ≡ faults_by g xs
faults_same f g [] h = refl
faults_same f g (x ∷ xs) h = ap (λ o. join o (faults_by f xs)) h.0 ∙ ap (join (g x)) (faults_same f g xs h.1)

-- ---- columns by name
absent : {T : Type 0} (name : List ℕ) (es : List (List ℕ × T)) → lookup (same_text name) es ≡ None → list_any (same_text name) (keys_of es) ≡ false
absent name [] e = refl
absent name (x ∷ xs) e = go (same_text name x.0) (absent name xs) e
  where
    go : (b : Bool) → (lookup (same_text name) xs ≡ None → list_any (same_text name) (keys_of xs) ≡ false) → cond b (Some x.1) (lookup (same_text name) xs) ≡ None → (b || list_any (same_text name) (keys_of xs)) ≡ false
    go true ih f = cc
    go false ih f = ih f

found_put : {T : Type 0} (q name : List ℕ) (item : T) (es : List (List ℕ × T)) → lookup (same_text q) (es ++ (name, item) ∷ []) ≡ option_or (lookup (same_text q) es) (cond (same_text q name) (Some item) None)
found_put q name item [] = refl
found_put q name item (x ∷ xs) = go (same_text q x.0) (found_put q name item xs)
  where
    go : (b : Bool) → lookup (same_text q) (xs ++ (name, item) ∷ []) ≡ option_or (lookup (same_text q) xs) (cond (same_text q name) (Some item) None)
        → cond b (Some x.1) (lookup (same_text q) (xs ++ (name, item) ∷ [])) ≡ option_or (cond b (Some x.1) (lookup (same_text q) xs)) (cond (same_text q name) (Some item) None)
    go true h = refl
    go false h = h

-- ---- values
-- a rule takes the same of a column as of what was computed
chosen_is : (i : HierInput) (given : Found) (v : Option (Outcome Cell)) → chosen_value i given (value_or_null v) ≡ taken i given v
chosen_is input.Dataset given v = refl
chosen_is input.Rule given v = refl
chosen_is input.RulePriority given None = refl
chosen_is input.RulePriority given (Some v) = refl

-- the numbers of the combinations
numbers_below : (x : Itemized) → AllByRecursion (λ n. n < length x.leading) (numbers_of x)
numbers_below x = recursion_from_All (λ n. n < length x.leading) (numbers_of x) below
  where
    below : All (λ n. n < length x.leading) (numbers_of x)
    below k d l =
        let count = length-range_with_len 0 (length x.leading) in
        let at = get_or-range_with_len 0 (length x.leading) k d (omega (arith, count, l)) in
        omega (arith, count, l, at)

-- a rule that is apart from others before it
before_apart : (done : List HierRule) (r : HierRule) (rest : List HierRule) → all_apart (λ q t. same_name (left_item q) (left_item t)) (done ++ r ∷ rest) ≡ true → AllByRecursion (λ q. defines (left_item r) q ≡ false) done
before_apart [] r rest e = tt
before_apart (q ∷ done) r rest e =
    let parts = apart_parts (λ (u t : HierRule). same_name (left_item u) (left_item t)) q (done ++ r ∷ rest) e in
    ((all_back (λ (t : HierRule). same_name (left_item q) (left_item t) ≡ false) done (r ∷ rest) parts.0).0, before_apart done r rest parts.1)

module _ (p : Settings) (m : Mode) (i : HierInput) (rules : HierRules) (a : DataSet) (s : Structure) (is : IsHierarchyMade (ruled_by rules a.structure) rules.rules a.structure s) (set : IsDataSet a.structure a.points) (places : List ℕ) (order : IsOrder rules.rules places) where
  abbrev h : Ruled
  h = ruled_by rules a.structure

  abbrev x : Itemized
  x = itemized_by rules.variable a

  abbrev row_at : ℕ → Row
  row_at n = combination_at x n

  abbrev defs : List HierRule
  defs = definitions rules.rules

  abbrev all : List HierRule
  all = rules_at rules.rules places

  abbrev given : ℕ → Items
  given n = items_at h a (row_at n)

  -- the items of the recursion
  abbrev meant : ℕ → Items
  meant n = items_of p m h.kind i defs (given n)

  abbrev value : HierRule → ℕ → Option (Outcome Cell)
  value r n = computed p m h.kind (meant n) r

  abbrev column_of : HierRule → List Found
  column_of r = map (λ n. value_or_null (value r n)) (numbers_of x)

  abbrev fault_of_rule : HierRule → Option Fault
  fault_of_rule r = faults_by (λ n. fault_of (value r n)) (numbers_of x)

  these : AreThese defs all
  these = these_are defs all order.all is.apart

  -- an item is defined by one rule, in whatever order
  found_same : (item : List ℕ) → find (defines item) all ≡ find (defines item) defs
  found_same item = go (find (defines item) all) refl
    where
      go : (o : Option HierRule) → find (defines item) all ≡ o → o ≡ find (defines item) defs
      go None e = sym (these.only item (all_fail (defines item) all e))
      go (Some r) e =
          let name : left_item r ≡ item = same_name-is (left_item r) item (found_passes (defines item) all r e) in
          sym (subst (λ n. find (defines n) defs ≡ Some r) name (found_is (λ (q : HierRule). find (defines (left_item q)) defs ≡ Some q) (defines item) all r these.found e))

  -- what the recursion means of an item, by the rule that defines it
  meant_is : (n : ℕ) (item : List ℕ) → meant n item ≡ option_map_or (λ r. taken i (given n item) (value r n)) (find (defines item) defs) (given n item)
  meant_is n item = sym (depths_suffice p m h.kind i (given n) defs all order.ordered order.all is.apart item (suc (length defs)) (omega arith))

  -- ---- what was computed of the rules that were run
  abbrev Holds : Computed → List HierRule → Type 0
  Holds made done = (item : List ℕ) → lookup (same_text item) made ≡ option_map column_of (find (defines item) done)

  column_at : (r : HierRule) (n : ℕ) → n < length x.leading → slice_index_or (column_of r) n None ≡ value_or_null (value r n)
  column_at r n l = get_or-map-range_with_len (λ k. value_or_null (value r k)) 0 (length x.leading) n n None l (omega arith)

  item_taken : (made : Computed) (done rest : List HierRule) (n : ℕ) (item : List ℕ) → done ++ rest ≡ all → Holds made done → IsFree rest item → n < length x.leading → taken_at x n (row_at n) (source_of i made item) ≡ meant n item
  item_taken made done rest n item e hold free l =
      let g = given_at x (row_at n) item in
      let by : Found → Option (List Found) → Found = λ f o. option_map_or (λ column. chosen_value i f (slice_index_or column n None)) o f in
      let defined : find (defines item) done ≡ find (defines item) defs =
      sym (ap (find (defines item)) (sym e) ∙ find-append (defines item) done rest ∙ ap (option_or (find (defines item) done)) (none_found (defines item) rest free) ∙ or_none (find (defines item) done)) ∙ found_same item in
      ap (by g) (hold item ∙ ap (option_map column_of) defined)
      ∙ ap (λ f. by f (option_map column_of (find (defines item) defs))) (given_is rules.variable a h refl refl set.well_formed is.itemized.only (row_at n) item (combination_wide rules.variable a n))
      ∙ go (find (defines item) defs) ∙ sym (meant_is n item)
    where
      go : (o : Option HierRule) → option_map_or (λ column. chosen_value i (given n item) (slice_index_or column n None)) (option_map column_of o) (given n item) ≡ option_map_or (λ r. taken i (given n item) (value r n)) o (given n item)
      go None = refl
      go (Some r) = ap (chosen_value i (given n item)) (column_at r n l) ∙ chosen_is i (given n item) (value r n)

  module _ (made : Computed) (done : List HierRule) (r : HierRule) (rest : List HierRule) (e : done ++ r ∷ rest ≡ all) (hold : Holds made done) (free : AllByRecursion (IsFree (r ∷ rest)) (right_items r)) where
    value_is : (n : ℕ) → n < length x.leading → computed_at p m h.kind i x made r n ≡ value r n
    value_is n l =
        ap (computed_of p m h.kind r)
        (map-map (taken_at x n (row_at n)) (source_of i made) (right_items r)
        ∙ map_same (λ item. taken_at x n (row_at n) (source_of i made item)) (meant n) (right_items r) (all_more (IsFree (r ∷ rest)) (λ item. taken_at x n (row_at n) (source_of i made item) ≡ meant n item) (λ item f. item_taken made done (r ∷ rest) n item e hold f l) (right_items r) free))
        ∙ ap (λ vs. cond (appears m (map (meant n) (right_items r))) (Some (sum_of p h.kind r vs)) None) (map-map (counted m h.kind) (meant n) (right_items r))

    column_is : column_by p m h.kind i x made r ≡ column_of r
    column_is =
        map_same (λ n. value_or_null (computed_at p m h.kind i x made r n)) (λ n. value_or_null (value r n)) (numbers_of x)
        (all_more (λ n. n < length x.leading) (λ n. value_or_null (computed_at p m h.kind i x made r n) ≡ value_or_null (value r n)) (λ n l. ap value_or_null (value_is n l)) (numbers_of x) (numbers_below x))

    fault_is : fault_by p m h.kind i x made r ≡ fault_of_rule r
    fault_is =
        faults_same (λ n. fault_of (computed_at p m h.kind i x made r n)) (λ n. fault_of (value r n)) (numbers_of x)
        (all_more (λ n. n < length x.leading) (λ n. fault_of (computed_at p m h.kind i x made r n) ≡ fault_of (value r n)) (λ n l. ap fault_of (value_is n l)) (numbers_of x) (numbers_below x))

    -- no rule before defines the item
    new_here : lookup (same_text (left_item r)) made ≡ None
    new_here =
        hold (left_item r)
        ∙ ap (option_map column_of) (none_found (defines (left_item r)) done (before_apart done r rest (ap (all_apart (λ q t. same_name (left_item q) (left_item t))) e ∙ all_apart-Perm (λ q t. same_name (left_item q) (left_item t)) (λ q t. same_name-sym (left_item q) (left_item t)) order.all ∙ is.apart)))

    holds_more : Holds (with_column p m h.kind i x made r) (done ++ r ∷ [])
    holds_more item =
        ap (λ b. lookup (same_text item) (cond b made (made ++ (left_item r, column_by p m h.kind i x made r) ∷ []))) (absent (left_item r) made new_here)
        ∙ ap (λ l. lookup (same_text item) (made ++ (left_item r, l) ∷ [])) column_is
        ∙ found_put item (left_item r) (column_of r) made
        ∙ ap (λ o. option_or o (cond (same_text item (left_item r)) (Some (column_of r)) None)) (hold item)
        ∙ ap (λ b. option_or (option_map column_of (find (defines item) done)) (cond b (Some (column_of r)) None)) (same_name-sym item (left_item r))
        ∙ go (find (defines item) done) (same_name (left_item r) item) ∙ ap (option_map column_of) (sym (find-append (defines item) done (r ∷ [])))
      where
        go : (o : Option HierRule) (b : Bool) → option_or (option_map column_of o) (cond b (Some (column_of r)) None) ≡ option_map column_of (option_or o (cond b (Some r) None))
        go None true = refl
        go None false = refl
        go (Some q) b = refl

  ran_holds : (done rest : List HierRule) (made : Computed) → done ++ rest ≡ all → AreOrdered rest → Holds made done → Holds (ran_columns p m h.kind i x made rest) all
  ran_holds done [] made e o hold = subst (Holds made) (sym (append-nil done) ∙ e) hold
  ran_holds done (r ∷ rest) made e o hold = ran_holds (done ++ r ∷ []) rest (with_column p m h.kind i x made r) (append_assoc done (r ∷ []) rest ∙ e) o.1 (holds_more made done r rest e hold o.0)

  ran_faults : (done rest : List HierRule) (made : Computed) → done ++ rest ≡ all → AreOrdered rest → Holds made done → ran_fault p m h.kind i x made rest ≡ faults_by fault_of_rule rest
  ran_faults done [] made e o hold = refl
  ran_faults done (r ∷ rest) made e o hold =
      ap (λ f. join f (ran_fault p m h.kind i x (with_column p m h.kind i x made r) rest)) (fault_is made done r rest e hold o.0)
      ∙ ap (join (fault_of_rule r)) (ran_faults (done ++ r ∷ []) rest (with_column p m h.kind i x made r) (append_assoc done (r ∷ []) rest ∙ e) o.1 (holds_more made done r rest e hold o.0))

  -- ---- the whole run
  abbrev ran : Computed
  ran = ran_columns p m h.kind i x [] all

  ran_is : Holds ran all
  ran_is = ran_holds [] all [] refl order.ordered (λ item. refl)

  pub whole_fault : ran_fault p m h.kind i x [] all ≡ faults_by (λ r. faults_by (made_fault p h m i rules.rules a r) (combinations h.id a)) defs
  whole_fault =
      ran_faults [] all [] refl order.ordered (λ item. refl) ∙ faults_by-Perm fault_of_rule order.all
      ∙ ap (λ (f : HierRule → Option Fault). faults_by f defs) (λ j r. (sym (faults_by-map (made_fault p h m i rules.rules a r) row_at (numbers_of x)) ∙ ap (faults_by (made_fault p h m i rules.rules a r)) (combinations_are rules.variable a)) j)

  -- the points of a rule
  rows_of : (r : HierRule) → find (defines (left_item r)) defs ≡ Some r → made_rows x ran r ≡ filter_map (made_point p h m i rules.rules a r) (combinations h.id a)
  rows_of r own =
      ap (λ o. option_map_or (λ column. filter_map (made_row x r column) (numbers_of x)) o []) (ran_is (left_item r) ∙ ap (option_map column_of) (found_same (left_item r) ∙ own))
      ∙ filter_map_where (λ n. n < length x.leading) (made_row x r (column_of r)) (λ n. made_point p h m i rules.rules a r (row_at n)) row_is (numbers_of x) (numbers_below x)
      ∙ sym (filter_map-map (made_point p h m i rules.rules a r) row_at (numbers_of x)) ∙ ap (filter_map (made_point p h m i rules.rules a r)) (combinations_are rules.variable a)
    where
      under : (key : Row) (v : Option (Outcome Cell)) → option_map (λ u. key ++ u ∷ []) (value_or_null v) ≡ option_map (λ w. key ++ (cell_or_null w ∷ [])) v
      under key None = refl
      under key (Some v) = refl

      row_is : (n : ℕ) → n < length x.leading → made_row x r (column_of r) n ≡ made_point p h m i rules.rules a r (row_at n)
      row_is n l =
          ap (option_map (λ u. cells_at x.places (item_key (row_at n) (left_item r)) ++ u ∷ [])) (column_at r n l)
          ∙ ap (λ (key : Row). option_map (λ u. key ++ u ∷ []) (value_or_null (value r n))) (key_is rules.variable a set.well_formed (row_at n) (left_item r) (combination_wide rules.variable a n))
          ∙ under (key_at h.id a.structure (row_at n) (left_item r)) (value r n)

  pub whole_rows : flat_map (made_rows x ran) defs ≡ made_points p h m i rules.rules a
  whole_rows =
      flat_map_same (made_rows x ran) (λ r. filter_map (made_point p h m i rules.rules a r) (combinations h.id a)) defs
      (all_more (λ r. find (defines (left_item r)) defs ≡ Some r) (λ r. made_rows x ran r ≡ filter_map (made_point p h m i rules.rules a r) (combinations h.id a)) rows_of defs (these_are defs defs (Perm-refl defs) is.apart).found)

  -- they fit the columns
  pub rows_fit : AllByRecursion (λ q. fits (table_columns s) q ≡ true) (flat_map (made_rows x ran) defs)
  rows_fit =
      subst (AllByRecursion (λ q. fits (table_columns s) q ≡ true)) (sym whole_rows)
      (all_more (λ q. is_point (columns_of s) q ≡ true) (λ q. fits (table_columns s) q ≡ true) (λ q t. point_fits (columns_of s) q t) (made_points p h m i rules.rules a) (made_kept p h m i rules.rules a.structure s a.points is set).typed)

-- ---- the run of a call
pub order_is : (rules : List HierRule) (order : Option (List ℕ)) → HasOrder rules order → IsOrder rules (places_or_none order)
order_is rules None h = absurd h
order_is rules (Some places) h = h

-- the written rules are those of the ruleset, the items those of the operand, and what was computed is a run in the order
module _ (p : Settings) (m : Mode) (i : HierInput) (rules : HierRules) (a : DataSet) (s : Structure) (is : IsHierarchyMade (ruled_by rules a.structure) rules.rules a.structure s) (set : IsDataSet a.structure a.points) (has : HasOrder rules.rules rules.order)
    (items : Itemized) (kind : Kind) (written : List HierRule) (order : List ℕ) (made : Computed) (seen : Option Fault) (is_items : items ≡ itemized_by rules.variable a) (is_kind : kind ≡ (ruled_by rules a.structure).kind) (all_written : written ≡ rules.rules)
    (is_order : order ≡ places_or_none rules.order) (is_made : made ≡ ran_columns p m kind i items [] (rules_at written order)) (is_seen : seen ≡ ran_fault p m kind i items [] (rules_at written order)) where
  abbrev kept : IsOrder rules.rules (places_or_none rules.order)
  kept = order_is rules.rules rules.order has

  abbrev its : Itemized
  its = itemized_by rules.variable a

  abbrev hier : Ruled
  hier = ruled_by rules a.structure

  made_is : made ≡ ran_columns p m hier.kind i its [] (rules_at rules.rules (places_or_none rules.order))
  made_is =
      is_made ∙ ap (λ y. ran_columns p m kind i y [] (rules_at written order)) is_items ∙ ap (λ z. ran_columns p m z i its [] (rules_at written order)) is_kind
      ∙ ap (λ w. ran_columns p m hier.kind i its [] (rules_at w order)) all_written ∙ ap (λ o. ran_columns p m hier.kind i its [] (rules_at rules.rules o)) is_order

  pub seen_is : seen ≡ faults_by (λ r. faults_by (made_fault p hier m i rules.rules a r) (combinations hier.id a)) (definitions rules.rules)
  seen_is =
      is_seen ∙ ap (λ y. ran_fault p m kind i y [] (rules_at written order)) is_items ∙ ap (λ z. ran_fault p m z i its [] (rules_at written order)) is_kind
      ∙ ap (λ w. ran_fault p m hier.kind i its [] (rules_at w order)) all_written ∙ ap (λ o. ran_fault p m hier.kind i its [] (rules_at rules.rules o)) is_order
      ∙ whole_fault p m i rules a s is set (places_or_none rules.order) kept

  rows_are : flat_map (made_rows items made) (definitions written) ≡ flat_map (made_rows its (ran_columns p m hier.kind i its [] (rules_at rules.rules (places_or_none rules.order)))) (definitions rules.rules)
  rows_are =
      ap (λ y. flat_map (made_rows y made) (definitions written)) is_items ∙ ap (λ l. flat_map (made_rows its l) (definitions written)) made_is
      ∙ ap (λ w. flat_map (made_rows its (ran_columns p m hier.kind i its [] (rules_at rules.rules (places_or_none rules.order)))) (definitions w)) all_written

  pub points_are : flat_map (made_rows items made) (definitions written) ≡ made_points p hier m i rules.rules a
  points_are = rows_are ∙ whole_rows p m i rules a s is set (places_or_none rules.order) kept

  pub points_fit : (columns : List Column) → columns ≡ table_columns s → AllByRecursion (λ q. fits columns q ≡ true) (flat_map (made_rows items made) (definitions written))
  points_fit columns e =
      subst (λ cs. AllByRecursion (λ q. fits cs q ≡ true) (flat_map (made_rows items made) (definitions written))) (sym e)
      (subst (AllByRecursion (λ q. fits (table_columns s) q ≡ true)) (sym rows_are) (rows_fit p m i rules a s is set (places_or_none rules.order) kept))

-- ---- a rule of the walk
module _ (p : Settings) (m : Mode) (kind : Kind) (i : HierInput) (x : Itemized) (rules : List HierRule) (order : List ℕ) (n place : ℕ) (h : n < length order) (at : place ≡ get_or order n 0) (old new : Computed) (seen next : Option Fault) (made : Computed) (fault : Option Fault)
    (so_far : ran_columns p m kind i x old (rules_at rules (drop n order)) ≡ made) (seen_so_far : join seen (ran_fault p m kind i x old (rules_at rules (drop n order))) ≡ fault) where
  abbrev behind : List HierRule
  behind = rules_at rules (drop (n + 1) order)

  pub made_more : (r : HierRule) → slice_get rules place ≡ Some r → new ≡ with_column p m kind i x old r → ran_columns p m kind i x new behind ≡ made
  made_more r e f = ap (λ l. ran_columns p m kind i x l behind) f ∙ sym (ap (ran_columns p m kind i x old) (places_behind rules order n place h at ∙ ap (λ o. cons_option o behind) e)) ∙ so_far

  pub seen_more_of : (r : HierRule) → slice_get rules place ≡ Some r → new ≡ with_column p m kind i x old r → next ≡ join seen (fault_by p m kind i x old r) → join next (ran_fault p m kind i x new behind) ≡ fault
  seen_more_of r e f g =
      ap (λ l. join next (ran_fault p m kind i x l behind)) f ∙ ap (λ s. join s (ran_fault p m kind i x (with_column p m kind i x old r) behind)) g
      ∙ join_assoc seen (fault_by p m kind i x old r) (ran_fault p m kind i x (with_column p m kind i x old r) behind)
      ∙ sym (ap (λ l. join seen (ran_fault p m kind i x old l)) (places_behind rules order n place h at ∙ ap (λ o. cons_option o behind) e)) ∙ seen_so_far

  pub none_more : slice_get rules place ≡ None → ran_columns p m kind i x old behind ≡ made
  none_more e = sym (ap (ran_columns p m kind i x old) (places_behind rules order n place h at ∙ ap (λ o. cons_option o behind) e)) ∙ so_far

  pub none_seen : slice_get rules place ≡ None → join seen (ran_fault p m kind i x old behind) ≡ fault
  none_seen e = sym (ap (λ l. join seen (ran_fault p m kind i x old l)) (places_behind rules order n place h at ∙ ap (λ o. cons_option o behind) e)) ∙ seen_so_far
