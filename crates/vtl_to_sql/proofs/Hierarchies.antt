-- The tables of `hierarchy` mean it: the computed points, or these and the operand's other points by a union.
use Rattle.std.proofs.Common.{◌≡◌, ◌≤◌, ◌<◌, ◌+◌, ◌^◌, ℕ, true, List, [], ◌∷◌, ◌++◌, length, Option, Some, None, Ok, Err, refl, sym, ap, subst, arith, append-nil, length-append}
use Rattle.std.specs.List.{AllByRecursion}
use Rattle.vtl_decimal.specs.Settings.{Settings}
use Rattle.vtl_decimal.specs.declared.number.Fault.{Fault}
use Rattle.vtl_lists.proofs.Sorts.{AllByRecursion-filter}
use Rattle.vtl_text.specs.Words.{is_word}
use Rattle.vtl_cell.specs.Outcome.{Outcome, after, faults_by, unless}
use Rattle.vtl_cell.specs.Row.{Row}
use Rattle.vtl_syntax.specs.declared.statements.HierRule.{HierRule}
use Rattle.vtl_syntax.specs.declared.word_groups.CheckOut.{CheckOut}
use Rattle.vtl_syntax.specs.declared.word_groups.HierInput.{HierInput}
use Rattle.vtl_syntax.specs.declared.word_groups.HierOut.{HierOut}
use Rattle.vtl_syntax.specs.declared.word_groups.HierOut.TheVariants as out
use Rattle.vtl_syntax.specs.declared.word_groups.Mode.{Mode}
use Rattle.vtl_tree.specs.Columns.{measures_of}
use Rattle.vtl_tree.specs.DataSet.{IsDataSet}
use Rattle.vtl_tree.specs.Environment.{DataSet}
use Rattle.vtl_tree.specs.RuleItems.{definitions, is_equation}
use Rattle.vtl_tree.specs.Structure.{IsStructure, columns_of, key_width}
use Rattle.vtl_tree.specs.declared.structure.Structure.{Structure}
use Rattle.vtl_meaning.specs.Operators.{left_of}
use Rattle.vtl_meaning.specs.Points.{with_points}
use Rattle.vtl_meaning.specs.Sets.{united}
use Rattle.vtl_meaning.proofs.Orders.{shown_respects}
use Rattle.vtl_rulings.specs.Hierarchies.{hierarchy_of, made_fault, made_points}
use Rattle.vtl_rulings.specs.HierarchyChecks.{Ruled, combinations, only_name}
use Rattle.vtl_rulings.specs.HierarchyShapes.{IsHierarchyMade}
use Rattle.vtl_rulings.specs.Ordered.{HasOrder, IsOrder, places_or_none, rules_at}
use Rattle.vtl_rulings.proofs.HierarchiesMade.{hierarchy_kept}
use Rattle.sql_tree.specs.Trees.{Text}
use Rattle.sql_meaning.specs.Scripts.{Data}
use Rattle.selects_to_sql.specs.Means.{AreEarlier, AreThere, NodeGives, SourcesGive}
use Rattle.selects_to_sql.specs.Tables.{Made, Sources, and_then, by_names, numbered, table_of}
use Rattle.selects_to_sql.specs.Writable.{HaveNames}
use Rattle.selects_to_sql.proofs.Composition.{alone, no_tables, stored_gives, two_gives}
use Rattle.selects_to_sql.proofs.Exact.{means_by, set_turned}
use Rattle.selects_to_sql.proofs.Expressions.{Translates}
use Rattle.selects_to_sql.proofs.Givens.{AreGiven}
use Rattle.selects_to_sql.proofs.Running.{run_stops}
use Rattle.joins_to_sql.proofs.FullMeans.{beside_there}
use Rattle.joins_to_sql.proofs.KeyColumns.{identifiers_named}
use Rattle.hierarchies_to_sql.specs.CheckTables.{check_hierarchy_made, checked_items, sided}
use Rattle.hierarchies_to_sql.specs.ComputedTables.{computed_by, computed_made, given_items, ordered_tables}
use Rattle.hierarchies_to_sql.specs.Writable.{CanBeSided}
use Rattle.hierarchies_to_sql.proofs.ComputedTables.{computed_gives}
use Rattle.vtl_to_sql.specs.Hierarchies.{computed_table, hierarchy_made}
use Rattle.vtl_to_sql.specs.Sets.{union_query}
use Rattle.vtl_to_sql.proofs.SetQueries.{IsShown}
use Rattle.vtl_to_sql.proofs.SetSteps.{shown_own, shown_self, shown_set_of, union_step}

-- ---- the tables of an operand stand before those that are made of it

pub checked_first : (p : Settings) (r : Text) (h : Ruled) (m : Mode) (o : CheckOut) (rules : List HierRule) (a s : Structure) (os : Sources) → length os.tables ≤ length (check_hierarchy_made p r h m o rules a s os).tables
checked_first p r h m o rules a s os = omega (arith, length-append os.tables (sided p r h a (checked_items rules) os.names os.next).tables)

made_first : (p : Settings) (r : Text) (h : Ruled) (m : Mode) (i : HierInput) (rules : List HierRule) (order : List ℕ) (a s : Structure) (os : Sources) → length os.tables ≤ length (computed_made p r h m i rules order a s os).tables
made_first p r h m i rules order a s os = go (definitions rules)
  where
    go : (defined : List HierRule) → length os.tables ≤ length (computed_by p r h m i defined (rules_at rules order) a s os).tables
    go [] = omega arith
    go (q ∷ qs) = omega (arith, length-append os.tables (ordered_tables p r h m i a (given_items i (q ∷ qs)) (rules_at rules order) os.names os.next).tables)

pub computed_first : (p : Settings) (r : Text) (h : Ruled) (m : Mode) (i : HierInput) (o : HierOut) (rules : List HierRule) (order : List ℕ) (a s : Structure) (os : Sources) → length os.tables ≤ length (hierarchy_made p r h m i o rules order a s os).tables
computed_first p r h m i out.Computed rules order a s os = made_first p r h m i rules order a s os
computed_first p r h m i out.All rules order a s os = omega (arith, length-append os.tables (computed_table p r h m i rules order a s os.names os.next).tables)

-- ---- the computed points, in an order that typing found

points_give : (p : Settings) → Translates p → (r : Text) (word : is_word r ≡ true) (before : Data) (k : ℕ) (os : Sources) (h : Ruled) (m : Mode) (i : HierInput) (rules : List HierRule) (order : List ℕ) (a s : Structure) (v : Outcome (List Row)) → HaveNames (columns_of a) → AreGiven (columns_of s) → ((d : List Row) → v ≡ Ok d → IsDataSet a d)
    → IsHierarchyMade h rules a s → h.measure ≡ only_name (measures_of a) → IsOrder rules order → AllByRecursion (CanBeSided p) rules → AreEarlier r k before → k + length (computed_made p r h m i rules order a s os).tables < 2 ^ 64
    → SourcesGive p before r k os (alone p r word a v) → NodeGives p before r k (computed_made p r h m i rules order a s os) s (after v (λ d. hierarchy_of p h m i rules (with_points a d) out.Computed s))
points_give p law r word before k os h m i rules order a s v na given sets is sole ordered written apart few g =
    computed_gives p law r word before k os h m i rules (rules_at rules order) a s v na given sets is sole ordered.ordered ordered.all (AllByRecursion-filter (CanBeSided p) is_equation rules written) apart g few

-- ---- the order that typing gives

pub order_given : (rules : List HierRule) (o : Option (List ℕ)) → HasOrder rules o → IsOrder rules (places_or_none o)
order_given rules None h = absurd h
order_given rules (Some places) h = h

-- ---- all points

-- the computed points and others, where there is no fault
united_is : (n : ℕ) (o : Option Fault) (points l : List Row) (own : List Row → List Row) → (o ≡ None → own points ≡ points) → after (unless o points) (λ e. Ok (united n (own e ∷ l ∷ []))) ≡ unless o (united n (points ∷ l ∷ []))
united_is n None points l own same = ap (λ k. Ok (united n (k ∷ l ∷ []))) (same refl)
united_is n (Some f) points l own same = refl

none_ok : (o : Option Fault) (points : List Row) → o ≡ None → unless o points ≡ Ok points
none_ok o points e = ap (λ x. unless x points) e

module _ (p : Settings) (law : Translates p) (r : Text) (word : is_word r ≡ true) (h : Ruled) (m : Mode) (i : HierInput) (rules : List HierRule) (order : List ℕ) (a s : Structure) (na : HaveNames (columns_of a)) (ns : HaveNames (columns_of s)) (given : AreGiven (columns_of s)) (well : IsStructure s)
    (is : IsHierarchyMade h rules a s) (sole : h.measure ≡ only_name (measures_of a)) (ordered : IsOrder rules order) (written : AllByRecursion (CanBeSided p) rules) (d : List Row) (set : IsDataSet a d) where
  abbrev A : DataSet
  A = with_points a d

  -- the computed points, or their fault
  abbrev computed : Outcome (List Row)
  computed = hierarchy_of p h m i rules A out.Computed s

  computed_set : (e : List Row) → computed ≡ Ok e → IsDataSet s e
  computed_set e q = hierarchy_kept p h m i rules a s d is set out.Computed e q

  abbrev n : ℕ
  n = key_width s

  shown : IsShown a s
  shown = record { alternative = is.operand; plain = is.no_attributes }

  self : IsShown s s
  self = shown_self s well is.no_attributes

  -- both in the columns of the result
  abbrev both : (points e : List Row) → List Row
  both points e = united n (left_of (with_points s e) s ∷ left_of (with_points a points) s ∷ [])

  all_is : after computed (λ e. Ok (both d e)) ≡ hierarchy_of p h m i rules A out.All s
  all_is =
      let fault = faults_by (λ q. faults_by (made_fault p h m i rules A q) (combinations h.id A)) (definitions rules) in
      let points = made_points p h m i rules A in
      united_is n fault points (left_of A s) (λ e. left_of (with_points s e) s) (λ none. shown_own s points (computed_set points (none_ok fault points none)))

  all_given : (before : Data) (k : ℕ) (os : Sources) → AreEarlier r k before → k + length (hierarchy_made p r h m i out.All rules order a s os).tables < 2 ^ 64 → SourcesGive p before r k os (Ok (A ∷ [])) → NodeGives p before r k (hierarchy_made p r h m i out.All rules order a s os) s (hierarchy_of p h m i rules A out.All s)
  all_given before k os apart few g =
      let next : ℕ → Sources = computed_table p r h m i rules order a s os.names in
      let made : Made = computed_made p r h m i rules order a s (by_names os.names os.next) in
      let step = union_step p law s given well (identifiers_named s ns) in
      let size = length-append os.tables (next os.next).tables in
      let own = length-append made.tables (table_of (numbered r made.next) made.query ∷ []) in
      let sources : SourcesGive p before r k (and_then os next) (after (alone p r word s computed) (λ es. Ok ((A ∷ []) ++ es))) =
      beside_there p r word before k os next (A ∷ []) (alone p r word s computed) apart g
      (λ more there earlier counted.
      let now = before ++ more in
      stored_gives p r word now os.next made s computed earlier (omega (arith, few, size, counted))
      (points_give p law r word now os.next (by_names os.names os.next) h m i rules order a s (Ok d) na given (λ e q. let same : d ≡ e = cc in subst (IsDataSet a) same set) is sole ordered written earlier (omega (arith, few, size, counted, own))
      (no_tables p r word now os.next, subst (λ later. AreThere later os.names (A ∷ [])) (sym (append-nil now)) there))) in
      subst (NodeGives p before r k (hierarchy_made p r h m i out.All rules order a s os) s) all_is
      (two_gives p r word before k (and_then os next) (λ x y. union_query p s a s y x) a s s (Ok d) computed (λ points e. Ok (both points e)) sources
      (λ now x y points e q is_computed st su.
      let same : d ≡ points = cc in
      let one = set_turned a points st.rows st.same (subst (IsDataSet a) same set) in
      let two = set_turned s e su.rows su.same (computed_set e is_computed) in
      let la = left_of (with_points a st.rows) s in
      let ls = left_of (with_points s su.rows) s in
      means_by p now (union_query p s a s y x) s (Ok (united n (ls ∷ la ∷ []))) (Ok (both points e))
      (step.turned ls la (left_of (with_points s e) s) (left_of (with_points a points) s) (shown_set_of s s su.rows well self two) (shown_set_of s a st.rows well shown one) (shown_respects (columns_of s) (columns_of s) su.rows e su.same) (shown_respects (columns_of a) (columns_of s) st.rows points st.same))
      (step.means now y x s a su.rows st.rows su.table st.table su.named st.named ns na two one self shown)))

-- ---- where the operand has a fault, too

pub hierarchy_gives : (p : Settings) → Translates p → (r : Text) (word : is_word r ≡ true) (before : Data) (k : ℕ) (os : Sources) (h : Ruled) (m : Mode) (i : HierInput) (o : HierOut) (rules : List HierRule) (order : List ℕ) (a s : Structure) (v : Outcome (List Row)) → HaveNames (columns_of a) → HaveNames (columns_of s) → AreGiven (columns_of s) → IsStructure s
    → ((d : List Row) → v ≡ Ok d → IsDataSet a d) → IsHierarchyMade h rules a s → h.measure ≡ only_name (measures_of a) → IsOrder rules order → AllByRecursion (CanBeSided p) rules → AreEarlier r k before → k + length (hierarchy_made p r h m i o rules order a s os).tables < 2 ^ 64
    → SourcesGive p before r k os (alone p r word a v) → NodeGives p before r k (hierarchy_made p r h m i o rules order a s os) s (after v (λ d. hierarchy_of p h m i rules (with_points a d) o s))
hierarchy_gives p law r word before k os h m i out.Computed rules order a s v na ns given well sets is sole ordered written apart few g = points_give p law r word before k os h m i rules order a s v na given sets is sole ordered written apart few g
hierarchy_gives p law r word before k os h m i out.All rules order a s (Err f) na ns given well sets is sole ordered written apart few g =
    let made = hierarchy_made p r h m i out.All rules order a s os in
    let next = computed_table p r h m i rules order a s os.names os.next in
    λ name e. run_stops p before made.tables (table_of name made.query ∷ []) (f, r) (run_stops p before os.tables next.tables (f, r) g)
hierarchy_gives p law r word before k os h m i out.All rules order a s (Ok d) na ns given well sets is sole ordered written apart few g =
    all_given p law r word h m i rules order a s na ns given well is sole ordered written d (sets d refl) before k os apart few g
