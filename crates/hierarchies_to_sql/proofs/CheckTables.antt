-- The tables of `check_hierarchy` mean it.
use Rattle.std.proofs.Common.{◌≡◌, ◌≤◌, ◌<◌, ◌+◌, ◌^◌, ℕ, suc, Bool, true, false, ◌||◌, List, [], ◌∷◌, ◌++◌, length, map, Option, Ok, Err, refl, sym, ap, ◌∙◌, subst, arith, append_assoc, length-append}
use Rattle.std.specs.List.{AllByRecursion, filter_map, flat_map, list_any}
use Rattle.std.proofs.lemmas.List.{length-map}
use Rattle.vtl_decimal.specs.Settings.{Settings}
use Rattle.vtl_decimal.specs.declared.number.Fault.{Fault}
use Rattle.vtl_cell.specs.Held.{IsHeld as IsHeldCell}
use Rattle.vtl_cell.specs.Literals.{is_null_kind}
use Rattle.vtl_cell.specs.Outcome.{Outcome, after, faults_by, unless}
use Rattle.vtl_cell.specs.Outcomes.{Same}
use Rattle.vtl_cell.specs.Row.{Row}
use Rattle.vtl_cell.specs.declared.cell.Cell.TheVariants as c
use Rattle.vtl_lists.specs.Perm.{Perm, chain}
use Rattle.vtl_lists.proofs.Perms.{AllByRecursion-Perm, Perm-flat_map_each, Perm-same, Perm-sym}
use Rattle.vtl_lists.proofs.Alls.{all_append, all_back, all_flat_map, all_front, all_more}
use Rattle.vtl_lists.proofs.Sorts.{AllByRecursion-map}
use Rattle.vtl_lists.proofs.Filters.{filter_map-map}
use Rattle.vtl_syntax.specs.declared.statements.HierRule.{HierRule}
use Rattle.vtl_syntax.specs.declared.word_groups.CheckOut.{CheckOut}
use Rattle.vtl_syntax.specs.declared.word_groups.Mode.{Mode}
use Rattle.vtl_text.specs.Words.{is_word}
use Rattle.vtl_tree.specs.Checks.{rule_id, ruleid, sided_measures, with_ids}
use Rattle.vtl_tree.specs.Columns.{identifiers_of, measures_of, others_of}
use Rattle.vtl_tree.specs.CompExp.{const}
use Rattle.vtl_tree.specs.DataSet.{IsDataSet}
use Rattle.vtl_tree.specs.Environment.{DataSet}
use Rattle.vtl_tree.specs.RuleItems.{items_of, left_item, signed_item}
use Rattle.vtl_tree.specs.Structure.{columns_of, same_name}
use Rattle.vtl_tree.specs.declared.structure.Component.{Component}
use Rattle.vtl_tree.specs.declared.structure.Structure.{Structure}
use Rattle.vtl_tree.proofs.Faults.{Same_unless, faults_by-Perm}
use Rattle.vtl_tree.proofs.NotNullLemmas.{same_itself}
use Rattle.vtl_tuples.specs.Keys.{TellsApart, each_once}
use Rattle.vtl_tuples.proofs.Lists.{map-map}
use Rattle.vtl_tuples.proofs.Onces.{alike, among_once, once_hold}
use Rattle.vtl_meaning.specs.Made.{HasIdentifiers}
use Rattle.vtl_meaning.specs.Points.{with_points}
use Rattle.vtl_meaning.proofs.Places.{all_of_map, columns_split, same_name-is}
use Rattle.vtl_rulings.specs.HierarchyChecks.{Ruled, SidedRule, check_fault, check_hierarchy_of, check_point, combinations, items_at, only_name, sided_rules}
use Rattle.vtl_rulings.specs.HierarchyShapes.{IsHierarchyChecked}
use Rattle.vtl_rulings.proofs.Orders.{Perm-filter_map, faults_each}
use Rattle.vtl_rulings.proofs.HierarchyProfiles.{level_fits}
use Rattle.sql_tree.specs.Trees.{QueryTree, Text}
use Rattle.sql_meaning.specs.Scripts.{Data}
use Rattle.sql_meaning.specs.Selects.{appended}
use Rattle.joins_to_sql.specs.Joins.{placed_at, placed_from, width_of}
use Rattle.joins_to_sql.proofs.FullMeans.{beside_there}
use Rattle.joins_to_sql.proofs.HeldOperands.{IsHeld}
use Rattle.selects_to_sql.specs.Means.{AreEarlier, AreThere, Means, NodeGives, SourcesGive}
use Rattle.selects_to_sql.specs.Runs.{held}
use Rattle.selects_to_sql.specs.Tables.{Sources, and_then, table_of}
use Rattle.selects_to_sql.specs.Writable.{CanBeWritten, HaveNames}
use Rattle.selects_to_sql.proofs.Composition.{alone, over_gives}
use Rattle.selects_to_sql.proofs.Exact.{IsExactly, exactly_same, means_by}
use Rattle.selects_to_sql.proofs.Expressions.{Translates}
use Rattle.selects_to_sql.proofs.Givens.{AreGiven, kinds_in}
use Rattle.selects_to_sql.proofs.Running.{columns_there, run_stops}
use Rattle.selects_to_sql.proofs.SelectItems.{GivesRows}
use Rattle.selects_to_sql.proofs.Unions.{AllGive, union_exactly}
use Rattle.rules_to_sql.proofs.Columns.{for_append, for_like, kinds_behind}
use Rattle.rules_to_sql.proofs.Lists.{appended_is}
use Rattle.rules_to_sql.proofs.RuleIds.{id_held}
use Rattle.hierarchies_to_sql.specs.CheckTables.{check_hierarchy_made, checked_items, sided, with_behind}
use Rattle.hierarchies_to_sql.specs.ItemTables.{Tables, key_exp, leaf_at, structures_for, tables_by}
use Rattle.hierarchies_to_sql.specs.RuleSelects.{checked_query, checked_select}
use Rattle.hierarchies_to_sql.specs.SideExps.{Leaf, check_parts}
use Rattle.hierarchies_to_sql.specs.Writable.{CanBeSided, most_items}
use Rattle.hierarchies_to_sql.proofs.ChainRows.{IsLead, combination}
use Rattle.hierarchies_to_sql.proofs.ItemColumns.{IsSided, keys, t}
use Rattle.hierarchies_to_sql.proofs.KeptRows.{faults_mapped}
use Rattle.hierarchies_to_sql.proofs.RuleSelects.{TablesKnow, columns, rule_gives}
use Rattle.hierarchies_to_sql.proofs.SideColumns.{ids_for, ids_written, leaves_count, leaves_typed}
use Rattle.hierarchies_to_sql.proofs.SideTables.{CanBeItems, Holds, all_keys, all_keys_typed, item_sets, keys_are, sided_give, tables_known}
use Rattle.hierarchies_to_sql.proofs.TypedSides.{AreLeaves, IsLeaf, parts_for, parts_written, where_test}

-- ---- items of rules

pub names_apart : TellsApart same_name
names_apart = record { is = same_name-is; self = same_itself }

holds_more : (item name : List ℕ) (items : List (List ℕ)) → Holds items name → Holds (item ∷ items) name
holds_more item name items e = go (same_name item name)
  where
    go : (b : Bool) → (b || list_any (λ i. same_name i name) items) ≡ true
    go true = refl
    go false = e

own_items : (items : List (List ℕ)) → AllByRecursion (Holds items) items
own_items [] = tt
own_items (item ∷ items) = (
  ap (λ b. b || list_any (λ i. same_name i item) items) (same_itself item),
  all_more (Holds items) (Holds (item ∷ items)) (λ name e. holds_more item name items e) items (own_items items),
)

pub once_items : (items : List (List ℕ)) → AllByRecursion (Holds (each_once same_name items)) items
once_items items = all_more (Holds items) (Holds (each_once same_name items)) (λ name e. among_once same_name (alike same_name names_apart) items name ∙ e) items (own_items items)

pub all_of_each : {X Y : Type 0} (P : Y → Type 0) (f : X → List Y) (xs : List X) → AllByRecursion P (flat_map f xs) → AllByRecursion (λ x. AllByRecursion P (f x)) xs
all_of_each P f [] all = tt
all_of_each P f (x ∷ xs) all = (all_front P (f x) (flat_map f xs) all, all_of_each P f xs (all_back P (f x) (flat_map f xs) all))

-- what holds of items holds of them each once
pub all_once : (P : List ℕ → Type 0) (items : List (List ℕ)) → AllByRecursion P items → AllByRecursion P (each_once same_name items)
all_once P items all = once_hold P same_name items all

-- the tables are of the items of all rules
items_there : (rules : List HierRule) → AllByRecursion (λ r. AllByRecursion (Holds (checked_items rules)) (items_of r)) rules
items_there rules = all_of_each (Holds (checked_items rules)) items_of rules (once_items (flat_map items_of rules))

-- ---- lists

-- the operand's identifiers have kinds, since those of the result have
pub operand_kinds : (a s : Structure) (more : List Component) → HasIdentifiers s (identifiers_of a ++ more) → AreGiven (columns_of s) → AllByRecursion (λ y. is_null_kind y.kind ≡ false) (identifiers_of a)
operand_kinds a s more i given =
    let ids = identifiers_of s in
    let theirs : AllByRecursion (λ y. is_null_kind y.kind ≡ false) ids = all_front (λ y. is_null_kind y.kind ≡ false) ids (others_of s) (subst (AllByRecursion (λ y. is_null_kind y.kind ≡ false)) (columns_split s) given.kinds) in
    all_front (λ y. is_null_kind y.kind ≡ false) (identifiers_of a) more
    (all_of_map (λ y. y.kind) (λ q. is_null_kind q ≡ false) (identifiers_of a ++ more) (subst (AllByRecursion (λ q. is_null_kind q ≡ false)) i.1 (AllByRecursion-map (λ y. y.kind) (λ q. is_null_kind q ≡ false) ids theirs)))

-- ---- the select of each rule

module _ (p : Settings) (law : Translates p) (h : Ruled) (a s : Structure) (is : IsSided h a) (d : List Row) (set : IsDataSet a d) (na : HaveNames (columns_of a)) (kinds : AllByRecursion (λ y. is_null_kind y.kind ≡ false) (identifiers_of a)) (given : AreGiven (columns_of s)) (o : CheckOut) (m : Mode) where
  abbrev A : DataSet
  A = with_points a d

  module _ (now : Data) (qs : List Row) (x : Text) (here : IsHeld now x (with_points (keys h a is) qs)) (typed : AllByRecursion (IsLead h a is) qs) (tables : Tables) where
    abbrev at : Row → Row
    at q = combination h a is q

    abbrev Known : SidedRule → Type 0
    Known rule = TablesKnow p law now h a is na kinds qs x here typed tables (items_at h A) (items_of rule.1)

    -- what is known of a rule
    pub record IsReady (rule : SidedRule) : Type 0 where
      pub known : Known rule
      pub id : IsHeldCell (c.Text rule.0)
      pub sided : CanBeSided p rule.1

    few_items : (rule : SidedRule) → CanBeSided p rule.1 → 1 + length (map tables (items_of rule.1)) < 2 ^ 64
    few_items rule i = let few = i.few in let size = length-map (items_of rule.1) tables in omega (arith, few, size)

    abbrev fault : SidedRule → Option Fault
    fault rule = faults_by (λ q. check_fault p m h.kind (items_at h A (at q)) rule.1) qs

    abbrev points : SidedRule → List Row
    points rule = filter_map (λ q. check_point p o h m A rule (at q)) qs

    abbrev T : Structure
    T = t h a is

    abbrev n : ℕ
    n = width_of (keys h a is)

    -- the leaves of the left item, of the first right one and of the others
    abbrev left : Leaf
    left = leaf_at h (placed_at n T)

    abbrev first_right : Leaf
    first_right = leaf_at h (placed_at (n + width_of T) T)

    abbrev more_rights : SidedRule → List Leaf
    more_rights rule = map (leaf_at h) (placed_from (n + width_of T + width_of T) (structures_for h a (map signed_item rule.1.others)))

    one_given : (rule : SidedRule) → IsReady rule → kinds_in (identifiers_of a ++ (ruleid ∷ sided_measures o a)) ≡ kinds_in (columns_of s) → GivesRows p now s (checked_select p h a x tables o m s rule) (unless (fault rule) (points rule))
    one_given rule i same =
        let r = rule.1 in
        let few = few_items rule i.sided in
        let names = items_of r in
        let rest = more_rights rule in
        let low = i.sided.few in
        let size = leaves_count p h a is (n + width_of T + width_of T) (map signed_item r.others) in
        let many = length-map r.others signed_item in
        let fits : length (left ∷ first_right ∷ rest) ≤ most_items = omega (arith, low, size, many) in
        let F = columns_of (keys h a is) in
        let ws = columns p law now h a is na kinds qs x here typed tables (items_at h A) names i.known few in
        let leaves : AreLeaves p ws h.kind is.itemized.numeric (left ∷ first_right ∷ rest) =
        subst (λ ss. AllByRecursion (IsLeaf p ws h.kind is.itemized.numeric) (map (leaf_at h) (placed_from n ss))) (map-map (λ z. T) tables names) (leaves_typed p h a is (map tables names)) in
        let key = map (key_exp h.id F (left_item r)) (identifiers_of a) in
        let shown = check_parts p o m h.kind r (left ∷ first_right ∷ rest) in
        let behind = flat_map columns_of (structures_for h a (map tables names)) in
        rule_gives p law now h a is na kinds qs x here typed tables m d rule i.known few o s given
        (for_like p ws (key ++ (const (c.Text rule.0) ∷ shown)) (identifiers_of a ++ (ruleid ∷ sided_measures o a)) (columns_of s) same
        (for_append p ws key (const (c.Text rule.0) ∷ shown) (identifiers_of a) (ruleid ∷ sided_measures o a) (ids_for p h a is behind (left_item r))
        (tt, refl, parts_for p ws h.kind is.itemized.numeric m r left first_right rest leaves fits o (measures_of a) is.itemized.only (level_fits p r.error.level))))
        (all_append CanBeWritten key (const (c.Text rule.0) ∷ shown) (ids_written h.id F (left_item r) i.sided.items.0 (identifiers_of a))
        (record { constants = i.id; shallow = omega arith }, parts_written p ws h.kind is.itemized.numeric m r left first_right rest leaves fits o i.sided.errors))
        (where_test p ws h.kind is.itemized.numeric m r left first_right rest leaves fits o)

    all_given : (rules : List SidedRule) → AllByRecursion IsReady rules → kinds_in (identifiers_of a ++ (ruleid ∷ sided_measures o a)) ≡ kinds_in (columns_of s) → AllGive p now s (map (checked_select p h a x tables o m s) rules) (map (λ rule. unless (fault rule) (points rule)) rules)
    all_given [] all same = tt
    all_given (rule ∷ rules) all same = (one_given rule all.0 same, all_given rules all.1 same)

    -- all of them
    pub checked_exactly : (rule : HierRule) (rules : List HierRule) → AllByRecursion IsReady (sided_rules (rule ∷ rules)) → IsHierarchyChecked o h (rule ∷ rules) a s → IsExactly p now (checked_query p h a x tables o m (rule ∷ rules) s) s (unless (faults_by fault (sided_rules (rule ∷ rules))) (flat_map points (sided_rules (rule ∷ rules))))
    checked_exactly rule rules all i =
        let one : SidedRule = (rule_id 1 rule.name, rule) in
        let others = with_ids (λ r. r.name) 2 rules in
        let q = checked_select p h a x tables o m s in
        let result : SidedRule → Outcome (List Row) = λ r. unless (fault r) (points r) in
        let same = ap kinds_in (sym (append_assoc (identifiers_of a) (ruleid ∷ []) (sided_measures o a))) ∙ kinds_behind s (identifiers_of a ++ (ruleid ∷ [])) (sided_measures o a) i.identifiers i.others in
        exactly_same p now (checked_query p h a x tables o m (rule ∷ rules) s) s (appended (map result (one ∷ others))) (unless (faults_by fault (one ∷ others)) (flat_map points (one ∷ others)))
        (appended_is fault points (one ∷ others))
        (union_exactly p now s given (q one) (map q others) (result one) (map result others) (all_given (one ∷ others) all same))

    -- at the combinations in another order
    pub checked_same : (rules : List HierRule) → Perm (map at qs) (combinations h.id A) → Same (unless (faults_by fault (sided_rules rules)) (flat_map points (sided_rules rules))) (check_hierarchy_of p o h m A rules)
    checked_same rules same =
        let all = sided_rules rules in
        let rows = combinations h.id A in
        let fault_at : SidedRule → Row → Option Fault = λ rule k. check_fault p m h.kind (items_at h A k) rule.1 in
        let point_at : SidedRule → Row → Option Row = λ rule k. check_point p o h m A rule k in
        let faults : SidedRule → Option Fault = λ rule. faults_by (fault_at rule) rows in
        let shown : SidedRule → List Row = λ rule. filter_map (point_at rule) rows in
        Same_unless (faults_by fault all) (faults_by faults all) (flat_map points all) (flat_map shown all)
        (faults_each fault faults (λ rule. sym (faults_mapped (fault_at rule) at qs) ∙ faults_by-Perm (fault_at rule) same) all)
        (Perm-flat_map_each points shown (λ rule. chain (Perm-same (points rule) (filter_map (point_at rule) (map at qs)) (sym (filter_map-map (point_at rule) at qs))) (Perm-filter_map (point_at rule) (map at qs) rows same)) all)

  -- ---- the tables

  abbrev items : List HierRule → List (List ℕ)
  items rules = checked_items rules

  items_written : (rules : List HierRule) → AllByRecursion (CanBeSided p) rules → CanBeItems (items rules)
  items_written rules all =
      let P : List ℕ → Type 0 = λ item. IsHeldCell (c.Text item) in
      all_once P (flat_map items_of rules) (all_flat_map P items_of rules (all_more (CanBeSided p) (λ r. AllByRecursion P (items_of r)) (λ r i. i.items) rules all))

  module _ (rule : HierRule) (rules : List HierRule) (i : IsHierarchyChecked o h (rule ∷ rules) a s) (written : AllByRecursion (CanBeSided p) (rule ∷ rules)) (few_rules : length (rule ∷ rules) < 2 ^ 64) where
    abbrev all : List HierRule
    all = rule ∷ rules

    abbrev query : List Text → QueryTree
    query names = with_behind (λ x. with_behind (λ k xs. checked_query p h a k (tables_by (items all) xs) o m all s)) names

    query_means : (later : Data) (names : List Text) → AreThere later names (A ∷ all_keys h a is d set ∷ item_sets h a is d set (items all)) → Means p later (query names) s (check_hierarchy_of p o h m A all)
    query_means later [] there = absurd there
    query_means later (x ∷ []) there = absurd there.1
    query_means later (x ∷ k ∷ xs) there =
        let st = there.1.0 in
        let qs = st.rows in
        let tables = tables_by (items all) xs in
        let here : IsHeld later k (with_points (keys h a is) qs) = record { word = st.named; table = st.table; known = columns_there later k (held (keys h a is) qs) st.table } in
        let typed : AllByRecursion (IsLead h a is) qs = AllByRecursion-Perm (IsLead h a is) (Perm-sym st.same) (all_keys_typed h a is d set) in
        let ready = all_ready later k qs here typed xs there.1.1 1 all written (items_there all) (omega (arith, few_rules)) in
        means_by p later (checked_query p h a k tables o m all s) s _ (check_hierarchy_of p o h m A all)
        (checked_same later qs k here typed tables all (keys_are h a is d set qs st.same)) (checked_exactly later qs k here typed tables rule rules ready i)
      where
        all_ready : (now : Data) (y : Text) (qs : List Row) (here : IsHeld now y (with_points (keys h a is) qs)) (typed : AllByRecursion (IsLead h a is) qs) (ys : List Text) → AreThere now ys (item_sets h a is d set (items all)) → (n : ℕ) (rs : List HierRule) → AllByRecursion (CanBeSided p) rs → AllByRecursion (λ r. AllByRecursion (Holds (items all)) (items_of r)) rs → n + length rs ≤ 2 ^ 64
            → AllByRecursion (IsReady now qs y here typed (tables_by (items all) ys)) (with_ids (λ r. r.name) n rs)
        all_ready now y qs here typed ys there n [] w held few = tt
        all_ready now y qs here typed ys there n (r ∷ rs) w held few = (
          record {
            known = tables_known h a is d set now (map (combination h a is) qs) (items all) ys there (items_of r) held.0;
            id = id_held n r.name (omega (arith, few)) w.0.name;
            sided = w.0;
          },
          all_ready now y qs here typed ys there (suc n) rs w.1 held.1 (omega (arith, few)),
        )

    module _ (r : Text) (word : is_word r ≡ true) where
      check_there : (before : Data) (n : ℕ) (os : Sources) → AreEarlier r n before → n + length (check_hierarchy_made p r h m o all a s os).tables < 2 ^ 64 → SourcesGive p before r n os (Ok (A ∷ [])) → NodeGives p before r n (check_hierarchy_made p r h m o all a s os) s (check_hierarchy_of p o h m A all)
      check_there before n os apart few g =
          let next : ℕ → Sources = sided p r h a (items all) os.names in
          let sets : List DataSet = all_keys h a is d set ∷ item_sets h a is d set (items all) in
          let size = length-append os.tables (next os.next).tables in
          let both : SourcesGive p before r n (and_then os next) (Ok (A ∷ sets)) =
          beside_there p r word before n os next (A ∷ []) (Ok sets) apart g
          (λ more there earlier counted. sided_give h a is d set p law na kinds r word (items all) (items_written all written) (before ++ more) os.names os.next there earlier (omega (arith, few, size, counted))) in
          over_gives p r word before n (and_then os next) query s (Ok (A ∷ sets)) (λ l. check_hierarchy_of p o h m A all) both
          (λ later l e there. let same : A ∷ sets ≡ l = cc in query_means later (and_then os next).names (subst (AreThere later (and_then os next).names) (sym same) there))

-- ---- where the operand has a fault, too

pub check_hierarchy_gives : (p : Settings) → Translates p → (r : Text) (word : is_word r ≡ true) (before : Data) (n : ℕ) (os : Sources) (h : Ruled) (m : Mode) (o : CheckOut) (rule : HierRule) (rules : List HierRule) (a s : Structure) (v : Outcome (List Row)) → HaveNames (columns_of a) → AreGiven (columns_of s) → ((d : List Row) → v ≡ Ok d → IsDataSet a d)
    → IsHierarchyChecked o h (rule ∷ rules) a s → h.measure ≡ only_name (measures_of a) → AllByRecursion (CanBeSided p) (rule ∷ rules) → length (rule ∷ rules) < 2 ^ 64 → AreEarlier r n before → n + length (check_hierarchy_made p r h m o (rule ∷ rules) a s os).tables < 2 ^ 64
    → SourcesGive p before r n os (alone p r word a v) → NodeGives p before r n (check_hierarchy_made p r h m o (rule ∷ rules) a s os) s (after v (λ d. check_hierarchy_of p o h m (with_points a d) (rule ∷ rules)))
check_hierarchy_gives p law r word before n os h m o rule rules a s (Err f) na given sets i sole written many apart few g =
    let made = check_hierarchy_made p r h m o (rule ∷ rules) a s os in
    let next = sided p r h a (checked_items (rule ∷ rules)) os.names os.next in
    λ name e. run_stops p before made.tables (table_of name made.query ∷ []) (f, r) (run_stops p before os.tables next.tables (f, r) g)
check_hierarchy_gives p law r word before n os h m o rule rules a s (Ok d) na given sets i sole written many apart few g =
    let set = sets d refl in
    let is : IsSided h a = record { well = set.well_formed; itemized = i.itemized; sole = sole } in
    check_there p law h a s is d set na (operand_kinds a s (ruleid ∷ []) i.identifiers given) given o m rule rules i written many r word before n os apart few g
