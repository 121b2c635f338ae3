-- The tables of rules that are run in an order stand for what all_each rule computes, or the first that has a fault has it.
use Rattle.std.proofs.Common.{◌≡◌, ◌<◌, ◌+◌, ◌^◌, ℕ, Bool, true, false, cond, List, [], ◌∷◌, ◌++◌, length, map, Option, Some, None, Ok, Err, refl, sym, ap, ◌∙◌, subst, arith, append_assoc, length-append}
use Rattle.std.specs.Prelude.{option_map}
use Rattle.std.specs.List.{AllByRecursion, cons_option, filter_map, find}
use Rattle.std.specs.Option.{IfSome, option_map_or}
use Rattle.vtl_decimal.specs.Settings.{Settings}
use Rattle.vtl_decimal.specs.declared.number.Fault.{Fault}
use Rattle.vtl_cell.specs.Literals.{is_null_kind}
use Rattle.vtl_cell.specs.Outcome.{Outcome, after, fault_in, faults_by, unless}
use Rattle.vtl_cell.specs.Row.{Row, same_row}
use Rattle.vtl_cell.specs.declared.cell.Cell.{Cell}
use Rattle.vtl_lists.specs.Apart.{all_apart}
use Rattle.vtl_lists.proofs.Aparts.{apart_parts}
use Rattle.vtl_lists.proofs.Perms.{Perm-refl}
use Rattle.vtl_lists.proofs.Alls.{all_both, all_each, all_more}
use Rattle.vtl_lists.proofs.Filters.{filter_map-map}
use Rattle.vtl_syntax.specs.declared.statements.HierRule.{HierRule}
use Rattle.vtl_syntax.specs.declared.word_groups.HierInput.{HierInput}
use Rattle.vtl_syntax.specs.declared.word_groups.HierInput.TheVariants as input
use Rattle.vtl_syntax.specs.declared.word_groups.Mode.{Mode}
use Rattle.vtl_text.specs.Texts.{same_text}
use Rattle.vtl_text.specs.Words.{is_word}
use Rattle.vtl_tree.specs.Columns.{identifiers_of}
use Rattle.vtl_tree.specs.DataSet.{is_point}
use Rattle.vtl_tree.specs.Environment.{DataSet}
use Rattle.vtl_tree.specs.Names.{is_among}
use Rattle.vtl_tree.specs.RuleItems.{left_item, right_items}
use Rattle.vtl_tree.specs.Structure.{columns_of, same_name}
use Rattle.vtl_tree.specs.declared.structure.Structure.{Structure}
use Rattle.vtl_meaning.specs.Points.{cell_or_null, with_points}
use Rattle.vtl_meaning.proofs.Places.{all_of_map, same_name-is}
use Rattle.vtl_meaning.proofs.ValueKinds.{IsOf}
use Rattle.vtl_rulings.specs.Hierarchies.{computed, made_at, taken}
use Rattle.vtl_rulings.specs.HierarchyChecks.{Ruled, items_at}
use Rattle.vtl_rulings.specs.Modes.{Found, Items}
use Rattle.vtl_rulings.specs.Running.{AreOrdered, IsFree, made_in_run, step}
use Rattle.sql_tree.specs.Trees.{QueryTree, Text}
use Rattle.sql_meaning.specs.Scripts.{Data}
use Rattle.joins_to_sql.proofs.FullMeans.{beside_there}
use Rattle.joins_to_sql.proofs.HeldOperands.{IsHeld}
use Rattle.selects_to_sql.specs.Means.{AreEarlier, SourcesGive}
use Rattle.selects_to_sql.specs.Runs.{held}
use Rattle.selects_to_sql.specs.Tables.{Made, Sources, by_name, numbered, stored}
use Rattle.selects_to_sql.specs.Writable.{HaveNames}
use Rattle.selects_to_sql.proofs.Composition.{no_tables, stored_gives}
use Rattle.selects_to_sql.proofs.Exact.{IsExactly, exactly_same, means_by}
use Rattle.selects_to_sql.proofs.Expressions.{Translates}
use Rattle.selects_to_sql.proofs.Running.{columns_there, run_stops, there_still}
use Rattle.rules_to_sql.proofs.Lists.{faults_same}
use Rattle.hierarchies_to_sql.specs.ComputedTables.{first_name, merged_query, run_tables, taken_table}
use Rattle.hierarchies_to_sql.specs.ItemTables.{Tables, with_table}
use Rattle.hierarchies_to_sql.specs.RuleSelects.{computed_query}
use Rattle.hierarchies_to_sql.specs.Writable.{CanBeSided}
use Rattle.hierarchies_to_sql.proofs.ChainRows.{AllKnown, IsLead, combination}
use Rattle.hierarchies_to_sql.proofs.ComputedRules.{computed_exactly, found_rows, found_table}
use Rattle.hierarchies_to_sql.proofs.ItemColumns.{IsSided, keys, others, t}
use Rattle.hierarchies_to_sql.proofs.ItemTables.{Knows, has_key, item_row, knows_by, knows_still}
use Rattle.hierarchies_to_sql.proofs.KeptRows.{faults_mapped}
use Rattle.hierarchies_to_sql.proofs.MadeTables.{behind_give, plain, plain_gives}
use Rattle.hierarchies_to_sql.proofs.MergedItems.{both_fit, merged_exactly, of_both, taken_is}
use Rattle.hierarchies_to_sql.proofs.RuleSelects.{found_of}

filter_map_same : {X Y : Type 0} (f g : X → Option Y) (xs : List X) → AllByRecursion (λ x. f x ≡ g x) xs → filter_map f xs ≡ filter_map g xs
filter_map_same f g [] all = refl
filter_map_same f g (x ∷ xs) all = ap (λ o. cons_option o (filter_map f xs)) all.0 ∙ ap (cons_option (g x)) (filter_map_same f g xs all.1)

module _ (p : Settings) (law : Translates p) (h : Ruled) (a : Structure) (is : IsSided h a) (na : HaveNames (columns_of a)) (kinds : AllByRecursion (λ y. is_null_kind y.kind ≡ false) (identifiers_of a)) (d : List Row) (qs : List Row) (typed : AllByRecursion (IsLead h a is) qs) (m : Mode) (i : HierInput) (rules : List HierRule) where
  abbrev A : DataSet
  A = with_points a d

  abbrev T : Structure
  T = t h a is

  abbrev pub rows : List Row
  rows = map (combination h a is) qs

  -- what a rule computes at a combination
  abbrev makes : HierRule → Row → Option (Outcome Cell)
  makes r k = made_at p h m i rules A r k

  abbrev pub found_made : HierRule → Row → Found
  found_made r k = option_map cell_or_null (makes r k)

  abbrev pub rule_fault : HierRule → Option Fault
  rule_fault r = faults_by (λ k. option_map_or fault_in (makes r k) None) rows

  abbrev pub made_set : HierRule → DataSet
  made_set r = with_points T (found_rows h a is (found_made r) rows)

  -- of rules in an order
  abbrev pub run_of : List HierRule → Outcome (List DataSet)
  run_of [] = Ok []
  run_of (r ∷ rs) = after (unless (rule_fault r) (made_set r)) (λ e. after (run_of rs) (λ es. Ok (e ∷ es)))

  -- what an item becomes behind a rule
  abbrev becomes : HierRule → Row → Found
  becomes r k = taken i (items_at h A k (left_item r)) (makes r k)

  module _ (apart : all_apart same_row rows ≡ true) (points : AllByRecursion (λ k. is_point (others h a is) k ≡ true) rows) (fit : (r : HierRule) → AllByRecursion (λ k. IfSome (found_made r k) (IsOf h.kind)) rows) (operand_fit : (name : List ℕ) → AllByRecursion (λ k. IfSome (items_at h A k name) (IsOf h.kind)) rows) (result : Text) (word : is_word result ≡ true) (given : List (List ℕ)) (x : Text) where
    two_fit : (r : HierRule) → AllByRecursion (λ k. IfSome (of_both (found_made r k) (items_at h A k (left_item r))) (IsOf h.kind)) rows
    two_fit r = all_both (λ k. IfSome (found_made r k) (IsOf h.kind)) (λ k. IfSome (items_at h A k (left_item r)) (IsOf h.kind)) (λ k. IfSome (of_both (found_made r k) (items_at h A k (left_item r))) (IsOf h.kind)) (λ k u v. both_fit h.kind (found_made r k) (items_at h A k (left_item r)) u v) rows (fit r) (operand_fit (left_item r))

    -- an item that is asked of the operand too
    abbrev pub IsWanted : HierInput → List ℕ → Type 0
    IsWanted input.Dataset name = is_among name given ≡ true
    IsWanted input.Rule name = Unit {0}
    IsWanted input.RulePriority name = is_among name given ≡ true

    abbrev Holds : Data → Text → (Row → Found) → Type 0
    Holds now name found = Knows h a is now name found rows

    -- what is known of tables before rules are run
    pub record IsReady (now : Data) (items : Row → Items) (tables : Tables) (order : List HierRule) : Type 0 where
      pub here : IsHeld now x (with_points (keys h a is) qs)
      pub rights : AllByRecursion (λ r. AllByRecursion (λ y. IsFree order y → Holds now (tables y) (found_of items y)) (right_items r)) order
      pub lefts : AllByRecursion (λ r. is_among (left_item r) given ≡ true → Holds now (tables (left_item r)) (found_of (items_at h A) (left_item r))) order
      pub same : AllByRecursion (λ k. made_in_run p m h.kind i (items_at h A k) (items k) order ≡ map (λ r. makes r k) order) rows

    held_still : (now more : Data) → IsHeld now x (with_points (keys h a is) qs) → IsHeld (now ++ more) x (with_points (keys h a is) qs)
    held_still now more e = let kept = there_still now more (same_text x) (held (keys h a is) qs) e.table in record { word = e.word; table = kept; known = columns_there (now ++ more) x (held (keys h a is) qs) kept }

    -- another way to say what is found
    knows_same : (now : Data) (name : Text) (f g : Row → Found) → AllByRecursion (λ k. f k ≡ g k) rows → Holds now name f → Holds now name g
    knows_same now name f g same e = record {
      word = e.word;
      rows = e.rows;
      table = e.table;
      item = record {
        set = e.item.set;
        at = all_both (λ k. f k ≡ g k) (λ k. find (has_key h a is k) e.rows ≡ option_map (item_row k) (f k)) (λ k. find (has_key h a is k) e.rows ≡ option_map (item_row k) (g k)) (λ k u v. v ∙ ap (option_map (item_row k)) u) rows same e.item.at;
        kinds = all_both (λ k. f k ≡ g k) (λ k. IfSome (f k) (IsOf h.kind)) (λ k. IfSome (g k) (IsOf h.kind)) (λ k u v. subst (λ o. IfSome o (IsOf h.kind)) u v) rows same e.item.kinds;
      };
    }

    -- ---- the table of a rule

    known_for : (now : Data) (items : Row → Items) (tables : Tables) (order : List HierRule) (names : List (List ℕ)) → AllByRecursion (λ y. IsFree order y → Holds now (tables y) (found_of items y)) names → AllByRecursion (IsFree order) names → AllKnown h a is now rows (map tables names) (map (found_of items) names)
    known_for now items tables order [] all free = tt
    known_for now items tables order (y ∷ names) all free = (all.0 free.0, known_for now items tables order names all.1 free.1)

    -- what the first rule computes now
    heads : (items : Row → Items) (r : HierRule) (rs : List HierRule) → AllByRecursion (λ k. made_in_run p m h.kind i (items_at h A k) (items k) (r ∷ rs) ≡ map (λ q. makes q k) (r ∷ rs)) rows → AllByRecursion (λ k. computed p m h.kind (items k) r ≡ makes r k) rows
    heads items r rs all = all_more (λ k. made_in_run p m h.kind i (items_at h A k) (items k) (r ∷ rs) ≡ map (λ q. makes q k) (r ∷ rs)) (λ k. computed p m h.kind (items k) r ≡ makes r k) (λ k e. cc) rows all

    one_exact : (now : Data) (items : Row → Items) (tables : Tables) (r : HierRule) (rs : List HierRule) → CanBeSided p r → AllByRecursion (IsFree (r ∷ rs)) (right_items r) → IsReady now items tables (r ∷ rs) → IsExactly p now (computed_query p h a x tables m r) T (unless (rule_fault r) (found_rows h a is (found_made r) rows))
    one_exact now items tables r rs sided free ready =
        let at : Row → Row = combination h a is in
        let known = known_for now items tables (r ∷ rs) (right_items r) ready.rights.0 free in
        let head = heads items r rs ready.same in
        let own = all_of_map at (λ k. computed p m h.kind (items k) r ≡ makes r k) qs head in
        let fault : Row → Option Fault = λ k. option_map_or fault_in (makes r k) None in
        let row : Row → Option Row = λ k. option_map (item_row k) (found_made r k) in
        let old_fault : Row → Option Fault = λ q. option_map_or fault_in (computed p m h.kind (items (at q)) r) None in
        let old_row : Row → Option Row = λ q. option_map (λ v. item_row (at q) (cell_or_null v)) (computed p m h.kind (items (at q)) r) in
        exactly_same p now (computed_query p h a x tables m r) T (unless (faults_by old_fault qs) (filter_map old_row qs)) (unless (rule_fault r) (found_rows h a is (found_made r) rows))
        (ap (λ f. unless f (filter_map old_row qs))
        (faults_same (λ q. computed p m h.kind (items (at q)) r ≡ makes r (at q)) old_fault (λ q. fault (at q)) (λ q e. ap (λ o. option_map_or fault_in o None) e) qs own ∙ sym (faults_mapped fault at qs))
        ∙ ap (unless (rule_fault r))
        (filter_map_same old_row (λ q. row (at q)) qs (all_more (λ q. computed p m h.kind (items (at q)) r ≡ makes r (at q)) (λ q. old_row q ≡ row (at q)) (λ q e. ap (option_map (λ v. item_row (at q) (cell_or_null v))) e ∙ two_maps (at q) (makes r (at q))) qs own) ∙ sym (filter_map-map row at qs)))
        (computed_exactly p law now h a is na kinds qs x ready.here typed tables m items r sided known)
      where
        two_maps : (k : Row) (o : Option (Outcome Cell)) → option_map (λ v. item_row k (cell_or_null v)) o ≡ option_map (item_row k) (option_map cell_or_null o)
        two_maps k None = refl
        two_maps k (Some v) = refl

    -- ---- behind a rule

    abbrev next_items : (Row → Items) → HierRule → Row → Items
    next_items items r k = step p m h.kind i (items_at h A k) (items k) r

    tails : (items : Row → Items) (r : HierRule) (rs : List HierRule) → AllByRecursion (λ k. made_in_run p m h.kind i (items_at h A k) (items k) (r ∷ rs) ≡ map (λ q. makes q k) (r ∷ rs)) rows → AllByRecursion (λ k. made_in_run p m h.kind i (items_at h A k) (next_items items r k) rs ≡ map (λ q. makes q k) rs) rows
    tails items r rs all = all_more (λ k. made_in_run p m h.kind i (items_at h A k) (items k) (r ∷ rs) ≡ map (λ q. makes q k) (r ∷ rs)) (λ k. made_in_run p m h.kind i (items_at h A k) (next_items items r k) rs ≡ map (λ q. makes q k) rs) (λ k e. cc) rows all

    module _ (now more : Data) (items : Row → Items) (tables : Tables) (r : HierRule) (rs : List HierRule) (ready : IsReady now items tables (r ∷ rs)) (name : Text) (told : IsWanted i (left_item r) → Holds (now ++ more) name (becomes r)) where
      abbrev later : Data
      later = now ++ more

      abbrev l : List ℕ
      l = left_item r

      item_later : (y : List ℕ) → IsWanted i y → (IsFree (r ∷ rs) y → Holds now (tables y) (found_of items y)) → IsFree rs y → Holds later (with_table l name tables y) (found_of (next_items items r) y)
      item_later y wanted known free = go (same_name l y) refl
        where
          go : (b : Bool) → same_name l y ≡ b → Holds later (cond b name (tables y)) (found_of (next_items items r) y)
          go true e =
              let same : l ≡ y = same_name-is l y e in
              knows_same later name (becomes r) (found_of (next_items items r) y)
              (all_more (λ k. computed p m h.kind (items k) r ≡ makes r k) (λ k. becomes r k ≡ next_items items r k y) (λ k u. ap (taken i (items_at h A k l)) (sym u) ∙ sym (ap (λ b. cond b (taken i (items_at h A k l) (computed p m h.kind (items k) r)) (items k y)) e)) rows (heads items r rs ready.same))
              (told (subst (IsWanted i) (sym same) wanted))
          go false e =
              knows_same later (tables y) (found_of items y) (found_of (next_items items r) y)
              (all_each (λ k. items k y ≡ next_items items r k y) (λ k. sym (ap (λ b. cond b (taken i (items_at h A k l) (computed p m h.kind (items k) r)) (items k y)) e)) rows)
              (knows_still h a is now more (tables y) (found_of items y) rows (known (e, free)))

      items_later : (names : List (List ℕ)) → AllByRecursion (IsWanted i) names → AllByRecursion (λ y. IsFree (r ∷ rs) y → Holds now (tables y) (found_of items y)) names → AllByRecursion (λ y. IsFree rs y → Holds later (with_table l name tables y) (found_of (next_items items r) y)) names
      items_later [] wanted known = tt
      items_later (y ∷ names) wanted known = (item_later y wanted.0 known.0, items_later names wanted.1 known.1)

      rights_later : (qs : List HierRule) → AllByRecursion (λ q. AllByRecursion (IsWanted i) (right_items q)) qs → AllByRecursion (λ q. AllByRecursion (λ y. IsFree (r ∷ rs) y → Holds now (tables y) (found_of items y)) (right_items q)) qs
          → AllByRecursion (λ q. AllByRecursion (λ y. IsFree rs y → Holds later (with_table l name tables y) (found_of (next_items items r) y)) (right_items q)) qs
      rights_later [] wanted known = tt
      rights_later (q ∷ qs) wanted known = (items_later (right_items q) wanted.0 known.0, rights_later qs wanted.1 known.1)

      lefts_later : (qs : List HierRule) → AllByRecursion (λ q. same_name l (left_item q) ≡ false) qs → AllByRecursion (λ q. is_among (left_item q) given ≡ true → Holds now (tables (left_item q)) (found_of (items_at h A) (left_item q))) qs
          → AllByRecursion (λ q. is_among (left_item q) given ≡ true → Holds later (with_table l name tables (left_item q)) (found_of (items_at h A) (left_item q))) qs
      lefts_later [] other known = tt
      lefts_later (q ∷ qs) other known = (
        (λ e. subst (λ z. Holds later z (found_of (items_at h A) (left_item q))) (sym (ap (λ b. cond b name (tables (left_item q))) other.0)) (knows_still h a is now more (tables (left_item q)) (found_of (items_at h A) (left_item q)) rows (known.0 e))),
        lefts_later qs other.1 known.1,
      )

      pub ready_later : AllByRecursion (λ q. AllByRecursion (IsWanted i) (right_items q)) rs → AllByRecursion (λ q. same_name l (left_item q) ≡ false) rs → IsReady later (next_items items r) (with_table l name tables) rs
      ready_later wanted other = record {
        here = held_still now more ready.here;
        rights = rights_later rs wanted ready.rights.1;
        lefts = lefts_later rs other ready.lefts.1;
        same = tails items r rs ready.same;
      }

    -- ---- one rule after the other

    abbrev run : Tables → List HierRule → ℕ → Sources
    run tables order n = run_tables p result h m i a x given tables order n

    -- what stands behind the table of a rule
    abbrev rest_of : HierInput → Tables → HierRule → List HierRule → (made : Text) → ℕ → Sources
    rest_of j tables r rs made n =
        let taken = taken_table p result h m i a x given j tables r made n in
        let others = run (with_table (left_item r) (first_name taken.names) tables) rs taken.next in
        record { names = others.names; tables = taken.tables ++ others.tables; next = others.next }

    abbrev Gives : List HierRule → Type 0
    Gives rs = (now : Data) (n : ℕ) (items : Row → Items) (tables : Tables) → IsReady now items tables rs → AreEarlier result n now → n + length (run tables rs n).tables < 2 ^ 64 → SourcesGive p now result n (run tables rs n) (run_of rs)

    abbrev one_item : HierRule → HierRule → Bool
    one_item q r = same_name (left_item q) (left_item r)

    module _ (r : HierRule) (rs : List HierRule) (give : Gives rs) (wanted : AllByRecursion (λ q. AllByRecursion (IsWanted i) (right_items q)) rs) (other : AllByRecursion (λ q. same_name (left_item r) (left_item q) ≡ false) rs) where
      abbrev own_item : List ℕ
      own_item = left_item r

      -- over tables to which that of the rule has been added
      module _ (now more : Data) (items : Row → Items) (tables : Tables) (ready : IsReady now items tables (r ∷ rs)) (made : Text) (own : Holds (now ++ more) made (found_made r)) (n : ℕ) (earlier : AreEarlier result n (now ++ more)) where
        abbrev beyond : Data
        beyond = now ++ more

        abbrev operand : Row → Found
        operand = found_of (items_at h A) own_item

        asked : is_among own_item given ≡ true → Holds beyond (tables own_item) operand
        asked e = knows_still h a is now more (tables own_item) operand rows (ready.lefts.0 e)

        plainly : (name : Text) → (IsWanted i own_item → Holds beyond name (becomes r)) → n + length (run (with_table own_item name tables) rs n).tables < 2 ^ 64 → SourcesGive p beyond result n (run (with_table own_item name tables) rs n) (run_of rs)
        plainly name told few = give beyond n (next_items items r) (with_table own_item name tables) (ready_later now more items tables r rs ready name told wanted other) earlier few

        abbrev merged_rows : List Row
        merged_rows = found_rows h a is (λ k. of_both (found_made r k) (operand k)) rows

        abbrev merging : Made
        merging = plain (merged_query p h a x made (tables own_item)) n

        abbrev merged_name : Text
        merged_name = numbered result n

        merged : input.RulePriority ≡ i → is_among own_item given ≡ true → n + length ((stored result merging).tables ++ (run (with_table own_item merged_name tables) rs (n + 1)).tables) < 2 ^ 64
            → SourcesGive p beyond result n (record { names = (run (with_table own_item merged_name tables) rs (n + 1)).names; tables = (stored result merging).tables ++ (run (with_table own_item merged_name tables) rs (n + 1)).tables; next = (run (with_table own_item merged_name tables) rs (n + 1)).next }) (run_of rs)
        merged e among few =
            let exact = merged_exactly p law beyond h a is na kinds qs x (held_still now more ready.here) typed made (tables own_item) (found_made r) operand (own, (asked among, tt)) in
            let node = plain_gives p result word beyond n (merged_query p h a x made (tables own_item)) T (Ok merged_rows) (means_by p beyond (merged_query p h a x made (tables own_item)) T (Ok merged_rows) (Ok merged_rows) (Perm-refl merged_rows) exact) in
            let size = length-append (stored result merging).tables (run (with_table own_item merged_name tables) rs (n + 1)).tables in
            let first = stored_gives p result word beyond n merging T (Ok merged_rows) earlier (omega (arith, few, size)) node in
            let set : DataSet = with_points T merged_rows in
            behind_give p beyond result n (stored result merging) (run (with_table own_item merged_name tables) rs) (set ∷ []) (run_of rs) refl
            (beside_there p result word beyond n (stored result merging) (run (with_table own_item merged_name tables) rs) (set ∷ []) (run_of rs) earlier first
            (λ again there soon counted.
            let told : IsWanted i own_item → Holds (beyond ++ again) merged_name (becomes r) =
            λ w. knows_same (beyond ++ again) merged_name (λ k. of_both (found_made r k) (operand k)) (becomes r)
            (all_each (λ k. of_both (found_made r k) (operand k) ≡ becomes r k) (λ k. sym (taken_is (operand k) (makes r k)) ∙ ap (λ j. taken j (operand k) (makes r k)) e) rows)
            (knows_by h a is (beyond ++ again) merged_name (λ k. of_both (found_made r k) (operand k)) merged_rows rows there.0 (found_table h a is (λ k. of_both (found_made r k) (operand k)) rows apart points (two_fit r))) in
            let back : now ++ (more ++ again) ≡ beyond ++ again = sym (append_assoc now more again) in
            give (beyond ++ again) (n + 1) (next_items items r) (with_table own_item merged_name tables)
            (subst (λ z. IsReady z (next_items items r) (with_table own_item merged_name tables) rs) back (ready_later now (more ++ again) items tables r rs ready merged_name (subst (λ z. IsWanted i own_item → Holds z merged_name (becomes r)) (sym back) told) wanted other))
            soon (omega (arith, few, size, counted))))

        rest_gives : (j : HierInput) → j ≡ i → n + length (rest_of j tables r rs made n).tables < 2 ^ 64 → SourcesGive p beyond result n (rest_of j tables r rs made n) (run_of rs)
        rest_gives input.Dataset e few =
            plainly (tables own_item)
            (λ w. knows_same beyond (tables own_item) operand (becomes r) (all_each (λ k. operand k ≡ becomes r k) (λ k. ap (λ j. taken j (operand k) (makes r k)) e) rows) (asked (subst (λ j. IsWanted j own_item) (sym e) w))) few
        rest_gives input.Rule e few = plainly made (λ w. knows_same beyond made (found_made r) (becomes r) (all_each (λ k. found_made r k ≡ becomes r k) (λ k. ap (λ j. taken j (operand k) (makes r k)) e) rows) own) few
        rest_gives input.RulePriority e few = go (is_among own_item given) refl few
          where
            taken_by : Bool → Sources
            taken_by b = cond b (stored result merging) (by_name made n)

            others_by : Bool → Sources
            others_by b = run (with_table own_item (first_name (taken_by b).names) tables) rs (taken_by b).next

            rest_by : Bool → Sources
            rest_by b = record { names = (others_by b).names; tables = (taken_by b).tables ++ (others_by b).tables; next = (others_by b).next }

            go : (b : Bool) → is_among own_item given ≡ b → n + length (rest_by b).tables < 2 ^ 64 → SourcesGive p beyond result n (rest_by b) (run_of rs)
            go true among small = merged e among small
            go false among small = plainly made (λ w. let there = subst (λ j. IsWanted j own_item) (sym e) w in let never : true ≡ false = sym there ∙ among in cc) small

    pub run_gives : (order : List HierRule) → AllByRecursion (CanBeSided p) order → AreOrdered order → all_apart one_item order ≡ true → AllByRecursion (λ q. AllByRecursion (IsWanted i) (right_items q)) order → Gives order
    run_gives [] sided ordered lefts wanted now n items tables ready earlier few = (no_tables p result word now n, tt)
    run_gives (r ∷ rs) sided ordered lefts wanted now n items tables ready earlier few = go (rule_fault r) (one_exact now items tables r rs sided.0 ordered.0 ready) (run_gives rs sided.1 ordered.1 parts.1 wanted.1)
      where
        parts : AllByRecursion (λ q. one_item r q ≡ false) rs × (all_apart one_item rs ≡ true)
        parts = apart_parts one_item r rs lefts

        q : QueryTree
        q = computed_query p h a x tables m r

        made : Text
        made = numbered result n

        found : List Row
        found = found_rows h a is (found_made r) rows

        rest : ℕ → Sources
        rest = rest_of i tables r rs made

        go : (o : Option Fault) → IsExactly p now q T (unless o found) → Gives rs → SourcesGive p now result n (run tables (r ∷ rs) n) (after (unless o (made_set r)) (λ e. after (run_of rs) (λ es. Ok (e ∷ es))))
        go None exact give =
            let size = length-append (stored result (plain q n)).tables (rest (n + 1)).tables in
            let node = plain_gives p result word now n q T (Ok found) (means_by p now q T (Ok found) (Ok found) (Perm-refl found) exact) in
            let first = stored_gives p result word now n (plain q n) T (Ok found) earlier (omega (arith, few, size)) node in
            beside_there p result word now n (stored result (plain q n)) rest (made_set r ∷ []) (run_of rs) earlier first
            (λ more there soon counted. rest_gives r rs give wanted.1 parts.0 now more items tables ready made (knows_by h a is (now ++ more) made (found_made r) found rows there.0 (found_table h a is (found_made r) rows apart points (fit r))) (n + 1) soon i refl (omega (arith, few, size, counted)))
        go (Some f) exact give =
            let node = plain_gives p result word now n q T (Err f) (means_by p now q T (Err f) (Err f) refl exact) in
            let size = length-append (stored result (plain q n)).tables (rest (n + 1)).tables in
            run_stops p now (stored result (plain q n)).tables (rest (n + 1)).tables (f, result) (stored_gives p result word now n (plain q n) T (Err f) earlier (omega (arith, few, size)) node)
