-- Queries do not see the order of the rows of tables.
use Rattle.std.proofs.Common.{◌≡◌, ℕ, List, [], ◌∷◌, ◌++◌, map, length, Bool, true, false, cond, not, Option, Some, None, Ok, Err, refl, ap, ◌∙◌, subst}
use Rattle.std.specs.Prelude.{zip, ◌-◌, ◌+◌}
use Rattle.std.specs.List.{filter, flat_map, list_all, fold}
use Rattle.vtl_lists.specs.Perm.{Perm, empty, keep, cross, chain}
use Rattle.vtl_lists.proofs.Aparts.{list_any-Perm}
use Rattle.vtl_lists.proofs.Perms.{Perm-append, Perm-filter, Perm-flat_map, Perm-flat_map_each, Perm-map, Perm-refl}
use Rattle.vtl_lists.proofs.Sorts.{sorted_by-Perm}
use Rattle.vtl_lists.specs.Sorting.{le_by}
use Rattle.vtl_cell.specs.declared.cell.Cell.{Cell}
use Rattle.vtl_cell.specs.declared.cell.Cell.TheVariants as c
use Rattle.vtl_cell.specs.declared.kind.Kind.{Kind}
use Rattle.vtl_cell.specs.declared.kind.Kind.TheVariants as k
use Rattle.vtl_cell.specs.Conversion.{as_kind}
use Rattle.vtl_cell.specs.Groups.{group_value}
use Rattle.vtl_decimal.specs.declared.number.Fault.{Fault}
use Rattle.vtl_cell.specs.Outcome.{Outcome, after, fault_in, faults_by, join, unless}
use Rattle.vtl_cell.specs.Outcomes.{Same, branch, first_chosen, is_true}
use Rattle.vtl_cell.specs.Row.{Row, same_row}
use Rattle.vtl_cell.specs.Sorted.{Key, window_cmp}
use Rattle.vtl_cell.proofs.Aggregates.{count-Perm, group-Perm}
use Rattle.vtl_cell.proofs.Keys.{window_order}
use Rattle.vtl_rows.specs.Tables.{cells_at}
use Rattle.sql_tree.specs.Trees as tree
use Rattle.sql_tree.specs.Trees.{Branches, Exp, Exps, ItemTree, JoinTree, QueryTree, SelectTree, Text, ValueTree}
use Rattle.sql_tree.specs.declared.parts.Column.{Column}
use Rattle.sql_tree.specs.declared.windows.Window.{Window}
use Rattle.sql_tree.specs.declared.parts.Source.{Source}
use Rattle.sql_tree.specs.declared.word_groups.JoinKind.{JoinKind}
use Rattle.sql_tree.specs.declared.word_groups.JoinKind.TheVariants as joining
use Rattle.sql_check_parts.specs.Kinds.{kind_in}
use Rattle.sql_check_parts.specs.Queries.{is_grouped, query_columns, scope_of}
use Rattle.sql_check_parts.specs.Scopes.{Scope, row_of, with_source}
use Rattle.sql_check_parts.specs.Exists.{inner_of}
use Rattle.sql_meaning.specs.Outcomes.{operated, row_at, row_fault}
use Rattle.sql_meaning.specs.Tables.{Base, columns_given, columns_named, kinds_of, rows_from}
use Rattle.sql_meaning.specs.Values.{View, at_groups, at_rows, chosen, is_tied, literal_cell, null_test, place_in, set_operator, value, values}
use Rattle.sql_meaning.specs.From.{Joined, condition_fault, fault_at, beside, holds, is_met, joined, joined_by, joined_rows, kept, kept_of, or_alone, pairs, pairs_by, partners, partners_or_alone, nulls, source_rows, unmet, with_join}
use Rattle.sql_meaning.specs.Groups.{keys_by, rows_with}
use Rattle.sql_meaning.specs.Orders.{SameRows, with_rows}
use Rattle.sql_meaning.specs.Selects.{Wanted, appended, at_key, group_item, grouped_rows, having_fault, item_value, kept_keys, key_value, plain_rows, query_value, row_value, rows_in, second_phase, select_value}
use Rattle.sql_meaning.specs.Windows.{call_value, keys_of, told_apart, partition_of, partition_places, place_within, window_value}
use Rattle.sql_meaning.proofs.SeriesColumns.{given-Perm}
use Rattle.sql_meaning.proofs.UpToOrder.{Same_after, Same_unless, all_values_same, count_by-Perm, faults_by-Perm, once-Perm, told_apart-Perm}

-- ---- joins of lists
or_alone-Perm : {C : Type 0} {us vs : List C} (z : C) → Perm us vs → Perm (or_alone us z) (or_alone vs z)
or_alone-Perm z empty = Perm-refl (z ∷ [])
or_alone-Perm z (keep x p) = keep x p
or_alone-Perm z (cross x y xs) = cross x y xs
or_alone-Perm z (chain p q) = chain (or_alone-Perm z p) (or_alone-Perm z q)

pub pairs-Perm : {A B C : Type 0} (both : A → B → C) {xs xs' : List A} {ys ys' : List B} → Perm xs xs' → Perm ys ys' → Perm (pairs_by both xs ys) (pairs_by both xs' ys')
pairs-Perm both {xs} {xs'} {ys} {ys'} p q =
    chain (Perm-flat_map (λ x. map (both x) ys) p) (Perm-flat_map_each (λ x. map (both x) ys) (λ x. map (both x) ys') (λ x. Perm-map (both x) q) xs')

module _ {A B C : Type 0} (test : A → B → Bool) (both : A → B → C) (alone : A → C) (only : B → C) (xs xs' : List A) (ys ys' : List B) (p : Perm xs xs') (q : Perm ys ys') where
  partners-Perm : (x : A) → Perm (partners test both ys x) (partners test both ys' x)
  partners-Perm x = Perm-map (both x) (Perm-filter (test x) q)

  inner-Perm : Perm (flat_map (partners test both ys) xs) (flat_map (partners test both ys') xs')
  inner-Perm = chain (Perm-flat_map (partners test both ys) p) (Perm-flat_map_each (partners test both ys) (partners test both ys') partners-Perm xs')

  padded-Perm : Perm (flat_map (partners_or_alone test both alone ys) xs) (flat_map (partners_or_alone test both alone ys') xs')
  padded-Perm =
      chain (Perm-flat_map (partners_or_alone test both alone ys) p)
      (Perm-flat_map_each (partners_or_alone test both alone ys) (partners_or_alone test both alone ys') (λ x. or_alone-Perm (alone x) (partners-Perm x)) xs')

  unmet-Perm : Perm (unmet test only xs ys) (unmet test only xs' ys')
  unmet-Perm =
      let e : (λ (y : B). not (is_met test xs y)) ≡ (λ (y : B). not (is_met test xs' y)) = λ i y. not (list_any-Perm (λ x. test x y) p i) in
      subst (λ t. Perm (unmet test only xs ys) (map only (filter t ys'))) e (Perm-map only (Perm-filter (λ y. not (is_met test xs y)) q))

  pub joined_by-Perm : (kind : JoinKind) → Perm (joined_by kind test both alone only xs ys) (joined_by kind test both alone only xs' ys')
  joined_by-Perm joining.Inner = inner-Perm
  joined_by-Perm joining.Left = padded-Perm
  joined_by-Perm joining.Full = Perm-append padded-Perm unmet-Perm

-- ---- queries of many selects

abbrev pub EachSame : List (Outcome (List Row)) → List (Outcome (List Row)) → Type 0
EachSame [] [] = Unit {0}
EachSame [] (n ∷ ns) = ⊥
EachSame (m ∷ ms) [] = ⊥
EachSame (m ∷ ms) (n ∷ ns) = Same m n × EachSame ms ns

pub fault_same : (m n : Outcome (List Row)) → Same m n → fault_in m ≡ fault_in n
fault_same (Ok d) (Ok e) s = refl
fault_same (Err x) (Err y) s = ap Some s
fault_same (Ok d) (Err y) s = absurd s
fault_same (Err x) (Ok e) s = absurd s

pub rows_in-Perm : (m n : Outcome (List Row)) → Same m n → Perm (rows_in m) (rows_in n)
rows_in-Perm (Ok d) (Ok e) s = s
rows_in-Perm (Err x) (Err y) s = empty
rows_in-Perm (Ok d) (Err y) s = absurd s
rows_in-Perm (Err x) (Ok e) s = absurd s

each_fault : (ms ns : List (Outcome (List Row))) → EachSame ms ns → faults_by fault_in ms ≡ faults_by fault_in ns
each_fault [] [] s = refl
each_fault [] (n ∷ ns) s = absurd s
each_fault (m ∷ ms) [] s = absurd s
each_fault (m ∷ ms) (n ∷ ns) s = λ i. join (fault_same m n s.0 i) (each_fault ms ns s.1 i)

each_rows : (ms ns : List (Outcome (List Row))) → EachSame ms ns → Perm (flat_map rows_in ms) (flat_map rows_in ns)
each_rows [] [] s = empty
each_rows [] (n ∷ ns) s = absurd s
each_rows (m ∷ ms) [] s = absurd s
each_rows (m ∷ ms) (n ∷ ns) s = Perm-append (rows_in-Perm m n s.0) (each_rows ms ns s.1)

pub appended_same : (ms ns : List (Outcome (List Row))) → EachSame ms ns → Same (appended ms) (appended ns)
appended_same ms ns s = Same_unless (faults_by fault_in ms) (faults_by fault_in ns) (flat_map rows_in ms) (flat_map rows_in ns) (each_fault ms ns s) (each_rows ms ns s)

-- ---- FROM

record SameJoined (f g : Joined) : Type 0 where
  scope : f.scope ≡ g.scope
  rows : Perm f.rows g.rows
  fault : f.fault ≡ g.fault

abbrev from : Scope → List Row → Option Fault → Joined
from scope rows fault = record { scope = scope; rows = rows; fault = fault }

module _ (b : Base) (other : Text → List Row) (same : SameRows b.rows other) where
  -- the other base
  abbrev o : Base
  o = with_rows b other

  abbrev view : Scope → (Column → ℕ) → View
  view scope place = record { base = b; scope = scope; place = place }

  abbrev view' : Scope → (Column → ℕ) → View
  view' scope place = record { base = o; scope = scope; place = place }

  -- ---- sources
  source_same : (s : Source) → Perm (rows_from b s) (rows_from o s)
  source_same s = given-Perm s.series (columns_named b.tables s.table) (same s.table)

  -- ---- expressions
  mutual
    pub value_same : (scope : Scope) (place : Column → ℕ) (e : Exp) (r : Row) (g h : List Row) → Perm g h → value (view scope place) e r g ≡ value (view' scope place) e r h
    value_same scope place (tree.binary x f y) r g h p = λ i. operated b.settings (kind_in scope (tree.binary x f y)) (value_same scope place x r g h p i ∷ value_same scope place y r g h p i ∷ []) f
    value_same scope place (tree.unary f e) r g h p = λ i. operated b.settings (kind_in scope (tree.unary f e)) (value_same scope place e r g h p i ∷ []) f
    value_same scope place (tree.is_null e negated) r g h p = ap (null_test b.settings negated) (value_same scope place e r g h p)
    value_same scope place (tree.in_list e negated ls) r g h p = ap (λ m. operated b.settings k.Bool (m ∷ map (λ l. Ok (literal_cell b.settings l)) ls) (set_operator negated)) (value_same scope place e r g h p)
    value_same scope place (tree.constant x) r g h p = refl
    value_same scope place (tree.column x) r g h p = refl
    value_same scope place (tree.call f es) r g h p = ap (λ ms. operated b.settings (kind_in scope (tree.call f es)) ms f) (values_same scope place es r g h p)
    value_same scope place tree.count_all r g h p = count-Perm b.settings g h p
    value_same scope place (tree.aggregate f e) r g h p =
        let pointwise : (λ q. value (at_rows b scope) e q []) ≡ (λ q. value (at_rows o scope) e q []) = λ i q. value_same scope (place_in scope) e q [] [] empty i in
        all_values_same (λ q. value (at_rows b scope) e q []) (λ q. value (at_rows o scope) e q []) g h (group_value b.settings f) pointwise p (λ us vs. group-Perm b.settings f us vs)
    value_same scope place (tree.case_when bs e) r g h p = ap (λ m. after m (as_kind b.settings (kind_in scope (tree.case_when bs e)))) (chosen_same scope place bs r g h p (value_same scope place e r g h p))
    value_same scope place (tree.exists s es) r g h p = ap (λ t. Ok (c.Bool t)) (list_any-Perm (λ inner. list_all (is_tied (view scope place) (inner_of b.tables s) r inner) es) (source_same s))

    values_same : (scope : Scope) (place : Column → ℕ) (es : Exps) (r : Row) (g h : List Row) → Perm g h → values (view scope place) es r g ≡ values (view' scope place) es r h
    values_same scope place tree.no_exps r g h p = refl
    values_same scope place (tree.exp e es) r g h p = λ i. value_same scope place e r g h p i ∷ values_same scope place es r g h p i

    chosen_same : (scope : Scope) (place : Column → ℕ) (bs : Branches) (r : Row) (g h : List Row) → Perm g h → {m n : Outcome Cell} → m ≡ n → chosen (view scope place) bs r g m ≡ chosen (view' scope place) bs r h n
    chosen_same scope place tree.no_branches r g h p e = e
    chosen_same scope place (tree.branch x w bs) r g h p e = λ i. after (value_same scope place x r g h p i) (λ t. branch (first_chosen t) (value_same scope place w r g h p i) (chosen_same scope place bs r g h p e i))

  holds_same : (scope : Scope) (e : Exp) → holds (at_rows b scope) e ≡ holds (at_rows o scope) e
  holds_same scope e = λ i r. is_true (value_same scope (place_in scope) e r [] [] empty i)

  faults_same : (scope : Scope) (e : Exp) → fault_at (at_rows b scope) e ≡ fault_at (at_rows o scope) e
  faults_same scope e = λ i r. fault_in (value_same scope (place_in scope) e r [] [] empty i)

  -- ---- FROM
  condition_faults : (scope : Scope) (e : Exp) {rows rows' : List Row} → Perm rows rows' → faults_by (fault_at (at_rows b scope) e) rows ≡ faults_by (fault_at (at_rows o scope) e) rows'
  condition_faults scope e {rows} {rows'} p = ap (λ f. faults_by f rows) (faults_same scope e) ∙ faults_by-Perm (fault_at (at_rows o scope) e) p

  joined_same : (js : List JoinTree) (scope : Scope) (left left' : List Row) (fault fault' : Option Fault) → Perm left left' → fault ≡ fault' → SameJoined (fold (with_join b) (from scope left fault) js) (fold (with_join o) (from scope left' fault') js)
  joined_same [] scope left left' fault fault' p e = record { scope = refl; rows = p; fault = e }
  joined_same (tree.cross s ∷ js) scope left left' fault fault' p e =
      joined_same js (with_source b.tables scope s) (pairs left (rows_from b s)) (pairs left' (rows_from o s)) fault fault' (pairs-Perm beside p (source_same s)) e
  joined_same (tree.on kind s x ∷ js) scope left left' fault fault' p e =
      let now = with_source b.tables scope s in
      let n = length (row_of scope) in
      let m = length (columns_given b.tables s) in
      let q = source_same s in
      joined_same js now (joined_rows kind (holds (at_rows b now) x) n m left (rows_from b s)) (joined_rows kind (holds (at_rows o now) x) n m left' (rows_from o s))
      (join fault (faults_by (fault_at (at_rows b now) x) (pairs left (rows_from b s)))) (join fault' (faults_by (fault_at (at_rows o now) x) (pairs left' (rows_from o s))))
      (subst (λ t. Perm (joined_rows kind (holds (at_rows b now) x) n m left (rows_from b s)) (joined_rows kind t n m left' (rows_from o s))) (holds_same now x) (joined_by-Perm (λ y z. holds (at_rows b now) x (y ++ z)) beside (λ y. y ++ nulls m) (λ z. nulls n ++ z) left left' (rows_from b s) (rows_from o s) p q kind))
      (λ i. join (e i) (condition_faults now x (pairs-Perm beside p q) i))

  kept_same : (scope : Scope) (e : Option Exp) {rows rows' : List Row} → Perm rows rows' → Perm (kept (at_rows b scope) e rows) (kept (at_rows o scope) e rows')
  kept_same scope None p = p
  kept_same scope (Some e) {rows} {rows'} p = subst (λ t. Perm (filter (holds (at_rows b scope) e) rows) (filter t rows')) (holds_same scope e) (Perm-filter (holds (at_rows b scope) e) p)

  where_faults : (scope : Scope) (e : Option Exp) {rows rows' : List Row} → Perm rows rows' → condition_fault (at_rows b scope) e rows ≡ condition_fault (at_rows o scope) e rows'
  where_faults scope None p = refl
  where_faults scope (Some e) p = condition_faults scope e p

  kept_of_same : (e : Option Exp) (f g : Joined) → SameJoined f g → Same (kept_of b e f) (kept_of o e g)
  kept_of_same e f g s =
      subst (λ t. Same (kept_of b e f) (kept_of o e (from t g.rows g.fault))) s.scope
      (Same_unless (join f.fault (condition_fault (at_rows b f.scope) e f.rows)) (join g.fault (condition_fault (at_rows o f.scope) e g.rows)) (kept (at_rows b f.scope) e f.rows) (kept (at_rows o f.scope) e g.rows)
      (λ i. join (s.fault i) (where_faults f.scope e s.rows i)) (kept_same f.scope e s.rows))

  pub source_rows_same : (s : SelectTree) → Same (source_rows b s) (source_rows o s)
  source_rows_same s =
      kept_of_same s.condition (joined b s) (joined o s) (joined_same s.joins (with_source b.tables [] s.source) (rows_from b s.source) (rows_from o s.source) None None (source_same s.source) refl)

  -- ---- items of rows
  module _ (scope : Scope) (rows rows' : List Row) (p : Perm rows rows') where
    window_same : (w : Window) (x : Row × ℕ) → window_value (at_rows b scope) w rows x ≡ window_value (at_rows o scope) w rows' x
    window_same w x =
        let v = at_rows b scope in
        let keys = keys_of v w.over in
        let places = partition_places v w.over in
        let q : Perm (partition_of places rows x.0) (partition_of places rows' x.0) = Perm-filter (λ r. same_row (cells_at places r) (cells_at places x.0)) p in
        λ i. call_value v w.call w.over (record { row = x.0; place = place_same keys q i; ordered = sorted_by-Perm (window_order keys []) q i })
      where
        place_same : (keys : List Key) {xs ys : List Row} → Perm xs ys → place_within keys xs x ≡ place_within keys ys x
        place_same keys q = ap (λ n. n - (x.1 + 1)) (count_by-Perm (λ r. le_by (window_cmp keys []) r x.0) q)

    row_value_same : (w : ValueTree) (x : Row × ℕ) → row_value (at_rows b scope) rows w x ≡ row_value (at_rows o scope) rows' w x
    row_value_same (tree.expression e) x = value_same scope (place_in scope) e x.0 [] [] empty
    row_value_same (tree.window w) x = window_same w x

    items_same : item_value (at_rows b scope) rows ≡ item_value (at_rows o scope) rows'
    items_same = λ i t x. after (row_value_same t.0.value x i) (as_kind b.settings t.1)

    pub plain_same : (items : List Wanted) → Same (plain_rows (at_rows b scope) items rows) (plain_rows (at_rows o scope) items rows')
    plain_same items =
        let v = item_value (at_rows b scope) rows in
        let q = told_apart-Perm p in
        subst (λ (w : Wanted → Row × ℕ → Outcome Cell). Same (plain_rows (at_rows b scope) items rows) (unless (faults_by (row_fault w items) (told_apart rows')) (map (row_at w items) (told_apart rows')))) items_same
        (Same_unless (faults_by (row_fault v items) (told_apart rows)) (faults_by (row_fault v items) (told_apart rows')) (map (row_at v items) (told_apart rows)) (map (row_at v items) (told_apart rows'))
        (faults_by-Perm (row_fault v items) q) (Perm-map (row_at v items) q))

    -- ---- items of groups
    keys-Perm : (places : List ℕ) → Perm (keys_by places rows) (keys_by places rows')
    keys-Perm [] = Perm-refl ([] ∷ [])
    keys-Perm (i ∷ is) = once-Perm (Perm-map (cells_at (i ∷ is)) p)

    module _ (group : List Column) where
      abbrev places : List ℕ
      places = map (place_in scope) group

      abbrev place : Column → ℕ
      place = (at_groups b scope group).place

      members-Perm : (key : Row) → Perm (rows_with places rows key) (rows_with places rows' key)
      members-Perm key = Perm-filter (λ r. same_row (cells_at places r) key) p

      at_key_same : (e : Exp) → at_key (view scope place) (rows_with places rows) e ≡ at_key (view' scope place) (rows_with places rows') e
      at_key_same e = λ i key. value_same scope place e key (rows_with places rows key) (rows_with places rows' key) (members-Perm key) i

      key_value_same : (w : ValueTree) → key_value (view scope place) (rows_with places rows) w ≡ key_value (view' scope place) (rows_with places rows') w
      key_value_same (tree.expression e) = at_key_same e
      key_value_same (tree.window w) = refl

      group_items_same : group_item (view scope place) (rows_with places rows) ≡ group_item (view' scope place) (rows_with places rows')
      group_items_same = λ i t key. after (key_value_same t.0.value i key) (as_kind b.settings t.1)

      kept_keys-Perm : (having : Option Exp) → Perm (kept_keys (view scope place) (rows_with places rows) having (keys_by places rows)) (kept_keys (view' scope place) (rows_with places rows') having (keys_by places rows'))
      kept_keys-Perm None = keys-Perm places
      kept_keys-Perm (Some e) =
          subst (λ (t : Row → Outcome Cell). Perm (kept_keys (view scope place) (rows_with places rows) (Some e) (keys_by places rows)) (filter (λ key. is_true (t key)) (keys_by places rows'))) (at_key_same e)
          (Perm-filter (λ key. is_true (at_key (view scope place) (rows_with places rows) e key)) (keys-Perm places))

      having_same : (having : Option Exp) → having_fault (view scope place) (rows_with places rows) having (keys_by places rows) ≡ having_fault (view' scope place) (rows_with places rows') having (keys_by places rows')
      having_same None = refl
      having_same (Some e) =
          ap (λ (t : Row → Outcome Cell). faults_by (λ key. fault_in (t key)) (keys_by places rows)) (at_key_same e)
          ∙ faults_by-Perm (λ key. fault_in (at_key (view' scope place) (rows_with places rows') e key)) (keys-Perm places)

      pub grouped_same : (items : List Wanted) (having : Option Exp) → Same (grouped_rows (at_rows b scope) items group having rows) (grouped_rows (at_rows o scope) items group having rows')
      grouped_same items having =
          let v = group_item (view scope place) (rows_with places rows) in
          let v' = group_item (view' scope place) (rows_with places rows') in
          let ks = kept_keys (view scope place) (rows_with places rows) having (keys_by places rows) in
          let ks' = kept_keys (view' scope place) (rows_with places rows') having (keys_by places rows') in
          let q : Perm ks ks' = kept_keys-Perm having in
          Same_unless (join (having_fault (view scope place) (rows_with places rows) having (keys_by places rows)) (faults_by (row_fault v items) ks)) (join (having_fault (view' scope place) (rows_with places rows') having (keys_by places rows')) (faults_by (row_fault v' items) ks'))
          (map (row_at v items) ks) (map (row_at v' items) ks')
          (λ i. join (having_same having i) ((ap (λ w. faults_by (row_fault w items) ks) group_items_same ∙ faults_by-Perm (row_fault v' items) q) i))
          (subst (λ w. Perm (map (row_at v items) ks) (map (row_at w items) ks')) group_items_same (Perm-map (row_at v items) q))

  -- ---- selects and queries
  pub second_same : (scope : Scope) (items : List Wanted) (s : SelectTree) (rows rows' : List Row) → Perm rows rows' → Same (second_phase (at_rows b scope) items s rows) (second_phase (at_rows o scope) items s rows')
  second_same scope items s rows rows' p = go (is_grouped s)
    where
      go : (t : Bool) → Same (cond t (grouped_rows (at_rows b scope) items s.group s.having rows) (plain_rows (at_rows b scope) items rows)) (cond t (grouped_rows (at_rows o scope) items s.group s.having rows') (plain_rows (at_rows o scope) items rows'))
      go true = grouped_same scope rows rows' p s.group items s.having
      go false = plain_same scope rows rows' p items

  pub select_same : (kinds : List Kind) (s : SelectTree) → Same (select_value b kinds s) (select_value o kinds s)
  select_same kinds s =
      Same_after (source_rows b s) (source_rows o s) (second_phase (at_rows b (scope_of b.tables s)) (zip s.items kinds) s) (second_phase (at_rows o (scope_of b.tables s)) (zip s.items kinds) s) (source_rows_same s)
      (λ d e p. second_same (scope_of b.tables s) (zip s.items kinds) s d e p)

  selects_same : (kinds : List Kind) (q : QueryTree) → EachSame (map (select_value b kinds) q) (map (select_value o kinds) q)
  selects_same kinds [] = tt
  selects_same kinds (s ∷ ss) = (select_same kinds s, selects_same kinds ss)

  -- the same rows up to order, or the same fault
  pub query_same : (q : QueryTree) → Same (query_value b q) (query_value o q)
  query_same q =
      let kinds = kinds_of (query_columns b.tables q) in
      appended_same (map (select_value b kinds) q) (map (select_value o kinds) q) (selects_same kinds q)
