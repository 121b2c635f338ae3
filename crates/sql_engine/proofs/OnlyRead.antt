-- A query depends on the rows of the tables that it reads, and on no others.
use Rattle.std.proofs.Common.{◌≡◌, ℕ, List, [], ◌∷◌, map, length, cond, Option, Some, None, Ok, refl, ap, ◌∙◌}
use Rattle.std.specs.Prelude.{zip}
use Rattle.std.specs.List.{AllByRecursion, filter, fold, list_all, list_any}
use Rattle.vtl_cell.specs.declared.cell.Cell.{Cell}
use Rattle.vtl_cell.specs.declared.cell.Cell.TheVariants as c
use Rattle.vtl_cell.specs.declared.kind.Kind.{Kind}
use Rattle.vtl_cell.specs.declared.kind.Kind.TheVariants as k
use Rattle.vtl_cell.specs.Conversion.{as_kind}
use Rattle.vtl_cell.specs.Groups.{group_value}
use Rattle.vtl_cell.specs.Outcome.{Outcome, after, fault_in, faults_by, join, unless}
use Rattle.vtl_cell.specs.Outcomes.{branch, first_chosen, is_true}
use Rattle.vtl_cell.specs.Row.{Row}
use Rattle.sql_tree.specs.Trees as tree
use Rattle.sql_tree.specs.Trees.{Branches, Exp, Exps, ItemTree, JoinTree, QueryTree, SelectTree, Text, ValueTree}
use Rattle.sql_tree.specs.declared.parts.Column.{Column}
use Rattle.sql_tree.specs.declared.parts.Source.{Source}
use Rattle.sql_tree.specs.declared.windows.Over.{Over}
use Rattle.sql_tree.specs.declared.windows.WindowCall.{WindowCall}
use Rattle.sql_tree.specs.declared.windows.WindowCall.TheVariants as call
use Rattle.sql_check_parts.specs.Kinds.{kind_in}
use Rattle.sql_check_parts.specs.Queries.{is_grouped, query_columns, scope_of}
use Rattle.sql_check_parts.specs.Scopes.{Scope, row_of, with_source}
use Rattle.sql_check_parts.specs.Exists.{inner_of}
use Rattle.sql_meaning.specs.Outcomes.{all_values, cell_or_null, operated, row_at, row_fault}
use Rattle.sql_meaning.specs.Tables.{Base, columns_given, columns_named, given_rows, kinds_of, rows_from}
use Rattle.sql_meaning.specs.Values.{View, at_groups, at_rows, chosen, is_tied, literal_cell, null_test, place_in, set_operator, value, values}
use Rattle.sql_meaning.specs.From.{Joined, fault_at, first_of, holds, joined, joined_rows, kept_of, pairs, source_rows, with_join}
use Rattle.sql_meaning.specs.Groups.{keys_by, rows_with}
use Rattle.sql_meaning.specs.Orders.{with_rows}
use Rattle.sql_meaning.specs.Selects.{Wanted, appended, at_key, group_item, group_rows, having_fault, item_value, kept_keys, key_value, plain_rows, query_value, row_value, second_phase, select_value}
use Rattle.sql_meaning.specs.Windows.{Stand, call_value, keys_of, partition_of, partition_places, stand_in, told_apart}
use Rattle.sql_engine.specs.Reads.{EachOfAll, EachOfBranches, EachOfItem, EachOfJoin, EachOfMaybe, EachOfQuery, EachOfSelect, EachOfValue, EachRead}

-- ---- functions that agree on listed items
module _ {I X : Type 0} (f g : I → X → Outcome Cell) where
  rows_alike : (items : List I) → AllByRecursion (λ i. f i ≡ g i) items → row_at f items ≡ row_at g items
  rows_alike [] h = refl
  rows_alike (i ∷ items) h = λ k x. cell_or_null (h.0 k x) ∷ rows_alike items h.1 k x

  faults_alike : (items : List I) → AllByRecursion (λ i. f i ≡ g i) items → row_fault f items ≡ row_fault g items
  faults_alike [] h = refl
  faults_alike (i ∷ items) h = λ k x. join (fault_in (h.0 k x)) (faults_alike items h.1 k x)

module _ (b : Base) (other : Text → List Row) where
  abbrev o : Base
  o = with_rows b other

  abbrev view : Scope → (Column → ℕ) → View
  view scope place = record { base = b; scope = scope; place = place }

  abbrev view' : Scope → (Column → ℕ) → View
  view' scope place = record { base = o; scope = scope; place = place }

  -- the table has the same rows
  abbrev Alike : Text → Type 0
  Alike name = b.rows name ≡ other name

  source_alike : (s : Source) → Alike s.table → rows_from b s ≡ rows_from o s
  source_alike s h = ap (given_rows s.series (columns_named b.tables s.table)) h

  -- ---- expressions
  mutual
    value_same : (scope : Scope) (place : Column → ℕ) (e : Exp) (r : Row) (g : List Row) → EachRead Alike e → value (view scope place) e r g ≡ value (view' scope place) e r g
    value_same scope place (tree.binary x f y) r g h = λ i. operated b.settings (kind_in scope (tree.binary x f y)) (value_same scope place x r g h.0 i ∷ value_same scope place y r g h.1 i ∷ []) f
    value_same scope place (tree.unary f e) r g h = λ i. operated b.settings (kind_in scope (tree.unary f e)) (value_same scope place e r g h i ∷ []) f
    value_same scope place (tree.is_null e negated) r g h = ap (null_test b.settings negated) (value_same scope place e r g h)
    value_same scope place (tree.in_list e negated ls) r g h = ap (λ m. operated b.settings k.Bool (m ∷ map (λ l. Ok (literal_cell b.settings l)) ls) (set_operator negated)) (value_same scope place e r g h)
    value_same scope place (tree.constant x) r g h = refl
    value_same scope place (tree.column x) r g h = refl
    value_same scope place (tree.call f es) r g h = ap (λ ms. operated b.settings (kind_in scope (tree.call f es)) ms f) (values_same scope place es r g h)
    value_same scope place tree.count_all r g h = refl
    value_same scope place (tree.aggregate f e) r g h = λ i. after (all_values (λ q. value_same scope (place_in scope) e q [] h i) g) (group_value b.settings f)
    value_same scope place (tree.case_when bs e) r g h = ap (λ m. after m (as_kind b.settings (kind_in scope (tree.case_when bs e)))) (chosen_same scope place bs r g h.0 (value_same scope place e r g h.1))
    value_same scope place (tree.exists s es) r g h = ap (λ rows. Ok (c.Bool (list_any (λ inner. list_all (is_tied (view scope place) (inner_of b.tables s) r inner) es) rows))) (source_alike s h)

    values_same : (scope : Scope) (place : Column → ℕ) (es : Exps) (r : Row) (g : List Row) → EachOfAll Alike es → values (view scope place) es r g ≡ values (view' scope place) es r g
    values_same scope place tree.no_exps r g h = refl
    values_same scope place (tree.exp e es) r g h = λ i. value_same scope place e r g h.0 i ∷ values_same scope place es r g h.1 i

    chosen_same : (scope : Scope) (place : Column → ℕ) (bs : Branches) (r : Row) (g : List Row) → EachOfBranches Alike bs → {m n : Outcome Cell} → m ≡ n → chosen (view scope place) bs r g m ≡ chosen (view' scope place) bs r g n
    chosen_same scope place tree.no_branches r g h e = e
    chosen_same scope place (tree.branch x w bs) r g h e = λ i. after (value_same scope place x r g h.0 i) (λ t. branch (first_chosen t) (value_same scope place w r g h.1 i) (chosen_same scope place bs r g h.2 e i))

  holds_same : (scope : Scope) (e : Exp) → EachRead Alike e → holds (at_rows b scope) e ≡ holds (at_rows o scope) e
  holds_same scope e h = λ i r. is_true (value_same scope (place_in scope) e r [] h i)

  faults_same : (scope : Scope) (e : Exp) → EachRead Alike e → fault_at (at_rows b scope) e ≡ fault_at (at_rows o scope) e
  faults_same scope e h = λ i r. fault_in (value_same scope (place_in scope) e r [] h i)

  -- ---- FROM
  join_same : (f : Joined) (j : JoinTree) → EachOfJoin Alike j → with_join b f j ≡ with_join o f j
  join_same f (tree.cross s) h = λ i. record { scope = with_source b.tables f.scope s; rows = pairs f.rows (source_alike s h i); fault = f.fault }
  join_same f (tree.on kind s e) h =
      let now = with_source b.tables f.scope s in
      λ i. record {
        scope = now;
        rows = joined_rows kind (holds_same now e h.1 i) (length (row_of f.scope)) (length (columns_given b.tables s)) f.rows (source_alike s h.0 i);
        fault = join f.fault (faults_by (faults_same now e h.1 i) (pairs f.rows (source_alike s h.0 i)));
      }

  joins_same : (js : List JoinTree) (f : Joined) → AllByRecursion (EachOfJoin Alike) js → fold (with_join b) f js ≡ fold (with_join o) f js
  joins_same [] f h = refl
  joins_same (j ∷ js) f h = joins_same js (with_join b f j) h.1 ∙ ap (λ g. fold (with_join o) g js) (join_same f j h.0)

  joined_same : (s : SelectTree) → EachOfSelect Alike s → joined b s ≡ joined o s
  joined_same s h = joins_same s.joins (first_of b s.source) h.joins ∙ ap (λ rows. fold (with_join o) (record { scope = with_source b.tables [] s.source; rows = rows; fault = None }) s.joins) (source_alike s.source h.source)

  kept_same : (e : Option Exp) (f : Joined) → EachOfMaybe Alike e → kept_of b e f ≡ kept_of o e f
  kept_same None f h = refl
  kept_same (Some e) f h = λ i. unless (join f.fault (faults_by (faults_same f.scope e h i) f.rows)) (filter (holds_same f.scope e h i) f.rows)

  source_same : (s : SelectTree) → EachOfSelect Alike s → source_rows b s ≡ source_rows o s
  source_same s h = kept_same s.condition (joined b s) h.condition ∙ ap (kept_of o s.condition) (joined_same s h)

  -- ---- items of rows
  call_same : (scope : Scope) (w : WindowCall) (over : Over) (s : Stand) → call_value (at_rows b scope) w over s ≡ call_value (at_rows o scope) w over s
  call_same scope (call.Aggregate f x) over s = refl
  call_same scope (call.Value f x) over s = refl
  call_same scope (call.Shift f x digits default) over s = refl
  call_same scope call.Rank over s = refl

  row_value_same : (scope : Scope) (rows : List Row) (v : ValueTree) → EachOfValue Alike v → row_value (at_rows b scope) rows v ≡ row_value (at_rows o scope) rows v
  row_value_same scope rows (tree.expression e) h = λ i x. value_same scope (place_in scope) e x.0 [] h i
  row_value_same scope rows (tree.window w) h =
      let v = at_rows b scope in
      λ i x. call_same scope w.call w.over (stand_in (keys_of v w.over) (partition_of (partition_places v w.over) rows x.0) x) i

  items_same : (scope : Scope) (rows : List Row) (items : List ItemTree) (kinds : List Kind) → AllByRecursion (EachOfItem Alike) items → AllByRecursion (λ (w : Wanted). item_value (at_rows b scope) rows w ≡ item_value (at_rows o scope) rows w) (zip items kinds)
  items_same scope rows [] kinds h = tt
  items_same scope rows (t ∷ items) [] h = tt
  items_same scope rows (t ∷ items) (kind ∷ kinds) h =
      ((λ i x. after (row_value_same scope rows t.value h.0 i x) (as_kind b.settings kind)), items_same scope rows items kinds h.1)

  plain_same : (scope : Scope) (s : SelectTree) (kinds : List Kind) (rows : List Row) → EachOfSelect Alike s → plain_rows (at_rows b scope) (zip s.items kinds) rows ≡ plain_rows (at_rows o scope) (zip s.items kinds) rows
  plain_same scope s kinds rows h =
      let items = zip s.items kinds in
      let v = item_value (at_rows b scope) rows in
      let w = item_value (at_rows o scope) rows in
      let each = items_same scope rows s.items kinds h.items in
      λ i. unless (faults_by (faults_alike v w items each i) (told_apart rows)) (map (rows_alike v w items each i) (told_apart rows))

  -- ---- items of groups
  module _ (scope : Scope) (place : Column → ℕ) (members : Row → List Row) where
    key_same : (e : Exp) → EachRead Alike e → at_key (view scope place) members e ≡ at_key (view' scope place) members e
    key_same e h = λ i key. value_same scope place e key (members key) h i

    key_value_same : (v : ValueTree) → EachOfValue Alike v → key_value (view scope place) members v ≡ key_value (view' scope place) members v
    key_value_same (tree.expression e) h = key_same e h
    key_value_same (tree.window w) h = refl

    group_items_same : (items : List ItemTree) (kinds : List Kind) → AllByRecursion (EachOfItem Alike) items → AllByRecursion (λ (w : Wanted). group_item (view scope place) members w ≡ group_item (view' scope place) members w) (zip items kinds)
    group_items_same [] kinds h = tt
    group_items_same (t ∷ items) [] h = tt
    group_items_same (t ∷ items) (kind ∷ kinds) h = ((λ i key. after (key_value_same t.value h.0 i key) (as_kind b.settings kind)), group_items_same items kinds h.1)

    kept_keys_same : (having : Option Exp) (keys : List Row) → EachOfMaybe Alike having → kept_keys (view scope place) members having keys ≡ kept_keys (view' scope place) members having keys
    kept_keys_same None keys h = refl
    kept_keys_same (Some e) keys h = λ i. filter (λ key. is_true (key_same e h i key)) keys

    having_same : (having : Option Exp) (keys : List Row) → EachOfMaybe Alike having → having_fault (view scope place) members having keys ≡ having_fault (view' scope place) members having keys
    having_same None keys h = refl
    having_same (Some e) keys h = λ i. faults_by (λ key. fault_in (key_same e h i key)) keys

    group_rows_same : (s : SelectTree) (kinds : List Kind) (keys : List Row) → EachOfSelect Alike s → group_rows (view scope place) (zip s.items kinds) s.having members keys ≡ group_rows (view' scope place) (zip s.items kinds) s.having members keys
    group_rows_same s kinds keys h =
        let items = zip s.items kinds in
        let v = group_item (view scope place) members in
        let w = group_item (view' scope place) members in
        let each = group_items_same s.items kinds h.items in
        λ i. unless (join (having_same s.having keys h.having i) (faults_by (faults_alike v w items each i) (kept_keys_same s.having keys h.having i))) (map (rows_alike v w items each i) (kept_keys_same s.having keys h.having i))

  -- ---- selects and queries
  second_same : (scope : Scope) (s : SelectTree) (kinds : List Kind) (rows : List Row) → EachOfSelect Alike s → second_phase (at_rows b scope) (zip s.items kinds) s rows ≡ second_phase (at_rows o scope) (zip s.items kinds) s rows
  second_same scope s kinds rows h =
      let places = map (place_in scope) s.group in
      λ i. cond (is_grouped s) (group_rows_same scope (at_groups b scope s.group).place (rows_with places rows) s kinds (keys_by places rows) h i) (plain_same scope s kinds rows h i)

  select_same : (kinds : List Kind) (s : SelectTree) → EachOfSelect Alike s → select_value b kinds s ≡ select_value o kinds s
  select_same kinds s h = λ i. after (source_same s h i) (λ rows. second_same (scope_of b.tables s) s kinds rows h i)

  selects_same : (kinds : List Kind) (q : QueryTree) → EachOfQuery Alike q → map (select_value b kinds) q ≡ map (select_value o kinds) q
  selects_same kinds [] h = refl
  selects_same kinds (s ∷ ss) h = λ i. select_same kinds s h.0 i ∷ selects_same kinds ss h.1 i

  pub query_same : (q : QueryTree) → EachOfQuery Alike q → query_value b q ≡ query_value o q
  query_same q h = ap appended (selects_same (kinds_of (query_columns b.tables q)) q h)
