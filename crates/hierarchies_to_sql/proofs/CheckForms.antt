-- The query of `check_hierarchy` and its tables, as they are written.
use Rattle.std.proofs.Common.{◌≡◌, ◌<◌, ◌+◌, ℕ, zero, suc, List, [], ◌∷◌, ◌++◌, get_or, length, map, Option, refl, sym, ap, take, ◌∙◌, arith, append_assoc}
use Rattle.std.proofs.lemmas.List.{map-append}
use Rattle.vtl_decimal.specs.Settings.{Settings}
use Rattle.vtl_syntax.specs.declared.statements.HierRule.{HierRule}
use Rattle.vtl_syntax.specs.declared.word_groups.CheckOut.{CheckOut}
use Rattle.vtl_syntax.specs.declared.word_groups.Mode.{Mode}
use Rattle.vtl_tree.specs.Checks.{rule_id, with_ids}
use Rattle.vtl_tree.specs.Columns.{identifiers_of}
use Rattle.vtl_tree.specs.RuleItems.{items_of, left_item, right_items}
use Rattle.vtl_tree.specs.Structure.{columns_of}
use Rattle.vtl_tree.specs.declared.structure.Component.{Component}
use Rattle.vtl_tree.specs.declared.structure.Structure.{Structure}
use Rattle.vtl_meaning.specs.Turned.{other_identifiers}
use Rattle.vtl_rulings.specs.HierarchyChecks.{Ruled, SidedRule, only_name}
use Rattle.sql_tree.specs.Trees.{Exp, ItemTree, SelectTree, StatementTree, Text}
use Rattle.selects_to_sql.specs.Queries.{alias_of, items_as, name_of_first, select_as, source_as}
use Rattle.selects_to_sql.specs.Tables.{by_names, create_for, numbered}
use Rattle.rules_to_sql.specs.Items.{text_as}
use Rattle.hierarchies_to_sql.specs.CheckTables.{check_hierarchy_made, checked_items, sided}
use Rattle.hierarchies_to_sql.specs.ItemTables.{Tables, combinations_of, item_tables, tables_by}
use Rattle.hierarchies_to_sql.specs.RuleItems.{aliases_from, beside_as, checked_select_as, checked_selects_as, computed_as, joins_as, keys_as, tables_in, true_as}
use Rattle.hierarchies_to_sql.specs.SideItems.{appears_as, check_parts_as, check_where_as, leaf_under, right_as}
use Rattle.joins_to_sql.specs.JoinItems.{column_from}
use Rattle.hierarchies_to_sql.proofs.BesideForms.{checked_written, same_selects}
use Rattle.hierarchies_to_sql.proofs.ItemTableForms.{next_is}

pub names_same : (xs : List Component) → name_of_first xs ≡ only_name xs
names_same [] = refl
names_same (x ∷ xs) = refl

-- ---- the select of a rule

module _ (p : Settings) (h : Ruled) (m : Mode) (keys : Text) (others : List Component) (f : Tables) where
  module _ (o : CheckOut) (ids columns : List Component) where
    pub select_is : (id : Text) (rule : HierRule) (first label : Text) (aliases names xs : List Text) (es : List ItemTree) (w : Option Exp) → first ≡ alias_of 0 → label ≡ id → names ≡ items_of rule → aliases ≡ aliases_from 1 (length names) → xs ≡ map f names
        → es ≡ items_as (keys_as h.id first (left_item rule) ids ++ (text_as label ∷ check_parts_as p m h.kind rule (map (leaf_under h) aliases) o)) columns → w ≡ check_where_as p m h.kind rule (map (leaf_under h) aliases) o
        → select_as es (source_as first keys) (joins_as first others aliases xs) w ≡ checked_select_as p h m (alias_of 0) keys others f o ids columns (id, rule)
    select_is id rule first label aliases names xs es w ef el en ea ex ei ew =
        let made = λ (z y : Text) (l ts : List Text). beside_as z others keys l ts (keys_as h.id z (left_item rule) ids ++ (text_as y ∷ check_parts_as p m h.kind rule (map (leaf_under h) l) o)) columns (check_where_as p m h.kind rule (map (leaf_under h) l) o) in
        let all = aliases_from 1 (length (items_of rule)) in
        ap (λ l. select_as l (source_as first keys) (joins_as first others aliases xs) w) ei
        ∙ ap (λ z. select_as (items_as (keys_as h.id first (left_item rule) ids ++ (text_as label ∷ check_parts_as p m h.kind rule (map (leaf_under h) aliases) o)) columns) (source_as first keys) (joins_as first others aliases xs) z) ew
        ∙ ap (λ (z : Text). made z label aliases xs) ef
        ∙ ap (λ (z : Text). made (alias_of 0) z aliases xs) el
        ∙ ap (λ (l : List Text). made (alias_of 0) id l xs) (ea ∙ ap (λ (l : List Text). aliases_from 1 (length l)) en)
        ∙ ap (λ (l : List Text). made (alias_of 0) id all l) (ex ∙ ap (map f) en)

    -- ---- rules one by one

    abbrev with_number : ℕ → HierRule → SidedRule
    with_number n rule = (rule_id n rule.name, rule)

    abbrev all_from : ℕ → List HierRule → List SidedRule
    all_from n rules = with_ids (λ r. r.name) n rules

    one_more : (n : ℕ) (rules : List HierRule) (i : ℕ) (rule : HierRule) → i < length rules → rule ≡ get_or rules i rule → all_from n (take (suc i) rules) ≡ all_from n (take i rules) ++ with_number (n + i) rule ∷ []
    one_more n [] i rule within at = absurd (omega (arith, within))
    one_more n (r ∷ rules) zero rule within at =
        let number : n ≡ n + zero = omega arith in
        ap (λ z. with_number n z ∷ []) (sym at) ∙ ap (λ k. with_number k rule ∷ []) number
    one_more n (r ∷ rules) (suc i) rule within at =
        let number : suc n + i ≡ n + suc i = omega arith in
        ap (λ l. with_number n r ∷ l) (one_more (suc n) rules i rule (omega (arith, within)) at)
        ∙ ap (λ k. (with_number n r ∷ all_from (suc n) (take i rules)) ++ with_number k rule ∷ []) number

    pub selects_more : (rules : List HierRule) (i : ℕ) (rule : HierRule) → i < length rules → rule ≡ get_or rules i rule
        → checked_selects_as p h m (alias_of 0) keys others f o ids columns 1 (take (i + 1) rules) ≡ checked_selects_as p h m (alias_of 0) keys others f o ids columns 1 (take i rules) ++ checked_select_as p h m (alias_of 0) keys others f o ids columns (rule_id (i + 1) rule.name, rule) ∷ []
    selects_more rules i rule within at =
        let next : i + 1 ≡ suc i = omega arith in
        let number : 1 + i ≡ i + 1 = omega arith in
        let g = checked_select_as p h m (alias_of 0) keys others f o ids columns in
        ap (λ n. map g (all_from 1 (take n rules))) next
        ∙ ap (map g) (one_more 1 rules i rule within at)
        ∙ map-append g (all_from 1 (take i rules)) (with_number (1 + i) rule ∷ [])
        ∙ ap (λ n. map g (all_from 1 (take i rules)) ++ g (with_number n rule) ∷ []) number

  -- ---- what a rule computes

  pub computed_is : (rule : HierRule) (columns : List Component) (first : Text) (aliases names xs : List Text) (es : List ItemTree) (w : Option Exp) → first ≡ alias_of 0 → names ≡ right_items rule → aliases ≡ aliases_from 1 (length names) → xs ≡ map f names
      → es ≡ items_as (map (column_from first) others ++ (right_as p m h.kind rule (map (leaf_under h) aliases) ∷ true_as ∷ [])) columns → w ≡ appears_as p m h.kind (map (leaf_under h) aliases)
      → select_as es (source_as first keys) (joins_as first others aliases xs) w ≡ computed_as p h m (alias_of 0) keys others f columns rule
  computed_is rule columns first aliases names xs es w ef en ea ex ei ew =
      let made = λ (z : Text) (l ts : List Text). beside_as z others keys l ts (map (column_from z) others ++ (right_as p m h.kind rule (map (leaf_under h) l) ∷ true_as ∷ [])) columns (appears_as p m h.kind (map (leaf_under h) l)) in
      let all = aliases_from 1 (length (right_items rule)) in
      ap (λ l. select_as l (source_as first keys) (joins_as first others aliases xs) w) ei
      ∙ ap (λ z. select_as (items_as (map (column_from first) others ++ (right_as p m h.kind rule (map (leaf_under h) aliases) ∷ true_as ∷ [])) columns) (source_as first keys) (joins_as first others aliases xs) z) ew
      ∙ ap (λ (z : Text). made z aliases xs) ef
      ∙ ap (λ (l : List Text). made (alias_of 0) l xs) (ea ∙ ap (λ (l : List Text). aliases_from 1 (length l)) en)
      ∙ ap (λ (l : List Text). made (alias_of 0) all l) (ex ∙ ap (map f) en)

-- ---- the call

module _ (p : Settings) (r : Text) (h : Ruled) (a : Structure) (x : Text) (n : ℕ) where
  pub sided_tables : (items : List Text) (k : ℕ) (old so new : List StatementTree) → k ≡ n + 2 → so ≡ old ++ map create_for (combinations_of p r h a (x ∷ []) n).tables → new ≡ so ++ map create_for (item_tables p r h a (x ∷ []) items k).tables
      → new ≡ old ++ map create_for (sided p r h a items (x ∷ []) n).tables
  sided_tables items k old so new e before is =
      let behind : k ≡ (n + 1) + 1 = omega (arith, e) in
      let first = (combinations_of p r h a (x ∷ []) n).tables in
      let last = (item_tables p r h a (x ∷ []) items ((n + 1) + 1)).tables in
      is
      ∙ ap (λ l. l ++ map create_for (item_tables p r h a (x ∷ []) items k).tables) before
      ∙ ap (λ j. (old ++ map create_for first) ++ map create_for (item_tables p r h a (x ∷ []) items j).tables) behind
      ∙ append_assoc old (map create_for first) (map create_for last)
      ∙ ap (λ l. old ++ l) (sym (map-append create_for first last))

  module _ (m : Mode) (o : CheckOut) (rules : List HierRule) (s : Structure) (items : List Text) (same : items ≡ checked_items rules) where
    pub query_is : (v : List SelectTree) (g : Ruled) (keys : Text) (others : List Component) (named : List (Text × Text)) → v ≡ checked_selects_as p g m (alias_of 0) keys others (tables_in named) o (identifiers_of a) (columns_of s) 1 rules → g ≡ h → keys ≡ numbered r (n + 1) → others ≡ other_identifiers h.id a
        → ((item : Text) → tables_in named item ≡ tables_by items (item_tables p r h a (x ∷ []) items (n + 2)).names item) → v ≡ (check_hierarchy_made p r h m o rules a s (by_names (x ∷ []) n)).query
    query_is v g keys others named is eg ek eo found =
        let all = checked_items rules in
        let tables = λ (l : List Text) (k : ℕ). tables_by l (item_tables p r h a (x ∷ []) l k).names in
        let behind : n + 2 ≡ (n + 1) + 1 = omega arith in
        let written = λ (f : Ruled) (k : Text) (ys : List Component). checked_selects_as p f m (alias_of 0) k ys (tables_in named) o (identifiers_of a) (columns_of s) 1 rules in
        is
        ∙ ap (λ (f : Ruled). written f keys others) eg
        ∙ ap (λ (k : Text). written h k others) ek
        ∙ ap (λ (ys : List Component). written h (numbered r (n + 1)) ys) eo
        ∙ same_selects p h m (numbered r (n + 1)) (other_identifiers h.id a) (tables_in named) (tables all ((n + 1) + 1)) (λ item. found item ∙ ap (λ k. tables items k item) behind ∙ ap (λ l. tables l ((n + 1) + 1) item) same) o (identifiers_of a) (columns_of s) rules
        ∙ sym (checked_written h a p m (numbered r (n + 1)) (tables all ((n + 1) + 1)) o rules s)

    pub tables_are : (old new : List StatementTree) → new ≡ old ++ map create_for (sided p r h a items (x ∷ []) n).tables → new ≡ old ++ map create_for (check_hierarchy_made p r h m o rules a s (by_names (x ∷ []) n)).tables
    tables_are old new e = e ∙ ap (λ (l : List Text). old ++ map create_for (sided p r h a l (x ∷ []) n).tables) same

    pub last_is : (k : ℕ) → k ≡ n + 2 + length items → k ≡ (check_hierarchy_made p r h m o rules a s (by_names (x ∷ []) n)).next
    last_is k e =
        let behind : n + 2 + length items ≡ ((n + 1) + 1) + length items = omega arith in
        e ∙ behind ∙ sym (next_is p r h a x ((n + 1) + 1) items) ∙ ap (λ (l : List Text). (item_tables p r h a (x ∷ []) l ((n + 1) + 1)).next) same
