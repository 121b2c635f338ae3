-- The selects of rules, as they are written: the combinations beside tables of items.
use Rattle.std.proofs.Common.{◌≡◌, ◌<◌, ◌+◌, ℕ, Bool, true, false, not, ◌||◌, cond, List, [], ◌∷◌, ◌++◌, length, map, Option, Some, refl, sym, subst, ap, ◌∙◌, append-nil}
use Rattle.std.proofs.lemmas.List.{length-map, map-append}
use Rattle.std.proofs.lemmas.List.Elements.{filter-append}
use Rattle.std.specs.List.{AllByRecursion, filter}
use Rattle.vtl_lists.proofs.Alls.{all_more}
use Rattle.vtl_decimal.specs.Settings.{Settings}
use Rattle.vtl_cell.specs.declared.cell.Cell.TheVariants as c
use Rattle.vtl_cell.specs.declared.operator.ScalarOp.TheVariants as op
use Rattle.vtl_syntax.specs.declared.statements.HierRule.{HierRule}
use Rattle.vtl_syntax.specs.declared.word_groups.CheckOut.{CheckOut}
use Rattle.vtl_syntax.specs.declared.word_groups.Mode.{Mode}
use Rattle.vtl_tree.specs.Checks.{with_ids}
use Rattle.vtl_tree.specs.Columns.{column_named, columns_named, identifiers_of, measures_of, place_of}
use Rattle.vtl_tree.specs.CompExp.{CompExp, const}
use Rattle.vtl_tree.specs.Measures.{made}
use Rattle.vtl_tree.specs.Names.{is_among}
use Rattle.vtl_tree.specs.RuleItems.{items_of, left_item, right_items}
use Rattle.vtl_tree.specs.Structure.{columns_of, same_name, same_role}
use Rattle.vtl_tree.specs.declared.structure.Component.{Component}
use Rattle.vtl_tree.specs.declared.structure.Role.{Role}
use Rattle.vtl_tree.specs.declared.structure.Role.TheVariants as role
use Rattle.vtl_tree.specs.declared.structure.Structure.{Structure}
use Rattle.vtl_meaning.specs.Turned.{other_identifiers}
use Rattle.vtl_meaning.proofs.Places.{IsIdentifier, are_identifiers, identifier_role, same_name-sym}
use Rattle.vtl_meaning.proofs.TurnedKept.{others_are, others_identify}
use Rattle.vtl_meaning.proofs.JoinPartners.{all_pass}
use Rattle.vtl_rulings.specs.HierarchyChecks.{Ruled, SidedRule, sided_rules}
use Rattle.sql_tree.specs.Trees as tree
use Rattle.sql_tree.specs.Trees.{Exp, JoinTree, Text}
use Rattle.sql_tree.specs.declared.parts.Constant.TheVariants as constant
use Rattle.sql_tree.specs.declared.word_groups.JoinKind.TheVariants as joining
use Rattle.expressions_to_sql.specs.ToSql.{Naming, column_of, to_sql}
use Rattle.joins_to_sql.specs.JoinItems.{column_from}
use Rattle.joins_to_sql.specs.Joins.{joins_on, many_at, of_many, placed_at, placed_from, width_of}
use Rattle.joins_to_sql.proofs.JoinForms.{IsWithin, own_identifiers, own_measures}
use Rattle.joins_to_sql.proofs.KeyColumns.{keep_none, key_identifiers}
use Rattle.joins_to_sql.proofs.ManySources.{of_first, of_later}
use Rattle.selects_to_sql.specs.Queries.{alias_of, condition_for, items_as, select_as, source_as}
use Rattle.rules_to_sql.specs.Items.{text_as}
use Rattle.hierarchies_to_sql.specs.ComputedTables.{merged_query, one_there, value_of_two}
use Rattle.hierarchies_to_sql.specs.ItemTables.{Tables, combinations_structure, item_structure, key_exp, leaf_at, leaves_for, others_structure, structures_for, there}
use Rattle.hierarchies_to_sql.specs.RuleItems.{aliases_from, beside_as, checked_select_as, checked_selects_as, computed_as, joins_as, key_as, keys_as, merged_as, one_there_as, true_as, value_of_two_as}
use Rattle.hierarchies_to_sql.specs.RuleSelects.{beside_items, checked_query, checked_select, computed_query}
use Rattle.hierarchies_to_sql.specs.SideExps.{Leaf, appears_exp, check_parts, check_where, right_exp}
use Rattle.hierarchies_to_sql.specs.SideItems.{LeafAs, appears_as, check_parts_as, check_where_as, either_of, filled_as, leaf_under, right_as}
use Rattle.hierarchies_to_sql.proofs.RuleForms.{AreFrom, IsShared, joins_written, leaves_written}
use Rattle.hierarchies_to_sql.proofs.SideForms.{AreWritten, appears_written, filled_written, parts_written, right_written, where_written}

module _ (h : Ruled) (a : Structure) where
  abbrev others : List Component
  others = other_identifiers h.id a

  abbrev t : Structure
  t = item_structure h a

  abbrev behind : List Component
  behind = made h.measure role.Measure h.kind ∷ there h ∷ []

  abbrev combined : Structure
  combined = combinations_structure h a

  abbrev ks : List Component
  ks = columns_of combined

  -- ---- columns

  none_of : (r : Role) → same_role role.Identifier r ≡ false → AllByRecursion (λ y. same_role y.role r ≡ false) others
  none_of r e = all_more IsIdentifier (λ y. same_role y.role r ≡ false) (λ y i. ap (λ q. same_role q r) (identifier_role y.role i) ∙ e) others (others_identify h.id a)

  items_identify : identifiers_of t ≡ others
  items_identify = filter-append (λ y. same_role y.role role.Identifier) others behind ∙ ap (λ l. l ++ []) (all_pass (λ y. same_role y.role role.Identifier) others (others_identify h.id a)) ∙ append-nil others

  items_measure : measures_of t ≡ behind
  items_measure = filter-append (λ y. same_role y.role role.Measure) others behind ∙ ap (λ l. l ++ behind) (keep_none (λ y. same_role y.role role.Measure) others (none_of role.Measure refl))

  combined_identify : identifiers_of combined ≡ others
  combined_identify = key_identifiers (identifiers_of (others_structure h a)) (are_identifiers (others_structure h a)) ∙ all_pass (λ y. same_role y.role role.Identifier) others (others_identify h.id a)

  own : AllByRecursion (IsWithin (columns_of t)) others
  own = subst (AllByRecursion (IsWithin (columns_of t))) items_identify (own_identifiers t)

  first : AllByRecursion (IsWithin ks) others
  first = subst (AllByRecursion (IsWithin ks)) combined_identify (own_identifiers combined)

  measures : AllByRecursion (IsWithin (columns_of t)) behind
  measures = subst (AllByRecursion (IsWithin (columns_of t))) items_measure (own_measures t)

  -- ---- sources

  abbrev at : List Text → Naming
  at xs = many_at ks (structures_for h a xs)

  module _ (p : Settings) (xs : List Text) where
    first_at : (z : Component) → IsWithin ks z → at xs (place_of z.name ks) z.name ≡ column_of (alias_of 0) z.name
    first_at z within = of_first 0 (length ks) (place_of z.name ks) (map width_of (structures_for h a xs)) z.name within

    shared : (zs : List Component) → AllByRecursion (IsWithin (columns_of t)) zs → AllByRecursion (IsWithin ks) zs → AllByRecursion (IsShared p (at xs) h a ks others items_identify) zs
    shared [] o f = tt
    shared (z ∷ zs) o f = (record { own = o.0; first = first_at z f.0 }, shared zs o.1 f.1)

    from : AreFrom p (at xs) h a (length ks) 1 xs
    from k name = of_later 0 (length ks) k (map width_of (structures_for h a xs)) name

    beside_written : (keys : Text) (es : List CompExp) (s : Structure) (condition : Option CompExp) (vs : List Exp) (w : Option Exp) → map (to_sql p (at xs)) es ≡ vs → condition_for p (at xs) condition ≡ w
        → beside_items p h a keys xs es s condition ≡ beside_as (alias_of 0) others keys (aliases_from 1 (length xs)) xs vs (columns_of s) w
    beside_written keys es s condition vs w e f =
        let source = source_as (alias_of 0) keys in
        let joins = joins_on p joining.Left (at xs) ks identifiers_of 1 (placed_from (length ks) (structures_for h a xs)) xs in
        ap (λ l. select_as (items_as l (columns_of s)) source joins (condition_for p (at xs) condition)) e
        ∙ ap (λ l. select_as (items_as vs (columns_of s)) source l (condition_for p (at xs) condition)) (joins_written p (at xs) h a ks others items_identify (shared others own first) xs (length ks) 1 from)
        ∙ ap (λ o. select_as (items_as vs (columns_of s)) source (joins_as (alias_of 0) others (aliases_from 1 (length xs)) xs) o) f

    -- ---- items

    kept : (zs : List Component) → AllByRecursion (IsWithin ks) (filter (λ z. not (is_among z.name (h.id ∷ []))) zs) → AllByRecursion (λ y. same_name y.name h.id ≡ false → IsWithin ks y) zs
    kept [] all = tt
    kept (z ∷ zs) all = go (same_name h.id z.name) refl all (kept zs)
      where
        rest : List Component
        rest = filter (λ y. not (is_among y.name (h.id ∷ []))) zs

        go : (b : Bool) → same_name h.id z.name ≡ b → AllByRecursion (IsWithin ks) (cond (not (b || false)) (z ∷ rest) rest) → (AllByRecursion (IsWithin ks) rest → AllByRecursion (λ y. same_name y.name h.id ≡ false → IsWithin ks y) zs) → AllByRecursion (λ y. same_name y.name h.id ≡ false → IsWithin ks y) (z ∷ zs)
        go true e all ih = ((λ f. let no : true ≡ false = sym e ∙ same_name-sym h.id z.name ∙ f in absurd (cc)), ih all)
        go false e all ih = ((λ f. all.0), ih all.1)

    key_written : (item : Text) (y : Component) → (same_name y.name h.id ≡ false → IsWithin ks y) → to_sql p (at xs) (key_exp h.id ks item y) ≡ key_as h.id (alias_of 0) item y
    key_written item y w = go (same_name y.name h.id) refl
      where
        go : (b : Bool) → same_name y.name h.id ≡ b → to_sql p (at xs) (cond b (const (c.Text item)) (column_named ks y.name)) ≡ cond b (tree.constant (constant.Text item)) (column_from (alias_of 0) y)
        go true e = refl
        go false e = ap tree.column (first_at y (w e))

    each_key : (item : Text) (ys : List Component) → AllByRecursion (λ y. same_name y.name h.id ≡ false → IsWithin ks y) ys → map (to_sql p (at xs)) (map (key_exp h.id ks item) ys) ≡ keys_as h.id (alias_of 0) item ys
    each_key item [] all = refl
    each_key item (y ∷ ys) all =
        ap (λ e. e ∷ map (to_sql p (at xs)) (map (key_exp h.id ks item) ys)) (key_written item y all.0) ∙ ap (λ l. key_as h.id (alias_of 0) item y ∷ l) (each_key item ys all.1)

    keys_written : (item : Text) → map (to_sql p (at xs)) (map (key_exp h.id ks item) (identifiers_of a)) ≡ keys_as h.id (alias_of 0) item (identifiers_of a)
    keys_written item = each_key item (identifiers_of a) (kept (identifiers_of a) (subst (AllByRecursion (IsWithin ks)) (others_are h.id a.components) first))

    own_written : (ys : List Component) → AllByRecursion (IsWithin ks) ys → map (to_sql p (at xs)) (columns_named ks ys) ≡ map (column_from (alias_of 0)) ys
    own_written [] all = refl
    own_written (y ∷ ys) all = ap (λ e. tree.column e ∷ map (to_sql p (at xs)) (columns_named ks ys)) (first_at y all.0) ∙ ap (λ l. column_from (alias_of 0) y ∷ l) (own_written ys all.1)

  -- ---- the items of a rule

  module _ (p : Settings) (tables : Tables) (items : List Text) where
    abbrev xs : List Text
    xs = map tables items

    abbrev leaves : List Leaf
    leaves = leaves_for h a items

    abbrev ws : List LeafAs
    ws = map (leaf_under h) (aliases_from 1 (length items))

    one_for_each : (zs : List Text) → structures_for h a (map tables zs) ≡ structures_for h a zs
    one_for_each [] = refl
    one_for_each (z ∷ zs) = ap (λ l. t ∷ l) (one_for_each zs)

    found : AreWritten p (at xs) leaves ws
    found =
        leaves_written p (at xs) h a measures.0 measures.1.0 items (length ks) 1
        (subst (λ ss. (k : ℕ) (name : Text) → at xs (length ks + k) name ≡ of_many 1 (map width_of ss) k name) (one_for_each items) (from p xs))

    beside_items_written : (keys : Text) (es : List CompExp) (s : Structure) (condition : Option CompExp) (vs : List Exp) (w : Option Exp) → map (to_sql p (at xs)) es ≡ vs → condition_for p (at xs) condition ≡ w
        → beside_items p h a keys xs es s condition ≡ beside_as (alias_of 0) others keys (aliases_from 1 (length items)) xs vs (columns_of s) w
    beside_items_written keys es s condition vs w e f =
        beside_written p xs keys es s condition vs w e f
        ∙ ap (λ n. beside_as (alias_of 0) others keys (aliases_from 1 n) xs vs (columns_of s) w) (length-map items tables)

  module _ (p : Settings) (m : Mode) (keys : Text) (tables : Tables) where
    select_written : (o : CheckOut) (s : Structure) (rule : SidedRule) → checked_select p h a keys tables o m s rule ≡ checked_select_as p h m (alias_of 0) keys others tables o (identifiers_of a) (columns_of s) rule
    select_written o s rule =
        let items = items_of rule.1 in
        let xs = map tables items in
        let n = at xs in
        let leaves = leaves_for h a items in
        let ws = map (leaf_under h) (aliases_from 1 (length items)) in
        let all = found p tables items in
        let ids = map (key_exp h.id ks (left_item rule.1)) (identifiers_of a) in
        let parts = check_parts p o m h.kind rule.1 leaves in
        beside_items_written p tables items keys (ids ++ (const (c.Text rule.0) ∷ parts)) s (check_where o m h.kind rule.1 leaves)
        (keys_as h.id (alias_of 0) (left_item rule.1) (identifiers_of a) ++ (text_as rule.0 ∷ check_parts_as p m h.kind rule.1 ws o)) (check_where_as p m h.kind rule.1 ws o)
        (map-append (to_sql p n) ids (const (c.Text rule.0) ∷ parts)
        ∙ ap (λ l. l ++ map (to_sql p n) (const (c.Text rule.0) ∷ parts)) (keys_written p xs (left_item rule.1))
        ∙ ap (λ l. keys_as h.id (alias_of 0) (left_item rule.1) (identifiers_of a) ++ (text_as rule.0 ∷ l)) (parts_written p n h.kind m rule.1 leaves ws all o))
        (where_written p n h.kind m rule.1 leaves ws all o)

    each_written : (o : CheckOut) (s : Structure) (rules : List SidedRule) → map (checked_select p h a keys tables o m s) rules ≡ map (checked_select_as p h m (alias_of 0) keys others tables o (identifiers_of a) (columns_of s)) rules
    each_written o s [] = refl
    each_written o s (rule ∷ rules) =
        ap (λ x. x ∷ map (checked_select p h a keys tables o m s) rules) (select_written o s rule)
        ∙ ap (λ l. checked_select_as p h m (alias_of 0) keys others tables o (identifiers_of a) (columns_of s) rule ∷ l) (each_written o s rules)

    pub checked_written : (o : CheckOut) (rules : List HierRule) (s : Structure) → checked_query p h a keys tables o m rules s ≡ checked_selects_as p h m (alias_of 0) keys others tables o (identifiers_of a) (columns_of s) 1 rules
    checked_written o rules s = each_written o s (sided_rules rules)

    pub computed_written : (r : HierRule) → computed_query p h a keys tables m r ≡ computed_as p h m (alias_of 0) keys others tables (columns_of t) r ∷ []
    computed_written r =
        let items = right_items r in
        let xs = map tables items in
        let n = at xs in
        let leaves = leaves_for h a items in
        let ws = map (leaf_under h) (aliases_from 1 (length items)) in
        let all = found p tables items in
        let ids = columns_named ks others in
        let value = right_exp m h.kind r leaves in
        ap (λ x. x ∷ [])
        (beside_items_written p tables items keys (ids ++ (value ∷ const (c.Bool true) ∷ [])) t (appears_exp m h.kind leaves)
        (map (column_from (alias_of 0)) others ++ (right_as p m h.kind r ws ∷ true_as ∷ [])) (appears_as p m h.kind ws)
        (map-append (to_sql p n) ids (value ∷ const (c.Bool true) ∷ [])
        ∙ ap (λ l. l ++ map (to_sql p n) (value ∷ const (c.Bool true) ∷ [])) (own_written p xs others first)
        ∙ ap (λ e. map (column_from (alias_of 0)) others ++ (e ∷ true_as ∷ [])) (right_written p n h.kind m r leaves ws all))
        (appears_written p n h.kind m leaves ws all))

  -- ---- two tables of one item

  module _ (p : Settings) where
    pub merged_written : (keys made given : Text) → merged_query p h a keys made given ≡ merged_as h (alias_of 0) keys others (columns_of t) made given ∷ []
    merged_written keys made given =
        let both = made ∷ given ∷ [] in
        let n = at both in
        let one = leaf_under h (alias_of 1) in
        let two = leaf_under h (alias_of 2) in
        let o = leaf_at h (placed_at (length ks) t) in
        let g = leaf_at h (placed_at (length ks + width_of t) t) in
        let all = leaves_written p n h a measures.0 measures.1.0 both (length ks) 1 (from p both) in
        let ids = columns_named ks others in
        let values = λ (e f : Exp). tree.call op.ValueOr (tree.exp e (tree.exp f tree.no_exps)) in
        let rest = value_of_two h o g ∷ const (c.Bool true) ∷ [] in
        ap (λ x. x ∷ [])
        (beside_written p both keys (ids ++ rest) t (Some (one_there (o ∷ g ∷ []))) (map (column_from (alias_of 0)) others ++ (value_of_two_as one two ∷ true_as ∷ [])) (Some (one_there_as one two))
        (map-append (to_sql p n) ids rest
        ∙ ap (λ l. l ++ map (to_sql p n) rest) (own_written p both others first)
        ∙ ap (λ e. map (column_from (alias_of 0)) others ++ (values e (to_sql p n g.value) ∷ true_as ∷ [])) all.0.value
        ∙ ap (λ e. map (column_from (alias_of 0)) others ++ (values one.value e ∷ true_as ∷ [])) all.1.0.value)
        (ap (λ e. Some (either_of e (to_sql p n g.there))) (filled_written p n h.kind o one all.0)
        ∙ ap (λ e. Some (either_of (filled_as one) e)) all.1.0.there))

-- ---- tables of items

-- tables by names that are the same
pub same_tables : (f g : Tables) → ((item : Text) → f item ≡ g item) → (items : List Text) → map f items ≡ map g items
same_tables f g same [] = refl
same_tables f g same (item ∷ items) = ap (λ x. x ∷ map f items) (same item) ∙ ap (λ l. g item ∷ l) (same_tables f g same items)

module _ (p : Settings) (h : Ruled) (m : Mode) (keys : Text) (ys : List Component) (f g : Tables) (same : (item : Text) → f item ≡ g item) (o : CheckOut) (ids columns : List Component) where
  each_same : (rules : List SidedRule) → map (checked_select_as p h m (alias_of 0) keys ys f o ids columns) rules ≡ map (checked_select_as p h m (alias_of 0) keys ys g o ids columns) rules
  each_same [] = refl
  each_same (rule ∷ rules) =
      let names = items_of rule.1 in
      let ws = map (leaf_under h) (aliases_from 1 (length names)) in
      let one = λ (xs : List Text). beside_as (alias_of 0) ys keys (aliases_from 1 (length names)) xs (keys_as h.id (alias_of 0) (left_item rule.1) ids ++ (text_as rule.0 ∷ check_parts_as p m h.kind rule.1 ws o)) columns (check_where_as p m h.kind rule.1 ws o) in
      ap (λ x. x ∷ map (checked_select_as p h m (alias_of 0) keys ys f o ids columns) rules) (ap one (same_tables f g same names))
      ∙ ap (λ l. checked_select_as p h m (alias_of 0) keys ys g o ids columns rule ∷ l) (each_same rules)

  -- tables by names that are the same give the same selects
  pub same_selects : (rules : List HierRule) → checked_selects_as p h m (alias_of 0) keys ys f o ids columns 1 rules ≡ checked_selects_as p h m (alias_of 0) keys ys g o ids columns 1 rules
  same_selects rules = each_same (with_ids (λ r. r.name) 1 rules)
