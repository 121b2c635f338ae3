-- Expressions over groups see the columns of the key, and aggregates of the points.
use Rattle.std.proofs.Common.{◌≡◌, ℕ, ◌+◌, ◌≤◌, Bool, true, false, cond, not, ◌&&◌, ◌||◌, List, [], ◌∷◌, map, Option, Some, None, Ok, refl, sym, ap, subst, ◌∙◌}
use Rattle.std.specs.Prelude.{is_some}
use Rattle.std.specs.List.{position_or_len}
use Rattle.std.specs.Ordering.{eq_by_cmp}
use Rattle.std.proofs.lemmas.Cmp.{eq_by_cmp_equiv, nat_list_eq_equiv}
use Rattle.std.proofs.lemmas.Slice.Eq.{bytes_eq-Decides}
use Rattle.vtl_cell.specs.Groups as cells
use Rattle.vtl_cell.specs.Outcome.{Outcome, after, faults_by, unless}
use Rattle.vtl_cell.specs.Row.{Row, column_of}
use Rattle.vtl_decimal.specs.Settings.{Settings}
use Rattle.vtl_text.specs.Texts.{same_text}
use Rattle.vtl_cell.specs.declared.cell.Cell.{Cell}
use Rattle.vtl_cell.specs.declared.kind.Kind.{Kind}
use Rattle.vtl_cell.specs.declared.operator.AggKind.{AggKind}
use Rattle.vtl_cell.specs.AggregateKinds.{aggregate_kind}
use Rattle.vtl_tree.specs.CompExp.{CompExp}
use Rattle.vtl_tree.specs.declared.expression.AggCall.{AggCall}
use Rattle.vtl_tree.specs.declared.structure.Component.{Component}
use Rattle.vtl_tree.specs.Kinds.{exp_kind}
use Rattle.vtl_tree.specs.Columns.{kind_named, place_of}
use Rattle.sql_tree.specs.Formed.{Formed}
use Rattle.sql_tree.specs.Trees.{Text}
use Rattle.sql_check_laws.specs.Fits.{Fits}
use Rattle.sql_check_parts.specs.Expressions.{site}
use Rattle.sql_check_parts.specs.Kinds.{kind_in}
use Rattle.sql_check_parts.specs.Scopes.{Grouping, Scope, Tables, column_name, column_order, found, grouping_of, is_among, is_grouped_by, or_null}
use Rattle.sql_check_parts.proofs.Grouped.{is_column_among, is_in_group, total}
use Rattle.sql_meaning.specs.Outcomes.{all_values}
use Rattle.sql_meaning.specs.Tables.{Base}
use Rattle.sql_meaning.specs.Values.{at_groups, place_in, same_column, value}
use Rattle.vtl_meaning.specs.Made.{Aggregates, IsGroupedColumn, IsTypedInGroups}
use Rattle.vtl_meaning.specs.GroupExpressions.{aggregated, value_at_group}
use Rattle.expressions_to_sql.specs.Held.{HoldsValues}
use Rattle.expressions_to_sql.specs.Names.{AreNamesFormed, Names}
use Rattle.expressions_to_sql.specs.ToSql.{aggregate_to_sql, group_columns, of_source, to_sql}
use Rattle.expressions_to_sql.specs.ToSql as sql
use Rattle.expressions_to_sql.proofs.FittingExpressions.{expression_fits}
use Rattle.expressions_to_sql.proofs.FormedExpressions.{expression_formed}
use Rattle.expressions_to_sql.proofs.KeptKinds.{kind_stays}
use Rattle.expressions_to_sql.proofs.KeptValues.{value_stays}

-- ---- columns of the key

-- of one source, columns are told apart by their names
one_source : (alias name other : Text) → same_column (sql.column_of alias name) (sql.column_of alias other) ≡ same_text name other
one_source alias name other = ap (λ b. b && same_text name other) (nat_list_eq_equiv.refl alias)

key_place : (alias name : Text) (names : List Text) → position_or_len (same_column (sql.column_of alias name)) (group_columns alias names) ≡ position_or_len (same_text name) names
key_place alias name [] = refl
key_place alias name (n ∷ names) = λ i. cond (not (one_source alias name n i)) (1 + key_place alias name names i) 0

-- a grouping identifier is a column of GROUP BY
grouped : (alias name : Text) (names : List Text) → is_among name names ≡ true → is_grouped_by (grouping_of (group_columns alias names)) (sql.column_of alias name) ≡ true
grouped alias name names h = sym (is_in_group (map column_name (group_columns alias names)) (alias, name)) ∙ go names h
  where
    one : (n : Text) (ns : List Text) (b : Bool) → same_text name n ≡ b → b || is_among name ns ≡ true → (is_among name ns ≡ true → is_column_among (alias, name) (map column_name (group_columns alias ns)) ≡ true) → is_column_among (alias, name) ((alias, n) ∷ map column_name (group_columns alias ns)) ≡ true
    one n ns true e h ih =
        let same : eq_by_cmp column_order (alias, name) (alias, n) ≡ true = subst (λ m. eq_by_cmp column_order (alias, name) (alias, m) ≡ true) ((bytes_eq-Decides name n).0 e) ((eq_by_cmp_equiv total).refl (alias, name)) in
        ap (λ b. b || is_column_among (alias, name) (map column_name (group_columns alias ns))) same
    one n ns false e h ih = or_true (eq_by_cmp column_order (alias, name) (alias, n)) (is_column_among (alias, name) (map column_name (group_columns alias ns))) (ih h)
      where
        or_true : (a b : Bool) → b ≡ true → (a || b) ≡ true
        or_true true b e = refl
        or_true false b e = e

    go : (ns : List Text) → is_among name ns ≡ true → is_column_among (alias, name) (map column_name (group_columns alias ns)) ≡ true
    go [] h = cc
    go (n ∷ ns) h = one n ns (same_text name n) refl h (go ns)

-- ---- values at all points

cells_of : (f : Row → Cell) (g : List Row) → all_values (λ q. Ok (f q)) g ≡ Ok (map f g)
cells_of f g = ap (λ fault. unless fault (map f g)) (none g)
  where
    none : (g : List Row) → faults_by (λ q. None) g ≡ None
    none [] = refl
    none (q ∷ g) = none g

-- ---- laws

module _ (alias : Text) (names : List Text) (xs : List Component) where
  abbrev called : AggCall → Kind → Type 0
  called a kind = Aggregates xs a.kind a.component kind

  abbrev cells_at : Row → ℕ → Text → Cell
  cells_at key place name = column_of (position_or_len (same_text name) names) key

  abbrev at_points : Settings → List Row → AggCall → Outcome Cell
  at_points p g a = aggregated p xs a.kind a.component g

  module _ (scope : Scope) (named : Names (of_source alias) scope xs) where
    known : (place : ℕ) (name : Text) (kind : Kind) → IsGroupedColumn names xs place name kind → found scope (of_source alias place name) ≡ Some kind
    known place name kind h = named.known place name kind h.0

    aggregate_kind_is : (f : AggKind) (component : Option Text) (kind : Kind) → Aggregates xs f component kind → kind_in scope (aggregate_to_sql (of_source alias) f component) ≡ kind
    aggregate_kind_is f None kind h = sym h.1
    aggregate_kind_is f (Some name) kind h = ap (λ o. or_null (aggregate_kind f (or_null o))) (named.known (place_of name xs) name (kind_named name xs) h.0) ∙ ap or_null h.1

    aggregate_fits : (p : Settings) (tables : Tables) (group : Grouping) (f : AggKind) (component : Option Text) (kind : Kind) → Aggregates xs f component kind → Fits (site p tables scope) (Some group) (aggregate_to_sql (of_source alias) f component)
    aggregate_fits p tables group f None kind h = refl
    aggregate_fits p tables group f (Some name) kind h =
        let there = named.known (place_of name xs) name (kind_named name xs) h.0 in
        ((ap is_some there, refl), ap (λ o. is_some (aggregate_kind f (or_null o))) there ∙ ap is_some h.1, refl)

    aggregate_value_is : (b : Base) (key : Row) (g : List Row) (f : AggKind) (component : Option Text) (kind : Kind) → Aggregates xs f component kind
        → value (at_groups b scope (group_columns alias names)) (aggregate_to_sql (of_source alias) f component) key g ≡ aggregated b.settings xs f component g
    aggregate_value_is b key g f None kind h = refl
    aggregate_value_is b key g f (Some name) kind h =
        ap (λ m. after m (cells.group_value b.settings f)) (cells_of (column_of (place_in scope (sql.column_of alias name))) g)
        ∙ ap (λ n. cells.group_value b.settings f (map (column_of n) g)) (named.placed (place_of name xs) name (kind_named name xs) h.0)

    pub group_kind : (p : Settings) (e : CompExp) → IsTypedInGroups p names xs e → kind_in scope (to_sql p (of_source alias) e) ≡ exp_kind e
    group_kind p e i = kind_stays p (of_source alias) scope (IsGroupedColumn names xs) called known (λ a kind h. aggregate_kind_is a.kind a.component kind h) e i

    pub group_value_is : (b : Base) (key : Row) (g : List Row) → b.settings.scale ≤ 9 → (e : CompExp) → IsTypedInGroups b.settings names xs e → HoldsValues e
        → value (at_groups b scope (group_columns alias names)) (to_sql b.settings (of_source alias) e) key g ≡ value_at_group b.settings names xs e key g
    group_value_is b key g low e i w =
        value_stays (at_groups b scope (group_columns alias names)) key g (of_source alias) (cells_at key) (at_points b.settings g) low (IsGroupedColumn names xs) called
        known (λ a kind h. aggregate_kind_is a.kind a.component kind h)
        (λ place name kind h. ap (λ n. column_of n key) (key_place alias name names))
        (λ a kind h. aggregate_value_is b key g a.kind a.component kind h) e i w

    pub group_fits : (p : Settings) (tables : Tables) → p.scale ≤ 9 → (e : CompExp) → IsTypedInGroups p names xs e → HoldsValues e → Fits (site p tables scope) (Some (grouping_of (group_columns alias names))) (to_sql p (of_source alias) e)
    group_fits p tables low e i w =
        let group = grouping_of (group_columns alias names) in
        expression_fits (site p tables scope) (Some group) (of_source alias) low (IsGroupedColumn names xs) called
        (λ place name kind h. (ap is_some (known place name kind h), ap not (grouped alias name names h.1)))
        known (λ a kind h. aggregate_fits p tables group a.kind a.component kind h) (λ a kind h. aggregate_kind_is a.kind a.component kind h) e i w

  aggregate_formed : AreNamesFormed (of_source alias) xs → (f : AggKind) (component : Option Text) (kind : Kind) → Aggregates xs f component kind → Formed (aggregate_to_sql (of_source alias) f component)
  aggregate_formed formed f None kind h = tt
  aggregate_formed formed f (Some name) kind h = formed (place_of name xs) name (kind_named name xs) h.0

  pub group_formed : (p : Settings) → p.scale ≤ 9 → AreNamesFormed (of_source alias) xs → (e : CompExp) → IsTypedInGroups p names xs e → HoldsValues e → Formed (to_sql p (of_source alias) e)
  group_formed p low formed e i w =
      expression_formed p low (of_source alias) (IsGroupedColumn names xs) called
      (λ place name kind h. formed place name kind h.0) (λ a kind h. aggregate_formed formed a.kind a.component kind h) e i w
