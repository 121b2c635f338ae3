-- A grouped select of items whose values are known at the keys of the groups: its rows, its columns, and that it breaks no rule and
-- can be printed.
use Rattle.std.proofs.Common.{◌≡◌, ℕ, ◌≤◌, true, not, cond, List, [], ◌∷◌, ◌++◌, length, map, Option, Some, None, Ok, refl, ap, sym, ◌∙◌, subst, arith}
use Rattle.std.specs.Prelude.{IfOk, zip}
use Rattle.std.specs.List.{AllByRecursion}
use Rattle.grammar_forms.specs.Written.{Each}
use Rattle.vtl_cell.specs.Conversion.{as_kind}
use Rattle.vtl_cell.specs.Kinds.{is_of}
use Rattle.vtl_decimal.specs.declared.number.Fault.{Fault}
use Rattle.vtl_cell.specs.Outcome.{Outcome, after, fault_in, faults_by, join, unless}
use Rattle.vtl_cell.specs.Row.{Row}
use Rattle.vtl_decimal.specs.Settings.{Settings}
use Rattle.vtl_cell.specs.declared.kind.Kind.{Kind}
use Rattle.vtl_tree.specs.Structure.{columns_of, names_of}
use Rattle.vtl_tree.specs.declared.structure.Component.{Component}
use Rattle.vtl_tree.specs.declared.structure.Structure.{Structure}
use Rattle.vtl_meaning.specs.Points.{cell_or_null}
use Rattle.sql_tree.specs.Formed.{IsColumn, IsExp, IsItem as IsItemFormed, IsMaybeExp, IsSource}
use Rattle.sql_tree.specs.Trees.{Exp, ItemTree, SelectTree}
use Rattle.sql_tree.specs.declared.parts.Column.{Column}
use Rattle.sql_tree.specs.declared.parts.Source.{Source}
use Rattle.sql_check_laws.specs.Fits.{Fits, IsMaybeCondition, IsSeen}
use Rattle.sql_check_laws.specs.Selects.{IsItemTyped, IsSourceTyped}
use Rattle.sql_check_parts.specs.Expressions.{site}
use Rattle.sql_check_parts.specs.Kinds.{kind_in}
use Rattle.sql_check_parts.specs.Queries.{groups_of, is_grouped, item_kind, item_name, scope_of}
use Rattle.sql_check_parts.specs.Scopes.{Scope, grouping_of, repeats}
use Rattle.sql_meaning.specs.From.{source_rows}
use Rattle.sql_meaning.specs.Groups.{keys_by, rows_with}
use Rattle.sql_meaning.specs.Outcomes.{row_at, row_fault}
use Rattle.sql_meaning.specs.Scripts.{Data, base_of, tables_in}
use Rattle.sql_meaning.specs.Selects.{group_item, group_rows, grouped_rows, having_fault, kept_keys, plain_rows, second_phase}
use Rattle.sql_meaning.specs.Tables.{Base}
use Rattle.sql_meaning.specs.Values.{at_groups, at_rows, place_in, value as sql_value}
use Rattle.selects_to_sql.specs.Writable.{HaveNames}
use Rattle.selects_to_sql.specs.Queries.{items_as}
use Rattle.selects_to_sql.specs.Runs.{printable_depth}
use Rattle.selects_to_sql.specs.Groups.{grouped_as}
use Rattle.selects_to_sql.proofs.Givens.{AreGiven, kinds_in}
use Rattle.selects_to_sql.proofs.SelectItems.{GivesRows, Valued, stays_after, values_at, values_fault}

-- ---- items

-- an expression at groups whose keys P holds of, with these rows: it has this value, which is of the column's kind, breaks no rule
-- and can be printed
pub record IsGroupItem (b : Base) (s : Scope) (group : List Column) (members : Row → List Row) (P : Row → Type 0) (f : Valued) (e : Exp) (y : Component) : Type 0 where
  pub kind : kind_in s e ≡ y.kind
  pub fits : Fits (site b.settings b.tables s) (Some (grouping_of group)) e
  pub printed : IsExp printable_depth e
  pub value_is : (key : Row) → P key → sql_value (at_groups b s group) e key (members key) ≡ f key
  pub of_kind : (key : Row) → P key → IfOk (f key) (λ v. is_of y.kind v ≡ true)

abbrev pub AreGroupItems : Base → Scope → List Column → (Row → List Row) → (Row → Type 0) → List Valued → List Exp → List Component → Type 0
AreGroupItems b s group members P [] [] [] = Unit {0}
AreGroupItems b s group members P (f ∷ fs) (e ∷ es) (y ∷ ys) = IsGroupItem b s group members P f e y × AreGroupItems b s group members P fs es ys
AreGroupItems b s group members P fs es ys = ⊥

-- a row of these values for each key, unless HAVING has this fault or one of the values has one
abbrev pub each_kept : Option Fault → List Valued → List Row → Outcome (List Row)
each_kept fault fs keys = unless (join fault (faults_by (values_fault fs) keys)) (map (values_at fs) keys)

module _ (b : Base) (s : Scope) (group : List Column) (members : Row → List Row) (P : Row → Type 0) where
  abbrev Items : List Valued → List Exp → List Component → Type 0
  Items fs es ys = AreGroupItems b s group members P fs es ys

  item_names : (fs : List Valued) (es : List Exp) (ys : List Component) → Items fs es ys → map item_name (items_as es ys) ≡ names_of ys
  item_names [] [] [] i = refl
  item_names (f ∷ fs) (e ∷ es) (y ∷ ys) i = ap (λ l. y.name ∷ l) (item_names fs es ys i.1)
  item_names fs es ys i = absurd i

  item_kinds : (fs : List Valued) (es : List Exp) (ys : List Component) → Items fs es ys → map (item_kind s) (items_as es ys) ≡ kinds_in ys
  item_kinds [] [] [] i = refl
  item_kinds (f ∷ fs) (e ∷ es) (y ∷ ys) i = ap (λ q. q ∷ map (item_kind s) (items_as es ys)) i.0.kind ∙ ap (λ l. y.kind ∷ l) (item_kinds fs es ys i.1)
  item_kinds fs es ys i = absurd i

  items_fit : (fs : List Valued) (es : List Exp) (ys : List Component) → Items fs es ys → AllByRecursion (IsItemTyped (site b.settings b.tables s) (Some (grouping_of group))) (items_as es ys)
  items_fit [] [] [] i = tt
  items_fit (f ∷ fs) (e ∷ es) (y ∷ ys) i = (i.0.fits, items_fit fs es ys i.1)
  items_fit fs es ys i = absurd i

  items_printed : (fs : List Valued) (es : List Exp) (ys : List Component) → Items fs es ys → HaveNames ys → Each (IsItemFormed printable_depth) (items_as es ys)
  items_printed [] [] [] i n = tt
  items_printed (f ∷ fs) (e ∷ es) (y ∷ ys) i n = ((i.0.printed, n.0), items_printed fs es ys i.1 n.1)
  items_printed fs es ys i n = absurd i

  some_items : (fs : List Valued) (es : List Exp) (ys : List Component) → Items fs es ys → 1 ≤ length ys → 1 ≤ length (items_as es ys)
  some_items [] [] [] i h = h
  some_items (f ∷ fs) (e ∷ es) (y ∷ ys) i h = omega arith
  some_items fs es ys i h = absurd i

  -- ---- items one behind the other, and of other columns of the same kinds

  pub groups_behind : (fs gs : List Valued) (es ds : List Exp) (ys zs : List Component) → Items fs es ys → Items gs ds zs → Items (fs ++ gs) (es ++ ds) (ys ++ zs)
  groups_behind [] gs [] ds [] zs i j = j
  groups_behind (f ∷ fs) gs (e ∷ es) ds (y ∷ ys) zs i j = (i.0, groups_behind fs gs es ds ys zs i.1 j)
  groups_behind fs gs es ds ys zs i j = absurd i

  one_like : (f : Valued) (e : Exp) (y z : Component) → y.kind ≡ z.kind → IsGroupItem b s group members P f e y → IsGroupItem b s group members P f e z
  one_like f e y z same i = record {
    kind = i.kind ∙ same;
    fits = i.fits;
    printed = i.printed;
    value_is = i.value_is;
    of_kind = λ key h. subst (λ q. IfOk (f key) (λ v. is_of q v ≡ true)) same (i.of_kind key h);
  }

  pub groups_like : (fs : List Valued) (es : List Exp) (ys zs : List Component) → kinds_in ys ≡ kinds_in zs → Items fs es ys → Items fs es zs
  groups_like [] [] [] [] same i = tt
  groups_like [] [] [] (z ∷ zs) same i = cc
  groups_like (f ∷ fs) (e ∷ es) (y ∷ ys) [] same i = cc
  groups_like (f ∷ fs) (e ∷ es) (y ∷ ys) (z ∷ zs) same i =
      let one : y.kind ≡ z.kind = cc in
      let more : kinds_in ys ≡ kinds_in zs = cc in
      (one_like f e y z one i.0, groups_like fs es ys zs more i.1)
  groups_like fs es ys zs same i = absurd i

  -- ---- their values

  abbrev wanted : List Exp → List Component → List (ItemTree × Kind)
  wanted es ys = zip (items_as es ys) (kinds_in ys)

  items_fault : (fs : List Valued) (es : List Exp) (ys : List Component) (key : Row) → Items fs es ys → P key → row_fault (group_item (at_groups b s group) members) (wanted es ys) key ≡ values_fault fs key
  items_fault [] [] [] key i h = refl
  items_fault (f ∷ fs) (e ∷ es) (y ∷ ys) key i h =
      ap (λ m. join (fault_in (after m (as_kind b.settings y.kind))) (row_fault (group_item (at_groups b s group) members) (wanted es ys) key)) (i.0.value_is key h)
      ∙ ap (λ m. join (fault_in m) (row_fault (group_item (at_groups b s group) members) (wanted es ys) key)) (stays_after b.settings y.kind (f key) (i.0.of_kind key h))
      ∙ ap (λ o. join (fault_in (f key)) o) (items_fault fs es ys key i.1 h)
  items_fault fs es ys key i h = absurd i

  items_cells : (fs : List Valued) (es : List Exp) (ys : List Component) (key : Row) → Items fs es ys → P key → row_at (group_item (at_groups b s group) members) (wanted es ys) key ≡ values_at fs key
  items_cells [] [] [] key i h = refl
  items_cells (f ∷ fs) (e ∷ es) (y ∷ ys) key i h =
      ap (λ m. cell_or_null (after m (as_kind b.settings y.kind)) ∷ row_at (group_item (at_groups b s group) members) (wanted es ys) key) (i.0.value_is key h)
      ∙ ap (λ m. cell_or_null m ∷ row_at (group_item (at_groups b s group) members) (wanted es ys) key) (stays_after b.settings y.kind (f key) (i.0.of_kind key h))
      ∙ ap (λ l. cell_or_null (f key) ∷ l) (items_cells fs es ys key i.1 h)
  items_cells fs es ys key i h = absurd i

  module _ (fs : List Valued) (es : List Exp) (ys : List Component) (i : AreGroupItems b s group members P fs es ys) where
    keys_fault : (keys : List Row) → AllByRecursion P keys → faults_by (row_fault (group_item (at_groups b s group) members) (wanted es ys)) keys ≡ faults_by (values_fault fs) keys
    keys_fault [] h = refl
    keys_fault (key ∷ keys) h =
        ap (λ f. join f (faults_by (row_fault (group_item (at_groups b s group) members) (wanted es ys)) keys)) (items_fault fs es ys key i h.0)
        ∙ ap (join (values_fault fs key)) (keys_fault keys h.1)

    keys_cells : (keys : List Row) → AllByRecursion P keys → map (row_at (group_item (at_groups b s group) members) (wanted es ys)) keys ≡ map (values_at fs) keys
    keys_cells [] h = refl
    keys_cells (key ∷ keys) h =
        ap (λ l. l ∷ map (row_at (group_item (at_groups b s group) members) (wanted es ys)) keys) (items_cells fs es ys key i h.0)
        ∙ ap (λ l. values_at fs key ∷ l) (keys_cells keys h.1)

    -- the groups that HAVING keeps, and its fault
    groups_are : (having : Option Exp) (keys left : List Row) (fault : Option Fault) → kept_keys (at_groups b s group) members having keys ≡ left → having_fault (at_groups b s group) members having keys ≡ fault → AllByRecursion P left
        → group_rows (at_groups b s group) (wanted es ys) having members keys ≡ each_kept fault fs left
    groups_are having keys left fault kept told h =
        ap (λ f. unless (join f (faults_by (row_fault (group_item (at_groups b s group) members) (wanted es ys)) (kept_keys (at_groups b s group) members having keys))) (map (row_at (group_item (at_groups b s group) members) (wanted es ys)) (kept_keys (at_groups b s group) members having keys))) told
        ∙ ap (λ l. unless (join fault (faults_by (row_fault (group_item (at_groups b s group) members) (wanted es ys)) l)) (map (row_at (group_item (at_groups b s group) members) (wanted es ys)) l)) kept
        ∙ ap (λ f. unless (join fault f) (map (row_at (group_item (at_groups b s group) members) (wanted es ys)) left)) (keys_fault left h)
        ∙ ap (unless (join fault (faults_by (values_fault fs) left))) (keys_cells left h)

-- ---- the select

-- its source, GROUP BY and HAVING break no rule and can be printed
pub record IsGrouped (p : Settings) (before : Data) (s : Scope) (q : SelectTree) : Type 0 where
  pub grouped : is_grouped q ≡ true
  pub scope : scope_of (tables_in before) q ≡ s
  pub source : IsSourceTyped (tables_in before) [] q.source × IsSource q.source
  pub group : AllByRecursion (IsSeen s None) q.group × Each IsColumn q.group
  pub having : IsMaybeCondition (site p (tables_in before) s) (Some (grouping_of q.group)) q.having × IsMaybeExp printable_depth q.having

module _ (p : Settings) (before : Data) (s : Scope) (group : List Column) (places : List ℕ) (placed : map (place_in s) group ≡ places) (d : List Row) (P : Row → Type 0) (fs : List Valued) (es : List Exp) (t : Structure)
    (i : AreGroupItems (base_of p before) s group (rows_with places d) P fs es (columns_of t)) (given : AreGiven (columns_of t)) (source : Source) (having : Option Exp) where
  abbrev b : Base
  b = base_of p before

  abbrev ys : List Component
  ys = columns_of t

  abbrev members : Row → List Row
  members = rows_with places d

  abbrev it : SelectTree
  it = grouped_as (items_as es ys) source group having

  pub groups_give : IsGrouped p before s it → source_rows b it ≡ Ok d → (left : List Row) (fault : Option Fault) → kept_keys (at_groups b s group) members having (keys_by places d) ≡ left → having_fault (at_groups b s group) members having (keys_by places d) ≡ fault → AllByRecursion P left
      → GivesRows p before t it (each_kept fault fs left)
  groups_give from rows left fault kept told all =
      let grouped : groups_of it ≡ Some (grouping_of group) = ap (λ g. cond g (Some (grouping_of group)) None) from.grouped in
      record {
        names = item_names b s group members P fs es ys i;
        kinds = ap (λ z. map (item_kind z) (items_as es ys)) from.scope ∙ item_kinds b s group members P fs es ys i;
        typed = record {
          source = from.source.0;
          joins = tt;
          condition = tt;
          group = subst (λ z. AllByRecursion (IsSeen z None) group) (sym from.scope) from.group.0;
          having = subst (λ z. IsMaybeCondition (site p b.tables z) (groups_of it) having) (sym from.scope) (subst (λ g. IsMaybeCondition (site p b.tables s) g having) (sym grouped) from.having.0);
          items = subst (λ z. AllByRecursion (IsItemTyped (site p b.tables z) (groups_of it)) (items_as es ys)) (sym from.scope) (subst (λ g. AllByRecursion (IsItemTyped (site p b.tables s) g) (items_as es ys)) (sym grouped) (items_fit b s group members P fs es ys i));
          names = ap repeats (item_names b s group members P fs es ys i) ∙ ap not given.apart;
        };
        printed = record {
          some = some_items b s group members P fs es ys i given.some;
          items = items_printed b s group members P fs es ys i given.named;
          source = from.source.1;
          joins = tt;
          condition = tt;
          group = from.group.1;
          having = from.having.1;
        };
        rows =
            ap (λ m. after m (second_phase (at_rows b (scope_of b.tables it)) (zip (items_as es ys) (kinds_in ys)) it)) rows
            ∙ ap (λ z. second_phase (at_rows b z) (zip (items_as es ys) (kinds_in ys)) it d) from.scope
            ∙ ap (λ g. cond g (grouped_rows (at_rows b s) (zip (items_as es ys) (kinds_in ys)) group having d) (plain_rows (at_rows b s) (zip (items_as es ys) (kinds_in ys)) d)) from.grouped
            ∙ ap (λ l. group_rows (at_groups b s group) (zip (items_as es ys) (kinds_in ys)) having (rows_with l d) (keys_by l d)) placed
            ∙ groups_are b s group members P fs es ys i having (keys_by places d) left fault kept told all;
      }
