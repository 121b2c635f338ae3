-- A select of items whose values are known at the rows of FROM: its rows, its columns, and that it breaks no rule and can be
-- printed.
use Rattle.std.proofs.Common.{◌≡◌, ◌≤◌, ℕ, true, false, not, cond, List, [], ◌∷◌, length, map, Option, Some, None, Ok, Err, refl, ap, sym, ◌∙◌, subst, arith}
use Rattle.std.specs.Prelude.{IfOk, zip}
use Rattle.std.specs.List.{AllByRecursion, list_any}
use Rattle.std.proofs.lemmas.Bool.{or_from}
use Rattle.grammar_forms.specs.Written.{Each}
use Rattle.vtl_cell.specs.Conversion.{as_kind}
use Rattle.vtl_cell.specs.Kinds.{is_of}
use Rattle.vtl_decimal.specs.declared.number.Fault.{Fault}
use Rattle.vtl_cell.specs.Outcome.{Outcome, after, fault_in, faults_by, join, unless}
use Rattle.vtl_cell.specs.Row.{Row}
use Rattle.vtl_decimal.specs.Settings.{Settings}
use Rattle.vtl_cell.specs.declared.cell.Cell.{Cell}
use Rattle.vtl_cell.specs.declared.cell.Cell.TheVariants as c
use Rattle.vtl_cell.specs.declared.kind.Kind.{Kind}
use Rattle.vtl_cell.specs.declared.kind.Kind.TheVariants as k
use Rattle.vtl_tree.specs.Structure.{columns_of, names_of}
use Rattle.vtl_tree.specs.declared.structure.Component.{Component}
use Rattle.vtl_tree.specs.declared.structure.Structure.{Structure}
use Rattle.vtl_meaning.specs.Points.{cell_or_null}
use Rattle.sql_tree.specs.Formed.{IsExp, IsItem as IsItemFormed, IsJoin, IsMaybeExp, IsSelect, IsSource}
use Rattle.sql_tree.specs.Trees.{Exp, ItemTree, JoinTree, SelectTree}
use Rattle.sql_tree.specs.declared.parts.Source.{Source}
use Rattle.sql_check_laws.specs.Fits.{Fits, IsMaybeCondition}
use Rattle.sql_check_laws.specs.Selects.{AreJoinsTyped, IsItemTyped, IsSelectTyped, IsSourceTyped}
use Rattle.sql_check_parts.specs.Expressions.{site}
use Rattle.sql_check_parts.specs.Kinds.{kind_in}
use Rattle.sql_check_parts.specs.Queries.{first_scope, groups_of, item_aggregates, item_kind, item_name, scope_of}
use Rattle.sql_check_parts.specs.Queries as queries
use Rattle.sql_check_parts.specs.Scopes.{Scope, grouping_of, repeats}
use Rattle.sql_meaning.specs.From.{source_rows}
use Rattle.sql_meaning.specs.Outcomes.{row_at, row_fault}
use Rattle.sql_meaning.specs.Scripts.{Data, base_of, tables_in}
use Rattle.sql_meaning.specs.Selects.{grouped_rows, item_value, plain_rows, second_phase, select_value}
use Rattle.sql_meaning.specs.Tables.{Base}
use Rattle.sql_meaning.specs.Values.{at_rows, value as sql_value}
use Rattle.sql_meaning.specs.Windows.{told_apart}
use Rattle.selects_to_sql.specs.Writable.{HaveNames}
use Rattle.selects_to_sql.specs.Queries.{items_as, select_as}
use Rattle.selects_to_sql.specs.Runs.{printable_depth}
use Rattle.selects_to_sql.proofs.Aggregates.{no_aggregate}
use Rattle.selects_to_sql.proofs.Givens.{AreGiven, kinds_in}

-- ---- selects that give rows

-- over these tables the select has exactly these rows or this fault, with the columns of the structure; it breaks no rule and can
-- be printed
pub record GivesRows (p : Settings) (before : Data) (t : Structure) (q : SelectTree) (m : Outcome (List Row)) : Type 0 where
  pub names : queries.names_of q ≡ names_of (columns_of t)
  pub kinds : queries.kinds_of (tables_in before) q ≡ kinds_in (columns_of t)
  pub typed : IsSelectTyped p (tables_in before) q
  pub printed : IsSelect printable_depth q
  pub rows : select_value (base_of p before) (kinds_in (columns_of t)) q ≡ m

pub gives_same : (p : Settings) (before : Data) (t : Structure) (q : SelectTree) (m n : Outcome (List Row)) → m ≡ n → GivesRows p before t q m → GivesRows p before t q n
gives_same p before t q m n e h = record { names = h.names; kinds = h.kinds; typed = h.typed; printed = h.printed; rows = h.rows ∙ e }

-- ---- items

-- the value of an expression at a row
abbrev pub Valued : Type 0
Valued = Row → Outcome Cell

abbrev pub values_fault : List Valued → Row → Option Fault
values_fault fs r = faults_by (λ f. fault_in (f r)) fs

abbrev pub values_at : List Valued → Row → Row
values_at fs r = map (λ f. cell_or_null (f r)) fs

-- a row of these values for each row, unless one of them has a fault
abbrev pub each_by : List Valued → List Row → Outcome (List Row)
each_by fs d = unless (faults_by (values_fault fs) d) (map (values_at fs) d)

-- an expression at rows of which P holds: it has this value, which is of the column's kind, breaks no rule and can be printed
pub record IsItem (b : Base) (s : Scope) (P : Row → Type 0) (f : Valued) (e : Exp) (y : Component) : Type 0 where
  pub kind : kind_in s e ≡ y.kind
  pub fits : Fits (site b.settings b.tables s) None e
  pub printed : IsExp printable_depth e
  pub value_is : (r : Row) → P r → sql_value (at_rows b s) e r [] ≡ f r
  pub of_kind : (r : Row) → P r → IfOk (f r) (λ v. is_of y.kind v ≡ true)

abbrev pub AreItems : Base → Scope → (Row → Type 0) → List Valued → List Exp → List Component → Type 0
AreItems b s P [] [] [] = Unit {0}
AreItems b s P (f ∷ fs) (e ∷ es) (y ∷ ys) = IsItem b s P f e y × AreItems b s P fs es ys
AreItems b s P fs es ys = ⊥

-- ---- a value that is of the kind already

stays : (p : Settings) (kind : Kind) (v : Cell) → is_of kind v ≡ true → as_kind p kind v ≡ Ok v
stays p k.Num (c.Int n) h = cc
stays p kind v h = refl

pub stays_after : (p : Settings) (kind : Kind) (m : Outcome Cell) → IfOk m (λ v. is_of kind v ≡ true) → after m (as_kind p kind) ≡ m
stays_after p kind (Ok v) h = stays p kind v h
stays_after p kind (Err f) h = refl

module _ (b : Base) (s : Scope) (P : Row → Type 0) where
  -- ---- the items, as typing and printing see them

  item_names : (fs : List Valued) (es : List Exp) (ys : List Component) → AreItems b s P fs es ys → map item_name (items_as es ys) ≡ names_of ys
  item_names [] [] [] i = refl
  item_names (f ∷ fs) (e ∷ es) (y ∷ ys) i = ap (λ l. y.name ∷ l) (item_names fs es ys i.1)
  item_names fs es ys i = absurd i

  item_kinds : (fs : List Valued) (es : List Exp) (ys : List Component) → AreItems b s P fs es ys → map (item_kind s) (items_as es ys) ≡ kinds_in ys
  item_kinds [] [] [] i = refl
  item_kinds (f ∷ fs) (e ∷ es) (y ∷ ys) i = ap (λ q. q ∷ map (item_kind s) (items_as es ys)) i.0.kind ∙ ap (λ l. y.kind ∷ l) (item_kinds fs es ys i.1)
  item_kinds fs es ys i = absurd i

  no_items : (fs : List Valued) (es : List Exp) (ys : List Component) → AreItems b s P fs es ys → list_any item_aggregates (items_as es ys) ≡ false
  no_items [] [] [] i = refl
  no_items (f ∷ fs) (e ∷ es) (y ∷ ys) i = or_from _ _ (no_aggregate (site b.settings b.tables s) e i.0.fits) (no_items fs es ys i.1)
  no_items fs es ys i = absurd i

  items_fit : (fs : List Valued) (es : List Exp) (ys : List Component) → AreItems b s P fs es ys → AllByRecursion (IsItemTyped (site b.settings b.tables s) None) (items_as es ys)
  items_fit [] [] [] i = tt
  items_fit (f ∷ fs) (e ∷ es) (y ∷ ys) i = (i.0.fits, items_fit fs es ys i.1)
  items_fit fs es ys i = absurd i

  items_printed : (fs : List Valued) (es : List Exp) (ys : List Component) → AreItems b s P fs es ys → HaveNames ys → Each (IsItemFormed printable_depth) (items_as es ys)
  items_printed [] [] [] i n = tt
  items_printed (f ∷ fs) (e ∷ es) (y ∷ ys) i n = ((i.0.printed, n.0), items_printed fs es ys i.1 n.1)
  items_printed fs es ys i n = absurd i

  some_items : (fs : List Valued) (es : List Exp) (ys : List Component) → AreItems b s P fs es ys → 1 ≤ length ys → 1 ≤ length (items_as es ys)
  some_items [] [] [] i h = h
  some_items (f ∷ fs) (e ∷ es) (y ∷ ys) i h = omega arith
  some_items fs es ys i h = absurd i

  -- ---- their values

  module _ (whole : List Row) where
    items_fault : (fs : List Valued) (es : List Exp) (ys : List Component) (r : Row) (n : ℕ) → AreItems b s P fs es ys → P r → row_fault (item_value (at_rows b s) whole) (zip (items_as es ys) (kinds_in ys)) (r, n) ≡ values_fault fs r
    items_fault [] [] [] r n i h = refl
    items_fault (f ∷ fs) (e ∷ es) (y ∷ ys) r n i h =
        ap (λ m. join (fault_in (after m (as_kind b.settings y.kind))) (row_fault (item_value (at_rows b s) whole) (zip (items_as es ys) (kinds_in ys)) (r, n))) (i.0.value_is r h)
        ∙ ap (λ m. join (fault_in m) (row_fault (item_value (at_rows b s) whole) (zip (items_as es ys) (kinds_in ys)) (r, n))) (stays_after b.settings y.kind (f r) (i.0.of_kind r h))
        ∙ ap (λ o. join (fault_in (f r)) o) (items_fault fs es ys r n i.1 h)
    items_fault fs es ys r n i h = absurd i

    items_cells : (fs : List Valued) (es : List Exp) (ys : List Component) (r : Row) (n : ℕ) → AreItems b s P fs es ys → P r → row_at (item_value (at_rows b s) whole) (zip (items_as es ys) (kinds_in ys)) (r, n) ≡ values_at fs r
    items_cells [] [] [] r n i h = refl
    items_cells (f ∷ fs) (e ∷ es) (y ∷ ys) r n i h =
        ap (λ m. cell_or_null (after m (as_kind b.settings y.kind)) ∷ row_at (item_value (at_rows b s) whole) (zip (items_as es ys) (kinds_in ys)) (r, n)) (i.0.value_is r h)
        ∙ ap (λ m. cell_or_null m ∷ row_at (item_value (at_rows b s) whole) (zip (items_as es ys) (kinds_in ys)) (r, n)) (stays_after b.settings y.kind (f r) (i.0.of_kind r h))
        ∙ ap (λ l. cell_or_null (f r) ∷ l) (items_cells fs es ys r n i.1 h)
    items_cells fs es ys r n i h = absurd i

    module _ (fs : List Valued) (es : List Exp) (ys : List Component) (i : AreItems b s P fs es ys) where
      abbrev wanted : List (ItemTree × Kind)
      wanted = zip (items_as es ys) (kinds_in ys)

      rows_fault : (rows : List Row) → AllByRecursion P rows → faults_by (row_fault (item_value (at_rows b s) whole) wanted) (told_apart rows) ≡ faults_by (values_fault fs) rows
      rows_fault [] h = refl
      rows_fault (r ∷ rows) h =
          ap (λ f. join f (faults_by (row_fault (item_value (at_rows b s) whole) wanted) (told_apart rows))) (items_fault fs es ys r _ i h.0)
          ∙ ap (join (values_fault fs r)) (rows_fault rows h.1)

      rows_cells : (rows : List Row) → AllByRecursion P rows → map (row_at (item_value (at_rows b s) whole) wanted) (told_apart rows) ≡ map (values_at fs) rows
      rows_cells [] h = refl
      rows_cells (r ∷ rows) h =
          ap (λ l. l ∷ map (row_at (item_value (at_rows b s) whole) wanted) (told_apart rows)) (items_cells fs es ys r _ i h.0)
          ∙ ap (λ l. values_at fs r ∷ l) (rows_cells rows h.1)

  plain_is : (fs : List Valued) (es : List Exp) (ys : List Component) → AreItems b s P fs es ys → (rows : List Row) → AllByRecursion P rows → plain_rows (at_rows b s) (zip (items_as es ys) (kinds_in ys)) rows ≡ each_by fs rows
  plain_is fs es ys i rows h =
      ap (λ f. unless f (map (row_at (item_value (at_rows b s) rows) (zip (items_as es ys) (kinds_in ys))) (told_apart rows))) (rows_fault rows fs es ys i rows h)
      ∙ ap (unless (faults_by (values_fault fs) rows)) (rows_cells rows fs es ys i rows h)

-- ---- the select

-- of all rows, where there is no fault
abbrev pub AllRows : (Row → Type 0) → Outcome (List Row) → Type 0
AllRows P m = IfOk m (AllByRecursion P)

-- its sources, its joins and its condition break no rule and can be printed
pub record IsFrom (p : Settings) (before : Data) (s : Scope) (q : SelectTree) : Type 0 where
  pub scope : scope_of (tables_in before) q ≡ s
  pub source : IsSourceTyped (tables_in before) [] q.source × IsSource q.source
  pub joins : AreJoinsTyped p (tables_in before) (first_scope (tables_in before) q) q.joins × Each (IsJoin printable_depth) q.joins
  pub condition : IsMaybeCondition (site p (tables_in before) s) None q.condition × IsMaybeExp printable_depth q.condition

module _ (p : Settings) (before : Data) (s : Scope) (P : Row → Type 0) (fs : List Valued) (es : List Exp) (t : Structure) (i : AreItems (base_of p before) s P fs es (columns_of t)) (given : AreGiven (columns_of t)) (source : Source) (joins : List JoinTree) (condition : Option Exp) where
  abbrev b : Base
  b = base_of p before

  abbrev ys : List Component
  ys = columns_of t

  abbrev it : SelectTree
  it = select_as (items_as es ys) source joins condition

  module _ (from : IsFrom p before s it) (m : Outcome (List Row)) (rows : source_rows b it ≡ m) (all : AllRows P m) where
    not_grouped : groups_of it ≡ None
    not_grouped = ap (λ g. cond g (Some (grouping_of [])) None) (no_items b s P fs es ys i)

    second_is : (d : List Row) → AllByRecursion P d → second_phase (at_rows b s) (zip (items_as es ys) (kinds_in ys)) it d ≡ each_by fs d
    second_is d h =
        ap (λ g. cond g (grouped_rows (at_rows b s) (zip (items_as es ys) (kinds_in ys)) [] None d) (plain_rows (at_rows b s) (zip (items_as es ys) (kinds_in ys)) d)) (no_items b s P fs es ys i)
        ∙ plain_is b s P fs es ys i d h

    value_is : select_value b (kinds_in ys) it ≡ after m (each_by fs)
    value_is =
        ap (λ q. after q (second_phase (at_rows b (scope_of b.tables it)) (zip (items_as es ys) (kinds_in ys)) it)) rows
        ∙ ap (λ z. after m (second_phase (at_rows b z) (zip (items_as es ys) (kinds_in ys)) it)) from.scope
        ∙ go m all
      where
        go : (q : Outcome (List Row)) → AllRows P q → after q (second_phase (at_rows b s) (zip (items_as es ys) (kinds_in ys)) it) ≡ after q (each_by fs)
        go (Ok d) h = second_is d h
        go (Err f) h = refl

    pub select_gives : GivesRows p before t it (after m (each_by fs))
    select_gives = record {
      names = item_names b s P fs es ys i;
      kinds = ap (λ z. map (item_kind z) (items_as es ys)) from.scope ∙ item_kinds b s P fs es ys i;
      typed = record {
        source = from.source.0;
        joins = from.joins.0;
        condition = subst (λ z. IsMaybeCondition (site p b.tables z) None condition) (sym from.scope) from.condition.0;
        group = tt;
        having = tt;
        items = subst (λ z. AllByRecursion (IsItemTyped (site p b.tables z) (groups_of it)) (items_as es ys)) (sym from.scope) (subst (λ g. AllByRecursion (IsItemTyped (site p b.tables s) g) (items_as es ys)) (sym not_grouped) (items_fit b s P fs es ys i));
        names = ap repeats (item_names b s P fs es ys i) ∙ ap not given.apart;
      };
      printed = record {
        some = some_items b s P fs es ys i given.some;
        items = items_printed b s P fs es ys i given.named;
        source = from.source.1;
        joins = from.joins.1;
        condition = from.condition.1;
        group = tt;
        having = tt;
      };
      rows = value_is;
    }
