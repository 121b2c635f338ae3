-- Items that are columns and windows, and their rows.
use Rattle.std.proofs.Common.{◌≡◌, ℕ, zero, suc, ◌+◌, ◌<◌, List, [], ◌∷◌, ◌++◌, map, length, get_or, take, drop, true, Ok, refl, sym, ap, ◌∙◌, subst, add-one, arith}
use Rattle.std.specs.Prelude.{count_by, zip}
use Rattle.std.proofs.lemmas.List.{drop_more, map-append}
use Rattle.vtl_cell.specs.Conversion.{as_kind}
use Rattle.vtl_cell.specs.Outcome.{Outcome, after, unless}
use Rattle.vtl_cell.specs.Row.{Row, column_of, same_row}
use Rattle.vtl_decimal.specs.Settings.{Settings}
use Rattle.vtl_cell.specs.declared.cell.Cell.{Cell}
use Rattle.vtl_cell.specs.declared.kind.Kind.{Kind}
use Rattle.vtl_rows.specs.Tables.{column_kinds, fits, fits_kinds}
use Rattle.vtl_rows.specs.declared.column.Column.{Column}
use Rattle.sql_tree.specs.Trees as tree
use Rattle.sql_tree.specs.Trees.{ValueTree}
use Rattle.sql_tree.specs.View.{item_tree}
use Rattle.sql_tree.specs.declared.statements.Item.{Item}
use Rattle.sql_tree.specs.declared.windows.Window.{Window}
use Rattle.sql_meaning.specs.Outcomes.{row_at, row_fault}
use Rattle.sql_check_parts.specs.Scopes.{Scope, row_of}
use Rattle.sql_meaning.specs.Selects.{Wanted, item_value, row_value}
use Rattle.sql_meaning.specs.Tables.{Base, RowsFit}
use Rattle.sql_meaning.specs.Values.{View, at_rows}
use Rattle.sql_meaning.specs.Windows.{told_apart, window_value}
use Rattle.sql_exec.specs.Gathered.{IsColumnAt}
use Rattle.sql_exec.specs.ItemCells.{next_value, values_in}
use Rattle.sql_exec.specs.Items.{told_row}
use Rattle.sql_exec.specs.SimpleItems.{AreSimple, IsSimple}
use Rattle.sql_exec.specs.declared.item_cells.ItemCells.{ItemCells}
use Rattle.sql_exec.specs.declared.simple_items.SimpleItem.{SimpleItem}
use Rattle.sql_exec.proofs.ItemWalks.{others_in, values_at, values_behind}
use Rattle.sql_exec.proofs.PlainRows.{one_row, row_fault_same, row_same}
use Rattle.sql_exec.proofs.RowItems.{told_long}
use Rattle.sql_exec.proofs.Steps.{mapped_twice, zipped_more}

-- ---- simple items

append_simple : (scope : Scope) (ws : List Wanted) (xs : List SimpleItem) (w : Wanted) (x : SimpleItem) → AreSimple scope ws xs → IsSimple scope w x → AreSimple scope (ws ++ w ∷ []) (xs ++ x ∷ [])
append_simple scope [] [] w x are is = (is, tt)
append_simple scope [] (y ∷ xs) w x are is = absurd are
append_simple scope (v ∷ ws) [] w x are is = absurd are
append_simple scope (v ∷ ws) (y ∷ xs) w x are is = (are.0, append_simple scope ws xs w x are.1 is)

pub simple_more : (scope : Scope) (items : List Item) (kinds : List Kind) (i : ℕ) (item : Item) (kind : Kind) (x : SimpleItem) (before now : List SimpleItem) → i < length items → i < length kinds → item ≡ get_or items i item → kind ≡ get_or kinds i kind
    → AreSimple scope (take i (zip (map item_tree items) kinds)) before → IsSimple scope (item_tree item, kind) x → now ≡ before ++ x ∷ [] → AreSimple scope (take (i + 1) (zip (map item_tree items) kinds)) now
simple_more scope items kinds i item kind x before now h l e g are is new =
    let w : Wanted = (item_tree item, kind) in
    let first = take i (zip (map item_tree items) kinds) in
    let all : take (i + 1) (zip (map item_tree items) kinds) ≡ first ++ w ∷ [] = rw add-one (zipped_more item_tree items kinds i item kind h l e g) in
    subst (λ (ws : List Wanted). AreSimple scope ws now) (sym all) (subst (λ (xs : List SimpleItem). AreSimple scope (first ++ w ∷ []) xs) (sym new) (append_simple scope first before w x are is))

pub simple_many : (scope : Scope) (items : List Item) (kinds : List Kind) (xs : List SimpleItem) → length kinds ≡ length items → AreSimple scope (zip (map item_tree items) kinds) xs → length xs ≡ length items
simple_many scope [] kinds [] many are = refl
simple_many scope [] kinds (x ∷ xs) many are = absurd are
simple_many scope (item ∷ items) [] xs many are = absurd (omega (arith, many))
simple_many scope (item ∷ items) (kind ∷ kinds) [] many are = absurd are
simple_many scope (item ∷ items) (kind ∷ kinds) (x ∷ xs) many are = ap suc (simple_many scope items kinds xs (omega (arith, many)) are.1)

pub simple_at : (scope : Scope) (items : List Item) (kinds : List Kind) (xs : List SimpleItem) (i : ℕ) (item : Item) (kind : Kind) (x : SimpleItem) → i < length items → i < length kinds → item ≡ get_or items i item → kind ≡ get_or kinds i kind → x ≡ get_or xs i x
    → AreSimple scope (zip (map item_tree items) kinds) xs → IsSimple scope (item_tree item, kind) x
simple_at scope [] kinds xs i item kind x h l e g f are = absurd (omega arith)
simple_at scope (y ∷ items) [] xs i item kind x h l e g f are = absurd (omega arith)
simple_at scope (y ∷ items) (k ∷ kinds) [] i item kind x h l e g f are = absurd are
simple_at scope (y ∷ items) (k ∷ kinds) (z ∷ xs) zero item kind x h l e g f are =
    subst (λ (u : Item). IsSimple scope (item_tree u, kind) x) (sym e) (subst (λ (u : Kind). IsSimple scope (item_tree y, u) x) (sym g) (subst (λ (u : SimpleItem). IsSimple scope (item_tree y, k) u) (sym f) are.0))
simple_at scope (y ∷ items) (k ∷ kinds) (z ∷ xs) (suc i) item kind x h l e g f are = simple_at scope items kinds xs i item kind x (omega arith) (omega arith) e g f are.1

-- ---- their values at all rows

module _ (b : Base) (scope : Scope) (w : Wanted) (place : ℕ) (is : IsColumnAt scope w place) where
  own_each : (all rows : List Row) → RowsFit (row_of scope) rows → map (λ r. Ok (column_of place r)) rows ≡ map (item_value (at_rows b scope) all w) (told_apart rows)
  own_each all [] fit = refl
  own_each all (r ∷ rows) fit =
      let x : Row × ℕ = (r, count_by (same_row r) rows) in
      λ i. sym (is.value b all x fit.0) i ∷ own_each all rows fit.1 i

  pub own_values : (rows : List Row) → RowsFit (row_of scope) rows → map (λ r. Ok (column_of place r)) rows ≡ map (item_value (at_rows b scope) rows w) (told_apart rows)
  own_values rows fit = own_each rows rows fit

pub made_values : (v : View) (rows : List Row) (w : Wanted) (window : Window) (values : List (Outcome Cell)) → w.0.value ≡ tree.window window → values ≡ map (window_value v window rows) (told_apart rows)
    → map (λ o. after o (as_kind v.base.settings w.1)) values ≡ map (item_value v rows w) (told_apart rows)
made_values v rows w window values is e =
    let own : Outcome Cell → Outcome Cell = λ o. after o (as_kind v.base.settings w.1) in
    ap (map own) e ∙ sym (mapped_twice (window_value v window rows) own (told_apart rows))
    ∙ ap (λ (x : ValueTree). map (λ t. after (row_value v rows x t) (as_kind v.base.settings w.1)) (told_apart rows)) (sym is)

-- one item more
pub listed_more : {X : Type 0} (f : ItemCells → X) (g : Wanted → X) (items : List Item) (kinds : List Kind) (i : ℕ) (item : Item) (kind : Kind) (x : ItemCells) (before now : List ItemCells) → i < length items → i < length kinds → item ≡ get_or items i item → kind ≡ get_or kinds i kind
    → map f before ≡ map g (take i (zip (map item_tree items) kinds)) → f x ≡ g (item_tree item, kind) → now ≡ before ++ x ∷ [] → map f now ≡ map g (take (i + 1) (zip (map item_tree items) kinds))
listed_more f g items kinds i item kind x before now h l at at' same is new =
    let w : Wanted = (item_tree item, kind) in
    let first = take i (zip (map item_tree items) kinds) in
    let all : take (i + 1) (zip (map item_tree items) kinds) ≡ first ++ w ∷ [] = rw add-one (zipped_more item_tree items kinds i item kind h l at at') in
    ap (map f) new ∙ map-append f before (x ∷ []) ∙ (λ j. same j ++ is j ∷ []) ∙ sym (map-append g first (w ∷ [])) ∙ ap (map g) (sym all)

-- ---- one row after the other

module _ (p : Settings) (v : View) (rows : List Row) (wanted : List Wanted) where
  abbrev at : Wanted → Row × ℕ → Outcome Cell
  at w x = item_value v rows w x

  -- the values that are left at the rows from a number on
  abbrev pub Left : ℕ → List ItemCells → Type 0
  Left i cells = map (values_in p (drop i rows)) cells ≡ map (λ w. map (at w) (drop i (told_apart rows))) wanted

  module _ (i : ℕ) (r : Row) (h : i < length rows) (here : r ≡ get_or rows i r) (cells lent : List ItemCells) (same : lent ≡ cells) (left : Left i cells) where
    abbrev rest : List Row
    rest = drop (i + 1) rows

    abbrev behind : List (Row × ℕ)
    behind = drop (i + 1) (told_apart rows)

    parted : map (values_in p (r ∷ rest)) lent ≡ map (λ w. map (at w) (told_row rows i ∷ behind)) wanted
    parted =
        let long = told_long rows in
        let next : drop i rows ≡ r ∷ rest = drop_more rows i r h ∙ ap (λ (x : Row). x ∷ rest) (sym here) in
        let told : drop i (told_apart rows) ≡ told_row rows i ∷ behind = drop_more (told_apart rows) i ([], 0) (omega (arith, h, long)) in
        ap (map (values_in p (r ∷ rest))) same ∙ ap (λ (rs : List Row). map (values_in p rs) cells) (sym next) ∙ left ∙ ap (λ (ts : List (Row × ℕ)). map (λ w. map (at w) ts) wanted) told

    values : map (λ x. next_value p x r) lent ≡ map (λ w. at w (told_row rows i)) wanted
    values = values_at at (told_row rows i) behind p r rest lent wanted parted

    row_is : row_at (next_value p) lent r ≡ row_at at wanted (told_row rows i)
    row_is = row_same (next_value p) lent r at wanted (told_row rows i) values

    fault_is : row_fault (next_value p) lent r ≡ row_fault at wanted (told_row rows i)
    fault_is = row_fault_same (next_value p) lent r at wanted (told_row rows i) values

    pub next_made : unless (row_fault (next_value p) lent r) (row_at (next_value p) lent r ∷ []) ≡ one_row (row_fault at wanted) (row_at at wanted) (told_row rows i)
    next_made = λ j. unless (fault_is j) (row_is j ∷ [])

    pub next_fits : (columns : List Column) (kinds : List Kind) → column_kinds columns ≡ kinds → fits_kinds kinds (row_at at wanted (told_row rows i)) ≡ true → fits columns (row_at (next_value p) lent r) ≡ true
    next_fits columns kinds e fit = ap (fits columns) row_is ∙ ap (λ ks. fits_kinds ks (row_at at wanted (told_row rows i))) e ∙ fit

    pub next_left : (then : List ItemCells) → map (values_in p rest) then ≡ map (others_in p r rest) lent → Left (i + 1) then
    next_left then is = values_behind at (told_row rows i) behind p r rest lent wanted parted then is
