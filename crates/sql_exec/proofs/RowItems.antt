-- Items with places, beside those with names.
use Rattle.std.proofs.Common.{◌≡◌, ℕ, zero, suc, ◌+◌, ◌<◌, List, [], ◌∷◌, ◌++◌, map, length, get_or, take, Ok, refl, sym, ap, ◌∙◌, add-one, arith}
use Rattle.std.specs.Prelude.{zip}
use Rattle.std.proofs.lemmas.List.{get_or-map, map-append}
use Rattle.vtl_cell.specs.Conversion.{as_kind}
use Rattle.vtl_cell.specs.Outcome.{Outcome, after}
use Rattle.vtl_cell.specs.Row.{Row}
use Rattle.vtl_decimal.specs.Settings.{Settings}
use Rattle.vtl_cell.specs.declared.cell.Cell.{Cell}
use Rattle.vtl_cell.specs.declared.cell.Cell.TheVariants as c
use Rattle.vtl_cell.specs.declared.kind.Kind.{Kind}
use Rattle.sql_tree.specs.Trees as tree
use Rattle.sql_tree.specs.Trees.{Exp}
use Rattle.sql_tree.specs.View.{item_tree, value_tree}
use Rattle.sql_tree.specs.declared.statements.Item.{Item}
use Rattle.sql_tree.specs.declared.windows.Window.{Window}
use Rattle.sql_from.specs.Held.{rows_held, tables_held}
use Rattle.sql_meaning.specs.Selects.{Wanted, item_value}
use Rattle.sql_from.specs.Sources.{Sourced, scope_held}
use Rattle.sql_from.specs.Standing.{sight_of}
use Rattle.sql_meaning.specs.Values.{View, value}
use Rattle.sql_meaning.specs.Windows.{told_apart, window_value}
use Rattle.sql_eval.specs.Resolves.{Resolves, sight}
use Rattle.sql_eval.specs.declared.kinded.Kinded.{Kinded}
use Rattle.sql_eval.specs.declared.names.Level.TheVariants as levels
use Rattle.sql_exec.specs.Items.{HasValuesOf, HaveValuesOf, made_at_row, numbered_row, told_row}
use Rattle.sql_exec.specs.declared.items.ItemValues.{ItemValues}
use Rattle.sql_exec.specs.declared.items.ItemValues.TheVariants as values
use Rattle.sql_exec.specs.declared.items.RowItem.{RowItem}
use Rattle.sql_exec.proofs.Steps.{zipped_more}

-- ---- rows that are told apart

pub told_long : (rows : List Row) → length (told_apart rows) ≡ length rows
told_long [] = refl
told_long (r ∷ rows) = ap suc (told_long rows)

pub told_first : (rows : List Row) (i : ℕ) → i < length rows → (told_row rows i).0 ≡ get_or rows i []
told_first [] i h = absurd (omega arith)
told_first (r ∷ rows) zero h = refl
told_first (r ∷ rows) (suc i) h = told_first rows i (omega arith)

-- ---- the values of one item

pub expression_has : (p : Settings) (s : Sourced) (rows : List Row) (e : Exp) (x : Kinded) → Resolves (sight p (tables_held s.held) (scope_held s.sources) levels.Rows) e x → HasValuesOf (sight_of p s) rows (tree.expression e) (values.Expression x.exp)
expression_has p s rows e x is i h = is.value_is (rows_held s.held) (get_or rows i []) [] ∙ ap (λ r. value (sight_of p s) e r []) (sym (told_first rows i h))

pub cells_have : (v : View) (rows : List Row) (w : Window) (cells : List (Outcome Cell)) → cells ≡ map (window_value v w rows) (told_apart rows) → (i : ℕ) → i < length rows → get_or cells i (Ok c.Null) ≡ window_value v w rows (told_row rows i)
cells_have v rows w cells e i h =
    ap (λ (l : List (Outcome Cell)). get_or l i (Ok c.Null)) e ∙ get_or-map (window_value v w rows) (told_apart rows) i ([], 0) (Ok c.Null) (let long = told_long rows in omega (arith, long))

-- ---- those that stand for the first items, with one more

pub items_more : (v : View) (rows : List Row) (items : List Item) (kinds : List Kind) (i : ℕ) (item : Item) (kind : Kind) (x : ItemValues) (made made' : List RowItem) → i < length items → i < length kinds → item ≡ get_or items i item → kind ≡ get_or kinds i kind
    → HaveValuesOf v rows (take i (zip (map item_tree items) kinds)) made → HasValuesOf v rows (value_tree item.value) x → made' ≡ made ++ record { values = x; kind = kind } ∷ [] → HaveValuesOf v rows (take (i + 1) (zip (map item_tree items) kinds)) made'
items_more v rows items kinds i item kind x made made' h l e g before is new n here =
    let now : RowItem = record { values = x; kind = kind } in
    let at : Wanted → Outcome Cell = λ w. item_value v rows w (told_row rows n) in
    let m : RowItem → Outcome Cell = λ y. made_at_row v.base.settings v.base.rows y (numbered_row rows n) in
    let first = take i (zip (map item_tree items) kinds) in
    let one : m now ≡ at (item_tree item, kind) = ap (λ o. after o (as_kind v.base.settings kind)) (is n here) in
    let all : take (i + 1) (zip (map item_tree items) kinds) ≡ first ++ (item_tree item, kind) ∷ [] = rw add-one (zipped_more item_tree items kinds i item kind h l e g) in
    ap (map m) new ∙ map-append m made (now ∷ []) ∙ ap (λ k. k ++ m now ∷ []) (before n here) ∙ ap (λ k. map at first ++ k ∷ []) one
    ∙ sym (map-append at first ((item_tree item, kind) ∷ [])) ∙ ap (map at) (sym all)
