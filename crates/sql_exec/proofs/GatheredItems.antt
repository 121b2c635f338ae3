-- Items that are columns, and the rows that are gathered for them.
use Rattle.std.proofs.Common.{◌≡◌, ℕ, ◌+◌, ◌<◌, List, [], ◌∷◌, ◌++◌, map, length, get_or, take, true, Option, None, Some, Ok, refl, sym, ap, ◌∙◌, subst, add-one, arith}
use Rattle.std.specs.Prelude.{IsSome, count_by, option_map, unwrap_or, zip}
use Rattle.std.proofs.lemmas.List.{map-append}
use Rattle.std.proofs.lemmas.List.Elements.{All-append, All-cons, All-nil}
use Rattle.vtl_cell.specs.Conversion.{as_kind}
use Rattle.vtl_cell.specs.Kinds.{is_of, same_kind}
use Rattle.vtl_cell.specs.Outcome.{Outcome, after, faults_by, join, unless}
use Rattle.vtl_cell.specs.Row.{Row, column_of, same_row}
use Rattle.vtl_decimal.specs.Settings.{Settings}
use Rattle.vtl_cell.specs.declared.cell.Cell.{Cell}
use Rattle.vtl_cell.specs.declared.cell.Cell.TheVariants as c
use Rattle.vtl_cell.specs.declared.kind.Kind.{Kind}
use Rattle.vtl_cell.specs.declared.kind.Kind.TheVariants as k
use Rattle.vtl_rows.specs.Tables.{cells_at}
use Rattle.sql_tree.specs.Trees as tree
use Rattle.sql_tree.specs.Trees.{ItemTree}
use Rattle.sql_tree.specs.View.{item_tree}
use Rattle.sql_tree.specs.declared.parts.Column.{Column}
use Rattle.sql_tree.specs.declared.statements.Item.{Item}
use Rattle.sql_check_parts.proofs.Places.{found_placed}
use Rattle.sql_meaning.specs.Outcomes.{row_at, row_fault}
use Rattle.sql_check_parts.specs.Scopes.{Scope, found, placed, row_of}
use Rattle.sql_meaning.specs.Selects.{Wanted, item_value, plain_rows, row_value}
use Rattle.sql_meaning.specs.Tables.{Base, RowsFit}
use Rattle.sql_meaning.specs.Values.{at_rows, place_in}
use Rattle.sql_meaning.specs.Windows.{told_apart}
use Rattle.sql_meaning.proofs.SourceKinds.{column_fits}
use Rattle.sql_exec.specs.Gathered.{AreColumnsAt, IsColumnAt}
use Rattle.sql_groups.proofs.KeyLemmas.{place_within}
use Rattle.sql_exec.proofs.PlainRows.{row_fault_same, row_same}
use Rattle.sql_exec.proofs.Steps.{zipped_more}

-- ---- kinds

same_kinds : (a b : Kind) → same_kind a b ≡ true → a ≡ b
same_kinds k.Null k.Null e = refl
same_kinds k.Bool k.Bool e = refl
same_kinds k.Int k.Int e = refl
same_kinds k.Num k.Num e = refl
same_kinds k.Text k.Text e = refl
same_kinds k.Day k.Day e = refl
same_kinds k.Period k.Period e = refl
same_kinds a b e = cc

-- a cell of a kind stays as it is
own_kind_stays : (p : Settings) (kind : Kind) (v : Cell) → is_of kind v ≡ true → as_kind p kind v ≡ Ok v
own_kind_stays p k.Null v h = refl
own_kind_stays p k.Bool v h = refl
own_kind_stays p k.Int v h = refl
own_kind_stays p k.Num c.Null h = refl
own_kind_stays p k.Num (c.Num x) h = refl
own_kind_stays p k.Num (c.Int x) h = cc
own_kind_stays p k.Num (c.Bool x) h = refl
own_kind_stays p k.Num (c.Text x) h = refl
own_kind_stays p k.Num (c.Day x) h = refl
own_kind_stays p k.Num (c.Period x) h = refl
own_kind_stays p k.Text v h = refl
own_kind_stays p k.Day v h = refl
own_kind_stays p k.Period v h = refl

-- ---- one item

kind_at : (scope : Scope) (x : Column) (kind : Kind) → found scope x ≡ Some kind → kind ≡ get_or (row_of scope) (place_in scope x) k.Null
kind_at scope x kind e = go (found (placed scope) x) (found_placed k.Null scope x)
  where
    go : (o : Option ℕ) → found scope x ≡ option_map (λ i. get_or (row_of scope) i k.Null) o → kind ≡ get_or (row_of scope) (unwrap_or o (length (row_of scope))) k.Null
    go None g = cc
    go (Some i) g = let same : Some kind ≡ Some (get_or (row_of scope) i k.Null) = sym e ∙ g in cc

pub column_is : (scope : Scope) (x : Column) (own kind : Kind) (item : ItemTree) (place : ℕ) → item.value ≡ tree.expression (tree.column x) → found scope x ≡ Some own → same_kind own kind ≡ true → place ≡ place_in scope x → IsColumnAt scope (item, kind) place
column_is scope x own kind item place is there same at =
    let e : found scope x ≡ Some kind = there ∙ ap (λ (z : Kind). Some z) (same_kinds own kind same) in
    record {
      within = subst (λ i. i < length (row_of scope)) (sym at) (place_within scope x (subst IsSome (sym e) refl));
      kind = kind_at scope x kind e ∙ ap (λ i. get_or (row_of scope) i k.Null) (sym at);
      value = λ b rows r fit.
          ap (λ w. after (row_value (at_rows b scope) rows w r) (as_kind b.settings kind)) is
          ∙ own_kind_stays b.settings kind (column_of (place_in scope x) r.0) (column_fits scope r.0 x kind fit e)
          ∙ ap (λ i. Ok (column_of i r.0)) (sym at);
    }

-- ---- those that stand for the first items, with one more

one_more : (scope : Scope) (items : List Wanted) (places : List ℕ) (w : Wanted) (place : ℕ) → AreColumnsAt scope items places → IsColumnAt scope w place → AreColumnsAt scope (items ++ w ∷ []) (places ++ place ∷ [])
one_more scope items places w place are is = record {
  within = All-append (λ i. i < length (row_of scope)) places (place ∷ []) are.within (All-cons (λ i. i < length (row_of scope)) place [] is.within (All-nil (λ i. i < length (row_of scope))));
  kinds = map-append (λ (x : Wanted). x.1) items (w ∷ []) ∙ (λ j. are.kinds j ++ is.kind j ∷ []) ∙ sym (map-append (λ i. get_or (row_of scope) i k.Null) places (place ∷ []));
  values = λ b rows r fit.
      map-append (λ (x : Wanted). item_value (at_rows b scope) rows x r) items (w ∷ [])
      ∙ (λ j. are.values b rows r fit j ++ is.value b rows r fit j ∷ [])
      ∙ sym (map-append (λ i. Ok (column_of i r.0)) places (place ∷ []));
}

pub places_none : (scope : Scope) → AreColumnsAt scope [] []
places_none scope = record { within = All-nil (λ i. i < length (row_of scope)); kinds = refl; values = λ b rows r fit. refl }

pub places_more : (scope : Scope) (items : List Item) (kinds : List Kind) (i : ℕ) (item : Item) (kind : Kind) (place : ℕ) (before now : List ℕ) → i < length items → i < length kinds → item ≡ get_or items i item → kind ≡ get_or kinds i kind
    → AreColumnsAt scope (take i (zip (map item_tree items) kinds)) before → IsColumnAt scope (item_tree item, kind) place → now ≡ before ++ place ∷ [] → AreColumnsAt scope (take (i + 1) (zip (map item_tree items) kinds)) now
places_more scope items kinds i item kind place before now h l e g are is new =
    let w : Wanted = (item_tree item, kind) in
    let first = take i (zip (map item_tree items) kinds) in
    let all : take (i + 1) (zip (map item_tree items) kinds) ≡ first ++ w ∷ [] = rw add-one (zipped_more item_tree items kinds i item kind h l e g) in
    subst (λ (ws : List Wanted). AreColumnsAt scope ws now) (sym all) (subst (λ (ps : List ℕ). AreColumnsAt scope (first ++ w ∷ []) ps) (sym new) (one_more scope first before w place are is))

-- ---- the kinds of all

pub second_of_zip : {X Y : Type 0} (xs : List X) (ys : List Y) → length ys ≡ length xs → map (λ e. e.1) (zip xs ys) ≡ ys
second_of_zip [] [] h = refl
second_of_zip [] (y ∷ ys) h = absurd (omega (arith, h))
second_of_zip (x ∷ xs) [] h = absurd (omega (arith, h))
second_of_zip (x ∷ xs) (y ∷ ys) h = ap (λ l. y ∷ l) (second_of_zip xs ys (omega (arith, h)))

-- ---- the rows

module _ (b : Base) (scope : Scope) (items : List Wanted) (places : List ℕ) (are : AreColumnsAt scope items places) where
  abbrev at : List Row → Wanted → Row × ℕ → Outcome Cell
  at all w x = item_value (at_rows b scope) all w x

  abbrev cell : ℕ → Row → Outcome Cell
  cell i r = Ok (column_of i r)

  no_fault : (r : Row) (is : List ℕ) → row_fault cell is r ≡ None
  no_fault r [] = refl
  no_fault r (i ∷ is) = no_fault r is

  rows_each : (all rows : List Row) → RowsFit (row_of scope) rows → map (row_at (at all) items) (told_apart rows) ≡ map (cells_at places) rows
  rows_each all [] fit = refl
  rows_each all (r ∷ rows) fit =
      let x : Row × ℕ = (r, count_by (same_row r) rows) in
      λ i. row_same (at all) items x cell places r (are.values b all x fit.0) i ∷ rows_each all rows fit.1 i

  faults_each : (all rows : List Row) → RowsFit (row_of scope) rows → faults_by (row_fault (at all) items) (told_apart rows) ≡ None
  faults_each all [] fit = refl
  faults_each all (r ∷ rows) fit =
      let x : Row × ℕ = (r, count_by (same_row r) rows) in
      let one : row_fault (at all) items x ≡ None = row_fault_same (at all) items x cell places r (are.values b all x fit.0) ∙ no_fault r places in
      λ i. join (one i) (faults_each all rows fit.1 i)

  -- a select of columns alone has no fault, and its rows are the cells at their places
  pub plain_gathered : (rows : List Row) → RowsFit (row_of scope) rows → plain_rows (at_rows b scope) items rows ≡ Ok (map (cells_at places) rows)
  plain_gathered rows fit = λ i. unless (faults_each rows rows fit i) (rows_each rows rows fit i)
