-- The columns of a query, select by select.
use Rattle.std.proofs.Common.{◌≡◌, ℕ, ◌+◌, ◌<◌, List, [], ◌∷◌, ◌++◌, map, length, get_or, take, drop, sym, ap, ◌∙◌, add-one}
use Rattle.std.specs.Prelude.{zip}
use Rattle.std.proofs.lemmas.List.{drop_more, map-append}
use Rattle.vtl_cell.specs.declared.kind.Kind.{Kind}
use Rattle.vtl_rows.specs.declared.column.Column.{Column}
use Rattle.sql_tree.specs.Trees.{Text}
use Rattle.sql_tree.specs.declared.parts.Source.{Source}
use Rattle.sql_tree.specs.declared.statements.Item.{Item}
use Rattle.sql_check_parts.specs.Scopes.{with_source}
use Rattle.sql_check_laws.specs.Selects.{IsSourceTyped}
use Rattle.sql_meaning.specs.Tables.{column_entry}
use Rattle.sql_from.specs.Held.{tables_held}
use Rattle.sql_from.specs.Sources.{Sourced, scope_held, table_given}
use Rattle.sql_from.proofs.Standing.{scope_more}
use Rattle.sql_exec.proofs.Steps.{zipped_more}

-- ---- sources

-- the scope of one source more
pub scope_with : (before next : Sourced) (source : Source) → IsSourceTyped (tables_held before.held) (scope_held before.sources) source → next.sources ≡ before.sources ++ (source.alias, table_given before.held source) ∷ []
    → scope_held next.sources ≡ with_source (tables_held before.held) (scope_held before.sources) source
scope_with before next source typed e = ap scope_held e ∙ scope_more before source typed

pub drop_read : {X : Type 0} (xs : List X) (i : ℕ) (x : X) → i < length xs → x ≡ get_or xs i x → drop i xs ≡ x ∷ drop (i + 1) xs
drop_read xs i x h e = drop_more xs i x h ∙ ap (λ y. y ∷ drop (i + 1) xs) (sym e)

-- ---- names and kinds

pub columns_more : (items : List Item) (kinds : List Kind) (i : ℕ) (item : Item) (name : Text) (kind : Kind) (columns columns' : List Column) → i < length items → i < length kinds → item ≡ get_or items i item → kind ≡ get_or kinds i kind → name ≡ item.name
    → map column_entry columns ≡ take i (zip (map (λ (x : Item). x.name) items) kinds) → columns' ≡ columns ++ record { name = name; kind = kind } ∷ [] → map column_entry columns' ≡ take (i + 1) (zip (map (λ (x : Item). x.name) items) kinds)
columns_more items kinds i item name kind columns columns' h l e g named before new =
    let now : Column = record { name = name; kind = kind } in
    ap (map column_entry) new ∙ map-append column_entry columns (now ∷ [])
    ∙ (λ j. before j ++ (named j, kind) ∷ [])
    ∙ (let all : take (i + 1) (zip (map (λ (x : Item). x.name) items) kinds) ≡ take i (zip (map (λ (x : Item). x.name) items) kinds) ++ (item.name, kind) ∷ [] = rw add-one (zipped_more (λ (x : Item). x.name) items kinds i item kind h l e g) in sym all)
