-- Rows of FROM that are those of the table of the only source.
use Rattle.std.proofs.Common.{◌≡◌, ℕ, ◌<◌, ◌≤◌, List, [], ◌∷◌, length, get_or, map, Some, refl, sym, ap, ◌∙◌, arith, append-nil}
use Rattle.std.specs.Prelude.{slice_get}
use Rattle.std.proofs.lemmas.List.{length-map}
use Rattle.std.proofs.lemmas.List.FromFn.{fill_by_all}
use Rattle.vtl_rows.specs.Named.{NamedTables}
use Rattle.vtl_rows.specs.Tables.{Listed, column_kinds}
use Rattle.vtl_rows.specs.declared.column.Column.{Column}
use Rattle.sql_check_parts.specs.Scopes.{row_of}
use Rattle.sql_meaning.specs.Tables.{column_entry}
use Rattle.sql_from.specs.Joins.{singles}
use Rattle.sql_from.specs.Rows.{combined}
use Rattle.sql_from.specs.Sources.{IsWide, parts_of, scope_held}
use Rattle.sql_from.proofs.Means.{single_rows}

-- ---- the only source
pub only_part : (ss : NamedTables) (t : Listed) → length ss ≡ 1 → slice_get (parts_of ss) 0 ≡ Some t → parts_of ss ≡ t ∷ []
only_part [] t one got = absurd (omega (arith, one))
only_part (s ∷ []) t one got = let same : s.1 ≡ t = cc in ap (λ (u : Listed). u ∷ []) same
only_part (s ∷ z ∷ ss) t one got = absurd (omega (arith, one))

pub one_source : (ss : NamedTables) (t : Listed) → parts_of ss ≡ t ∷ [] → length ss ≡ 1
one_source ss t e = sym (length-map ss (λ s. s.1)) ∙ ap length e

pub kinds_alone : (ss : NamedTables) (t : Listed) → parts_of ss ≡ t ∷ [] → column_kinds t.columns ≡ row_of (scope_held ss)
kinds_alone [] t e = cc
kinds_alone (s ∷ []) t e =
    let same : t ≡ s.1 = cc in
    let kinds = map (λ x. x.1) (map column_entry s.1.columns) in
    ap (λ (u : Listed). column_kinds u.columns) same ∙ sym (map-map s.1.columns) ∙ sym (append-nil kinds)
  where
    map-map : (xs : List Column) → map (λ x. x.1) (map column_entry xs) ≡ column_kinds xs
    map-map [] = refl
    map-map (x ∷ xs) = ap (λ l. x.kind ∷ l) (map-map xs)
kinds_alone (s ∷ z ∷ ss) t e = cc

-- ---- its rows
pub all_singles : (tuples : List (List ℕ)) (n i : ℕ) → length tuples ≡ n → n ≤ i → ((k : ℕ) → k < i → get_or tuples k [] ≡ k ∷ []) → tuples ≡ singles n
all_singles tuples n i many past each = fill_by_all (λ k. k ∷ []) tuples n [] many (λ k h. each k (omega (arith, h, past)))

pub rows_alone : (parts : List Listed) (t : Listed) (tuples : List (List ℕ)) (n : ℕ) → parts ≡ t ∷ [] → IsWide t → n ≡ length t.rows → tuples ≡ singles n → t.rows ≡ map (combined parts) tuples
rows_alone parts t tuples n only wide many is =
    sym (single_rows t wide) ∙ ap (λ m. map (combined (t ∷ [])) (singles m)) (sym many)
    ∙ ap (map (combined (t ∷ []))) (sym is) ∙ ap (λ ts. map (combined ts) tuples) (sym only)
