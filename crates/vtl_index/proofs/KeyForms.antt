-- The columns of keys.
use Rattle.std.proofs.Common.{All, ◌≡◌, ℕ, ◌<◌, true, List, [], ◌∷◌, map, refl, sym, ap, ◌∙◌, get_or, ltb-true}
use Rattle.std.specs.List.{list_all}
use Rattle.std.proofs.lemmas.List.Elements.{All-map}
use Rattle.std.proofs.lemmas.List.Sums.{AllPass-from_list_all}
use Rattle.vtl_cell.specs.Row.{Row, column_of}
use Rattle.vtl_decimal.specs.Settings.{Settings}
use Rattle.vtl_rows.specs.Tables.{cells_at}
use Rattle.vtl_index.specs.RowKeys.{as_it_is, is_within, key_at, rising_by}
use Rattle.vtl_index.specs.Seekers.{columns_in}
use Rattle.vtl_index.specs.declared.row_keys.KeyColumn.{KeyColumn}

-- ---- cells that count as they are
plain_key : (p : Settings) (columns : List ℕ) (row : Row) → key_at p (map as_it_is columns) row ≡ cells_at columns row
plain_key p [] row = refl
plain_key p (i ∷ is) row = ap (λ l. column_of i row ∷ l) (plain_key p is row)

pub plain_keys : (p : Settings) (columns : List ℕ) → key_at p (map as_it_is columns) ≡ cells_at columns
plain_keys p columns = λ i row. plain_key p columns row i

-- ---- the columns of such a key
columns_back : (columns : List ℕ) → columns_in (map as_it_is columns) ≡ columns
columns_back [] = refl
columns_back (i ∷ is) = ap (λ l. i ∷ l) (columns_back is)

module _ (key : List KeyColumn) (columns : List ℕ) (plain : key ≡ map as_it_is columns) where
  pub columns_are : columns_in key ≡ columns
  columns_are = ap columns_in plain ∙ columns_back columns

  pub made_of_columns : key ≡ map as_it_is (columns_in key)
  made_of_columns = plain ∙ ap (map as_it_is) (sym columns_are)

-- ---- columns to sort by
pub rising_within : (width : ℕ) (columns : List KeyColumn) → list_all (is_within width) columns ≡ true → All (λ k. k.column < width) (map rising_by columns)
rising_within width columns within =
    All-map (λ k. k.column < width) rising_by columns (λ k d h. ltb-true (get_or columns k d).column width (AllPass-from_list_all (is_within width) columns within k d h))
