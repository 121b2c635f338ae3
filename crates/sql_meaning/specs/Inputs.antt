-- What an INPUT asks of its rows: the columns of its KEY are identifiers.
use Rattle.std.specs.Prelude.{◌≡◌, ℕ, Bool, true, false, not, ◌&&◌, ◌||◌, List, [], ◌∷◌, filter, length, take}
use Rattle.std.specs.List.{AllByRecursion, list_any}
use Rattle.vtl_lists.specs.Apart.{all_apart}
use Rattle.vtl_cell.specs.Kinds.{is_null}
use Rattle.vtl_cell.specs.Row.{Row, same_key}
use Rattle.vtl_cell.specs.declared.cell.Cell.{Cell}
use Rattle.vtl_cell.specs.declared.cell.Cell.TheVariants as c
use Rattle.sql_tree.specs.Trees.{Text}
use Rattle.sql_tree.specs.declared.statements.InputColumn.{InputColumn}
use Rattle.sql_tree.specs.declared.statements.SqlInput.{SqlInput}
use Rattle.sql_check_parts.specs.Scopes.{is_among, is_empty}
use Rattle.sql_check_parts.specs.Statements.{in_table_order, input_columns, is_of_key}
use Rattle.sql_meaning.specs.Tables.{RowsFit, kinds_of}

-- the columns of the key stand first, and there are this many
abbrev pub key_width : SqlInput → ℕ
key_width s = length (filter (is_of_key s.key) s.columns)

-- no cell of the key is null
abbrev pub has_whole_key : ℕ → Row → Bool
has_whole_key n r = not (list_any is_null (take n r))

abbrev pub is_text_among : List Text → Cell → Bool
is_text_among codes (c.Text t) = is_among t codes
is_text_among codes v = false

-- a column with codes has one of them
abbrev pub is_coded : InputColumn → Cell → Bool
is_coded x v = is_empty x.codes || is_text_among x.codes v

abbrev pub are_coded : List InputColumn → Row → Bool
are_coded [] r = true
are_coded (x ∷ xs) [] = true
are_coded (x ∷ xs) (v ∷ vs) = is_coded x v && are_coded xs vs

-- the rows that are read for an INPUT: each fits its columns, none lacks a cell of the key, no two have one key, and codes are those listed
pub record IsInputData (s : SqlInput) (rows : List Row) : Type 0 where
  pub fit : RowsFit (kinds_of (input_columns s)) rows
  pub whole : AllByRecursion (λ r. has_whole_key (key_width s) r ≡ true) rows
  pub distinct : all_apart (same_key (key_width s)) rows ≡ true
  pub coded : AllByRecursion (λ r. are_coded (in_table_order s.key s.columns) r ≡ true) rows
