-- The rows of a join: the pairs at which ON is true, and the rows that meet none.
use Rattle.std.specs.Prelude.{ℕ, Bool, false, not, ◌&&◌, List, ◌++◌, map, filter, length}
use Rattle.std.specs.List.{list_all, list_any}
use Rattle.vtl_cell.specs.Kinds.{is_null}
use Rattle.vtl_cell.specs.Order.{same_cell}
use Rattle.vtl_cell.specs.Row.{Row}
use Rattle.vtl_cell.specs.ScalarComparison.{as_beside}
use Rattle.vtl_cell.specs.declared.cell.Cell.{Cell}
use Rattle.vtl_cell.specs.declared.operator.ScalarOp.TheVariants as op
use Rattle.vtl_decimal.specs.Settings.{Settings}
use Rattle.sql_tree.specs.Trees as tree
use Rattle.sql_tree.specs.Trees.{Exp}
use Rattle.sql_tree.specs.declared.parts.Source.{Source}
use Rattle.sql_tree.specs.declared.word_groups.JoinKind.{JoinKind}
use Rattle.sql_tree.specs.declared.word_groups.JoinKind.TheVariants as joining
use Rattle.sql_check_parts.specs.Scopes.{row_of, with_source}
use Rattle.sql_meaning.specs.From.{Joined, nulls, pairs}
use Rattle.sql_meaning.specs.Tables.{Base, columns_given, rows_from}
use Rattle.sql_meaning.specs.Values.{View, at_rows, cell_at}

-- ---- the rows of a join, by a test of pairs

-- each row on the left beside each on the right, where the pair passes
abbrev pub matched : (Row → Bool) → (left right : List Row) → List Row
matched test left right = filter test (pairs left right)

-- the rows on the left that pass with none on the right, beside as many nulls as the right has columns
abbrev pub left_alone : (Row → Bool) → (columns : ℕ) → (left right : List Row) → List Row
left_alone test columns left right = map (λ x. x ++ nulls columns) (filter (λ x. not (list_any (λ y. test (x ++ y)) right)) left)

-- the rows on the right that pass with none on the left, behind as many nulls as the left has columns
abbrev pub right_alone : (Row → Bool) → (columns : ℕ) → (left right : List Row) → List Row
right_alone test columns left right = map (λ y. nulls columns ++ y) (filter (λ y. not (list_any (λ x. test (x ++ y)) left)) right)

-- INNER has the pairs that pass, LEFT also the rows on the left that meet none, and FULL those on both sides
abbrev pub rows_joined : JoinKind → (Row → Bool) → (left_columns right_columns : ℕ) → (left right : List Row) → List Row
rows_joined joining.Inner test n m left right = matched test left right
rows_joined joining.Left test n m left right = matched test left right ++ left_alone test m left right
rows_joined joining.Full test n m left right = matched test left right ++ (left_alone test m left right ++ right_alone test n left right)

-- ---- in FROM

-- what expressions see at the pairs of a join
abbrev pub view_of : Base → Joined → Source → View
view_of b f s = at_rows b (with_source b.tables f.scope s)

-- the rows so far, joined with those of a source
abbrev pub joined_with : Base → Joined → JoinKind → Source → (Row → Bool) → List Row
joined_with b f kind s test = rows_joined kind test (length (row_of f.scope)) (length (columns_given b.tables s)) f.rows (rows_from b s)

-- ---- equalities

-- two cells are equal: neither is null, and they are the same, an integer beside a number taken as the number that equals it
abbrev pub are_equal : Settings → Cell → Cell → Bool
are_equal p a b = not (is_null a) && (not (is_null b) && same_cell (as_beside p a b) (as_beside p b a))

-- the cells of the two columns of an equality are equal
abbrev pub has_equal_cells : View → Row → Exp → Bool
has_equal_cells v r (tree.binary (tree.column x) op.Equal (tree.column y)) = are_equal v.base.settings (cell_at v r x) (cell_at v r y)
has_equal_cells v r e = false

-- and so at each of several equalities
abbrev pub have_equal_cells : View → List Exp → Row → Bool
have_equal_cells v es r = list_all (has_equal_cells v r) es
