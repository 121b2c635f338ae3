-- The value of an expression, at a row and at a group of rows.
use Rattle.std.specs.Prelude.{ℕ, Bool, true, false, ◌&&◌, List, [], ◌∷◌, map, length, Ok, unwrap_or, if◌then◌else◌}
use Rattle.std.specs.List.{list_all, list_any, position_or_len}
use Rattle.vtl_cell.specs.Conversion.{as_kind}
use Rattle.vtl_cell.specs.Groups.{count_of_points, group_value}
use Rattle.vtl_cell.specs.Outcome.{Outcome, after}
use Rattle.vtl_cell.specs.Outcomes.{branch, first_chosen, is_true}
use Rattle.vtl_cell.specs.Row.{Row, column_of}
use Rattle.vtl_cell.specs.Scalars.{scalar_of}
use Rattle.vtl_decimal.specs.Settings.{Settings}
use Rattle.vtl_text.specs.Texts.{same_text}
use Rattle.vtl_cell.specs.declared.cell.Cell.{Cell}
use Rattle.vtl_cell.specs.declared.cell.Cell.TheVariants as c
use Rattle.vtl_cell.specs.declared.kind.Kind.TheVariants as k
use Rattle.vtl_cell.specs.declared.operator.ScalarOp.{ScalarOp}
use Rattle.vtl_cell.specs.declared.operator.ScalarOp.TheVariants as op
use Rattle.sql_tree.specs.Trees as tree
use Rattle.sql_tree.specs.Trees.{Branches, Exp, Exps}
use Rattle.sql_tree.specs.declared.parts.Column.{Column}
use Rattle.sql_tree.specs.declared.parts.Constant.{Constant}
use Rattle.sql_tree.specs.declared.parts.Equality.{Equality}
use Rattle.sql_tree.specs.declared.parts.Literal.{Literal}
use Rattle.sql_tree.specs.declared.parts.Source.{Source}
use Rattle.sql_check_parts.specs.Exists.{Inner, inner_of, is_inner}
use Rattle.sql_check_parts.specs.Kinds.{kind_in}
use Rattle.sql_check_parts.specs.Literals.{constant_value, literal_value}
use Rattle.sql_check_parts.specs.Scopes.{Scope, found, or_nothing, placed, row_of}
use Rattle.sql_meaning.specs.Outcomes.{all_values, operated}
use Rattle.sql_meaning.specs.Tables.{Base, rows_from}

-- ---- places

-- the place of a column in a row of FROM; one that no source has, which no typed expression names, is past the last cell
abbrev pub place_in : Scope → Column → ℕ
place_in scope x = unwrap_or (found (placed scope) x) (length (row_of scope))

abbrev pub same_column : Column → Column → Bool
same_column x y = same_text x.source y.source && same_text x.name y.name

-- What expressions see: the sources with the kinds of their columns, and at which place a column's cell stands: in a row of FROM, or
-- among the cells of the columns of GROUP BY where a group stands in its place.
pub record View : Type 0 where
  pub base : Base
  pub scope : Scope
  pub place : Column → ℕ

abbrev pub at_rows : Base → Scope → View
at_rows b scope = record { base = b; scope = scope; place = place_in scope }

abbrev pub at_groups : Base → Scope → List Column → View
at_groups b scope group = record { base = b; scope = scope; place = λ x. position_or_len (same_column x) group }

abbrev pub cell_at : View → Row → Column → Cell
cell_at v r x = column_of (v.place x) r

-- ---- constants

-- a typed script has no constant and no literal without a value
abbrev pub constant_cell : Settings → Constant → Cell
constant_cell p x = unwrap_or (constant_value p x) c.Null

abbrev pub literal_cell : Settings → Literal → Cell
literal_cell p x = unwrap_or (literal_value p x) c.Null

-- ---- EXISTS

-- the inner source alone, whose row is a row of FROM of it
abbrev pub inner_scope : Inner → Scope
inner_scope i = (i.alias, or_nothing i.columns) ∷ []

-- a side of an equality: a cell of the inner row where the inner source is named, else of the outer one
abbrev pub side_cell : View → Inner → Row → Row → Column → Cell
side_cell v i outer inner x = if is_inner i x then column_of (place_in (inner_scope i) x) inner else cell_at v outer x

-- an equality with null is not true
abbrev pub is_tied : View → Inner → Row → Row → Equality → Bool
is_tied v i outer inner e = is_true (scalar_of v.base.settings op.Equal (side_cell v i outer inner e.left ∷ side_cell v i outer inner e.right ∷ []))

-- some row of the inner table makes every equality true
abbrev pub is_there : View → Source → List Equality → Row → Bool
is_there v s es outer = list_any (λ inner. list_all (is_tied v (inner_of v.base.tables s) outer inner) es) (rows_from v.base s)

-- ---- operators

abbrev pub set_operator : Bool → ScalarOp
set_operator true = op.NotIn
set_operator false = op.In

-- IS NULL, or its contrary
abbrev pub null_test : Settings → Bool → Outcome Cell → Outcome Cell
null_test p false m = operated p k.Bool (m ∷ []) op.IsNull
null_test p true m = operated p k.Bool (operated p k.Bool (m ∷ []) op.IsNull ∷ []) op.Not

-- ---- expressions

-- The value at a row; and at a group, where the row holds the cells of the columns of GROUP BY, and aggregates are of the group's
-- rows. All operands are evaluated, and the leftmost fault is the value, but for CASE.
abbrev mutual
  pub value : View → Exp → Row → List Row → Outcome Cell
  value v (tree.binary a o b) r g = operated v.base.settings (kind_in v.scope (tree.binary a o b)) (value v a r g ∷ value v b r g ∷ []) o
  value v (tree.unary o e) r g = operated v.base.settings (kind_in v.scope (tree.unary o e)) (value v e r g ∷ []) o
  value v (tree.is_null e negated) r g = null_test v.base.settings negated (value v e r g)
  value v (tree.in_list e negated ls) r g = operated v.base.settings k.Bool (value v e r g ∷ map (λ l. Ok (literal_cell v.base.settings l)) ls) (set_operator negated)
  value v (tree.constant x) r g = Ok (constant_cell v.base.settings x)
  value v (tree.column x) r g = Ok (cell_at v r x)
  value v (tree.call f es) r g = operated v.base.settings (kind_in v.scope (tree.call f es)) (values v es r g) f
  value v tree.count_all r g = count_of_points v.base.settings g
  -- its operand is evaluated on each row of the group
  value v (tree.aggregate f e) r g = after (all_values (λ q. value (at_rows v.base v.scope) e q []) g) (group_value v.base.settings f)
  value v (tree.case_when bs e) r g = after (chosen v bs r g (value v e r g)) (as_kind v.base.settings (kind_in v.scope (tree.case_when bs e)))
  value v (tree.exists s es) r g = Ok (c.Bool (is_there v s es r))

  pub values : View → Exps → Row → List Row → List (Outcome Cell)
  values v tree.no_exps r g = []
  values v (tree.exp e es) r g = value v e r g ∷ values v es r g

  -- conditions are evaluated in order up to the first that is true, and then its branch alone, or the last one
  pub chosen : View → Branches → Row → List Row → Outcome Cell → Outcome Cell
  chosen v tree.no_branches r g last = last
  chosen v (tree.branch x w bs) r g last = after (value v x r g) (λ t. branch (first_chosen t) (value v w r g) (chosen v bs r g last))
