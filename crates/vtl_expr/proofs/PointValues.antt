-- The value at a point is that over the point's columns, with no aggregates.
use Rattle.std.proofs.Common.{◌≡◌, ℕ, List, ◌∷◌, refl, sym, ap, ◌∙◌}
use Rattle.vtl_cell.specs.Row.{Row, column_of}
use Rattle.vtl_decimal.specs.Settings.{Settings}
use Rattle.vtl_cell.specs.declared.cell.Cell.{Cell}
use Rattle.vtl_tree.specs.CompExp.{CompExp, CompExps, aggregate, call, column, comp_exp, const, no_comp_exps}
use Rattle.vtl_tree.specs.Value.{called, value, values}
use Rattle.vtl_tree.specs.View.{comp_exps_of}
use Rattle.vtl_meaning.specs.GroupExpressions.{value_over, values_over}
use Rattle.vtl_expr.specs.Prepared.{SameValue, SameValues, no_aggregate}

abbrev cells : Row → ℕ → List ℕ → Cell
cells row place name = column_of place row

mutual
  pub at_point : (p : Settings) (row : Row) (e : CompExp) → value_over p (cells row) no_aggregate e ≡ value p e row
  at_point p row (column place name kind) = refl
  at_point p row (const v) = refl
  at_point p row (call o kind args) = ap (λ ms. called p kind ms o) (all_at_point p row args)
  at_point p row (aggregate a kind) = refl

  all_at_point : (p : Settings) (row : Row) (es : CompExps) → values_over p (cells row) no_aggregate es ≡ values p es row
  all_at_point p row no_comp_exps = refl
  all_at_point p row (comp_exp e es) = λ n. at_point p row e n ∷ all_at_point p row es n

-- an expression has the same value at each point, and so have several
pub same_at : (e f : CompExp) → SameValue e f → (p : Settings) (row : Row) → value p e row ≡ value p f row
same_at e f same p row = sym (at_point p row e) ∙ same p (cells row) no_aggregate ∙ at_point p row f

pub all_same_at : (es fs : List CompExp) → SameValues es fs → (p : Settings) (row : Row) → values p (comp_exps_of es) row ≡ values p (comp_exps_of fs) row
all_same_at es fs same p row = sym (all_at_point p row (comp_exps_of es)) ∙ same p (cells row) no_aggregate ∙ all_at_point p row (comp_exps_of fs)
