-- No aggregate stands in an expression that fits at rows.
use Rattle.std.proofs.Common.{◌≡◌, false, ◌||◌, None, refl}
use Rattle.std.proofs.lemmas.Bool.{or_from}
use Rattle.sql_tree.specs.Trees as tree
use Rattle.sql_tree.specs.Trees.{Branches, Exp, Exps}
use Rattle.sql_check_laws.specs.Fits.{AllFit, BranchesFit, Fits}
use Rattle.sql_check_parts.specs.Expressions.{Site, branches_aggregate, has_aggregate, some_aggregate}

mutual
  pub no_aggregate : (at : Site) (e : Exp) → Fits at None e → has_aggregate e ≡ false
  no_aggregate at (tree.binary a o b) h = or_from (has_aggregate a) (has_aggregate b) (no_aggregate at a h.0) (no_aggregate at b h.1)
  no_aggregate at (tree.unary o e) h = no_aggregate at e h.0
  no_aggregate at (tree.is_null e negated) h = no_aggregate at e h
  no_aggregate at (tree.in_list e negated ls) h = no_aggregate at e h.0
  no_aggregate at (tree.constant x) h = refl
  no_aggregate at (tree.column x) h = refl
  no_aggregate at (tree.call f es) h = none_aggregates at es h.0
  no_aggregate at tree.count_all h = cc
  no_aggregate at (tree.aggregate f e) h = let group = h.2 in cc
  no_aggregate at (tree.case_when bs e) h = or_from (branches_aggregate bs) (has_aggregate e) (no_branch at bs h.0) (no_aggregate at e h.1)
  no_aggregate at (tree.exists s es) h = refl

  none_aggregates : (at : Site) (es : Exps) → AllFit at None es → some_aggregate es ≡ false
  none_aggregates at tree.no_exps h = refl
  none_aggregates at (tree.exp e es) h = or_from (has_aggregate e) (some_aggregate es) (no_aggregate at e h.0) (none_aggregates at es h.1)

  no_branch : (at : Site) (bs : Branches) → BranchesFit at None bs → branches_aggregate bs ≡ false
  no_branch at tree.no_branches h = refl
  no_branch at (tree.branch x v bs) h = or_from (has_aggregate x || has_aggregate v) (branches_aggregate bs) (or_from (has_aggregate x) (has_aggregate v) (no_aggregate at x h.0) (no_aggregate at v h.2)) (no_branch at bs h.3)
