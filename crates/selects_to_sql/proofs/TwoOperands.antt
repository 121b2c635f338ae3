-- An operator on two data sets is a select over a join of their tables.
use Rattle.std.proofs.Common.{◌≡◌, Bool, true, false, cond, List, [], ◌∷◌, ◌++◌, None, Ok, refl}
use Rattle.vtl_lists.proofs.Tests.{or_second}
use Rattle.vtl_cell.specs.Row.{Row}
use Rattle.vtl_decimal.specs.Settings.{Settings}
use Rattle.vtl_cell.specs.declared.operator.ScalarOp.{ScalarOp}
use Rattle.vtl_tree.specs.CompExp.{CompExp}
use Rattle.vtl_tree.specs.DataSet.{IsDataSet}
use Rattle.vtl_tree.specs.Structure.{columns_of}
use Rattle.vtl_tree.specs.declared.structure.Structure.{Structure}
use Rattle.vtl_tree.specs.Pairs.{contains}
use Rattle.vtl_tree.specs.Columns.{identifiers_of}
use Rattle.vtl_meaning.specs.Made.{AreFor, IsPaired}
use Rattle.vtl_meaning.specs.Operators.{pair_exps, pair_of}
use Rattle.vtl_meaning.specs.Points.{each_point, paired, with_points}
use Rattle.sql_tree.specs.Formed.{IsName}
use Rattle.sql_tree.specs.Trees.{Text}
use Rattle.sql_meaning.specs.Scripts.{Data}
use Rattle.selects_to_sql.specs.Writable.{AllCanBeWritten, HaveNames}
use Rattle.selects_to_sql.specs.Queries.{pair_query, pairs_select}
use Rattle.selects_to_sql.specs.Runs.{IsTable}
use Rattle.selects_to_sql.proofs.Exact.{IsExactly}
use Rattle.selects_to_sql.proofs.Expressions.{Translates}
use Rattle.selects_to_sql.proofs.Givens.{AreGiven}
use Rattle.selects_to_sql.proofs.Pairs.{pairs_give, points, rows_are}
use Rattle.selects_to_sql.proofs.Unions.{one_exactly}
use Rattle.selects_to_sql.proofs.Identifiers.{AreIdentifiersAt, contained_among, identifiers_there}

module _ (p : Settings) (law : Translates p) (before : Data) (x y : Text) (a b s : Structure) (d e : List Row) (there : IsTable before x a d) (here : IsTable before y b e) (named : IsName x × IsName y) (na : HaveNames (columns_of a)) (nb : HaveNames (columns_of b)) (set : IsDataSet a d) (other : IsDataSet b e) (ours : AreIdentifiersAt (columns_of a) (identifiers_of b)) (es : List CompExp) (i : AreFor p (columns_of a ++ columns_of b) es (columns_of s)) (h : AllCanBeWritten es) where
  pub pairs_mean : AreGiven (columns_of s) → IsExactly p before (pairs_select p es a b s None x y ∷ []) s (each_point p es (paired (with_points a d) (with_points b e)))
  pairs_mean given =
      one_exactly p before s given (pairs_select p es a b s None x y) (each_point p es (paired (with_points a d) (with_points b e)))
      (pairs_give p law before x y a b s d e there here named na nb set other ours es i h given None tt (Ok (paired (with_points a d) (with_points b e))) (rows_are p law before x y a b s d e there here named na nb set other ours es i h) (points p law before x y a b s d e there here named na nb set other ours es i h))

pub pair_means : (p : Settings) → Translates p → (before : Data) (x y : Text) (o : ScalarOp) (a b s : Structure) (d e : List Row) → IsTable before x a d → IsTable before y b e → IsName x × IsName y → HaveNames (columns_of a) → HaveNames (columns_of b) → IsDataSet a d → IsDataSet b e → IsPaired p o a b s → AllCanBeWritten (pair_exps o a b s) → AreGiven (columns_of s)
    → IsExactly p before (pair_query p o a b s x y) s (pair_of p o (with_points a d) (with_points b e) s)
pair_means p law before x y o a b s d e t u named na nb h i j w given = go (contains a b) refl j.columns
  where
    go : (z : Bool) → contains a b ≡ z → AreFor p (cond z (columns_of a ++ columns_of b) (columns_of b ++ columns_of a)) (pair_exps o a b s) (columns_of s)
        → IsExactly p before (cond z (pairs_select p (pair_exps o a b s) a b s None x y ∷ []) (pairs_select p (pair_exps o a b s) b a s None y x ∷ [])) s (each_point p (pair_exps o a b s) (cond z (paired (with_points a d) (with_points b e)) (paired (with_points b e) (with_points a d))))
    go true q f = pairs_mean p law before x y a b s d e t u named na nb h i (identifiers_there a h.well_formed (identifiers_of b) (contained_among a b q)) (pair_exps o a b s) f w given
    go false q f = pairs_mean p law before y x b a s e d u t (named.1, named.0) nb na i h (identifiers_there b i.well_formed (identifiers_of a) (contained_among b a (or_second (contains a b) (contains b a) j.contained q))) (pair_exps o a b s) f w given
