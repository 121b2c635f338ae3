-- Tables that are data sets.
use Rattle.std.proofs.Common.{◌≡◌, true, not, ◌&&◌, List, [], ◌∷◌, map, Result, Ok, Err, refl, sym, ap, ◌∙◌, subst}
use Rattle.std.specs.Prelude.{IfOk}
use Rattle.std.proofs.lemmas.Bool.{and_parts}
use Rattle.vtl_cell.specs.Kinds.{is_null, is_of}
use Rattle.vtl_cell.specs.Outcome.{Outcome}
use Rattle.vtl_cell.specs.Row.{Row}
use Rattle.vtl_rows.specs.Tables.{Tabled, fits, listed}
use Rattle.vtl_scalar.specs.Answers.{Answers, AnswersBy}
use Rattle.vtl_scalar.specs.declared.error.ScalarErr.{ScalarErr}
use Rattle.vtl_scalar.specs.declared.error.ScalarErr.TheVariants as err
use Rattle.vtl_tree.specs.DataSet.{IsDataSet, is_point}
use Rattle.vtl_tree.specs.Structure.{same_role}
use Rattle.vtl_tree.specs.declared.structure.Component.{Component}
use Rattle.vtl_tree.specs.declared.structure.Role.TheVariants as role
use Rattle.vtl_tree.specs.declared.structure.Structure.{Structure}
use Rattle.vtl_sets.specs.DataSets.{data_set, with_structure}
use Rattle.vtl_sets.specs.TableOf.{IsTableOf, column_for, table_columns}

-- what is answered is a table of the structure, where the points that are meant are those of a data set
pub answered_is_table : (s : Structure) (r : Result Tabled ScalarErr) (m : Outcome (List Row)) → IfOk r (λ t. t.columns ≡ table_columns s) → AnswersBy (λ t. t.rows) r m → ((out : List Row) → m ≡ Ok out → IsDataSet s out) → IfOk r (λ t. IsTableOf s (listed t))
answered_is_table s (Ok t) m c a kept = record { columns = c; points = kept t.rows a }
answered_is_table s (Err e) m c a kept = tt

pub data_set_answered : (s : Structure) (t : Tabled) (m : Outcome (List Row)) → AnswersBy (λ (x : Tabled). x.rows) (Ok t) m → with_structure s m ≡ Ok (data_set s t.rows)
data_set_answered s t m a = ap (with_structure s) a

pub error_answered : (s : Structure) (e : ScalarErr) (m : Outcome (List Row)) → AnswersBy (λ (x : Tabled). x.rows) (Err e) m → Answers (Err e) (with_structure s m)
error_answered s err.DivZero m a = ap (with_structure s) a
error_answered s err.Range m a = ap (with_structure s) a
error_answered s err.OutOfMemory m a = tt

-- a point fits the columns of its components
pub point_fits : (xs : List Component) (r : Row) → is_point xs r ≡ true → fits (map column_for xs) r ≡ true
point_fits [] [] e = refl
point_fits [] (v ∷ vs) e = cc
point_fits (x ∷ xs) [] e = cc
point_fits (x ∷ xs) (v ∷ vs) e =
    let parts = and_parts (is_of x.kind v && not (same_role x.role role.Identifier && is_null v)) (is_point xs vs) e in
    let front = and_parts (is_of x.kind v) (not (same_role x.role role.Identifier && is_null v)) parts.0 in
    ap (λ b. b && fits (map column_for xs) vs) front.0 ∙ point_fits xs vs parts.1

-- a table that is made for want of no memory
pub made_is_table : {E : Type 0} (s : Structure) (r : Result Tabled E) (points : List Row) → IfOk r (λ t. t.columns ≡ table_columns s) → IfOk r (λ t. t.rows ≡ points) → IsDataSet s points → IfOk r (λ t. IsTableOf s (listed t))
made_is_table s (Ok t) points c e is = record { columns = c; points = subst (IsDataSet s) (sym e) is }
made_is_table s (Err e) points c r is = tt
