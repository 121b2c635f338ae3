-- How null meets null, and what is given of no rows.
use Rattle.std.proofs.Common.{◌≡◌, true, false, Bool, cond, ◌||◌, List, [], ◌∷◌, map, length, None, Ok, Err, refl, sym, ap, ◌∙◌, ◌⊎◌, inl, inr, ◌≤◌, subst, arith}
use Rattle.std.specs.Prelude.{zip}
use Rattle.std.specs.List.{list_any}
use Rattle.vtl_cell.specs.Conversion.{as_kind}
use Rattle.vtl_cell.specs.Kinds.{is_null}
use Rattle.vtl_cell.specs.Outcome.{Outcome, after, faults_by, join}
use Rattle.vtl_lists.specs.Apart.{all_apart}
use Rattle.vtl_cell.specs.Outcomes.{is_true}
use Rattle.vtl_cell.specs.Row.{Row, same_key}
use Rattle.vtl_cell.specs.declared.cell.Cell.{Cell}
use Rattle.vtl_cell.specs.declared.kind.Kind.{Kind}
use Rattle.vtl_cell.specs.declared.operator.ScalarOp.TheVariants as op
use Rattle.vtl_scalar.proofs.NullLemmas.{null_gives_null}
use Rattle.sql_tree.specs.Trees as tree
use Rattle.sql_tree.specs.Trees.{SelectTree}
use Rattle.sql_tree.specs.declared.parts.Column.{Column}
use Rattle.sql_check_parts.specs.Kinds.{kind_in}
use Rattle.sql_check_parts.specs.Queries.{is_grouped, scope_of}
use Rattle.sql_meaning.specs.From.{holds, source_rows}
use Rattle.sql_meaning.specs.Inputs.{IsInputData, key_width}
use Rattle.sql_tree.specs.declared.statements.SqlInput.{SqlInput}
use Rattle.sql_meaning.specs.Groups.{rows_with}
use Rattle.sql_meaning.specs.Outcomes.{row_at, row_fault}
use Rattle.sql_meaning.specs.Selects.{Wanted, group_item, grouped_rows, plain_rows, second_phase, select_value}
use Rattle.sql_meaning.specs.Tables.{Base}
use Rattle.sql_meaning.specs.Values.{View, at_groups, at_rows, cell_at}
use Rattle.sql_meaning.proofs.OperatorKinds.{null_stays}
use Rattle.sql_meaning.proofs.SourceKinds.{unless_ok}

-- ---- null

either_null : (a b : Cell) → (is_null a ≡ true) ⊎ (is_null b ≡ true) → list_any is_null (a ∷ b ∷ []) ≡ true
either_null a b (inl e) = ap (λ t. t || (is_null b || false)) e
either_null a b (inr e) = go (is_null a) (is_null b) e
  where
    go : (s t : Bool) → t ≡ true → (s || (t || false)) ≡ true
    go true t h = refl
    go false true h = refl
    go false false h = h

-- an equality of columns of which one is null does not hold
pub null_meets_none : (v : View) (x y : Column) (r : Row) → (is_null (cell_at v r x) ≡ true) ⊎ (is_null (cell_at v r y) ≡ true) → holds v (tree.binary (tree.column x) op.Equal (tree.column y)) r ≡ false
null_meets_none v x y r h =
    let kind = kind_in v.scope (tree.binary (tree.column x) op.Equal (tree.column y)) in
    let cells = cell_at v r x ∷ cell_at v r y ∷ [] in
    ap (λ m. is_true (after m (as_kind v.base.settings kind))) (null_gives_null v.base.settings op.Equal cells refl (either_null (cell_at v r x) (cell_at v r y) h))
    ∙ ap is_true (null_stays v.base.settings kind)

-- ---- no rows

-- a select that is grouped without GROUP BY, and has no HAVING, has one row
one_row : (v : View) (items : List Wanted) (rows out : List Row) → grouped_rows v items [] None rows ≡ Ok out → length out ≡ 1
one_row v items rows out e =
    let w = at_groups v.base v.scope [] in
    ap length (sym (unless_ok (join None (faults_by (row_fault (group_item w (rows_with [] rows)) items) ([] ∷ []))) (map (row_at (group_item w (rows_with [] rows)) items) ([] ∷ [])) out e))

after_ok : {A B : Type 0} (m : Outcome A) (f : A → Outcome B) (out : B) → after m f ≡ Ok out → (x : A) × (f x ≡ Ok out)
after_ok (Ok x) f out e = (x, e)
after_ok (Err f) g out e = cc

pub one_row_of_all : (b : Base) (kinds : List Kind) (s : SelectTree) (out : List Row) → is_grouped s ≡ true → s.group ≡ [] → s.having ≡ None → select_value b kinds s ≡ Ok out → length out ≡ 1
one_row_of_all b kinds s out grouped group having e =
    let v = at_rows b (scope_of b.tables s) in
    let items = zip s.items kinds in
    let got = after_ok (source_rows b s) (second_phase v items s) out e in
    one_row v items got.0 out (sym (ap (λ g. cond g (grouped_rows v items s.group s.having got.0) (plain_rows v items got.0)) grouped ∙ (λ i. grouped_rows v items (group i) (having i) got.0)) ∙ got.1)

-- without a key there is one key for all
pub one_without_key : (s : SqlInput) (rows : List Row) → key_width s ≡ 0 → IsInputData s rows → length rows ≤ 1
one_without_key s rows e h = few rows (subst (λ n. all_apart (same_key n) rows ≡ true) e h.distinct)
  where
    few : (rs : List Row) → all_apart (same_key 0) rs ≡ true → length rs ≤ 1
    few [] a = omega arith
    few (x ∷ []) a = omega arith
    few (x ∷ y ∷ rs) a = cc
