-- A select of columns shows points, and a condition over these points is tried at its rows.
use Rattle.std.proofs.Common.{◌≡◌, ℕ, zero, suc, Bool, true, false, cond, List, [], ◌∷◌, ◌++◌, map, Option, Some, None, refl, ap, ◌∙◌, arith}
use Rattle.std.specs.List.{AllByRecursion, filter}
use Rattle.vtl_decimal.specs.declared.number.Fault.{Fault}
use Rattle.vtl_decimal.specs.Settings.{Settings}
use Rattle.vtl_cell.specs.Outcome.{Outcome, after, fault_in, faults_by, join, unless}
use Rattle.vtl_cell.specs.Outcomes.{Same, is_true}
use Rattle.vtl_cell.specs.Row.{Row, column_of as cell_at}
use Rattle.vtl_cell.specs.ScalarKinds.{meets}
use Rattle.vtl_cell.specs.declared.cell.Cell.{Cell}
use Rattle.vtl_cell.specs.declared.kind.Kind.{Kind}
use Rattle.vtl_cell.specs.declared.kind.Kind.TheVariants as k
use Rattle.vtl_lists.proofs.Sorts.{AllByRecursion-filter}
use Rattle.vtl_lists.specs.Perm.{Perm}
use Rattle.vtl_lists.proofs.Alls.{all_append}
use Rattle.vtl_tree.specs.Clauses.{filter_of}
use Rattle.vtl_tree.specs.Columns.{column_behind, identifiers_of, measures_of}
use Rattle.vtl_tree.specs.CompExp.{CompExp, column, const, call, aggregate}
use Rattle.vtl_tree.specs.Structure.{columns_of}
use Rattle.vtl_tree.specs.Value.{value}
use Rattle.vtl_tree.specs.declared.structure.Component.{Component}
use Rattle.vtl_tree.specs.declared.structure.Structure.{Structure}
use Rattle.vtl_meaning.specs.Made.{AreFor, IsColumnAt, attributes_of}
use Rattle.vtl_meaning.specs.Points.{each_point, point_of}
use Rattle.vtl_meaning.proofs.Orders.{filtered_respects}
use Rattle.sql_tree.specs.Formed.{IsMaybeExp}
use Rattle.sql_tree.specs.Trees.{Exp, SelectTree, Text}
use Rattle.sql_check_laws.specs.Fits.{IsMaybeCondition}
use Rattle.sql_check_parts.specs.Expressions.{site}
use Rattle.sql_check_parts.specs.Scopes.{Scope, found}
use Rattle.sql_meaning.specs.From.{kept_of}
use Rattle.sql_meaning.specs.Scripts.{Data, base_of, tables_in}
use Rattle.sql_meaning.specs.Tables.{Base}
use Rattle.sql_meaning.specs.Values.{at_rows, place_in, value as sql_value}
use Rattle.expressions_to_sql.specs.Names.{AreNamesFormed, Names, Shows}
use Rattle.expressions_to_sql.specs.ToSql.{Naming, to_sql}
use Rattle.expressions_to_sql.proofs.OverPoints.{shown_fits, shown_kind, shown_value}
use Rattle.selects_to_sql.specs.Queries.{all_to_sql, items_as}
use Rattle.selects_to_sql.specs.Runs.{printable_depth}
use Rattle.selects_to_sql.proofs.Exact.{IsExactly, exactly_same}
use Rattle.selects_to_sql.proofs.Expressions.{Translates}
use Rattle.selects_to_sql.proofs.Givens.{AreGiven}
use Rattle.selects_to_sql.proofs.OneOperand.{same_functions}
use Rattle.selects_to_sql.proofs.SelectItems.{AllRows, GivesRows}
use Rattle.selects_to_sql.proofs.Selects.{IsPointOf, IsTest, maybe_printed}
use Rattle.selects_to_sql.proofs.Unions.{one_exactly}
use Rattle.joins_to_sql.specs.FilteredJoins.{shown_by}
use Rattle.joins_to_sql.specs.Joins.{Placed, columns_at, columns_in, joined_exps, where_of}
use Rattle.joins_to_sql.proofs.Chains.{joined_of}
use Rattle.joins_to_sql.proofs.JoinedColumns.{ArePlain, each_plain}

-- ---- columns alone

abbrev pub IsColumnExp : CompExp → Type 0
IsColumnExp (column place name kind) = Unit {0}
IsColumnExp e = ⊥

abbrev pub AreColumns : List CompExp → Type 0
AreColumns es = AllByRecursion IsColumnExp es

each_column : (n : ℕ) (xs ys : List Component) → AreColumns (map (λ y. column_behind n xs y.name) ys)
each_column n xs [] = tt
each_column n xs (y ∷ ys) = (tt, each_column n xs ys)

operand_columns : (f : Structure → List Component) (os : List Placed) → AreColumns (columns_in f os)
operand_columns f [] = tt
operand_columns f (o ∷ os) = all_append IsColumnExp (columns_at f o) (columns_in f os) (each_column o.before (columns_of o.structure) (f o.structure)) (operand_columns f os)

-- those of a join
pub joined_columns : (ids all : List Placed) → AreColumns (joined_exps ids all)
joined_columns ids all =
    all_append IsColumnExp (columns_in identifiers_of ids ++ columns_in measures_of all) (columns_in attributes_of all)
    (all_append IsColumnExp (columns_in identifiers_of ids) (columns_in measures_of all) (operand_columns identifiers_of ids) (operand_columns measures_of all)) (operand_columns attributes_of all)

pub columns_plain : (p : Settings) (es : List CompExp) → AreColumns es → ArePlain p es
columns_plain p [] c = tt
columns_plain p (column a b d ∷ es) c = (record { written = record { constants = tt; shallow = omega arith }; sure = λ r. refl }, columns_plain p es c.1)
columns_plain p (const v ∷ es) c = absurd c.0
columns_plain p (call o q args ∷ es) c = absurd c.0
columns_plain p (aggregate a q ∷ es) c = absurd c.0

-- ---- a select shows a point of them

abbrev pub shown_in : Settings → Naming → List CompExp → List Component → Naming
shown_in p at es ys = shown_by (items_as (all_to_sql p at es) ys)

module _ (p : Settings) (at : Naming) (xs : List Component) where
  shown_formed : AreNamesFormed at xs → (es : List CompExp) (ys : List Component) → AreFor p xs es ys → AreColumns es → AreNamesFormed (shown_in p at es ys) ys
  shown_formed formed [] [] i c place name kind h = absurd h
  shown_formed formed [] (y ∷ ys) i c place name kind h = absurd i
  shown_formed formed (e ∷ es) [] i c place name kind h = absurd i
  shown_formed formed (column a b d ∷ es) (y ∷ ys) i c zero name kind h = formed a b d i.0
  shown_formed formed (column a b d ∷ es) (y ∷ ys) i c (suc place) name kind h = shown_formed formed es ys i.2 c.1 place name kind h
  shown_formed formed (const v ∷ es) (y ∷ ys) i c place name kind h = absurd c.0
  shown_formed formed (call o q args ∷ es) (y ∷ ys) i c place name kind h = absurd c.0
  shown_formed formed (aggregate a q ∷ es) (y ∷ ys) i c place name kind h = absurd c.0

  module _ (scope : Scope) (names : Names at scope xs) where
    shown_known : (es : List CompExp) (ys : List Component) → AreFor p xs es ys → AreColumns es → (place : ℕ) (name : Text) (kind : Kind) → IsColumnAt place name kind ys → found scope (shown_in p at es ys place name) ≡ Some kind
    shown_known [] [] i c place name kind h = absurd h
    shown_known [] (y ∷ ys) i c place name kind h = absurd i
    shown_known (e ∷ es) [] i c place name kind h = absurd i
    shown_known (column a b d ∷ es) (y ∷ ys) i c zero name kind h = names.known a b d i.0 ∙ ap Some (i.1 ∙ h.1)
    shown_known (column a b d ∷ es) (y ∷ ys) i c (suc place) name kind h = shown_known es ys i.2 c.1 place name kind h
    shown_known (const v ∷ es) (y ∷ ys) i c place name kind h = absurd c.0
    shown_known (call o q args ∷ es) (y ∷ ys) i c place name kind h = absurd c.0
    shown_known (aggregate a q ∷ es) (y ∷ ys) i c place name kind h = absurd c.0

    shown_placed : (es : List CompExp) (ys : List Component) → AreFor p xs es ys → AreColumns es → (place : ℕ) (name : Text) (kind : Kind) → IsColumnAt place name kind ys → (r : Row) → cell_at (place_in scope (shown_in p at es ys place name)) r ≡ cell_at place (point_of p es r)
    shown_placed [] [] i c place name kind h r = absurd h
    shown_placed [] (y ∷ ys) i c place name kind h r = absurd i
    shown_placed (e ∷ es) [] i c place name kind h r = absurd i
    shown_placed (column a b d ∷ es) (y ∷ ys) i c zero name kind h r = ap (λ n. cell_at n r) (names.placed a b d i.0)
    shown_placed (column a b d ∷ es) (y ∷ ys) i c (suc place) name kind h r = shown_placed es ys i.2 c.1 place name kind h r
    shown_placed (const v ∷ es) (y ∷ ys) i c place name kind h r = absurd c.0
    shown_placed (call o q args ∷ es) (y ∷ ys) i c place name kind h r = absurd c.0
    shown_placed (aggregate a q ∷ es) (y ∷ ys) i c place name kind h r = absurd c.0

    shows : (es : List CompExp) (ys : List Component) → AreFor p xs es ys → AreColumns es → Shows (shown_in p at es ys) scope ys (point_of p es)
    shows es ys i c = record { known = shown_known es ys i c; shown = shown_placed es ys i c }

-- ---- rows at which a condition over their points is true

faults_mapped : (f : Row → Option Fault) (g : Row → Row) (rows : List Row) → faults_by (λ r. f (g r)) rows ≡ faults_by f (map g rows)
faults_mapped f g [] = refl
faults_mapped f g (r ∷ rows) = ap (join (f (g r))) (faults_mapped f g rows)

kept_mapped : (t : Row → Bool) (g : Row → Row) (rows : List Row) → map g (filter (λ r. t (g r)) rows) ≡ filter t (map g rows)
kept_mapped t g [] = refl
kept_mapped t g (r ∷ rows) = go (t (g r)) (kept_mapped t g rows)
  where
    go : (b : Bool) → map g (filter (λ q. t (g q)) rows) ≡ filter t (map g rows) → map g (cond b (r ∷ filter (λ q. t (g q)) rows) (filter (λ q. t (g q)) rows)) ≡ cond b (g r ∷ filter t (map g rows)) (filter t (map g rows))
    go true h = ap (λ l. g r ∷ l) h
    go false h = h

-- where a test has no fault, the rows at which it is true
abbrev pub passing : (Row → Outcome Cell) → List Row → Outcome (List Row)
passing m rows = unless (faults_by (λ q. fault_in (m q)) rows) (filter (λ q. is_true (m q)) rows)

pub passing_typed : (xs : List Component) (m : Row → Outcome Cell) (rows : List Row) → AllByRecursion (IsPointOf xs) rows → AllRows (IsPointOf xs) (passing m rows)
passing_typed xs m rows all = go (faults_by (λ q. fault_in (m q)) rows)
  where
    go : (o : Option Fault) → AllRows (IsPointOf xs) (unless o (filter (λ q. is_true (m q)) rows))
    go None = AllByRecursion-filter (IsPointOf xs) (λ q. is_true (m q)) rows all
    go (Some z) = tt

-- their points are the points at which it is true
passing_points : (p : Settings) (e : CompExp) (es : List CompExp) → AreColumns es → (rows : List Row) → after (passing (λ q. value p e (point_of p es q)) rows) (each_point p es) ≡ filter_of p e (map (point_of p es) rows)
passing_points p e es c rows =
    go (faults_by (λ q. fault_in (value p e (point_of p es q))) rows)
    ∙ ap (λ o. unless o (map (point_of p es) left)) (faults_mapped (λ r. fault_in (value p e r)) (point_of p es) rows)
    ∙ ap (unless (faults_by (λ r. fault_in (value p e r)) (map (point_of p es) rows))) (kept_mapped (λ r. is_true (value p e r)) (point_of p es) rows)
  where
    left : List Row
    left = filter (λ q. is_true (value p e (point_of p es q))) rows

    go : (o : Option Fault) → after (unless o left) (each_point p es) ≡ unless o (map (point_of p es) left)
    go None = each_plain p es left (columns_plain p es c)
    go (Some z) = refl

-- what it leaves does not see the order
pub where_respects : (p : Settings) (condition : Option CompExp) (d f : List Row) → Perm d f → Same (where_of p condition d) (where_of p condition f)
where_respects p None d f h = h
where_respects p (Some e) d f h = filtered_respects p e d f h

-- ---- the condition in WHERE

module _ (p : Settings) (law : Translates p) (before : Data) (at : Naming) (scope : Scope) (xs : List Component) (names : Names at scope xs) (formed : AreNamesFormed at xs) (es : List CompExp) (s : Structure) (made : AreFor p xs es (columns_of s)) (given : AreGiven (columns_of s)) (alone : AreColumns es) (rows : List Row) (typed : AllByRecursion (IsPointOf xs) rows) where
  abbrev b : Base
  b = base_of p before

  -- whatever a condition leaves of the rows, the select gives the points of that
  abbrev pub GivesKept : (Option Exp → SelectTree) → Type 0
  GivesKept q =
      (test : Option Exp) (left : Outcome (List Row)) → kept_of b test (joined_of scope rows None) ≡ left → IsMaybeCondition (site p (tables_in before) scope) None test → IsMaybeExp printable_depth test → AllRows (IsPointOf xs) left
      → GivesRows p before s (q test) (after left (each_point p es))

  module _ (e : CompExp) (test : IsTest p (columns_of s) (Some e)) where
    abbrev shown : Naming
    shown = shown_in p at es (columns_of s)

    are_shown : Shows shown scope (columns_of s) (point_of p es)
    are_shown = shows p at xs scope names es (columns_of s) made alone

    abbrev value_of : Row → Outcome Cell
    value_of q = value p e (point_of p es q)

    kept_is : kept_of b (Some (to_sql p shown e)) (joined_of scope rows None) ≡ passing value_of rows
    kept_is = ap (λ h. passing h rows) (same_functions (λ q. sql_value (at_rows b scope) (to_sql p shown e) q []) value_of (λ q. shown_value shown scope (columns_of s) (point_of p es) are_shown b q [] law.low e test.0 test.2.constants))

    fits : IsMaybeCondition (site p (tables_in before) scope) None (Some (to_sql p shown e))
    fits =
        (shown_fits shown scope (columns_of s) (point_of p es) are_shown p (tables_in before) law.low e test.0 test.2.constants, ap (meets k.Bool) (shown_kind shown scope (columns_of s) (point_of p es) are_shown p e test.0) ∙ test.1)

    -- so it gives the points at which a condition over them is true
    pub filter_exactly : (q : Option Exp → SelectTree) → GivesKept q → IsExactly p before (q (Some (to_sql p shown e)) ∷ []) s (filter_of p e (map (point_of p es) rows))
    filter_exactly q gives =
        exactly_same p before (q (Some (to_sql p shown e)) ∷ []) s (after (passing value_of rows) (each_point p es)) (filter_of p e (map (point_of p es) rows)) (passing_points p e es alone rows)
        (one_exactly p before s given (q (Some (to_sql p shown e))) (after (passing value_of rows) (each_point p es))
        (gives (Some (to_sql p shown e)) (passing value_of rows) kept_is fits (maybe_printed p law shown (columns_of s) (shown_formed p at xs formed es (columns_of s) made alone) (Some e) test) (passing_typed xs value_of rows typed)))
