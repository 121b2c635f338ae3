-- The rows of FROM and WHERE. A row of FROM is the rows of its sources one behind the other.
use Rattle.std.specs.Prelude.{ℕ, Bool, not, List, [], ◌∷◌, ◌++◌, map, filter, fold, length, replicate, Option, Some, None}
use Rattle.std.specs.List.{flat_map, list_any}
use Rattle.vtl_decimal.specs.declared.number.Fault.{Fault}
use Rattle.vtl_cell.specs.Outcome.{Outcome, fault_in, faults_by, join, unless}
use Rattle.vtl_cell.specs.Outcomes.{is_true}
use Rattle.vtl_cell.specs.Row.{Row}
use Rattle.vtl_cell.specs.declared.cell.Cell.TheVariants as c
use Rattle.sql_tree.specs.Trees as tree
use Rattle.sql_tree.specs.Trees.{Exp, JoinTree, SelectTree}
use Rattle.sql_tree.specs.declared.parts.Source.{Source}
use Rattle.sql_tree.specs.declared.word_groups.JoinKind.{JoinKind}
use Rattle.sql_tree.specs.declared.word_groups.JoinKind.TheVariants as joining
use Rattle.sql_check_parts.specs.Scopes.{Scope, row_of, with_source}
use Rattle.sql_meaning.specs.Tables.{Base, columns_given, rows_from}
use Rattle.sql_meaning.specs.Values.{View, at_rows, value}

-- ---- conditions at rows

abbrev pub holds : View → Exp → Row → Bool
holds v e r = is_true (value v e r [])

abbrev pub fault_at : View → Exp → Row → Option Fault
fault_at v e r = fault_in (value v e r [])

-- ---- one list more

-- Each item of a list is tried with each item of another one. `both` puts two together, `alone` stands for a left item without a
-- partner, and `only` for a right one.
abbrev pub partners : {A B C : Type 0} → (A → B → Bool) → (A → B → C) → List B → A → List C
partners test both ys x = map (both x) (filter (test x) ys)

abbrev pub or_alone : {C : Type 0} → List C → C → List C
or_alone [] z = z ∷ []
or_alone (x ∷ xs) z = x ∷ xs

abbrev pub partners_or_alone : {A B C : Type 0} → (A → B → Bool) → (A → B → C) → (A → C) → List B → A → List C
partners_or_alone test both alone ys x = or_alone (partners test both ys x) (alone x)

-- whether a right item has a partner
abbrev pub is_met : {A B : Type 0} → (A → B → Bool) → List A → B → Bool
is_met test xs y = list_any (λ x. test x y) xs

abbrev pub unmet : {A B C : Type 0} → (A → B → Bool) → (B → C) → List A → List B → List C
unmet test only xs ys = map only (filter (λ y. not (is_met test xs y)) ys)

-- INNER keeps the pairs that pass the test, LEFT also a left item without one, and FULL besides a right item without one
abbrev pub joined_by : {A B C : Type 0} → JoinKind → (A → B → Bool) → (A → B → C) → (A → C) → (B → C) → List A → List B → List C
joined_by joining.Inner test both alone only xs ys = flat_map (partners test both ys) xs
joined_by joining.Left test both alone only xs ys = flat_map (partners_or_alone test both alone ys) xs
joined_by joining.Full test both alone only xs ys = flat_map (partners_or_alone test both alone ys) xs ++ unmet test only xs ys

-- CROSS keeps each with each
abbrev pub pairs_by : {A B C : Type 0} → (A → B → C) → List A → List B → List C
pairs_by both xs ys = flat_map (λ x. map (both x) ys) xs

-- ---- one source more

-- a missing part is nulls
abbrev pub nulls : ℕ → Row
nulls n = replicate n c.Null

abbrev pub beside : Row → Row → Row
beside x y = x ++ y

abbrev pub pairs : List Row → List Row → List Row
pairs = pairs_by beside

-- the rows behind a join, where the rows so far have n cells and those of the next source m
abbrev pub joined_rows : JoinKind → (Row → Bool) → ℕ → ℕ → List Row → List Row → List Row
joined_rows kind test n m = joined_by kind (λ x y. test (x ++ y)) beside (λ x. x ++ nulls m) (λ y. nulls n ++ y)

-- ---- FROM

-- the sources so far, their rows, and the fault of the conditions so far
pub record Joined : Type 0 where
  pub scope : Scope
  pub rows : List Row
  pub fault : Option Fault

abbrev pub first_of : Base → Source → Joined
first_of b s = record { scope = with_source b.tables [] s; rows = rows_from b s; fault = None }

-- ON is tried on each pair: one where it has a fault is no pair, and the fault is told
abbrev pub join_on : JoinKind → View → Exp → ℕ → ℕ → Joined → List Row → Joined
join_on kind v e n m f right = record {
  scope = v.scope;
  rows = joined_rows kind (holds v e) n m f.rows right;
  fault = join f.fault (faults_by (fault_at v e) (pairs f.rows right));
}

abbrev pub with_join : Base → Joined → JoinTree → Joined
with_join b f (tree.on kind s e) =
    join_on kind (at_rows b (with_source b.tables f.scope s)) e (length (row_of f.scope)) (length (columns_given b.tables s)) f (rows_from b s)
with_join b f (tree.cross s) = record { scope = with_source b.tables f.scope s; rows = pairs f.rows (rows_from b s); fault = f.fault }

abbrev pub joined : Base → SelectTree → Joined
joined b s = fold (with_join b) (first_of b s.source) s.joins

-- ---- WHERE

abbrev pub kept : View → Option Exp → List Row → List Row
kept v None rows = rows
kept v (Some e) rows = filter (holds v e) rows

abbrev pub condition_fault : View → Option Exp → List Row → Option Fault
condition_fault v None rows = None
condition_fault v (Some e) rows = faults_by (fault_at v e) rows

abbrev pub kept_of : Base → Option Exp → Joined → Outcome (List Row)
kept_of b e f = unless (join f.fault (condition_fault (at_rows b f.scope) e f.rows)) (kept (at_rows b f.scope) e f.rows)

-- the rows that FROM gives and WHERE keeps, or the fault of every ON and of WHERE
abbrev pub source_rows : Base → SelectTree → Outcome (List Row)
source_rows b s = kept_of b s.condition (joined b s)
