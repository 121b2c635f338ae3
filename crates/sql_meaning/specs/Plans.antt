-- Plans: how a query may be carried out, by indexes and with parts of WHERE before joins, so that it means the same.
use Rattle.std.specs.Prelude.{◌≡◌, ℕ, suc, ◌==◌, Bool, true, false, not, cond, List, [], ◌∷◌, ◌++◌, filter, fold, take, drop, length, zip, Option, Some, None, if◌then◌else◌}
use Rattle.std.specs.List.{AllByRecursion, flat_map, list_all, list_any}
use Rattle.vtl_cell.specs.Outcome.{Outcome, after, faults_by, join}
use Rattle.vtl_cell.specs.Outcomes.{Same}
use Rattle.vtl_cell.specs.Row.{Row}
use Rattle.vtl_text.specs.Texts.{same_text}
use Rattle.vtl_cell.specs.declared.kind.Kind.{Kind}
use Rattle.vtl_cell.specs.declared.operator.ScalarOp.TheVariants as op
use Rattle.sql_tree.specs.Trees as tree
use Rattle.sql_tree.specs.Trees.{Exp, JoinTree, QueryTree, SelectTree, Text}
use Rattle.sql_tree.specs.declared.statements.Query.{Query}
use Rattle.sql_check_parts.specs.Exists.{same_side}
use Rattle.sql_check_parts.specs.Queries.{query_columns, scope_of}
use Rattle.sql_check_parts.specs.Scopes.{row_of, with_source}
use Rattle.sql_check_laws.specs.Selects.{IsSelectTyped}
use Rattle.sql_meaning.specs.From.{Joined, fault_at, first_of, holds, joined_rows, kept_of, source_rows, with_join}
use Rattle.sql_meaning.specs.Profiles.{IsLawful}
use Rattle.sql_meaning.specs.Selects.{appended, second_phase}
use Rattle.sql_meaning.specs.Tables.{Base, columns_given, kinds_of, rows_from}
use Rattle.sql_meaning.specs.Values.{View, at_rows}
use Rattle.sql_meaning.specs.declared.plan.Early.{Early}
use Rattle.sql_meaning.specs.declared.plan.Indexed.{Indexed}

-- ---- parts of a query

-- the parts that AND joins
abbrev pub conjuncts : Exp → List Exp
conjuncts (tree.binary a op.And b) = conjuncts a ++ conjuncts b
conjuncts e = e ∷ []

abbrev pub conjuncts_of : Option Exp → List Exp
conjuncts_of None = []
conjuncts_of (Some e) = conjuncts e

-- there is a first item, and it is such a one
abbrev pub IsFirst : {A : Type 0} → (A → Type 0) → List A → Type 0
IsFirst P [] = ⊥
IsFirst P (x ∷ xs) = P x

-- there is an item at this place, counted from 0, and it is such a one
abbrev pub IsAt : {A : Type 0} → (A → Type 0) → ℕ → List A → Type 0
IsAt P i xs = IsFirst P (drop i xs)

-- a column of this source and one of a source left of it
abbrev pub are_sides : Text → Exp → Exp → Bool
are_sides alias (tree.column x) (tree.column y) = not (same_side (same_text x.source alias) (same_text y.source alias))
are_sides alias a b = false

-- an equality of two such columns
abbrev pub is_side_equality : Text → Exp → Bool
is_side_equality alias (tree.binary a op.Equal b) = are_sides alias a b
is_side_equality alias e = false

-- a join whose ON is a conjunction of such equalities
abbrev pub IsEqualityJoin : JoinTree → Type 0
IsEqualityJoin (tree.on kind s e) = AllByRecursion (λ x. is_side_equality s.alias x ≡ true) (conjuncts e)
IsEqualityJoin (tree.cross s) = ⊥

-- ---- FROM by a plan

-- a conjunct is tried on the rows so far, of which it keeps those where it is true
abbrev pub try_early : View → Joined → Exp → Joined
try_early v f e = record { scope = f.scope; rows = filter (holds v e) f.rows; fault = join f.fault (faults_by (fault_at v e) f.rows) }

-- by an index: the pairs that every equality is true of, and no fault is told
abbrev pub with_index : Base → Joined → JoinTree → Joined
with_index b f (tree.on kind s e) =
    let v = at_rows b (with_source b.tables f.scope s) in
    record {
      scope = v.scope;
      rows = joined_rows kind (λ r. list_all (λ x. holds v x r) (conjuncts e)) (length (row_of f.scope)) (length (columns_given b.tables s)) f.rows (rows_from b s);
      fault = f.fault;
    }
with_index b f (tree.cross s) = with_join b f (tree.cross s)

-- the conjuncts that are tried before the n-th join
abbrev pub early_at : SelectTree → List Early → ℕ → List Exp
early_at s early n = flat_map (λ e. if e.join == n then take 1 (drop e.conjunct (conjuncts_of s.condition)) else []) early

abbrev pub is_indexed : List Indexed → ℕ → Bool
is_indexed indexed n = list_any (λ i. i.join == n) indexed

-- the joins from the n-th on, of a select that has these entries
abbrev pub planned_joins : Base → SelectTree → List Indexed → List Early → ℕ → Joined → List JoinTree → Joined
planned_joins b s indexed early n f [] = f
planned_joins b s indexed early n f (j ∷ js) =
    let tried = fold (try_early (at_rows b f.scope)) f (early_at s early n) in
    planned_joins b s indexed early (suc n) (cond (is_indexed indexed n) (with_index b tried j) (with_join b tried j)) js

-- WHERE is tried whole at the end
abbrev pub planned_source_rows : Base → SelectTree → List Indexed → List Early → Outcome (List Row)
planned_source_rows b s indexed early = kept_of b s.condition (planned_joins b s indexed early 0 (first_of b s.source) s.joins)

-- ---- queries by a plan

-- how a query is carried out: the joins that go by an index, and the conjuncts that are tried early
pub record Ways : Type 0 where
  pub indexed : List Indexed
  pub early : List Early

abbrev pub indexed_in : Ways → ℕ → List Indexed
indexed_in w n = filter (λ i. i.select == n) w.indexed

abbrev pub early_in : Ways → ℕ → List Early
early_in w n = filter (λ e. e.select == n) w.early

abbrev pub planned_source : Base → Ways → ℕ → SelectTree → Outcome (List Row)
planned_source b w n s = planned_source_rows b s (indexed_in w n) (early_in w n)

-- the selects from the n-th on
abbrev pub planned_selects : Base → List Kind → Ways → ℕ → QueryTree → List (Outcome (List Row))
planned_selects b kinds w n [] = []
planned_selects b kinds w n (s ∷ ss) = after (planned_source b w n s) (second_phase (at_rows b (scope_of b.tables s)) (zip s.items kinds) s) ∷ planned_selects b kinds w (suc n) ss

abbrev pub planned_value : Base → Ways → QueryTree → Outcome (List Row)
planned_value b w q = appended (planned_selects b (kinds_of (query_columns b.tables q)) w 0 q)

-- ---- plans

-- each entry names a join of the query whose ON is a conjunction of equalities
abbrev pub NamesJoin : QueryTree → Indexed → Type 0
NamesJoin q i = IsAt (λ s. IsAt IsEqualityJoin i.join s.joins) i.select q

-- each entry names a conjunct and a join of the query
abbrev pub NamesConjunct : QueryTree → Early → Type 0
NamesConjunct q e = IsAt (λ s. IsAt (λ j. Unit {0}) e.join s.joins × IsAt (λ x. Unit {0}) e.conjunct (conjuncts_of s.condition)) e.select q

-- over the tables of a run the rows of FROM and WHERE and their faults stay as they are
abbrev pub SelectStands : Ways → ℕ → SelectTree → Type 0
SelectStands w n s = (b : Base) → IsLawful b → IsSelectTyped b.settings b.tables s → Same (planned_source b w n s) (source_rows b s)

abbrev pub SelectsStand : Ways → ℕ → QueryTree → Type 0
SelectsStand w n [] = Unit {0}
SelectsStand w n (s ∷ ss) = SelectStands w n s × SelectsStand w (suc n) ss

-- the three conditions of a plan
pub record IsPlan (q : QueryTree) (w : Ways) : Type 0 where
  pub indexed : AllByRecursion (NamesJoin q) w.indexed
  pub early : AllByRecursion (NamesConjunct q) w.early
  pub stands : SelectsStand w 0 q

-- the query is carried out as it is written
abbrev pub as_written : Ways
as_written = record { indexed = []; early = [] }

-- a query of the program, and how it is carried out
pub record Planned : Type 0 where
  pub query : Query
  pub ways : Ways
