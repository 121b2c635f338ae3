-- The selects of a query by its plan, one by one.
use Rattle.std.proofs.Common.{◌≡◌, ℕ, zero, suc, ◌+◌, Bool, true, false, cond, List, [], ◌∷◌, length, drop, get_or, Ok, Err, Result, refl, sym, ap, ◌∙◌, subst, arith}
use Rattle.std.specs.Prelude.{IfOk, fold}
use Rattle.std.specs.List.{AllByRecursion}
use Rattle.vtl_lists.proofs.Perms.{AllByRecursion-Perm, Perm-sym}
use Rattle.vtl_lists.specs.Perm.{chain}
use Rattle.vtl_cell.specs.Outcome.{Outcome}
use Rattle.vtl_cell.specs.Outcomes.{Same}
use Rattle.vtl_cell.specs.Row.{Row}
use Rattle.vtl_cell.specs.declared.kind.Kind.{Kind}
use Rattle.vtl_rows.specs.Tables.{Tabled, fits_kinds}
use Rattle.vtl_scalar.specs.declared.error.ScalarErr.{ScalarErr}
use Rattle.vtl_scalar.specs.declared.error.ScalarErr.TheVariants as err
use Rattle.sql_tree.specs.Trees.{JoinTree, QueryTree, SelectTree}
use Rattle.sql_meaning.proofs.IndexedJoins.{index_same}
use Rattle.sql_meaning.proofs.Planned.{entries_here, equality_here, next_behind}
use Rattle.sql_meaning.specs.Plans.{IsAt, IsEqualityJoin, IsPlan, SelectStands, SelectsStand, Ways, early_at, early_in, indexed_in, is_indexed, planned_joins, planned_selects, planned_source, planned_source_rows, try_early, with_index}
use Rattle.sql_meaning.specs.declared.plan.Early.{Early}
use Rattle.sql_meaning.specs.declared.plan.Indexed.{Indexed}
use Rattle.sql_meaning.specs.From.{Joined, first_of, kept_of, source_rows, with_join}
use Rattle.sql_meaning.specs.Profiles.{AreOfProfile, IsLawful, IsRowOfProfile}
use Rattle.sql_check_parts.specs.Scopes.{row_of}
use Rattle.sql_check_parts.specs.Queries.{scope_of}
use Rattle.sql_meaning.specs.Tables.{Base, RowsFit}
use Rattle.sql_meaning.specs.Values.{at_rows}
use Rattle.sql_meaning.proofs.Profiled.{sources_are}
use Rattle.sql_meaning.proofs.SourceKinds.{source_rows_fit}
use Rattle.sql_exec.specs.Answers.{Gives}
use Rattle.sql_exec.specs.Parts.{HasRowsOf, IsPart, phase_of}

-- ---- joins by an index

-- a join of equalities has the same rows and no fault by an index, also where conjuncts are tried early
module _ (b : Base) (s : SelectTree) (indexed : List Indexed) (early : List Early) (equal : AllByRecursion (λ i. IsAt IsEqualityJoin i.join s.joins) indexed) where
  abbrev tried_at : ℕ → Joined → Joined
  tried_at n f = fold (try_early (at_rows b f.scope)) f (early_at s early n)

  joins_without : (js : List JoinTree) (n : ℕ) (f : Joined) → drop n s.joins ≡ js → planned_joins b s indexed early n f js ≡ planned_joins b s [] early n f js
  joins_without [] n f there = refl
  joins_without (j ∷ js) n f there = one (is_indexed indexed n) refl ∙ joins_without js (suc n) (with_join b (tried_at n f) j) (next_behind n s.joins j js there)
    where
      one : (t : Bool) → is_indexed indexed n ≡ t
          → planned_joins b s indexed early (suc n) (cond t (with_index b (tried_at n f) j) (with_join b (tried_at n f) j)) js ≡ planned_joins b s indexed early (suc n) (with_join b (tried_at n f) j) js
      one true e = ap (λ g. planned_joins b s indexed early (suc n) g js) (index_same b (tried_at n f) j (equality_here s.joins n j js indexed there equal e))
      one false e = refl

  rows_without : planned_source_rows b s indexed early ≡ planned_source_rows b s [] early
  rows_without = ap (kept_of b s.condition) (joins_without s.joins 0 (first_of b s.source) refl)

-- ---- the select at a place

module _ (w : Ways) where
  stands_from : (i n m : ℕ) (ss : QueryTree) → m ≡ n + i → SelectsStand w n ss → SelectsStand w m (drop i ss)
  stands_from zero n m ss e h = let same : n ≡ m = omega (arith, e) in subst (λ (k : ℕ). SelectsStand w k ss) same h
  stands_from (suc i) n m [] e h = tt
  stands_from (suc i) n m (s ∷ ss) e h = stands_from i (suc n) m ss (omega (arith, e)) h.1

  stands_at : (q : QueryTree) (i : ℕ) (s : SelectTree) (rest : QueryTree) → IsPlan q w → drop i q ≡ s ∷ rest → SelectStands w i s
  stands_at q i s rest plan there =
      let all : SelectsStand w i (s ∷ rest) = subst (λ (ss : QueryTree). SelectsStand w i ss) there (stands_from i 0 i q (omega arith) plan.stands) in
      all.0

  module _ (b : Base) (kinds : List Kind) where
    -- what the plan makes of a select at this place
    abbrev pub planned_at : ℕ → SelectTree → Outcome (List Row)
    planned_at n s = phase_of b kinds s (planned_source b w n s)

    pub planned_many : (n : ℕ) (ss : QueryTree) → length (planned_selects b kinds w n ss) ≡ length ss
    planned_many n [] = refl
    planned_many n (s ∷ ss) = ap suc (planned_many (suc n) ss)

    read_from : (i n m : ℕ) (ss : QueryTree) (s : SelectTree) (rest : QueryTree) → m ≡ n + i → drop i ss ≡ s ∷ rest → planned_at m s ≡ get_or (planned_selects b kinds w n ss) i (planned_at m s)
    read_from zero n m [] s rest e there = cc
    read_from zero n m (t ∷ ss) s rest e there =
        let place : m ≡ n = omega (arith, e) in
        let same : s ≡ t = cc in
        λ i. planned_at (place i) (same i)
    read_from (suc i) n m [] s rest e there = cc
    read_from (suc i) n m (t ∷ ss) s rest e there = read_from i (suc n) m ss s rest (omega (arith, e)) there

    pub planned_read : (i : ℕ) (q : QueryTree) (s : SelectTree) (rest : QueryTree) → drop i q ≡ s ∷ rest → planned_at i s ≡ get_or (planned_selects b kinds w 0 q) i (planned_at i s)
    planned_read i q s rest there = read_from i 0 i q s rest (omega arith) there

    module _ (q : QueryTree) (plan : IsPlan q w) (i : ℕ) (s : SelectTree) (rest : QueryTree) (there : drop i q ≡ s ∷ rest) where
      equalities : AllByRecursion (λ x. IsAt IsEqualityJoin x.join s.joins) (indexed_in w i)
      equalities = entries_here (λ (x : Indexed). x.select) (λ t x. IsAt IsEqualityJoin x.join t.joins) q i s rest w.indexed there plan.indexed

      without : planned_source b w i s ≡ planned_source_rows b s [] (early_in w i)
      without = rows_without b s (indexed_in w i) (early_in w i) equalities

      pub has_rows : IsLawful b → IsPart b kinds s → HasRowsOf b (early_in w i) s
      has_rows lawful part = subst (λ (m : Outcome (List Row)). Same m (source_rows b s)) without (stands_at q i s rest plan there b lawful part.typed)

      pub phase_planned : phase_of b kinds s (planned_source_rows b s [] (early_in w i)) ≡ planned_at i s
      phase_planned = ap (phase_of b kinds s) (sym without)

-- ---- rows of the same outcome

-- rows that are those of a typed select, in any order, fit
pub same_rows_fit : (b : Base) (kinds : List Kind) (s : SelectTree) (early : List Early) (rows : List Row) → IsLawful b → IsPart b kinds s → HasRowsOf b early s → planned_source_rows b s [] early ≡ Ok rows → RowsFit (row_of (scope_of b.tables s)) rows
same_rows_fit b kinds s early rows lawful part same is = go (source_rows b s) refl (subst (λ (m : Outcome (List Row)). Same m (source_rows b s)) is same)
  where
    go : (m : Outcome (List Row)) → source_rows b s ≡ m → Same (Ok rows) m → RowsFit (row_of (scope_of b.tables s)) rows
    go (Ok others) e perm = AllByRecursion-Perm (λ r. fits_kinds (row_of (scope_of b.tables s)) r ≡ true) (Perm-sym perm) (source_rows_fit b lawful.fit s others part.typed e)
    go (Err f) e perm = absurd perm

-- so are their integers of the profile
pub same_rows_of_profile : (b : Base) (s : SelectTree) (early : List Early) (rows : List Row) → IsLawful b → HasRowsOf b early s → planned_source_rows b s [] early ≡ Ok rows → AreOfProfile b.settings rows
same_rows_of_profile b s early rows lawful same is = go (source_rows b s) (sources_are b lawful.ranged s) (subst (λ (m : Outcome (List Row)). Same m (source_rows b s)) is same)
  where
    go : (m : Outcome (List Row)) → IfOk m (AreOfProfile b.settings) → Same (Ok rows) m → AreOfProfile b.settings rows
    go (Ok others) all perm = AllByRecursion-Perm (IsRowOfProfile b.settings) (Perm-sym perm) all
    go (Err f) all perm = absurd perm

pub gives_same : (m n : Outcome (List Row)) (r : Result Tabled ScalarErr) → Same m n → Gives m r → Gives n r
gives_same (Ok xs) (Ok ys) (Ok t) same gives = chain (Perm-sym same) gives
gives_same (Ok xs) (Ok ys) (Err err.DivZero) same gives = cc
gives_same (Ok xs) (Ok ys) (Err err.Range) same gives = cc
gives_same (Ok xs) (Ok ys) (Err err.OutOfMemory) same gives = tt
gives_same (Ok xs) (Err g) r same gives = absurd same
gives_same (Err f) (Ok ys) r same gives = absurd same
gives_same (Err f) (Err g) (Ok t) same gives = absurd gives
gives_same (Err f) (Err g) (Err err.DivZero) same gives = ap Err (sym same) ∙ gives
gives_same (Err f) (Err g) (Err err.Range) same gives = ap Err (sym same) ∙ gives
gives_same (Err f) (Err g) (Err err.OutOfMemory) same gives = tt
