-- A plan lists the join of a select over two sources whose ON is a conjunction of equalities.
use Rattle.std.proofs.Common.{◌≡◌, ℕ, ◌+◌, Bool, true, false, cond, List, [], ◌∷◌, ◌++◌, length, refl, sym, subst, true≢false, arith}
use Rattle.std.specs.Prelude.{◌==◌, filter}
use Rattle.std.specs.List.{AllByRecursion}
use Rattle.vtl_lists.proofs.Alls.{test_from_all}
use Rattle.sql_tree.specs.Trees as tree
use Rattle.sql_tree.specs.Trees.{JoinTree, SelectTree}
use Rattle.sql_meaning.specs.Plans.{IsEqualityJoin, Ways, conjuncts, indexed_in, is_indexed, is_side_equality}
use Rattle.sql_meaning.specs.declared.plan.Indexed.{Indexed}
use Rattle.sql_plan.specs.Chosen.{equality_joins, equality_joins_from, is_equality_join}

pub is_listed : (j : JoinTree) → IsEqualityJoin j → is_equality_join j ≡ true
is_listed (tree.on kind s e) equal = test_from_all (is_side_equality s.alias) (conjuncts e) equal
is_listed (tree.cross s) equal = absurd equal

-- the only join of the first select is listed
one_listed : (js : List JoinTree) → length js ≡ 1 → AllByRecursion IsEqualityJoin js → is_indexed (filter (λ (i : Indexed). i.select == 0) (equality_joins_from 0 0 js ++ [])) 0 ≡ true
one_listed [] one equal = absurd (omega (arith, one))
one_listed (j ∷ k ∷ js) one equal = absurd (omega (arith, one))
one_listed (j ∷ []) one equal = go (is_equality_join j) (is_listed j equal.0)
  where
    go : (b : Bool) → b ≡ true → is_indexed (filter (λ (i : Indexed). i.select == 0) ((cond b (record { select = 0; join = 0 } ∷ []) [] ++ []) ++ [])) 0 ≡ true
    go true e = refl
    go false e = absurd (true≢false (sym e))

pub join_is_listed : (w : Ways) (s : SelectTree) → w.indexed ≡ equality_joins (s ∷ []) → length s.joins ≡ 1 → AllByRecursion IsEqualityJoin s.joins → is_indexed (indexed_in w 0) 0 ≡ true
join_is_listed w s listed one equal =
    subst (λ (l : List Indexed). is_indexed (filter (λ (i : Indexed). i.select == 0) l) 0 ≡ true) (sym listed) (one_listed s.joins one equal)
