-- A query that is carried out by a plan has the same rows and the same faults.
use Rattle.std.proofs.Common.{◌≡◌, ℕ, zero, suc, Bool, true, false, cond, ◌||◌, List, [], ◌∷◌, map, drop, Ok, Err, refl, sym, ap, ◌∙◌, subst, true≢false}
use Rattle.std.specs.Prelude.{filter, fold, nat_eq, zip}
use Rattle.std.specs.List.{AllByRecursion}
use Rattle.std.proofs.lemmas.Bool.{eqb-true}
use Rattle.vtl_lists.proofs.Perms.{Perm-refl}
use Rattle.vtl_cell.specs.Outcome.{Outcome}
use Rattle.vtl_cell.specs.Outcomes.{Same}
use Rattle.vtl_cell.specs.declared.kind.Kind.{Kind}
use Rattle.sql_tree.specs.Trees.{JoinTree, QueryTree, SelectTree}
use Rattle.sql_check_parts.specs.Queries.{query_columns, scope_of}
use Rattle.sql_check_laws.specs.Selects.{IsQueryTyped, IsSelectTyped}
use Rattle.sql_meaning.specs.From.{Joined, first_of, kept_of, source_rows, with_join}
use Rattle.sql_meaning.specs.Plans.{IsAt, IsEqualityJoin, IsFirst, IsPlan, SelectsStand, Ways, as_written, is_indexed, planned_joins, planned_selects, planned_source, planned_value, with_index}
use Rattle.sql_meaning.specs.declared.plan.Indexed.{Indexed}
use Rattle.sql_meaning.specs.Profiles.{IsLawful}
use Rattle.sql_meaning.specs.Selects.{query_value, second_phase, select_value}
use Rattle.sql_meaning.specs.Tables.{Base, kinds_of}
use Rattle.sql_meaning.specs.Values.{at_rows}
use Rattle.sql_meaning.proofs.IndexedJoins.{index_same}
use Rattle.sql_meaning.proofs.Orders.{EachSame, appended_same, second_same}
use Rattle.sql_meaning.proofs.UpToOrder.{Same_after}

-- ---- a query as it is written

joins_as_written : (b : Base) (s : SelectTree) (n : ℕ) (f : Joined) (js : List JoinTree) → planned_joins b s [] [] n f js ≡ fold (with_join b) f js
joins_as_written b s n f [] = refl
joins_as_written b s n f (j ∷ js) = joins_as_written b s (suc n) (with_join b f j) js

pub Same_refl : {X : Type 0} (m : Outcome (List X)) → Same m m
Same_refl (Ok xs) = Perm-refl xs
Same_refl (Err f) = refl

pub written_stands : (q : QueryTree) → IsPlan q as_written
written_stands q = record { indexed = tt; early = tt; stands = each 0 q }
  where
    each : (n : ℕ) (ss : QueryTree) → SelectsStand as_written n ss
    each n [] = tt
    each n (s ∷ ss) =
        ((λ b lawful typed. subst (λ f. Same (kept_of b s.condition f) (source_rows b s)) (sym (joins_as_written b s 0 (first_of b s.source) s.joins)) (Same_refl (source_rows b s))), each (suc n) ss)

-- ---- a query whose joins go by indexes alone

pub next_behind : {A : Type 0} (n : ℕ) (xs : List A) (x : A) (rest : List A) → drop n xs ≡ x ∷ rest → drop (suc n) xs ≡ rest
next_behind zero [] x rest e = cc
next_behind zero (y ∷ xs) x rest e = cc
next_behind (suc n) [] x rest e = cc
next_behind (suc n) (y ∷ xs) x rest e = next_behind n xs x rest e

-- what holds of the item at a place
pub at_place : {A : Type 0} (P : A → Type 0) (i n : ℕ) (xs : List A) (x : A) (rest : List A) → nat_eq i n ≡ true → drop n xs ≡ x ∷ rest → IsAt P i xs → P x
at_place P i n xs x rest e there h = subst (IsFirst P) there (subst (λ j. IsFirst P (drop j xs)) (eqb-true i n e) h)

-- the entries of one select
pub entries_here : {E : Type 0} (select : E → ℕ) (P : SelectTree → E → Type 0) (q : QueryTree) (n : ℕ) (s : SelectTree) (rest : QueryTree) (es : List E) → drop n q ≡ s ∷ rest → AllByRecursion (λ e. IsAt (λ t. P t e) (select e) q) es → AllByRecursion (P s) (filter (λ e. nat_eq (select e) n) es)
entries_here select P q n s rest [] there all = tt
entries_here {E = E} select P q n s rest (e ∷ es) there all = go (nat_eq (select e) n) refl (entries_here select P q n s rest es there all.1)
  where
    go : (b : Bool) → nat_eq (select e) n ≡ b → AllByRecursion (P s) (filter (λ e. nat_eq (select e) n) es) → AllByRecursion (P s) (cond b (e ∷ filter (λ e. nat_eq (select e) n) es) (filter (λ e. nat_eq (select e) n) es))
    go true h ih = (at_place (λ t. P t e) (select e) n q s rest h there all.0, ih)
    go false h ih = ih

pub equality_here : (joins : List JoinTree) (n : ℕ) (j : JoinTree) (rest : List JoinTree) (indexed : List Indexed) → drop n joins ≡ j ∷ rest → AllByRecursion (λ i. IsAt IsEqualityJoin i.join joins) indexed → is_indexed indexed n ≡ true → IsEqualityJoin j
equality_here joins n j rest [] there all e = absurd (true≢false (sym e))
equality_here joins n j rest (i ∷ indexed) there all e = go (nat_eq i.join n) refl e (equality_here joins n j rest indexed there all.1)
  where
    go : (b : Bool) → nat_eq i.join n ≡ b → (b || is_indexed indexed n) ≡ true → (is_indexed indexed n ≡ true → IsEqualityJoin j) → IsEqualityJoin j
    go true q h ih = at_place IsEqualityJoin i.join n joins j rest q there all.0
    go false q h ih = ih h

pub joins_by_index : (b : Base) (s : SelectTree) (indexed : List Indexed) → AllByRecursion (λ i. IsAt IsEqualityJoin i.join s.joins) indexed → (js : List JoinTree) (n : ℕ) (f : Joined) → drop n s.joins ≡ js → planned_joins b s indexed [] n f js ≡ fold (with_join b) f js
joins_by_index b s indexed all [] n f there = refl
joins_by_index b s indexed all (j ∷ js) n f there =
    one (is_indexed indexed n) refl ∙ joins_by_index b s indexed all js (suc n) (with_join b f j) (next_behind n s.joins j js there)
  where
    one : (t : Bool) → is_indexed indexed n ≡ t → planned_joins b s indexed [] (suc n) (cond t (with_index b f j) (with_join b f j)) js ≡ planned_joins b s indexed [] (suc n) (with_join b f j) js
    one true e = ap (λ g. planned_joins b s indexed [] (suc n) g js) (index_same b f j (equality_here s.joins n j js indexed there all e))
    one false e = refl

-- ---- a query by its plan

module _ (b : Base) (lawful : IsLawful b) (w : Ways) where
  each_stands : (kinds : List Kind) (n : ℕ) (ss : QueryTree) → SelectsStand w n ss → AllByRecursion (IsSelectTyped b.settings b.tables) ss → EachSame (planned_selects b kinds w n ss) (map (select_value b kinds) ss)
  each_stands kinds n [] stands typed = tt
  each_stands kinds n (s ∷ ss) stands typed =
      let phase = second_phase (at_rows b (scope_of b.tables s)) (zip s.items kinds) s in
      (Same_after (planned_source b w n s) (source_rows b s) phase phase (stands.0 b lawful typed.0) (λ d e p. second_same b b.rows (λ name. Perm-refl (b.rows name)) (scope_of b.tables s) (zip s.items kinds) s d e p), each_stands kinds (suc n) ss stands.1 typed.1)

  pub plan_stands : (q : QueryTree) → IsPlan q w → IsQueryTyped b.settings b.tables q → Same (planned_value b w q) (query_value b q)
  plan_stands q h typed =
      let kinds = kinds_of (query_columns b.tables q) in
      appended_same (planned_selects b kinds w 0 q) (map (select_value b kinds) q) (each_stands kinds 0 q h.stands typed.selects)
