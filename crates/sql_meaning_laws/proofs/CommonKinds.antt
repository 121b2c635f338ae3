-- The kinds that a query's selects share are, at each place, the common kind of what they have there.
use Rattle.std.specs.Prelude.{fold, option_and_then, zip}
use Rattle.std.specs.List.{range_with_len}
use Rattle.std.proofs.Common.{◌≡◌, ℕ, zero, suc, ◌+◌, ◌<◌, List, [], ◌∷◌, map, length, get_or, Option, Some, None, refl, sym, ap, ◌∙◌, arith}
use Rattle.std.proofs.lemmas.List.{get_or-map, length-map}
use Rattle.vtl_cell.specs.ScalarKinds.{common_kind, shared_kind}
use Rattle.vtl_cell.specs.declared.kind.Kind.{Kind}
use Rattle.vtl_cell.specs.declared.kind.Kind.TheVariants as k
use Rattle.vtl_scalar.proofs.KindLemmas.{shared_with_null}
use Rattle.sql_tree.specs.Trees.{QueryTree, SelectTree}
use Rattle.sql_check_parts.specs.Queries.{beside, item_kind, item_name, kinds_of, query_columns, query_names, scope_of, shared_kinds}
use Rattle.sql_check_parts.specs.Scopes.{Tables, or_null}
use Rattle.sql_check_parts.proofs.QueryKinds.{length-beside}
use Rattle.sql_meaning_laws.specs.Columns.{common_columns, common_kinds, kind_at}

-- ---- the kind that two share

-- null goes with each kind
null_behind : (o : Option Kind) → option_and_then (λ x. shared_kind x k.Null) o ≡ o
null_behind None = refl
null_behind (Some x) = shared_with_null x

bracketed : (x y z : Kind) → option_and_then (λ w. shared_kind w z) (shared_kind x y) ≡ option_and_then (shared_kind x) (shared_kind y z)
bracketed k.Null k.Null k.Null = refl
bracketed x k.Null k.Null = refl
bracketed x y k.Null = refl
bracketed x y z = refl

abbrev none : Kind → Option Kind
none w = None

nothing : (u : Option Kind) → option_and_then none u ≡ None
nothing None = refl
nothing (Some w) = refl

-- kind by kind from the left
abbrev shared_from : Option Kind → List Kind → Option Kind
shared_from o ks = fold (λ shared x. option_and_then (λ w. shared_kind w x) shared) o ks

from_left : (o : Option Kind) (ks : List Kind) → shared_from o ks ≡ option_and_then (λ x. option_and_then (shared_kind x) (common_kind ks)) o
from_left o [] = sym (null_behind o)
from_left o (y ∷ ks) = from_left (option_and_then (λ w. shared_kind w y) o) ks ∙ one o (common_kind ks)
  where
    one : (u c : Option Kind) → option_and_then (λ w. option_and_then (shared_kind w) c) (option_and_then (λ w. shared_kind w y) u) ≡ option_and_then (λ x. option_and_then (shared_kind x) (option_and_then (shared_kind y) c)) u
    one None c = refl
    one (Some x) None = nothing (shared_kind x y)
    one (Some x) (Some z) = bracketed x y z

-- ---- place by place

beside_at : (cs : List (Option Kind)) (kinds : List Kind) (i : ℕ) → get_or (beside cs kinds) i None ≡ option_and_then (λ w. shared_kind w (get_or kinds i k.Null)) (get_or cs i None)
beside_at [] kinds i = refl
beside_at (x ∷ cs) [] zero = sym (null_behind x)
beside_at (x ∷ cs) [] (suc i) = sym (null_behind (get_or cs i None))
beside_at (x ∷ cs) (y ∷ kinds) zero = refl
beside_at (x ∷ cs) (y ∷ kinds) (suc i) = beside_at cs kinds i

-- a list by its places
tabled : {X : Type 0} (f : ℕ → X) (xs : List X) (d : X) (n : ℕ) → ((i : ℕ) → i < length xs → f (n + i) ≡ get_or xs i d) → map f (range_with_len n (length xs)) ≡ xs
tabled f [] d n h = refl
tabled f (x ∷ xs) d n h =
    let here : n + 0 ≡ n = omega arith in
    let there : (i : ℕ) → n + 1 + i ≡ n + suc i = λ i. omega arith in
    (λ j. (ap f (sym here) ∙ h 0 (omega arith)) j ∷ tabled f xs d (n + 1) (λ i l. ap f (there i) ∙ h (suc i) (omega (arith, l))) j)

module _ (tables : Tables) where
  abbrev step : List (Option Kind) → SelectTree → List (Option Kind)
  step shared other = beside shared (kinds_of tables other)

  length-shared : (ss : QueryTree) (cs : List (Option Kind)) → length (fold step cs ss) ≡ length cs
  length-shared [] cs = refl
  length-shared (s ∷ ss) cs = length-shared ss (step cs s) ∙ length-beside cs (kinds_of tables s)

  shared_at : (ss : QueryTree) (cs : List (Option Kind)) (i : ℕ) → get_or (fold step cs ss) i None ≡ shared_from (get_or cs i None) (map (kind_at tables i) ss)
  shared_at [] cs i = refl
  shared_at (s ∷ ss) cs i =
      shared_at ss (step cs s) i
      ∙ ap (λ o. shared_from o (map (kind_at tables i) ss)) (beside_at cs (kinds_of tables s) i)

  pub kinds_are : (q : QueryTree) → shared_kinds tables q ≡ common_kinds tables q
  kinds_are [] = refl
  kinds_are (s ∷ ss) =
      let own = kinds_of tables s in
      let start = map Some own in
      let shared = shared_kinds tables (s ∷ ss) in
      let at = λ (i : ℕ). common_kind (map (kind_at tables i) (s ∷ ss)) in
      let many : length shared ≡ length own = length-shared ss start ∙ length-map own Some in
      let named : length own ≡ length (query_names (s ∷ ss)) = length-map s.items (item_kind (scope_of tables s)) ∙ sym (length-map s.items item_name) in
      let first : (i : ℕ) → i < length own → get_or start i None ≡ Some (get_or own i k.Null) = λ i h. get_or-map Some own i k.Null None h in
      let each : (i : ℕ) → i < length shared → at i ≡ get_or shared i None = λ i h.
      sym (shared_at ss start i ∙ from_left (get_or start i None) (map (kind_at tables i) ss)
      ∙ ap (option_and_then (λ x. option_and_then (shared_kind x) (common_kind (map (kind_at tables i) ss)))) (first i (omega (arith, h, many)))) in
      let none : (i : ℕ) → 0 + i ≡ i = λ i. omega arith in
      sym (tabled at shared None 0 (λ i h. ap at (none i) ∙ each i h)) ∙ ap (λ n. map at (range_with_len 0 n)) (many ∙ named)

  pub columns_are : (q : QueryTree) → query_columns tables q ≡ common_columns tables q
  columns_are q = ap (λ l. zip (query_names q) (map or_null l)) (kinds_are q)
