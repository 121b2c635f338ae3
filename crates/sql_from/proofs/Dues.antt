-- The parts of WHERE that are tried before each join, entry by entry.
use Rattle.std.proofs.Common.{◌≡◌, ◌≢◌, inl, inr, ◌∙◌, ℕ, zero, suc, ◌+◌, ◌<◌, ◌≤◌, ◌++◌, Bool, true, false, cond, List, [], ◌∷◌, get_or, length, take, drop, Some, None, refl, ap, sym, subst, arith}
use Rattle.std.specs.Borrow.{Bor}
use Rattle.std.specs.Global.{Vec}
use Rattle.std.specs.Prelude.{◌==◌, if◌then◌else◌, slice_get}
use Rattle.std.proofs.lemmas.Bool.{cases_eq}
use Rattle.std.proofs.lemmas.List.{append-nil, get_or_append_left, get_or_push, map-append}
use Rattle.sql_tree.specs.Trees.{SelectTree}
use Rattle.sql_tree.specs.View.{expr_tree}
use Rattle.sql_tree.specs.declared.expressions.SqlExpr.{SqlExpr}
use Rattle.sql_meaning.specs.Plans.{conjuncts_of}
use Rattle.sql_meaning.specs.declared.plan.Early.{Early}
use Rattle.sql_from.specs.Conditions.{AreDue, all_of, parts_at, trees_of}
use Rattle.sql_from.specs.PlacedLists.{AreLists, IsPutAt}
use Rattle.sql_from.proofs.Marks.{other_number, same_number}
use Rattle.sql_from.proofs.Walks.{flat_more}

-- ---- one entry more

one_taken : {A : Type 0} (xs : List A) (k : ℕ) (x : A) → slice_get xs k ≡ Some x → x ∷ [] ≡ take 1 (drop k xs)
one_taken [] k x e = cc
one_taken (y ∷ xs) zero x e = let s : y ≡ x = cc in ap (λ z. z ∷ []) (sym s)
one_taken (y ∷ xs) (suc k) x e = one_taken xs k x e

none_taken : {A : Type 0} (xs : List A) (k : ℕ) → slice_get xs k ≡ None → take 1 (drop k xs) ≡ []
none_taken [] zero e = refl
none_taken [] (suc k) e = refl
none_taken (y ∷ xs) zero e = cc
none_taken (y ∷ xs) (suc k) e = none_taken xs k e

module _ {A : Type 0} (xs : List A) (early : List Early) (i : ℕ) (e : Early) (count : ℕ) (h : i < length early) (is : e ≡ get_or early i e) where
  abbrev part : ℕ → Early → List A
  part n x = if x.join == n then take 1 (drop x.conjunct xs) else []

  more : (n : ℕ) → parts_at xs (take (i + 1) early) n ≡ parts_at xs (take i early) n ++ part n e
  more n = flat_more (part n) early i e h is

  pub part_put : (x : A) (before now : List (Vec A)) → length before ≡ count → slice_get xs e.conjunct ≡ Some x → AreLists (parts_at xs (take i early)) count before → IsPutAt e.join x before now → AreLists (parts_at xs (take (i + 1) early)) count now
  part_put x before now long got lists put = record {
    at = λ n other k.
        put.at n other (subst (λ m. n < m) (sym long) k)
        ∙ (λ j. lists.at n other k j ++ (if eqb_sym n e.join j then one_taken xs e.conjunct x got j else []))
        ∙ sym (more n);
  }
    where
      eqb_sym : (a b : ℕ) → (a == b) ≡ (b == a)
      eqb_sym a b = grind arith

  pub part_missing : (lists : List (Vec A)) → slice_get xs e.conjunct ≡ None → AreLists (parts_at xs (take i early)) count lists → AreLists (parts_at xs (take (i + 1) early)) count lists
  part_missing lists none all = record {
    at = λ n other k.
        all.at n other k
        ∙ sym (more n ∙ ap (λ l. parts_at xs (take i early) n ++ (if e.join == n then l else [])) (none_taken xs e.conjunct none) ∙ ap (λ l. parts_at xs (take i early) n ++ l) (neither (e.join == n)) ∙ append-nil (parts_at xs (take i early) n));
  }
    where
      neither : (b : Bool) → cond {A = List A} b [] [] ≡ []
      neither true = refl
      neither false = refl

-- ---- references and what they stand for

trees_taken : (xs : List (Bor SqlExpr)) (k : ℕ) → trees_of (take 1 (drop k xs)) ≡ take 1 (drop k (trees_of xs))
trees_taken [] zero = refl
trees_taken [] (suc k) = refl
trees_taken (x ∷ xs) zero = refl
trees_taken (x ∷ xs) (suc k) = trees_taken xs k

trees_at : (parts : List (Bor SqlExpr)) (early : List Early) (n : ℕ) → trees_of (parts_at parts early n) ≡ parts_at (trees_of parts) early n
trees_at parts [] n = refl
trees_at parts (e ∷ early) n =
    map-append (λ (x : Bor SqlExpr). expr_tree x.now) (if e.join == n then take 1 (drop e.conjunct parts) else []) (parts_at parts early n)
    ∙ (λ i. one (e.join == n) i ++ trees_at parts early n i)
  where
    one : (b : Bool) → trees_of (cond b (take 1 (drop e.conjunct parts)) []) ≡ cond b (take 1 (drop e.conjunct (trees_of parts))) []
    one true = trees_taken parts e.conjunct
    one false = refl

-- ---- and all of the condition behind the last join

module _ (s : SelectTree) (early : List Early) (parts : List (Bor SqlExpr)) (parts_are : trees_of parts ≡ conjuncts_of s.condition) where
  pub all_due : (lists : List (Vec (Bor SqlExpr))) (last : Vec (Bor SqlExpr)) → length lists ≡ length s.joins → AreLists (parts_at parts early) (length s.joins) lists → trees_of last.items ≡ all_of s.condition → AreDue s early (lists ++ last ∷ [])
  all_due lists last long all end = record {
    at = λ place other h. elim (cases_eq place (length s.joins)) [
      | inl same ↦ ap (λ (v : Vec (Bor SqlExpr)). trees_of v.items) (get_or_push lists last other place (long ∙ sym same)) ∙ end
          ∙ sym (ap (λ b. cond b (all_of s.condition) (parts_at (conjuncts_of s.condition) early place)) (same_number place (length s.joins) same))
      | inr unlike ↦ ap (λ (v : Vec (Bor SqlExpr)). trees_of v.items) (get_or_append_left lists (last ∷ []) other place (before place h unlike)) ∙ ap trees_of (all.at place other (below place h unlike))
          ∙ trees_at parts early place ∙ ap (λ es. parts_at es early place) parts_are
          ∙ sym (ap (λ b. cond b (all_of s.condition) (parts_at (conjuncts_of s.condition) early place)) (other_number place (length s.joins) unlike))
    ];
  }
    where
      below : (place : ℕ) → place ≤ length s.joins → place ≢ length s.joins → place < length s.joins
      below place h unlike = omega (arith, h, unlike)

      before : (place : ℕ) → place ≤ length s.joins → place ≢ length s.joins → place < length lists
      before place h unlike = omega (arith, h, unlike, long)
