-- Equalities that link two sources.
use Rattle.std.proofs.Common.{◌≡◌, ◌∙◌, ◌<◌, ℕ, zero, suc, true, false, ◌&&◌, ◌||◌, List, [], ◌∷◌, get_or, length, Option, None, Some, IsSome, arith, refl, subst, sym}
use Rattle.std.specs.Borrow.{Bor}
use Rattle.std.specs.List.{AllByRecursion, list_all}
use Rattle.std.proofs.lemmas.Bool.{and_parts}
use Rattle.std.proofs.lemmas.List.Folds.{list_all-append}
use Rattle.vtl_cell.specs.declared.operator.ScalarOp.TheVariants as op
use Rattle.sql_tree.specs.Trees as tree
use Rattle.sql_tree.specs.Trees.{Exp}
use Rattle.sql_tree.specs.View.{expr_tree}
use Rattle.sql_tree.specs.declared.expressions.SqlExpr.{SqlExpr}
use Rattle.sql_meaning.specs.Plans.{conjuncts}
use Rattle.sql_meaning.specs.Early.{is_safe}
use Rattle.sql_from.specs.Asking.{asks}
use Rattle.sql_from.specs.Conditions.{trees_of}
use Rattle.sql_from.specs.Keys.{AreLinked, IsLinked, are_linked, is_link}
use Rattle.sql_from.specs.Sources.{Sourced}

-- what links on both sides of AND
pub links_parted : (s : Sourced) (lead : ℕ) (a b : Exp) → list_all (is_link s lead) (conjuncts (tree.binary a op.And b)) ≡ true → (list_all (is_link s lead) (conjuncts a) ≡ true) × (list_all (is_link s lead) (conjuncts b) ≡ true)
links_parted s lead a b h = and_parts (list_all (is_link s lead) (conjuncts a)) (list_all (is_link s lead) (conjuncts b)) (sym (list_all-append (is_link s lead) (conjuncts a) (conjuncts b)) ∙ h)

pub nothing_there : {A : Type 0} (o : Option A) → o ≡ None → IsSome o → ⊥
nothing_there None e h = cc
nothing_there (Some x) e h = cc

pub found_other : {A : Type 0} (o : Option A) (x : A) → o ≡ Some x → o ≡ None → ⊥
found_other o x e n = cc

pub found_same : {A : Type 0} (o : Option A) (x y : A) → o ≡ Some x → o ≡ Some y → x ≡ y
found_same o x y e f = cc

-- what links two sources asks no EXISTS
equal_asks : (s : Sourced) (lead : ℕ) (a b : Exp) → are_linked s lead a b ≡ true → (asks a || asks b) ≡ false
equal_asks s lead (tree.column x) (tree.column y) h = refl
equal_asks s lead (tree.column x) b h = cc
equal_asks s lead a b h = cc

link_asks : (s : Sourced) (lead : ℕ) (e : Exp) → list_all (is_link s lead) (conjuncts e) ≡ true → asks e ≡ false
link_asks s lead (tree.binary a op.And b) h = let both = links_parted s lead a b h in λ i. link_asks s lead a both.0 i || link_asks s lead b both.1 i
link_asks s lead (tree.binary a op.Equal b) h = equal_asks s lead a b (and_parts (are_linked s lead a b) true h).0
link_asks s lead e h = cc

pub linked_asks : (s : Sourced) (lead : ℕ) (es : List Exp) → AreLinked s lead es → AllByRecursion (λ e. asks e ≡ false) es
linked_asks s lead [] h = absurd h
linked_asks s lead (e ∷ []) h = (link_asks s lead e h.links, tt)
linked_asks s lead (e ∷ d ∷ es) h = absurd h

-- what links two sources cannot have a fault
equal_safe : (s : Sourced) (lead : ℕ) (a b : Exp) → are_linked s lead a b ≡ true → (is_safe a && is_safe b) ≡ true
equal_safe s lead (tree.column x) (tree.column y) h = refl
equal_safe s lead (tree.column x) b h = cc
equal_safe s lead a b h = cc

pub linked_safe : (s : Sourced) (lead : ℕ) (e : Exp) → list_all (is_link s lead) (conjuncts e) ≡ true → is_safe e ≡ true
linked_safe s lead (tree.binary a op.And b) h = let both = links_parted s lead a b h in λ i. linked_safe s lead a both.0 i && linked_safe s lead b both.1 i
linked_safe s lead (tree.binary a op.Equal b) h = equal_safe s lead a b (and_parts (are_linked s lead a b) true h).0
linked_safe s lead e h = cc

pub linked_all_safe : (s : Sourced) (lead : ℕ) (es : List Exp) → AreLinked s lead es → list_all is_safe es ≡ true
linked_all_safe s lead [] h = absurd h
linked_all_safe s lead (e ∷ []) h = λ i. linked_safe s lead e h.links i && true
linked_all_safe s lead (e ∷ d ∷ es) h = absurd h

-- conditions that link are one
pub one_linked : (s : Sourced) (lead : ℕ) (cs : List (Bor SqlExpr)) (i : ℕ) (c : Bor SqlExpr) → i < length cs → c ≡ get_or cs i c → AreLinked s lead (trees_of cs) → IsLinked s lead (expr_tree c.now)
one_linked s lead [] i c h at linked = absurd linked
one_linked s lead (d ∷ []) zero c h at linked = subst (λ (y : Bor SqlExpr). IsLinked s lead (expr_tree y.now)) (sym at) linked
one_linked s lead (d ∷ []) (suc i) c h at linked = absurd (omega (arith, h))
one_linked s lead (d ∷ e ∷ cs) i c h at linked = absurd linked

pub linked_some : (s : Sourced) (lead : ℕ) (cs : List (Bor SqlExpr)) → AreLinked s lead (trees_of cs) → 0 < length cs
linked_some s lead [] linked = absurd linked
linked_some s lead (c ∷ cs) linked = omega arith
