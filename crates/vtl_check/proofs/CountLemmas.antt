-- What is left behind an expression is the number without its nodes.
use Rattle.std.proofs.Common.{◌≡◌, ℕ, suc, ◌+◌, ◌-◌, ◌≤◌, ◌<◌, ◌⊎◌, inl, inr, Bool, true, false, cond, leb, List, [], ◌∷◌, ◌++◌, length, Option, Some, None, option_and_then, sym, ap, ◌∙◌, arith}
use Rattle.std.specs.List.{filter, flat_map}
use Rattle.std.proofs.lemmas.Bool.{le-leb}
use Rattle.std.proofs.lemmas.Bool.Decides.{leb_tells}
use Rattle.vtl_tree.specs.Nodes.{nodes_in}
use Rattle.vtl_tree.specs.Trees.{NodeTree}
use Rattle.vtl_walks.specs.Operands.{operands_in}
use Rattle.vtl_walks.proofs.Laws.{nodes_by_operands}
use Rattle.vtl_check.specs.Count.{count, counted, is_counted}
use Rattle.vtl_check.specs.Script.{is_too_much, most_nodes}
use Rattle.vtl_check.specs.Spent.{without}

pub without-few : (taken left : ℕ) → taken ≤ left → without taken left ≡ Some (left - taken)
without-few taken left h = ap (λ b. cond b (Some (left - taken)) None) (le-leb taken left h)

pub without-many : (taken left : ℕ) → left < taken → without taken left ≡ None
without-many taken left h = go (leb_tells taken left)
  where
    go : ((leb taken left ≡ true) × (taken ≤ left)) ⊎ ((leb taken left ≡ false) × (left < taken)) → without taken left ≡ None
    go (inl p) = absurd (omega (arith, p.1))
    go (inr p) = ap (λ b. cond b (Some (left - taken)) None) p.0

pub without-none : (left : ℕ) → without 0 left ≡ Some left
without-none left = without-few 0 left (omega arith) ∙ ap Some (omega arith)

then-without : (a b left : ℕ) → option_and_then (without b) (without a left) ≡ without (a + b) left
then-without a b left = go (leb_tells a left)
  where
    rest : a ≤ left → ((leb b (left - a) ≡ true) × (b ≤ left - a)) ⊎ ((leb b (left - a) ≡ false) × (left - a < b)) → without b (left - a) ≡ without (a + b) left
    rest h (inl p) = without-few b (left - a) p.1 ∙ ap Some (omega arith) ∙ sym (without-few (a + b) left (omega (arith, p.1)))
    rest h (inr p) = without-many b (left - a) p.1 ∙ sym (without-many (a + b) left (omega (arith, p.1)))

    go : ((leb a left ≡ true) × (a ≤ left)) ⊎ ((leb a left ≡ false) × (left < a)) → option_and_then (without b) (without a left) ≡ without (a + b) left
    go (inl p) = ap (option_and_then (without b)) (without-few a left p.1) ∙ rest p.1 (leb_tells b (left - a))
    go (inr p) = ap (option_and_then (without b)) (without-many a left p.1) ∙ sym (without-many (a + b) left (omega (arith, p.1)))

-- how many of two lists count
counted_append : (xs ys : List NodeTree) → counted (xs ++ ys) ≡ counted xs + counted ys
counted_append [] ys = omega arith
counted_append (x ∷ xs) ys = go (is_counted x) (counted_append xs ys)
  where
    go : (b : Bool) → counted (xs ++ ys) ≡ counted xs + counted ys → length (cond b (x ∷ filter is_counted (xs ++ ys)) (filter is_counted (xs ++ ys))) ≡ length (cond b (x ∷ filter is_counted xs) (filter is_counted xs)) + counted ys
    go true e = omega (arith, e)
    go false e = e

-- what is left behind some nodes, and then behind others
without-parts : (xs ys : List NodeTree) (left : ℕ) → without (counted (xs ++ ys)) left ≡ option_and_then (without (counted ys)) (without (counted xs) left)
without-parts xs ys left = ap (λ n. without n left) (counted_append xs ys) ∙ sym (then-without (counted xs) (counted ys) left)

-- ---- what is left behind expressions, one behind the other
abbrev pub left_behind : List NodeTree → ℕ → Option ℕ
left_behind ns left = without (counted (flat_map nodes_in ns)) left

pub first-left : (ns : List NodeTree) (n : NodeTree) (rest : List NodeTree) (left : ℕ) → ns ≡ n ∷ rest → left_behind ns left ≡ option_and_then (left_behind rest) (without (count n) left)
first-left ns n rest left e = ap (λ l. left_behind l left) e ∙ without-parts (nodes_in n) (flat_map nodes_in rest) left

-- behind an expression, where something is left behind the node itself
pub node-left : (n : NodeTree) (ops : List NodeTree) (left own : ℕ) → ops ≡ operands_in n → without (counted (n ∷ [])) left ≡ Some own → without (count n) left ≡ left_behind ops own
node-left n ops left own is e =
    ap (λ l. without (counted l) left) (nodes_by_operands n) ∙ without-parts (n ∷ []) (flat_map nodes_in (operands_in n)) left
    ∙ ap (option_and_then (left_behind (operands_in n))) e ∙ sym (ap (λ l. left_behind l own) is)

-- and where nothing is
pub node-gone : (n : NodeTree) (left : ℕ) → without (counted (n ∷ [])) left ≡ None → without (count n) left ≡ None
node-gone n left e =
    ap (λ l. without (counted l) left) (nodes_by_operands n) ∙ without-parts (n ∷ []) (flat_map nodes_in (operands_in n)) left
    ∙ ap (option_and_then (left_behind (operands_in n))) e

-- what is left of a number, where some is
without-some : (taken left rest : ℕ) → without taken left ≡ Some rest → rest + taken ≡ left
without-some taken left rest e = go (leb_tells taken left) e
  where
    go : ((leb taken left ≡ true) × (taken ≤ left)) ⊎ ((leb taken left ≡ false) × (left < taken)) → without taken left ≡ Some rest → rest + taken ≡ left
    go (inl p) e = let k : Some (left - taken) ≡ Some rest = sym (without-few taken left p.1) ∙ e in let d : left - taken ≡ rest = cc in omega (arith, p.1)
    go (inr p) e = let k : None ≡ Some rest = sym (without-many taken left p.1) ∙ e in cc

without-nothing : (taken left : ℕ) → without taken left ≡ None → left < taken
without-nothing taken left e = go (leb_tells taken left) e
  where
    go : ((leb taken left ≡ true) × (taken ≤ left)) ⊎ ((leb taken left ≡ false) × (left < taken)) → without taken left ≡ None → left < taken
    go (inl p) e = let k : Some (left - taken) ≡ None = sym (without-few taken left p.1) ∙ e in cc
    go (inr p) e = p.1

pub spent-some : (n : NodeTree) (left rest : ℕ) → without (count n) left ≡ Some rest → rest + count n ≡ left
spent-some n left rest e = without-some (count n) left rest e

pub spent-nothing : (n : NodeTree) (left : ℕ) → without (count n) left ≡ None → left < count n
spent-nothing n left e = without-nothing (count n) left e

-- the nodes so far with those of an expression, where they are too many or few enough
abbrev pub sum : NodeTree → ℕ → Option ℕ
sum n before = cond (is_too_much before (count n)) None (Some (before + count n))

pub sum-many : (n : NodeTree) (before : ℕ) → most_nodes - before < count n → sum n before ≡ None
sum-many n before h = ap (λ b. cond b None (Some (before + count n))) (le-leb (suc most_nodes) (before + count n) (omega arith))

pub sum-few : (n : NodeTree) (before rest : ℕ) → before ≤ most_nodes → rest + count n ≡ most_nodes - before → Some (most_nodes - rest) ≡ sum n before
sum-few n before rest h e = go (leb_tells (suc most_nodes) (before + count n))
  where
    go : ((leb (suc most_nodes) (before + count n) ≡ true) × (suc most_nodes ≤ before + count n)) ⊎ ((leb (suc most_nodes) (before + count n) ≡ false) × (before + count n < suc most_nodes)) → Some (most_nodes - rest) ≡ sum n before
    go (inl p) = absurd (omega (arith, p.1))
    go (inr p) = ap Some (omega (arith, p.1)) ∙ sym (ap (λ b. cond b None (Some (before + count n))) p.0)
