-- How far columns reach that stand one behind the other.
use Rattle.std.proofs.Common.{◌≡◌, ℕ, ◌+◌, ◌<◌, max, List, [], ◌∷◌, ◌++◌, map, drop, get_or, length, Option, Some, None, refl, sym, ap, ◌∙◌, rules}
use Rattle.std.specs.Prelude.{option_and_then}
use Rattle.std.proofs.lemmas.List.{drop_more}
use Rattle.sql_tree.specs.Trees.{Exp, branches_of, exps_of}
use Rattle.sql_tree.specs.View.{branch_tree, expr_tree}
use Rattle.sql_tree.specs.declared.expressions.Branch as branch
use Rattle.sql_tree.specs.declared.expressions.Branch.{Branch}
use Rattle.sql_tree.specs.declared.expressions.SqlExpr.{SqlExpr}
use Rattle.sql_tree.specs.declared.parts.Column.{Column}
use Rattle.sql_meaning.specs.Early.{columns_in, columns_of, columns_within}
use Rattle.sql_check_parts.specs.Scopes.{Named, value_among}
use Rattle.sql_plan.specs.Reach.{reach}

pub reach_both : (places : Named ℕ) (n : ℕ) (xs ys : List Column) → reach places n (xs ++ ys) ≡ option_and_then (λ m. reach places m ys) (reach places n xs)
reach_both places n [] ys = refl
reach_both places n (x ∷ xs) ys = go (value_among places x.source) (λ p. reach_both places (max n p) xs ys)
  where
    go : (o : Option ℕ) → ((p : ℕ) → reach places (max n p) (xs ++ ys) ≡ option_and_then (λ m. reach places m ys) (reach places (max n p) xs))
        → option_and_then (λ p. reach places (max n p) (xs ++ ys)) o ≡ option_and_then (λ m. reach places m ys) (option_and_then (λ p. reach places (max n p) xs) o)
    go None ih = refl
    go (Some p) ih = ih p

-- ---- what is left of operands and branches

abbrev pub operands_left : List SqlExpr → ℕ → List Column
operands_left es i = columns_of (exps_of (map expr_tree (drop i es)))

pub operands_next : (places : Named ℕ) (n : ℕ) (es : List SqlExpr) (i : ℕ) (e : SqlExpr) → i < length es → e ≡ get_or es i e
    → reach places n (operands_left es i) ≡ option_and_then (λ m. reach places m (operands_left es (i + 1))) (reach places n (columns_in (expr_tree e)))
operands_next places n es i e h is =
    ap (λ (l : List SqlExpr). reach places n (columns_of (exps_of (map expr_tree l)))) (drop_more es i e h ∙ ap (λ (x : SqlExpr). x ∷ drop (i + 1) es) (sym is))
    ∙ reach_both places n (columns_in (expr_tree e)) (operands_left es (i + 1))

abbrev pub branches_left : List Branch → ℕ → List Column
branches_left bs i = columns_within (branches_of (map branch_tree (drop i bs)))

pub branch_is : (b : Branch) → branch_tree b ≡ (expr_tree b.condition, expr_tree b.value)
branch_is b = search (rules, branch.the_lemmas)

pub branches_next : (places : Named ℕ) (n : ℕ) (bs : List Branch) (i : ℕ) (b : Branch) → i < length bs → b ≡ get_or bs i b
    → reach places n (branches_left bs i)
    ≡ option_and_then (λ k. reach places k (branches_left bs (i + 1))) (option_and_then (λ m. reach places m (columns_in (expr_tree b.value))) (reach places n (columns_in (expr_tree b.condition))))
branches_next places n bs i b h is =
    let rest = branches_left bs (i + 1) in
    let c = columns_in (expr_tree b.condition) in
    let v = columns_in (expr_tree b.value) in
    ap (λ (l : List Branch). reach places n (columns_within (branches_of (map branch_tree l)))) (drop_more bs i b h ∙ ap (λ (x : Branch). x ∷ drop (i + 1) bs) (sym is))
    ∙ ap (λ (x : Exp × Exp). reach places n (columns_within (branches_of (x ∷ map branch_tree (drop (i + 1) bs))))) (branch_is b)
    ∙ reach_both places n (c ++ v) rest
    ∙ ap (option_and_then (λ k. reach places k rest)) (reach_both places n c v)
