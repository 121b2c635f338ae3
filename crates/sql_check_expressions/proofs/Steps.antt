-- The kinds and the least of the broken rules, part by part.
use Rattle.std.proofs.Common.{◌≡◌, ◌∙◌, ◌+◌, ◌<◌, ◌≤◌, ℕ, List, [], ◌∷◌, ◌++◌, length, get_or, drop, map, refl, ap, sym, subst, append_assoc, append-nil}
use Rattle.std.specs.Prelude.{Option}
use Rattle.std.proofs.lemmas.List.{drop_all, drop_more}
use Rattle.vtl_cell.specs.declared.kind.Kind.{Kind}
use Rattle.sql_tree.specs.Trees as tree
use Rattle.sql_tree.specs.Trees.{Branches, branches_of, exps_of}
use Rattle.sql_tree.specs.View.{branch_tree, expr_tree}
use Rattle.sql_tree.specs.declared.expressions.SqlExpr.{SqlExpr}
use Rattle.sql_tree.specs.declared.expressions.Branch.{Branch}
use Rattle.sql_check_parts.specs.Expressions.{Site, all_break, branches_break, breaks}
use Rattle.sql_check_parts.specs.Kinds.{kind_in, kinds_in, value_kinds}
use Rattle.sql_check_parts.specs.Queries.{condition_at}
use Rattle.sql_check_parts.specs.Rules.{least, lesser}
use Rattle.sql_check_parts.specs.Scopes.{Grouping, Scope}
use Rattle.sql_check_parts.specs.Told.{IsTold}
use Rattle.sql_check_parts.specs.declared.told.Told.{Told}
use Rattle.sql_check_parts.specs.declared.rules.SqlRule.{SqlRule}
use Rattle.sql_check_parts.proofs.Least.{least_append, least_none, lesser_apart}
use Rattle.sql_check_expressions.specs.Told.{AreParts}
use Rattle.sql_check_expressions.specs.declared.parts.Parts.{Parts}
use Rattle.sql_check_expressions.proofs.Views.{views}

-- parts, before others whose kinds and rules are still to come
pub record Goes (kinds : List Kind) (rules : List SqlRule) (whole : List Kind) (whole_rules : List SqlRule) (p : Parts) : Type 0 where
  pub kinds_are : p.kinds.items ++ kinds ≡ whole
  pub fault_is : lesser p.fault (least rules) ≡ least whole_rules

-- one more part
pub record Put (t : Told) (p q : Parts) : Type 0 where
  pub kinds_are : q.kinds.items ≡ p.kinds.items ++ t.kind ∷ []
  pub fault_is : q.fault ≡ lesser p.fault t.fault

goes_on : (kind : Kind) (own : List SqlRule) (t : Told) (kinds : List Kind) (rules : List SqlRule) (whole : List Kind) (whole_rules : List SqlRule) (p q : Parts) → IsTold kind own t → Put t p q → Goes (kind ∷ kinds) (own ++ rules) whole whole_rules p → Goes kinds rules whole whole_rules q
goes_on kind own t kinds rules whole whole_rules p q h put goes = record {
  kinds_are = ap (λ l. l ++ kinds) put.kinds_are ∙ append_assoc p.kinds.items (t.kind ∷ []) kinds ∙ ap (λ k. p.kinds.items ++ k ∷ kinds) h.kind_is ∙ goes.kinds_are;
  fault_is =
      ap (λ f. lesser f (least rules)) put.fault_is
      ∙ lesser_apart p.fault t.fault (least rules)
      ∙ ap (λ f. lesser p.fault (lesser f (least rules))) h.fault_is
      ∙ ap (lesser p.fault) (sym (least_append own rules))
      ∙ goes.fault_is;
}

goes_through : (whole : List Kind) (rules : List SqlRule) (p : Parts) → Goes [] [] whole rules p → AreParts whole rules p
goes_through whole rules p goes = record {
  kinds_are = sym (append-nil p.kinds.items) ∙ goes.kinds_are;
  fault_is = sym (least_none p.fault) ∙ goes.fault_is;
}

-- ---- operands

abbrev pub OperandsFrom : Site → Option Grouping → List SqlExpr → ℕ → Parts → Type 0
OperandsFrom at g es i p = Goes (kinds_in at.scope (exps_of (map expr_tree (drop i es)))) (all_break at g (exps_of (map expr_tree (drop i es)))) (kinds_in at.scope (exps_of (map expr_tree es))) (all_break at g (exps_of (map expr_tree es))) p

pub operand_taken : (at : Site) (g : Option Grouping) (es : List SqlExpr) (i : ℕ) (e : SqlExpr) (t : Told) (p q : Parts) → i < length es → e ≡ get_or es i e → IsTold (kind_in at.scope (expr_tree e)) (breaks at g (expr_tree e)) t → Put t p q → OperandsFrom at g es i p → OperandsFrom at g es (i + 1) q
operand_taken at g es i e t p q l is h put goes =
    goes_on (kind_in at.scope (expr_tree e)) (breaks at g (expr_tree e)) t (kinds_in at.scope (exps_of (map expr_tree (drop (i + 1) es)))) (all_break at g (exps_of (map expr_tree (drop (i + 1) es)))) (kinds_in at.scope (exps_of (map expr_tree es))) (all_break at g (exps_of (map expr_tree es))) p q h put
    (subst (λ rest. Goes (kinds_in at.scope (exps_of (map expr_tree rest))) (all_break at g (exps_of (map expr_tree rest))) (kinds_in at.scope (exps_of (map expr_tree es))) (all_break at g (exps_of (map expr_tree es))) p) (drop_more es i e l ∙ ap (λ x. x ∷ drop (i + 1) es) (sym is)) goes)

pub operands_done : (at : Site) (g : Option Grouping) (es : List SqlExpr) (i : ℕ) (p : Parts) → length es ≤ i → OperandsFrom at g es i p → AreParts (kinds_in at.scope (exps_of (map expr_tree es))) (all_break at g (exps_of (map expr_tree es))) p
operands_done at g es i p l goes =
    goes_through (kinds_in at.scope (exps_of (map expr_tree es))) (all_break at g (exps_of (map expr_tree es))) p
    (subst (λ rest. Goes (kinds_in at.scope (exps_of (map expr_tree rest))) (all_break at g (exps_of (map expr_tree rest))) (kinds_in at.scope (exps_of (map expr_tree es))) (all_break at g (exps_of (map expr_tree es))) p) (drop_all i es l) goes)

-- ---- branches of CASE

abbrev pub BranchesFrom : Site → Option Grouping → List Branch → ℕ → Parts → Type 0
BranchesFrom at g bs i p = Goes (value_kinds at.scope (branches_of (map branch_tree (drop i bs))) []) (branches_break at g (branches_of (map branch_tree (drop i bs)))) (value_kinds at.scope (branches_of (map branch_tree bs)) []) (branches_break at g (branches_of (map branch_tree bs))) p

pub branch_taken : (at : Site) (g : Option Grouping) (bs : List Branch) (i : ℕ) (b : Branch) (t : Told) (p q : Parts) → i < length bs → b ≡ get_or bs i b → IsTold (kind_in at.scope (branch_tree b).1) (condition_at at g (branch_tree b).0 ++ breaks at g (branch_tree b).1) t → Put t p q → BranchesFrom at g bs i p → BranchesFrom at g bs (i + 1) q
branch_taken at g bs i b t p q l is h put goes =
    goes_on (kind_in at.scope (branch_tree b).1) (condition_at at g (branch_tree b).0 ++ breaks at g (branch_tree b).1) t (value_kinds at.scope (branches_of (map branch_tree (drop (i + 1) bs))) []) (branches_break at g (branches_of (map branch_tree (drop (i + 1) bs)))) (value_kinds at.scope (branches_of (map branch_tree bs)) []) (branches_break at g (branches_of (map branch_tree bs))) p q h put
    (subst (λ rest. Goes (value_kinds at.scope (branches_of (map branch_tree rest)) []) (branches_break at g (branches_of (map branch_tree rest))) (value_kinds at.scope (branches_of (map branch_tree bs)) []) (branches_break at g (branches_of (map branch_tree bs))) p) (drop_more bs i b l ∙ ap (λ x. x ∷ drop (i + 1) bs) (sym is)) goes)

pub branches_done : (at : Site) (g : Option Grouping) (bs : List Branch) (i : ℕ) (p : Parts) → length bs ≤ i → BranchesFrom at g bs i p → AreParts (value_kinds at.scope (branches_of (map branch_tree bs)) []) (branches_break at g (branches_of (map branch_tree bs))) p
branches_done at g bs i p l goes =
    goes_through (value_kinds at.scope (branches_of (map branch_tree bs)) []) (branches_break at g (branches_of (map branch_tree bs))) p
    (subst (λ rest. Goes (value_kinds at.scope (branches_of (map branch_tree rest)) []) (branches_break at g (branches_of (map branch_tree rest))) (value_kinds at.scope (branches_of (map branch_tree bs)) []) (branches_break at g (branches_of (map branch_tree bs))) p) (drop_all i bs l) goes)

-- kinds behind those of CASE
pub values_behind : (s : Scope) (bs : Branches) (kinds more : List Kind) → value_kinds s bs kinds ++ more ≡ value_kinds s bs (kinds ++ more)
values_behind s tree.no_branches kinds more = refl
values_behind s (tree.branch c v bs) kinds more = ap (λ l. kind_in s v ∷ l) (values_behind s bs kinds more)

pub ruleset steps = (views, least_append, values_behind)
