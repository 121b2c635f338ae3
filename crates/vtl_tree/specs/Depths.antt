-- How deep component expressions are.
use Rattle.std.specs.Prelude.{ℕ, suc, max, List, Option, Some, None}
use Rattle.vtl_tree.specs.CompExp.{CompExp, CompExps, column, const, call, aggregate, no_comp_exps, comp_exp}

-- the component of an aggregate is a leaf
abbrev pub argument_depth : Option (List ℕ) → ℕ
argument_depth None = 0
argument_depth (Some name) = 1

abbrev mutual
  -- a column and a constant have depth 1; an operator and an aggregate have one more than their deepest part
  pub comp_depth : CompExp → ℕ
  comp_depth (column place name kind) = 1
  comp_depth (const v) = 1
  comp_depth (call o kind args) = suc (comps_depth args)
  comp_depth (aggregate a kind) = suc (argument_depth a.component)

  pub comps_depth : CompExps → ℕ
  comps_depth no_comp_exps = 0
  comps_depth (comp_exp e es) = max (comp_depth e) (comps_depth es)
