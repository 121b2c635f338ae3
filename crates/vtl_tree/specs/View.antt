-- The expression that a tree of the program stands for.
use Rattle.std.specs.Prelude.{List, [], ◌∷◌}
use Rattle.vtl_tree.specs.CompExp.{CompExp, CompExps, column, const, call, aggregate, no_comp_exps, comp_exp}
use Rattle.vtl_tree.specs.declared.expression.CompExpr.{CompExpr, fold-CompExpr}
use Rattle.vtl_tree.specs.declared.expression.CompExpr.TheOpen.{CompExpr-F}

abbrev pub comp_exps_of : List CompExp → CompExps
comp_exps_of [] = no_comp_exps
comp_exps_of (e ∷ es) = comp_exp e (comp_exps_of es)

-- one level, with each part already seen as its expression
abbrev pub comp_exp_step : CompExpr-F CompExp → CompExp
comp_exp_step (CompExpr-F.Column place name kind) = column place name kind
comp_exp_step (CompExpr-F.Const c) = const c
comp_exp_step (CompExpr-F.Apply op kind args) = call op kind (comp_exps_of args.items)
comp_exp_step (CompExpr-F.Aggregate a kind) = aggregate a kind

abbrev pub comp_exp_of : CompExpr → CompExp
comp_exp_of = fold-CompExpr CompExp comp_exp_step
