-- Whether EXISTS is asked.
use Rattle.std.specs.Prelude.{Bool, true, false, ◌||◌, Option, Some, None}
use Rattle.sql_tree.specs.Trees as tree
use Rattle.sql_tree.specs.Trees.{Branches, Exp, Exps, ItemTree, ValueTree}

-- whether an expression asks it, itself or in a part
abbrev mutual
  pub asks : Exp → Bool
  asks (tree.binary a o b) = asks a || asks b
  asks (tree.unary o e) = asks e
  asks (tree.is_null e negated) = asks e
  asks (tree.in_list e negated ls) = asks e
  asks (tree.constant x) = false
  asks (tree.column x) = false
  asks (tree.call f es) = some_ask es
  asks tree.count_all = false
  asks (tree.aggregate f e) = asks e
  asks (tree.case_when bs e) = branches_ask bs || asks e
  asks (tree.exists s es) = true

  pub some_ask : Exps → Bool
  some_ask tree.no_exps = false
  some_ask (tree.exp e es) = asks e || some_ask es

  pub branches_ask : Branches → Bool
  branches_ask tree.no_branches = false
  branches_ask (tree.branch c v bs) = asks c || asks v || branches_ask bs

abbrev pub condition_asks : Option Exp → Bool
condition_asks None = false
condition_asks (Some e) = asks e

abbrev pub value_asks : ValueTree → Bool
value_asks (tree.expression e) = asks e
value_asks (tree.window w) = false

abbrev pub item_asks : ItemTree → Bool
item_asks i = value_asks i.value
