-- Each expression has a depth.
use Rattle.std.proofs.Common.{◌≤◌, ◌<◌, suc, arith}
use Rattle.vtl_syntax.specs.Depth.{exp_depth, hier_rule_depth}
use Rattle.vtl_syntax.specs.Trees.{Exp, if_then, binary, in_set, unary, with_clause, member, component, constant, brackets, function, aggregate, aggregate_over, value_window, shift, rank, set_op, difference, exists_in, time, check, check_datapoint, check_hierarchy, hierarchy, join}
use Rattle.vtl_syntax.specs.declared.statements.HierRule.{HierRule}

pub some_depth : (e : Exp) → 1 ≤ exp_depth e
some_depth (if_then c a b) = omega arith
some_depth (binary l op r) = omega arith
some_depth (in_set e n ls) = omega arith
some_depth (unary op e) = omega arith
some_depth (with_clause e c) = omega arith
some_depth (member e c) = omega arith
some_depth (component c) = omega arith
some_depth (constant c) = omega arith
some_depth (brackets e) = omega arith
some_depth (function f es) = omega arith
some_depth (aggregate f e g h) = omega arith
some_depth (aggregate_over f e o) = omega arith
some_depth (value_window f e o) = omega arith
some_depth (shift f e n l o) = omega arith
some_depth (rank o) = omega arith
some_depth (set_op f es) = omega arith
some_depth (difference f a b) = omega arith
some_depth (exists_in a b r) = omega arith
some_depth (time e call) = omega arith
some_depth (check e err i o) = omega arith
some_depth (check_datapoint e n o) = omega arith
some_depth (check_hierarchy e n r m d o) = omega arith
some_depth (hierarchy e n r m i o) = omega arith
some_depth (join k ps u f m kept rs) = omega arith

pub deeper : (e : Exp) → exp_depth e < exp_depth (brackets e)
deeper e = omega arith

pub rule_depth : (r : HierRule) → 2 ≤ hier_rule_depth r
rule_depth r = omega arith
