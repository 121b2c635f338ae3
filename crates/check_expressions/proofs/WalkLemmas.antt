-- The typing of joins and of aggregates, part by part.
use denote.Param.Weighed.{most}
use Rattle.std.proofs.Common.{rules, ◌≡◌, ◌<◌, ◌||◌, ◌∙◌, ap, subst, sym, List, [], map, Option, None, Some, Result, Ok, Box, Vec, Global}
use Rattle.std.specs.Option.{is_some, option_map}
use Rattle.vtl_syntax.proofs.expressions.Expr.TheLaws as expr_laws
use Rattle.vtl_syntax.proofs.expressions.JoinPart.TheLaws as part_laws
use Rattle.vtl_syntax.specs.Trees as tree
use Rattle.vtl_syntax.specs.Trees.{maybe_targets, parts_of}
use Rattle.vtl_syntax.specs.View.{expr_tree, part_tree, targets_tree}
use Rattle.vtl_syntax.specs.declared.expressions.Clause as clause
use Rattle.vtl_syntax.specs.declared.expressions.Expr as expr
use Rattle.vtl_syntax.specs.declared.expressions.Expr.{Expr}
use Rattle.vtl_syntax.specs.declared.expressions.Targets as targets
use Rattle.vtl_syntax.specs.declared.expressions.Targets.{Targets}
use Rattle.vtl_syntax.specs.declared.expressions.CalcPart as calc
use Rattle.vtl_syntax.specs.declared.expressions.JoinPart as join
use Rattle.vtl_syntax.specs.declared.expressions.JoinPart.{JoinPart}
use Rattle.vtl_syntax.specs.declared.parts.Comp.{Comp}
use Rattle.vtl_syntax.specs.declared.parts.GroupPart.{GroupPart}
use Rattle.vtl_syntax.specs.declared.parts.Keeping.{Keeping}
use Rattle.vtl_syntax.specs.declared.parts.RenamePart.{RenamePart}
use Rattle.vtl_syntax.specs.declared.word_groups.AggregateName.{AggregateName}
use Rattle.vtl_syntax.specs.declared.word_groups.JoinKind.{JoinKind}
use Rattle.vtl_tree.specs.Trees.{NodeTree, OperandTree}
use Rattle.vtl_lists.specs.Results.{◌>>=◌}
use Rattle.check_faults.specs.declared.rules.Rule.{Rule}
use Rattle.check_operators.specs.Places.{in_aggregate}
use Rattle.check_operators.specs.Typed.{TypedTree}
use Rattle.check_operators.specs.declared.places.Joined.{Joined}
use Rattle.check_operators.specs.declared.places.Place.{Place}
use Rattle.check_clauses.specs.JoinOperands.{PartTyped, joined_of, operands_in}
use Rattle.check_expressions.specs.Rulings.{Sight}
use Rattle.check_expressions.specs.Typing.{filtered_join, grouped_of, has_exp, having_typed, join_end, maybe_typed, parts_typed, typed}
use Rattle.check_expressions.specs.WalkView.{maybe_tree}

pub ruleset views = (expr.the_lemmas, clause.the_lemmas, targets.the_lemmas, calc.the_lemmas, join.the_lemmas)

-- the tree of a join
join_tree : (kind : JoinKind) (ops : Vec JoinPart Global) (u : Option (List Comp)) (f : Option (Box Expr Global)) (m : Option Targets) (k : Option Keeping) (rs : Option (List RenamePart)) → expr_tree (expr.Join kind ops u f m k rs) ≡ tree.join kind (parts_of (map part_tree ops.items)) u (maybe_tree f) (maybe_targets (option_map targets_tree m)) k rs
join_tree kind ops u None None k rs = search (rules, views)
join_tree kind ops u None (Some m) k rs = search (rules, views)
join_tree kind ops u (Some f) None k rs = search (rules, views)
join_tree kind ops u (Some f) (Some m) k rs = search (rules, views)

chain : {A B C D : Type 0} (p : Result A Rule) (f : A → Result B Rule) (g : B → Result C Rule) (h : B → C → Result D Rule) (x : A) (y : B) (r : Result C Rule) → p ≡ Ok x → f x ≡ Ok y → g y ≡ r → ((p >>= f) >>= λ b. g b >>= h b) ≡ (r >>= h y)
chain p f g h x y r hp hf hg =
    ap (λ r. (r >>= f) >>= λ b. g b >>= h b) hp ∙ ap (λ r. r >>= λ b. g b >>= h b) hf ∙ ap (λ r. r >>= h y) hg

-- by what the join with its filter gives
pub join_typed : (env : Sight) (at : Place) (e : Expr) (kind : JoinKind) (ops : Vec JoinPart Global) (u : Option (List Comp)) (f : Option (Box Expr Global)) (m : Option Targets) (k : Option Keeping) (rs : Option (List RenamePart)) → e ≡ expr.Join kind ops u f m k rs → (items : List JoinPart) → items ≡ ops.items → (parts : List PartTyped) (os : List OperandTree) (j : Option Joined) (r : Result NodeTree Rule) → parts_typed env [] (parts_of (map part_tree items)) ≡ Ok parts → operands_in parts ≡ Ok os → j ≡ Some (joined_of kind os) → filtered_join env j (maybe_tree f) kind u os ≡ r → typed env at (expr_tree e) ≡ (r >>= join_end env j (maybe_targets (option_map targets_tree m)) k rs)
join_typed env at e kind ops u f m k rs is items same parts os j r h1 h2 hj h3 =
    ap (λ x. typed env at (expr_tree x)) is
    ∙ ap (typed env at) (join_tree kind ops u f m k rs)
    ∙ chain (parts_typed env [] (parts_of (map part_tree ops.items))) operands_in (λ os. filtered_join env (Some (joined_of kind os)) (maybe_tree f) kind u os) (λ os a. join_end env (Some (joined_of kind os)) (maybe_targets (option_map targets_tree m)) k rs a) parts os r (ap (λ l. parts_typed env [] (parts_of (map part_tree l))) (sym same) ∙ h1) h2 (ap (λ i. filtered_join env i (maybe_tree f) kind u os) (sym hj) ∙ h3)
    ∙ ap (λ i. r >>= join_end env i (maybe_targets (option_map targets_tree m)) k rs) (sym hj)

-- the operands of a join are less deep than the join
less_deep : (kind : JoinKind) (ops : Vec JoinPart Global) (u : Option (List Comp)) (f : Option (Box Expr Global)) (m : Option Targets) (k : Option Keeping) (rs : Option (List RenamePart)) → most (λ x. part_laws.the_size x) ops.items < expr_laws.the_size (expr.Join kind ops u f m k rs)
less_deep kind ops u f m k rs = search (rules, expr.the_lemmas)

pub parts_less_deep : (e : Expr) (kind : JoinKind) (ops : Vec JoinPart Global) (u : Option (List Comp)) (f : Option (Box Expr Global)) (m : Option Targets) (k : Option Keeping) (rs : Option (List RenamePart)) → e ≡ expr.Join kind ops u f m k rs → (items : List JoinPart) → items ≡ ops.items → most (λ x. part_laws.the_size x) items < expr_laws.the_size e
parts_less_deep e kind ops u f m k rs is items same =
    subst (λ (x : Expr). most (λ x. part_laws.the_size x) items < expr_laws.the_size x) (sym is)
    (subst (λ l. most (λ x. part_laws.the_size x) l < expr_laws.the_size (expr.Join kind ops u f m k rs)) (sym same) (less_deep kind ops u f m k rs))

-- the tree of an aggregate
aggregate_tree : (f : AggregateName) (e : Option (Box Expr Global)) (g : Option GroupPart) (h : Option (Box Expr Global)) → expr_tree (expr.Aggregate f e g h) ≡ tree.aggregate f (maybe_tree e) g (maybe_tree h)
aggregate_tree f None g None = search (rules, views)
aggregate_tree f None g (Some h) = search (rules, views)
aggregate_tree f (Some e) g None = search (rules, views)
aggregate_tree f (Some e) g (Some h) = search (rules, views)

pub aggregate_typed : (env : Sight) (at : Place) (e : Expr) (f : AggregateName) (operand : Option (Box Expr Global)) (group : Option GroupPart) (having : Option (Box Expr Global)) → e ≡ expr.Aggregate f operand group having → (x : Option TypedTree) → maybe_typed env (in_aggregate at) (maybe_tree operand) ≡ Ok x → typed env at (expr_tree e) ≡ grouped_of at f (maybe_tree operand) group (is_some group || has_exp (maybe_tree having)) (λ groups. having_typed env groups (maybe_tree having)) x
aggregate_typed env at e f operand group having is x typed_so =
    ap (λ x. typed env at (expr_tree x)) is
    ∙ ap (typed env at) (aggregate_tree f operand group having)
    ∙ ap (λ r. r >>= grouped_of at f (maybe_tree operand) group (is_some group || has_exp (maybe_tree having)) (λ groups. having_typed env groups (maybe_tree having))) typed_so
