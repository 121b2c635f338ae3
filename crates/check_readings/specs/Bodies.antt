-- The body of a join as clauses, and clauses one after the other.
use Rattle.std.specs.Prelude.{List, [], ◌∷◌, ◌++◌, Option, Some, None, Result, Ok}
use Rattle.vtl_lists.specs.Results.{◌>>=◌}
use Rattle.vtl_syntax.specs.Trees as tree
use Rattle.vtl_syntax.specs.Trees.{ClauseTree, Exp, MaybeExp, MaybeTargets, Parts}
use Rattle.vtl_syntax.specs.declared.parts.Comp.{Comp}
use Rattle.vtl_syntax.specs.declared.parts.Keeping.{Keeping}
use Rattle.vtl_syntax.specs.declared.parts.RenamePart.{RenamePart}
use Rattle.vtl_syntax.specs.declared.word_groups.JoinKind.{JoinKind}
use Rattle.vtl_tree.specs.Trees.{NodeTree, OperandTree}
use Rattle.check_faults.specs.declared.rules.Rule.{Rule}
use Rattle.check_operators.specs.Places.{at_points}
use Rattle.check_operators.specs.Typed.{TypedTree, dataset_in}
use Rattle.check_operators.specs.declared.places.Joined.{Joined}
use Rattle.check_operators.specs.declared.places.Place.TheVariants as place
use Rattle.check_clauses.specs.Clauses.{filter_form, keeping_form, pivot_of, renaming_form, sub_form, unpivot_of}
use Rattle.check_clauses.specs.JoinOperands.{joined_node, joined_of, last_naming, operands_in}
use Rattle.check_expressions.specs.Rulings.{Sight}
use Rattle.check_expressions.specs.Typing.{as_dataset, parts_typed, targets_typed, typed}

-- ---- the clauses of a body: `filter`, `calc` or `aggr`, `keep` or `drop`, `rename`, as far as they are written
abbrev pub filters : MaybeExp → List ClauseTree
filters tree.no_exp = []
filters (tree.some_exp e) = tree.filter e ∷ []

abbrev pub targets : MaybeTargets → List ClauseTree
targets tree.no_targets = []
targets (tree.some_targets m) = tree.targets m ∷ []

abbrev pub keepings : Option Keeping → List ClauseTree
keepings None = []
keepings (Some k) = tree.keeping k ∷ []

abbrev pub renamings : Option (List RenamePart) → List ClauseTree
renamings None = []
renamings (Some rs) = tree.rename rs ∷ []

abbrev pub body_clauses : MaybeExp → MaybeTargets → Option Keeping → Option (List RenamePart) → List ClauseTree
body_clauses f m k rs = filters f ++ (targets m ++ (keepings k ++ renamings rs))

-- ---- clauses in turn
-- a clause on a data set, or on a joined set, where names may stand behind the aliases of its operands
abbrev pub clause_among : Sight → Option Joined → NodeTree → ClauseTree → Result NodeTree Rule
clause_among env j n (tree.filter e) = typed env (place.Inside (at_points j n)) e >>= filter_form n
clause_among env j n (tree.targets m) = targets_typed env j n m
clause_among env j n (tree.keeping k) = keeping_form j n k
clause_among env j n (tree.rename rs) = renaming_form j n rs
clause_among env j n (tree.sub ss) = sub_form env.settings n ss
clause_among env j n (tree.pivot id m) = pivot_of id m n
clause_among env j n (tree.unpivot id m) = unpivot_of id m n

-- each on what the one before gives
abbrev pub in_turn : Sight → Option Joined → NodeTree → List ClauseTree → Result NodeTree Rule
in_turn env j n [] = Ok n
in_turn env j n (c ∷ cs) = clause_among env j n c >>= λ a. in_turn env j a cs

-- clauses in brackets behind an expression
abbrev pub in_brackets : Exp → List ClauseTree → Exp
in_brackets e [] = e
in_brackets e (c ∷ cs) = in_brackets (tree.with_clause e c) cs

-- the joined set with clauses in turn, and the names that are still behind an alias without it
abbrev pub body_typed : Sight → JoinKind → Option (List Comp) → List ClauseTree → List OperandTree → Result TypedTree Rule
body_typed env kind u cs os = joined_node kind u os >>= λ n. as_dataset (in_turn env (Some (joined_of kind os)) n cs >>= last_naming (joined_of kind os))

-- a join: its operands, the joined set, and clauses in turn
abbrev pub join_in_turn : Sight → JoinKind → Parts → Option (List Comp) → List ClauseTree → Result TypedTree Rule
join_in_turn env kind ps u cs = parts_typed env [] ps >>= operands_in >>= body_typed env kind u cs

-- a data set, and clauses in turn
abbrev pub chain_in_turn : Sight → Exp → List ClauseTree → Result TypedTree Rule
chain_in_turn env e cs = typed env place.Outside e >>= dataset_in >>= λ n. as_dataset (in_turn env None n cs)
