-- Joins, behind their operands.
use Rattle.std.specs.Prelude.{ℕ, Bool, List, [], ◌∷◌, ◌++◌, Option, Some, None, Result, Ok, Err, map, filter}
use Rattle.std.specs.Option.{is_some, option_map}
use Rattle.vtl_syntax.specs.Trees as tree
use Rattle.vtl_syntax.specs.Trees.{Exp}
use Rattle.vtl_syntax.specs.declared.parts.Comp.{Comp}
use Rattle.vtl_syntax.specs.declared.parts.Comp.TheVariants as comp
use Rattle.vtl_syntax.specs.declared.word_groups.JoinKind.{JoinKind}
use Rattle.vtl_tree.specs.declared.structure.Component.{Component}
use Rattle.check_joins.specs.Joins as joins
use Rattle.vtl_tree.specs.Joins as held
use Rattle.vtl_tree.specs.declared.joins.Operand.{Operand}
use Rattle.vtl_tree.specs.Trees as nodes
use Rattle.vtl_tree.specs.Trees.{NodeTree, OperandTree, operands_of, structure_of}
use Rattle.vtl_lists.specs.Results.{◌>>=◌}
use Rattle.check_faults.specs.Rules.{ruled}
use Rattle.check_faults.specs.declared.rules.Rule.{Rule}
use Rattle.check_faults.specs.declared.rules.Rule.TheVariants as rule
use Rattle.vtl_tree.specs.Names.{component_of, is_among, name_of}
use Rattle.vtl_tree.specs.declared.renaming.Renaming.{Renaming}
use Rattle.check_operators.specs.Typed.{TypedTree, components_in, dataset_in}
use Rattle.check_operators.specs.declared.places.Joined.{Joined}
use Rattle.check_clauses.specs.Clauses.{made_of, renamed_of}

-- an operand that is typed, with its alias
pub record PartTyped : Type 0 where
  pub operand : TypedTree
  pub alias : List ℕ

abbrev pub aliases_in : List PartTyped → List (List ℕ)
aliases_in done = map (λ x. x.alias) done

-- a plain name is its own alias
abbrev pub own_alias : Exp → Result (List ℕ) Rule
own_alias (tree.component (comp.Name name)) = Ok name
own_alias e = Err rule.JoinMisuse

abbrev pub alias_of : Exp → Option (List ℕ) → Result (List ℕ) Rule
alias_of e (Some alias) = Ok alias
alias_of e None = own_alias e

-- the alias of one more operand behind others: it has one, which none before it has
abbrev pub new_alias : List PartTyped → Exp → Option (List ℕ) → Result (List ℕ) Rule
new_alias done e a = alias_of e a >>= λ alias. ruled ((rule.RepeatedName, is_among alias (aliases_in done)) ∷ []) alias

-- one more operand behind others
unfoldable pub with_part : List PartTyped → Exp → Option (List ℕ) → TypedTree → Result (List PartTyped) Rule
with_part done e a x = new_alias done e a >>= λ alias. Ok (done ++ record { operand = x; alias = alias } ∷ [])

-- an operand has to be a data set
abbrev pub operand_in : PartTyped → Result OperandTree Rule
operand_in x = dataset_in x.operand >>= λ n. Ok (record { node = n; alias = x.alias })

abbrev pub operands_in : List PartTyped → Result (List OperandTree) Rule
operands_in [] = Ok []
operands_in (x ∷ xs) = operand_in x >>= λ o. operands_in xs >>= λ os. Ok (o ∷ os)

abbrev pub shape_of : OperandTree → Operand
shape_of o = record { alias = o.alias; structure = structure_of o.node }

abbrev pub joined_of : JoinKind → List OperandTree → Joined
joined_of kind os = record { kind = kind; operands = map shape_of os; held = held.held_names kind (map shape_of os) }

abbrev pub using_names : Option (List Comp) → Option (List (List ℕ))
using_names u = option_map (map name_of) u

-- the joined set
unfoldable pub joined_node : JoinKind → Option (List Comp) → List OperandTree → Result NodeTree Rule
joined_node kind u os =
    joins.join_form kind (using_names u) (map shape_of os)
    >>= made_of (nodes.join (operands_of os) (record { kind = kind; using = using_names u }))

-- the names behind an alias that are left at the end of the body become names without
abbrev pub is_left : List Component → Renaming → Bool
is_left xs r = is_some (component_of r.from xs)

abbrev pub left_names : Joined → List Component → List Renaming
left_names j xs = filter (is_left xs) (held.last_renamings j.kind j.held j.operands)

-- the last naming, which each join has
unfoldable pub last_naming : Joined → NodeTree → Result NodeTree Rule
last_naming j n = renamed_of n (left_names j (components_in n))
