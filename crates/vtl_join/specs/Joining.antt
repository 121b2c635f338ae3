-- Joins in the making, as contracts see them.
use Rattle.std.specs.Prelude.{◌≡◌, ◌⊎◌, ℕ, List, map, Option}
use Rattle.vtl_syntax.specs.declared.word_groups.JoinKind.{JoinKind}
use Rattle.vtl_syntax.specs.declared.word_groups.JoinKind.TheVariants as join
use Rattle.vtl_tree.specs.Environment.{DataSet}
use Rattle.vtl_tree.specs.declared.joins.Operand as joins
use Rattle.vtl_join.specs.declared.joined.Operand.{Operand}

-- the kind of the steps, none before the first one, and the operands with their aliases
pub record Joining : Type 0 where
  pub kind : Option JoinKind
  pub operands : List Operand

abbrev pub sets_of : List Operand → List DataSet
sets_of os = map (λ o. o.set) os

-- the operands as typing sees them: their structures, each under its alias
abbrev pub typed_operands : List Operand → List joins.Operand
typed_operands os = map (λ o. record { alias = o.alias; structure = o.set.structure }) os

abbrev pub named : DataSet → List ℕ → Operand
named d alias = record { set = d; alias = alias }

-- joins in which each row of a reference finds a row of each other operand, or none
abbrev pub IsBeside : JoinKind → Type 0
IsBeside kind = (kind ≡ join.Inner) ⊎ (kind ≡ join.Left)
