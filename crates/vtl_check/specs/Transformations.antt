-- The transformations of a script: its assignments, in order. Definitions of rulesets are passed over, but they are counted.
use Rattle.std.specs.Prelude.{ℕ, suc, List, [], ◌∷◌}
use Rattle.vtl_syntax.specs.Trees as tree
use Rattle.vtl_syntax.specs.Trees.{Exp, ScriptTree}
use Rattle.vtl_syntax.specs.declared.word_groups.AssignKind.{AssignKind}

-- a statement that assigns: its number among all statements of the script, counted from 1, and its parts
pub record Transformation : Type 0 where
  pub number : ℕ
  pub name : List ℕ
  pub kind : AssignKind
  pub value : Exp

-- those among statements of which the first has this number
abbrev pub transformations_from : ℕ → ScriptTree → List Transformation
transformations_from i [] = []
transformations_from i (tree.assignment name kind e ∷ ss) = record { number = i; name = name; kind = kind; value = e } ∷ transformations_from (suc i) ss
transformations_from i (definition ∷ ss) = transformations_from (suc i) ss

abbrev pub transformations : ScriptTree → List Transformation
transformations script = transformations_from 1 script
