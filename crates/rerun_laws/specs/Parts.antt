-- Parts of a script: each transformation as a script of its own.
use Rattle.std.specs.Prelude.{◌≡◌, ℕ, pred, Bool, nat_lt, ◌==◌, List, [], ◌∷◌, ◌++◌, take, Option, Some, None, slice_get, if◌then◌else◌}
use Rattle.std.specs.List.{list_any}
use Rattle.vtl_syntax.specs.Trees as tree
use Rattle.vtl_syntax.specs.Trees.{ScriptTree, StatementTree}
use Rattle.vtl_syntax.specs.declared.word_groups.AssignKind.TheVariants as assigned
use Rattle.vtl_tree.specs.Structures.{Named}
use Rattle.vtl_tree.specs.Trees.{NodeTree, structure_of}
use Rattle.vtl_check.specs.Checked.{TypedScript, nodes_of, tree_of}
use Rattle.vtl_check.specs.Transformations.{Transformation, transformations}

-- ---- as it is written
-- the definitions of rulesets among statements
abbrev pub definitions_in : ScriptTree → ScriptTree
definitions_in [] = []
definitions_in (tree.assignment name kind e ∷ ss) = definitions_in ss
definitions_in (definition ∷ ss) = definition ∷ definitions_in ss

-- a transformation, written with `<-`
abbrev pub persistent : Option StatementTree → ScriptTree
persistent None = []
persistent (Some (tree.assignment name kind e)) = tree.assignment name assigned.Persistent e ∷ []
persistent (Some definition) = []

-- The transformation of a number as a script of its own: the definitions before it, and the transformation alone, written with `<-`.
-- Numbers count all statements from 1.
abbrev pub part_tree : ℕ → ScriptTree → ScriptTree
part_tree number script = definitions_in (take (pred number) script) ++ persistent (slice_get script (pred number))

-- the number is that of a transformation
abbrev pub is_transformation : ℕ → ScriptTree → Bool
is_transformation number script = list_any (λ t. t.number == number) (transformations script)

-- ---- as it is typed
-- the data sets that are known, and behind them the results of the transformations with lower numbers
abbrev pub known_before : ℕ → Named → List Transformation → List NodeTree → Named
known_before number known (t ∷ ts) (n ∷ ns) = if nat_lt t.number number then known_before number (known ++ (t.name, structure_of n) ∷ []) ts ns else known
known_before number known ts ns = known

-- the node of the transformation of a number
abbrev pub nodes_at : ℕ → List Transformation → List NodeTree → List NodeTree
nodes_at number (t ∷ ts) (n ∷ ns) = if t.number == number then n ∷ [] else nodes_at number ts ns
nodes_at number ts ns = []

-- The typed script of a transformation alone: it is typed over the declared data sets and the results of earlier transformations, and
-- no component of these is promised to be never null; its node is the one that it has in the whole.
pub record IsPart (t : TypedScript) (number : ℕ) (part : TypedScript) : Type 0 where
  pub tree : tree_of part ≡ part_tree number (tree_of t)
  pub declared : part.declared ≡ known_before number t.declared (transformations (tree_of t)) (nodes_of t)
  pub not_null : part.not_null ≡ t.not_null
  pub settings : part.settings ≡ t.settings
  pub nodes : nodes_of part ≡ nodes_at number (transformations (tree_of t)) (nodes_of t)
