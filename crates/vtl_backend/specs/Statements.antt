-- The statements of a typed script.
use Rattle.std.specs.Prelude.{Bool, true, false, List, [], ◌∷◌}
use Rattle.vtl_syntax.specs.declared.word_groups.AssignKind.{AssignKind}
use Rattle.vtl_syntax.specs.declared.word_groups.AssignKind.TheVariants as kind
use Rattle.vtl_tree.specs.Trees.{NodeTree}
use Rattle.vtl_scripts.specs.Meaning.{Statement}
use Rattle.vtl_check.specs.Checked.{TypedScript, nodes_of, tree_of}
use Rattle.vtl_check.specs.Transformations.{Transformation, transformations}

-- a result is written where `<-` assigns it
abbrev pub is_written : AssignKind → Bool
is_written kind.Persistent = true
is_written kind.Temporary = false

-- each transformation with its node; a typed script has as many of each
abbrev pub with_nodes : List Transformation → List NodeTree → List Statement
with_nodes (t ∷ ts) (n ∷ ns) = record { result = t.name; persistent = is_written t.kind; node = n } ∷ with_nodes ts ns
with_nodes ts ns = []

abbrev pub statements_of : TypedScript → List Statement
statements_of t = with_nodes (transformations (tree_of t)) (nodes_of t)
