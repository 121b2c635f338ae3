-- The links of small scripts, worked out.
use Rattle.std.proofs.Common.{◌≡◌, ℕ, true, List, [], ◌∷◌, ◌++◌, map, None, refl}
use Rattle.std.specs.Prelude.{codes, pos}
use Rattle.vtl_cell.specs.declared.cell.Cell.TheVariants as c
use Rattle.vtl_cell.specs.declared.kind.Kind.TheVariants as k
use Rattle.vtl_cell.specs.declared.operator.AggKind.TheVariants as agg
use Rattle.vtl_cell.specs.declared.operator.ScalarOp.TheVariants as op
use Rattle.vtl_tree.specs.CompExp.{CompExp, call, column, comp_exp, const, no_comp_exps}
use Rattle.vtl_tree.specs.Measures.{made}
use Rattle.vtl_tree.specs.Trees as nodes
use Rattle.vtl_tree.specs.Trees.{NodeTree}
use Rattle.vtl_tree.specs.declared.specifications.AggItems.TheVariants as items
use Rattle.vtl_tree.specs.declared.structure.Component.{Component}
use Rattle.vtl_tree.specs.declared.structure.Role.TheVariants as role
use Rattle.vtl_tree.specs.declared.structure.Structure.{Structure}
use Rattle.vtl_scripts.specs.Meaning.{Statement}
use Rattle.vtl_sources.specs.Links.{Linked, links}

abbrev with_components : List Component → Structure
with_components xs = record { components = xs }

abbrev id_1 : Component
id_1 = made (codes "Id_1") role.Identifier k.Text

abbrev id_2 : Component
id_2 = made (codes "Id_2") role.Identifier k.Text

abbrev measure : List ℕ → Component
measure name = made name role.Measure k.Int

-- the only result, which is written
abbrev only : NodeTree → List Statement
only n = record { result = codes "DS_r"; persistent = true; node = n } ∷ []

abbrev input : Structure → NodeTree
input s = nodes.node s (nodes.named (codes "DS_1"))

abbrev links_over : Structure → List Statement → List Linked
links_over s ss = links ((codes "DS_1", s) ∷ []) ss

-- a component of the result, with the components of the input that it depends on
abbrev from : List ℕ → List (List ℕ) → List Linked
from x names = map (λ name. record { output = codes "DS_r"; component = x; dataset = codes "DS_1"; source = name }) names

-- ---- `DS_r <- DS_1[calc a := x / y][filter y <> 0];`
abbrev two_measures : Structure
two_measures = with_components (id_1 ∷ measure (codes "x") ∷ measure (codes "y") ∷ [])

abbrev three_measures : Structure
three_measures = with_components (id_1 ∷ measure (codes "x") ∷ measure (codes "y") ∷ made (codes "a") role.Measure k.Num ∷ [])

abbrev quotient : CompExp
quotient = call op.Divide k.Num (comp_exp (column 1 (codes "x") k.Int) (comp_exp (column 2 (codes "y") k.Int) no_comp_exps))

abbrev not_zero : CompExp
not_zero = call op.NotEqual k.Bool (comp_exp (column 2 (codes "y") k.Int) (comp_exp (const (c.Int (pos 0))) no_comp_exps))

abbrev calculated : NodeTree
calculated = nodes.node three_measures (nodes.calc (input two_measures) (record { role = None; target = codes "a"; value = nodes.scalar quotient } ∷ []))

filtered : links_over two_measures (only (nodes.node three_measures (nodes.filter calculated not_zero)))
    ≡ from (codes "Id_1") (codes "Id_1" ∷ codes "y" ∷ []) ++ from (codes "x") (codes "Id_1" ∷ codes "x" ∷ codes "y" ∷ [])
    ++ from (codes "y") (codes "Id_1" ∷ codes "y" ∷ []) ++ from (codes "a") (codes "Id_1" ∷ codes "x" ∷ codes "y" ∷ [])
filtered = refl

-- ---- `DS_r <- sum(DS_1 group by Id_2);`
abbrev one_measure : Structure
one_measure = with_components (id_1 ∷ id_2 ∷ measure (codes "Me_1") ∷ [])

abbrev by_id_2 : NodeTree
by_id_2 = nodes.node (with_components (id_2 ∷ measure (codes "Me_1") ∷ [])) (nodes.aggregate (input one_measure) (record { items = items.Measures agg.Sum; grouping = codes "Id_2" ∷ []; having = None }))

summed : links_over one_measure (only by_id_2)
    ≡ from (codes "Id_2") (codes "Id_1" ∷ codes "Id_2" ∷ []) ++ from (codes "Me_1") (codes "Id_1" ∷ codes "Id_2" ∷ codes "Me_1" ∷ [])
summed = refl

-- ---- a script without statements
empty : links [] [] ≡ []
empty = refl
