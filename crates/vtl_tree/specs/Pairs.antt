-- The identifiers and measures that operators on several data sets give.
use Rattle.std.specs.Prelude.{Bool, List, [], ◌∷◌, codes, if◌then◌else◌}
use Rattle.vtl_cell.specs.declared.kind.Kind.TheVariants as k
use Rattle.vtl_tree.specs.declared.structure.Role.TheVariants as role
use Rattle.vtl_tree.specs.declared.structure.Component.{Component}
use Rattle.vtl_tree.specs.declared.structure.Structure.{Structure}
use Rattle.vtl_tree.specs.Measures.{bool_var, made}
use Rattle.vtl_tree.specs.Operands.{agreed_identifiers, is_there, is_within}
use Rattle.vtl_tree.specs.declared.operands.Compared.TheVariants as compared

-- the first operand's identifiers contain those of the second
abbrev pub contains : Structure → Structure → Bool
contains s t = is_within compared.Kinds role.Identifier t.components s.components

-- the identifiers of the operand that has all of the other's, the left one where they have the same
abbrev pub pair_identifiers : Structure → Structure → List Component
pair_identifiers s t = if contains s t then agreed_identifiers (t ∷ []) s.components else agreed_identifiers (s ∷ []) t.components

-- an identifier that both have under different kinds
abbrev pub is_common : Structure → Component → Bool
is_common t x = is_there compared.Names t.components x

abbrev pub imbalance : Component
imbalance = made (codes "imbalance") role.Measure k.Num

abbrev pub errorcode : Component
errorcode = made (codes "errorcode") role.Measure k.Text

abbrev pub errorlevel : Component
errorlevel = made (codes "errorlevel") role.Measure k.Int

abbrev pub check_measures : List Component
check_measures = bool_var ∷ imbalance ∷ errorcode ∷ errorlevel ∷ []
