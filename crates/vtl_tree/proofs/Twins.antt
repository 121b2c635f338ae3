-- Components that two operands share.
use Rattle.std.proofs.Common.{◌≡◌, true, false, List, Option, Some, None, refl}
use Rattle.std.proofs.lemmas.Bool.{and_parts, false≢true}
use Rattle.std.specs.Option.{option_map_or}
use Rattle.vtl_cell.specs.Kinds.{same_kind}
use Rattle.vtl_cell.specs.declared.kind.Kind.{Kind}
use Rattle.vtl_cell.specs.declared.kind.Kind.TheVariants as k
use Rattle.vtl_tree.specs.Structure.{same_role}
use Rattle.vtl_tree.specs.declared.structure.Component.{Component}
use Rattle.vtl_tree.specs.declared.structure.Role.{Role}
use Rattle.vtl_tree.specs.declared.structure.Role.TheVariants as role
use Rattle.vtl_tree.specs.Names.{component_of}
use Rattle.vtl_tree.specs.Operands.{is_alike, is_there}
use Rattle.vtl_tree.specs.declared.operands.Compared.{Compared}
use Rattle.vtl_tree.specs.declared.operands.Compared.TheVariants as compared

pub kinds-same : (a b : Kind) → same_kind a b ≡ true → a ≡ b
kinds-same k.Null k.Null e = refl
kinds-same k.Bool k.Bool e = refl
kinds-same k.Int k.Int e = refl
kinds-same k.Num k.Num e = refl
kinds-same k.Text k.Text e = refl
kinds-same k.Day k.Day e = refl
kinds-same k.Period k.Period e = refl
kinds-same a b e = absurd (false≢true e)

pub roles-same : (a b : Role) → same_role a b ≡ true → a ≡ b
roles-same role.Identifier role.Identifier e = refl
roles-same role.Measure role.Measure e = refl
roles-same role.Attribute role.Attribute e = refl
roles-same a b e = absurd (false≢true e)

-- ---- a component of the same name
abbrev pub IsKindOf : Compared → Kind → Kind → Type 0
IsKindOf compared.Names a b = Unit {0}
IsKindOf compared.Kinds a b = a ≡ b

pub record HasTwin (c : Compared) (ys : List Component) (x : Component) : Type 0 where
  pub twin : Component
  pub found : component_of x.name ys ≡ Some twin
  pub role : x.role ≡ twin.role
  pub kind : IsKindOf c x.kind twin.kind

pub there-twin : (c : Compared) (ys : List Component) (x : Component) → is_there c ys x ≡ true → HasTwin c ys x
there-twin c ys x e = go (component_of x.name ys) refl e
  where
    alike : (c : Compared) (y : Component) → is_alike c x y ≡ true → (x.role ≡ y.role) × IsKindOf c x.kind y.kind
    alike compared.Names y e = (roles-same x.role y.role e, tt)
    alike compared.Kinds y e = let parts = and_parts (same_role x.role y.role) (same_kind x.kind y.kind) e in (roles-same x.role y.role parts.0, kinds-same x.kind y.kind parts.1)

    go : (o : Option Component) → component_of x.name ys ≡ o → option_map_or (is_alike c x) o false ≡ true → HasTwin c ys x
    go None h e = absurd (false≢true e)
    go (Some y) h e = let parts = alike c y e in record { twin = y; found = h; role = parts.0; kind = parts.1 }
