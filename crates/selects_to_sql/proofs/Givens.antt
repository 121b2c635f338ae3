-- The columns of a structure as those of a table.
use Rattle.std.proofs.Common.{◌≡◌, ◌≤◌, ◌+◌, true, false, cond, List, [], ◌∷◌, ◌++◌, length, map, Some, refl, arith, length-append}
use Rattle.std.specs.List.{AllByRecursion, filter}
use Rattle.vtl_lists.specs.Apart.{all_apart}
use Rattle.vtl_cell.specs.declared.kind.Kind.{Kind}
use Rattle.vtl_cell.specs.declared.kind.Kind.TheVariants as k
use Rattle.vtl_cell.specs.Literals.{is_null_kind}
use Rattle.vtl_tree.specs.Structure.{columns_of, names_of, of_role, same_name, same_role}
use Rattle.vtl_tree.specs.Structures as structures
use Rattle.vtl_tree.specs.declared.structure.Component.{Component}
use Rattle.vtl_tree.specs.declared.structure.Role.{Role}
use Rattle.vtl_tree.specs.declared.structure.Role.TheVariants as role
use Rattle.vtl_tree.specs.declared.structure.Structure.{Structure}
use Rattle.vtl_meaning.specs.Shapes.{IsShaped}
use Rattle.vtl_meaning.proofs.OwnColumns.{columns_apart}
use Rattle.vtl_meaning.proofs.FoundColumns.{of-columns}
use Rattle.sql_check_laws.specs.Selects.{IsColumnKind}
use Rattle.sql_check_parts.specs.Queries.{most_columns}
use Rattle.selects_to_sql.specs.Writable.{HaveNames}

abbrev pub kinds_in : List Component → List Kind
kinds_in ys = map (λ y. y.kind) ys

-- ---- the columns of a structure as those of a table

pub record AreGiven (ys : List Component) : Type 0 where
  pub apart : all_apart same_name (names_of ys) ≡ true
  pub kinds : AllByRecursion (λ y. is_null_kind y.kind ≡ false) ys
  pub few : length ys ≤ most_columns
  pub some : 1 ≤ length ys
  pub named : HaveNames ys

kind_told : (kind : Kind) → structures.is_null_kind kind ≡ false → is_null_kind kind ≡ false
kind_told k.Null h = cc
kind_told k.Bool h = refl
kind_told k.Int h = refl
kind_told k.Num h = refl
kind_told k.Text h = refl
kind_told k.Day h = refl
kind_told k.Period h = refl

kinds_told : (xs : List Component) → AllByRecursion (λ x. structures.is_null_kind x.kind ≡ false) xs → AllByRecursion (λ x. is_null_kind x.kind ≡ false) xs
kinds_told [] all = tt
kinds_told (x ∷ xs) all = (kind_told x.kind all.0, kinds_told xs all.1)

abbrev with_role : Role → List Component → List Component
with_role r xs = filter (λ x. same_role x.role r) xs

as_many : (xs : List Component) → length (with_role role.Identifier xs) + (length (with_role role.Measure xs) + length (with_role role.Attribute xs)) ≡ length xs
as_many [] = refl
as_many (x ∷ xs) = go x.role (as_many xs)
  where
    put : Role → Role → List Component
    put r t = cond (same_role r t) (x ∷ with_role t xs) (with_role t xs)

    go : (r : Role) → length (with_role role.Identifier xs) + (length (with_role role.Measure xs) + length (with_role role.Attribute xs)) ≡ length xs → length (put r role.Identifier) + (length (put r role.Measure) + length (put r role.Attribute)) ≡ length (x ∷ xs)
    go role.Identifier ih = omega (arith, ih)
    go role.Measure ih = omega (arith, ih)
    go role.Attribute ih = omega (arith, ih)

-- there are as many columns as components
pub columns_count : (s : Structure) → length (columns_of s) ≡ length s.components
columns_count s =
    let size = as_many s.components in
    let one = length-append (of_role role.Identifier s) (of_role role.Measure s) in
    let two = length-append (of_role role.Identifier s ++ of_role role.Measure s) (of_role role.Attribute s) in
    omega (arith, size, one, two)

pub columns_given : (s : Structure) → IsShaped s → HaveNames (columns_of s) → AreGiven (columns_of s)
columns_given s w named =
    let size = columns_count s in
    let low = w.well_formed.some in
    let high = w.well_formed.few in
    record {
      apart = columns_apart s w.well_formed;
      kinds = of-columns (λ x. is_null_kind x.kind ≡ false) s (kinds_told s.components w.kinds);
      few = omega (arith, size, high);
      some = omega (arith, size, low);
      named = named;
    }

-- no column of it is null alone
pub no_null : (ys : List Component) → AllByRecursion (λ y. is_null_kind y.kind ≡ false) ys → AllByRecursion IsColumnKind (map Some (kinds_in ys))
no_null [] all = tt
no_null (y ∷ ys) all = (all.0, no_null ys all.1)
