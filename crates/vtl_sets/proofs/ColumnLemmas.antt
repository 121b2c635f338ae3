-- Columns of structures, and the columns of their tables.
use Rattle.std.proofs.Common.{◌≡◌, ◌<◌, ◌≤◌, List, [], ◌∷◌, ◌++◌, cond, length, length-append, map, refl, ap, ◌∙◌, arith}
use Rattle.std.specs.List.{filter}
use Rattle.std.proofs.lemmas.List.{length-map}
use Rattle.vtl_rows.specs.Tables.{column_kinds}
use Rattle.vtl_rows.specs.declared.column.Column.{Column}
use Rattle.vtl_tree.specs.Structure.{columns_of, key_width, of_role, same_role}
use Rattle.vtl_tree.specs.declared.structure.Component.{Component}
use Rattle.vtl_tree.specs.declared.structure.Role.{Role}
use Rattle.vtl_tree.specs.declared.structure.Role.TheVariants as role
use Rattle.vtl_tree.specs.declared.structure.Structure.{Structure}
use Rattle.vtl_sets.specs.TableOf.{column_for, table_columns}

-- ---- how many columns there are
some_of_roles : (x : Component) (a b c : List Component) (r : Role)
    → 1 ≤ length (cond (same_role r role.Identifier) (x ∷ a) a ++ cond (same_role r role.Measure) (x ∷ b) b ++ cond (same_role r role.Attribute) (x ∷ c) c)
some_of_roles x a b c role.Identifier = let l = length-append (x ∷ a ++ b) c in let m = length-append (x ∷ a) b in omega (arith, l, m)
some_of_roles x a b c role.Measure = let l = length-append (a ++ x ∷ b) c in let m = length-append a (x ∷ b) in omega (arith, l, m)
some_of_roles x a b c role.Attribute = let l = length-append (a ++ b) (x ∷ c) in omega (arith, l)

pub some_columns : (xs : List Component) → 1 ≤ length xs → 1 ≤ length (filter (λ x. same_role x.role role.Identifier) xs ++ filter (λ x. same_role x.role role.Measure) xs ++ filter (λ x. same_role x.role role.Attribute) xs)
some_columns [] h = absurd (omega arith)
some_columns (x ∷ xs) h = some_of_roles x (filter (λ y. same_role y.role role.Identifier) xs) (filter (λ y. same_role y.role role.Measure) xs) (filter (λ y. same_role y.role role.Attribute) xs) x.role

pub some_table_columns : (s : Structure) (columns : List Column) → 1 ≤ length s.components → columns ≡ table_columns s → 0 < length columns
some_table_columns s columns h e =
    let some = some_columns s.components h in
    let l = ap length e ∙ length-map (columns_of s) column_for in
    omega (arith, some, l)

pub few_keys : (s : Structure) → key_width s ≤ length (columns_of s)
few_keys s =
    let l = length-append (of_role role.Identifier s ++ of_role role.Measure s) (of_role role.Attribute s) in
    let m = length-append (of_role role.Identifier s) (of_role role.Measure s) in
    omega (arith, l, m)

-- ---- their kinds
pub kinds_of_columns : (xs : List Component) → column_kinds (map column_for xs) ≡ map (λ x. x.kind) xs
kinds_of_columns [] = refl
kinds_of_columns (x ∷ xs) = ap (λ l. x.kind ∷ l) (kinds_of_columns xs)
