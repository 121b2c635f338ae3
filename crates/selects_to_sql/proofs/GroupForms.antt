-- The columns of groups, as they are written.
use Rattle.std.proofs.Common.{◌≡◌, List, [], ◌∷◌, refl, ap}
use Rattle.vtl_tree.specs.Structure.{names_of}
use Rattle.vtl_tree.specs.declared.structure.Component.{Component}
use Rattle.expressions_to_sql.specs.ToSql.{column_of, group_columns}
use Rattle.selects_to_sql.specs.Queries.{first_alias}
use Rattle.selects_to_sql.specs.Groups.{group_of}

pub group_written : (xs : List Component) → group_columns first_alias (names_of xs) ≡ group_of xs
group_written [] = refl
group_written (x ∷ xs) = ap (λ l. column_of first_alias x.name ∷ l) (group_written xs)
