-- The kinds of a query's columns are those to which the kinds of its items are lifted.
use Rattle.std.proofs.Common.{List, [], ◌∷◌}
use Rattle.std.specs.List.{AllByRecursion}
use Rattle.vtl_decimal.specs.Settings.{Settings}
use Rattle.vtl_cell.specs.declared.kind.Kind.{Kind}
use Rattle.sql_tree.specs.Trees.{QueryTree}
use Rattle.sql_check_parts.specs.Queries as typing
use Rattle.sql_check_parts.specs.Queries.{query_columns}
use Rattle.sql_check_parts.specs.Scopes.{Tables}
use Rattle.sql_check_laws.specs.Selects.{IsQueryTyped}
use Rattle.sql_meaning.specs.Tables.{kinds_of}
use Rattle.sql_meaning.proofs.Lists.{under}
use Rattle.sql_meaning.proofs.SharedKinds.{Lifted, all_lifted}
use Rattle.sql_groups.specs.Resolved.{AreLifted}

are_lifted : (kinds own : List Kind) → Lifted kinds own → AreLifted kinds own
are_lifted [] [] up = tt
are_lifted [] (o ∷ os) up = up
are_lifted (x ∷ xs) [] up = up
are_lifted (x ∷ xs) (o ∷ os) up = (up.0, are_lifted xs os up.1)

pub all_are_lifted : (p : Settings) (tables : Tables) (q : QueryTree) → IsQueryTyped p tables q → AllByRecursion (λ s. AreLifted (kinds_of (query_columns tables q)) (typing.kinds_of tables s)) q
all_are_lifted p tables q h =
    under (λ s up. are_lifted (kinds_of (query_columns tables q)) (typing.kinds_of tables s) up) q
    (all_lifted (record { settings = p; tables = tables; rows = λ name. [] }) q h)
