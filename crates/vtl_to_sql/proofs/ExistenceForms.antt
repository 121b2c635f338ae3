-- The query of `exists_in`, as it is written.
use Rattle.std.proofs.Common.{◌≡◌, [], ◌∷◌, ◌++◌, ap}
use Rattle.vtl_decimal.specs.Settings.{Settings}
use Rattle.vtl_syntax.specs.declared.word_groups.Retain.{Retain}
use Rattle.vtl_tree.specs.Structure.{columns_of}
use Rattle.vtl_tree.specs.declared.structure.Structure.{Structure}
use Rattle.vtl_tree.specs.Columns.{common_identifiers, identifiers_of}
use Rattle.sql_tree.specs.Trees.{Text}
use Rattle.vtl_to_sql.specs.Existences.{retained_matches, shown_matches}
use Rattle.selects_to_sql.specs.Items.{from_one}
use Rattle.selects_to_sql.specs.NamedItems.{own_columns}
use Rattle.vtl_to_sql.specs.Sets.{existence_query}
use Rattle.selects_to_sql.specs.Queries.{items_as}
use Rattle.selects_to_sql.proofs.NamedItems.{own_written}

pub existence_written : (p : Settings) (kept : Retain) (a b s : Structure) (x y : Text)
    → existence_query p kept a b s x y
    ≡ from_one (items_as (own_columns (identifiers_of s) ++ shown_matches kept (common_identifiers a b) y ∷ []) (columns_of s)) (retained_matches kept (common_identifiers a b) y) x ∷ []
existence_written p kept a b s x y =
    let ids = common_identifiers a b in
    ap (λ l. from_one (items_as (l ++ shown_matches kept ids y ∷ []) (columns_of s)) (retained_matches kept ids y) x ∷ []) (own_written p (columns_of a) (identifiers_of s))
