-- Items of selects, each of which has the name of the next column of a result.
use Rattle.std.specs.Prelude.{◌≡◌, ◌++◌, List, map}
use Rattle.vtl_tree.specs.declared.structure.Component.{Component}
use Rattle.sql_tree.specs.Trees.{Exp}
use Rattle.sql_tree.specs.View.{item_tree}
use Rattle.sql_tree.specs.declared.statements.Item.{Item}
use Rattle.selects_to_sql.specs.Items.{first_column}
use Rattle.selects_to_sql.specs.Queries.{items_as}

-- items for some expressions become items for these and others
abbrev pub AreNext : (old new : List Item) → List Exp → List Component → Type 0
AreNext old new fs ys = (es : List Exp) → map item_tree old ≡ items_as es ys → map item_tree new ≡ items_as (es ++ fs) ys

-- columns of the first source
abbrev pub own_columns : List Component → List Exp
own_columns xs = map (λ x. first_column x.name) xs
