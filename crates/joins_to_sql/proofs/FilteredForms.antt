-- The filter of a join, as it is written.
use Rattle.std.proofs.Common.{◌≡◌, ℕ, zero, suc, min, List, [], ◌∷◌, length, map, take, Option, None, Some, refl, ap, arith}
use Rattle.std.specs.Prelude.{option_map}
use Rattle.vtl_decimal.specs.Settings.{Settings}
use Rattle.vtl_tree.specs.CompExp.{CompExp}
use Rattle.vtl_tree.specs.declared.structure.Component.{Component}
use Rattle.sql_tree.specs.Trees.{ItemTree, JoinTree}
use Rattle.sql_tree.specs.declared.parts.Source.{Source}
use Rattle.expressions_to_sql.specs.ToSql.{to_sql}
use Rattle.joins_to_sql.specs.FilteredJoins.{filtered_by, shown_by, shown_column}
use Rattle.joins_to_sql.specs.JoinItems.{column_picked, picked_column}
use Rattle.joins_to_sql.specs.declared.join_items.Picked.{Picked}
use Rattle.selects_to_sql.specs.Queries.{items_as, select_as}

-- of no operands there is no query
pub none_filtered : (p : Settings) (c : Option CompExp) → filtered_by p c [] ≡ []
none_filtered p None = refl
none_filtered p (Some e) = refl

-- one select has the condition
pub one_filtered : (p : Settings) (c : Option CompExp) (items : List ItemTree) (source : Source) (joins : List JoinTree) → filtered_by p c (select_as items source joins None ∷ []) ≡ select_as items source joins (option_map (to_sql p (shown_by items)) c) ∷ []
one_filtered p None items source joins = refl
one_filtered p (Some e) items source joins = refl

-- the columns that it shows are those that were picked
shown_up_to : (n : ℕ) (ps : List Picked) (ys : List Component) → n ≡ min (length ps) (length ys) → map shown_column (items_as (map picked_column ps) ys) ≡ map column_picked (take n ps)
shown_up_to zero [] ys e = refl
shown_up_to (suc n) [] ys e = refl
shown_up_to zero (q ∷ ps) [] e = refl
shown_up_to (suc n) (q ∷ ps) [] e = absurd (omega (arith, e))
shown_up_to zero (q ∷ ps) (y ∷ ys) e = absurd (omega (arith, e))
shown_up_to (suc n) (q ∷ ps) (y ∷ ys) e = ap (λ l. column_picked q ∷ l) (shown_up_to n ps ys (omega (arith, e)))

pub picked_shown : (ps : List Picked) (ys : List Component) → map shown_column (items_as (map picked_column ps) ys) ≡ map column_picked (take (min (length ps) (length ys)) ps)
picked_shown ps ys = shown_up_to (min (length ps) (length ys)) ps ys refl
