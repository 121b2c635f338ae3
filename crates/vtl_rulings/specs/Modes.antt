-- Modes of hierarchical rules: what a missing item counts as, and at which combinations a rule has a point.
use Rattle.std.specs.Prelude.{ℕ, pos, Bool, true, false, not, ◌&&◌, ◌||◌, List, Option}
use Rattle.std.specs.List.{list_all, list_any}
use Rattle.std.specs.Option.{option_map_or}
use Rattle.vtl_cell.specs.Kinds.{is_null}
use Rattle.vtl_cell.specs.Order.{same_cell}
use Rattle.vtl_cell.specs.declared.cell.Cell.{Cell}
use Rattle.vtl_cell.specs.declared.cell.Cell.TheVariants as c
use Rattle.vtl_cell.specs.declared.kind.Kind.{Kind}
use Rattle.vtl_cell.specs.declared.kind.Kind.TheVariants as k
use Rattle.vtl_syntax.specs.declared.word_groups.Mode.{Mode}
use Rattle.vtl_syntax.specs.declared.word_groups.Mode.TheVariants as mode

-- what there is of an item at a combination: the value of its point, or no point
abbrev pub Found : Type 0
Found = Option Cell

-- what there is of each item
abbrev pub Items : Type 0
Items = List ℕ → Found

-- ---- where a rule has a point, by what there is of the items concerned
-- present and not null
abbrev pub is_filled : Found → Bool
is_filled x = option_map_or (λ v. not (is_null v)) x false

abbrev pub is_zero : Cell → Bool
is_zero v = same_cell v (c.Int (pos 0)) || same_cell v (c.Num (pos 0))

-- present, not null and not 0
abbrev pub is_counted : Found → Bool
is_counted x = option_map_or (λ v. not (is_null v) && not (is_zero v)) x false

abbrev pub appears : Mode → List Found → Bool
appears mode.NonNull xs = list_all is_filled xs
appears mode.NonZero xs = list_any is_counted xs
appears mode.PartialNull xs = list_any is_filled xs
appears mode.PartialZero xs = list_any is_filled xs
appears mode.AlwaysNull xs = true
appears mode.AlwaysZero xs = true

-- ---- what an item counts as: its value, and where it is missing null or 0; a null value stays null
abbrev pub zero_of : Kind → Cell
zero_of k.Int = c.Int (pos 0)
zero_of kind = c.Num (pos 0)

abbrev pub missing_as : Mode → Kind → Cell
missing_as mode.NonNull kind = c.Null
missing_as mode.NonZero kind = zero_of kind
missing_as mode.PartialNull kind = c.Null
missing_as mode.PartialZero kind = zero_of kind
missing_as mode.AlwaysNull kind = c.Null
missing_as mode.AlwaysZero kind = zero_of kind

abbrev pub counted : Mode → Kind → Found → Cell
counted m kind x = option_map_or (λ v. v) x (missing_as m kind)
