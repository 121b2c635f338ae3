-- The selects of set operators, as they are written.
use Rattle.std.proofs.Common.{◌≡◌, Option, ap}
use Rattle.vtl_decimal.specs.Settings.{Settings}
use Rattle.vtl_tree.specs.Structure.{columns_of}
use Rattle.vtl_tree.specs.declared.structure.Structure.{Structure}
use Rattle.sql_tree.specs.Trees.{Exp, Text}
use Rattle.selects_to_sql.specs.Items.{for_each_two, from_one, renamed_item}
use Rattle.vtl_to_sql.specs.Sets.{shown_select}
use Rattle.selects_to_sql.proofs.Forms.{columns_renamed}

pub shown_written : (p : Settings) (a s : Structure) (table : Text) (condition : Option Exp) → shown_select p a s table condition ≡ from_one (for_each_two renamed_item (columns_of s) (columns_of s)) condition table
shown_written p a s table condition = ap (λ l. from_one l condition table) (columns_renamed p (columns_of a) (columns_of s) (columns_of s))
