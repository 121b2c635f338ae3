-- Short forms in which the examples write trees, rows and tables.
use Rattle.std.proofs.Common.{ℕ, pos, List, [], ◌∷◌, None}
use Rattle.std.specs.Prelude.{Option, codes, if◌then◌else◌}
use Rattle.vtl_cell.specs.Row.{Row}
use Rattle.vtl_text.specs.Texts.{same_text}
use Rattle.vtl_cell.specs.declared.cell.Cell.{Cell}
use Rattle.vtl_cell.specs.declared.cell.Cell.TheVariants.{Int}
use Rattle.vtl_cell.specs.declared.kind.Kind.TheVariants as k
use Rattle.vtl_cell.specs.declared.operator.ScalarOp.TheVariants as op
use Rattle.vtl_decimal.specs.declared.settings.Rounding.TheVariants.{HalfUp}
use Rattle.sql_tree.specs.Trees as tree
use Rattle.sql_tree.specs.Trees.{Exp, ItemTree, JoinTree, SelectTree, Text}
use Rattle.sql_tree.specs.declared.parts.Column.{Column}
use Rattle.sql_tree.specs.declared.parts.Constant.TheVariants as constant
use Rattle.sql_tree.specs.declared.parts.Numeral.TheVariants as numeral
use Rattle.sql_tree.specs.declared.parts.Source.{Source}
use Rattle.sql_tree.specs.declared.windows.Window.{Window}
use Rattle.sql_check_parts.specs.Scopes.{Columns}
use Rattle.sql_meaning.specs.Tables.{Base}

abbrev pub source : Text → Text → Source
source table alias = record { table = table; series = None; alias = alias }

-- ---- two sources, of the tables T and S

abbrev pub t : Source
t = source (codes "T") (codes "t")

abbrev pub s : Source
s = source (codes "S") (codes "s")

abbrev pub of_t : Text → Column
of_t name = record { source = codes "t"; name = name }

abbrev pub of_s : Text → Column
of_s name = record { source = codes "s"; name = name }

abbrev pub in_t : Text → Exp
in_t name = tree.column (of_t name)

abbrev pub in_s : Text → Exp
in_s name = tree.column (of_s name)

-- ---- expressions and items

abbrev pub int : Text → Exp
int digits = tree.constant (constant.Number (numeral.Int digits))

abbrev pub num : Text → Exp
num digits = tree.constant (constant.Number (numeral.Dec digits))

abbrev pub false_exp : Exp
false_exp = tree.constant constant.False

abbrev pub one_by_zero : Exp
one_by_zero = tree.binary (int (codes "1")) op.Divide (int (codes "0"))

abbrev pub item : Text → Exp → ItemTree
item name e = record { value = tree.expression e; name = name }

abbrev pub window : Text → Window → ItemTree
window name w = record { value = tree.window w; name = name }

-- a select from T that is not grouped
abbrev pub plain : List ItemTree → List JoinTree → Option Exp → SelectTree
plain items joins condition = record { items = items; source = t; joins = joins; condition = condition; group = []; having = None }

-- ---- values

abbrev pub number : ℕ → Cell
number n = Int (pos n)

-- the columns "k" and "v", both INTEGER
abbrev pub key_and_value : Columns
key_and_value = (codes "k", k.Int) ∷ (codes "v", k.Int) ∷ []

abbrev pub pair_of : Cell → Cell → Row
pair_of a b = a ∷ b ∷ []

-- T and S with these rows, at scale 2
abbrev pub base : List Row → List Row → Base
base ours theirs = record {
  settings = record { scale = 2; rounding = HalfUp };
  tables = (codes "T", key_and_value) ∷ (codes "S", key_and_value) ∷ [];
  rows = λ name. if same_text name (codes "T") then ours else theirs;
}
