-- Kinds, and which values belong to one.
use Rattle.std.specs.Prelude.{Bool, true, false}
use Rattle.vtl_cell.specs.declared.cell.Cell.{Cell}
use Rattle.vtl_cell.specs.declared.cell.Cell.TheVariants as c
use Rattle.vtl_cell.specs.declared.kind.Kind.{Kind}
use Rattle.vtl_cell.specs.declared.kind.Kind.TheVariants as k

abbrev pub is_null : Cell → Bool
is_null c.Null = true
is_null (c.Bool x) = false
is_null (c.Int x) = false
is_null (c.Num x) = false
is_null (c.Text x) = false
is_null (c.Day x) = false
is_null (c.Period x) = false

-- the kind of a value
abbrev pub kind_of : Cell → Kind
kind_of c.Null = k.Null
kind_of (c.Bool x) = k.Bool
kind_of (c.Int x) = k.Int
kind_of (c.Num x) = k.Num
kind_of (c.Text x) = k.Text
kind_of (c.Day x) = k.Day
kind_of (c.Period x) = k.Period

-- null, or a value of exactly this kind
abbrev pub is_of : Kind → Cell → Bool
is_of k.Bool (c.Bool x) = true
is_of k.Int (c.Int x) = true
is_of k.Num (c.Num x) = true
is_of k.Text (c.Text x) = true
is_of k.Day (c.Day x) = true
is_of k.Period (c.Period x) = true
is_of kind c.Null = true
is_of kind cell = false

-- an integer and a number are two kinds
abbrev pub same_kind : Kind → Kind → Bool
same_kind k.Null k.Null = true
same_kind k.Bool k.Bool = true
same_kind k.Int k.Int = true
same_kind k.Num k.Num = true
same_kind k.Text k.Text = true
same_kind k.Day k.Day = true
same_kind k.Period k.Period = true
same_kind a b = false
