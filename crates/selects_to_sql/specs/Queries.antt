-- Selects over one table and over two, and the queries of forms that are such selects.
use Rattle.std.specs.Prelude.{ℕ, Bool, nat_lt, map, true, false, List, [], ◌∷◌, ◌++◌, length, codes, Option, Some, None, if◌then◌else◌, ◌+◌}
use Rattle.vtl_decimal.specs.Settings.{Settings}
use Rattle.vtl_lists.specs.Balanced.{balanced}
use Rattle.vtl_cell.specs.declared.cell.Cell.TheVariants as c
use Rattle.vtl_cell.specs.declared.kind.Kind.TheVariants as k
use Rattle.vtl_cell.specs.declared.operator.ScalarOp.{ScalarOp}
use Rattle.vtl_cell.specs.declared.operator.ScalarOp.TheVariants as op
use Rattle.vtl_tree.specs.CompExp.{CompExp, call, column, const, comp_exp, no_comp_exps}
use Rattle.vtl_tree.specs.Structure.{columns_of, key_width}
use Rattle.vtl_tree.specs.declared.structure.Component.{Component}
use Rattle.vtl_tree.specs.declared.structure.Structure.{Structure}
use Rattle.vtl_tree.specs.Pairs.{contains}
use Rattle.vtl_tree.specs.Columns.{column_behind, column_named, columns_named, identifiers_of, measures_of}
use Rattle.vtl_meaning.specs.Operators.{calculated_exps, measured_exps, pair_exps}
use Rattle.vtl_tree.specs.Trees.{ItemTree as Target, MeasureTree}
use Rattle.vtl_tree.specs.declared.clauses.SubItem.{SubItem}
use Rattle.sql_tree.specs.Trees.{Text, Exp, ItemTree, JoinTree, QueryTree, SelectTree, expression, on}
use Rattle.sql_tree.specs.declared.parts.Source.{Source}
use Rattle.sql_tree.specs.declared.word_groups.JoinKind.TheVariants as joining
use Rattle.expressions_to_sql.specs.ToSql.{Naming, column_of, of_source, to_sql}
use Rattle.std.specs.Fmt.{decimal}
use Rattle.sql_meaning.specs.Scripts.{dollar}

-- ---- sources and the names of their columns

-- the aliases of the first source and of the second
abbrev pub first_alias : Text
first_alias = codes "a"

abbrev pub second_alias : Text
second_alias = codes "b"

-- that of the source of a number, where there are many
abbrev pub alias_of : ℕ → Text
alias_of i = first_alias ++ dollar ∷ decimal i

abbrev pub source_as : (alias table : Text) → Source
source_as alias table = record { table = table; series = None; alias = alias }

-- the columns of one source
abbrev pub of_one : Naming
of_one = of_source first_alias

-- the columns of two sources, of which the first has n
abbrev pub of_two : ℕ → Naming
of_two n place name = column_of (if nat_lt place n then first_alias else second_alias) name

-- ---- selects

abbrev pub item_as : Text → Exp → ItemTree
item_as name e = record { value = expression e; name = name }

-- an item for each column of the result
abbrev pub items_as : List Exp → List Component → List ItemTree
items_as (e ∷ es) (y ∷ ys) = item_as y.name e ∷ items_as es ys
items_as es ys = []

-- at the rows of its sources at which a condition holds
abbrev pub select_as : List ItemTree → Source → List JoinTree → Option Exp → SelectTree
select_as items source joins condition = record { items = items; source = source; joins = joins; condition = condition; group = []; having = None }

abbrev pub all_to_sql : Settings → Naming → List CompExp → List Exp
all_to_sql p at es = map (to_sql p at) es

abbrev pub condition_for : Settings → Naming → Option CompExp → Option Exp
condition_for p at None = None
condition_for p at (Some e) = Some (to_sql p at e)

-- these expressions as the columns of a structure
abbrev pub select_of : Settings → Naming → List CompExp → Structure → Source → List JoinTree → Option Exp → SelectTree
select_of p at es s source joins condition = select_as (items_as (all_to_sql p at es) (columns_of s)) source joins condition

-- over one table
abbrev pub points_query : Settings → List CompExp → Structure → Option CompExp → (table : Text) → QueryTree
points_query p es s condition table = select_of p of_one es s (source_as first_alias table) [] (condition_for p of_one condition) ∷ []

-- ---- one operand

-- its columns as they are
abbrev pub own_columns : Structure → List CompExp
own_columns a = columns_named (columns_of a) (columns_of a)

abbrev pub copy_query : Settings → (s : Structure) → (table : Text) → QueryTree
copy_query p s table = points_query p (own_columns s) s None table

abbrev pub filter_query : Settings → CompExp → (s : Structure) → (table : Text) → QueryTree
filter_query p e s table = points_query p (own_columns s) s (Some e) table

abbrev pub calc_query : Settings → List Target → (a s : Structure) → (table : Text) → QueryTree
calc_query p items a s table = points_query p (calculated_exps items a s) s None table

abbrev pub measures_query : Settings → MeasureTree → (a s : Structure) → (table : Text) → QueryTree
measures_query p m a s table = points_query p (measured_exps m a s) s None table

-- `keep`, `drop`, `a#m`: the columns that are left
abbrev pub left_query : Settings → (a s : Structure) → (table : Text) → QueryTree
left_query p a s table = points_query p (columns_named (columns_of a) (columns_of s)) s None table

-- the same columns under other names
abbrev pub rename_query : Settings → (a s : Structure) → (table : Text) → QueryTree
rename_query p a s table = points_query p (own_columns a) s None table

-- ---- conditions

abbrev pub both : CompExp → CompExp → CompExp
both e f = call op.And k.Bool (comp_exp e (comp_exp f no_comp_exps))

abbrev pub equal : CompExp → CompExp → CompExp
equal e f = call op.Equal k.Bool (comp_exp e (comp_exp f no_comp_exps))

abbrev pub holds_always : CompExp
holds_always = const (c.Bool true)

-- all of them, joined from the left
abbrev pub conjunction : List CompExp → CompExp
conjunction es = balanced both holds_always es

-- ---- `sub`: the identifiers have these values

abbrev pub has_value : List Component → SubItem → CompExp
has_value xs i = equal (column_named xs i.id) (const i.value)

abbrev pub sub_query : Settings → List SubItem → (a s : Structure) → (table : Text) → QueryTree
sub_query p items a s table = points_query p (columns_named (columns_of a) (columns_of s)) s (Some (conjunction (map (has_value (columns_of a)) items))) table

-- ---- two operands

-- an identifier of the second operand has there the value that it has in the first one, behind whose columns it stands
abbrev pub agrees_on : (xs ys : List Component) → Component → CompExp
agrees_on xs ys y = equal (column_behind (length xs) ys y.name) (column_named xs y.name)

-- the second operand's identifiers have the same values in the first
abbrev pub agree : (a b : Structure) → CompExp
agree a b = conjunction (map (agrees_on (columns_of a) (columns_of b)) (identifiers_of b))

-- the pairs of rows of two tables that agree on the identifiers of the second one
abbrev pub pairs_select : Settings → List CompExp → (a b s : Structure) → Option CompExp → (first second : Text) → SelectTree
pairs_select p es a b s condition first second =
    let at = of_two (length (columns_of a)) in
    select_of p at es s (source_as first_alias first) (on joining.Inner (source_as second_alias second) (to_sql p at (agree a b)) ∷ []) (condition_for p at condition)

-- the operand with all identifiers stands first
abbrev pub pair_query : Settings → ScalarOp → (a b s : Structure) → (first second : Text) → QueryTree
pair_query p o a b s x y =
    if contains a b
    then pairs_select p (pair_exps o a b s) a b s None x y ∷ []
    else pairs_select p (pair_exps o a b s) b a s None y x ∷ []

-- ---- `if` on data sets: the points at which the condition is true from the first operand, the others from the second

abbrev pub name_of_first : List Component → Text
name_of_first [] = []
name_of_first (x ∷ xs) = x.name

-- the measure of the condition
abbrev pub is_chosen : Structure → CompExp
is_chosen t = column (key_width t) (name_of_first (measures_of t)) k.Bool

-- a null condition chooses the second operand
abbrev pub is_not_chosen : Structure → CompExp
is_not_chosen t = call op.If k.Bool (comp_exp (is_chosen t) (comp_exp (const (c.Bool false)) (comp_exp (const (c.Bool true)) no_comp_exps)))

-- the identifiers of the condition and the measures of an operand
abbrev pub chosen_exps : (t other s : Structure) → List CompExp
chosen_exps t other s = columns_named (columns_of t) (identifiers_of s) ++ map (λ y. column_behind (length (columns_of t)) (columns_of other) y.name) (measures_of s)

abbrev pub chosen_select : Settings → CompExp → (t other s : Structure) → (first second : Text) → SelectTree
chosen_select p e t other s x y = pairs_select p (chosen_exps t other s) t other s (Some e) x y

abbrev pub choose_query : Settings → (t a b s : Structure) → (condition first second : Text) → QueryTree
choose_query p t a b s x y z = chosen_select p (is_chosen t) t a s x y ∷ chosen_select p (is_not_chosen t) t b s x z ∷ []
