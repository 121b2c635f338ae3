-- The queries of joins: one select over all operands, each a source behind those before it.
use Rattle.std.specs.Prelude.{ℕ, zero, suc, ◌+◌, ◌-◌, nat_lt, List, [], ◌∷◌, ◌++◌, map, length, slice_get, Option, Some, None, Ok, if◌then◌else◌}
use Rattle.std.specs.List.{flat_map}
use Rattle.vtl_cell.specs.Outcome.{Outcome}
use Rattle.vtl_cell.specs.Row.{Row}
use Rattle.vtl_decimal.specs.Settings.{Settings}
use Rattle.vtl_tree.specs.Clauses.{filter_of}
use Rattle.vtl_tree.specs.CompExp.{CompExp}
use Rattle.vtl_tree.specs.Structure.{columns_of}
use Rattle.vtl_tree.specs.declared.structure.Component.{Component}
use Rattle.vtl_tree.specs.declared.structure.Structure.{Structure}
use Rattle.vtl_tree.specs.Columns.{common_identifiers, column_behind, column_named, identifiers_of, measures_of}
use Rattle.vtl_meaning.specs.Made.{attributes_of}
use Rattle.sql_tree.specs.Trees.{JoinTree, QueryTree, SelectTree, Text, cross, on}
use Rattle.sql_tree.specs.declared.word_groups.JoinKind.{JoinKind}
use Rattle.expressions_to_sql.specs.ToSql.{Naming, column_of, to_sql}
use Rattle.selects_to_sql.specs.Queries.{condition_for, conjunction, equal, select_of, source_as, alias_of}

-- ---- many sources

-- the columns of sources that are numbered from here, of which each has so many
abbrev pub of_many : ℕ → (widths : List ℕ) → Naming
of_many i [] place name = column_of (alias_of i) name
of_many i (w ∷ ws) place name = if nat_lt place w then column_of (alias_of i) name else of_many (suc i) ws (place - w) name

abbrev pub width_of : Structure → ℕ
width_of a = length (columns_of a)

-- ---- operands among the columns of all sources

-- an operand behind so many columns
pub record Placed : Type 0 where
  pub before : ℕ
  pub structure : Structure

abbrev pub placed_at : ℕ → Structure → Placed
placed_at n a = record { before = n; structure = a }

-- one behind the other
abbrev pub placed_from : ℕ → List Structure → List Placed
placed_from n [] = []
placed_from n (a ∷ ss) = placed_at n a ∷ placed_from (n + width_of a) ss

-- in their order, where the one at this place stands before all others
abbrev pub placed_around : (place : ℕ) → ℕ → List Structure → List Placed
placed_around i n [] = []
placed_around zero n (a ∷ ss) = placed_at 0 a ∷ placed_from n ss
placed_around (suc i) n (a ∷ ss) = placed_at n a ∷ placed_around i (n + width_of a) ss

-- all but the one at this place
abbrev pub without : {X : Type 0} → (place : ℕ) → List X → List X
without i [] = []
without zero (x ∷ xs) = xs
without (suc i) (x ∷ xs) = x ∷ without i xs

-- some columns of each operand
abbrev pub columns_at : (Structure → List Component) → Placed → List CompExp
columns_at f o = map (λ y. column_behind o.before (columns_of o.structure) y.name) (f o.structure)

abbrev pub columns_in : (Structure → List Component) → List Placed → List CompExp
columns_in f os = flat_map (columns_at f) os

-- the identifiers of some operands, then the measures of all, and then the attributes
abbrev pub joined_exps : (ids all : List Placed) → List CompExp
joined_exps ids all = columns_in identifiers_of ids ++ columns_in measures_of all ++ columns_in attributes_of all

-- ---- the joins

-- a column of an operand has the value that the column of its name has in the first source
abbrev pub tied_to : (first : List Component) → Placed → Component → CompExp
tied_to first o z = equal (column_behind o.before (columns_of o.structure) z.name) (column_named first z.name)

-- all of these columns
abbrev pub all_tied : (first : List Component) → (Structure → List Component) → Placed → CompExp
all_tied first f o = conjunction (map (tied_to first o) (f o.structure))

-- each operand where these columns of it have the first source's values
abbrev pub joins_on : Settings → JoinKind → Naming → (first : List Component) → (Structure → List Component) → ℕ → List Placed → List Text → List JoinTree
joins_on p kind at first f i (o ∷ os) (x ∷ xs) = on kind (source_as (alias_of i) x) (to_sql p at (all_tied first f o)) ∷ joins_on p kind at first f (suc i) os xs
joins_on p kind at first f i os xs = []

abbrev pub many_at : (first : List Component) → List Structure → Naming
many_at first ss = of_many 0 (length first ∷ map width_of ss)

-- a first source, and operands that are joined with it, at the rows at which a condition holds, where there is one
abbrev pub chain_select : Settings → JoinKind → (first : List Component) → (Structure → List Component) → List Structure → List CompExp → Structure → (condition : Option CompExp) → (table : Text) → (tables : List Text) → SelectTree
chain_select p kind first f ss es s condition x xs =
    let at = many_at first ss in
    select_of p at es s (source_as (alias_of 0) x) (joins_on p kind at first f 1 (placed_from (length first) ss) xs) (condition_for p at condition)

-- the rows that such a condition leaves
abbrev pub where_of : Settings → (condition : Option CompExp) → List Row → Outcome (List Row)
where_of p None rows = Ok rows
where_of p (Some e) rows = filter_of p e rows

-- ---- `inner_join` and `left_join`: each other operand joined with the reference

abbrev pub from_reference : Settings → JoinKind → (place : ℕ) → List Structure → Structure → List Text → Option Structure → Option Text → QueryTree
from_reference p kind i ss s xs (Some r) (Some x) =
    let es = joined_exps (placed_at 0 r ∷ []) (placed_around i (width_of r) ss) in
    chain_select p kind (columns_of r) (common_identifiers r) (without i ss) es s None x (without i xs) ∷ []
from_reference p kind i ss s xs r x = []

-- the reference is the operand at this place
abbrev pub reference_query : Settings → JoinKind → (place : ℕ) → List Structure → Structure → List Text → QueryTree
reference_query p kind i ss s xs = from_reference p kind i ss s xs (slice_get ss i) (slice_get xs i)

-- ---- `cross_join`: each point with each

abbrev pub crosses : ℕ → List Text → List JoinTree
crosses i [] = []
crosses i (x ∷ xs) = cross (source_as (alias_of i) x) ∷ crosses (suc i) xs

abbrev pub cross_query : Settings → List Structure → Structure → List Text → QueryTree
cross_query p ss s [] = []
cross_query p ss s (x ∷ xs) =
    let all = placed_from 0 ss in
    select_of p (of_many 0 (map width_of ss)) (joined_exps all all) s (source_as (alias_of 0) x) (crosses 1 xs) None ∷ []
