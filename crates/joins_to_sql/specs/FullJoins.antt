-- The queries of a full join: the identifiers of all operands, each tuple of them once, and a left join of each operand with them.
use Rattle.std.specs.Prelude.{true, List, [], ◌∷◌, codes, None}
use Rattle.vtl_decimal.specs.Settings.{Settings}
use Rattle.vtl_cell.specs.declared.cell.Cell.TheVariants as c
use Rattle.vtl_cell.specs.declared.kind.Kind.TheVariants as k
use Rattle.vtl_tree.specs.CompExp.{CompExp, const}
use Rattle.vtl_tree.specs.Structure.{columns_of, names_of}
use Rattle.vtl_tree.specs.declared.structure.Component.{Component}
use Rattle.vtl_tree.specs.declared.structure.Role.TheVariants as role
use Rattle.vtl_tree.specs.declared.structure.Structure.{Structure}
use Rattle.vtl_tree.specs.Columns.{common_identifiers, columns_named, identifiers_of}
use Rattle.sql_tree.specs.Trees.{QueryTree, SelectTree, Text}
use Rattle.sql_tree.specs.declared.word_groups.JoinKind.TheVariants as joining
use Rattle.expressions_to_sql.specs.ToSql.{group_columns}
use Rattle.joins_to_sql.specs.Joins.{chain_select, joined_exps, placed_at, placed_from, width_of}
use Rattle.selects_to_sql.specs.Queries.{all_to_sql, first_alias, items_as, of_one, own_columns, select_of, source_as}
use Rattle.selects_to_sql.specs.Groups.{grouped_as}

-- ---- tables of identifiers

-- a table has a column: where there are no identifiers, one that is always true
abbrev pub spare : Component
spare = record { name = codes "there"; role = role.Measure; kind = k.Bool; codes = None }

abbrev pub or_spare : List Component → List Component
or_spare [] = spare ∷ []
or_spare (x ∷ xs) = x ∷ xs

-- the identifiers of the reference
abbrev pub key_structure : Structure → Structure
key_structure r = record { components = or_spare (identifiers_of r) }

-- of an operand, which has them too
abbrev pub key_exps : List Component → Structure → List CompExp
key_exps [] a = const (c.Bool true) ∷ []
key_exps (x ∷ xs) a = columns_named (columns_of a) (x ∷ xs)

abbrev pub key_select : Settings → (r a : Structure) → (table : Text) → SelectTree
key_select p r a x = select_of p of_one (key_exps (identifiers_of r) a) (key_structure r) (source_as first_alias x) [] None

-- of all operands
abbrev pub keys_query : Settings → (r : Structure) → List Structure → List Text → QueryTree
keys_query p r (a ∷ ss) (x ∷ xs) = key_select p r a x ∷ keys_query p r ss xs
keys_query p r ss xs = []

-- each row of a table once
abbrev pub once_query : Settings → (t : Structure) → (table : Text) → QueryTree
once_query p t x = grouped_as (items_as (all_to_sql p of_one (own_columns t)) (columns_of t)) (source_as first_alias x) (group_columns first_alias (names_of (columns_of t))) None ∷ []

-- ---- the operands beside the identifiers

-- each operand where it has the table's values of those identifiers that it has: in a full join it has them all
abbrev pub full_query : Settings → (r : Structure) → List Structure → Structure → (tables : List Text) → (keys : Text) → QueryTree
full_query p r ss s xs x =
    let t = key_structure r in
    chain_select p joining.Left (columns_of t) (λ a. common_identifiers a t) ss (joined_exps (placed_at 0 t ∷ []) (placed_from (width_of t) ss)) s None x xs ∷ []
