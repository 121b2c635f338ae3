-- The queries of `fill_time_series`: the identifiers of all points of the filled series, and a left join of the operand with them.
use Rattle.std.specs.Prelude.{List, [], ◌∷◌, filter, Some, None}
use Rattle.vtl_decimal.specs.Settings.{Settings}
use Rattle.vtl_syntax.specs.declared.word_groups.Filling.{Filling}
use Rattle.vtl_syntax.specs.declared.word_groups.Filling.TheVariants as filling
use Rattle.vtl_tree.specs.Columns.{identifiers_of}
use Rattle.vtl_tree.specs.Structure.{names_of}
use Rattle.vtl_tree.specs.declared.structure.Component.{Component}
use Rattle.vtl_tree.specs.declared.structure.Structure.{Structure}
use Rattle.vtl_timing.specs.Times.{is_time, other_identifiers}
use Rattle.sql_tree.specs.Trees.{QueryTree, Text}
use Rattle.sql_tree.specs.declared.parts.Series.{Series}
use Rattle.sql_tree.specs.declared.parts.Source.{Source}
use Rattle.sql_tree.specs.declared.word_groups.Span.{Span}
use Rattle.sql_tree.specs.declared.word_groups.Span.TheVariants as span
use Rattle.joins_to_sql.specs.FullJoins.{full_query}
use Rattle.selects_to_sql.specs.Items.{own_items}
use Rattle.selects_to_sql.specs.Queries.{first_alias, name_of_first, select_as}

abbrev pub span_of : Filling → Span
span_of filling.Single = span.Single
span_of filling.All = span.All

-- the time, of which there is one
abbrev pub times_of : Structure → List Component
times_of a = filter is_time (identifiers_of a)

-- on the time, by the other identifiers
abbrev pub series_of : Filling → Structure → Series
series_of f a = record { on = name_of_first (times_of a); by = names_of (other_identifiers a); span = span_of f }

abbrev pub series_as : Filling → Structure → (table : Text) → Source
series_as f a table = record { table = table; series = Some (series_of f a); alias = first_alias }

-- the identifiers in their order
abbrev pub fill_keys_query : Filling → Structure → (table : Text) → QueryTree
fill_keys_query f a table = select_as (own_items (identifiers_of a)) (series_as f a table) [] None ∷ []

-- the operand beside them
abbrev pub fill_query : Settings → (a s : Structure) → (keys table : Text) → QueryTree
fill_query p a s keys table = full_query p a (a ∷ []) s (table ∷ []) keys
