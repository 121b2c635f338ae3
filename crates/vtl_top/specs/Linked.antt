-- The links of a script as CSV.
use Rattle.std.specs.Prelude.{List, [], ◌∷◌, map, Ok, chars, codes}
use Rattle.vtl_cell.specs.Row.{Row}
use Rattle.vtl_cell.specs.declared.cell.Cell.TheVariants as c
use Rattle.vtl_cell.specs.declared.kind.Kind.TheVariants as k
use Rattle.vtl_rows.specs.declared.column.Column.{Column}
use Rattle.vtl_csv.specs.TableText.{rows_text}
use Rattle.vtl_check.specs.Transformations.{transformations}
use Rattle.vtl_check.specs.Uses.{reads}
use Rattle.vtl_backend.specs.Statements.{with_nodes}
use Rattle.vtl_sources.specs.Links.{Linked, links}
use Rattle.vtl_top.specs.Expected.{Typed, typed_step}
use Rattle.vtl_top.specs.Steps.{Step, Text, ◌>>=◌, settled}
use Rattle.vtl_top.specs.Words.{Source}

abbrev pub link_column : Text → Column
link_column name = record { name = chars name; kind = k.Text }

abbrev pub link_columns : List Column
link_columns = link_column (codes "output") ∷ link_column (codes "component") ∷ link_column (codes "dataset") ∷ link_column (codes "source") ∷ []

abbrev pub link_row : Linked → Row
link_row l = c.Text l.output ∷ c.Text l.component ∷ c.Text l.dataset ∷ c.Text l.source ∷ []

abbrev pub links_of : Typed → List Linked
links_of t = links (reads t.structures t.nodes) (with_nodes (transformations t.tree) t.nodes)

-- a header, and a record for each link
abbrev pub lineage_text : Typed → Text
lineage_text t = rows_text t.settings link_columns (map link_row (links_of t))

-- the links of the script of a source, as that of a run before its inputs
abbrev pub lineage_step : Source → Step Text
lineage_step s = typed_step s >>= λ t. settled (Ok (lineage_text t))
