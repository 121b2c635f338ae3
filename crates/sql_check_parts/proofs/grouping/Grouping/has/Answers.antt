use Rattle.std.proofs.Common.{ap, ◌∙◌}
use Rattle.std.specs.FinSet as set
use Rattle.sql_check_parts.specs.Scopes.{column_name}
use Rattle.sql_check_parts.proofs.Grouped.{is_column_among, is_in_group}
use Rattle.sql_check_parts.proofs.grouping.Grouping.has.Goals as goal

pub returns : goal.returns
returns c =
    let keys = c.self.inside.columns.keys in
    let name = column_name c.args.column.now in
    c.contains.ensures
    ∙ ap (λ n. is_column_among n keys) c.in_ok-column_name.ensures
    ∙ is_in_group keys name
    ∙ ap (λ s. set.contains s name) c.self.view_is
