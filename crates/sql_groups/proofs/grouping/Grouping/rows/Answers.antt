use Rattle.std.proofs.Common.{sym, ap, ◌∙◌}
use Rattle.sql_groups.specs.Grouped.{grouped_in}
use Rattle.sql_groups.specs.Kept.{rows_of}
use Rattle.sql_groups.proofs.GroupLemmas.{rows_are}
use Rattle.sql_groups.proofs.grouping.Grouping.rows.Goals as goal

pub returns-in-Keyed : goal.returns-in-Keyed
returns-in-Keyed c =
    let rows = rows_of c.self.inside.rows.now in
    c.rows.ensures
    ∙ rows_are c.in-Keyed.places.items rows c.in-Keyed.groups c.args.self.now c.args.group (ap (grouped_in rows) (sym c.in-Keyed.is) ∙ c.self.view_is) c.requires
