-- When the look-ups of a grouped select may be asked at a group.
use Rattle.std.specs.Prelude.{◌≡◌}
use Rattle.vtl_cell.specs.Row.{Row}
use Rattle.sql_meaning.specs.Profiles.{IsRowOfProfile}
use Rattle.sql_from.specs.declared.tuple_rows.TupleRows.{TupleRows}
use Rattle.sql_groups.specs.declared.group_partners.GroupPartners.{GroupPartners}

-- they are over the tables and the sources of these rows, and the key is of their profile
pub record MayAsk (rows : TupleRows) (x : GroupPartners) (key : Row) : Type 0 where
  pub held : x.keys.held ≡ rows.sources.held
  pub sources : x.rows ≡ rows.sources
  pub ranged : IsRowOfProfile x.keys.settings key
