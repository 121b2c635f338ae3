use Rattle.std.proofs.Common.{◌∙◌, None, Some, ap, length, sym}
use Rattle.sql_eval.proofs.GroupPlaces.{place_found}
use Rattle.sql_eval.proofs.group_columns.GroupColumns.place.Goals as goal

pub returns-in-Some : goal.returns-in-Some
returns-in-Some c = place_found c.args.column.now c.args.self.now (Some c.in-Some.place) (sym c.in-Some.is ∙ c.known_place.ensures)

pub returns-in-None : goal.returns-in-None
returns-in-None c = ap (λ l. length l) c.self.view_is ∙ place_found c.args.column.now c.args.self.now None (sym c.in-None.is ∙ c.known_place.ensures)
