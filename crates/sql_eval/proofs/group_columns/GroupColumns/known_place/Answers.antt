use Rattle.std.proofs.Common.{◌∙◌, ap, sym}
use Rattle.std.specs.Map.{lookup}
use Rattle.std.specs.Option.{option_copied}
use Rattle.std.specs.Prelude.{option_and_then}
use Rattle.vtl_text.specs.Texts.{same_text}
use Rattle.sql_meaning.specs.Values.{same_column}
use Rattle.sql_eval.specs.GroupPlaces.{place_from}
use Rattle.sql_eval.proofs.group_columns.GroupColumns.known_place.Goals as goal

pub returns-in_err-named : goal.returns-in_err-named
returns-in_err-named c =
    let x = c.args.column.now in
    c.from_residual.ensures ∙ ap (option_and_then (λ l. lookup (same_text x.name) l)) (sym (ap option_copied c.in_err-named.was) ∙ c.get.ensures)
    ∙ c.self.invariant x ∙ ap (place_from (same_column x) 0) c.self.view_is

pub returns : goal.returns
returns c =
    let x = c.args.column.now in
    c.copied.ensures ∙ c.get-2.ensures ∙ ap (option_and_then (λ l. lookup (same_text x.name) l)) (sym (ap option_copied c.in_ok-named.was) ∙ c.get.ensures)
    ∙ c.self.invariant x ∙ ap (place_from (same_column x) 0) c.self.view_is
