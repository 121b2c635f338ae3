use Rattle.std.proofs.Common.{option_map, ap, ◌∙◌, sym}
use Rattle.std.specs.Map.{lookup}
use Rattle.std.proofs.lemmas.Map.Made.{lookup-map_values}
use Rattle.vtl_text.specs.Texts.{same_text}
use Rattle.sql_check_parts.specs.Given.{columns_given}
use Rattle.sql_check_parts.proofs.scope.Scope.columns.Goals as goal

pub returns : goal.returns
returns c =
    let test = same_text c.args.alias.now in
    ap (option_map columns_given) c.get.ensures
    ∙ sym (lookup-map_values columns_given test c.self.inside.sources)
    ∙ ap (lookup test) c.self.view_is
