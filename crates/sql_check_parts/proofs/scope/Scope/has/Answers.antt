use Rattle.std.proofs.Common.{ap, sym, ◌∙◌}
use Rattle.std.specs.Map.{keys_of}
use Rattle.sql_check_parts.specs.Given.{columns_given}
use Rattle.sql_check_parts.specs.Scopes.{is_among}
use Rattle.sql_check_parts.proofs.Maps.{names_kept}
use Rattle.sql_check_parts.proofs.scope.Scope.has.Goals as goal

pub returns : goal.returns
returns c =
    let alias = c.args.alias.now in
    c.has.ensures ∙ sym (names_kept columns_given alias c.self.inside.sources) ∙ ap (λ es. is_among alias (keys_of es)) c.self.view_is
