use Rattle.std.proofs.Common.{◌++◌, ◌∷◌, [], ap, ◌∙◌}
use Rattle.std.specs.Map.{keys_of}
use Rattle.sql_check_parts.specs.Scopes.{is_among}
use Rattle.sql_check_parts.specs.Statements.{Given}
use Rattle.sql_check_parts.proofs.Maps.{map_push}
use Rattle.sql_check.proofs.statements.put_export.Goals as goal

pub put-requires : goal.put-requires
put-requires c = ap (λ name. is_among name (keys_of c.args.given.now.exported)) c.in_ok-share.ensures ∙ c.requires
