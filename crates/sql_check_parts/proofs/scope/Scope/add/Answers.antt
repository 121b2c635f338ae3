use Rattle.std.proofs.Common.{◌++◌, ◌∷◌, [], map, option_map, if◌then◌else◌, sym, ap, ◌∙◌}
use Rattle.std.specs.Map.{keys_of}
use Rattle.sql_check_parts.specs.Given.{columns_given}
use Rattle.sql_check_parts.specs.Scopes.{add_source, is_among}
use Rattle.sql_check_parts.proofs.Maps.{map_push, names_kept, put_as, with_value}
use Rattle.sql_check_parts.proofs.scope.Scope.add.Goals as goal

pub put-requires : goal.put-requires
put-requires c =
    let es = c.self.inside.sources in
    let alias = c.args.alias.now in
    ap (λ name. is_among name (keys_of es)) c.in_ok-share.ensures
    ∙ sym (names_kept columns_given alias es)
    ∙ ap (λ l. is_among alias (keys_of l)) c.self.view_is
    ∙ sym c.has.ensures ∙ c.if-has.false

pub returns : goal.returns
returns c =
    let es = c.self.inside.sources in
    let alias = c.args.alias.now in
    let columns = columns_given c.in-Some.columns in
    let free = sym c.has.ensures ∙ c.if-has.false in
    ap (map (with_value columns_given)) (put_as es _ _ alias _ c.in_ok-put.ensures.put c.in_ok-share.ensures)
    ∙ map_push (with_value columns_given) es (alias, c.in-Some.columns)
    ∙ ap (λ l. l ++ (alias, columns) ∷ []) c.self.view_is
    ∙ sym (ap (λ b. if b then c.args.self.now else c.args.self.now ++ (alias, columns) ∷ []) free)
    ∙ sym (ap (λ o. add_source c.args.self.now alias (option_map columns_given o)) c.in-Some.is)
