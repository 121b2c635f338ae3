use Rattle.std.proofs.Common.{◌++◌, ◌∷◌, [], if◌then◌else◌, length, sym, ap, ◌∙◌}
use Rattle.std.specs.Map.{keys_of}
use Rattle.sql_check_parts.specs.Scopes.{is_among}
use Rattle.sql_check_parts.proofs.Maps.{put_as}
use Rattle.sql_from.proofs.series_names.put_once.Goals as goal

pub put-requires : goal.put-requires
put-requires c = ap (λ name. is_among name (keys_of c.args.names.now)) c.in_ok-share.ensures ∙ sym c.has.ensures ∙ c.if-has.false

pub returns-then-has : goal.returns-then-has
returns-then-has c = sym (ap (λ b. if b then c.args.names.now else c.args.names.now ++ (c.args.name.now, length c.args.names.now) ∷ []) (sym c.has.ensures ∙ c.if-has.true))

pub returns : goal.returns
returns c =
    put_as c.args.names.now _ _ c.args.name.now _ c.in_ok-put.ensures.put c.in_ok-share.ensures
    ∙ ap (λ n. c.args.names.now ++ (c.args.name.now, n) ∷ []) c.len-number.ensures
    ∙ sym (ap (λ b. if b then c.args.names.now else c.args.names.now ++ (c.args.name.now, length c.args.names.now) ∷ []) (sym c.has.ensures ∙ c.if-has.false))
