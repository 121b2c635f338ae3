use Rattle.std.proofs.Common.{◌++◌, ◌∷◌, [], if◌then◌else◌, sym, ap, ◌∙◌}
use Rattle.std.specs.Map.{keys_of}
use Rattle.sql_check_parts.specs.Scopes.{is_among}
use Rattle.sql_check_parts.proofs.Maps.{put_as}
use Rattle.sql_check_parts.proofs.columns.Columns.add.Goals as goal

pub put-requires : goal.put-requires
put-requires c = ap (λ name. is_among name (keys_of c.self.inside.kinds)) c.in_ok-share.ensures ∙ sym c.has.ensures ∙ c.if-has.false

pub returns-then-has : goal.returns-then-has
returns-then-has c =
    let now = c.args.self.now in
    let taken = ap (λ l. is_among c.args.name.now (keys_of l)) (sym c.self.view_is) ∙ sym c.has.ensures ∙ c.if-has.true in
    sym (ap (λ b. if b then now else now ++ (c.args.name.now, c.args.kind) ∷ []) taken)

pub returns : goal.returns
returns c =
    let now = c.args.self.now in
    let free = ap (λ l. is_among c.args.name.now (keys_of l)) (sym c.self.view_is) ∙ sym c.has.ensures ∙ c.if-has.false in
    put_as c.self.inside.kinds _ _ c.args.name.now c.args.kind c.in_ok-put.ensures.put c.in_ok-share.ensures
    ∙ ap (λ l. l ++ (c.args.name.now, c.args.kind) ∷ []) c.self.view_is
    ∙ sym (ap (λ b. if b then now else now ++ (c.args.name.now, c.args.kind) ∷ []) free)
