use Rattle.std.proofs.Common.{◌∙◌, None, ap, cond}
use Rattle.vtl_index.specs.Keys.{is_at}
use Rattle.vtl_index.specs.Places.{in_others}
use Rattle.vtl_index.proofs.places.Places.behind.Goals as goal

pub returns : goal.returns
returns c =
    c.in_others.ensures
    ∙ ap (λ b. cond b None (in_others (is_at c.args.keys.now.cells.now c.args.keys.now.width c.args.keys.now.count c.args.key.now) c.args.key.now c.args.self.now.others)) c.if-has_free.ensures
