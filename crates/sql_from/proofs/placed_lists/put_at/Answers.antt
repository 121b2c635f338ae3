use Rattle.std.proofs.Common.{◌∙◌, ◌++◌, ◌∷◌, [], ap}
use Rattle.std.proofs.lemmas.List.{get_or_default}
use Rattle.sql_from.proofs.PlacedLists.{none_put, one_put}
use Rattle.sql_from.proofs.placed_lists.put_at.Goals as goal

pub returns-then-place-lists : goal.returns-then-place-lists
returns-then-place-lists g c = none_put c.args.place c.args.item c.args.lists.now c.if-place-lists.true

pub returns : goal.returns
returns g c =
    let lists = c.args.lists.now in
    one_put c.args.place c.args.item lists c.push.new.self c.if-place-lists.false
    (λ other. c.in_ok-push.ensures.items ∙ ap (λ v. v.items ++ c.args.item ∷ []) (get_or_default lists c.args.place c.index-lists-place.result other c.if-place-lists.false))
