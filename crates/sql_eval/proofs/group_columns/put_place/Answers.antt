use Rattle.std.proofs.lemmas.Result.{on_ok_weaker}
use Rattle.sql_eval.proofs.GroupPlaces.{place_put}
use Rattle.sql_eval.proofs.group_columns.put_place.Goals as goal

pub returns : goal.returns
returns c =
    on_ok_weaker c.set_named-2.result
    (λ sourced x. place_put c.args.places.now c.names_of-named.new.places c.set_named-2.new.named c.names_of-named.result c.set_named.new.named c.args.column.now c.args.place
    c.names_of-named.ensures.names c.names_of-named.ensures.others c.in_ok-set_named.ensures sourced x)
    c.set_named-2.ensures
