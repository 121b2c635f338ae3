use Rattle.std.proofs.Common.{◌++◌, ◌∷◌, [], ap, sym, ◌∙◌}
use Rattle.std.specs.List.{list_any}
use Rattle.std.specs.Map.{keys_of, set_value}
use Rattle.vtl_text.specs.Texts.{same_text}
use Rattle.check_rules.proofs.SideLemmas.{on_ok}
use Rattle.check_rules.proofs.Maps.{noted_again, noted_first, unnoted}
use Rattle.check_rules.proofs.places.note.Goals as goal

pub put-requires : goal.put-requires
put-requires c =
    ap (λ t. list_any (same_text t) (keys_of c.replace.new.self)) c.in_ok-share-in-None.ensures
    ∙ unnoted c.args.item.now c.args.place c.args.places.now c.args.places.now c.replace.new.self (sym c.in-None.is ∙ c.replace.ensures.before)
    (c.replace.ensures.replaced ∙ ap (set_value (same_text c.args.item.now) c.args.places.now) (c.of.ensures ∙ c.new.ensures.items))

pub returns-in_ok-push-in-Some : goal.returns-in_ok-push-in-Some
returns-in_ok-push-in-Some c =
    noted_again c.args.item.now c.args.place c.args.places.now c.replace-in-Some.new.self c.in-Some.noted c.into_vec-noted.result.items c.of-in-Some.result c.replace.new.self (sym c.in-Some.is ∙ c.replace.ensures.before)
    (c.replace.ensures.replaced ∙ ap (set_value (same_text c.args.item.now) c.args.places.now) (c.of.ensures ∙ c.new.ensures.items))
    c.into_vec-noted.ensures (c.of-in-Some.ensures ∙ c.in_ok-push-in-Some.ensures.items) c.replace-in-Some.ensures.replaced

pub returns-in_ok-share-in-None : goal.returns-in_ok-share-in-None
returns-in_ok-share-in-None c =
    on_ok c.put.result c.put.ensures.put (λ p. noted_first c.args.item.now c.args.place c.args.places.now c.put.new.self c.of-in-None.result c.replace.new.self (sym c.in-None.is ∙ c.replace.ensures.before)
    (c.replace.ensures.replaced ∙ ap (set_value (same_text c.args.item.now) c.args.places.now) (c.of.ensures ∙ c.new.ensures.items))
    (c.of-in-None.ensures ∙ c.in_ok-push-in-None.ensures.items ∙ ap (λ l. l ++ c.args.place ∷ []) c.new-noted.ensures.items)
    (p ∙ ap (λ t. c.replace.new.self ++ (t, c.of-in-None.result) ∷ []) c.in_ok-share-in-None.ensures))
