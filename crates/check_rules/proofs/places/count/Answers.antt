use Rattle.std.proofs.Common.{◌≡◌, ◌+◌, ◌++◌, ◌∷◌, [], Some, None, ap, sym, ◌∙◌}
use Rattle.std.specs.List.{list_any}
use Rattle.std.specs.Map.{keys_of, lookup}
use Rattle.vtl_text.specs.Texts.{same_text}
use Rattle.check_rules.proofs.SideLemmas.{on_ok}
use Rattle.check_rules.proofs.Maps.{absent, counted_again, counted_first}
use Rattle.check_rules.proofs.places.count.Goals as goal

pub put-requires : goal.put-requires
put-requires c =
    let none : lookup (same_text c.args.item.now) c.args.counts.now ≡ None = sym (c.copied.ensures ∙ c.get.ensures) ∙ c.in-None.is in
    ap (λ t. list_any (same_text t) (keys_of c.args.counts.now)) c.in_ok-share-in-None.ensures ∙ absent c.args.item.now c.args.counts.now none

pub returns-in-Some : goal.returns-in-Some
returns-in-Some c =
    let here : lookup (same_text c.args.item.now) c.args.counts.now ≡ Some c.in-Some.n = sym (c.copied.ensures ∙ c.get.ensures) ∙ c.in-Some.is in
    counted_again c.args.item.now c.args.counts.now c.replace.new.self c.in-Some.n (λ m. m + 1) here c.replace.ensures.replaced

pub returns-in_ok-share-in-None : goal.returns-in_ok-share-in-None
returns-in_ok-share-in-None c =
    let none : lookup (same_text c.args.item.now) c.args.counts.now ≡ None = sym (c.copied.ensures ∙ c.get.ensures) ∙ c.in-None.is in
    on_ok c.put.result c.put.ensures.put (λ put. counted_first c.args.item.now c.args.counts.now c.put.new.self none (put ∙ ap (λ t. c.args.counts.now ++ (t, 1) ∷ []) c.in_ok-share-in-None.ensures))
