use Rattle.std.proofs.Common.{◌≡◌, ◌++◌, ◌∷◌, [], sym, ap, ◌∙◌}
use Rattle.std.specs.List.{list_any}
use Rattle.std.specs.Map.{keys_of}
use Rattle.std.proofs.lemmas.List.{map-append}
use Rattle.vtl_lists.specs.Apart.{all_apart}
use Rattle.vtl_text.specs.Texts.{same_text}
use Rattle.vtl_text.proofs.Apart.{one_more, repeated}
use Rattle.vtl_text.proofs.distinct.are_distinct.Goals as goal

pub returns-then-has : goal.returns-then-has
returns-then-has c =
    let x = c.text-item.result in
    repeated c.args.texts.now c.loop-text.text-index x c.loop-text-test.true c.text-item.is
    (sym (ap (list_any (same_text x)) c.loop-text.invariant.0) ∙ sym c.has.ensures ∙ c.if-has.true)

pub loop-text-preserved : goal.loop-text-preserved
loop-text-preserved c =
    let x = c.text-item.result in
    let names = keys_of c.loop-text.seen in
    let copy = c.in_ok-share.field-0 in
    let grown = one_more c.args.texts.now names c.loop-text.text-index x c.loop-text-test.true c.text-item.is c.loop-text.invariant.0 c.loop-text.invariant.1
    (sym c.has.ensures ∙ c.if-has.false) in
    let put : keys_of c.put.new.self ≡ names ++ x ∷ [] = ap (λ es. keys_of es) c.in_ok-put.ensures.put ∙ map-append (λ e. e.0) c.loop-text.seen ((copy, tt) ∷ []) ∙ ap (λ t. names ++ t ∷ []) c.in_ok-share.ensures in
    (put ∙ grown.0, ap (all_apart same_text) put ∙ grown.1)
