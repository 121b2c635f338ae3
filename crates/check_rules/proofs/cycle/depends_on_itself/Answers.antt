use Rattle.std.proofs.Common.{◌≡◌, ap, sym, subst, ◌∙◌, arith, Some}
use Rattle.std.specs.Prelude.{slice_get, option_map}
use Rattle.std.specs.Map.{keys_of}
use Rattle.std.proofs.lemmas.List.{length-map}
use Rattle.std.proofs.lemmas.Option.{slice_get-map}
use Rattle.check_rules.specs.Found.{Finds}
use Rattle.check_rules.specs.Order.{IsMadeOf}
use Rattle.check_rules.proofs.Finding.{follow_more, follow_start, tells}
use Rattle.check_rules.proofs.cycle.depends_on_itself.Goals as goal

pub loop-at-init : goal.loop-at-init
loop-at-init c =
    follow_start c.args.rules.now c.args.item.now (keys_of c.find_parts.new.found)
    (subst (λ es. Finds (IsMadeOf c.args.rules.now c.args.item.now) (keys_of es) (keys_of c.find_parts.new.found)) c.new-found.ensures c.in_ok-find_parts.ensures)

pub loop-at-preserved : goal.loop-at-preserved
loop-at-preserved c =
    let there : slice_get (keys_of c.loop-at.found) c.loop-at.at ≡ Some c.in_ok-part.part =
    slice_get-map (λ e. e.0) c.loop-at.found c.loop-at.at ∙ ap (option_map (λ e. e.0)) c.at.ensures ∙ ap Some (sym c.in_ok-part.ensures) in
    follow_more c.args.rules.now c.args.item.now c.loop-at.at (keys_of c.loop-at.found) (keys_of c.find_parts-in-loop-at.new.found) c.in_ok-part.part there c.loop-at.invariant c.in_ok-find_parts-2.ensures

pub returns : goal.returns
returns c =
    let long = length-map c.loop-at.found (λ e. e.0) in
    tells c.args.rules.now c.args.item.now c.loop-at.at (keys_of c.loop-at.found) c.loop-at.invariant (omega arith) c.has.result c.has.ensures
