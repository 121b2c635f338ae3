use Rattle.std.proofs.Common.{◌≡◌, Some, ap, sym, subst, ◌∙◌, ℕ, List}
use Rattle.std.specs.Map.{keys_of, lookup}
use Rattle.std.specs.Prelude.{unwrap_or, [], None}
use Rattle.vtl_text.specs.Texts.{same_text}
use Rattle.check_rules.specs.Found.{AreWithin, Finds, IsOnRightAt}
use Rattle.check_rules.specs.Running.{places_at}
use Rattle.check_rules.proofs.Finding.{makers_within, no_parts, parts_found}
use Rattle.check_rules.proofs.SideLemmas.{on_ok}
use Rattle.check_rules.proofs.cycle.find_parts.Goals as goal

pub find_right_at-requires : goal.find_right_at-requires
find_right_at-requires c =
    let found : Some c.in-Some.places.now ≡ lookup (same_text c.args.item.now) c.args.makers.now = c.in-Some.ensures in
    let same : c.as_slice.result.now ≡ places_at c.args.item.now c.args.makers.now = c.as_slice.ensures ∙ ap (λ o. unwrap_or o []) found in
    subst (AreWithin c.args.rules.now) (sym same) (makers_within c.args.rules.now c.args.makers.now c.requires c.args.item.now)

pub returns-in-Some : goal.returns-in-Some
returns-in-Some c =
    let found : Some c.in-Some.places.now ≡ lookup (same_text c.args.item.now) c.args.makers.now = c.in-Some.ensures in
    let same : c.as_slice.result.now ≡ places_at c.args.item.now c.args.makers.now = c.as_slice.ensures ∙ ap (λ o. unwrap_or o []) found in
    on_ok c.find_right_at.result c.find_right_at.ensures (λ f. parts_found c.args.rules.now c.args.makers.now c.requires c.args.item.now (keys_of c.args.found.now) (keys_of c.find_right_at.new.found)
    (subst (λ (l : List ℕ). Finds (IsOnRightAt c.args.rules.now l) (keys_of c.args.found.now) (keys_of c.find_right_at.new.found)) same f))

pub returns-in-None : goal.returns-in-None
returns-in-None c =
    let none : None ≡ lookup (same_text c.args.item.now) c.args.makers.now = c.in-None.ensures in
    no_parts c.args.rules.now c.args.makers.now c.requires c.args.item.now (keys_of c.args.found.now) none
