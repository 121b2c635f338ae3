use Rattle.std.proofs.Common.{◌≡◌, ◌<◌, [], ℕ, List, length, get_or, Some, refl, arith, subst}
use Rattle.std.specs.Prelude.{slice_get, nat_eq}
use Rattle.std.specs.Map.{keys_of}
use Rattle.std.proofs.lemmas.Bool.{eq-eqb, false≢true}
use Rattle.std.proofs.lemmas.List.{take_all}
use Rattle.std.proofs.lemmas.List.Folds.{list_any_at}
use Rattle.std.proofs.lemmas.Option.{slice_get_read}
use Rattle.vtl_syntax.specs.declared.statements.HierRule.{HierRule}
use Rattle.check_rules.specs.Found.{AreWithin, Finds, IsOnRightAt}
use Rattle.check_rules.proofs.Finding.{at_more, finds_none}
use Rattle.check_rules.proofs.cycle.find_right_at.Goals as goal

pub loop-i-init : goal.loop-i-init
loop-i-init c = finds_none (IsOnRightAt c.args.rules.now []) (keys_of c.args.found.now) (λ n h. absurd (false≢true h.2))

-- each place is below the number of rules
inside : (rules : List HierRule) (places : List ℕ) (i : ℕ) → AreWithin rules places → i < length places → get_or places i 0 < length rules
inside rules places i within h = within (get_or places i 0) (list_any_at (nat_eq (get_or places i 0)) places i 0 h (eq-eqb (get_or places i 0) (get_or places i 0) refl))

pub offset_bounds-rules-places : goal.offset_bounds-rules-places
offset_bounds-rules-places c =
    let h : c.loop-i.i < length c.args.places.now = omega arith in
    let below = inside c.args.rules.now c.args.places.now c.loop-i.i c.requires h in
    omega (arith, below)

pub bounds-rules-places : goal.bounds-rules-places
bounds-rules-places c =
    let h : c.loop-i.i < length c.args.places.now = omega arith in
    let below = inside c.args.rules.now c.args.places.now c.loop-i.i c.requires h in
    omega (arith, below)

pub loop-i-preserved : goal.loop-i-preserved
loop-i-preserved c =
    let h : c.loop-i.i < length c.args.places.now = omega arith in
    let place : ℕ = get_or c.args.places.now c.loop-i.i 0 in
    let r = c.index-rules-places.result in
    let at : slice_get c.args.rules.now place ≡ Some r = slice_get_read c.args.rules.now (length c.args.rules.now) place r refl (inside c.args.rules.now c.args.places.now c.loop-i.i c.requires h) c.index-rules-places.is in
    at_more c.args.rules.now c.args.places.now c.loop-i.i r (keys_of c.args.found.now) (keys_of c.loop-i.found) (keys_of c.find_right.new.found) h at c.loop-i.invariant c.in_ok-find_right.ensures

pub returns : goal.returns
returns c = subst (λ places. Finds (IsOnRightAt c.args.rules.now places) (keys_of c.args.found.now) (keys_of c.loop-i.found)) (take_all c.loop-i.i c.args.places.now (omega arith)) c.loop-i.invariant
