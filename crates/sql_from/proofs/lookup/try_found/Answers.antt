use Rattle.std.proofs.Common.{◌≡◌, ◌∙◌, ◌||◌, ◌+◌, ℕ, ap, get_or, sym, take}
use Rattle.std.specs.List.{list_any}
use Rattle.std.proofs.lemmas.List.{get_or_default}
use Rattle.sql_from.proofs.Gained.{found_tried}
use Rattle.std.proofs.lemmas.List.Folds.{list_any_more}
use Rattle.sql_from.specs.Joins.{passes}
use Rattle.sql_from.proofs.lookup.try_found.Goals.{then-any, else-any}
use Rattle.sql_from.proofs.lookup.try_found.Goals as goal

pub loop-number-preserved : goal.loop-number-preserved
loop-number-preserved g c =
    let f = g.C.Condition.value c.args.condition.now in
    let h = g.F.Condition.value c.args.filter.now in
    let x = c.args.front.now in
    let found = c.args.found.now in
    let i = c.loop-number.number-index in
    let number : ℕ = get_or found i 0 in
    let at : number ≡ get_or found i number = get_or_default found i 0 number c.loop-number-test.true in
    let more : list_any (passes f x) (take (i + 1) found) ≡ (list_any (passes f x) (take i found) || passes f x number) = list_any_more (passes f x) found i 0 c.loop-number-test.true in
    record {
      width = c.in_ok-here.ensures.tries.gains.width ∙ c.loop-number.invariant.width;
      any = elim c.if-any.branch [
        | then-any w ↦ w.any-is ∙ w.if-any.true ∙ sym (more ∙ ap (λ b. b || passes f x number) (sym c.loop-number.invariant.any ∙ w.if-any.true))
        | else-any w ↦ w.any-is ∙ c.in_ok-here.ensures.met ∙ sym (more ∙ ap (λ b. b || passes f x number) (sym c.loop-number.invariant.any ∙ w.if-any.false))
      ];
      tries = found_tried f h x found i number c.args.so_far.now c.loop-number.so_far c.try_pair.new.so_far c.args.met.now.items c.loop-number.met.items c.try_pair.new.met.items c.loop-number-test.true at c.loop-number.invariant.tries c.in_ok-here.ensures.tries;
    }
