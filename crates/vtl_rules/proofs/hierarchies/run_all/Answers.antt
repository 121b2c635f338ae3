use Rattle.std.proofs.Common.{◌≡◌, ◌+◌, ◌∙◌, [], Some, None, drop, get_or, length, refl, ap}
use Rattle.std.specs.Prelude.{slice_get}
use Rattle.std.proofs.lemmas.Option.{slice_get_past, slice_get_read}
use Rattle.vtl_cell.specs.Outcome.{join}
use Rattle.vtl_scalar.specs.Seen.{seen_of}
use Rattle.vtl_rules.specs.ComputedItems.{ran_columns, ran_fault}
use Rattle.vtl_rulings.specs.Ordered.{rules_at}
use Rattle.vtl_rules.specs.declared.hierarchies.Run.{Run}
use Rattle.vtl_rules.proofs.RunLemmas.{made_more, none_more, none_seen, seen_more_of}
use Rattle.vtl_rules.proofs.hierarchies.run_all.Goals.{in-Some+in_ok-run_rule, in_default}
use Rattle.vtl_rules.proofs.hierarchies.run_all.Goals as goal

pub loop-place-preserved : goal.loop-place-preserved
loop-place-preserved g c =
    let p = c.args.p.now in
    let x = c.args.computing.now in
    let rules = c.args.rules.now in
    let order = c.args.order.now in
    let n = c.loop-place.place-index in
    let place = get_or order n 0 in
    let old = c.loop-place.run in
    let new = c.match-get.run in
    let before = seen_of old.seen in
    let after = seen_of new.seen in
    let made = ran_columns p x.mode x.kind x.input x.items [] (rules_at rules order) in
    let fault = ran_fault p x.mode x.kind x.input x.items [] (rules_at rules order) in
    elim c.match-get.branch [
      | in-Some+in_ok-run_rule w ↦
          let rule = w.in-Some.rule.now in
          let at : slice_get rules place ≡ Some rule = slice_get_read rules (length rules) place rule refl w.in-Some.ensures.lookup.3.0 (w.in-Some.ensures.lookup.3.1 rule) in
          let column = ap (λ (y : Run). y.made) w.run-is ∙ w.in_ok-run_rule.ensures.made in
          let noted = ap (λ (y : Run). seen_of y.seen) w.run-is ∙ w.in_ok-run_rule.ensures.seen in
          record {
            made = made_more p x.mode x.kind x.input x.items rules order n place c.loop-place-test.true refl old.made new.made before after made fault c.loop-place.invariant.made c.loop-place.invariant.seen rule at column;
            seen = seen_more_of p x.mode x.kind x.input x.items rules order n place c.loop-place-test.true refl old.made new.made before after made fault c.loop-place.invariant.made c.loop-place.invariant.seen rule at column noted;
          }
      | in_default w ↦
          let at : slice_get rules place ≡ None = slice_get_past rules place w.in_default.ensures.lookup.3 in
          let behind = rules_at rules (drop (n + 1) order) in
          record {
            made =
                ap (λ (y : Run). ran_columns p x.mode x.kind x.input x.items y.made behind) w.run-is
                ∙ none_more p x.mode x.kind x.input x.items rules order n place c.loop-place-test.true refl old.made old.made before before made fault c.loop-place.invariant.made c.loop-place.invariant.seen at;
            seen =
                ap (λ (y : Run). join (seen_of y.seen) (ran_fault p x.mode x.kind x.input x.items y.made behind)) w.run-is
                ∙ none_seen p x.mode x.kind x.input x.items rules order n place c.loop-place-test.true refl old.made old.made before before made fault c.loop-place.invariant.made c.loop-place.invariant.seen at;
          }
    ]
