use Rattle.std.proofs.Common.{◌≡◌, ◌∙◌, ℕ, List, Option, map, ap}
use Rattle.vtl_cell.specs.Outcome.{Outcome, join}
use Rattle.vtl_cell.specs.declared.cell.Cell.{Cell}
use Rattle.vtl_cell.specs.Row.{Row}
use Rattle.vtl_scalar.specs.Seen.{seen_of}
use Rattle.vtl_tree.specs.RuleItems.{right_items}
use Rattle.vtl_rulings.specs.Modes.{Found}
use Rattle.vtl_rules.specs.ComputedItems.{computed_at, computed_of, fault_of, value_or_null}
use Rattle.vtl_rules.specs.Itemized.{Sourced, combination_at, source_of, taken_at}
use Rattle.vtl_rules.proofs.NumberLemmas.{mapped_more, seen_numbers}
use Rattle.vtl_rules.proofs.hierarchies.column.Goals as goal

pub loop-number-preserved : goal.loop-number-preserved
loop-number-preserved g c =
    let p = c.args.p.now in
    let x = c.args.computing.now in
    let n = c.loop-number.number in
    let made = c.args.made.now in
    let r = c.args.rule.now in
    let of : List Found → Option (Outcome Cell) = computed_of p x.mode x.kind r in
    let at : ℕ → Option (Outcome Cell) = computed_at p x.mode x.kind x.input x.items made r in
    let found : c.find.new.at.found.items ≡ map (taken_at x.items n (combination_at x.items n)) (map (source_of x.input made) (right_items r)) =
    c.in_ok-find.ensures.found ∙ ap (λ k. map (taken_at x.items k c.begin.new.at.key.items) c.deref.result.now) c.begin.ensures.number
    ∙ ap (λ (key : Row). map (taken_at x.items n key) c.deref.result.now) c.in_ok-begin.ensures.key ∙ ap (λ (l : List Sourced). map (taken_at x.items n (combination_at x.items n)) l) (c.deref.ensures.value ∙ c.in_ok-sources.ensures) in
    let here = ap of (c.deref-in-loop-number.ensures.value ∙ found) in
    record {
      column = mapped_more (λ k. value_or_null (at k)) n c.loop-number.column.items c.push.new.self.items c.in_ok-value.value c.loop-number.invariant.column c.in_ok-push.ensures.items (c.in_ok-value.ensures.value ∙ ap value_or_null here);
      seen = seen_numbers (λ k. fault_of (at k)) n (seen_of c.args.seen.now) (seen_of c.loop-number.seen) (seen_of c.computed.new.seen) c.loop-number.invariant.seen (c.in_ok-value.ensures.seen ∙ ap (λ o. join (seen_of c.loop-number.seen) (fault_of o)) here);
    }
