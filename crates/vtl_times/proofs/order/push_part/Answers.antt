use Rattle.std.proofs.Common.{◌≡◌, ℕ, ◌<◌, ◌-◌, List, [], ◌∷◌, ◌++◌, length, refl, ap, ◌∙◌, arith}
use Rattle.std.proofs.lemmas.List.{length-append}
use Rattle.vtl_times.specs.InOrder.{of_frequency, one_if_some}
use Rattle.vtl_times.specs.Lists.{cut_by, lists_of}
use Rattle.vtl_times.proofs.CutLists.{cut_more}
use Rattle.vtl_times.proofs.order.push_part.Goals as goal

one_some : (s : List ℕ) → 0 < length s → s ∷ [] ≡ one_if_some s
one_some [] h = absurd (omega (arith, h))
one_some (k ∷ s) h = refl

pub returns-in_ok-push-clause-lists : goal.returns-in_ok-push-clause-lists
returns-in_ok-push-clause-lists c =
    let old = c.args.series.now in
    let own = of_frequency c.args.time c.args.frequency c.args.table.now.rows c.args.run.now in
    let more = c.in_ok-push_numbers.ensures in
    let many : c.len.result - c.len-before.result ≡ length own = omega (arith, c.len.ensures, c.len-before.ensures, ap length more, length-append old.numbers.items own) in
    (λ i. cut_by ((c.in_ok-push.ensures.items ∙ ap (λ k. old.counts.items ++ k ∷ []) many) i) (more i))
    ∙ cut_more old.counts.items old.numbers.items own c.requires.whole
    ∙ ap (λ l. lists_of old ++ l) (one_some own (omega (arith, c.if-count-gt0.true, many)))
