use Rattle.std.proofs.Common.{[], ◌∷◌, ◌++◌, get_or, ap, sym, ◌∙◌, arith, append_assoc}
use Rattle.vtl_times.proofs.FillLemmas.{numbered_all, numbered_more}
use Rattle.vtl_times.proofs.fill.numbered.Goals as goal

pub loop-i-preserved : goal.loop-i-preserved
loop-i-preserved c =
    let ns = c.args.numbers.now in
    let i = c.loop-i.i in
    let n = get_or ns i 0 in
    c.in_ok-push-2.ensures.items ∙ ap (λ l. l ++ n ∷ []) c.in_ok-push.ensures.items ∙ append_assoc c.loop-i.pairs.items (i ∷ []) (n ∷ []) ∙ ap (λ l. l ++ i ∷ n ∷ []) c.loop-i.invariant
    ∙ sym (numbered_more ns i (omega (arith, c.loop-i-test.true)))

pub returns : goal.returns
returns c = c.loop-i.invariant ∙ numbered_all c.args.numbers.now c.loop-i.i (omega (arith, c.loop-i-test.false))
