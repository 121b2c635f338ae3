use Rattle.std.proofs.Common.{sym, ap, ◌∙◌}
use Rattle.vtl_agg.specs.Added.{counted, totalled}
use Rattle.vtl_agg.specs.States.{known}
use Rattle.vtl_agg.proofs.KnownLemmas.{answer, seen}
use Rattle.vtl_agg.proofs.acc.Acc.finish.Goals as goal

pub returns-in-Count : goal.returns-in-Count
returns-in-Count c = λ xs h.
    let i = c.self.inside in
    c.counted.ensures
    ∙ answer i.profile i.kind (counted c.in-Count.count) c.args.self xs (ap (λ s. seen i.profile i.kind (known s)) (sym c.in-Count.is) ∙ c.self.view_is) h

pub returns-in-Totals : goal.returns-in-Totals
returns-in-Totals c = λ xs h.
    let i = c.self.inside in
    c.value.ensures
    ∙ answer i.profile i.kind (totalled c.in-Totals.totals) c.args.self xs (ap (λ s. seen i.profile i.kind (known s)) (sym c.in-Totals.is) ∙ c.self.view_is) h
