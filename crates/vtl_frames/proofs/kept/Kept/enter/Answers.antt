use Rattle.std.proofs.lemmas.Result.{on_ok_weaker}
use Rattle.vtl_frames.specs.Best.{cell_in}
use Rattle.vtl_frames.proofs.KeptLemmas.{best_joined, best_within, kept_roomy, totals_joined}
use Rattle.vtl_frames.proofs.kept.Kept.enter.Goals as goal

pub enter-requires : goal.enter-requires
enter-requires g c =
    let at = cell_in (g.P.Partition.cells c.args.cells.now) in
    kept_roomy at c.requires.keeps.0 c.args.self.now c.in-Totals.totals c.in-Totals.is c.requires.keeps.1 c.requires.keeps.3

pub enter-requires-in-Best-clause-places : goal.enter-requires-in-Best-clause-places
enter-requires-in-Best-clause-places g c =
    best_within (g.P.Partition.cells c.args.cells.now) c.requires.keeps.0 c.args.self.now c.in-Best.best c.in-Best.is c.requires.keeps.1 c.requires.keeps.2

pub returns-in-Totals-clause-keeps : goal.returns-in-Totals-clause-keeps
returns-in-Totals-clause-keeps g c = λ ks h.
    let at = cell_in (g.P.Partition.cells c.args.cells.now) in
    totals_joined at ks c.args.place c.args.self.now c.in-Totals.totals c.enter.new.self c.cell.result.now c.in-Totals.is h c.enter.ensures.value c.cell.ensures c.enter.ensures.small

pub returns-in-Best-clause-keeps : goal.returns-in-Best-clause-keeps
returns-in-Best-clause-keeps g c =
    let at = cell_in (g.P.Partition.cells c.args.cells.now) in
    on_ok_weaker c.enter-in-Best.result
    (λ e ks h. best_joined at ks c.args.place c.args.self.now c.in-Best.best c.enter-in-Best.new.self c.in-Best.is h c.enter-in-Best.ensures.kind e)
    c.enter-in-Best.ensures.places
