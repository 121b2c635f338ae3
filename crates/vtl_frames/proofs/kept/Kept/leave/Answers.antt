use Rattle.std.proofs.Common.{◌∷◌, arith}
use Rattle.vtl_frames.specs.Best.{cell_in}
use Rattle.vtl_frames.proofs.KeptLemmas.{best_left, kept_counted, kept_roomy, totals_left}
use Rattle.vtl_frames.proofs.kept.Kept.leave.Goals as goal

pub leave-requires-clause-room : goal.leave-requires-clause-room
leave-requires-clause-room g c =
    let at = cell_in (g.P.Partition.cells c.args.cells.now) in
    kept_roomy at (c.args.place ∷ c.requires.keeps.0) c.args.self.now c.in-Totals.totals c.in-Totals.is c.requires.keeps.1 (omega (arith, c.requires.keeps.2))

pub leave-requires-clause-counted : goal.leave-requires-clause-counted
leave-requires-clause-counted g c =
    let at = cell_in (g.P.Partition.cells c.args.cells.now) in
    kept_counted at c.args.place c.requires.keeps.0 c.args.self.now c.in-Totals.totals c.cell.result.now c.in-Totals.is c.requires.keeps.1 c.cell.ensures

pub returns-in-Totals-clause-keeps : goal.returns-in-Totals-clause-keeps
returns-in-Totals-clause-keeps g c = λ ks above h.
    let at = cell_in (g.P.Partition.cells c.args.cells.now) in
    totals_left at c.args.place ks c.args.self.now c.in-Totals.totals c.leave.new.self c.cell.result.now c.in-Totals.is h c.leave.ensures c.cell.ensures

pub returns-in-Best-clause-keeps : goal.returns-in-Best-clause-keeps
returns-in-Best-clause-keeps g c = λ ks above h.
    let at = cell_in (g.P.Partition.cells c.args.cells.now) in
    best_left at c.args.place ks c.args.self.now c.in-Best.best c.leave-in-Best.new.self c.in-Best.is h above c.leave-in-Best.ensures.kind c.leave-in-Best.ensures.places
