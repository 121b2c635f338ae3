use Rattle.std.proofs.Common.{◌∙◌}
use Rattle.vtl_frames.specs.Best.{cell_in}
use Rattle.vtl_frames.proofs.KeptLemmas.{best_value, best_within, kept_roomy, totals_value}
use Rattle.vtl_frames.proofs.kept.Kept.value.Goals.{in-Totals, in-Best+in_ok-value-in-Best}
use Rattle.vtl_frames.proofs.kept.Kept.value.Goals as goal

pub value-requires : goal.value-requires
value-requires g c =
    kept_roomy (cell_in (g.P.Partition.cells c.args.cells.now)) c.requires.0 c.args.self.now c.in-Totals.totals c.in-Totals.is c.requires.1 c.requires.3

pub value-requires-in-Best : goal.value-requires-in-Best
value-requires-in-Best g c =
    best_within (g.P.Partition.cells c.args.cells.now) c.requires.0 c.args.self.now c.in-Best.best c.in-Best.is c.requires.1 c.requires.2

pub returns : goal.returns
returns g c = λ ks h.
    let cells = g.P.Partition.cells c.args.cells.now in
    elim c.match-self.branch [
      | in-Totals w ↦ w.result-is ∙ w.value.ensures ∙ totals_value c.args.p.now cells ks c.args.self.now w.in-Totals.totals w.in-Totals.is h
      | in-Best+in_ok-value-in-Best w ↦ w.result-is ∙ best_value c.args.p.now cells ks c.args.self.now w.in-Best.best w.in_ok-value-in-Best.field-0 w.in-Best.is h w.in_ok-value-in-Best.ensures
    ]
