use Rattle.std.proofs.Common.{◌≡◌, ◌∙◌, Some, ap, map, subst, sym}
use Rattle.std.specs.Prelude.{slice_get}
use Rattle.vtl_lists.proofs.Alls.{all_at}
use Rattle.vtl_rows.specs.Named.{NamedTables}
use Rattle.sql_from.specs.Held.{IsHeld}
use Rattle.sql_from.specs.Sources.{parts_of, source_of}
use Rattle.sql_from.proofs.Sited.{part_got}
use Rattle.sql_from.proofs.sources.Sources.table.Goals as goal

pub returns-clause-source : goal.returns-clause-source
returns-clause-source c =
    ap (λ ss. slice_get (parts_of ss) c.args.i) (sym (ap (λ s. s.sources) c.self.view_is))
    ∙ part_got c.self.inside.sources c.args.i c.at.result.0.now c.at.result.1.now c.at.ensures ∙ ap (λ t. Some t) (sym c.table.ensures)

pub returns-clause-held : goal.returns-clause-held
returns-clause-held c =
    let own = c.at.result.1.now.table.now in
    let got : slice_get (parts_of (map source_of c.self.inside.sources)) c.args.i ≡ Some own = part_got c.self.inside.sources c.args.i c.at.result.0.now c.at.result.1.now c.at.ensures in
    subst (IsHeld c.args.self.now.held) (sym c.table.ensures)
    (subst (λ (h : NamedTables). IsHeld h own) (ap (λ s. s.held) c.self.view_is) (all_at (IsHeld c.self.inside.held.now) (parts_of (map source_of c.self.inside.sources)) c.args.i own c.self.invariant.among got))
