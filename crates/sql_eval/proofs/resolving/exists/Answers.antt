use Rattle.std.proofs.Common.{refl, ap, ◌∙◌}
use Rattle.vtl_cell.specs.declared.kind.Kind.TheVariants as k
use Rattle.sql_eval.specs.Placed.{there}
use Rattle.sql_eval.specs.Resolves.{sight}
use Rattle.sql_eval.specs.declared.kinded.Kinded.{Kinded}
use Rattle.sql_eval.specs.declared.resolved.Resolved.{Exists}
use Rattle.sql_eval.proofs.ResolvedParts.{exists_resolves, placed-Exists}
use Rattle.sql_eval.proofs.resolving.exists.Goals as goal

pub returns : goal.returns
returns g c = λ p.
    let x = c.in_ok-existence.field-0 in
    let z : Kinded = record { exp = Exists x; kind = k.Bool } in
    exists_resolves (sight p (g.N.Names.tables c.args.names.now) (g.N.Names.scope c.args.names.now) c.args.level.now) c.args.source.now c.args.equalities.now z x.table refl c.in_ok-existence.ensures.table
    (placed-Exists x ∙ ap (there x.table) c.in_ok-existence.ensures.ties)
