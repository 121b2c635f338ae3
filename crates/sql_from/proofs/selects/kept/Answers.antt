use Rattle.std.proofs.Common.{◌≡◌, IfOk, subst}
use Rattle.vtl_cell.specs.Outcome.{join}
use Rattle.vtl_scalar.specs.Seen.{seen_of}
use Rattle.sql_from.specs.Joins.{Test, kept_fault, kept_tuples}
use Rattle.sql_from.proofs.selects.kept.Goals as goal

pub returns-clause-rows : goal.returns-clause-rows
returns-clause-rows g c = subst (λ (f : Test). IfOk c.keep.result (λ w. w.rows.tuples ≡ kept_tuples f c.args.from.now.rows.tuples)) c.in_ok-filter.ensures.test c.keep.ensures.rows

pub returns-clause-seen : goal.returns-clause-seen
returns-clause-seen g c = subst (λ (f : Test). IfOk c.keep.result (λ w. seen_of w.seen ≡ join (seen_of c.args.from.now.seen) (kept_fault f c.args.from.now.rows.tuples))) c.in_ok-filter.ensures.test c.keep.ensures.seen
