use Rattle.std.proofs.Common.{ap, subst, ◌∙◌}
use Rattle.vtl_cell.specs.Outcome.{after}
use Rattle.vtl_lists.specs.Perm.{Perm}
use Rattle.sql_meaning.specs.Values.{literal_cell}
use Rattle.sql_eval.specs.Placed.{membership_value, placed_value}
use Rattle.sql_eval.specs.View.{placed_of}
use Rattle.sql_eval.proofs.ResolvedParts.{placed-Membership, set_value}
use Rattle.sql_eval.proofs.parts.membership.Goals as goal

pub returns : goal.returns
returns c = λ rows r g.
    let p = c.args.p.now in
    let members = c.in_ok-members.members in
    ap (λ e. placed_value p rows e r g) (placed-Membership c.in_ok-new.field-0 c.args.negated members)
    ∙ ap (λ e. after (placed_value p rows (placed_of e) r g) (membership_value p c.args.negated members)) c.in_ok-new.ensures.ok
    ∙ set_value p c.args.negated (literal_cell p) c.args.literals.now members (subst (λ l. Perm members l) (c.deref.ensures.value ∙ c.in_ok-cells.ensures) c.in_ok-members.ensures) (placed_value p rows (placed_of c.args.operand) r g)
