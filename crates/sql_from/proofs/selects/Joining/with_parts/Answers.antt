use Rattle.std.proofs.Common.{◌≡◌, ◌∙◌, [], List, sym, subst}
use Rattle.std.specs.Prelude.{fold}
use Rattle.sql_tree.specs.Trees.{Exp}
use Rattle.sql_meaning.specs.Plans.{try_early}
use Rattle.sql_from.specs.Conditions.{trees_of}
use Rattle.vtl_scalar.specs.Seen.{seen_of}
use Rattle.sql_from.specs.Standing.{StandsFor, sight_of}
use Rattle.sql_from.proofs.Standing.{all_tried}
use Rattle.sql_from.proofs.Conditioned.{no_trees}
use Rattle.sql_from.proofs.selects.Joining.with_parts.Goals as goal

pub returns-then-is_empty-clause-stands : goal.returns-then-is_empty-clause-stands
returns-then-is_empty-clause-stands g c f before =
    let old = c.args.self in
    let none : trees_of c.args.parts.now ≡ [] = no_trees c.args.parts.now (sym c.is_empty.ensures ∙ c.if-is_empty.true) in
    subst (λ (es : List Exp). StandsFor (fold (try_early (sight_of c.args.p.now old.sources)) f es) old.sources old.walked.rows (seen_of old.walked.seen)) (sym none) before

pub returns-clause-stands : goal.returns-clause-stands
returns-clause-stands g c f before =
    let old = c.args.self in
    let new = c.in_ok-walked.walked in
    all_tried c.args.p.now old.sources (trees_of c.args.parts.now) old.walked.rows (seen_of old.walked.seen) f before new.rows (seen_of new.seen) c.in_ok-walked.ensures.width c.in_ok-walked.ensures.rows c.in_ok-walked.ensures.seen
