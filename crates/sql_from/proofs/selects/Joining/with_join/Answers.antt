use Rattle.std.proofs.Common.{◌≡◌, ◌∙◌, ◌+◌, ◌≤◌, ◌++◌, ◌∷◌, [], List, ap, length, subst, sym}
use Rattle.vtl_cell.specs.Outcome.{join}
use Rattle.vtl_rows.specs.Named.{NamedTables}
use Rattle.sql_tree.specs.Trees.{Exp}
use Rattle.sql_tree.specs.View.{join_tree}
use Rattle.sql_tree.specs.declared.parts.Source.{Source}
use Rattle.sql_tree.specs.declared.word_groups.JoinKind.{JoinKind}
use Rattle.sql_meaning.specs.Profiles.{IsLawful}
use Rattle.sql_check_parts.specs.Queries.{join_source}
use Rattle.sql_from.specs.Conditions.{conditions_at, kind_of, on_of, trees_of}
use Rattle.sql_from.specs.FromTables.{maybe_given}
use Rattle.sql_from.specs.Held.{base_held}
use Rattle.sql_from.specs.Joins.{joined_tuples, kept_fault, kept_tuples, pairs_fault}
use Rattle.sql_from.specs.Keys.{AreLinked, last_of, linked_count}
use Rattle.vtl_scalar.specs.Seen.{seen_of}
use Rattle.sql_from.specs.Sources.{Sourced, table_given}
use Rattle.sql_from.proofs.Counted.{join_bounded}
use Rattle.sql_from.proofs.Standing.{join_tried, with_table}
use Rattle.sql_from.proofs.selects.Joining.with_join.Goals as goal

pub returns-clause-stands : goal.returns-clause-stands
returns-clause-stands g c =
    let p = c.args.p.now in
    let s : Sourced = c.args.self.sources in
    let t = c.args.self.walked.rows in
    let j = join_tree c.args.join.now in
    let new : Sourced = c.in_ok-sources.sources in
    let walked = c.in_ok-walked.walked in
    let es = trees_of c.args.parts.now in
    let marks = c.deref-2.result.now in
    let count = length (last_of new).rows in
    let is : new ≡ with_table s (join_source j) =
    λ i. record { held = c.in_ok-sources.ensures.held i; sources = (c.in_ok-sources.ensures.sources ∙ ap (λ (u : Source). s.sources ++ (u.alias, table_given s.held u) ∷ []) c.source_of.ensures) i } in
    let kind : c.kind_of.result ≡ kind_of j = c.kind_of.ensures in
    let on : trees_of c.deref.result.now ≡ on_of j = ap trees_of c.deref.ensures.value ∙ c.in_ok-conditions.ensures in
    λ f before.
    join_tried s j c.requires.source p t (seen_of c.args.self.walked.seen) f before es marks walked.rows (seen_of walked.seen) new is (c.deref-2.ensures.value ∙ c.in_ok-marks.ensures) c.in_ok-walked.ensures.joined.width c.in_ok-sources.ensures.wide
    (c.in_ok-walked.ensures.joined.rows ∙ (λ i. kept_tuples (conditions_at p new es) (joined_tuples (kind i) (conditions_at p new (on i)) marks count t.tuples)))
    (c.in_ok-walked.ensures.joined.seen ∙ (λ i. join (seen_of c.args.self.walked.seen) (join (pairs_fault (conditions_at p new (on i)) count t.tuples) (kept_fault (conditions_at p new es) (joined_tuples (kind i) (conditions_at p new (on i)) marks count t.tuples)))))

pub joined_with-requires-clause-lawful : goal.joined_with-requires-clause-lawful
joined_with-requires-clause-lawful g c e = subst (λ (h : NamedTables). IsLawful (base_held c.args.p.now h)) (sym c.in_ok-sources.ensures.held) (c.requires.lawful e)

pub returns-clause-steps : goal.returns-clause-steps
returns-clause-steps g c by silent f before two =
    let p = c.args.p.now in
    let s : Sourced = c.args.self.sources in
    let t = c.args.self.walked.rows in
    let j = join_tree c.args.join.now in
    let new : Sourced = c.in_ok-sources.sources in
    let marks = c.deref-2.result.now in
    let is : new ≡ with_table s (join_source j) =
    λ i. record { held = c.in_ok-sources.ensures.held i; sources = (c.in_ok-sources.ensures.sources ∙ ap (λ (u : Source). s.sources ++ (u.alias, table_given s.held u) ∷ []) c.source_of.ensures) i } in
    let kind : c.kind_of.result ≡ kind_of j = c.kind_of.ensures in
    let on : trees_of c.deref.result.now ≡ on_of j = ap trees_of c.deref.ensures.value ∙ c.in_ok-conditions.ensures in
    join_bounded p s t (seen_of c.args.self.walked.seen) f before new c.in_ok-sources.ensures.wide marks (c.deref-2.ensures.value ∙ c.in_ok-marks.ensures) c.args.steps.now c.joined_with.new.steps j c.requires.source is
    (λ lead linked.
    subst (λ (k : JoinKind). c.joined_with.new.steps ≤ c.args.steps.now + linked_count new lead + length (joined_tuples k (conditions_at p new (on_of j)) marks (length (last_of new).rows) t.tuples)) kind
    (subst (λ (cs : List Exp). AreLinked new lead cs → c.joined_with.new.steps ≤ c.args.steps.now + linked_count new lead + length (joined_tuples c.kind_of.result (conditions_at p new cs) marks (length (last_of new).rows) t.tuples)) on
    (c.joined_with.ensures.steps by silent lead) linked))
    two

pub returns-in_err-walked-clause-steps : goal.returns-in_err-walked-clause-steps
returns-in_err-walked-clause-steps g c by silent f before two =
    let p = c.args.p.now in
    let s : Sourced = c.args.self.sources in
    let t = c.args.self.walked.rows in
    let j = join_tree c.args.join.now in
    let new : Sourced = c.in_ok-sources.sources in
    let marks = c.deref-2.result.now in
    let is : new ≡ with_table s (join_source j) =
    λ i. record { held = c.in_ok-sources.ensures.held i; sources = (c.in_ok-sources.ensures.sources ∙ ap (λ (u : Source). s.sources ++ (u.alias, table_given s.held u) ∷ []) c.source_of.ensures) i } in
    let kind : c.kind_of.result ≡ kind_of j = c.kind_of.ensures in
    let on : trees_of c.deref.result.now ≡ on_of j = ap trees_of c.deref.ensures.value ∙ c.in_ok-conditions.ensures in
    join_bounded p s t (seen_of c.args.self.walked.seen) f before new c.in_ok-sources.ensures.wide marks (c.deref-2.ensures.value ∙ c.in_ok-marks.ensures) c.args.steps.now c.joined_with.new.steps j c.requires.source is
    (λ lead linked.
    subst (λ (k : JoinKind). c.joined_with.new.steps ≤ c.args.steps.now + linked_count new lead + length (joined_tuples k (conditions_at p new (on_of j)) marks (length (last_of new).rows) t.tuples)) kind
    (subst (λ (cs : List Exp). AreLinked new lead cs → c.joined_with.new.steps ≤ c.args.steps.now + linked_count new lead + length (joined_tuples c.kind_of.result (conditions_at p new cs) marks (length (last_of new).rows) t.tuples)) on
    (c.joined_with.ensures.steps by silent lead) linked))
    two

pub with-requires-clause-table : goal.with-requires-clause-table
with-requires-clause-table g c = c.requires.table ∙ ap (maybe_given c.args.self.sources.held) (sym c.source_of.ensures)
