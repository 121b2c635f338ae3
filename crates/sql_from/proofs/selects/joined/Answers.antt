use Rattle.std.proofs.Common.{◌≡◌, ◌∙◌, ◌+◌, ◌<◌, ◌∷◌, [], ℕ, List, add-one, arith, refl, ap, drop, false, get_or, length, map, subst, sym, suc}
use Rattle.std.specs.Borrow.{Bor}
use Rattle.std.specs.Global.{Vec}
use Rattle.std.specs.List.{AllByRecursion}
use Rattle.std.specs.Prelude.{fold}
use Rattle.std.proofs.lemmas.List.{drop_all, drop_more, length-map}
use Rattle.vtl_rows.specs.Named.{NamedTables}
use Rattle.sql_tree.specs.Trees.{Exp, JoinTree, SelectTree}
use Rattle.sql_check_laws.specs.Selects.{IsSourceTyped}
use Rattle.sql_check_parts.specs.Queries.{join_source}
use Rattle.sql_check_parts.specs.Scopes.{Scope}
use Rattle.sql_meaning.specs.Values.{at_rows}
use Rattle.sql_tree.specs.declared.statements.Join.{Join}
use Rattle.sql_tree.specs.View.{join_tree, select_tree}
use Rattle.sql_tree.specs.declared.expressions.SqlExpr.{SqlExpr}
use Rattle.sql_meaning.specs.Profiles.{IsLawful}
use Rattle.sql_meaning.specs.From.{Joined, first_of, with_join}
use Rattle.sql_meaning.specs.Plans.{try_early}
use Rattle.sql_from.specs.Conditions.{due_at, trees_of}
use Rattle.sql_from.specs.FromTables.{maybe_given}
use Rattle.sql_from.specs.Held.{base_held, tables_held}
use Rattle.vtl_scalar.specs.Seen.{seen_of}
use Rattle.sql_from.specs.Sources.{Sourced, scope_held}
use Rattle.sql_from.specs.Standing.{StandsFor, sight_of}
use Rattle.sql_from.proofs.FromGiven.{first_given, join_given}
use Rattle.sql_from.proofs.Counted.{due_asks, first_counted, join_taken, only_join}
use Rattle.sql_from.specs.Asking.{asks}
use Rattle.sql_from.specs.Steps.{IsPlainJoin}
use Rattle.sql_from.proofs.Standing.{Left, allowed, left_less, left_none, looked_up, restated, scope_tried, tried_at}
use Rattle.sql_from.proofs.selects.joined.Goals as goal

-- a place among one join
only_place : (s : SelectTree) (joins : List Join) (i : ℕ) (items : List Join) → length s.joins ≡ 1 → s.joins ≡ map join_tree joins → items ≡ joins → i < length items → i ≡ 0
only_place s joins i items one are same h =
    let many = ap (λ l. length l) are ∙ length-map joins join_tree in
    let all = ap (λ l. length l) same in
    omega (arith, one, many, all, h)

-- the joins from a place on
next_joins : (joins items : List Join) (i : ℕ) (x : Join) → items ≡ joins → i < length items → x ≡ get_or items i x → map join_tree (drop i joins) ≡ join_tree x ∷ map join_tree (drop (i + 1) joins)
next_joins joins items i x same h at =
    ap (λ (l : List Join). map join_tree (drop i l)) (sym same) ∙ ap (map join_tree) (drop_more items i x h) ∙ ap (λ y. join_tree y ∷ map join_tree (drop (i + 1) items)) (sym at)
    ∙ ap (λ (l : List Join). join_tree x ∷ map join_tree (drop (i + 1) l)) same

pub loop-place-init : goal.loop-place-init
loop-place-init g c =
    let p = c.args.p.now in
    let held = c.args.tables.now in
    let b = base_held p held in
    let s = select_tree c.args.select.now in
    let early = c.args.early.now in
    let first = c.in_ok-first.first in
    let j = c.in_ok-so_far.so_far in
    let stands = c.in_ok-first.ensures.stands p in
    let f : Joined = first_of b s.source in
    let list = c.index-begun.result.now in
    let due : trees_of c.deref-2.result.now ≡ due_at s early 0 = ap trees_of c.deref-2.ensures.value ∙ ap (λ (v : Vec (Bor SqlExpr)). trees_of v.items) c.index-begun.ensures ∙ c.in_ok-due.ensures.due.at 0 list (omega arith) in
    let tried : StandsFor (tried_at b s early 0 f) j.sources j.walked.rows (seen_of j.walked.seen) =
    subst (λ (z : Sourced). StandsFor (tried_at b s early 0 f) z j.walked.rows (seen_of j.walked.seen)) (sym c.in_ok-so_far.ensures.sources)
    (restated p held first.sources f (trees_of c.deref-2.result.now) (due_at s early 0) j.walked.rows (seen_of j.walked.seen) c.in_ok-first.ensures.held due (c.in_ok-so_far.ensures.stands f stands)) in
    let sources = ap (λ (z : Sourced). z.sources) c.in_ok-so_far.ensures.sources ∙ c.in_ok-first.ensures.source in
    let silent = λ (plain : IsPlainJoin s). c.with_parts.ensures.steps (subst (λ (es : List Exp). AllByRecursion (λ e. asks e ≡ false) es) (sym due) (due_asks s early 0 plain.condition)) in
    record {
      held = ap (λ (z : Sourced). z.held) c.in_ok-so_far.ensures.sources ∙ c.in_ok-first.ensures.held;
      left = record { so_far = f; stands = tried; typed = c.requires.typed.joins; all = refl };
      steps = λ listed plain. record {
        none = λ e. silent plain;
        one = λ e. ap (λ (ss : NamedTables). length ss) sources;
        counted = λ e. first_counted held c.args.select.now.from j.sources.sources sources p;
        stands = λ e. tried;
        most = (let same = silent plain in omega (arith, same));
      };
    }

pub loop-place-preserved : goal.loop-place-preserved
loop-place-preserved g c =
    let p = c.args.p.now in
    let held = c.args.tables.now in
    let b = base_held p held in
    let s = select_tree c.args.select.now in
    let joins = c.args.select.now.joins in
    let i = c.loop-place.place in
    let x = c.index-joins-place.result in
    let early = c.args.early.now in
    let old = c.loop-place.so_far in
    let new = c.in_ok-so_far-2.so_far in
    let js = map join_tree (drop (i + 1) joins) in
    let items = c.as_slice-joins.result.now in
    let same : items ≡ joins = c.as_slice-joins.ensures in
    let many = length-map joins join_tree in
    let all = ap (λ (l : List Join). length l) same in
    let within : i < length s.joins = omega (arith, many, all, c.loop-place-test.true) in
    let next = next_joins joins items i x same c.loop-place-test.true c.index-joins-place.is in
    let left : Left b s early i (join_tree x ∷ js) old.sources old.walked.rows (seen_of old.walked.seen) =
    subst (λ (l : List JoinTree). Left b s early i l old.sources old.walked.rows (seen_of old.walked.seen)) next c.loop-place.invariant.left in
    let f : Joined = tried_at b s early i left.so_far in
    let due : trees_of c.deref-in-loop-place.result.now ≡ due_at s early (suc i) = ap trees_of c.deref-in-loop-place.ensures.value ∙ ap (λ (v : Vec (Bor SqlExpr)). trees_of v.items) c.index-next.ensures ∙ c.in_ok-due.ensures.due.at (i + 1) c.index-next.result.now (omega (arith, within)) ∙ ap (due_at s early) (add-one i) in
    let new_held : new.sources.held ≡ held = c.in_ok-so_far-2.ensures.held ∙ c.loop-place.invariant.held in
    let stands : StandsFor (tried_at b s early (suc i) (with_join b f (join_tree x))) new.sources new.walked.rows (seen_of new.walked.seen) =
    restated p held new.sources (with_join b f (join_tree x)) (trees_of c.deref-in-loop-place.result.now) (due_at s early (suc i)) new.walked.rows (seen_of new.walked.seen) new_held due
    (subst (λ (h : NamedTables). StandsFor (fold (try_early (sight_of p new.sources)) (with_join (base_held p h) f (join_tree x)) (trees_of c.deref-in-loop-place.result.now)) new.sources new.walked.rows (seen_of new.walked.seen)) c.loop-place.invariant.held
    (c.in_ok-so_far-2.ensures.stands f left.stands)) in
    record {
      held = new_held;
      left = subst (λ (n : ℕ). Left b s early n js new.sources new.walked.rows (seen_of new.walked.seen)) (sym (add-one i))
          (left_less b s early i (join_tree x) js old.sources new.sources old.walked.rows new.walked.rows (seen_of old.walked.seen) (seen_of new.walked.seen) left within stands);
      steps = λ listed plain.
          let taken = c.loop-place.invariant.steps listed plain in
          let start = only_place s joins i items plain.one refl same c.loop-place-test.true in
          record {
            none = λ e. absurd (omega (arith, e));
            one = λ e. absurd (omega (arith, e));
            counted = λ e. absurd (omega (arith, e));
            stands = λ e. absurd (omega (arith, e));
            most = join_taken p held s early c.requires.typed.joins plain (join_tree x) (only_join s (join_tree x) js plain.one (ap (λ n. map join_tree (drop n joins)) (sym start) ∙ next)) i old.sources old.walked.rows (seen_of old.walked.seen) c.args.steps.now c.loop-place.steps taken start c.loop-place.invariant.held
                c.with_join.new.steps
                (c.with_join.ensures.steps (c.is_some-looks_up.ensures ∙ looked_up c.args.by_index listed) (subst (λ (es : List Exp). AllByRecursion (λ e. asks e ≡ false) es) (sym due) (due_asks s early (suc i) plain.condition)));
          };
    }

pub returns-clause-stands : goal.returns-clause-stands
returns-clause-stands g c =
    let b = base_held c.args.p.now c.args.tables.now in
    let s = select_tree c.args.select.now in
    let joins = c.args.select.now.joins in
    let i = c.loop-place.place in
    let items = c.as_slice-joins.result.now in
    let all = ap (λ (l : List Join). length l) c.as_slice-joins.ensures in
    let many = length-map joins join_tree in
    let past : i ≡ length s.joins = omega (arith, many, all, c.loop-place-test.false, c.loop-place.auto.place-end) in
    let none : map join_tree (drop i joins) ≡ [] = ap (map join_tree) (drop_all i joins (omega (arith, all, c.loop-place-test.false, c.loop-place.auto.place-end))) in
    let end = c.loop-place.so_far in
    left_none b s c.args.early.now i end.sources end.walked.rows (seen_of end.walked.seen) past
    (subst (λ (l : List JoinTree). Left b s c.args.early.now i l end.sources end.walked.rows (seen_of end.walked.seen)) none c.loop-place.invariant.left)

pub with_join-requires-clause-lawful : goal.with_join-requires-clause-lawful
with_join-requires-clause-lawful g c e =
    subst (λ (h : NamedTables). IsLawful (base_held c.args.p.now h)) (sym c.loop-place.invariant.held) (allowed (base_held c.args.p.now c.args.tables.now) c.args.by_index (sym c.is_some-looks_up.ensures ∙ e) c.requires.lawful)

pub with_parts-requires-clause-lawful : goal.with_parts-requires-clause-lawful
with_parts-requires-clause-lawful g c e =
    subst (λ (h : NamedTables). IsLawful (base_held c.args.p.now h)) (sym c.in_ok-first.ensures.held) (allowed (base_held c.args.p.now c.args.tables.now) c.args.by_index (sym c.is_some-looks_up.ensures ∙ e) c.requires.lawful)

pub with_parts-requires-clause-whole : goal.with_parts-requires-clause-whole
with_parts-requires-clause-whole g c = (c.in_ok-first.ensures.stands c.args.p.now).width

pub index-next-requires : goal.index-next-requires
index-next-requires g c =
    let many = length-map c.args.select.now.joins join_tree in
    let all = ap (λ (l : List Join). length l) c.as_slice-joins.ensures in
    omega (arith, many, all, c.in_ok-due.ensures.many, c.loop-place-test.true)

pub with_join-requires-clause-source : goal.with_join-requires-clause-source
with_join-requires-clause-source g c =
    let held = c.args.tables.now in
    let b = base_held c.args.p.now held in
    let s = select_tree c.args.select.now in
    let i = c.loop-place.place in
    let x = c.index-joins-place.result in
    let early = c.args.early.now in
    let old = c.loop-place.so_far in
    let next = next_joins c.args.select.now.joins c.as_slice-joins.result.now i x c.as_slice-joins.ensures c.loop-place-test.true c.index-joins-place.is in
    let left : Left b s early i (join_tree x ∷ map join_tree (drop (i + 1) c.args.select.now.joins)) old.sources old.walked.rows (seen_of old.walked.seen) =
    subst (λ (l : List JoinTree). Left b s early i l old.sources old.walked.rows (seen_of old.walked.seen)) next c.loop-place.invariant.left in
    let scope : scope_held old.sources.sources ≡ left.so_far.scope = left.stands.scope ∙ scope_tried (at_rows b left.so_far.scope) left.so_far (due_at s early i) in
    subst (λ (h : NamedTables). IsSourceTyped (tables_held h) (scope_held old.sources.sources) (join_source (join_tree x))) (sym c.loop-place.invariant.held)
    (subst (λ (z : Scope). IsSourceTyped (tables_held held) z (join_source (join_tree x))) (sym scope) left.typed.0)

pub returns-in_err-so_far-clause-steps : goal.returns-in_err-so_far-clause-steps
returns-in_err-so_far-clause-steps g c listed plain =
    let s = select_tree c.args.select.now in
    let early = c.args.early.now in
    let due : trees_of c.deref-2.result.now ≡ due_at s early 0 = ap trees_of c.deref-2.ensures.value ∙ ap (λ (v : Vec (Bor SqlExpr)). trees_of v.items) c.index-begun.ensures ∙ c.in_ok-due.ensures.due.at 0 c.index-begun.result.now (omega arith) in
    let same = c.with_parts.ensures.steps (subst (λ (es : List Exp). AllByRecursion (λ e. asks e ≡ false) es) (sym due) (due_asks s early 0 plain.condition)) in
    omega (arith, same)

pub returns-in_err-so_far-2-clause-steps : goal.returns-in_err-so_far-2-clause-steps
returns-in_err-so_far-2-clause-steps g c listed plain =
    let p = c.args.p.now in
    let s = select_tree c.args.select.now in
    let joins = c.args.select.now.joins in
    let i = c.loop-place.place in
    let x = c.index-joins-place.result in
    let early = c.args.early.now in
    let old = c.loop-place.so_far in
    let items = c.as_slice-joins.result.now in
    let same : items ≡ joins = c.as_slice-joins.ensures in
    let many = length-map joins join_tree in
    let all = ap (λ (l : List Join). length l) same in
    let within : i < length s.joins = omega (arith, many, all, c.loop-place-test.true) in
    let next = next_joins joins items i x same c.loop-place-test.true c.index-joins-place.is in
    let due : trees_of c.deref-in-loop-place.result.now ≡ due_at s early (suc i) = ap trees_of c.deref-in-loop-place.ensures.value ∙ ap (λ (v : Vec (Bor SqlExpr)). trees_of v.items) c.index-next.ensures ∙ c.in_ok-due.ensures.due.at (i + 1) c.index-next.result.now (omega (arith, within)) ∙ ap (due_at s early) (add-one i) in
    let taken = c.loop-place.invariant.steps listed plain in
    let start = only_place s joins i items plain.one refl same c.loop-place-test.true in
    join_taken p c.args.tables.now s early c.requires.typed.joins plain (join_tree x) (only_join s (join_tree x) (map join_tree (drop (i + 1) joins)) plain.one (ap (λ n. map join_tree (drop n joins)) (sym start) ∙ next)) i old.sources old.walked.rows (seen_of old.walked.seen) c.args.steps.now c.loop-place.steps taken start c.loop-place.invariant.held
    c.with_join.new.steps
    (c.with_join.ensures.steps (c.is_some-looks_up.ensures ∙ looked_up c.args.by_index listed) (subst (λ (es : List Exp). AllByRecursion (λ e. asks e ≡ false) es) (sym due) (due_asks s early (suc i) plain.condition)))

pub first_source-requires-clause-table : goal.first_source-requires-clause-table
first_source-requires-clause-table g c = c.at.ensures ∙ first_given c.args.tables.now (select_tree c.args.select.now) c.args.from.now c.requires.from

pub with_join-requires-clause-table : goal.with_join-requires-clause-table
with_join-requires-clause-table g c =
    let s = select_tree c.args.select.now in
    let items = c.as_slice-joins.result.now in
    c.at-table.ensures
    ∙ join_given c.args.tables.now s c.args.from.now c.args.select.now.joins items c.loop-place.place c.index-joins-place.result c.requires.from refl c.as_slice-joins.ensures c.loop-place-test.true c.index-joins-place.is
    ∙ ap (λ (held : NamedTables). maybe_given held (join_source (join_tree c.index-joins-place.result))) (sym c.loop-place.invariant.held)
