use Rattle.std.proofs.Common.{◌≡◌, ◌<◌, ◌≤◌, ◌∙◌, ◌+◌, ◌∷◌, [], ℕ, List, drop, get_or, length, map, ap, arith, subst, sym}
use Rattle.std.proofs.lemmas.List.{drop-map, length-map, map-id}
use Rattle.vtl_cell.specs.Outcome.{Outcome}
use Rattle.vtl_cell.specs.Row.{Row}
use Rattle.sql_tree.specs.View.{select_tree}
use Rattle.sql_tree.specs.declared.statements.Select.{Select}
use Rattle.sql_meaning.specs.Plans.{early_in, indexed_in, planned_selects, planned_source_rows}
use Rattle.sql_meaning.specs.declared.plan.Early.{Early}
use Rattle.sql_from.specs.Held.{base_held}
use Rattle.sql_meaning.specs.Selects.{appended}
use Rattle.sql_exec.specs.Outputs.{Adds}
use Rattle.sql_exec.specs.Parts.{HasRowsOf, IsPart, phase_of}
use Rattle.sql_exec.proofs.Added.{added_all, added_more}
use Rattle.sql_exec.proofs.Counted.{select_taken}
use Rattle.sql_exec.proofs.FromEach.{from_long, from_select}
use Rattle.sql_exec.proofs.PlannedLists.{list_read}
use Rattle.sql_exec.proofs.PlannedSelects.{has_rows, phase_planned, planned_at, planned_many, planned_read}
use Rattle.sql_exec.proofs.QueryColumns.{drop_read}
use Rattle.sql_exec.proofs.Steps.{holds_mapped}
use Rattle.sql_exec.proofs.selects.add_selects.Goals as goal

-- the select at a place, and those behind it
here : (selects : List Select) (i : ℕ) (x : Select) → i < length selects → x ≡ get_or selects i x → drop i (map select_tree selects) ≡ select_tree x ∷ map select_tree (drop (i + 1) selects)
here selects i x h at = drop-map select_tree i selects ∙ ap (map select_tree) (drop_read selects i x h at)

pub add_select-requires-clause-part : goal.add_select-requires-clause-part
add_select-requires-clause-part g c = holds_mapped (IsPart (base_held c.args.p.now c.args.tables.now) c.args.kinds.now) select_tree c.args.selects.now c.loop-place.place c.index-selects-place.result c.requires.parts c.loop-place-test.true c.index-selects-place.is

pub add_select-requires-clause-same : goal.add_select-requires-clause-same
add_select-requires-clause-same g c =
    let b = base_held c.args.p.now c.args.tables.now in
    let selects = c.args.selects.now in
    let i = c.loop-place.place in
    let x = c.index-selects-place.result in
    let part = holds_mapped (IsPart b c.args.kinds.now) select_tree selects i x c.requires.parts c.loop-place-test.true c.index-selects-place.is in
    subst (λ (early : List Early). HasRowsOf b early (select_tree x)) (sym (c.as_slice-early.ensures.value ∙ list_read (early_in c.args.plan.now.ways) (length selects) c.in_ok-planned.planned.early.items i c.index-in-loop-place.result.now c.in_ok-planned.ensures.early c.loop-place-test.true c.index-in-loop-place.ensures))
    (has_rows c.args.plan.now.ways b c.args.kinds.now (map select_tree selects) c.requires.plan i (select_tree x) (map select_tree (drop (i + 1) selects)) (here selects i x c.loop-place-test.true c.index-selects-place.is) c.requires.lawful part)

pub bounds-from-place : goal.bounds-from-place
bounds-from-place g c = let long = from_long c.args.tables.now c.args.selects.now c.args.from.now c.requires.from in omega (arith, long, c.loop-place-test.true)

pub add_select-requires-clause-from : goal.add_select-requires-clause-from
add_select-requires-clause-from g c = from_select c.args.tables.now c.args.selects.now c.args.from.now c.requires.from c.loop-place.place c.index-selects-place.result c.index-from-place.result c.loop-place-test.true c.index-selects-place.is c.index-from-place.is

pub loop-place-preserved : goal.loop-place-preserved
loop-place-preserved g c =
    let b = base_held c.args.p.now c.args.tables.now in
    let kinds = c.args.kinds.now in
    let w = c.args.plan.now.ways in
    let selects = c.args.selects.now in
    let q = map select_tree selects in
    let i = c.loop-place.place in
    let x = c.index-selects-place.result in
    let s = select_tree x in
    let rest = map select_tree (drop (i + 1) selects) in
    let there = here selects i x c.loop-place-test.true c.index-selects-place.is in
    let many = planned_many w b kinds 0 q in
    let long = length-map selects select_tree in
    let h : i < length (planned_selects b kinds w 0 q) = omega (arith, many, long, c.loop-place-test.true) in
    let early : c.as_slice-early.result.now ≡ early_in w i = c.as_slice-early.ensures.value ∙ list_read (early_in w) (length selects) c.in_ok-planned.planned.early.items i c.index-in-loop-place.result.now c.in_ok-planned.ensures.early c.loop-place-test.true c.index-in-loop-place.ensures in
    let same : phase_of b kinds s (planned_source_rows b s [] c.as_slice-early.result.now) ≡ planned_at w b kinds i s = ap (λ (es : List Early). phase_of b kinds s (planned_source_rows b s [] es)) early ∙ phase_planned w b kinds q c.requires.plan i s rest there in
    record {
      adds = added_more (λ (m : Outcome (List Row)). m) (planned_selects b kinds w 0 q) i (planned_at w b kinds i s) h (planned_read w b kinds i q s rest there) c.args.out.now c.loop-place.out c.add_select.new.out c.loop-place.invariant.adds
          (subst (λ (m : Outcome (List Row)). Adds m c.loop-place.out c.add_select.new.out) same c.in_ok-add_select.ensures.adds);
      steps = λ only one listed plain. record {
        none = λ e. absurd (omega (arith, e));
        most = select_taken b w q only s rest i c.args.steps.now c.loop-place.steps c.add_select.new.steps one (omega (arith, long, c.loop-place-test.true)) there listed plain (c.loop-place.invariant.steps only one listed plain)
            c.as_slice-by_index.result.now (c.as_slice-by_index.ensures.value ∙ list_read (λ n. map (λ e. e.join) (indexed_in w n)) (length selects) c.in_ok-planned.planned.joins.items i c.index.result.now c.in_ok-planned.ensures.joins c.loop-place-test.true c.index.ensures) c.add_select.ensures.steps;
      };
    }

pub returns-clause-adds : goal.returns-clause-adds
returns-clause-adds g c =
    let b = base_held c.args.p.now c.args.tables.now in
    let kinds = c.args.kinds.now in
    let w = c.args.plan.now.ways in
    let selects = c.args.selects.now in
    let q = map select_tree selects in
    let all = planned_selects b kinds w 0 q in
    let many = planned_many w b kinds 0 q in
    let long = length-map selects select_tree in
    let h : length all ≤ c.loop-place.place = omega (arith, many, long, c.loop-place-test.false) in
    subst (λ (ms : List (Outcome (List Row))). Adds (appended ms) c.args.out.now c.loop-place.out) (map-id all) (added_all (λ (m : Outcome (List Row)). m) all c.loop-place.place c.args.out.now c.loop-place.out h c.loop-place.invariant.adds)

pub returns-in_err-add_select-clause-steps : goal.returns-in_err-add_select-clause-steps
returns-in_err-add_select-clause-steps g c only one listed plain =
    let b = base_held c.args.p.now c.args.tables.now in
    let w = c.args.plan.now.ways in
    let selects = c.args.selects.now in
    let i = c.loop-place.place in
    let x = c.index-selects-place.result in
    let long = length-map selects select_tree in
    select_taken b w (map select_tree selects) only (select_tree x) (map select_tree (drop (i + 1) selects)) i c.args.steps.now c.loop-place.steps c.add_select.new.steps one (omega (arith, long, c.loop-place-test.true)) (here selects i x c.loop-place-test.true c.index-selects-place.is) listed plain
    (c.loop-place.invariant.steps only one listed plain) c.as_slice-by_index.result.now (c.as_slice-by_index.ensures.value ∙ list_read (λ n. map (λ e. e.join) (indexed_in w n)) (length selects) c.in_ok-planned.planned.joins.items i c.index.result.now c.in_ok-planned.ensures.joins c.loop-place-test.true c.index.ensures) c.add_select.ensures.steps
