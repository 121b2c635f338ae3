use Rattle.std.proofs.Common.{◌≡◌, ◌<◌, ◌≤◌, ◌++◌, ◌∷◌, ◌∙◌, [], true, length, map, cond, ap, sym, subst, refl, arith}
use Rattle.std.specs.List.{AllByRecursion, filter}
use Rattle.std.proofs.lemmas.List.{take_all}
use Rattle.vtl_lists.proofs.Alls.{all_get}
use Rattle.vtl_cell.specs.Outcome.{faults_by, join}
use Rattle.vtl_rows.specs.Places.{row_at}
use Rattle.vtl_rows.specs.Tables.{fits}
use Rattle.sql_from.specs.Held.{rows_held}
use Rattle.sql_from.specs.KeyPartners.{Asking}
use Rattle.sql_meaning.specs.Profiles.{AreOfProfile, IsRowOfProfile}
use Rattle.vtl_scalar.specs.Seen.{seen_of}
use Rattle.sql_groups.specs.Grouped.{AreWithin, Group, rows_at}
use Rattle.sql_groups.specs.Items.{around, fault_for, fault_of_key, is_kept, keys_in, passes, places_of, row_for, row_of_key, tested}
use Rattle.sql_groups.specs.Kept.{rows_of}
use Rattle.sql_groups.proofs.GroupLemmas.{group_within}
use Rattle.sql_groups.proofs.KeyLemmas.{keys_of_profile}
use Rattle.sql_groups.proofs.ItemLemmas.{faults_of_more, group_is, rows_more, walked}
use Rattle.sql_groups.proofs.rows.push_groups.Goals as goal

pub of-at-requires : goal.of-at-requires
of-at-requires g c =
    let g = c.in_ok-groups.groups in
    let x = c.args.rows.now in
    let within : c.loop-number.number < length g.keys = omega (arith, c.len-number-end.ensures.keys, c.loop-number-test.true) in
    record {
      numbers = subst (AreWithin (rows_of x)) (sym c.rows.ensures) (group_within (places_of x c.args.group.now) (rows_of x) g c.in_ok-groups.ensures c.loop-number.number within);
      null = refl;
      partners = record {
        held = ap (λ (a : Asking). a.held) c.in_ok-partners.ensures.keys;
        sources = c.in_ok-partners.ensures.rows;
        ranged =
            subst (λ (a : Asking). IsRowOfProfile a.settings c.deref.result.now) (sym c.in_ok-partners.ensures.keys)
            (subst (IsRowOfProfile c.args.p.now) (sym (c.deref.ensures.value ∙ c.in_ok-put_key.ensures))
            (all_get (IsRowOfProfile c.args.p.now) g.keys c.loop-number.number [] within
            (subst (AreOfProfile c.args.p.now) (sym c.in_ok-groups.ensures.keys_are) (keys_of_profile c.args.p.now (places_of x c.args.group.now) (rows_of x) c.requires.ranged))));
      };
    }

pub push_group-requires : goal.push_group-requires
push_group-requires g c =
    let g = c.in_ok-groups.groups in
    let p = c.args.p.now in
    let x = c.args.rows.now in
    let s = c.args.select.now in
    let i = c.loop-number.number in
    let a = around p x c.args.group.now in
    let within : i < length g.keys = omega (arith, c.len-number-end.ensures.keys, c.loop-number-test.true) in
    let group = group_is x c.args.group.now g i c.of-at.result c.in_ok-groups.ensures within c.of-at.ensures.held (c.of-at.ensures.key ∙ c.deref.ensures.value ∙ c.in_ok-put_key.ensures) (c.of-at.ensures.rows ∙ ap (rows_at (rows_of x)) c.rows.ensures) in
    ap (λ (z : Group). fits c.loop-number.table.columns (row_for p (rows_held z.held) z.key z.rows s)) group
    ∙ ap (λ l. fits l (row_of_key a s (row_at g.keys i))) c.loop-number.invariant.columns
    ∙ all_get (λ k. fits c.args.table.now.columns (row_of_key a s k) ≡ true) g.keys i [] within
    (subst (λ ks. AllByRecursion (λ k. fits c.args.table.now.columns (row_of_key a s k) ≡ true) ks) (sym c.in_ok-groups.ensures.keys_are) c.requires.made)

pub loop-number-preserved : goal.loop-number-preserved
loop-number-preserved g c =
    let g = c.in_ok-groups.groups in
    let p = c.args.p.now in
    let x = c.args.rows.now in
    let s = c.args.select.now in
    let i = c.loop-number.number in
    let a = around p x c.args.group.now in
    let within : i < length g.keys = omega (arith, c.len-number-end.ensures.keys, c.loop-number-test.true) in
    let group = group_is x c.args.group.now g i c.of-at.result c.in_ok-groups.ensures within c.of-at.ensures.held (c.of-at.ensures.key ∙ c.deref.ensures.value ∙ c.in_ok-put_key.ensures) (c.of-at.ensures.rows ∙ ap (rows_at (rows_of x)) c.rows.ensures) in
    record {
      columns = c.push_group.ensures.columns ∙ c.loop-number.invariant.columns;
      rows =
          rows_more (row_of_key a s) (is_kept a s) g.keys i within c.args.table.now.rows c.loop-number.table.rows c.push_group.new.table.rows c.loop-number.invariant.rows
          (c.in_ok-seen.ensures.rows ∙ ap (λ (z : Group). c.loop-number.table.rows ++ cond (passes (tested p (rows_held z.held) s.having z.key z.rows)) (row_for p (rows_held z.held) z.key z.rows s ∷ []) []) group);
      seen =
          faults_of_more (fault_of_key a s) g.keys i within (seen_of c.loop-number.seen) (seen_of c.in_ok-seen.seen) c.loop-number.invariant.seen
          (c.in_ok-seen.ensures.seen ∙ ap (λ (z : Group). join (seen_of c.loop-number.seen) (fault_for p (rows_held z.held) z.key z.rows s)) group);
    }

pub returns-clause-rows : goal.returns-clause-rows
returns-clause-rows g c =
    let g = c.in_ok-groups.groups in
    let s = c.args.select.now in
    let a = around c.args.p.now c.args.rows.now c.args.group.now in
    let past : length g.keys ≤ c.loop-number.number = omega (arith, c.len-number-end.ensures.keys, c.loop-number-test.false) in
    let all = take_all c.loop-number.number g.keys past ∙ c.in_ok-groups.ensures.keys_are in
    walked _ c.unless.result (seen_of c.loop-number.seen) (faults_by (fault_of_key a s) (keys_in c.args.rows.now c.args.group.now)) tt c.args.table.now.rows (map (row_of_key a s) (filter (is_kept a s) (keys_in c.args.rows.now c.args.group.now))) c.unless.ensures
    (c.loop-number.invariant.seen ∙ ap (faults_by (fault_of_key a s)) all)
    (c.loop-number.invariant.rows ∙ ap (λ ks. c.args.table.now.rows ++ map (row_of_key a s) (filter (is_kept a s) ks)) all)
