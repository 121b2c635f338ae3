use Rattle.std.proofs.Common.{◌≡◌, ◌∙◌, ◌+◌, ◌-◌, ◌<◌, drop, length, ap, sym, subst, arith}
use Rattle.std.proofs.lemmas.List.{drop_all}
use Rattle.sql_check_parts.specs.Scopes.{found}
use Rattle.sql_meaning.specs.Values.{same_column}
use Rattle.sql_eval.specs.GroupPlaces.{place_from}
use Rattle.sql_eval.proofs.GroupPlaces.{place_next}
use Rattle.sql_eval.proofs.group_columns.GroupColumns.of.Goals as goal

pub loop-place-init : goal.loop-place-init
loop-place-init c =
    let columns = c.args.columns.now in
    record {
      within = omega arith;
      puts = λ x. ap (λ l. found l x) c.new-places.ensures ∙ sym (ap (place_from (same_column x) (length columns)) (drop_all (length columns) columns (omega arith)));
    }

pub loop-place-preserved : goal.loop-place-preserved
loop-place-preserved c =
    let columns = c.args.columns.now in
    let i = c.loop-place.place - 1 in
    let next : c.loop-place.place ≡ i + 1 = omega (arith, c.loop-place-test.true) in
    let within : i < length columns = omega (arith, c.loop-place-test.true, c.loop-place.invariant.within) in
    record {
      within = omega (arith, within);
      puts = λ x. place_next x columns i c.index-columns-place.result (found c.loop-place.places x) (found c.put_place.new.places x) within c.index-columns-place.is
          (subst (λ n. found c.loop-place.places x ≡ place_from (same_column x) n (drop n columns)) next (c.loop-place.invariant.puts x)) (c.in_ok-put_place.ensures x);
    }

pub invariant_of-result : goal.invariant_of-result
invariant_of-result c =
    let columns = c.args.columns.now in
    let zero : c.loop-place.place ≡ 0 = omega (arith, c.loop-place-test.false) in
    λ x. subst (λ n. found c.loop-place.places x ≡ place_from (same_column x) n (drop n columns)) zero (c.loop-place.invariant.puts x)
