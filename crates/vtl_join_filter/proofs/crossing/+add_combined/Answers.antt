use Rattle.std.proofs.Common.{◌≡◌, ◌<◌, ◌≤◌, ◌∷◌, [], ◌++◌, length, map, take, refl, ap, subst, sym, ◌∙◌, arith}
use Rattle.std.proofs.lemmas.List.{take_all}
use Rattle.std.proofs.Math.Seq.{take-append_seam}
use Rattle.vtl_expr.specs.Prepared.{prepared_exp}
use Rattle.vtl_join.specs.Crossing.{tuples_behind}
use Rattle.vtl_join.specs.Gatherings.{point_of}
use Rattle.vtl_join_filter.specs.Partners.{AreEnough, numbers_of, points_behind}
use Rattle.vtl_join_filter.specs.Sifting.{asked_of, so_far}
use Rattle.vtl_join_filter.proofs.Combined.{found_more, tuples_step}
use Rattle.vtl_join_filter.proofs.Sifts.{sifted_none}
use Rattle.vtl_join_filter.proofs.crossing.+add_combined.Goals as goal

pub loop-i-init : goal.loop-i-init
loop-i-init t c =
    let a = c.args.asked.now in
    let before = so_far a c.args.sieve.now in
    record {
      ready = c.requires.ready;
      front = refl;
      found = sym (sifted_none a.profile.now (prepared_exp a.condition) before);
    }

pub loop-i-preserved : goal.loop-i-preserved
loop-i-preserved t c =
    let a = c.args.asked.now in
    let front = c.args.front.now.items in
    let rest = c.in-Some.rest.now in
    let now = c.loop-i.invariant in
    let width : c.len-width.result ≡ length front = omega (arith, c.len-width.ensures, c.args.front.now.ok.0) in
    let n = c.at.result in
    let within : c.loop-i.i < length (numbers_of c.numbers_behind-numbers.result) = omega (arith, c.len-i-end.ensures, c.loop-i-test.true) in
    let pushed : c.push.new.self.items ≡ front ++ n ∷ [] = c.in_ok-push.ensures.items ∙ ap (λ l. l ++ n ∷ []) now.front in
    record {
      ready = c.in_ok-add_combined.ensures.ready;
      front = c.truncate.ensures.items ∙ ap (take c.len-width.result) (c.in_ok-add_combined.ensures.front ∙ pushed)
          ∙ ap (λ k. take k (front ++ n ∷ [])) width ∙ take-append_seam front (n ∷ []);
      found = found_more a.profile.now (prepared_exp a.condition) (point_of a.gathering) (λ k. tuples_behind (front ++ k ∷ []) rest) (so_far a c.args.sieve.now) (so_far a c.loop-i.sieve) (so_far a c.add_combined.new.sieve) (numbers_of c.numbers_behind-numbers.result) c.loop-i.i n within c.at.ensures now.found
          (c.in_ok-add_combined.ensures.found ∙ ap (λ l. asked_of a (so_far a c.loop-i.sieve) (map (point_of a.gathering) (tuples_behind l rest))) pushed);
    }

pub returns-clause-found : goal.returns-clause-found
returns-clause-found t c =
    let a = c.args.asked.now in
    let front = c.args.front.now.items in
    let count = c.in-Some.count.now in
    let rest = c.in-Some.rest.now in
    let before = so_far a c.args.sieve.now in
    let ns = numbers_of c.numbers_behind-numbers.result in
    let past : length ns ≤ c.loop-i.i = omega (arith, c.len-i-end.ensures, c.loop-i-test.false) in
    let enough = subst (λ f. AreEnough a f count ns) c.deref-2.ensures.value (c.numbers_behind-numbers.ensures a c.requires.partners) in
    c.loop-i.invariant.found ∙ ap (λ l. asked_of a before (points_behind a front rest l)) (take_all c.loop-i.i ns past) ∙ enough rest before
    ∙ ap (λ l. asked_of a before (map (point_of a.gathering) l)) (tuples_step front count rest ∙ ap (tuples_behind front) (sym c.in-Some.ensures.cases.0))
