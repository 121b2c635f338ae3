use Rattle.std.proofs.Common.{◌≡◌, ◌∷◌, [], ◌++◌, length, take, ap, sym, ◌∙◌, arith}
use Rattle.std.specs.List.{flat_map}
use Rattle.std.proofs.Math.Seq.{take-append_seam}
use Rattle.vtl_join.specs.Crossing.{combined, up_to}
use Rattle.vtl_join.proofs.Combining.{combined_more, combined_step}
use Rattle.vtl_join.proofs.crossing.+push_combined.Goals as goal

pub loop-i-preserved : goal.loop-i-preserved
loop-i-preserved t c =
    let front = c.args.front.now.items in
    let rest = c.in-Some.rest.now in
    let now = c.loop-i.invariant in
    let width : c.len-width.result ≡ length front = omega (arith, c.len-width.ensures, c.args.front.now.ok.0) in
    record {
      tuples = combined_more (λ k. combined (front ++ k ∷ []) rest) c.args.tuples.now.items c.loop-i.tuples.items c.push_combined.new.tuples.items (combined c.push.new.self.items rest) c.loop-i.i now.tuples c.in_ok-push_combined.ensures.tuples
          (ap (λ l. combined l rest) (c.in_ok-push.ensures.items ∙ ap (λ l. l ++ c.loop-i.i ∷ []) now.front));
      front = c.truncate.ensures.items ∙ ap (take c.len-width.result) (c.in_ok-push_combined.ensures.front ∙ c.in_ok-push.ensures.items ∙ ap (λ l. l ++ c.loop-i.i ∷ []) now.front)
          ∙ ap (λ n. take n (front ++ c.loop-i.i ∷ [])) width ∙ take-append_seam front (c.loop-i.i ∷ []);
    }

pub returns-clause-tuples : goal.returns-clause-tuples
returns-clause-tuples t c =
    let front = c.args.front.now.items in
    let count = c.in-Some.count.now in
    let rest = c.in-Some.rest.now in
    let all : c.loop-i.i ≡ count = omega arith in
    c.loop-i.invariant.tuples ∙ ap (λ n. c.args.tuples.now.items ++ flat_map (λ k. combined (front ++ k ∷ []) rest) (up_to n)) all
    ∙ ap (λ l. c.args.tuples.now.items ++ l) (combined_step front count rest ∙ ap (combined front) (sym c.in-Some.ensures.cases.0))
