use Rattle.std.proofs.Common.{◌≡◌, ℕ, ◌∷◌, [], ◌++◌, List, map, ap, sym, subst, ◌∙◌}
use Rattle.std.specs.Prelude.{OnOk}
use Rattle.vtl_expr.specs.Prepared.{prepared_exp}
use Rattle.vtl_join.specs.Crossing.{tuples_behind}
use Rattle.vtl_join.specs.Gatherings.{point_of}
use Rattle.vtl_join.proofs.Combining.{no_combinations}
use Rattle.vtl_join_filter.specs.Sifting.{asked_of, so_far}
use Rattle.vtl_join_filter.proofs.Sifts.{sifted_none}
use Rattle.vtl_join_filter.proofs.crossing.add_all.Goals as goal

pub returns-then-contains-clause-found : goal.returns-then-contains-clause-found
returns-then-contains-clause-found c =
    let a = c.args.asked.now in
    let s = so_far a c.args.sieve.now in
    sym (ap (λ (ts : List (List ℕ)). asked_of a s (map (point_of a.gathering) (map (λ t. (0 ∷ []) ++ t) ts))) (no_combinations c.args.counts.now (sym c.contains.ensures.value ∙ c.if-contains.true)) ∙ sifted_none a.profile.now (prepared_exp a.condition) s)

pub returns-clause-found : goal.returns-clause-found
returns-clause-found c =
    let a = c.args.asked.now in
    let front : c.push.new.self.items ≡ 0 ∷ [] = c.in_ok-push.ensures.items ∙ ap (λ l. l ++ 0 ∷ []) c.in_ok-front.ensures.items in
    subst (λ (l : List ℕ). OnOk c.add_combined.result (so_far a c.add_combined.new.sieve ≡ asked_of a (so_far a c.args.sieve.now) (map (point_of a.gathering) (tuples_behind l c.args.counts.now)))) front c.add_combined.ensures.found
