use Rattle.std.proofs.Common.{◌∙◌, ◌∷◌, [], List, ℕ, Bool, None, false, cond, not, get_or, ap, subst, sym}
use Rattle.sql_from.specs.Gains.{Gains}
use Rattle.sql_from.specs.Joins.{with_number}
use Rattle.sql_from.specs.declared.pairs.Walked.{Walked}
use Rattle.sql_from.proofs.Gained.{gains_as, gains_nothing, unmarked_more}
use Rattle.sql_from.proofs.joining.add_unmet.Goals.{then-not-met-j+in_ok-keep, else-not-met-j}
use Rattle.sql_from.proofs.joining.add_unmet.Goals as goal

pub loop-j-preserved : goal.loop-j-preserved
loop-j-preserved g c =
    let h = g.P.Pairing.keeps c.args.pairing.now in
    let marks = c.args.marks.now in
    let met = c.args.met.now in
    let j = c.loop-j.j in
    let before = c.loop-j.so_far in
    let behind = c.if-not-met-j.so_far in
    let made : Bool → List (List ℕ) = λ b. cond (not b) (with_number marks j ∷ []) [] in
    let step : Gains h None (made (get_or met j false)) before behind =
    elim c.if-not-met-j.branch [
      | then-not-met-j+in_ok-keep w ↦ subst (λ (d : Walked). Gains h None (made (get_or met j false)) before d) (sym w.so_far-is)
          (gains_as h None None (with_number marks j ∷ []) (made (get_or met j false)) before w.keep.new.so_far (λ i. None) (ap made (sym w.if-not-met-j.true)) w.in_ok-keep.ensures.gains)
      | else-not-met-j w ↦ subst (λ (d : Walked). Gains h None (made (get_or met j false)) before d) (sym w.so_far-is)
          (gains_as h None None [] (made (get_or met j false)) before before (λ i. None) (ap made (sym w.if-not-met-j.false)) (gains_nothing h before))
    ] in
    record {
      width = step.width ∙ c.loop-j.invariant.width;
      gains = unmarked_more h marks met j c.args.so_far.now before behind c.loop-j.invariant.gains step;
    }
