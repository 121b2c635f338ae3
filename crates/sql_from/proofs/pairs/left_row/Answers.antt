use Rattle.std.proofs.Common.{◌≡◌, ◌∙◌, ◌∷◌, [], None, ap, sym, not, cond}
use Rattle.sql_from.specs.Joins.{with_number}
use Rattle.sql_from.proofs.Gained.{gains_as, gains_nothing, left_gains}
use Rattle.sql_from.proofs.pairs.left_row.Goals.{else-keeps-via-then-keeps+else-not-any, else-keeps-via-else-keeps}
use Rattle.sql_from.proofs.pairs.left_row.Goals as goal

pub returns-in_ok-keep-clause-gains : goal.returns-in_ok-keep-clause-gains
returns-in_ok-keep-clause-gains g c =
    let f = g.P.Pairing.value c.args.pairing.now in
    let h = g.P.Pairing.keeps c.args.pairing.now in
    let n = g.P.Pairing.count c.args.pairing.now in
    let x = c.args.front.now in
    let any = c.in_ok-any.any in
    let alone = ap (λ m. with_number x m ∷ []) c.count-count.ensures ∙ ap (λ k. cond (not k) (with_number x n ∷ []) []) (sym c.if-not-any.true) ∙ ap (λ k. cond k (cond (not any) (with_number x n ∷ []) []) []) (sym c.if-keeps.true) in
    left_gains c.args.keeps any f h n x c.args.so_far.now c.add_pairs.new.so_far c.keep.new.so_far c.in_ok-any.ensures.met c.in_ok-any.ensures.tries.gains (gains_as h None None _ _ c.add_pairs.new.so_far c.keep.new.so_far (λ i. None) alone c.in_ok-keep.ensures.gains)

pub returns-else-keeps-clause-gains : goal.returns-else-keeps-clause-gains
returns-else-keeps-clause-gains g c =
    let f = g.P.Pairing.value c.args.pairing.now in
    let h = g.P.Pairing.keeps c.args.pairing.now in
    let n = g.P.Pairing.count c.args.pairing.now in
    let x = c.args.front.now in
    let any = c.in_ok-any.any in
    let nothing : [] ≡ cond c.args.keeps (cond (not any) (with_number x n ∷ []) []) [] =
    elim c.else-keeps.branch [
      | else-keeps-via-then-keeps+else-not-any w ↦ ap (λ k. cond (not k) (with_number x n ∷ []) []) (sym w.if-not-any.false) ∙ ap (λ k. cond k (cond (not any) (with_number x n ∷ []) []) []) (sym w.if-keeps.true)
      | else-keeps-via-else-keeps w ↦ ap (λ k. cond k (cond (not any) (with_number x n ∷ []) []) []) (sym w.if-keeps.false)
    ] in
    left_gains c.args.keeps any f h n x c.args.so_far.now c.add_pairs.new.so_far c.add_pairs.new.so_far c.in_ok-any.ensures.met c.in_ok-any.ensures.tries.gains (gains_as h None None [] _ c.add_pairs.new.so_far c.add_pairs.new.so_far (λ i. None) nothing (gains_nothing h c.add_pairs.new.so_far))
