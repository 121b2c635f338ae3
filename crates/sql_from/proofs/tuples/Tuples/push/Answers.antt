use Rattle.std.proofs.Common.{◌≡◌, ◌∙◌, ◌++◌, ◌∷◌, [], ap, length, length-append, append_assoc, arith}
use Rattle.vtl_rows.specs.Gathered.{pieces}
use Rattle.vtl_rows.proofs.Gathered.{pieces-push}
use Rattle.sql_from.proofs.tuples.Tuples.push.Goals as goal

pub returns-clause-tuples : goal.returns-clause-tuples
returns-clause-tuples c =
    let ns = c.self.inside.numbers.items in
    let x = c.args.front.now ++ c.args.last ∷ [] in
    let w = c.self.inside.width in
    let n = c.self.inside.count in
    let l = length-append c.args.front.now (c.args.last ∷ []) in
    let wide : w ≡ c.args.self.now.width = ap (λ t. t.width) c.self.view_is in
    let e : length x ≡ w = omega (arith, l, wide, c.requires) in
    let items : c.push.new.self.items ≡ ns ++ x = c.in_ok-push.ensures.items ∙ ap (λ l. l ++ c.args.last ∷ []) (c.in_ok-extend_from_slice.ensures.items ∙ ap (λ l. l ++ c.args.front.now) c.try_reserve.ensures.items) ∙ append_assoc ns c.args.front.now (c.args.last ∷ []) in
    ap (pieces w) items ∙ pieces-push w n ns x c.self.invariant.wide c.self.invariant.whole e ∙ ap (λ t. t.tuples ++ x ∷ []) c.self.view_is
