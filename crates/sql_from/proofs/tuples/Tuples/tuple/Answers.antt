use Rattle.std.proofs.Common.{◌*◌, ◌∙◌, ap, length, drop, take, arith}
use Rattle.sql_from.proofs.Flats.{tuple_within, tuple_read, tuple_wide}
use Rattle.sql_from.proofs.tuples.Tuples.tuple.Goals as goal

pub overflow_mul-i : goal.overflow_mul-i
overflow_mul-i c =
    let w = tuple_within _ _ _ _ c.self.invariant (ap (λ t. t.tuples) c.self.view_is) c.args.i c.requires in
    let l = ap length c.as_slice.ensures.value in
    omega (arith, w, l, c.as_slice.type_inv.0)

pub part-requires : goal.part-requires
part-requires c =
    let w = tuple_within _ _ _ _ c.self.invariant (ap (λ t. t.tuples) c.self.view_is) c.args.i c.requires in
    let l = ap length c.as_slice.ensures.value in
    omega (arith, w, l)

pub returns-clause-tuple : goal.returns-clause-tuple
returns-clause-tuple c =
    c.part.ensures ∙ ap (λ l. take c.self.inside.width (drop (c.args.i * c.self.inside.width) l)) c.as_slice.ensures.value
    ∙ tuple_read _ _ _ _ c.self.invariant (ap (λ t. t.tuples) c.self.view_is) c.args.i _ c.requires

pub returns-clause-width : goal.returns-clause-width
returns-clause-width c =
    ap length (c.part.ensures ∙ ap (λ l. take c.self.inside.width (drop (c.args.i * c.self.inside.width) l)) c.as_slice.ensures.value)
    ∙ tuple_wide _ _ _ _ c.self.invariant (ap (λ t. t.tuples) c.self.view_is) c.args.i c.requires ∙ ap (λ t. t.width) c.self.view_is
