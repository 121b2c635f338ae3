use Rattle.std.proofs.Common.{[], ◌∷◌, length, length-append, ap, ◌∙◌, arith}
use Rattle.vtl_pages.proofs.Puts.{next_free, next_there}
use Rattle.vtl_pages.proofs.block.Block.put_all.Goals as goal

pub overflow_add-from : goal.overflow_add-from
overflow_add-from g c =
    let h = c.loop-value.invariant in let left = c.loop-value.values.items in let few = c.requires.few in
    record { fits = omega (arith, c.len.ensures ∙ c.pop.new.self.ok.0, ap length c.in-Some.ensures.items, length-append c.pop.new.self.items (c.in-Some.value ∷ []), ap length h.1, length-append left h.0) }

pub put-requires-clause-there : goal.put-requires-clause-there
put-requires-clause-there g c =
    let l = c.loop-value in
    next_there c.args.self.now l.self c.args.from c.len.result c.args.values.now.items l.values.items c.pop.new.self.items c.in-Some.value l.invariant c.in-Some.ensures.items (c.len.ensures ∙ c.pop.new.self.ok.0) c.requires.there

pub put-requires-clause-empty : goal.put-requires-clause-empty
put-requires-clause-empty g c =
    let l = c.loop-value in
    next_free c.args.self.now l.self c.args.from c.len.result c.args.values.now.items l.values.items c.pop.new.self.items c.in-Some.value l.invariant c.in-Some.ensures.items (c.len.ensures ∙ c.pop.new.self.ok.0) c.requires.free
