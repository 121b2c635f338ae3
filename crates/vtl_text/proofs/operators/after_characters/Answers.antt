use Rattle.std.proofs.Common.{◌≤◌, ap, not, sym, ◌∙◌, arith, chars}
use Rattle.std.proofs.lemmas.Str.{encodes-chars}
use Rattle.vtl_text.proofs.Parts.{next_left, none_left}
use Rattle.vtl_text.proofs.operators.after_characters.Goals as goal

pub loop-init : goal.loop-init
loop-init c = c.chars-rest.ensures.rest ∙ sym (encodes-chars c.args.t.now c.utf8.t)

pub returns-then-is_none : goal.returns-then-is_none
returns-then-is_none c =
    let within : c.loop.counter ≤ c.args.n = omega arith in
    sym (none_left (chars c.args.t.now) c.loop.counter c.args.n _ _ c.next.result c.next.ensures.steps c.loop.invariant within (c.is_none.ensures ∙ ap not c.if-is_none.true))

pub loop-preserved : goal.loop-preserved
loop-preserved c = next_left (chars c.args.t.now) c.loop.counter _ _ c.next.result c.next.ensures.steps c.loop.invariant (c.is_none.ensures ∙ ap not c.if-is_none.false)
