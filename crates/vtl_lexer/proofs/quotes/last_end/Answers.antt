use Rattle.std.proofs.Common.{◌∙◌, drop, sym, subst}
use Rattle.std.proofs.lemmas.List.{take_rest}
use Rattle.vtl_lexer.specs.Searches.{StandsFirst}
use Rattle.vtl_lexer.specs.Spelling.{Lacks}
use Rattle.vtl_lexer.proofs.StringLemmas.{pair-from, pair-to, so_far-last, so_far-none, so_far-step}
use Rattle.vtl_lexer.proofs.quotes.last_end.Goals as goal

pub returns-then-byte_or_space-ne34 : goal.returns-then-byte_or_space-ne34
returns-then-byte_or_space-ne34 c =
    let text = c.args.text.now in
    let from = c.loop-plain.from in
    let plain = c.in-Some.plain in
    let found : StandsFirst 34 (drop from text) plain = subst (λ l. StandsFirst 34 l plain) (take_rest text from) c.in-Some.ensures in
    so_far-last text c.loop-plain.last from plain c.loop-plain.invariant found (λ pair. c.if-byte_or_space-ne34.true (c.byte_or_space.ensures ∙ pair-to text from plain pair))

pub loop-plain-preserved : goal.loop-plain-preserved
loop-plain-preserved c =
    let text = c.args.text.now in
    let from = c.loop-plain.from in
    let plain = c.in-Some.plain in
    let found : StandsFirst 34 (drop from text) plain = subst (λ l. StandsFirst 34 l plain) (take_rest text from) c.in-Some.ensures in
    so_far-step text c.loop-plain.last from plain c.loop-plain.invariant found (pair-from text from plain (sym c.if-byte_or_space-ne34.false ∙ c.byte_or_space.ensures))

pub returns : goal.returns
returns c =
    let text = c.args.text.now in
    let from = c.loop-plain.from in
    so_far-none text c.loop-plain.last from c.loop-plain.invariant (subst (Lacks 34) (take_rest text from) c.in_default.ensures)
