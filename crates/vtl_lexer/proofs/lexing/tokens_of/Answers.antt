use Rattle.std.proofs.Common.{rules, ◌≡◌, ◌++◌, ◌∷◌, ◌∙◌, [], List, length, append-nil, sym, ap, arith}
use Rattle.std.specs.Vec.Iter.{into_iter_items}
use Rattle.vtl_lexer.specs.Parts.{tokens_of}
use Rattle.vtl_lexer.specs.declared.parts.Part.{Part}
use Rattle.vtl_lexer.proofs.PartLemmas.{none-left}
use Rattle.vtl_lexer.proofs.lexing.tokens_of.Goals as goal

pub loop-part-init : goal.loop-part-init
loop-part-init c = record {
  left = search rules;
  came = ap (λ l. l ++ tokens_of (into_iter_items c.into_iter-part-iterator.result)) c.new-tokens.ensures.items ∙ ap tokens_of c.into_iter-part-iterator.ensures.into_iter_gives.0;
}

pub loop-part-preserved : goal.loop-part-preserved
loop-part-preserved c =
    let at = c.loop-part in
    let rest = into_iter_items c.next.new.self in
    let steps : into_iter_items at.part-iterator ≡ c.in-Some.part ∷ rest = c.in-Some.ensures.steps.0 in
    record {
      left = let was = at.invariant.left in
          let gone = c.in-Some.ensures.steps.1 in
          let short = ap length steps in
          omega arith;
      came = ap (λ l. at.tokens.items ++ l) (sym (ap tokens_of steps ∙ ap (λ (x : Part). tokens_of (x ∷ rest)) c.in_default.is)) ∙ at.invariant.came;
    }

pub returns : goal.returns
returns c =
    let at = c.loop-part in
    let empty : into_iter_items at.part-iterator ≡ [] = none-left (into_iter_items at.part-iterator) (sym at.invariant.left ∙ c.in-None.ensures.steps.0) in
    sym (append-nil at.tokens.items) ∙ ap (λ (l : List Part). at.tokens.items ++ tokens_of l) (sym empty) ∙ at.invariant.came
