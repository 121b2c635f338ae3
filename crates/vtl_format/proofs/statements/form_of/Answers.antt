use Rattle.std.proofs.Common.{rules, ◌≡◌, ◌<◌, ◌∷◌, ◌++◌, ◌∙◌, [], List, false, length, ap, arith, string_bytes, subst, sym}
use Rattle.std.specs.List.{AllByRecursion}
use Rattle.std.specs.Vec.Iter.{into_iter_items}
use Rattle.std.proofs.lemmas.Bool.Decides.{nat_tests}
use Rattle.vtl_lists.proofs.Filters.{nothing_left}
use Rattle.vtl_lexer.specs.Pieces.{IsCutAt, IsCutOf, pieces_of}
use Rattle.vtl_lexer.specs.declared.parts.Part.{Part}
use Rattle.vtl_lexer.specs.declared.token.Token.{Token}
use Rattle.vtl_format.specs.Form.{form_of_pieces, lexemes_at}
use Rattle.vtl_format.specs.Layout.{statement_form}
use Rattle.vtl_format.specs.Written.{written}
use Rattle.vtl_format.proofs.FormLaws.{written-is_form}
use Rattle.vtl_format.proofs.Lists.{all-front, last-written, lexemes_at-length, none-written}
use Rattle.vtl_format.proofs.statements.form_of.Goals as goal

pub loop-part-init : goal.loop-part-init
loop-part-init c = record {
  left = search rules;
  cut = subst (λ (l : List Part). AllByRecursion (IsCutAt c.args.text.now) l) (sym c.into_iter-part-iterator.ensures.into_iter_gives.0) c.requires;
  held = subst (λ (l : List Token). AllByRecursion (IsCutOf c.args.text.now) l) (sym c.new.ensures.items) tt;
  so_far = ap (λ l. l ++ written false (lexemes_at c.args.text.now c.new.result.items) (pieces_of c.args.text.now (into_iter_items c.into_iter-part-iterator.result))) c.new-out.ensures.bytes
      ∙ ap (λ (l : List Token). written false (lexemes_at c.args.text.now l) (pieces_of c.args.text.now (into_iter_items c.into_iter-part-iterator.result))) c.new.ensures.items
      ∙ ap (λ (l : List Part). written false [] (pieces_of c.args.text.now l)) c.into_iter-part-iterator.ensures.into_iter_gives.0
      ∙ written-is_form (pieces_of c.args.text.now c.args.parts.items);
}

pub take_part-requires-clause-part : goal.take_part-requires-clause-part
take_part-requires-clause-part c =
    (all-front (IsCutAt c.args.text.now) (into_iter_items c.loop-part.part-iterator) c.in-Some.part (into_iter_items c.next.new.self) c.in-Some.ensures.steps.0 c.loop-part.invariant.cut).0

pub loop-part-preserved : goal.loop-part-preserved
loop-part-preserved c =
    let at = c.loop-part in
    let text = c.args.text.now in
    let rest = into_iter_items c.next.new.self in
    let steps : into_iter_items at.part-iterator ≡ c.in-Some.part ∷ rest = c.in-Some.ensures.steps.0 in
    record {
      left = let was = at.invariant.left in
          let gone = c.in-Some.ensures.steps.1 in
          let short = ap length steps in
          omega arith;
      cut = (all-front (IsCutAt text) (into_iter_items at.part-iterator) c.in-Some.part rest steps at.invariant.cut).1;
      held = c.in_ok-take_part.ensures.held;
      so_far = c.in_ok-take_part.ensures.written (pieces_of text rest)
          ∙ ap (λ (l : List Part). string_bytes at.out ++ written at.held.inside (lexemes_at text at.held.tokens.items) (pieces_of text l)) (sym steps) ∙ at.invariant.so_far;
    }

pub returns-then-is_empty : goal.returns-then-is_empty
returns-then-is_empty c =
    let at = c.loop-part in
    let text = c.args.text.now in
    let empty : into_iter_items at.part-iterator ≡ [] = nothing_left (into_iter_items at.part-iterator) (sym at.invariant.left ∙ c.in-None.ensures.steps.0) in
    let none : length at.held.tokens.items ≡ 0 = grind (arith, nat_tests) in
    none-written (lexemes_at text at.held.tokens.items) (string_bytes at.out) (form_of_pieces (pieces_of text c.args.parts.items)) (lexemes_at-length text at.held.tokens.items ∙ none)
    (ap (λ (l : List Part). string_bytes at.out ++ written at.held.inside (lexemes_at text at.held.tokens.items) (pieces_of text l)) (sym empty) ∙ at.invariant.so_far)

pub write_statement-requires : goal.write_statement-requires
write_statement-requires c = subst (λ (l : List Token). AllByRecursion (IsCutOf c.args.text.now) l) (sym c.as_slice.ensures.value) c.loop-part.invariant.held

pub returns : goal.returns
returns c =
    let at = c.loop-part in
    let text = c.args.text.now in
    let empty : into_iter_items at.part-iterator ≡ [] = nothing_left (into_iter_items at.part-iterator) (sym at.invariant.left ∙ c.in-None.ensures.steps.0) in
    let some : 0 < length at.held.tokens.items = grind (arith, nat_tests) in
    let is = c.in_ok-write_statement.ensures ∙ ap (λ (l : List Token). string_bytes at.out ++ (statement_form (lexemes_at text l) ++ 10 ∷ [])) c.as_slice.ensures.value in
    last-written (lexemes_at text at.held.tokens.items) (string_bytes at.out) (string_bytes c.write_statement.new.out) (form_of_pieces (pieces_of text c.args.parts.items)) (omega (arith, some, lexemes_at-length text at.held.tokens.items)) is
    (ap (λ (l : List Part). string_bytes at.out ++ written at.held.inside (lexemes_at text at.held.tokens.items) (pieces_of text l)) (sym empty) ∙ at.invariant.so_far)
