use Rattle.std.proofs.Common.{◌++◌, ap, arith, drop, string_bytes, subst, sym}
use Rattle.std.specs.List.{AllByRecursion}
use Rattle.vtl_lexer.specs.Pieces.{IsCutOf}
use Rattle.vtl_lexer.specs.declared.token.Token.{Token}
use Rattle.std.proofs.Common.{◌≡◌, ◌-◌, List, length, take}
use Rattle.std.proofs.lemmas.Grind.{elements}
use Rattle.vtl_lists.proofs.Alls.{all_drop}
use Rattle.vtl_format.specs.Form.{lexemes_at}
use Rattle.vtl_format.specs.Layout.{laid}
use Rattle.vtl_format.proofs.Lists.{all-written, next-written}
use Rattle.vtl_format.proofs.layout.laid.Goals as goal

pub loop-i-init : goal.loop-i-init
loop-i-init c = record {
  room = omega arith;
  so_far = ap (λ l. l ++ laid c.args.style 0 (lexemes_at c.args.text.now c.args.tokens.now)) c.new-out.ensures.bytes;
}

pub write_first-requires-clause-cut : goal.write_first-requires-clause-cut
write_first-requires-clause-cut c =
    let tokens = c.args.tokens.now in
    let i = c.loop-i.i in
    let whole : take (length tokens - i) (drop i tokens) ≡ drop i tokens = grind (arith, elements) in
    subst (λ (l : List Token). AllByRecursion (IsCutOf c.args.text.now) l) (sym whole) (all_drop (IsCutOf c.args.text.now) i tokens c.requires)

pub loop-i-preserved : goal.loop-i-preserved
loop-i-preserved c =
    let at = c.loop-i in
    let text = c.args.text.now in
    let next = c.in_ok-next.next in
    let tokens = c.args.tokens.now in
    let whole : take (length tokens - at.i) (drop at.i tokens) ≡ drop at.i tokens = grind (arith, elements) in
    let one = subst
    (λ (l : List Token). string_bytes c.write_first.new.out ++ laid c.args.style next (lexemes_at text (drop 1 l)) ≡ string_bytes at.out ++ laid c.args.style at.depth (lexemes_at text l))
    whole c.in_ok-next.ensures.written in
    record {
      room = omega (arith, c.in_ok-next.ensures.next, at.invariant.room);
      so_far = next-written c.args.style at.depth next text (string_bytes at.out) (string_bytes c.write_first.new.out) (laid c.args.style 0 (lexemes_at text c.args.tokens.now)) c.args.tokens.now at.i one at.invariant.so_far;
    }

pub returns : goal.returns
returns c = all-written c.args.style c.loop-i.depth c.args.text.now (string_bytes c.loop-i.out) (laid c.args.style 0 (lexemes_at c.args.text.now c.args.tokens.now)) c.args.tokens.now c.loop-i.i c.loop-i-test.false c.loop-i.invariant.so_far
