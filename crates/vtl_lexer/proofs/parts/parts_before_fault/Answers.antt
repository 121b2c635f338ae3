use Rattle.std.proofs.Common.{◌≡◌, ◌≤◌, ◌<◌, arith, length, length-drop, subst, sym, take}
use Rattle.std.specs.Str.{IsCharBoundary}
use Rattle.std.proofs.lemmas.Bool.Decides.{nat_tests}
use Rattle.std.proofs.lemmas.List.{length-take-le}
use Rattle.vtl_lexer.specs.Found.{IsPieceOf}
use Rattle.vtl_lexer.proofs.FoundLemmas.{mark-cut}
use Rattle.vtl_lexer.proofs.PartLemmas.{comment-goes_on, ends-there, faults-there, gap-shrinks, space-goes_on, starts-there, token-goes_on, token-shrinks}
use Rattle.vtl_lexer.proofs.ReturnLemmas.{returns-short}
use Rattle.vtl_lexer.proofs.parts.parts_before_fault.Goals as goal
use Rattle.vtl_lexer.proofs.parts.parts_before_fault.Goals.{in-Space, in-Comment+in_ok-push-in-Comment, in-Token+in_ok-push-in-Token}

pub range_from-rest-requires : goal.range_from-rest-requires
range_from-rest-requires c = λ _. subst (IsCharBoundary c.args.text.now) (sym c.mark_len-at.ensures) (mark-cut c.args.text.now c.utf8.text)

pub is_empty-requires-text-self : goal.is_empty-requires-text-self
is_empty-requires-text-self c = λ _. c.loop-rest.invariant.utf8

pub piece_at_front-requires : goal.piece_at_front-requires
piece_at_front-requires c = tt

pub loop-rest-init : goal.loop-rest-init
loop-rest-init c =
    let within = (mark-cut c.args.text.now c.utf8.text).0 in
    record {
      utf8 = c.range_from-rest.utf8;
      size = rw c.range_from-rest.ensures.value (omega (arith, length-drop c.mark_len-at.result c.args.text.now, within, c.mark_len-at.ensures));
      goes_on = starts-there c.args.text.now c.range_from-rest.result.now c.mark_len-at.result c.new-parts.result.items c.mark_len-at.ensures c.range_from-rest.ensures.value c.new-parts.ensures.items;
    }

pub returns-in-Fault : goal.returns-in-Fault
returns-in-Fault c =
    let rest = c.loop-rest.rest.now in
    let of = subst (IsPieceOf rest) c.in-Fault.is c.in_ok-size.ensures in
    let some : 0 < length rest = grind (arith, nat_tests) in
    rw c.of.ensures (faults-there c.args.text.now rest c.loop-rest.at c.loop-rest.parts.items some of.0 of.1 c.loop-rest.invariant.goes_on)

pub range_from-rest-requires-in-loop-rest : goal.range_from-rest-requires-in-loop-rest
range_from-rest-requires-in-loop-rest c =
    let rest = c.loop-rest.rest.now in
    elim c.match-branch-2.branch [
      | in-Space w ↦ let of = subst (IsPieceOf rest) w.in-Space.is c.in_ok-size.ensures in λ _. subst (IsCharBoundary rest) (sym w.size-is) of.1
      | in-Comment+in_ok-push-in-Comment w ↦ let of = subst (IsPieceOf rest) w.in-Comment.is c.in_ok-size.ensures in λ _. subst (IsCharBoundary rest) (sym w.size-is) of.1
      | in-Token+in_ok-push-in-Token w ↦ let of = subst (IsPieceOf rest) w.in-Token.is c.in_ok-size.ensures in λ _. subst (IsCharBoundary rest) (sym w.size-is) of.1
    ]

pub loop-rest-smaller : goal.loop-rest-smaller
loop-rest-smaller c =
    let rest = c.loop-rest.rest.now in
    let shorter = length-drop c.match-branch-2.size rest in
    let is = c.range_from-rest-in-loop-rest.ensures.value in
    elim c.match-branch-2.branch [
      | in-Space w ↦
          let of = subst (IsPieceOf rest) w.in-Space.is c.in_ok-size.ensures in
          rw is (omega (arith, shorter, w.size-is, gap-shrinks rest w.in-Space.size of.0.gap, of.0.gap.within))
      | in-Comment+in_ok-push-in-Comment w ↦
          let of = subst (IsPieceOf rest) w.in-Comment.is c.in_ok-size.ensures in
          rw is (omega (arith, shorter, w.size-is, gap-shrinks rest w.in-Comment.size of.0.gap, of.0.gap.within))
      | in-Token+in_ok-push-in-Token w ↦
          let of = subst (IsPieceOf rest) w.in-Token.is c.in_ok-size.ensures in
          rw is (omega (arith, shorter, w.size-is, token-shrinks rest w.in-Token.found of.0, of.0.within))
    ]

pub loop-rest-preserved : goal.loop-rest-preserved
loop-rest-preserved c =
    let text = c.args.text.now in
    let rest = c.loop-rest.rest.now in
    let at = c.loop-rest.at in
    let shorter = length-drop c.match-branch-2.size rest in
    let is = c.range_from-rest-in-loop-rest.ensures.value in
    elim c.match-branch-2.branch [
      | in-Space w ↦
          let of = subst (IsPieceOf rest) w.in-Space.is c.in_ok-size.ensures in
          record {
            utf8 = c.range_from-rest-in-loop-rest.utf8;
            size = rw is (omega (arith, shorter, w.size-is, of.0.gap.within, c.loop-rest.invariant.size));
            goes_on = rw (is, w.size-is, w.parts-is) (space-goes_on text rest at w.in-Space.size c.loop-rest.parts.items of.0 c.loop-rest.invariant.goes_on);
          }
      | in-Comment+in_ok-push-in-Comment w ↦
          let of = subst (IsPieceOf rest) w.in-Comment.is c.in_ok-size.ensures in
          record {
            utf8 = c.range_from-rest-in-loop-rest.utf8;
            size = rw is (omega (arith, shorter, w.size-is, of.0.gap.within, c.loop-rest.invariant.size));
            goes_on = rw (is, w.size-is, w.parts-is, w.in_ok-push-in-Comment.ensures.items)
                (comment-goes_on text rest at w.in-Comment.size w.in-Comment.content c.loop-rest.parts.items of.0 c.loop-rest.invariant.goes_on);
          }
      | in-Token+in_ok-push-in-Token w ↦
          let of = subst (IsPieceOf rest) w.in-Token.is c.in_ok-size.ensures in
          record {
            utf8 = c.range_from-rest-in-loop-rest.utf8;
            size = rw is (omega (arith, shorter, w.size-is, of.0.within, c.loop-rest.invariant.size));
            goes_on = rw (is, w.size-is, w.parts-is, w.in_ok-push-in-Token.ensures.items)
                (token-goes_on text rest at w.in-Token.found c.loop-rest.parts.items of.0 c.loop-rest.invariant.goes_on);
          }
    ]

pub returns : goal.returns
returns c =
    let rest = c.loop-rest.rest.now in
    let none : length rest ≡ 0 = grind (arith, nat_tests) in
    rw c.of-2.ensures (ends-there c.args.text.now rest c.loop-rest.at c.loop-rest.parts.items none c.loop-rest.invariant.goes_on)

pub overflow_add-at : goal.overflow_add-at
overflow_add-at c =
    let rest = c.loop-rest.rest.now in
    let size = c.in-Comment.size in
    let of = subst (IsPieceOf rest) c.in-Comment.is c.in_ok-size.ensures in
    omega (arith, of.0.kept, of.0.gap.within, returns-short (take size rest), length-take-le size rest of.0.gap.within, c.loop-rest.invariant.size)
