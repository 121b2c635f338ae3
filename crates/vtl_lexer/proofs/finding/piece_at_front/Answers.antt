use Rattle.std.proofs.Common.{subst}
use Rattle.vtl_lexer.specs.Found.{IsFoundIn, IsGapOf}
use Rattle.vtl_lexer.specs.Gaps.{NoGap}
use Rattle.vtl_lexer.proofs.FoundLemmas.{gap-cut, gap-piece, token-cut}
use Rattle.vtl_lexer.proofs.finding.piece_at_front.Goals as goal
use Rattle.vtl_lexer.proofs.finding.piece_at_front.Goals.{in-Some-2, in-None}

pub gap_piece-requires : goal.gap_piece-requires
gap_piece-requires c = c.in-Some.ensures.within

pub returns-in-Some : goal.returns-in-Some
returns-in-Some c =
    let text = c.args.text.now in
    let gap : IsGapOf text c.in-Some.size = subst (λ l. IsGapOf l c.in-Some.size) c.as_bytes-bytes.ensures.value c.in-Some.ensures in
    gap-piece text c.in-Some.size c.gap_piece.result gap (gap-cut text c.in-Some.size c.utf8.text gap) (rw c.as_bytes-bytes.ensures.value at c.gap_piece.ensures)

pub returns : goal.returns
returns c = elim c.match-branch-2.branch [
  | in-Some-2 w ↦
      let of = subst (IsFoundIn c.args.text.now) w.in-Some-2.is c.in_ok-found.ensures in
      rw w.result-is (of, token-cut c.args.text.now w.in-Some-2.found c.utf8.text of)
  | in-None w ↦
      let none = subst (IsFoundIn c.args.text.now) w.in-None.is c.in_ok-found.ensures in
      rw w.result-is (subst NoGap c.as_bytes-bytes.ensures.value c.in_default.ensures, none)
]
