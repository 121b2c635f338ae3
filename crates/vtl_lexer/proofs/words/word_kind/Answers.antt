use Rattle.vtl_lexer.proofs.WordLemmas.{keyword-kind, name-kind}
use Rattle.vtl_lexer.proofs.words.word_kind.Goals as goal
use Rattle.vtl_lexer.proofs.words.word_kind.Goals.{in-Some, in-None+in_ok-new-in-None}

pub returns : goal.returns
returns c =
    let word = c.args.word.now in
    elim c.match-keyword_of.branch [
      | in-Some w ↦ rw w.result-is (keyword-kind word w.in-Some.keyword c.requires w.in-Some.ensures)
      | in-None+in_ok-new-in-None w ↦ let a = w.in_ok-new-in-None.ensures in let b = w.in-None.ensures in rw w.result-is (name-kind word w.in_ok-new-in-None.field-0 c.requires w.in-None.ensures w.in_ok-new-in-None.ensures)
    ]
