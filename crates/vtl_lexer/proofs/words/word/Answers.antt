use Rattle.std.proofs.Common.{◌≡◌, take, arith, subst}
use Rattle.std.proofs.lemmas.Grind.{common_steps}
use Rattle.vtl_text.specs.Words.{is_word_character}
use Rattle.vtl_lexer.specs.Found.{IsWordKind}
use Rattle.vtl_lexer.proofs.SearchLemmas.{run-of_text}
use Rattle.vtl_lexer.proofs.WordLemmas.{word-cut, word-is, word-long, word-token}
use Rattle.vtl_lexer.proofs.words.word.Goals as goal

pub returns-then-size-gt-MAX_WORD_BYTES : goal.returns-then-size-gt-MAX_WORD_BYTES
returns-then-size-gt-MAX_WORD_BYTES c =
    let run = run-of_text is_word_character c.args.text.now _ c.word_len-size.result c.word_len-size.ensures c.as_bytes.ensures.value in
    word-long c.args.text.now c.word_len-size.result c.requires run (omega arith)

pub range-requires-clause-end_boundary : goal.range-requires-clause-end_boundary
range-requires-clause-end_boundary c =
    let run = run-of_text is_word_character c.args.text.now _ c.word_len-size.result c.word_len-size.ensures c.as_bytes.ensures.value in
    word-cut c.args.text.now c.word_len-size.result c.utf8.text c.requires run

pub word_kind-requires : goal.word_kind-requires
word_kind-requires c =
    let run = run-of_text is_word_character c.args.text.now _ c.word_len-size.result c.word_len-size.ensures c.as_bytes.ensures.value in
    let front : c.range.result.now ≡ take c.word_len-size.result c.args.text.now = grind (arith, common_steps) in
    rw front (word-is c.args.text.now c.word_len-size.result c.requires run (omega arith))

pub returns : goal.returns
returns c =
    let run = run-of_text is_word_character c.args.text.now _ c.word_len-size.result c.word_len-size.ensures c.as_bytes.ensures.value in
    let front : c.range.result.now ≡ take c.word_len-size.result c.args.text.now = grind (arith, common_steps) in
    word-token c.args.text.now c.word_len-size.result c.in_ok-kind.kind c.requires run (subst (IsWordKind c.in_ok-kind.kind) front c.in_ok-kind.ensures)
