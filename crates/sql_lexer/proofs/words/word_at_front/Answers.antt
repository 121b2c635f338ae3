use Rattle.std.proofs.Common.{◌≡◌, ◌<◌, ◌+◌, ◌++◌, ◌∙◌, ◌⊎◌, ℕ, List, chars, inl, inr, ap, sym, subst, arith, encode_utf8_all}
use borrow.Author.Tests.{ltb-true}
use Rattle.sql_lexer.specs.Places.{place}
use Rattle.sql_lexer.specs.Spelling.{spelling}
use Rattle.sql_lexer.proofs.Table.{first-longest, place-below, placed, spelling-ascii, word_at}
use Rattle.sql_lexer.proofs.Texts.{front-bytes, front-chars, tail-utf8}
use Rattle.sql_lexer.proofs.words.word_at_front.Goals as goal

pub returns-in-Some : goal.returns-in-Some
returns-in-Some c =
    let text = c.args.text.now in
    let i = c.loop-word.word-index in
    let rest = c.in-Some.rest.now in
    let found = c.in-Some.ensures.cases in
    let split : text ≡ spelling (word_at i) ++ rest = found.1.1 ∙ ap (λ l. c.spelling.result.now ++ l) (sym found.2) ∙ ap (λ l. l ++ rest) c.spelling.ensures in
    let front = front-chars text (spelling (word_at i)) rest (spelling-ascii (word_at i)) split in
    (front, first-longest (chars text) (chars rest) i front c.loop-word.invariant, tail-utf8 text (spelling (word_at i)) rest c.utf8.text (spelling-ascii (word_at i)) split)

pub loop-word-preserved : goal.loop-word-preserved
loop-word-preserved c = λ j lt left e. by j left e (below j c.loop-word.word-index lt)
  where
    below : (m n : ℕ) → m < n + 1 → (m < n) ⊎ (m ≡ n)
    below m n lt = grind arith

    by : (j : ℕ) (left : List ℕ) → chars c.args.text.now ≡ spelling (word_at j) ++ left → (j < c.loop-word.word-index) ⊎ (j ≡ c.loop-word.word-index) → ⊥
    by j left e (inl lt) = c.loop-word.invariant j lt left e
    by j left e (inr same) =
        let here = subst (λ n. chars c.args.text.now ≡ spelling (word_at n) ++ left) same e in
        let word = word_at c.loop-word.word-index in
        c.in_default.ensures.cases (encode_utf8_all left)
        (front-bytes c.args.text.now (spelling word) left c.utf8.text (spelling-ascii word) here ∙ ap (λ l. l ++ encode_utf8_all left) (sym c.spelling.ensures))

pub returns : goal.returns
returns c = λ word rest e.
    let end = c.loop-word-test.false in
    let lt : place word < c.loop-word.word-index = omega (arith, ltb-true (place word) 106 (place-below word)) in
    c.loop-word.invariant (place word) lt rest (e ∙ ap (λ v. spelling v ++ rest) (sym (placed word)))
