use Rattle.std.proofs.Common.{IfOk, chars, sym, subst}
use Rattle.sql_lexer.specs.Front.{IsFoundIn, IsNumberIn}
use Rattle.sql_lexer.proofs.FrontParts.{no-token, word-token}
use Rattle.sql_lexer.proofs.Texts.{not-stripped, stripped}
use Rattle.sql_lexer.proofs.finding.token_at_front.Goals as goal

pub returns-in-Some : goal.returns-in-Some
returns-in-Some c =
    let first = stripped 34 c.args.text.now c.in-Some.body.now c.utf8.text c.in-Some.ensures.cases in
    subst (λ l. IfOk c.quoted.result (λ found. IsFoundIn l found)) (sym first.is) c.quoted.ensures

pub returns-in-Some-strip_prefix : goal.returns-in-Some-strip_prefix
returns-in-Some-strip_prefix c =
    let first = stripped 39 c.args.text.now c.in-Some-strip_prefix.body.now c.utf8.text c.in-Some-strip_prefix.ensures.cases in
    subst (λ l. IfOk c.quoted-in-Some-strip_prefix.result (λ found. IsFoundIn l found)) (sym first.is) c.quoted-in-Some-strip_prefix.ensures

pub returns-in-Some-word_at_front : goal.returns-in-Some-word_at_front
returns-in-Some-word_at_front c =
    let found = c.in-Some-word_at_front.ensures in
    record { token = word-token (chars c.args.text.now) c.in-Some-word_at_front.word (chars c.in-Some-word_at_front.rest.now) found.0 found.1; utf8 = found.2 }

pub returns-in-None : goal.returns-in-None
returns-in-None c =
    no-token (chars c.args.text.now) (λ rest e. not-stripped 34 c.args.text.now rest c.utf8.text c.in_default.ensures.cases e) (λ rest e. not-stripped 39 c.args.text.now rest c.utf8.text c.in_default-strip_prefix.ensures.cases e)
    (subst (IsNumberIn (chars c.args.text.now)) c.in_default-2.is c.in_ok-found.ensures) c.in-None.ensures
