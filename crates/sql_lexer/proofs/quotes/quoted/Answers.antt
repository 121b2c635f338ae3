use Rattle.std.proofs.Common.{◌≡◌, ◌∷◌, ◌++◌, ◌∙◌, None, Some, chars, sym, ap, subst, encode_utf8, string_bytes}
use Rattle.std.specs.Str.Pattern.{FindsChar, SplitsAroundMatch}
use Rattle.std.proofs.lemmas.Str.{IsUtf8-string_bytes}
use Rattle.sql_lexer.specs.Front.{IsNextPart, allows, kind_of, mark_of}
use Rattle.sql_lexer.specs.Lexed.{IsToken}
use Rattle.sql_lexer.proofs.Quoting.{Reached, mark-ascii, reached-none, reached-start, reached-step, reached-token, unclosed}
use Rattle.sql_lexer.proofs.Texts.{not-split, pushed, split-at}
use Rattle.sql_lexer.proofs.quotes.quoted.Goals as goal

pub returns-in_default : goal.returns-in_default
returns-in_default c =
    unclosed c.args.quotes (chars c.args.body.now) (not-split (mark_of c.args.quotes) c.args.body.now c.utf8.body (subst (λ m. FindsChar m c.args.body.now None) c.mark.ensures c.in_default.ensures.cases))

pub loop-part-init : goal.loop-part-init
loop-part-init c =
    let body = c.args.body.now in
    let plain = c.in-Some.plain.now in
    let behind = c.in-Some.behind.now in
    let parts = split-at (mark_of c.args.quotes) body plain behind (mark-ascii c.args.quotes) c.utf8.body (subst (λ m. SplitsAroundMatch (FindsChar m) body plain behind) c.mark.ensures c.in-Some.ensures.cases) in
    let start = reached-start c.args.quotes (chars body) (chars plain) (chars behind) parts.is parts.lacks in
    record {
      utf8 = parts.rest_utf8;
      reached = subst (λ l. Reached c.args.quotes (chars body) (chars l) (chars behind)) (sym c.in_ok-content.ensures.ok) start;
    }

pub loop-part-preserved : goal.loop-part-preserved
loop-part-preserved c =
    let old = string_bytes c.loop-part.content in
    let part = c.in-Some-next_part.part.now in
    let (next, part_utf8, rest_utf8) = subst (λ l. IsNextPart c.args.quotes (chars l) (chars c.loop-part.behind.now) (Some (c.in-Some-next_part.part, c.in-Some-next_part.rest))) c.as_str.ensures.value c.in-Some-next_part.ensures in
    let first : string_bytes c.push.new.self ≡ old ++ encode_utf8 (mark_of c.args.quotes) = c.in_ok-push.ensures.bytes ∙ ap (λ m. old ++ encode_utf8 m) c.mark-in-Some-next_part.ensures in
    let bytes = c.in_ok-push_str.ensures.bytes ∙ ap (λ l. l ++ part) first in
    let all = pushed (mark_of c.args.quotes) old part (string_bytes c.push_str.new.self) (mark-ascii c.args.quotes) (IsUtf8-string_bytes c.loop-part.content) part_utf8 bytes in
    let step = reached-step c.args.quotes (chars c.args.body.now) (chars old) (chars c.loop-part.behind.now) (chars part) (chars c.in-Some-next_part.rest.now) c.loop-part.invariant.reached next in
    record {
      utf8 = rest_utf8;
      reached = subst (λ l. Reached c.args.quotes (chars c.args.body.now) l (chars c.in-Some-next_part.rest.now)) (sym all) step;
    }

pub returns-then-not-allows : goal.returns-then-not-allows
returns-then-not-allows c =
    let content = string_bytes c.loop-part.content in
    let none = subst (λ l. IsNextPart c.args.quotes (chars l) (chars c.loop-part.behind.now) None) c.as_str.ensures.value c.in_default-next_part.ensures in
    reached-none c.args.quotes (chars c.args.body.now) (chars content) (chars c.loop-part.behind.now) c.loop-part.invariant.reached none
    (ap (λ l. allows c.args.quotes (chars l)) (sym c.as_str-2.ensures.value) ∙ sym c.allows.ensures ∙ c.if-not-allows.true)

pub returns : goal.returns
returns c =
    let content = string_bytes c.loop-part.content in
    let none = subst (λ l. IsNextPart c.args.quotes (chars l) (chars c.loop-part.behind.now) None) c.as_str.ensures.value c.in_default-next_part.ensures in
    let token = reached-token c.args.quotes (chars c.args.body.now) (chars content) (chars c.loop-part.behind.now) c.loop-part.invariant.reached none
    (ap (λ l. allows c.args.quotes (chars l)) (sym c.as_str-2.ensures.value) ∙ sym c.allows.ensures ∙ c.if-not-allows.false) in
    let held : c.in_ok-new.field-0 ≡ chars content = c.in_ok-new.ensures ∙ ap chars c.as_str-3.ensures.value in
    record {
      token = subst (λ kind. IsToken (mark_of c.args.quotes ∷ chars c.args.body.now) kind (chars c.loop-part.behind.now)) (ap (kind_of c.args.quotes) (sym held) ∙ sym c.kind.ensures) token;
      utf8 = c.loop-part.invariant.utf8;
    }
