use Rattle.std.proofs.Common.{◌≡◌, ◌∷◌, ◌++◌, ◌∙◌, [], ℕ, List, None, chars, length, length-append, append_assoc, sym, ap, subst, arith, encode_utf8, string_bytes}
use Rattle.std.specs.Str.Pattern.{FindsChar, SplitsAroundMatch}
use Rattle.std.proofs.lemmas.Result.{IfOk-equal}
use Rattle.std.proofs.lemmas.Str.{IsUtf8-string_bytes, chars-append}
use Rattle.sql_lexer.specs.Front.{Lacks, mark_of}
use Rattle.sql_lexer.specs.Spelling.{doubled, quoted}
use Rattle.sql_lexer.proofs.Quoting.{doubled-append, doubled-plain, doubled-quote, mark-ascii}
use Rattle.sql_lexer.proofs.Texts.{appended, not-split, pushed-one, quote-chars, split-at}
use Rattle.sql_lexer.proofs.writing.write_quoted.Goals as goal

pub loop-plain-init : goal.loop-plain-init
loop-plain-init c =
    let quote = mark_of c.args.quotes in
    let old = string_bytes c.args.out.now in
    let first = c.in_ok-push.ensures.bytes ∙ ap (λ m. old ++ encode_utf8 m) c.mark.ensures in
    let one = pushed-one quote old (string_bytes c.push.new.self) (mark-ascii c.args.quotes) (IsUtf8-string_bytes c.args.out.now) first in
    record {
      utf8 = c.utf8.text;
      written = ap (λ l. l ++ doubled quote (chars c.args.text.now)) one ∙ append_assoc (chars old) (quote ∷ []) (doubled quote (chars c.args.text.now));
    }

pub loop-plain-smaller : goal.loop-plain-smaller
loop-plain-smaller c =
    let rest = c.loop-plain.rest.now in
    let parts = split-at (mark_of c.args.quotes) rest c.in-Some.plain.now c.in-Some.behind.now (mark-ascii c.args.quotes) c.loop-plain.invariant.utf8
    (subst (λ m. SplitsAroundMatch (FindsChar m) rest c.in-Some.plain.now c.in-Some.behind.now) c.mark-in-loop-plain.ensures c.in-Some.ensures.cases) in
    omega (arith, ap length parts.is, length-append (chars c.in-Some.plain.now) (mark_of c.args.quotes ∷ chars c.in-Some.behind.now))

-- a part, with the quote behind it twice
one-part : (quote : ℕ) (out part all rest left : List ℕ) → all ≡ ((out ++ part) ++ quote ∷ []) ++ quote ∷ [] → rest ≡ part ++ quote ∷ left → Lacks quote part → all ++ doubled quote left ≡ out ++ doubled quote rest
one-part quote out part all rest left e f lacks =
    let second : doubled quote rest ≡ part ++ quote ∷ quote ∷ doubled quote left =
    ap (doubled quote) f ∙ doubled-append quote part (quote ∷ left) ∙ ap (λ l. l ++ doubled quote (quote ∷ left)) (doubled-plain quote part lacks) ∙ ap (λ l. part ++ l) (doubled-quote quote left) in
    let tail = doubled quote left in
    ap (λ l. l ++ tail) e ∙ append_assoc ((out ++ part) ++ quote ∷ []) (quote ∷ []) tail ∙ append_assoc (out ++ part) (quote ∷ []) (quote ∷ tail) ∙ append_assoc out part (quote ∷ quote ∷ tail) ∙ ap (λ l. out ++ l) (sym second)

pub loop-plain-preserved : goal.loop-plain-preserved
loop-plain-preserved c =
    let quote = mark_of c.args.quotes in
    let ascii = mark-ascii c.args.quotes in
    let rest = c.loop-plain.rest.now in
    let plain = c.in-Some.plain.now in
    let behind = c.in-Some.behind.now in
    let parts = split-at quote rest plain behind ascii c.loop-plain.invariant.utf8 (subst (λ m. SplitsAroundMatch (FindsChar m) rest plain behind) c.mark-in-loop-plain.ensures c.in-Some.ensures.cases) in
    let out = string_bytes c.loop-plain.out in
    let a = ap chars c.in_ok-push_str.ensures.bytes ∙ chars-append out plain (IsUtf8-string_bytes c.loop-plain.out) in
    let b = pushed-one quote (string_bytes c.push_str.new.self) (string_bytes c.push-in-Some.new.self) ascii (IsUtf8-string_bytes c.push_str.new.self) (c.in_ok-push-2.ensures.bytes ∙ ap (λ m. string_bytes c.push_str.new.self ++ encode_utf8 m) c.mark-in-Some.ensures) in
    let d = pushed-one quote (string_bytes c.push-in-Some.new.self) (string_bytes c.push-in-Some-2.new.self) ascii (IsUtf8-string_bytes c.push-in-Some.new.self) (c.in_ok-push-3.ensures.bytes ∙ ap (λ m. string_bytes c.push-in-Some.new.self ++ encode_utf8 m) c.mark-in-Some-2.ensures) in
    let all = d ∙ ap (λ l. l ++ quote ∷ []) (b ∙ ap (λ l. l ++ quote ∷ []) a) in
    record {
      utf8 = parts.rest_utf8;
      written = one-part quote (chars out) (chars plain) (chars (string_bytes c.push-in-Some-2.new.self)) (chars rest) (chars behind) all parts.is parts.lacks ∙ c.loop-plain.invariant.written;
    }

pub returns : goal.returns
returns c =
    let quote = mark_of c.args.quotes in
    let ascii = mark-ascii c.args.quotes in
    let rest = c.loop-plain.rest.now in
    let old = string_bytes c.args.out.now in
    let out = string_bytes c.loop-plain.out in
    let next = string_bytes c.push_str-2.new.self in
    let all = string_bytes c.push-2.new.self in
    let lacks = not-split quote rest c.loop-plain.invariant.utf8 (subst (λ m. FindsChar m rest None) c.mark-in-loop-plain.ensures c.in_default.ensures.cases) in
    let text : chars next ≡ chars old ++ quote ∷ doubled quote (chars c.args.text.now) =
    ap chars c.in_ok-push_str-2.ensures.bytes ∙ chars-append out rest (IsUtf8-string_bytes c.loop-plain.out) ∙ ap (λ l. chars out ++ l) (sym (doubled-plain quote (chars rest) lacks)) ∙ c.loop-plain.invariant.written in
    let mark : chars (encode_utf8 c.mark-2.result) ≡ quote ∷ [] = ap (λ m. chars (encode_utf8 m)) c.mark-2.ensures ∙ quote-chars quote ascii in
    IfOk-equal c.push-2.result (chars all) (chars next ++ chars (encode_utf8 c.mark-2.result)) (chars old ++ quoted quote (chars c.args.text.now)) (appended c.push-2.result next (encode_utf8 c.mark-2.result) all (IsUtf8-string_bytes c.push_str-2.new.self) c.push-2.ensures.bytes)
    (ap (λ l. chars next ++ l) mark ∙ ap (λ l. l ++ quote ∷ []) text ∙ append_assoc (chars old) (quote ∷ doubled quote (chars c.args.text.now)) (quote ∷ []))
