use Rattle.std.proofs.Common.{◌++◌, ◌∙◌, chars, sym, ap, string_bytes}
use Rattle.std.proofs.lemmas.Result.{IfOk-equal}
use Rattle.std.proofs.lemmas.Str.{IsUtf8-string_bytes, chars-IsAscii}
use Rattle.sql_lexer.specs.Spelling.{spelled, spelling}
use Rattle.sql_lexer.proofs.Table.{spelling-ascii}
use Rattle.sql_lexer.proofs.Texts.{appended}
use Rattle.sql_lexer.proofs.writing.write_token.Goals as goal

pub returns-in-Word : goal.returns-in-Word
returns-in-Word c =
    let out = string_bytes c.args.out.now in
    let all = string_bytes c.push_str.new.self in
    let part = ap chars c.spelling.ensures ∙ chars-IsAscii (spelling c.in-Word.word) (spelling-ascii c.in-Word.word) ∙ ap spelled (sym c.in-Word.is) in
    IfOk-equal c.push_str.result (chars all) (chars out ++ chars c.spelling.result.now) (chars out ++ spelled c.args.kind.now) (appended c.push_str.result out c.spelling.result.now all (IsUtf8-string_bytes c.args.out.now) c.push_str.ensures.bytes)
    (ap (λ l. chars out ++ l) part)

pub returns-in-Int : goal.returns-in-Int
returns-in-Int c =
    let out = string_bytes c.args.out.now in
    let all = string_bytes c.push_str-in-Int.new.self in
    let text = c.as_str-in-Int.result.now in
    let part = c.as_str-in-Int.ensures.characters ∙ ap spelled (sym c.in-Int.is) in
    IfOk-equal c.push_str-in-Int.result (chars all) (chars out ++ chars text) (chars out ++ spelled c.args.kind.now) (appended c.push_str-in-Int.result out text all (IsUtf8-string_bytes c.args.out.now) c.push_str-in-Int.ensures.bytes)
    (ap (λ l. chars out ++ l) part)

pub returns-in-Dec : goal.returns-in-Dec
returns-in-Dec c =
    let out = string_bytes c.args.out.now in
    let all = string_bytes c.push_str-in-Dec.new.self in
    let text = c.as_str-in-Dec.result.now in
    let part = c.as_str-in-Dec.ensures.characters ∙ ap spelled (sym c.in-Dec.is) in
    IfOk-equal c.push_str-in-Dec.result (chars all) (chars out ++ chars text) (chars out ++ spelled c.args.kind.now) (appended c.push_str-in-Dec.result out text all (IsUtf8-string_bytes c.args.out.now) c.push_str-in-Dec.ensures.bytes)
    (ap (λ l. chars out ++ l) part)
