use Rattle.std.proofs.Common.{◌≡◌, ℕ, ◌<◌, ◌^◌, List, ◌∷◌, ◌++◌, ap, ◌∙◌, arith}
use Rattle.std.specs.Fmt.{decimal}
use Rattle.std.specs.Str.{IsUtf8, chars}
use Rattle.std.proofs.lemmas.Fmt.{IsAscii-decimal}
use Rattle.std.proofs.lemmas.Result.{IfOk-weaker}
use Rattle.std.proofs.lemmas.Str.{chars-IsAscii, chars-append}
use Rattle.std.proofs.lemmas.Str.Ascii.{IsAscii-cons}
use Rattle.sql_meaning.specs.Scripts.{dollar}
use Rattle.selects_to_sql.specs.Tables.{numbered}
use Rattle.selects_to_sql.proofs.draft.numbered.Goals as goal

characters : (bytes front name : List ℕ) (n : ℕ) → n < 2 ^ 64 → bytes ≡ front ++ dollar ∷ decimal n → chars front ≡ name → IsUtf8 front → chars bytes ≡ numbered name n
characters bytes front name n small is named text =
    ap chars is ∙ chars-append front (dollar ∷ decimal n) text
    ∙ ap (λ l. l ++ chars (dollar ∷ decimal n)) named
    ∙ ap (λ l. name ++ l) (chars-IsAscii (dollar ∷ decimal n) (IsAscii-cons dollar (decimal n) (omega arith) (IsAscii-decimal n small)))

pub returns : goal.returns
returns c =
    IfOk-weaker c.new.result _ _
    (λ t e. e ∙ characters c.deref.result.now c.as_str.result.now c.args.name.now c.args.number c.ranges.number.fits (c.deref.ensures ∙ c.in_ok-text.ensures.ok) c.as_str.ensures.characters c.as_str.ensures.utf8) c.new.ensures
