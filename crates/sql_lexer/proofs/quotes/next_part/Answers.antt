use Rattle.std.proofs.Common.{◌≡◌, ◌∷◌, ◌++◌, ◌∙◌, None, chars, sym, ap, subst}
use Rattle.std.specs.Str.Pattern.{FindsChar, FindsCharPrefix, SplitsAroundMatch, StripsPrefix}
use Rattle.sql_lexer.specs.Front.{mark_of}
use Rattle.sql_lexer.specs.Spelling.{doubled}
use Rattle.sql_lexer.proofs.Quoting.{lacks-none, mark-ascii, no-longer}
use Rattle.sql_lexer.proofs.Texts.{not-split, not-stripped, split-at, stripped}
use Rattle.sql_lexer.proofs.quotes.next_part.Goals as goal

pub returns-in_err-more : goal.returns-in_err-more
returns-in_err-more c =
    let none = subst (λ m. FindsCharPrefix m c.args.behind.now None) c.mark.ensures c.in_err-more.ensures.cases in
    rw c.from_residual.ensures (λ more rest allowed e. not-stripped (mark_of c.args.quotes) c.args.behind.now _ c.utf8.behind none e)

pub returns-in_err-part : goal.returns-in_err-part
returns-in_err-part c =
    let quote = mark_of c.args.quotes in
    let text = c.in_ok-more.more.now in
    let first = stripped quote c.args.behind.now text c.utf8.behind (subst (λ m. StripsPrefix (FindsCharPrefix m) c.args.behind.now text) c.mark.ensures c.in_ok-more.ensures.cases) in
    let lacks = not-split quote text first.utf8 (subst (λ m. FindsChar m text None) c.mark-2.ensures c.in_err-part.ensures.cases) in
    rw c.from_residual-in_err-part.ensures (λ more rest allowed e.
    let tails : chars text ≡ doubled quote more ++ quote ∷ rest = (let w = sym first.is ∙ e in cc w) in
    lacks-none quote (chars text) (doubled quote more) rest lacks tails)

pub returns-then-not-allows_more : goal.returns-then-not-allows_more
returns-then-not-allows_more c =
    let quote = mark_of c.args.quotes in
    let text = c.in_ok-more.more.now in
    let first = stripped quote c.args.behind.now text c.utf8.behind (subst (λ m. StripsPrefix (FindsCharPrefix m) c.args.behind.now text) c.mark.ensures c.in_ok-more.ensures.cases) in
    let parts = split-at quote text c.in_ok-part.part.now c.in_ok-part.rest.now (mark-ascii c.args.quotes) first.utf8
    (subst (λ m. SplitsAroundMatch (FindsChar m) text c.in_ok-part.part.now c.in_ok-part.rest.now) c.mark-2.ensures c.in_ok-part.ensures.cases) in
    let split = first.is ∙ ap (λ l. quote ∷ l) parts.is in
    λ more rest allowed e.
    no-longer c.args.quotes (chars c.args.content.now) (chars c.args.behind.now) (chars c.in_ok-part.part.now) (chars c.in_ok-part.rest.now) more rest
    (sym c.allows_more.ensures ∙ c.if-not-allows_more.true) parts.lacks split allowed e

pub returns : goal.returns
returns c =
    let quote = mark_of c.args.quotes in
    let text = c.in_ok-more.more.now in
    let first = stripped quote c.args.behind.now text c.utf8.behind (subst (λ m. StripsPrefix (FindsCharPrefix m) c.args.behind.now text) c.mark.ensures c.in_ok-more.ensures.cases) in
    let parts = split-at quote text c.in_ok-part.part.now c.in_ok-part.rest.now (mark-ascii c.args.quotes) first.utf8
    (subst (λ m. SplitsAroundMatch (FindsChar m) text c.in_ok-part.part.now c.in_ok-part.rest.now) c.mark-2.ensures c.in_ok-part.ensures.cases) in (
      record { allowed = sym c.allows_more.ensures ∙ c.if-not-allows_more.false; split = first.is ∙ ap (λ l. quote ∷ l) parts.is; plain = parts.lacks },
      parts.front_utf8,
      parts.rest_utf8,
    )
