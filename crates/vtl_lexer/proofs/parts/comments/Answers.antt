use Rattle.std.proofs.Common.{◌∙◌, ℕ, Option, ap, refl, subst, sym}
use Rattle.vtl_lexer.specs.Lexed.{IsLexed}
use Rattle.vtl_lexer.specs.Parts.{comments_of, tokens_of}
use Rattle.vtl_lexer.proofs.PartLemmas.{comments-once, parts-lexed}
use Rattle.vtl_lexer.proofs.parts.comments.Goals as goal

pub returns-in-Some-clause-answer : goal.returns-in-Some-clause-answer
returns-in-Some-clause-answer c =
    let parts = c.in_ok-parted.parted.parts in
    (tokens_of parts, subst (λ (bad : Option ℕ). IsLexed c.args.text.now (tokens_of parts) bad) c.in-Some.is (parts-lexed c.in_ok-parted.ensures))

pub returns-in-Some-clause-only : goal.returns-in-Some-clause-only
returns-in-Some-clause-only c = λ comments bad other.
    let parts = c.in_ok-parted.parted.parts in
    let same = comments-once c.args.text.now (comments_of parts) comments c.in_ok-parted.parted.bad bad (parts, c.in_ok-parted.ensures, refl) other in
    sym same.1 ∙ c.in-Some.is

pub returns-clause-only : goal.returns-clause-only
returns-clause-only c = λ comments bad other.
    let parts = c.in_ok-parted.parted.parts in
    let same = comments-once c.args.text.now (comments_of parts) comments c.in_ok-parted.parted.bad bad (parts, c.in_ok-parted.ensures, refl) other in
    (c.in_ok-comments_of-in-None.ensures ∙ ap comments_of c.as_slice.ensures ∙ same.0, sym same.1 ∙ c.in-None.is)
