-- A script and its canonical text.
use Rattle.std.proofs.Common.{◌≡◌, ◌∙◌, ℕ, List, Option, None, Result, Ok, Err, sym, ap, subst, refl}
use Rattle.std.specs.Prelude.{IsErrAnd, MatchResult}
use Rattle.vtl_grammar.specs.Faults.{kinds}
use Rattle.vtl_grammar.specs.Fits.{SpellsScript}
use Rattle.vtl_grammar.specs.Grammar.{Tokens}
use Rattle.vtl_lexer.specs.Lexed.{IsLexed}
use Rattle.vtl_lexer.specs.Parts.{HasParts, tokens_of}
use Rattle.vtl_lexer.specs.Pieces.{pieces_of}
use Rattle.vtl_lexer.specs.declared.parts.Part.{Part}
use Rattle.vtl_lexer.proofs.LexedLemmas.{lexed-once}
use Rattle.vtl_lexer.proofs.PartLemmas.{parts-lexed}
use Rattle.vtl_parser.specs.Parsed.{IsScript}
use Rattle.vtl_syntax.specs.Trees.{ScriptTree}
use Rattle.vtl_format.specs.Form.{IsFormOf, form_of_pieces, kinds_of}
use Rattle.vtl_format.proofs.FormLaws.{same-tokens}
use Rattle.vtl_format.proofs.GrammarStatements.{kinds-at}

-- of a script all is tokens and comments
pub form-of_script : (text out : List ℕ) (script : ScriptTree) → IsScript text script → (parts : List Part) × (bad : Option ℕ) × HasParts text parts bad × (out ≡ form_of_pieces (pieces_of text parts)) → IsFormOf text out
form-of_script text out script is (parts, bad, has, form) =
    let same = lexed-once text (tokens_of parts) is.tokens bad is.bad (parts-lexed has) is.lexed in
    (parts, subst (λ (b : Option ℕ). HasParts text parts b) (same.1 ∙ is.whole.whole) has, form)

-- the same tokens spell the same script
pub same-script : (text out : List ℕ) (script : ScriptTree) → IsFormOf text out → IsScript text script → IsScript out script
same-script text out script form is =
    let lexed : IsLexed text is.tokens None = subst (λ (b : Option ℕ). IsLexed text is.tokens b) is.whole.whole is.lexed in
    let (others, again, same) = same-tokens text out is.tokens form lexed in
    let same_kinds : kinds others ≡ kinds is.tokens = kinds-at out others ∙ ap kinds_of same ∙ sym (kinds-at text is.tokens) in
    record {
      tokens = others;
      bad = None;
      lexed = again;
      whole = record { whole = refl; spelled = subst (λ (k : Tokens). SpellsScript k script) (sym same_kinds) is.whole.spelled };
    }

-- an error that is handed on
pub handed_on : {A E : Type 0} (result : Result A E) (error : E) (Good : A → Type 0) (Bad : E → Type 0) → IsErrAnd result (λ other. other ≡ error) → Bad error → MatchResult result Good Bad
handed_on (Ok value) error Good Bad is bad = absurd is
handed_on (Err other) error Good Bad is bad = subst Bad (sym is) bad
