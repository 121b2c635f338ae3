-- What a text spells, by its tokens before the first byte from which none starts, and that byte.
use Rattle.std.specs.Prelude.{◌≡◌, ℕ, ◌≤◌, List, [], ◌∷◌, ◌++◌, length, map, Option, None, Some}
use Rattle.vtl_lexer.specs.declared.token.Token.{Token}
use Rattle.vtl_syntax.specs.Trees.{ScriptTree}
use Rattle.vtl_grammar.specs.Grammar.{Tokens}
use Rattle.vtl_grammar.specs.Fits.{SpellsScript}

-- the tokens without their places
unfoldable pub kinds : List Token → Tokens
kinds ts = map (λ t. t.kind) ts

-- the start of the next token, or the byte from which none starts
abbrev pub byte_of : List Token → Option ℕ → Option ℕ
byte_of [] bad = bad
byte_of (t ∷ ts) bad = Some t.start

-- Some first tokens spell a script of that many statements, no first tokens spell a longer one, and the byte is the start of what follows them.
pub record SyntaxFault (ts : List Token) (bad : Option ℕ) (done byte : ℕ) : Type 0 where
  pub front : List Token
  pub rest : List Token
  pub split : ts ≡ front ++ rest
  pub script : ScriptTree
  pub spelled : SpellsScript (kinds front) script
  pub counts : length script ≡ done
  pub greatest : (f r : List Token) (s : ScriptTree) → ts ≡ f ++ r → SpellsScript (kinds f) s → length s ≤ done
  pub at : byte_of rest bad ≡ Some byte

-- all of the text is tokens, and they spell the script
pub record WholeScript (ts : List Token) (bad : Option ℕ) (script : ScriptTree) : Type 0 where
  pub whole : bad ≡ None
  pub spelled : SpellsScript (kinds ts) script
