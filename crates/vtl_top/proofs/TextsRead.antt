-- No text is without tokens, and so none is neither a script nor faulty.
use Rattle.std.proofs.Common.{◌≡◌, ◌≢◌, ◌≤◌, ◌<◌, ◌+◌, ◌∷◌, ◌++◌, ◌⊎◌, [], ℕ, zero, suc, List, Option, Some, None, length, drop, ap, arith, refl}
use Rattle.std.proofs.lemmas.List.{length-append}
use Rattle.vtl_lexer.specs.Gaps.{IsGap}
use Rattle.vtl_lexer.specs.Lexed.{IsLexed, Lexes, mark_len, at_end, at_fault, behind_gap, behind_token}
use Rattle.vtl_lexer.specs.Tokens.{IsToken}
use Rattle.vtl_lexer.specs.declared.token.Token.{Token}
use Rattle.vtl_lexer.specs.declared.token.TokenKind.{TokenKind}
use Rattle.vtl_lexer.proofs.GapLemmas.{gap-some}
use Rattle.vtl_lexer.proofs.SpellingLemmas.{spelled-some}
use Rattle.vtl_syntax.specs.Trees.{ScriptTree}
use Rattle.vtl_grammar.specs.Faults.{SyntaxFault, WholeScript}
use Rattle.vtl_grammar.proofs.ScriptLemmas.{whole_or_fault}

-- ---- what nothing refutes
pub then_too : {X Y : Type 0} → ¬ ¬ X → (X → ¬ ¬ Y) → ¬ ¬ Y
then_too p f n = p (λ x. f x n)

pub there_is : {X : Type 0} → X → ¬ ¬ X
there_is x n = n x

pub either_way : {X Y : Type 0} → (X → ¬ ¬ Y) → (¬ X → ¬ ¬ Y) → ¬ ¬ Y
either_way f g n = g (λ x. f x n) n

-- ---- tokens
record Lexed (at : ℕ) (text : List ℕ) : Type 0 where
  tokens : List Token
  bad : Option ℕ
  lexes : Lexes at text tokens bad

record BeginsWithGap (text : List ℕ) : Type 0 where
  bytes : List ℕ
  rest : List ℕ
  split : text ≡ bytes ++ rest
  gap : IsGap bytes rest

record BeginsWithToken (text : List ℕ) : Type 0 where
  kind : TokenKind
  bytes : List ℕ
  rest : List ℕ
  split : text ≡ bytes ++ rest
  token : IsToken kind bytes rest

some : (bytes : List ℕ) → bytes ≢ [] → 0 < length bytes
some [] n = absurd (n refl)
some (b ∷ bytes) n = omega arith

shorter : (n : ℕ) (text bytes rest : List ℕ) → length text ≤ suc n → text ≡ bytes ++ rest → 0 < length bytes → length rest ≤ n
shorter n text bytes rest le split pos =
    let l = ap length split in
    let m = length-append bytes rest in
    omega (arith, le, l, m, pos)

-- the text from here on, where each shorter one has tokens
module _ (n at b : ℕ) (text : List ℕ) (le : length (b ∷ text) ≤ suc n) (next : (at : ℕ) (rest : List ℕ) → length rest ≤ n → ¬ ¬ Lexed at rest) where
  behind_a_gap : BeginsWithGap (b ∷ text) → ¬ ¬ Lexed at (b ∷ text)
  behind_a_gap g =
      then_too (next (at + length g.bytes) g.rest (shorter n (b ∷ text) g.bytes g.rest le g.split (some g.bytes (gap-some g.bytes g.rest g.gap))))
      (λ l. there_is (record { tokens = l.tokens; bad = l.bad; lexes = behind_gap at (b ∷ text) g.bytes g.rest l.tokens l.bad g.split g.gap l.lexes }))

  behind_a_token : BeginsWithToken (b ∷ text) → ¬ ¬ Lexed at (b ∷ text)
  behind_a_token t =
      let token : Token = record { kind = t.kind; start = at; end = at + length t.bytes } in
      then_too (next (at + length t.bytes) t.rest (shorter n (b ∷ text) t.bytes t.rest le t.split (spelled-some t.kind t.bytes t.token.spelled)))
      (λ l. there_is (record { tokens = token ∷ l.tokens; bad = l.bad; lexes = behind_token at (b ∷ text) t.bytes t.rest token l.tokens l.bad t.split t.token refl refl l.lexes }))

  at_a_fault : ¬ BeginsWithGap (b ∷ text) → ¬ BeginsWithToken (b ∷ text) → ¬ ¬ Lexed at (b ∷ text)
  at_a_fault no_gap no_token =
      there_is (record {
        tokens = [];
        bad = Some at;
        lexes = at_fault at (b ∷ text) (λ e. absurd (cc e)) (λ bytes rest split gap. no_gap (record { bytes = bytes; rest = rest; split = split; gap = gap }))
            (λ kind bytes rest split token. no_token (record { kind = kind; bytes = bytes; rest = rest; split = split; token = token }));
      })

  one_more : ¬ ¬ Lexed at (b ∷ text)
  one_more = either_way behind_a_gap (λ no_gap. either_way behind_a_token (at_a_fault no_gap))

lexed : (n at : ℕ) (text : List ℕ) → length text ≤ n → ¬ ¬ Lexed at text
lexed n at [] le = there_is (record { tokens = []; bad = None; lexes = at_end at })
lexed zero at (b ∷ text) le = absurd (omega (arith, le))
lexed (suc n) at (b ∷ text) le = one_more n at b text le (lexed n)

-- ---- and what the tokens are
pub record Read (text : List ℕ) : Type 0 where
  pub tokens : List Token
  pub bad : Option ℕ
  pub lexed : IsLexed text tokens bad
  pub spelled : ((script : ScriptTree) × WholeScript tokens bad script) ⊎ ((done : ℕ) × (byte : ℕ) × SyntaxFault tokens bad done byte)

pub read_somehow : (text : List ℕ) → ¬ ¬ Read text
read_somehow text =
    let rest = drop (mark_len text) text in
    then_too (lexed (length rest) (mark_len text) rest (omega arith)) (λ l. there_is (record { tokens = l.tokens; bad = l.bad; lexed = l.lexes; spelled = whole_or_fault l.tokens l.bad }))
