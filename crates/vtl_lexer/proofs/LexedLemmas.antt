-- A text has one list of tokens.
use Rattle.std.proofs.Common.{◌≡◌, ◌≢◌, ◌<◌, ◌+◌, ◌∷◌, ◌++◌, ◌∙◌, [], ℕ, List, Option, Some, None, length, take, drop, append_assoc, sym, ap, subst, refl, arith}
use Rattle.std.proofs.lemmas.List.{append-nil, length-take-le, take-append-drop}
use Rattle.vtl_lexer.specs.Found.{IsGapOf, IsTokenOf}
use Rattle.vtl_lexer.specs.Gaps.{IsGap, NoGap}
use Rattle.vtl_lexer.specs.Lexed.{IsLexed, Lexes, mark_len, at_end, at_fault, behind_gap, behind_token}
use Rattle.vtl_lexer.specs.Spelling.{Spells}
use Rattle.vtl_lexer.specs.Tokens.{IsToken, NoToken}
use Rattle.vtl_lexer.specs.declared.token.Found.{Found}
use Rattle.vtl_lexer.specs.declared.token.Token.{Token}
use Rattle.vtl_lexer.specs.declared.token.TokenKind.{TokenKind}
use Rattle.vtl_lexer.proofs.GapLemmas.{gap-no_token, gap-some, one-gap}
use Rattle.vtl_lists.proofs.Runs.{front-same}
use Rattle.vtl_lexer.proofs.SpellingLemmas.{lead_kind, front-lead, one-kind, spelled-some}

-- two tokens at the front of one text are one
pub one-token : (a b : TokenKind) (bytes rest more behind : List ℕ) → bytes ++ rest ≡ more ++ behind → IsToken a bytes rest → IsToken b more behind
    → (a ≡ b) × (bytes ≡ more) × (rest ≡ behind)
one-token a b bytes rest more behind e g h =
    let le = g.longest b more behind e h.spelled in
    let ge = h.longest a bytes rest (sym e) g.spelled in
    let same = front-same bytes more rest behind e (omega arith) in
    let lead : lead_kind a ≡ lead_kind b = sym (front-lead a (bytes ++ rest) bytes rest refl g.spelled) ∙ front-lead b (bytes ++ rest) more behind e h.spelled in
    (one-kind a b bytes lead g.spelled (subst (Spells b) (sym same.0) h.spelled), same.0, same.1)

pub nothing-split : (bytes rest : List ℕ) → [] ≡ bytes ++ rest → bytes ≡ []
nothing-split [] rest e = refl
nothing-split (byte ∷ bytes) rest e = absurd (cc e)

pub token-some : (kind : TokenKind) (bytes rest : List ℕ) → IsToken kind bytes rest → bytes ≢ []
token-some kind bytes rest token e =
    let some = spelled-some kind bytes token.spelled in
    omega (arith, some, ap length e)

-- what follows from how a text begins
end-inverts : (at : ℕ) (text : List ℕ) (tokens : List Token) (bad : Option ℕ) → text ≡ [] → Lexes at text tokens bad → (tokens ≡ []) × (bad ≡ None)
end-inverts at text tokens bad e (at_end _) = (refl, refl)
end-inverts at text tokens bad e (behind_gap _ _ bytes rest _ _ is gap more) = absurd (gap-some bytes rest gap (nothing-split bytes rest (sym e ∙ is)))
end-inverts at text tokens bad e (behind_token _ _ bytes rest token _ _ is starts from to more) = absurd (token-some token.kind bytes rest starts (nothing-split bytes rest (sym e ∙ is)))
end-inverts at text tokens bad e (at_fault _ _ some no_gap no_token) = absurd (some e)

gap-inverts : (at : ℕ) (text bytes rest : List ℕ) (tokens : List Token) (bad : Option ℕ) → text ≡ bytes ++ rest → IsGap bytes rest → Lexes at text tokens bad
    → Lexes (at + length bytes) rest tokens bad
gap-inverts at text bytes rest tokens bad e gap (at_end _) = absurd (gap-some bytes rest gap (nothing-split bytes rest e))
gap-inverts at text bytes rest tokens bad e gap (behind_gap _ _ others behind _ _ is gap' more) =
    let same = one-gap others behind bytes rest (sym is ∙ e) gap' gap in
    subst (λ l. Lexes (at + length l) rest tokens bad) same.0 (subst (λ l. Lexes (at + length others) l tokens bad) same.1 more)
gap-inverts at text bytes rest tokens bad e gap (behind_token _ _ others behind token _ _ is starts from to more) =
    absurd (gap-no_token token.kind text bytes rest others behind e is gap starts)
gap-inverts at text bytes rest tokens bad e gap (at_fault _ _ some no_gap no_token) = absurd (no_gap bytes rest e gap)

record Begun (at : ℕ) (kind : TokenKind) (bytes rest : List ℕ) (tokens : List Token) (bad : Option ℕ) : Type 0 where
  token : Token
  others : List Token
  is : tokens ≡ token ∷ others
  same : token.kind ≡ kind
  from : token.start ≡ at
  to : token.end ≡ at + length bytes
  more : Lexes (at + length bytes) rest others bad

token-inverts : (at : ℕ) (text bytes rest : List ℕ) (kind : TokenKind) (tokens : List Token) (bad : Option ℕ) → text ≡ bytes ++ rest → IsToken kind bytes rest → Lexes at text tokens bad
    → Begun at kind bytes rest tokens bad
token-inverts at text bytes rest kind tokens bad e starts (at_end _) = absurd (token-some kind bytes rest starts (nothing-split bytes rest e))
token-inverts at text bytes rest kind tokens bad e starts (behind_gap _ _ others behind _ _ is gap more) =
    absurd (gap-no_token kind text others behind bytes rest is e gap starts)
token-inverts at text bytes rest kind tokens bad e starts (behind_token _ _ others behind token tokens' _ is starts' from to more) =
    let same = one-token token.kind kind others behind bytes rest (sym is ∙ e) starts' starts in
    record {
      token = token;
      others = tokens';
      is = refl;
      same = same.0;
      from = from;
      to = to ∙ ap (λ l. at + length l) same.1;
      more = subst (λ l. Lexes (at + length l) rest tokens' bad) same.1 (subst (λ l. Lexes (at + length others) l tokens' bad) same.2 more);
    }
token-inverts at text bytes rest kind tokens bad e starts (at_fault _ _ some no_gap no_token) = absurd (no_token kind bytes rest e starts)

fault-inverts : (at : ℕ) (text : List ℕ) (tokens : List Token) (bad : Option ℕ) → text ≢ [] → NoGap text → NoToken text → Lexes at text tokens bad
    → (tokens ≡ []) × (bad ≡ Some at)
fault-inverts at text tokens bad some no_gap no_token (at_end _) = absurd (some refl)
fault-inverts at text tokens bad some no_gap no_token (behind_gap _ _ bytes rest _ _ is gap more) = absurd (no_gap bytes rest is gap)
fault-inverts at text tokens bad some no_gap no_token (behind_token _ _ bytes rest token _ _ is starts from to more) = absurd (no_token token.kind bytes rest is starts)
fault-inverts at text tokens bad some no_gap no_token (at_fault _ _ some' no_gap' no_token') = (refl, refl)

abbrev pub token_of : TokenKind → ℕ → ℕ → Token
token_of kind from to = record { kind = kind; start = from; end = to }

pub same-token : (a b : Token) → a.kind ≡ b.kind → a.start ≡ b.start → a.end ≡ b.end → a ≡ b
same-token a b e f g =
    ap (λ (kind : TokenKind). token_of kind a.start a.end) e ∙ ap (λ (from : ℕ). token_of b.kind from a.end) f ∙ ap (λ (to : ℕ). token_of b.kind b.start to) g

-- two answers for one text are equal
lexes-once : {at : ℕ} {text : List ℕ} {tokens : List Token} {bad : Option ℕ} (others : List Token) (worse : Option ℕ) → Lexes at text tokens bad → Lexes at text others worse
    → (tokens ≡ others) × (bad ≡ worse)
lexes-once others worse (at_end at) h =
    let ends = end-inverts at [] others worse refl h in
    (sym ends.0, sym ends.1)
lexes-once others worse (behind_gap at text bytes rest tokens bad is gap more) h = lexes-once others worse more (gap-inverts at text bytes rest others worse is gap h)
lexes-once others worse (behind_token at text bytes rest token tokens bad is starts from to more) h =
    let begun = token-inverts at text bytes rest token.kind others worse is starts h in
    let left = lexes-once begun.others worse more begun.more in
    let first : token ≡ begun.token = same-token token begun.token (sym begun.same) (from ∙ sym begun.from) (to ∙ sym begun.to) in
    (ap (λ t. t ∷ tokens) first ∙ ap (λ l. begun.token ∷ l) left.0 ∙ sym begun.is, left.1)
lexes-once others worse (at_fault at text some no_gap no_token) h =
    let ends = fault-inverts at text others worse some no_gap no_token h in
    (sym ends.0, sym ends.1)

pub lexed-once : (text : List ℕ) (tokens others : List Token) (bad worse : Option ℕ) → IsLexed text tokens bad → IsLexed text others worse → (tokens ≡ others) × (bad ≡ worse)
lexed-once text tokens others bad worse g h = lexes-once others worse g h
