-- The tokens of a text, from its front, and that they are determined.
use Rattle.std.proofs.Common.{◌≡◌, ◌≤◌, ◌<◌, ◌+◌, ◌-◌, ◌∷◌, ◌++◌, ◌∙◌, [], ℕ, List, Option, Some, None, true, false, chars, length, append_assoc, append-nil, sym, ap, subst, refl, arith, length-append, IsUtf8, encode_utf8_all}
use Rattle.std.specs.List.{list_all}
use Rattle.std.proofs.lemmas.Bool.{and_parts, false≢true}
use Rattle.std.proofs.lemmas.Str.{chars-nil, encodes-chars, length-le-encodes}
use Rattle.sql_lexer.specs.Front.{Run}
use Rattle.sql_lexer.specs.Lexed.{IsLexed, IsToken, Lexes, NoToken, Starts, is_white_space, at_end, at_fault, behind_space, behind_token}
use Rattle.sql_lexer.specs.Spelling.{size, spelled}
use Rattle.vtl_lists.specs.Runs.{begins_with}
use Rattle.sql_lexer.specs.declared.token.Token.{Token}
use Rattle.sql_lexer.specs.declared.token.TokenKind.{TokenKind}
use Rattle.sql_lexer.proofs.FrontParts.{one-token, spelled-dark, spelled-some}
use Rattle.sql_lexer.proofs.RunParts.{run-chars, white-ascii}
use Rattle.sql_lexer.proofs.Texts.{cut}

-- ---- what follows from how a text begins

no-nothing : (text : List ℕ) (kind : TokenKind) (rest : List ℕ) → Starts text kind rest → text ≡ [] → ⊥
no-nothing text kind rest h e = by (spelled kind) (spelled-some kind h.formed) (sym e ∙ h.split)
  where
    by : (cs : List ℕ) → 0 < length cs → [] ≡ cs ++ rest → ⊥
    by [] some f = omega arith
    by (c ∷ cs) some f = cc f

no-space : (text : List ℕ) (kind : TokenKind) (rest : List ℕ) (c : ℕ) (left : List ℕ) → Starts text kind rest → text ≡ c ∷ left → is_white_space c ≡ true → ⊥
no-space text kind rest c left h e white =
    let dark = sym (ap (begins_with is_white_space) (sym h.split ∙ e)) ∙ spelled-dark kind rest h.formed in
    false≢true (sym dark ∙ white)

end-inverts : (at : ℕ) (text : List ℕ) (tokens : List Token) (fault : Option ℕ) → text ≡ [] → Lexes at text tokens fault → (tokens ≡ []) × (fault ≡ None)
end-inverts at text tokens fault e (at_end _) = (refl, refl)
end-inverts at text tokens fault e (behind_space _ c rest _ _ white more) = absurd (cc e)
end-inverts at text tokens fault e (behind_token _ _ rest token _ _ starts from to more) = absurd (no-nothing text token.kind rest starts.starts e)
end-inverts at text tokens fault e (at_fault _ c rest dark none) = absurd (cc e)

space-inverts : (at : ℕ) (text : List ℕ) (c : ℕ) (rest : List ℕ) (tokens : List Token) (fault : Option ℕ) → text ≡ c ∷ rest → is_white_space c ≡ true → Lexes at text tokens fault → Lexes (at + 1) rest tokens fault
space-inverts at text c rest tokens fault e white (at_end _) = absurd (cc e)
space-inverts at text c rest tokens fault e white (behind_space _ d left _ _ other more) = let same : left ≡ rest = cc e in subst (λ l. Lexes (at + 1) l tokens fault) same more
space-inverts at text c rest tokens fault e white (behind_token _ _ left token _ _ starts from to more) = absurd (no-space text token.kind left c rest starts.starts e white)
space-inverts at text c rest tokens fault e white (at_fault _ d left dark none) = let same : d ≡ c = cc e in absurd (false≢true (sym dark ∙ ap is_white_space same ∙ white))

record Begun (at : ℕ) (kind : TokenKind) (rest : List ℕ) (tokens : List Token) (fault : Option ℕ) : Type 0 where
  token : Token
  others : List Token
  is : tokens ≡ token ∷ others
  same : token.kind ≡ kind
  from : token.start ≡ at
  to : token.end ≡ at + size (spelled kind)
  more : Lexes token.end rest others fault

token-inverts : (at : ℕ) (text : List ℕ) (kind : TokenKind) (rest : List ℕ) (tokens : List Token) (fault : Option ℕ) → IsToken text kind rest → Lexes at text tokens fault → Begun at kind rest tokens fault
token-inverts at text kind rest tokens fault h (at_end _) = absurd (no-nothing [] kind rest h.starts refl)
token-inverts at text kind rest tokens fault h (behind_space _ c left _ _ white more) = absurd (no-space (c ∷ left) kind rest c left h.starts refl white)
token-inverts at text kind rest tokens fault h (behind_token _ _ left token others _ starts from to more) =
    let same = one-token text token.kind kind left rest starts h in
    record {
      token = token;
      others = others;
      is = refl;
      same = same.0;
      from = from;
      to = to ∙ ap (λ (v : TokenKind). at + size (spelled v)) same.0;
      more = subst (λ l. Lexes token.end l others fault) same.1 more;
    }
token-inverts at text kind rest tokens fault h (at_fault _ c left dark none) = absurd (none kind rest h.starts)

fault-inverts : (at : ℕ) (text : List ℕ) (c : ℕ) (rest : List ℕ) (tokens : List Token) (fault : Option ℕ) → text ≡ c ∷ rest → is_white_space c ≡ false → NoToken (c ∷ rest) → Lexes at text tokens fault
    → (tokens ≡ []) × (fault ≡ Some at)
fault-inverts at text c rest tokens fault e dark none (at_end _) = absurd (cc e)
fault-inverts at text c rest tokens fault e dark none (behind_space _ d left _ _ white more) = let same : d ≡ c = cc e in absurd (false≢true (sym dark ∙ ap is_white_space (sym same) ∙ white))
fault-inverts at text c rest tokens fault e dark none (behind_token _ _ left token _ _ starts from to more) =
    absurd (none token.kind left (record { formed = starts.starts.formed; split = sym e ∙ starts.starts.split }))
fault-inverts at text c rest tokens fault e dark none (at_fault _ d left dark' none') = (refl, refl)

abbrev pub token_of : TokenKind → ℕ → ℕ → Token
token_of kind from to = record { kind = kind; start = from; end = to }

same-token : (a b : Token) → a.kind ≡ b.kind → a.start ≡ b.start → a.end ≡ b.end → a ≡ b
same-token a b e f g =
    ap (λ (kind : TokenKind). token_of kind a.start a.end) e ∙ ap (λ (from : ℕ). token_of b.kind from a.end) f ∙ ap (λ (to : ℕ). token_of b.kind b.start to) g

-- two answers for one text are equal
lexes-once : {at : ℕ} {text : List ℕ} {tokens : List Token} {fault : Option ℕ} (others : List Token) (worse : Option ℕ) → Lexes at text tokens fault → Lexes at text others worse → (tokens ≡ others) × (fault ≡ worse)
lexes-once others worse (at_end at) h = let ends = end-inverts at [] others worse refl h in (sym ends.0, sym ends.1)
lexes-once others worse (behind_space at c rest tokens fault white more) h = lexes-once others worse more (space-inverts at (c ∷ rest) c rest others worse refl white h)
lexes-once others worse (behind_token at text rest token tokens fault starts from to more) h =
    let begun = token-inverts at text token.kind rest others worse starts h in
    let ends : begun.token.end ≡ token.end = begun.to ∙ sym to in
    let left = lexes-once begun.others worse more (subst (λ n. Lexes n rest begun.others worse) ends begun.more) in
    let first : token ≡ begun.token = same-token token begun.token (sym begun.same) (from ∙ sym begun.from) (sym ends) in
    (ap (λ t. t ∷ tokens) first ∙ ap (λ l. begun.token ∷ l) left.0 ∙ sym begun.is, left.1)
lexes-once others worse (at_fault at c rest dark none) h = let ends = fault-inverts at (c ∷ rest) c rest others worse refl dark none h in (sym ends.0, sym ends.1)

pub lexed-once : (text : List ℕ) (tokens others : List Token) (fault worse : Option ℕ) → IsLexed text tokens fault → IsLexed text others worse → (tokens ≡ others) × (fault ≡ worse)
lexed-once text tokens others fault worse g h = lexes-once others worse g h

-- ---- reading on

-- what was read goes on as the rest does
abbrev pub GoesOn : List ℕ → List ℕ → List Token → Type 0
GoesOn text rest tokens = (others : List Token) (fault : Option ℕ) → Lexes (length text - length rest) (chars rest) others fault → IsLexed text (tokens ++ others) fault

pub spaces : (at : ℕ) (gap rest : List ℕ) (tokens : List Token) (fault : Option ℕ) → list_all is_white_space gap ≡ true → Lexes (at + length gap) rest tokens fault → Lexes at (gap ++ rest) tokens fault
spaces at [] rest tokens fault e more = subst (λ n. Lexes n rest tokens fault) (omega arith) more
spaces at (c ∷ gap) rest tokens fault e more =
    let (head, tail) = and_parts (is_white_space c) (list_all is_white_space gap) e in
    behind_space at c (gap ++ rest) tokens fault head (spaces (at + 1) gap rest tokens fault tail (subst (λ n. Lexes n rest tokens fault) (omega arith) more))

-- ---- over white space
space-goes_on : (text behind gap rest : List ℕ) → length behind ≤ length text → Run is_white_space behind gap rest → (tokens : List Token) (fault : Option ℕ)
    → Lexes (length text - length rest) (chars rest) tokens fault → Lexes (length text - length behind) (chars behind) tokens fault
space-goes_on text behind gap rest fits run tokens fault more =
    let sizes : length behind ≡ length gap + length rest = ap length run.split ∙ length-append gap rest in
    let at : length text - length rest ≡ (length text - length behind) + length gap = omega (arith, sizes) in
    subst (λ l. Lexes (length text - length behind) l tokens fault) (sym (run-chars is_white_space white-ascii behind gap rest run))
    (spaces (length text - length behind) gap (chars rest) tokens fault run.passes (subst (λ n. Lexes n (chars rest) tokens fault) at more))

pub starts-there : (text gap rest : List ℕ) (tokens : List Token) → tokens ≡ [] → Run is_white_space text gap rest → GoesOn text rest tokens
starts-there text gap rest tokens none run others fault more =
    let whole = space-goes_on text text gap rest (omega arith) run others fault more in
    subst (λ l. IsLexed text (l ++ others) fault) (sym none) (subst (λ n. Lexes n (chars text) others fault) (omega arith) whole)

-- ---- over a token
pub record Read (rest : List ℕ) (kind : TokenKind) (behind : List ℕ) : Type 0 where
  pub shorter : length behind < length rest
  pub sizes : length rest ≡ size (spelled kind) + length behind

pub token-read : (rest behind : List ℕ) (kind : TokenKind) → IsUtf8 rest → IsUtf8 behind → IsToken (chars rest) kind (chars behind) → Read rest kind behind
token-read rest behind kind u v token =
    let at = cut rest behind (spelled kind) u v token.starts.split in
    let some = spelled-some kind token.starts.formed in
    record { shorter = omega (arith, at.sizes, some, length-le-encodes (spelled kind)); sizes = at.sizes }

pub token-goes_on : (text rest behind gap left : List ℕ) (kind : TokenKind) (tokens : List Token) (token : Token) → length rest ≤ length text → IsUtf8 rest → IsUtf8 behind → GoesOn text rest tokens
    → IsToken (chars rest) kind (chars behind) → Run is_white_space behind gap left → token ≡ record { kind = kind; start = length text - length rest; end = length text - length behind }
    → GoesOn text left (tokens ++ token ∷ [])
token-goes_on text rest behind gap left kind tokens token fits u v goes_on found run is others fault more =
    let read = token-read rest behind kind u v found in
    let next = token_of kind (length text - length rest) (length text - length behind) in
    let tail = space-goes_on text behind gap left (omega (arith, read.shorter)) run others fault more in
    let ends : length text - length behind ≡ (length text - length rest) + size (spelled kind) = omega (arith, read.sizes) in
    let whole = goes_on (next ∷ others) fault (behind_token (length text - length rest) (chars rest) (chars behind) next others fault found refl ends tail) in
    subst (λ l. IsLexed text l fault) (ap (λ (t : Token). tokens ++ t ∷ others) (sym is) ∙ sym (append_assoc tokens (token ∷ []) others)) whole

-- ---- the two ends
pub ends-there : (text rest : List ℕ) (tokens : List Token) → length rest ≡ 0 → GoesOn text rest tokens → IsLexed text tokens None
ends-there text [] tokens e goes_on = subst (λ l. IsLexed text l None) (append-nil tokens) (goes_on [] None (subst (λ l. Lexes (length text - 0) l [] None) (sym chars-nil) (at_end (length text - 0))))
ends-there text (c ∷ rest) tokens e goes_on = absurd (omega arith)

pub faults-there : (text rest : List ℕ) (tokens : List Token) → 0 < length rest → IsUtf8 rest → begins_with is_white_space (chars rest) ≡ false → NoToken (chars rest) → GoesOn text rest tokens
    → IsLexed text tokens (Some (length text - length rest))
faults-there text rest tokens some u dark none goes_on = subst (λ l. IsLexed text l (Some (length text - length rest))) (append-nil tokens) (goes_on [] (Some (length text - length rest)) (by (chars rest) (encodes-chars rest u) dark none))
  where
    by : (cs : List ℕ) → encode_utf8_all cs ≡ rest → begins_with is_white_space cs ≡ false → NoToken cs → Lexes (length text - length rest) cs [] (Some (length text - length rest))
    by [] e dark none = absurd (omega (arith, some, ap length e))
    by (c ∷ cs) e dark none = at_fault (length text - length rest) c cs dark none
