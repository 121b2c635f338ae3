-- Tokens with their bytes, one after the other.
use Rattle.std.specs.Prelude.{if◌then◌else◌}
use Rattle.std.specs.Result.{IfOk, is_ok}
use Rattle.std.proofs.Common.{Result, Ok, Err, ◌≡◌, ◌≤◌, ◌<◌, ◌+◌, ◌∷◌, ◌++◌, ◌∙◌, [], ℕ, zero, suc, List, Bool, true, false, cond, length, drop, append_assoc, append-nil, sym, ap, subst, refl, arith}
use Rattle.std.specs.List.{AllByRecursion, slice_range}
use Rattle.std.proofs.lemmas.List.{drop-drop}
use Rattle.vtl_lexer.specs.Pieces.{Piece, a_comment, a_token, piece_of, pieces_of}
use Rattle.vtl_lexer.specs.declared.parts.Part.{Part}
use Rattle.vtl_lexer.specs.declared.token.Token.{Token}
use Rattle.vtl_lexer.specs.declared.token.Sign.TheVariants as sign
use Rattle.vtl_lexer.specs.declared.token.TokenKind.{TokenKind}
use Rattle.vtl_lexer.specs.declared.token.TokenKind.TheVariants as token_kind
use Rattle.vtl_format.specs.Form.{ends_statement, is_inside, lexeme, lexemes_at}
use Rattle.vtl_format.specs.Layout.{Lexeme, depth_behind, gap_behind, laid, statement_form}
use Rattle.vtl_format.specs.Written.{last_form, written}
use Rattle.vtl_format.specs.declared.gaps.Style.{Style}

-- ---- what holds of each

pub all-front : {X : Type 0} (P : X → Type 0) (xs : List X) (x : X) (rest : List X) → xs ≡ x ∷ rest → AllByRecursion P xs → P x × AllByRecursion P rest
all-front P xs x rest e all = subst (AllByRecursion P) e all

pub drop-past : {X : Type 0} (i : ℕ) (xs : List X) → length xs ≤ i → drop i xs ≡ []
drop-past zero [] past = refl
drop-past zero (x ∷ xs) past = absurd (omega arith)
drop-past (suc i) [] past = refl
drop-past (suc i) (x ∷ xs) past = drop-past i xs (omega arith)

-- ---- tokens with their bytes

pub lexemes_at-append : (text : List ℕ) (tokens : List Token) (token : Token) → lexemes_at text (tokens ++ token ∷ []) ≡ lexemes_at text tokens ++ lexeme token.kind (slice_range text token.start token.end) ∷ []
lexemes_at-append text [] token = refl
lexemes_at-append text (first ∷ tokens) token = ap (λ l. lexeme first.kind (slice_range text first.start first.end) ∷ l) (lexemes_at-append text tokens token)

-- the first token is written, and the rest is to follow
pub first-written : (style : Style) (depth : ℕ) (text old new : List ℕ) (tokens : List Token) (token : Token) (rest : List Token) → tokens ≡ token ∷ rest
    → new ≡ (old ++ slice_range text token.start token.end) ++ gap_behind style (depth_behind depth token.kind) token.kind (lexemes_at text rest)
    → new ++ laid style (depth_behind depth token.kind) (lexemes_at text (drop 1 tokens)) ≡ old ++ laid style depth (lexemes_at text tokens)
first-written style depth text old new tokens token rest e is =
    let next = depth_behind depth token.kind in
    let bytes = slice_range text token.start token.end in
    let gap = gap_behind style next token.kind (lexemes_at text rest) in
    let tail = laid style next (lexemes_at text rest) in
    ap (λ l. new ++ laid style next (lexemes_at text (drop 1 l))) e ∙ ap (λ l. l ++ tail) is ∙ append_assoc (old ++ bytes) gap tail ∙ append_assoc old bytes (gap ++ tail)
    ∙ ap (λ l. old ++ laid style depth (lexemes_at text l)) (sym e)

pub nothing-written : (style : Style) (depth : ℕ) (text old : List ℕ) (tokens : List Token) → length tokens ≡ 0
    → old ++ laid style depth (lexemes_at text (drop 1 tokens)) ≡ old ++ laid style depth (lexemes_at text tokens)
nothing-written style depth text old [] e = refl
nothing-written style depth text old (token ∷ tokens) e = absurd (omega arith)

-- a token more, by its place
pub next-written : (style : Style) (depth next : ℕ) (text old new all : List ℕ) (tokens : List Token) (i : ℕ) → new ++ laid style next (lexemes_at text (drop 1 (drop i tokens))) ≡ old ++ laid style depth (lexemes_at text (drop i tokens))
    → old ++ laid style depth (lexemes_at text (drop i tokens)) ≡ all → new ++ laid style next (lexemes_at text (drop (i + 1) tokens)) ≡ all
next-written style depth next text old new all tokens i one so_far =
    let place : drop 1 (drop i tokens) ≡ drop (i + 1) tokens = drop-drop 1 i tokens ∙ ap (λ n. drop n tokens) (omega arith) in
    ap (λ l. new ++ laid style next (lexemes_at text l)) (sym place) ∙ one ∙ so_far

pub all-written : (style : Style) (depth : ℕ) (text old all : List ℕ) (tokens : List Token) (i : ℕ) → length tokens ≤ i → old ++ laid style depth (lexemes_at text (drop i tokens)) ≡ all → old ≡ all
all-written style depth text old all tokens i past so_far = sym (append-nil old) ∙ ap (λ l. old ++ laid style depth (lexemes_at text l)) (sym (drop-past i tokens past)) ∙ so_far

-- ---- pieces

pub pieces-more : (text : List ℕ) (part : Part) (parts all : List Part) → all ≡ part ∷ parts → pieces_of text all ≡ piece_of text part ∷ pieces_of text parts
pieces-more text part parts all e = ap (pieces_of text) e

-- a comment is written
pub comment-written : (inside : Bool) (held : List Lexeme) (old new bytes : List ℕ) (pieces : List Piece) → new ≡ old ++ (bytes ++ 10 ∷ []) → new ++ written inside held pieces ≡ old ++ written inside held (a_comment bytes ∷ pieces)
comment-written inside held old new bytes pieces is =
    ap (λ l. l ++ written inside held pieces) is ∙ append_assoc old (bytes ++ 10 ∷ []) (written inside held pieces) ∙ ap (λ l. old ++ l) (append_assoc bytes (10 ∷ []) (written inside held pieces))

-- a token is held back
pub token-held : (inside : Bool) (held : List Lexeme) (old : List ℕ) (kind : TokenKind) (bytes : List ℕ) (pieces : List Piece) → ends_statement inside kind ≡ false
    → old ++ written (is_inside inside kind) (held ++ lexeme kind bytes ∷ []) pieces ≡ old ++ written inside held (a_token kind bytes ∷ pieces)
token-held inside held old kind bytes pieces e =
    let whole = held ++ lexeme kind bytes ∷ [] in
    ap (λ b. old ++ cond b (statement_form whole ++ 10 ∷ written false [] pieces) (written (is_inside inside kind) whole pieces)) (sym e)

-- a statement is written
pub statement-written : (inside : Bool) (held : List Lexeme) (old new : List ℕ) (kind : TokenKind) (bytes : List ℕ) (pieces : List Piece) → ends_statement inside kind ≡ true
    → new ≡ old ++ (statement_form (held ++ lexeme kind bytes ∷ []) ++ 10 ∷ []) → new ++ written false [] pieces ≡ old ++ written inside held (a_token kind bytes ∷ pieces)
statement-written inside held old new kind bytes pieces e is =
    let whole = held ++ lexeme kind bytes ∷ [] in
    let later = written false [] pieces in
    ap (λ l. l ++ later) is ∙ append_assoc old (statement_form whole ++ 10 ∷ []) later ∙ ap (λ l. old ++ l) (append_assoc (statement_form whole) (10 ∷ []) later)
    ∙ ap (λ b. old ++ cond b (statement_form whole ++ 10 ∷ later) (written (is_inside inside kind) whole pieces)) (sym e)

-- the last statement
pub last-written : (held : List Lexeme) (old new all : List ℕ) → 0 < length held → new ≡ old ++ (statement_form held ++ 10 ∷ []) → old ++ last_form held ≡ all → new ≡ all
last-written [] old new all some is so_far = absurd (omega arith)
last-written (first ∷ rest) old new all some is so_far = is ∙ so_far

pub none-written : (held : List Lexeme) (old all : List ℕ) → length held ≡ 0 → old ++ last_form held ≡ all → old ≡ all
none-written [] old all none so_far = sym (append-nil old) ∙ so_far
none-written (first ∷ rest) old all none so_far = absurd (omega arith)

pub lexemes_at-length : (text : List ℕ) (tokens : List Token) → length (lexemes_at text tokens) ≡ length tokens
lexemes_at-length text [] = refl
lexemes_at-length text (token ∷ tokens) = ap suc (lexemes_at-length text tokens)

-- ---- results

-- what was pushed onto a text
pub pushed : {T E : Type 0} (r : Result T E) (old text new : List ℕ) → new ≡ (if is_ok r then old ++ text else old) → IfOk r (λ done. new ≡ old ++ text)
pushed (Ok x) old text new e = e
pushed (Err x) old text new e = tt

pub ok-always : {T E : Type 0} (r : Result T E) (P : Type 0) → P → IfOk r (λ done. P)
ok-always (Ok x) P holds = holds
ok-always (Err x) P holds = tt

-- ---- a token is taken

-- a statement ends outside of definitions
ends-outside : (inside : Bool) (kind : TokenKind) → ends_statement inside kind ≡ true → inside ≡ false
ends-outside true (token_kind.Sign sign.Semicolon) e = cc e
ends-outside false kind e = refl
ends-outside true kind e = cc e

-- it ends the statement
pub token-ends : {T E : Type 0} (r : Result T E) (text : List ℕ) (inside inside' : Bool) (held held' : List Token) (token : Token) (old new : List ℕ) → ends_statement inside token.kind ≡ true
    → IfOk r (λ done. held' ≡ []) → IfOk r (λ done. inside' ≡ inside) → IfOk r (λ done. new ≡ old ++ (statement_form (lexemes_at text (held ++ token ∷ [])) ++ 10 ∷ []))
    → IfOk r (λ done. (pieces : List Piece) → new ++ written inside' (lexemes_at text held') pieces ≡ old ++ written inside (lexemes_at text held) (a_token token.kind (slice_range text token.start token.end) ∷ pieces))
token-ends (Err x) text inside inside' held held' token old new ends none same is = tt
token-ends (Ok x) text inside inside' held held' token old new ends none same is = λ pieces.
    let bytes = slice_range text token.start token.end in
    let outside : inside' ≡ false = same ∙ ends-outside inside token.kind ends in
    let whole : new ≡ old ++ (statement_form (lexemes_at text held ++ lexeme token.kind bytes ∷ []) ++ 10 ∷ []) =
    is ∙ ap (λ l. old ++ (statement_form l ++ 10 ∷ [])) (lexemes_at-append text held token) in
    ap (λ b. new ++ written b (lexemes_at text held') pieces) outside ∙ ap (λ (l : List Token). new ++ written false (lexemes_at text l) pieces) none
    ∙ statement-written inside (lexemes_at text held) old new token.kind bytes pieces ends whole

-- it is held back
pub token-kept : {T E : Type 0} (r : Result T E) (text : List ℕ) (inside inside' : Bool) (held held' : List Token) (token : Token) (old : List ℕ) → ends_statement inside token.kind ≡ false
    → IfOk r (λ done. held' ≡ held ++ token ∷ []) → IfOk r (λ done. inside' ≡ is_inside inside token.kind)
    → IfOk r (λ done. (pieces : List Piece) → old ++ written inside' (lexemes_at text held') pieces ≡ old ++ written inside (lexemes_at text held) (a_token token.kind (slice_range text token.start token.end) ∷ pieces))
token-kept (Err x) text inside inside' held held' token old goes_on more same = tt
token-kept (Ok x) text inside inside' held held' token old goes_on more same = λ pieces.
    let bytes = slice_range text token.start token.end in
    ap (λ b. old ++ written b (lexemes_at text held') pieces) same
    ∙ ap (λ l. old ++ written (is_inside inside token.kind) l pieces) (ap (lexemes_at text) more ∙ lexemes_at-append text held token)
    ∙ token-held inside (lexemes_at text held) old token.kind bytes pieces goes_on
