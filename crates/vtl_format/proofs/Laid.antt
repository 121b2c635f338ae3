-- A statement that is laid out reads as its tokens.
use Rattle.std.proofs.Common.{◌≡◌, ◌∷◌, ◌++◌, ◌∙◌, [], ℕ, List, true, false, append_assoc, ap, refl}
use Rattle.std.specs.List.{AllByRecursion, list_all}
use Rattle.std.proofs.lemmas.Bool.{and_parts}
use Rattle.vtl_lists.specs.Runs.{begins_with}
use Rattle.vtl_lexer.specs.Gaps.{is_white_space}
use Rattle.vtl_lexer.specs.Pieces.{Piece, Stands, a_token, joins, stands_space, stands_token}
use Rattle.vtl_lexer.specs.Spelling.{Spells}
use Rattle.vtl_lexer.specs.declared.token.TokenKind.{TokenKind}
use Rattle.vtl_lexer.proofs.Alone.{alone}
use Rattle.vtl_format.specs.Layout.{Lexeme, depth_behind, gap_behind, gap_between, gap_text, laid}
use Rattle.vtl_format.specs.declared.gaps.Style.{Style}
use Rattle.vtl_format.proofs.Apart.{apart, gap-white, quiet-joins}

abbrev pub IsSpelled : Lexeme → Type 0
IsSpelled lexeme = Spells lexeme.kind lexeme.bytes

-- tokens as pieces of a text
abbrev pub token_pieces : List Lexeme → List Piece
token_pieces [] = []
token_pieces (first ∷ rest) = a_token first.kind first.bytes ∷ token_pieces rest

white-stands : (white text : List ℕ) (pieces : List Piece) → list_all is_white_space white ≡ true → Stands text pieces → Stands (white ++ text) pieces
white-stands [] text pieces all stands = stands
white-stands (byte ∷ white) text pieces all stands =
    let (head, tail) = and_parts (is_white_space byte) (list_all is_white_space white) all in
    stands_space byte (white ++ text) pieces head (white-stands white text pieces tail stands)

-- it begins with its first token
laid-first : (style : Style) (depth : ℕ) (first : Lexeme) (rest : List Lexeme) (behind : List ℕ) → (more : List ℕ) × (laid style depth (first ∷ rest) ++ behind ≡ first.bytes ++ more)
laid-first style depth first rest behind =
    let more = gap_behind style (depth_behind depth first.kind) first.kind rest ++ laid style (depth_behind depth first.kind) rest in
    (more ++ behind, append_assoc first.bytes more behind)

-- what stands behind a token is white space
behind-white : (style : Style) (depth : ℕ) (kind : TokenKind) (rest : List Lexeme) → list_all is_white_space (gap_behind style depth kind rest) ≡ true
behind-white style depth kind [] = refl
behind-white style depth kind (next ∷ rest) = gap-white (gap_between style depth kind next.kind)

-- and with the rest of the line it does not go on the token
behind-apart : (style : Style) (depth : ℕ) (kind : TokenKind) (rest : List Lexeme) (text : List ℕ) → AllByRecursion IsSpelled rest
    → begins_with (joins kind) (gap_behind style depth kind rest ++ (laid style depth rest ++ 10 ∷ text)) ≡ false
behind-apart style depth kind [] text spelled = quiet-joins kind 10 refl
behind-apart style depth kind (next ∷ rest) text spelled =
    let begins = laid-first style depth next rest (10 ∷ text) in
    ap (λ l. begins_with (joins kind) (gap_text (gap_between style depth kind next.kind) ++ l)) begins.1 ∙ apart style depth kind next.kind next.bytes begins.0 spelled.0

pub laid-stands : (style : Style) (depth : ℕ) (lexemes : List Lexeme) (text : List ℕ) (pieces : List Piece) → AllByRecursion IsSpelled lexemes → Stands text pieces
    → Stands (laid style depth lexemes ++ 10 ∷ text) (token_pieces lexemes ++ pieces)
laid-stands style depth [] text pieces spelled stands = stands_space 10 text pieces refl stands
laid-stands style depth (first ∷ rest) text pieces spelled stands =
    let next = depth_behind depth first.kind in
    let gap = gap_behind style next first.kind rest in
    let tail = laid style next rest in
    let inner = laid-stands style next rest text pieces spelled.1 stands in
    let behind = white-stands gap (tail ++ 10 ∷ text) (token_pieces rest ++ pieces) (behind-white style next first.kind rest) inner in
    let whole : (first.bytes ++ (gap ++ tail)) ++ 10 ∷ text ≡ first.bytes ++ (gap ++ (tail ++ 10 ∷ text)) =
    append_assoc first.bytes (gap ++ tail) (10 ∷ text) ∙ ap (λ l. first.bytes ++ l) (append_assoc gap tail (10 ∷ text)) in
    stands_token ((first.bytes ++ (gap ++ tail)) ++ 10 ∷ text) first.bytes (gap ++ (tail ++ 10 ∷ text)) first.kind (token_pieces rest ++ pieces) whole
    (alone first.kind first.bytes (gap ++ (tail ++ 10 ∷ text)) spelled.0 (behind-apart style next first.kind rest text spelled.1)) behind
