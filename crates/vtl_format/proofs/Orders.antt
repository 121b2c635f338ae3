-- What is written has the tokens and the comments of the text, and is its canonical text.
use Rattle.std.proofs.Common.{◌≡◌, ◌<◌, ◌+◌, ◌∷◌, ◌++◌, ◌∙◌, ◌==◌, [], ℕ, List, Bool, true, false, cond, append_assoc, append-nil, sym, ap, subst, refl, arith}
use Rattle.std.specs.List.{AllByRecursion}
use Rattle.std.proofs.lemmas.Bool.Decides.{nat_tests}
use Rattle.vtl_lists.proofs.Alls.{all_push}
use Rattle.vtl_lexer.specs.Pieces.{IsRemark, IsWritable, Piece, Stands, a_comment, a_token, stands_comment, stands_nothing, stands_space}
use Rattle.vtl_format.specs.Form.{Remark, ends_statement, form_from, is_inside, lexeme, lexemes, remark, remark_lines, remarks_from, statements, with_first}
use Rattle.vtl_format.specs.Layout.{Lexeme, statement_form, statement_style}
use Rattle.vtl_format.specs.Written.{last_form, written}
use Rattle.vtl_format.proofs.Laid.{IsSpelled, laid-stands, token_pieces}

-- ---- the pieces in the order in which they are written: the comments of a statement before its tokens

abbrev pub order : Bool → List Lexeme → List Piece → List Piece
order inside held [] = token_pieces held
order inside held (a_comment bytes ∷ pieces) = a_comment bytes ∷ order inside held pieces
order inside held (a_token kind bytes ∷ pieces) =
    cond (ends_statement inside kind) (token_pieces (held ++ lexeme kind bytes ∷ []) ++ order false [] pieces) (order (is_inside inside kind) (held ++ lexeme kind bytes ∷ []) pieces)

-- ---- the written text reads as these

comment-stands : (bytes text : List ℕ) (pieces : List Piece) → IsRemark bytes → Stands text pieces → Stands (bytes ++ 10 ∷ text) (a_comment bytes ∷ pieces)
comment-stands bytes text pieces is stands =
    subst (λ l. Stands (bytes ++ 10 ∷ text) (a_comment l ∷ pieces)) is.whole
    (stands_comment (bytes ++ 10 ∷ text) bytes (10 ∷ text) pieces refl (is.gap text) is.marked (stands_space 10 text pieces refl stands))

last-stands : (held : List Lexeme) → AllByRecursion IsSpelled held → Stands (last_form held) (token_pieces held)
last-stands [] all = stands_nothing
last-stands (first ∷ rest) all =
    subst (Stands (last_form (first ∷ rest))) (append-nil (token_pieces (first ∷ rest))) (laid-stands (statement_style (first ∷ rest)) 0 (first ∷ rest) [] [] all stands_nothing)

choice-stands : (ends : Bool) (a b : List ℕ) (c d : List Piece) → Stands a c → Stands b d → Stands (cond ends a b) (cond ends c d)
choice-stands true a b c d e f = e
choice-stands false a b c d e f = f

pub written-stands : (inside : Bool) (held : List Lexeme) (pieces : List Piece) → AllByRecursion IsSpelled held → AllByRecursion IsWritable pieces
    → Stands (written inside held pieces) (order inside held pieces)
written-stands inside held [] spelled writable = last-stands held spelled
written-stands inside held (a_comment bytes ∷ pieces) spelled writable =
    comment-stands bytes (written inside held pieces) (order inside held pieces) writable.0 (written-stands inside held pieces spelled writable.1)
written-stands inside held (a_token kind bytes ∷ pieces) spelled writable =
    let whole = held ++ lexeme kind bytes ∷ [] in
    let more : AllByRecursion IsSpelled whole = all_push IsSpelled held (lexeme kind bytes) spelled writable.0 in
    choice-stands (ends_statement inside kind) (statement_form whole ++ 10 ∷ written false [] pieces) (written (is_inside inside kind) whole pieces) (token_pieces whole ++ order false [] pieces)
    (order (is_inside inside kind) whole pieces)
    (laid-stands (statement_style whole) 0 whole (written false [] pieces) (order false [] pieces) more (written-stands false [] pieces tt writable.1))
    (written-stands (is_inside inside kind) whole pieces more writable.1)

-- ---- they have the same tokens

lexemes-held : (held : List Lexeme) (pieces : List Piece) → lexemes (token_pieces held ++ pieces) ≡ held ++ lexemes pieces
lexemes-held [] pieces = refl
lexemes-held (first ∷ held) pieces = ap (λ l. first ∷ l) (lexemes-held held pieces)

lexemes-choice : (ends : Bool) (a b : List Piece) (l : List Lexeme) → lexemes a ≡ l → lexemes b ≡ l → lexemes (cond ends a b) ≡ l
lexemes-choice true a b l e f = e
lexemes-choice false a b l e f = f

pub lexemes-order : (inside : Bool) (held : List Lexeme) (pieces : List Piece) → lexemes (order inside held pieces) ≡ held ++ lexemes pieces
lexemes-order inside held [] = ap lexemes (sym (append-nil (token_pieces held))) ∙ lexemes-held held []
lexemes-order inside held (a_comment bytes ∷ pieces) = lexemes-order inside held pieces
lexemes-order inside held (a_token kind bytes ∷ pieces) =
    let it = lexeme kind bytes in
    let whole = held ++ it ∷ [] in
    let same : whole ++ lexemes pieces ≡ held ++ (it ∷ lexemes pieces) = append_assoc held (it ∷ []) (lexemes pieces) in
    lexemes-choice (ends_statement inside kind) (token_pieces whole ++ order false [] pieces) (order (is_inside inside kind) whole pieces) (held ++ (it ∷ lexemes pieces))
    (lexemes-held whole (order false [] pieces) ∙ ap (λ l. whole ++ l) (lexemes-order false [] pieces) ∙ same)
    (lexemes-order (is_inside inside kind) whole pieces ∙ same)

-- ---- and the same comments

-- whether a `;` would stand within a definition, behind these tokens
abbrev leads : Bool → List Lexeme → Bool
leads inside [] = inside
leads inside (first ∷ rest) = leads (is_inside inside first.kind) rest

-- none of them ends a statement
abbrev EndsNone : Bool → List Lexeme → Type 0
EndsNone inside [] = Unit {0}
EndsNone inside (first ∷ rest) = (ends_statement inside first.kind ≡ false) × EndsNone (is_inside inside first.kind) rest

leads-more : (inside : Bool) (held : List Lexeme) (it : Lexeme) → leads inside (held ++ it ∷ []) ≡ is_inside (leads inside held) it.kind
leads-more inside [] it = refl
leads-more inside (first ∷ held) it = leads-more (is_inside inside first.kind) held it

ends-more : (inside : Bool) (held : List Lexeme) (it : Lexeme) → EndsNone inside held → ends_statement (leads inside held) it.kind ≡ false → EndsNone inside (held ++ it ∷ [])
ends-more inside [] it none e = (e, tt)
ends-more inside (first ∷ held) it none e = (none.0, ends-more (is_inside inside first.kind) held it none.1 e)

remarks-held : (inside : Bool) (number : ℕ) (held : List Lexeme) (pieces : List Piece) → EndsNone inside held → remarks_from inside number (token_pieces held ++ pieces) ≡ remarks_from (leads inside held) number pieces
remarks-held inside number [] pieces none = refl
remarks-held inside number (first ∷ held) pieces none =
    ap (λ b. cond b (remarks_from false (number + 1) (token_pieces held ++ pieces)) (remarks_from (is_inside inside first.kind) number (token_pieces held ++ pieces))) none.0
    ∙ remarks-held (is_inside inside first.kind) number held pieces none.1

remarks-ends : (inside : Bool) (number : ℕ) (held : List Lexeme) (it : Lexeme) (pieces : List Piece) → EndsNone inside held → ends_statement (leads inside held) it.kind ≡ true
    → remarks_from inside number (token_pieces (held ++ it ∷ []) ++ pieces) ≡ remarks_from false (number + 1) pieces
remarks-ends inside number [] it pieces none e = ap (λ b. cond b (remarks_from false (number + 1) pieces) (remarks_from (is_inside inside it.kind) number pieces)) e
remarks-ends inside number (first ∷ held) it pieces none e =
    ap (λ b. cond b (remarks_from false (number + 1) (token_pieces (held ++ it ∷ []) ++ pieces)) (remarks_from (is_inside inside first.kind) number (token_pieces (held ++ it ∷ []) ++ pieces))) none.0
    ∙ remarks-ends (is_inside inside first.kind) number held it pieces none.1 e

pub remarks-order : (inside : Bool) (number : ℕ) (held : List Lexeme) (pieces : List Piece) → EndsNone false held → leads false held ≡ inside
    → remarks_from false number (order inside held pieces) ≡ remarks_from inside number pieces
remarks-order inside number held [] none state = ap (remarks_from false number) (sym (append-nil (token_pieces held))) ∙ remarks-held false number held [] none
remarks-order inside number held (a_comment bytes ∷ pieces) none state = ap (λ l. remark number bytes ∷ l) (remarks-order inside number held pieces none state)
remarks-order inside number held (a_token kind bytes ∷ pieces) none state =
    let it = lexeme kind bytes in
    let whole = held ++ it ∷ [] in
    by (ends_statement inside kind) refl (remarks-order false (number + 1) [] pieces tt refl)
    (λ quiet. remarks-order (is_inside inside kind) number whole pieces (ends-more false held it none (ap (λ b. ends_statement b kind) state ∙ quiet)) (leads-more false held it ∙ ap (λ b. is_inside b kind) state))
  where
    by : (ends : Bool) → ends_statement inside kind ≡ ends → remarks_from false (number + 1) (order false [] pieces) ≡ remarks_from false (number + 1) pieces
        → (ends_statement inside kind ≡ false → remarks_from false number (order (is_inside inside kind) (held ++ lexeme kind bytes ∷ []) pieces) ≡ remarks_from (is_inside inside kind) number pieces)
        → remarks_from false number (cond ends (token_pieces (held ++ lexeme kind bytes ∷ []) ++ order false [] pieces) (order (is_inside inside kind) (held ++ lexeme kind bytes ∷ []) pieces))
        ≡ cond ends (remarks_from false (number + 1) pieces) (remarks_from (is_inside inside kind) number pieces)
    by true e next same = remarks-ends false number held (lexeme kind bytes) (order false [] pieces) none (ap (λ b. ends_statement b kind) state ∙ e) ∙ next
    by false e next same = same e

-- ---- what is written is the canonical text

-- tokens before those of the first statement
abbrev prepend : List Lexeme → List (List Lexeme) → List (List Lexeme)
prepend [] others = others
prepend (first ∷ held) [] = (first ∷ held) ∷ []
prepend (first ∷ held) (statement ∷ others) = (first ∷ held ++ statement) ∷ others

prepend-more : (held : List Lexeme) (it : Lexeme) (others : List (List Lexeme)) → prepend held (with_first it others) ≡ prepend (held ++ it ∷ []) others
prepend-more [] it [] = refl
prepend-more [] it (statement ∷ others) = refl
prepend-more (first ∷ held) it [] = refl
prepend-more (first ∷ held) it (statement ∷ others) = ap (λ l. (first ∷ l) ∷ others) (sym (append_assoc held (it ∷ []) statement))

prepend-ends : (held : List Lexeme) (it : Lexeme) (others : List (List Lexeme)) → prepend held ((it ∷ []) ∷ others) ≡ (held ++ it ∷ []) ∷ others
prepend-ends [] it others = refl
prepend-ends (first ∷ held) it others = refl

-- comments of later statements have no line yet
lines-none : (inside : Bool) (number later : ℕ) (pieces : List Piece) → number < later → remark_lines number (remarks_from inside later pieces) ≡ []
lines-none inside number later [] before = refl
lines-none inside number later (a_comment bytes ∷ pieces) before =
    let apart : (later == number) ≡ false = grind (arith, nat_tests, before) in
    ap (λ b. cond b (bytes ++ 10 ∷ remark_lines number (remarks_from inside later pieces)) (remark_lines number (remarks_from inside later pieces))) apart ∙ lines-none inside number later pieces before
lines-none inside number later (a_token kind bytes ∷ pieces) before = by (ends_statement inside kind) (lines-none false number (later + 1) pieces (omega arith)) (lines-none (is_inside inside kind) number later pieces before)
  where
    by : (ends : Bool) → remark_lines number (remarks_from false (later + 1) pieces) ≡ [] → remark_lines number (remarks_from (is_inside inside kind) later pieces) ≡ []
        → remark_lines number (cond ends (remarks_from false (later + 1) pieces) (remarks_from (is_inside inside kind) later pieces)) ≡ []
    by true e f = e
    by false e f = f

line-here : (number : ℕ) (bytes : List ℕ) (rest : List Remark) → remark_lines number (remark number bytes ∷ rest) ≡ bytes ++ 10 ∷ remark_lines number rest
line-here number bytes rest =
    let same : (number == number) ≡ true = grind (arith, nat_tests) in
    ap (λ b. cond b (bytes ++ 10 ∷ remark_lines number rest) (remark_lines number rest)) same

line-past : (number later : ℕ) (bytes : List ℕ) (rest : List Remark) → number < later → remark_lines later (remark number bytes ∷ rest) ≡ remark_lines later rest
line-past number later bytes rest before =
    let apart : (number == later) ≡ false = grind (arith, nat_tests, before) in
    ap (λ b. cond b (bytes ++ 10 ∷ remark_lines later rest) (remark_lines later rest)) apart

-- one comment more before the next statement
form-past : (number later : ℕ) (bytes : List ℕ) (rest : List Remark) (others : List (List Lexeme)) → number < later → form_from later others (remark number bytes ∷ rest) ≡ form_from later others rest
form-past number later bytes rest [] before = line-past number later bytes rest before
form-past number later bytes rest (statement ∷ others) before =
    ap (λ l. l ++ (statement_form statement ++ 10 ∷ form_from (later + 1) others (remark number bytes ∷ rest))) (line-past number later bytes rest before)
    ∙ ap (λ l. remark_lines later rest ++ (statement_form statement ++ 10 ∷ l)) (form-past number (later + 1) bytes rest others (omega arith))

form-comment : (number : ℕ) (bytes : List ℕ) (rest : List Remark) (others : List (List Lexeme)) → form_from number others (remark number bytes ∷ rest) ≡ bytes ++ 10 ∷ form_from number others rest
form-comment number bytes rest [] = line-here number bytes rest
form-comment number bytes rest (statement ∷ others) =
    ap (λ l. l ++ (statement_form statement ++ 10 ∷ form_from (number + 1) others (remark number bytes ∷ rest))) (line-here number bytes rest)
    ∙ ap (λ l. (bytes ++ 10 ∷ remark_lines number rest) ++ (statement_form statement ++ 10 ∷ l)) (form-past number (number + 1) bytes rest others (omega arith))
    ∙ append_assoc bytes (10 ∷ remark_lines number rest) (statement_form statement ++ 10 ∷ form_from (number + 1) others rest)

last-form : (number : ℕ) (held : List Lexeme) → last_form held ≡ form_from number (prepend held []) []
last-form number [] = refl
last-form number (first ∷ held) = refl

pub written-form : (inside : Bool) (number : ℕ) (held : List Lexeme) (pieces : List Piece)
    → written inside held pieces ≡ form_from number (prepend held (statements inside (lexemes pieces))) (remarks_from inside number pieces)
written-form inside number held [] = last-form number held
written-form inside number held (a_comment bytes ∷ pieces) =
    ap (λ l. bytes ++ 10 ∷ l) (written-form inside number held pieces)
    ∙ sym (form-comment number bytes (remarks_from inside number pieces) (prepend held (statements inside (lexemes pieces))))
written-form inside number held (a_token kind bytes ∷ pieces) =
    by (ends_statement inside kind) (written-form false (number + 1) [] pieces) (written-form (is_inside inside kind) number (held ++ lexeme kind bytes ∷ []) pieces)
  where
    by : (ends : Bool) → written false [] pieces ≡ form_from (number + 1) (statements false (lexemes pieces)) (remarks_from false (number + 1) pieces)
        → written (is_inside inside kind) (held ++ lexeme kind bytes ∷ []) pieces
        ≡ form_from number (prepend (held ++ lexeme kind bytes ∷ []) (statements (is_inside inside kind) (lexemes pieces))) (remarks_from (is_inside inside kind) number pieces)
        → cond ends (statement_form (held ++ lexeme kind bytes ∷ []) ++ 10 ∷ written false [] pieces) (written (is_inside inside kind) (held ++ lexeme kind bytes ∷ []) pieces)
        ≡ form_from number
        (prepend held (cond ends ((lexeme kind bytes ∷ []) ∷ statements false (lexemes pieces)) (with_first (lexeme kind bytes) (statements (is_inside inside kind) (lexemes pieces)))))
        (cond ends (remarks_from false (number + 1) pieces) (remarks_from (is_inside inside kind) number pieces))
    by true next same =
        let whole = held ++ lexeme kind bytes ∷ [] in
        let later = remarks_from false (number + 1) pieces in
        let others = statements false (lexemes pieces) in
        ap (λ l. statement_form whole ++ 10 ∷ l) next
        ∙ ap (λ l. l ++ (statement_form whole ++ 10 ∷ form_from (number + 1) others later)) (sym (lines-none false number (number + 1) pieces (omega arith)))
        ∙ ap (λ l. form_from number l later) (sym (prepend-ends held (lexeme kind bytes) others))
    by false next same =
        same ∙ ap (λ l. form_from number l (remarks_from (is_inside inside kind) number pieces)) (sym (prepend-more held (lexeme kind bytes) (statements (is_inside inside kind) (lexemes pieces))))
