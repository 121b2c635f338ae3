-- A text that is written piece by piece has these pieces, and each piece of a text can be written.
use Rattle.std.proofs.Common.{◌≡◌, ◌≤◌, ◌<◌, ◌+◌, ◌-◌, ◌∷◌, ◌++◌, ◌∙◌, ◌==◌, [], ℕ, List, Bool, Option, None, Some, true, false, length, take, drop, codes, not, nat_eq, cond, append_assoc, append-nil, length-append, sym, ap, subst, refl, arith, IsUtf8}
use Rattle.std.specs.List.{AllByRecursion, list_all, slice_range, starts_with}
use Rattle.std.specs.Str.{IsCharBoundary}
use Rattle.std.proofs.Math.Seq.{take-append_seam, drop-append_seam}
use Rattle.std.proofs.lemmas.Bool.{and_parts, false≢true}
use Rattle.std.proofs.lemmas.Bool.Decides.{nat_tests}
use Rattle.std.proofs.lemmas.List.{length-take-le, take-append-drop}
use Rattle.std.proofs.lemmas.Str.{IsCharBoundary-from_rest, IsCharBoundary-start, IsUtf8-drop}
use Rattle.vtl_lists.specs.Runs.{begins_with}
use Rattle.vtl_lexer.specs.Gaps.{IsGap, block_comment, is_white_space, line_comment, white_space}
use Rattle.vtl_lexer.specs.Lexed.{mark_len}
use Rattle.vtl_lexer.specs.Parts.{HasParts, Holds, holds_comment, holds_fault, holds_nothing, holds_space, holds_token, before_returns, is_comment, without_returns}
use Rattle.vtl_lexer.specs.Pieces.{IsCut, IsCutAt, IsRemark, IsWritable, Piece, Stands, a_comment, a_token, piece_of, pieces_of, stands_comment, stands_nothing, stands_space, stands_token}
use Rattle.vtl_lexer.specs.Leads.{lead_of}
use Rattle.vtl_lexer.specs.Spelling.{Lacks, Spells, spelling}
use Rattle.vtl_lexer.specs.Tokens.{IsToken}
use Rattle.vtl_lexer.specs.declared.lead.Lead.TheVariants.{Other}
use Rattle.vtl_lexer.specs.declared.parts.Comment.{Comment}
use Rattle.vtl_lexer.specs.declared.parts.Part.{Part}
use Rattle.vtl_lexer.specs.declared.parts.Part.TheVariants as p
use Rattle.vtl_lexer.specs.declared.token.Sign.{Sign}
use Rattle.vtl_lexer.specs.declared.token.Sign.TheVariants as s
use Rattle.vtl_lexer.specs.declared.token.Token.{Token}
use Rattle.vtl_lexer.specs.declared.token.TokenKind.{TokenKind}
use Rattle.vtl_lexer.proofs.CutLemmas.{cut-before, cut-behind}
use Rattle.vtl_lexer.proofs.FoundLemmas.{gap-cut-of, mark-cut, spelled-ends}
use Rattle.vtl_lexer.proofs.GapLemmas.{first_of}
use Rattle.vtl_lexer.proofs.GapSearchLemmas.{start-splits}
use Rattle.vtl_lexer.proofs.ReturnLemmas.{Returns, returns-split, returns-twice}
use Rattle.vtl_lexer.proofs.SignLemmas.{other-sign}
use Rattle.vtl_lexer.proofs.SpellingLemmas.{spelled-some}

-- ---- reading what was written

-- behind this text the rest holds the pieces
record Read (before rest : List ℕ) (pieces : List Piece) : Type 0 where
  parts : List Part
  holds : Holds (length before) rest parts None
  are : pieces_of (before ++ rest) parts ≡ pieces

-- the text behind a front
read-behind : (before bytes rest : List ℕ) (pieces : List Piece) → Read (before ++ bytes) rest pieces
    → (parts : List Part) × Holds (length before + length bytes) rest parts None × (pieces_of (before ++ (bytes ++ rest)) parts ≡ pieces)
read-behind before bytes rest pieces read =
    (read.parts, subst (λ n. Holds n rest read.parts None) (length-append before bytes) read.holds, ap (λ l. pieces_of l read.parts) (sym (append_assoc before bytes rest)) ∙ read.are)

-- the first bytes of a rest, by their places
range-at : (before bytes rest : List ℕ) → slice_range (before ++ (bytes ++ rest)) (length before) (length before + length bytes) ≡ bytes
range-at before bytes rest =
    let size : length before + length bytes - length before ≡ length bytes = omega arith in
    ap (λ l. take (length before + length bytes - length before) l) (drop-append_seam before (bytes ++ rest)) ∙ ap (λ n. take n (bytes ++ rest)) size ∙ take-append_seam bytes rest

stands-reads : {rest : List ℕ} {pieces : List Piece} (before : List ℕ) → Stands rest pieces → Read before rest pieces
stands-reads before stands_nothing = record { parts = []; holds = holds_nothing (length before); are = refl }
stands-reads before (stands_space byte rest pieces white more) =
    let (parts, holds, are) = read-behind before (byte ∷ []) rest pieces (stands-reads (before ++ byte ∷ []) more) in
    let plain : is_comment (byte ∷ []) ≡ false = slash byte white in
    record {
      parts = parts;
      holds = holds_space (length before) (byte ∷ rest) (byte ∷ []) rest parts None refl (white_space byte refl white) plain holds;
      are = are;
    }
  where
    slash : (byte : ℕ) → is_white_space byte ≡ true → (byte == 47) ≡ false
    slash byte white = grind (arith, nat_tests, white)
stands-reads before (stands_comment text bytes rest pieces is gap marked more) =
    let (parts, holds, are) = read-behind before bytes rest pieces (stands-reads (before ++ bytes) more) in
    let kept = without_returns bytes in
    let gone = returns-split bytes in
    let comment : Comment = record { start = length before; end = length before + length kept } in
    let whole : before ++ text ≡ before ++ (kept ++ (gone.returns ++ rest)) = ap (λ l. before ++ l) (is ∙ ap (λ l. l ++ rest) gone.split ∙ append_assoc kept gone.returns rest) in
    let content : slice_range (before ++ text) (length before) (length before + length kept) ≡ kept =
    ap (λ l. slice_range l (length before) (length before + length kept)) whole ∙ range-at before kept (gone.returns ++ rest) in
    record {
      parts = p.Comment comment ∷ parts;
      holds = holds_comment (length before) text bytes rest comment parts None is gap marked refl refl holds;
      are = ap (λ l. a_comment l ∷ pieces_of (before ++ text) parts) content ∙ ap (λ l. a_comment kept ∷ l) (ap (λ l. pieces_of (before ++ l) parts) is ∙ are);
    }
stands-reads before (stands_token text bytes rest kind pieces is token more) =
    let (parts, holds, are) = read-behind before bytes rest pieces (stands-reads (before ++ bytes) more) in
    let it : Token = record { kind = kind; start = length before; end = length before + length bytes } in
    let content : slice_range (before ++ text) (length before) (length before + length bytes) ≡ bytes =
    ap (λ l. slice_range (before ++ l) (length before) (length before + length bytes)) is ∙ range-at before bytes rest in
    record {
      parts = p.Token it ∷ parts;
      holds = holds_token (length before) text bytes rest it parts None is token refl refl holds;
      are = ap (λ l. a_token kind l ∷ pieces_of (before ++ text) parts) content ∙ ap (λ l. a_token kind bytes ∷ l) (ap (λ l. pieces_of (before ++ l) parts) is ∙ are);
    }

-- a piece does not begin with the first byte of a mark, 239
gap-no_mark : (bytes behind rest : List ℕ) → IsGap bytes rest → bytes ++ behind ≡ 239 ∷ drop 1 (bytes ++ behind) → ⊥
gap-no_mark bytes behind rest (white_space byte is white) e = white-no_mark byte white (ap (λ l. first_of (l ++ behind)) (sym is) ∙ ap first_of e)
  where
    white-no_mark : (byte : ℕ) → is_white_space byte ≡ true → byte ≡ 239 → ⊥
    white-no_mark byte white e = false≢true (ap is_white_space (sym e) ∙ white)
gap-no_mark bytes behind rest (line_comment inner is lacks stops) e = let first : 47 ≡ 239 = ap (λ l. first_of (l ++ behind)) (sym is) ∙ ap first_of e in omega (arith, first)
gap-no_mark bytes behind rest (block_comment inner is none) e = let first : 47 ≡ 239 = ap (λ l. first_of (l ++ behind)) (sym is) ∙ ap first_of e in omega (arith, first)

token-no_mark : (kind : TokenKind) (bytes text : List ℕ) → Spells kind bytes → bytes ++ text ≡ 239 ∷ drop 1 (bytes ++ text) → ⊥
token-no_mark kind bytes text spelled e =
    let lead : lead_of (bytes ++ text) ≡ Other = ap lead_of e in
    let (sign, same, is) = other-sign kind (bytes ++ text) bytes text lead refl spelled in
    sign-no_mark sign (sym (ap (λ l. first_of (l ++ text)) is) ∙ ap first_of e)
  where
    sign-no_mark : (sign : Sign) → first_of (spelling sign ++ text) ≡ 239 → ⊥
    sign-no_mark s.Assign first = omega (arith, first)
    sign-no_mark _ first = omega (arith, first)

abbrev mark_size : Bool → ℕ
mark_size b = cond b 3 0

pub stands-no_mark : {text : List ℕ} {pieces : List Piece} → Stands text pieces → mark_len text ≡ 0
stands-no_mark {text} stands = by (starts_with nat_eq text (0xEF ∷ 0xBB ∷ 0xBF ∷ [])) refl
  where
    none : {text : List ℕ} {pieces : List Piece} → Stands text pieces → text ≡ 239 ∷ drop 1 text → ⊥
    none stands_nothing e = cc e
    none (stands_space byte rest pieces white more) e = false≢true (ap is_white_space (sym (ap first_of e)) ∙ white)
    none (stands_comment text bytes rest pieces is gap marked more) e = gap-no_mark bytes rest rest gap (sym is ∙ e ∙ ap (λ l. 239 ∷ drop 1 l) is)
    none (stands_token text bytes rest kind pieces is token more) e = token-no_mark kind bytes rest token.spelled (sym is ∙ e ∙ ap (λ l. 239 ∷ drop 1 l) is)

    by : (b : Bool) → starts_with nat_eq text (0xEF ∷ 0xBB ∷ 0xBF ∷ []) ≡ b → mark_size b ≡ 0
    by true e =
        let whole : text ≡ 0xEF ∷ 0xBB ∷ 0xBF ∷ drop 3 text = start-splits text (0xEF ∷ 0xBB ∷ 0xBF ∷ []) e in
        absurd (none stands (whole ∙ ap (λ l. 239 ∷ l) (sym (ap (drop 1) whole))))
    by false e = refl

-- a written text has the pieces that it was written from
pub stands-parts : (text : List ℕ) (pieces : List Piece) → Stands text pieces → (parts : List Part) × HasParts text parts None × (pieces_of text parts ≡ pieces)
stands-parts text pieces stands =
    let read = stands-reads [] stands in
    (read.parts, subst (λ n. Holds n (drop n text) read.parts None) (sym (stands-no_mark stands)) read.holds, read.are)

-- ---- what can be written

lacks-front : (byte : ℕ) (xs ys : List ℕ) → Lacks byte (xs ++ ys) → Lacks byte xs
lacks-front byte [] ys lacks = refl
lacks-front byte (x ∷ xs) ys lacks =
    let (head, tail) = and_parts (not (x == byte)) (list_all (λ other. not (other == byte)) (xs ++ ys)) lacks in
    rw head (lacks-front byte xs ys tail)

line-kept : (inner : List ℕ) → without_returns (codes "//" ++ inner) ≡ codes "//" ++ without_returns inner
line-kept inner = by (without_returns inner)
  where
    by : (left : List ℕ) → before_returns 47 (before_returns 47 left) ≡ 47 ∷ 47 ∷ left
    by [] = refl
    by (byte ∷ left) = refl

end-kept : (inner : List ℕ) → without_returns (inner ++ codes "*/") ≡ inner ++ codes "*/"
end-kept [] = refl
end-kept (byte ∷ inner) = ap (before_returns byte) (end-kept inner) ∙ by inner
  where
    by : (inner : List ℕ) → before_returns byte (inner ++ codes "*/") ≡ byte ∷ (inner ++ codes "*/")
    by [] = refl
    by (next ∷ inner) = refl

block-kept : (inner : List ℕ) → without_returns (codes "/*" ++ (inner ++ codes "*/")) ≡ codes "/*" ++ (inner ++ codes "*/")
block-kept inner = ap (λ l. before_returns 47 (before_returns 42 l)) (end-kept inner) ∙ by inner
  where
    by : (inner : List ℕ) → before_returns 47 (before_returns 42 (inner ++ codes "*/")) ≡ 47 ∷ 42 ∷ (inner ++ codes "*/")
    by [] = refl
    by (next ∷ inner) = refl

white-marked : (byte : ℕ) → is_white_space byte ≡ true → (byte == 47) ≡ true → ⊥
white-marked byte white marked = let same : byte ≡ 47 = grind (arith, nat_tests, marked) in false≢true (ap is_white_space (sym same) ∙ white)

remark-of : (bytes rest : List ℕ) → IsGap bytes rest → is_comment bytes ≡ true → IsRemark (without_returns bytes)
remark-of bytes rest (white_space byte is white) marked = absurd (white-marked byte white (ap is_comment (sym is) ∙ marked))
remark-of bytes rest (line_comment inner is lacks stops) marked =
    let kept : without_returns bytes ≡ codes "//" ++ without_returns inner = ap without_returns is ∙ line-kept inner in
    let gone = returns-split inner in
    record {
      marked = ap is_comment kept;
      whole = returns-twice bytes;
      gap = λ rest. line_comment (without_returns inner) kept (lacks-front 10 (without_returns inner) gone.returns (subst (Lacks 10) gone.split lacks)) refl;
    }
remark-of bytes rest (block_comment inner is none) marked =
    let kept : without_returns bytes ≡ codes "/*" ++ (inner ++ codes "*/") = ap without_returns is ∙ block-kept inner in
    record {
      marked = ap is_comment kept;
      whole = returns-twice bytes;
      gap = λ rest. block_comment inner kept none;
    }

-- the bytes at places behind a front
range-of : (text before bytes rest : List ℕ) (at start end : ℕ) → text ≡ before ++ (bytes ++ rest) → at ≡ length before → start ≡ at → end ≡ at + length bytes → slice_range text start end ≡ bytes
range-of text before bytes rest at start end e is from to =
    let front : start ≡ length before = from ∙ is in
    let back : end ≡ length before + length bytes = to ∙ ap (λ n. n + length bytes) is in
    ap (λ l. slice_range l start end) e ∙ ap (λ n. slice_range (before ++ (bytes ++ rest)) n end) front ∙ ap (slice_range (before ++ (bytes ++ rest)) (length before)) back ∙ range-at before bytes rest

-- the text goes on behind these bytes
front-more : (text before rest bytes behind : List ℕ) → text ≡ before ++ rest → rest ≡ bytes ++ behind → text ≡ (before ++ bytes) ++ behind
front-more text before rest bytes behind e is = e ∙ ap (λ l. before ++ l) is ∙ sym (append_assoc before bytes behind)

size-more : (at : ℕ) (before bytes : List ℕ) → at ≡ length before → at + length bytes ≡ length (before ++ bytes)
size-more at before bytes is = omega (arith, length-append before bytes)

holds-writable : {at : ℕ} {rest : List ℕ} {parts : List Part} {bad : Option ℕ} (text before : List ℕ) → Holds at rest parts bad → text ≡ before ++ rest → at ≡ length before
    → AllByRecursion IsWritable (pieces_of text parts)
holds-writable text before (holds_nothing at) e start = tt
holds-writable text before (holds_space at here bytes rest parts bad is gap plain more) e start =
    holds-writable text (before ++ bytes) more (front-more text before here bytes rest e is) (size-more at before bytes start)
holds-writable text before (holds_comment at here bytes rest comment parts bad is gap marked from to more) e start =
    let gone = returns-split bytes in
    let kept = without_returns bytes in
    let whole : text ≡ before ++ (kept ++ (gone.returns ++ rest)) = e ∙ ap (λ l. before ++ l) (is ∙ ap (λ l. l ++ rest) gone.split ∙ append_assoc kept gone.returns rest) in (
      subst IsRemark (sym (range-of text before kept (gone.returns ++ rest) at comment.start comment.end whole start from to)) (remark-of bytes rest gap marked),
      holds-writable text (before ++ bytes) more (front-more text before here bytes rest e is) (size-more at before bytes start),
    )
holds-writable text before (holds_token at here bytes rest token parts bad is starts from to more) e start = (
  subst (Spells token.kind) (sym (range-of text before bytes rest at token.start token.end (e ∙ ap (λ l. before ++ l) is) start from to)) starts.spelled,
  holds-writable text (before ++ bytes) more (front-more text before here bytes rest e is) (size-more at before bytes start),
)
holds-writable text before (holds_fault at here some no_gap no_token) e start = tt

mark-within : (text : List ℕ) → mark_len text ≤ length text
mark-within text = by (starts_with nat_eq text (0xEF ∷ 0xBB ∷ 0xBF ∷ [])) refl
  where
    by : (b : Bool) → starts_with nat_eq text (0xEF ∷ 0xBB ∷ 0xBF ∷ []) ≡ b → cond b 3 0 ≤ length text
    by true e = omega (arith, ap length (start-splits text (0xEF ∷ 0xBB ∷ 0xBF ∷ []) e))
    by false e = omega arith

pub parts-writable : (text : List ℕ) (parts : List Part) (bad : Option ℕ) → HasParts text parts bad → AllByRecursion IsWritable (pieces_of text parts)
parts-writable text parts bad h =
    holds-writable text (take (mark_len text) text) h (sym (take-append-drop (mark_len text) text)) (sym (length-take-le (mark_len text) text (mark-within text)))

-- ---- where a text is cut

-- behind a front
cut-there : (text before rest : List ℕ) (at n start end : ℕ) → text ≡ before ++ rest → at ≡ length before → start ≡ at → end ≡ at + n → IsUtf8 rest → IsCharBoundary rest n → IsCut text start end
cut-there text before rest at n start end e is from to utf8 cut =
    let behind : drop at text ≡ rest = ap (λ m. drop m text) is ∙ ap (drop (length before)) e ∙ drop-append_seam before rest in
    let within : at ≤ length text = omega (arith, ap length e, length-append before rest) in
    record {
      ordered = omega arith;
      front = subst (IsCharBoundary text) (sym from) (subst (IsCharBoundary text) (omega arith) (IsCharBoundary-from_rest text at 0 within (subst (λ l. IsCharBoundary l 0) (sym behind) (IsCharBoundary-start rest utf8))));
      back = subst (IsCharBoundary text) (sym to) (IsCharBoundary-from_rest text at n within (subst (λ l. IsCharBoundary l n) (sym behind) cut));
    }

-- a text may be cut where a comment ends
comment-cut : (text bytes rest : List ℕ) → IsUtf8 text → text ≡ bytes ++ rest → IsGap bytes rest → IsCharBoundary text (length (without_returns bytes))
comment-cut text bytes rest utf8 is gap = by (returns-split bytes).returns (returns-split bytes).split (returns-split bytes).all
  where
    by : (returns : List ℕ) → bytes ≡ without_returns bytes ++ returns → list_all (λ byte. byte == 13) returns ≡ true → IsCharBoundary text (length (without_returns bytes))
    by [] split all = subst (λ l. IsCharBoundary text (length l)) (split ∙ append-nil (without_returns bytes)) (gap-cut-of text bytes rest utf8 is gap)
    by (byte ∷ returns) split all =
        let return : byte ≡ 13 = grind (arith, nat_tests, (and_parts (byte == 13) (list_all (λ byte. byte == 13) returns) all).0) in
        let whole : text ≡ without_returns bytes ++ byte ∷ (returns ++ rest) = is ∙ ap (λ l. l ++ rest) split ∙ append_assoc (without_returns bytes) (byte ∷ returns) rest in
        cut-before text (without_returns bytes) (returns ++ rest) byte whole (omega arith)

token-cut-of : (text bytes rest : List ℕ) (kind : TokenKind) → IsUtf8 text → text ≡ bytes ++ rest → IsToken kind bytes rest → IsCharBoundary text (length bytes)
token-cut-of text bytes rest kind utf8 is token = cut-behind text bytes rest utf8 is (spelled-ends kind bytes (spelled-some kind bytes token.spelled) token.spelled)

-- what is behind a cut is text
behind-utf8 : (text bytes rest : List ℕ) → IsUtf8 text → text ≡ bytes ++ rest → IsCharBoundary text (length bytes) → IsUtf8 rest
behind-utf8 text bytes rest utf8 is cut = subst IsUtf8 (ap (drop (length bytes)) is ∙ drop-append_seam bytes rest) (IsUtf8-drop text (length bytes) utf8 cut)

holds-cut : {at : ℕ} {rest : List ℕ} {parts : List Part} {bad : Option ℕ} (text before : List ℕ) → Holds at rest parts bad → text ≡ before ++ rest → at ≡ length before → IsUtf8 rest
    → AllByRecursion (IsCutAt text) parts
holds-cut text before (holds_nothing at) e start utf8 = tt
holds-cut text before (holds_space at here bytes rest parts bad is gap plain more) e start utf8 =
    holds-cut text (before ++ bytes) more (front-more text before here bytes rest e is) (size-more at before bytes start) (behind-utf8 here bytes rest utf8 is (gap-cut-of here bytes rest utf8 is gap))
holds-cut text before (holds_comment at here bytes rest comment parts bad is gap marked from to more) e start utf8 = (
  cut-there text before here at (length (without_returns bytes)) comment.start comment.end e start from to utf8 (comment-cut here bytes rest utf8 is gap),
  holds-cut text (before ++ bytes) more (front-more text before here bytes rest e is) (size-more at before bytes start) (behind-utf8 here bytes rest utf8 is (gap-cut-of here bytes rest utf8 is gap)),
)
holds-cut text before (holds_token at here bytes rest token parts bad is starts from to more) e start utf8 =
    let cut = token-cut-of here bytes rest token.kind utf8 is starts in (
      cut-there text before here at (length bytes) token.start token.end e start from to utf8 cut,
      holds-cut text (before ++ bytes) more (front-more text before here bytes rest e is) (size-more at before bytes start) (behind-utf8 here bytes rest utf8 is cut),
    )
holds-cut text before (holds_fault at here some no_gap no_token) e start utf8 = tt

pub parts-cut : (text : List ℕ) (parts : List Part) (bad : Option ℕ) → IsUtf8 text → HasParts text parts bad → AllByRecursion (IsCutAt text) parts
parts-cut text parts bad utf8 h =
    holds-cut text (take (mark_len text) text) h (sym (take-append-drop (mark_len text) text)) (sym (length-take-le (mark_len text) text (mark-within text)))
    (IsUtf8-drop text (mark_len text) utf8 (mark-cut text utf8))
