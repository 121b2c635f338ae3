-- A text has one list of parts, and its tokens stand among them.
use Rattle.std.proofs.Common.{◌≡◌, ◌≢◌, ◌≤◌, ◌<◌, ◌+◌, ◌∷◌, ◌++◌, ◌∙◌, [], ℕ, zero, suc, List, Bool, Option, Some, None, true, false, length, take, drop, get_or, add-one, drop-cons, append_assoc, append-nil, sym, ap, subst, refl, arith}
use Rattle.std.proofs.lemmas.Bool.{false≢true}
use Rattle.std.proofs.lemmas.List.{length-take-le, take-append-drop}
use Rattle.vtl_lexer.specs.Found.{IsCommentOf, IsGapOf, IsSpaceOf, IsTokenOf}
use Rattle.vtl_lexer.specs.Gaps.{IsGap, NoGap}
use Rattle.vtl_lexer.specs.Lexed.{IsLexed, Lexes, mark_len, at_end, at_fault, behind_gap, behind_token}
use Rattle.vtl_lexer.specs.Parts.{HasComments, HasParts, Holds, comments_of, holds_comment, holds_fault, holds_nothing, holds_space, holds_token, is_comment, tokens_of, without_returns}
use Rattle.vtl_lexer.specs.Tokens.{IsToken, NoToken}
use Rattle.vtl_lexer.specs.declared.parts.Comment.{Comment}
use Rattle.vtl_lexer.specs.declared.parts.Part.{Part}
use Rattle.vtl_lexer.specs.declared.parts.Part.TheVariants as p
use Rattle.vtl_lexer.specs.declared.token.Found.{Found}
use Rattle.vtl_lexer.specs.declared.token.Token.{Token}
use Rattle.vtl_lexer.specs.declared.token.TokenKind.{TokenKind}
use Rattle.vtl_lexer.proofs.GapLemmas.{gap-no_token, gap-some, one-gap}
use Rattle.vtl_lexer.proofs.LexedLemmas.{nothing-split, one-token, same-token, token-some, token_of}
use Rattle.vtl_lexer.proofs.SpellingLemmas.{spelled-some}

-- ---- the tokens among the parts are those of the text

pub parts-lexed : {at : ℕ} {text : List ℕ} {parts : List Part} {bad : Option ℕ} → Holds at text parts bad → Lexes at text (tokens_of parts) bad
parts-lexed (holds_nothing at) = at_end at
parts-lexed (holds_space at text bytes rest parts bad is gap plain more) = behind_gap at text bytes rest (tokens_of parts) bad is gap (parts-lexed more)
parts-lexed (holds_comment at text bytes rest comment parts bad is gap marked from to more) = behind_gap at text bytes rest (tokens_of parts) bad is gap (parts-lexed more)
parts-lexed (holds_token at text bytes rest token parts bad is starts from to more) = behind_token at text bytes rest token (tokens_of parts) bad is starts from to (parts-lexed more)
parts-lexed (holds_fault at text some no_gap no_token) = at_fault at text some no_gap no_token

pub record PartsFor (at : ℕ) (text : List ℕ) (tokens : List Token) (bad : Option ℕ) : Type 0 where
  pub parts : List Part
  pub holds : Holds at text parts bad
  pub tokens_are : tokens_of parts ≡ tokens

abbrev comment_of : ℕ → ℕ → Comment
comment_of from to = record { start = from; end = to }

pub lexed-parts : {at : ℕ} {text : List ℕ} {tokens : List Token} {bad : Option ℕ} → Lexes at text tokens bad → PartsFor at text tokens bad
lexed-parts (at_end at) = record { parts = []; holds = holds_nothing at; tokens_are = refl }
lexed-parts (behind_gap at text bytes rest tokens bad is gap more) = by (is_comment bytes) refl (lexed-parts more)
  where
    by : (b : Bool) → is_comment bytes ≡ b → PartsFor (at + length bytes) rest tokens bad → PartsFor at text tokens bad
    by false plain got = record {
      parts = got.parts;
      holds = holds_space at text bytes rest got.parts bad is gap plain got.holds;
      tokens_are = got.tokens_are;
    }
    by true marked got =
        let comment = comment_of at (at + length (without_returns bytes)) in
        record {
          parts = p.Comment comment ∷ got.parts;
          holds = holds_comment at text bytes rest comment got.parts bad is gap marked refl refl got.holds;
          tokens_are = got.tokens_are;
        }
lexed-parts (behind_token at text bytes rest token tokens bad is starts from to more) =
    let got = lexed-parts more in
    record {
      parts = p.Token token ∷ got.parts;
      holds = holds_token at text bytes rest token got.parts bad is starts from to got.holds;
      tokens_are = ap (λ l. token ∷ l) got.tokens_are;
    }
lexed-parts (at_fault at text some no_gap no_token) = record { parts = []; holds = holds_fault at text some no_gap no_token; tokens_are = refl }

-- ---- what follows from how a text begins

end-holds : (at : ℕ) (text : List ℕ) (parts : List Part) (bad : Option ℕ) → text ≡ [] → Holds at text parts bad → (parts ≡ []) × (bad ≡ None)
end-holds at text parts bad e (holds_nothing _) = (refl, refl)
end-holds at text parts bad e (holds_space _ _ bytes rest _ _ is gap plain more) = absurd (gap-some bytes rest gap (nothing-split bytes rest (sym e ∙ is)))
end-holds at text parts bad e (holds_comment _ _ bytes rest comment _ _ is gap marked from to more) = absurd (gap-some bytes rest gap (nothing-split bytes rest (sym e ∙ is)))
end-holds at text parts bad e (holds_token _ _ bytes rest token _ _ is starts from to more) = absurd (token-some token.kind bytes rest starts (nothing-split bytes rest (sym e ∙ is)))
end-holds at text parts bad e (holds_fault _ _ some no_gap no_token) = absurd (some e)

space-holds : (at : ℕ) (text bytes rest : List ℕ) (parts : List Part) (bad : Option ℕ) → text ≡ bytes ++ rest → IsGap bytes rest → is_comment bytes ≡ false → Holds at text parts bad
    → Holds (at + length bytes) rest parts bad
space-holds at text bytes rest parts bad e gap plain (holds_nothing _) = absurd (gap-some bytes rest gap (nothing-split bytes rest e))
space-holds at text bytes rest parts bad e gap plain (holds_space _ _ others behind _ _ is gap' plain' more) =
    let same = one-gap others behind bytes rest (sym is ∙ e) gap' gap in
    subst (λ l. Holds (at + length l) rest parts bad) same.0 (subst (λ l. Holds (at + length others) l parts bad) same.1 more)
space-holds at text bytes rest parts bad e gap plain (holds_comment _ _ others behind comment _ _ is gap' marked from to more) =
    let same = one-gap others behind bytes rest (sym is ∙ e) gap' gap in
    absurd (false≢true (sym plain ∙ ap is_comment (sym same.0) ∙ marked))
space-holds at text bytes rest parts bad e gap plain (holds_token _ _ others behind token _ _ is starts from to more) =
    absurd (gap-no_token token.kind text bytes rest others behind e is gap starts)
space-holds at text bytes rest parts bad e gap plain (holds_fault _ _ some no_gap no_token) = absurd (no_gap bytes rest e gap)

record CommentBegun (at : ℕ) (bytes rest : List ℕ) (parts : List Part) (bad : Option ℕ) : Type 0 where
  comment : Comment
  others : List Part
  is : parts ≡ p.Comment comment ∷ others
  from : comment.start ≡ at
  to : comment.end ≡ at + length (without_returns bytes)
  more : Holds (at + length bytes) rest others bad

comment-holds : (at : ℕ) (text bytes rest : List ℕ) (parts : List Part) (bad : Option ℕ) → text ≡ bytes ++ rest → IsGap bytes rest → is_comment bytes ≡ true → Holds at text parts bad
    → CommentBegun at bytes rest parts bad
comment-holds at text bytes rest parts bad e gap marked (holds_nothing _) = absurd (gap-some bytes rest gap (nothing-split bytes rest e))
comment-holds at text bytes rest parts bad e gap marked (holds_space _ _ others behind _ _ is gap' plain more) =
    let same = one-gap others behind bytes rest (sym is ∙ e) gap' gap in
    absurd (false≢true (sym plain ∙ ap is_comment same.0 ∙ marked))
comment-holds at text bytes rest parts bad e gap marked (holds_comment _ _ others behind comment parts' _ is gap' marked' from to more) =
    let same = one-gap others behind bytes rest (sym is ∙ e) gap' gap in
    record {
      comment = comment;
      others = parts';
      is = refl;
      from = from;
      to = to ∙ ap (λ l. at + length (without_returns l)) same.0;
      more = subst (λ l. Holds (at + length l) rest parts' bad) same.0 (subst (λ l. Holds (at + length others) l parts' bad) same.1 more);
    }
comment-holds at text bytes rest parts bad e gap marked (holds_token _ _ others behind token _ _ is starts from to more) =
    absurd (gap-no_token token.kind text bytes rest others behind e is gap starts)
comment-holds at text bytes rest parts bad e gap marked (holds_fault _ _ some no_gap no_token) = absurd (no_gap bytes rest e gap)

record TokenBegun (at : ℕ) (kind : TokenKind) (bytes rest : List ℕ) (parts : List Part) (bad : Option ℕ) : Type 0 where
  token : Token
  others : List Part
  is : parts ≡ p.Token token ∷ others
  same : token.kind ≡ kind
  from : token.start ≡ at
  to : token.end ≡ at + length bytes
  more : Holds (at + length bytes) rest others bad

token-holds : (at : ℕ) (text bytes rest : List ℕ) (kind : TokenKind) (parts : List Part) (bad : Option ℕ) → text ≡ bytes ++ rest → IsToken kind bytes rest → Holds at text parts bad
    → TokenBegun at kind bytes rest parts bad
token-holds at text bytes rest kind parts bad e starts (holds_nothing _) = absurd (token-some kind bytes rest starts (nothing-split bytes rest e))
token-holds at text bytes rest kind parts bad e starts (holds_space _ _ others behind _ _ is gap plain more) =
    absurd (gap-no_token kind text others behind bytes rest is e gap starts)
token-holds at text bytes rest kind parts bad e starts (holds_comment _ _ others behind comment _ _ is gap marked from to more) =
    absurd (gap-no_token kind text others behind bytes rest is e gap starts)
token-holds at text bytes rest kind parts bad e starts (holds_token _ _ others behind token parts' _ is starts' from to more) =
    let same = one-token token.kind kind others behind bytes rest (sym is ∙ e) starts' starts in
    record {
      token = token;
      others = parts';
      is = refl;
      same = same.0;
      from = from;
      to = to ∙ ap (λ l. at + length l) same.1;
      more = subst (λ l. Holds (at + length l) rest parts' bad) same.1 (subst (λ l. Holds (at + length others) l parts' bad) same.2 more);
    }
token-holds at text bytes rest kind parts bad e starts (holds_fault _ _ some no_gap no_token) = absurd (no_token kind bytes rest e starts)

fault-holds : (at : ℕ) (text : List ℕ) (parts : List Part) (bad : Option ℕ) → text ≢ [] → NoGap text → NoToken text → Holds at text parts bad
    → (parts ≡ []) × (bad ≡ Some at)
fault-holds at text parts bad some no_gap no_token (holds_nothing _) = absurd (some refl)
fault-holds at text parts bad some no_gap no_token (holds_space _ _ bytes rest _ _ is gap plain more) = absurd (no_gap bytes rest is gap)
fault-holds at text parts bad some no_gap no_token (holds_comment _ _ bytes rest comment _ _ is gap marked from to more) = absurd (no_gap bytes rest is gap)
fault-holds at text parts bad some no_gap no_token (holds_token _ _ bytes rest token _ _ is starts from to more) = absurd (no_token token.kind bytes rest is starts)
fault-holds at text parts bad some no_gap no_token (holds_fault _ _ some' no_gap' no_token') = (refl, refl)

same-comment : (a b : Comment) → a.start ≡ b.start → a.end ≡ b.end → a ≡ b
same-comment a b e f = ap (λ (from : ℕ). comment_of from a.end) e ∙ ap (λ (to : ℕ). comment_of b.start to) f

-- two answers for one text are equal
holds-once : {at : ℕ} {text : List ℕ} {parts : List Part} {bad : Option ℕ} (others : List Part) (worse : Option ℕ) → Holds at text parts bad → Holds at text others worse
    → (parts ≡ others) × (bad ≡ worse)
holds-once others worse (holds_nothing at) h =
    let ends = end-holds at [] others worse refl h in
    (sym ends.0, sym ends.1)
holds-once others worse (holds_space at text bytes rest parts bad is gap plain more) h = holds-once others worse more (space-holds at text bytes rest others worse is gap plain h)
holds-once others worse (holds_comment at text bytes rest comment parts bad is gap marked from to more) h =
    let begun = comment-holds at text bytes rest others worse is gap marked h in
    let left = holds-once begun.others worse more begun.more in
    let first : comment ≡ begun.comment = same-comment comment begun.comment (from ∙ sym begun.from) (to ∙ sym begun.to) in
    (ap (λ c. p.Comment c ∷ parts) first ∙ ap (λ l. p.Comment begun.comment ∷ l) left.0 ∙ sym begun.is, left.1)
holds-once others worse (holds_token at text bytes rest token parts bad is starts from to more) h =
    let begun = token-holds at text bytes rest token.kind others worse is starts h in
    let left = holds-once begun.others worse more begun.more in
    let first : token ≡ begun.token = same-token token begun.token (sym begun.same) (from ∙ sym begun.from) (to ∙ sym begun.to) in
    (ap (λ t. p.Token t ∷ parts) first ∙ ap (λ l. p.Token begun.token ∷ l) left.0 ∙ sym begun.is, left.1)
holds-once others worse (holds_fault at text some no_gap no_token) h =
    let ends = fault-holds at text others worse some no_gap no_token h in
    (sym ends.0, sym ends.1)

pub parts-once : (text : List ℕ) (parts others : List Part) (bad worse : Option ℕ) → HasParts text parts bad → HasParts text others worse → (parts ≡ others) × (bad ≡ worse)
parts-once text parts others bad worse g h = holds-once others worse g h

pub comments-once : (text : List ℕ) (comments others : List Comment) (bad worse : Option ℕ) → HasComments text comments bad → HasComments text others worse → (comments ≡ others) × (bad ≡ worse)
comments-once text comments others bad worse g h =
    let same = parts-once text g.0 h.0 bad worse g.1 h.1 in
    (g.2 ∙ ap comments_of same.0 ∙ sym h.2, same.1)

-- ---- how a text is read, part by part

-- what was read is the front of the parts
abbrev pub GoesOn : List ℕ → List ℕ → ℕ → List Part → Type 0
GoesOn text rest at parts = (others : List Part) (bad : Option ℕ) → Holds at rest others bad → HasParts text (parts ++ others) bad

-- the start
pub starts-there : (text rest : List ℕ) (at : ℕ) (parts : List Part) → at ≡ mark_len text → rest ≡ drop at text → parts ≡ [] → GoesOn text rest at parts
starts-there text rest at parts is left none others bad h =
    subst (λ l. HasParts text (l ++ others) bad) (sym none) (subst (λ n. Holds n (drop n text) others bad) is (subst (λ l. Holds at l others bad) left h))

-- white space more
pub space-goes_on : (text rest : List ℕ) (at size : ℕ) (parts : List Part) → IsSpaceOf rest size → GoesOn text rest at parts → GoesOn text (drop size rest) (at + size) parts
space-goes_on text rest at size parts of goes_on others bad more =
    let is : length (take size rest) ≡ size = length-take-le size rest of.gap.within in
    goes_on others bad (holds_space at rest (take size rest) (drop size rest) others bad (sym (take-append-drop size rest)) of.gap.gap of.plain
    (subst (λ n. Holds (at + n) (drop size rest) others bad) (sym is) more))

pub gap-shrinks : (rest : List ℕ) (size : ℕ) → IsGapOf rest size → 0 < size
gap-shrinks rest size of = by (take size rest) (gap-some (take size rest) (drop size rest) of.gap) (length-take-le size rest of.within)
  where
    by : (bytes : List ℕ) → bytes ≢ [] → length bytes ≡ size → 0 < size
    by [] some is = absurd (some refl)
    by (byte ∷ bytes) some is = omega arith

-- one part more
one-part : (text : List ℕ) (parts : List Part) (part : Part) (others : List Part) (bad : Option ℕ) → HasParts text (parts ++ part ∷ others) bad → HasParts text ((parts ++ part ∷ []) ++ others) bad
one-part text parts part others bad h = subst (λ l. HasParts text l bad) (sym (append_assoc parts (part ∷ []) others)) h

pub comment-goes_on : (text rest : List ℕ) (at size content : ℕ) (parts : List Part) → IsCommentOf rest size content → GoesOn text rest at parts
    → GoesOn text (drop size rest) (at + size) (parts ++ p.Comment (record { start = at; end = at + content }) ∷ [])
comment-goes_on text rest at size content parts of goes_on others bad more =
    let is : length (take size rest) ≡ size = length-take-le size rest of.gap.within in
    let comment = comment_of at (at + content) in
    one-part text parts (p.Comment comment) others bad
    (goes_on (p.Comment comment ∷ others) bad (holds_comment at rest (take size rest) (drop size rest) comment others bad (sym (take-append-drop size rest)) of.gap.gap of.marked refl
    (ap (λ n. at + n) of.kept) (subst (λ n. Holds (at + n) (drop size rest) others bad) (sym is) more)))

pub token-goes_on : (text rest : List ℕ) (at : ℕ) (found : Found) (parts : List Part) → IsTokenOf rest found → GoesOn text rest at parts
    → GoesOn text (drop found.size rest) (at + found.size) (parts ++ p.Token (record { kind = found.kind; start = at; end = at + found.size }) ∷ [])
token-goes_on text rest at found parts of goes_on others bad more =
    let size = found.size in
    let is : length (take size rest) ≡ size = length-take-le size rest of.within in
    let token = token_of found.kind at (at + size) in
    one-part text parts (p.Token token) others bad
    (goes_on (p.Token token ∷ others) bad (holds_token at rest (take size rest) (drop size rest) token others bad (sym (take-append-drop size rest)) of.token refl (ap (λ n. at + n) (sym is))
    (subst (λ n. Holds (at + n) (drop size rest) others bad) (sym is) more)))

pub token-shrinks : (rest : List ℕ) (found : Found) → IsTokenOf rest found → 0 < found.size
token-shrinks rest found of =
    let some = spelled-some found.kind (take found.size rest) of.token.spelled in
    omega (arith, some, length-take-le found.size rest of.within)

-- the two ends
pub ends-there : (text rest : List ℕ) (at : ℕ) (parts : List Part) → length rest ≡ 0 → GoesOn text rest at parts → HasParts text parts None
ends-there text [] at parts e goes_on = subst (λ l. HasParts text l None) (append-nil parts) (goes_on [] None (holds_nothing at))
ends-there text (byte ∷ rest) at parts e goes_on = absurd (omega arith)

pub faults-there : (text rest : List ℕ) (at : ℕ) (parts : List Part) → 0 < length rest → NoGap rest → NoToken rest → GoesOn text rest at parts → HasParts text parts (Some at)
faults-there text rest at parts some no_gap no_token goes_on =
    subst (λ l. HasParts text l (Some at)) (append-nil parts) (goes_on [] (Some at) (holds_fault at rest (λ e. omega (arith, some, ap length e)) no_gap no_token))

-- ---- those of one sort

-- the part at a place of the list
part-here : (parts : List Part) (i : ℕ) (part : Part) → i < length parts → part ≡ get_or parts i part → drop i parts ≡ part ∷ drop (i + 1) parts
part-here parts i part lt is = drop-cons parts i part lt ∙ ap (λ q. q ∷ drop (suc i) parts) (sym is) ∙ ap (λ n. part ∷ drop n parts) (sym (add-one i))

pub comment-taken : (parts : List Part) (i : ℕ) (part : Part) (comment : Comment) (items : List Comment) → i < length parts → part ≡ get_or parts i part → part ≡ p.Comment comment
    → items ++ comments_of (drop i parts) ≡ comments_of parts → (items ++ comment ∷ []) ++ comments_of (drop (i + 1) parts) ≡ comments_of parts
comment-taken parts i part comment items lt is same so_far =
    append_assoc items (comment ∷ []) (comments_of (drop (i + 1) parts))
    ∙ ap (λ l. items ++ l) (sym (ap comments_of (part-here parts i part lt is) ∙ ap (λ q. comments_of (q ∷ drop (i + 1) parts)) same)) ∙ so_far

pub token-passed : (parts : List Part) (i : ℕ) (part : Part) (token : Token) (items : List Comment) → i < length parts → part ≡ get_or parts i part → part ≡ p.Token token
    → items ++ comments_of (drop i parts) ≡ comments_of parts → items ++ comments_of (drop (i + 1) parts) ≡ comments_of parts
token-passed parts i part token items lt is same so_far =
    ap (λ l. items ++ l) (sym (ap comments_of (part-here parts i part lt is) ∙ ap (λ q. comments_of (q ∷ drop (i + 1) parts)) same)) ∙ so_far

pub all-taken : (parts : List Part) (i : ℕ) (items : List Comment) → length parts ≤ i → items ++ comments_of (drop i parts) ≡ comments_of parts → items ≡ comments_of parts
all-taken parts i items past so_far = sym (append-nil items) ∙ ap (λ l. items ++ comments_of l) (sym (drop-all parts i past)) ∙ so_far
  where
    drop-all : (parts : List Part) (i : ℕ) → length parts ≤ i → drop i parts ≡ []
    drop-all [] zero past = refl
    drop-all [] (suc i) past = refl
    drop-all (part ∷ parts) zero past = absurd (omega arith)
    drop-all (part ∷ parts) (suc i) past = drop-all parts i (omega arith)

pub none-left : (parts : List Part) → length parts ≡ 0 → parts ≡ []
none-left [] e = refl
none-left (part ∷ parts) e = absurd (omega arith)
