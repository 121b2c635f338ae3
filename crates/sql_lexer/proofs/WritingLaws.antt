-- Written tokens are read back.
use Rattle.std.proofs.Common.{◌≡◌, ◌≤◌, ◌<◌, ◌+◌, ◌∷◌, ◌++◌, ◌∙◌, ◌==◌, ◌||◌, ◌⊎◌, [], ℕ, List, Bool, None, true, false, not, chars, length, append_assoc, append-nil, length-append, sym, ap, subst, refl, arith, inl, inr, eq-eqb}
use Rattle.std.specs.Char.{is_ascii_digit}
use Rattle.std.specs.List.{list_all}
use Rattle.std.proofs.lemmas.Bool.{and_parts, cases_Bool, false≢true, and_right, or_from, or_parts}
use Rattle.std.proofs.lemmas.Bool.Decides.{nat_tests}
use Rattle.std.proofs.lemmas.Str.{encodes-IsAscii}
use Rattle.sql_lexer.specs.Lexed.{IsLexed, IsToken, Lexes, at_end, behind_token, is_white_space, kinds_of}
use Rattle.sql_lexer.specs.Spelling.{IsFormed, doubled, quoted, size, spelled, spelling}
use Rattle.vtl_lists.specs.Runs.{begins_with}
use Rattle.sql_lexer.specs.Writing.{IsApart, IsGap, Written, goes_on, is_keyword_character, last_goes_on, more, nothing}
use Rattle.sql_lexer.specs.declared.token.Token.{Token}
use Rattle.sql_lexer.specs.declared.token.TokenKind.{TokenKind}
use Rattle.sql_lexer.specs.declared.token.TokenKind.TheVariants as k
use Rattle.sql_lexer.specs.declared.token.Word.{Word}
use Rattle.sql_lexer.specs.declared.token.Word.TheVariants as w
use Rattle.sql_lexer.proofs.FrontParts.{spelled-some, word-token}
use Rattle.sql_lexer.proofs.Leads.{lead_kind, spelled-lead, starts-lead}
use Rattle.sql_lexer.proofs.LexedParts.{spaces, token_of}
use Rattle.sql_lexer.proofs.NameParts.{size-append}
use Rattle.sql_lexer.proofs.NumberParts.{dec-token, int-token}
use Rattle.sql_lexer.proofs.Quoting.{doubled-other, doubled-same}
use Rattle.sql_lexer.proofs.RunParts.{white-ascii}
use Rattle.sql_lexer.proofs.Table.{told}
use Rattle.sql_lexer.proofs.Texts.{all-ascii}

-- ---- a token that nothing goes on is the longest

word-alone : (word : Word) (rest : List ℕ) → begins_with (goes_on (k.Word word)) rest ≡ false → IsToken (spelling word ++ rest) (k.Word word) rest
word-alone word rest quiet = word-token (spelling word ++ rest) word rest refl (λ longer behind e. by longer rest behind quiet e (split (length (spelling longer)) (length (spelling word))))
  where
    split : (m n : ℕ) → (m ≤ n) ⊎ (n < m)
    split m n = grind arith

    by : (longer : Word) (rest behind : List ℕ) → begins_with (goes_on (k.Word word)) rest ≡ false → spelling word ++ rest ≡ spelling longer ++ behind
        → (length (spelling longer) ≤ length (spelling word)) ⊎ (length (spelling word) < length (spelling longer)) → length rest ≤ length behind
    by longer rest behind quiet e (inl le) = omega (arith, le, ap length e, length-append (spelling word) rest, length-append (spelling longer) behind)
    by longer [] behind quiet e (inr lt) = omega arith
    by longer (c ∷ rest) behind quiet e (inr lt) = absurd (false≢true (sym quiet ∙ told word longer c rest behind lt e))

-- the first closing quote that is not doubled ends a content
closes-first : (mark : ℕ) (xs r ys s : List ℕ) → doubled mark xs ++ mark ∷ r ≡ doubled mark ys ++ mark ∷ s → begins_with (λ c. c == mark) r ≡ false → length r ≤ length s
closes-first mark [] r [] s e quiet = let tails : r ≡ s = cc e in omega (arith, ap length tails)
closes-first mark (x ∷ xs) r [] s e quiet = omega (arith, ap length e, length-append (doubled mark (x ∷ xs)) (mark ∷ r))
closes-first mark [] r (y ∷ ys) s e quiet = elim (cases_Bool (y == mark)) [
  | inl same ↦
      let whole = e ∙ ap (λ l. l ++ mark ∷ s) (doubled-same mark y ys same) in
      let tails : r ≡ y ∷ (doubled mark ys ++ mark ∷ s) = cc whole in
      absurd (false≢true (sym quiet ∙ ap (begins_with (λ c. c == mark)) tails ∙ same))
  | inr apart ↦
      let whole = e ∙ ap (λ l. l ++ mark ∷ s) (doubled-other mark y ys apart) in
      let heads : y ≡ mark = cc whole in
      absurd (false≢true (sym apart ∙ eq-eqb y mark heads))
]
closes-first mark (x ∷ xs) r (y ∷ ys) s e quiet = by (cases_Bool (x == mark)) (cases_Bool (y == mark)) (λ tails. closes-first mark xs r ys s tails quiet)
  where
    by : ((x == mark) ≡ true) ⊎ ((x == mark) ≡ false) → ((y == mark) ≡ true) ⊎ ((y == mark) ≡ false) → (doubled mark xs ++ mark ∷ r ≡ doubled mark ys ++ mark ∷ s → length r ≤ length s) → length r ≤ length s
    by (inl p) (inl q) tail = let whole = ap (λ l. l ++ mark ∷ r) (sym (doubled-same mark x xs p)) ∙ e ∙ ap (λ l. l ++ mark ∷ s) (doubled-same mark y ys q) in tail (cc whole)
    by (inr p) (inr q) tail = let whole = ap (λ l. l ++ mark ∷ r) (sym (doubled-other mark x xs p)) ∙ e ∙ ap (λ l. l ++ mark ∷ s) (doubled-other mark y ys q) in tail (cc whole)
    by (inl p) (inr q) tail =
        let whole = ap (λ l. l ++ mark ∷ r) (sym (doubled-same mark x xs p)) ∙ e ∙ ap (λ l. l ++ mark ∷ s) (doubled-other mark y ys q) in
        let heads : y ≡ x = cc whole in
        absurd (false≢true (sym q ∙ ap (λ c. c == mark) heads ∙ p))
    by (inr p) (inl q) tail =
        let whole = ap (λ l. l ++ mark ∷ r) (sym (doubled-other mark x xs p)) ∙ e ∙ ap (λ l. l ++ mark ∷ s) (doubled-same mark y ys q) in
        let heads : x ≡ y = cc whole in
        absurd (false≢true (sym p ∙ ap (λ c. c == mark) heads ∙ q))

quoted-longest : (mark : ℕ) (xs r ys s : List ℕ) → quoted mark xs ++ r ≡ quoted mark ys ++ s → begins_with (λ c. c == mark) r ≡ false → length r ≤ length s
quoted-longest mark xs r ys s e quiet =
    let tails : (doubled mark xs ++ mark ∷ []) ++ r ≡ (doubled mark ys ++ mark ∷ []) ++ s = cc e in
    closes-first mark xs r ys s (sym (append_assoc (doubled mark xs) (mark ∷ []) r) ∙ tails ∙ append_assoc (doubled mark ys) (mark ∷ []) s) quiet

quoted-alone : (kind : TokenKind) (rest : List ℕ) → IsFormed kind → ((other : TokenKind) (behind : List ℕ) → lead_kind kind ≡ lead_kind other → spelled kind ++ rest ≡ spelled other ++ behind → length rest ≤ length behind)
    → IsToken (spelled kind ++ rest) kind rest
quoted-alone kind rest formed longest = record {
  starts = record { formed = formed; split = refl };
  longest = λ other behind starts. longest other behind (sym (spelled-lead kind rest formed) ∙ starts-lead (spelled kind ++ rest) other behind starts) starts.split;
}

name-longest : (name rest : List ℕ) → begins_with (λ c. c == 34) rest ≡ false → (other : TokenKind) (behind : List ℕ) → lead_kind (k.Name name) ≡ lead_kind other → quoted 34 name ++ rest ≡ spelled other ++ behind → length rest ≤ length behind
name-longest name rest quiet (k.Name v) behind lead e = quoted-longest 34 name rest v behind e quiet
name-longest name rest quiet other behind lead e = absurd (cc lead)

text-longest : (text rest : List ℕ) → begins_with (λ c. c == 39) rest ≡ false → (other : TokenKind) (behind : List ℕ) → lead_kind (k.Text text) ≡ lead_kind other → quoted 39 text ++ rest ≡ spelled other ++ behind → length rest ≤ length behind
text-longest text rest quiet (k.Text v) behind lead e = quoted-longest 39 text rest v behind e quiet
text-longest text rest quiet other behind lead e = absurd (cc lead)

no-digit : (rest : List ℕ) → begins_with (λ c. is_ascii_digit c || c == 46) rest ≡ false → begins_with is_ascii_digit rest ≡ false
no-digit [] quiet = refl
no-digit (c ∷ rest) quiet = (or_parts (is_ascii_digit c) (c == 46) quiet).0

no-dot : (rest left : List ℕ) → begins_with (λ c. is_ascii_digit c || c == 46) rest ≡ false → rest ≡ 46 ∷ left → ⊥
no-dot [] left quiet e = cc e
no-dot (c ∷ rest) left quiet e = let heads : c ≡ 46 = cc e in false≢true (sym (or_parts (is_ascii_digit c) (c == 46) quiet).1 ∙ eq-eqb c 46 heads)

alone : (kind : TokenKind) (rest : List ℕ) → IsFormed kind → begins_with (goes_on kind) rest ≡ false → IsToken (spelled kind ++ rest) kind rest
alone (k.Word word) rest formed quiet = word-alone word rest quiet
alone (k.Name name) rest formed quiet = quoted-alone (k.Name name) rest formed (name-longest name rest quiet)
alone (k.Text text) rest formed quiet = quoted-alone (k.Text text) rest formed (text-longest text rest quiet)
alone (k.Int digits) rest formed quiet = int-token (digits ++ rest) digits rest refl formed.0 formed.1 (no-digit rest quiet) (λ part behind some e. no-dot rest (part ++ behind) quiet e)
alone (k.Dec number) rest formed quiet =
    let tail = 46 ∷ formed.part ++ rest in
    let token = dec-token (formed.whole ++ tail) formed.whole tail refl formed.before.0 formed.before.1 refl formed.part rest refl formed.behind quiet in
    let text : formed.whole ++ tail ≡ number ++ rest = sym (append_assoc formed.whole (46 ∷ formed.part) rest) ∙ ap (λ l. l ++ rest) (sym formed.is) in
    subst (λ l. IsToken (number ++ rest) (k.Dec l) rest) (sym formed.is) (subst (λ l. IsToken l (k.Dec (formed.whole ++ 46 ∷ formed.part)) rest) text token)

-- ---- what stands apart

pub last-is : (kinds : List TokenKind) (kind : TokenKind) (c : ℕ) → last_goes_on (kinds ++ kind ∷ []) c ≡ goes_on kind c
last-is [] kind c = refl
last-is (first ∷ []) kind c = refl
last-is (first ∷ next ∷ kinds) kind c = last-is (next ∷ kinds) kind c

-- a character behind a token that it does not go on
pub apart-here : (kinds : List TokenKind) (kind : TokenKind) (c : ℕ) (text : List ℕ) → goes_on kind c ≡ false → IsApart (kinds ++ kind ∷ []) (c ∷ text)
apart-here kinds kind c text quiet = last-is kinds kind c ∙ quiet

-- any text behind a token that nothing goes on, as `(` or `.`
pub apart-last : (kinds : List TokenKind) (kind : TokenKind) (text : List ℕ) → ((c : ℕ) → goes_on kind c ≡ false) → IsApart (kinds ++ kind ∷ []) text
apart-last kinds kind [] quiet = refl
apart-last kinds kind (c ∷ text) quiet = apart-here kinds kind c text (quiet c)

-- a character that goes on no token, as a space, `(`, `)`, `,` and `;`
abbrev pub is_quiet : ℕ → Bool
is_quiet c = not (is_keyword_character c || (c == 61 || (c == 62 || (c == 34 || (c == 39 || (is_ascii_digit c || c == 46))))))

record Quiet (c : ℕ) : Type 0 where
  keyword : is_keyword_character c ≡ false
  equal : (c == 61) ≡ false
  greater : (c == 62) ≡ false
  name : (c == 34) ≡ false
  text : (c == 39) ≡ false
  number : (is_ascii_digit c || c == 46) ≡ false
  digit : is_ascii_digit c ≡ false

quiet-parts : (c : ℕ) → is_quiet c ≡ true → Quiet c
quiet-parts c e =
    let a = or_parts (is_keyword_character c) _ (not-true _ e) in
    let b = or_parts (c == 61) _ a.1 in
    let d = or_parts (c == 62) _ b.1 in
    let f = or_parts (c == 34) _ d.1 in
    let g = or_parts (c == 39) (is_ascii_digit c || c == 46) f.1 in
    record { keyword = a.0; equal = b.0; greater = d.0; name = f.0; text = g.0; number = g.1; digit = (or_parts (is_ascii_digit c) (c == 46) g.1).0 }
  where
    not-true : (b : Bool) → not b ≡ true → b ≡ false
    not-true true h = absurd (false≢true h)
    not-true false h = refl

word-quiet : (word : Word) (c : ℕ) → Quiet c → goes_on (k.Word word) c ≡ false
word-quiet w.Less c q = or_from (c == 61) (c == 62) q.equal q.greater
word-quiet w.Greater c q = q.equal
word-quiet word c q = and_right (begins_with is_keyword_character (spelling word)) (is_keyword_character c) q.keyword

kind-quiet : (kind : TokenKind) (c : ℕ) → Quiet c → goes_on kind c ≡ false
kind-quiet (k.Word word) c q = word-quiet word c q
kind-quiet (k.Name name) c q = q.name
kind-quiet (k.Text text) c q = q.text
kind-quiet (k.Int digits) c q = q.number
kind-quiet (k.Dec number) c q = q.digit

last-quiet : (kinds : List TokenKind) (c : ℕ) → Quiet c → last_goes_on kinds c ≡ false
last-quiet [] c q = refl
last-quiet (kind ∷ []) c q = kind-quiet kind c q
last-quiet (kind ∷ next ∷ kinds) c q = last-quiet (next ∷ kinds) c q

pub apart-quiet : (kinds : List TokenKind) (c : ℕ) (text : List ℕ) → is_quiet c ≡ true → IsApart kinds (c ∷ text)
apart-quiet kinds c text quiet = last-quiet kinds c (quiet-parts c quiet)

-- a gap
pub apart-gap : (kinds : List TokenKind) (gap text : List ℕ) → IsGap gap → 0 < length gap → IsApart kinds (gap ++ text)
apart-gap kinds [] text white some = absurd (omega arith)
apart-gap kinds (c ∷ gap) text white some = apart-quiet kinds c (gap ++ text) (by c (and_parts (is_white_space c) (list_all is_white_space gap) white).0)
  where
    by : (c : ℕ) → is_white_space c ≡ true → is_quiet c ≡ true
    by c e = grind (arith, nat_tests, e)

-- ---- reading back

begins-append : (test : ℕ → Bool) (xs ys : List ℕ) → 0 < length xs → begins_with test (xs ++ ys) ≡ begins_with test xs
begins-append test [] ys some = absurd (omega arith)
begins-append test (x ∷ xs) ys some = refl

record Reads (at : ℕ) (text : List ℕ) (kinds : List TokenKind) : Type 0 where
  tokens : List Token
  lexes : Lexes at text tokens None
  kinds_are : kinds_of tokens ≡ kinds

gap-size : (gap : List ℕ) → IsGap gap → size gap ≡ length gap
gap-size gap white = ap length (encodes-IsAscii gap (all-ascii is_white_space gap white-ascii white))

-- one more token
one-more : (at : ℕ) (gap : List ℕ) (kind : TokenKind) (rest : List ℕ) (kinds : List TokenKind) → IsFormed kind → IsGap gap → begins_with (goes_on kind) rest ≡ false
    → Reads (at + size (gap ++ spelled kind)) rest kinds → Reads at ((gap ++ spelled kind) ++ rest) (kind ∷ kinds)
one-more at gap kind rest kinds formed white quiet reads =
    let start = at + length gap in
    let token = token_of kind start (start + size (spelled kind)) in
    let ends : at + size (gap ++ spelled kind) ≡ token.end = omega (arith, size-append gap (spelled kind), gap-size gap white) in
    let more = behind_token start (spelled kind ++ rest) rest token reads.tokens None (alone kind rest formed quiet) refl refl (subst (λ n. Lexes n rest reads.tokens None) ends reads.lexes) in
    record {
      tokens = token ∷ reads.tokens;
      lexes = subst (λ l. Lexes at l (token ∷ reads.tokens) None) (sym (append_assoc gap (spelled kind) rest)) (spaces at gap (spelled kind ++ rest) (token ∷ reads.tokens) None white more);
      kinds_are = ap (λ l. kind ∷ l) reads.kinds_are;
    }

reads-on : {kinds : List TokenKind} {text : List ℕ} (at : ℕ) (rest : List ℕ) (left : List TokenKind) → Written kinds text → begins_with (last_goes_on kinds) rest ≡ false → Reads (at + size text) rest left
    → Reads at (text ++ rest) (kinds ++ left)
reads-on at rest left nothing quiet reads = subst (λ n. Reads n rest left) (omega arith) reads
reads-on at rest left (more kinds kind text gap all out written formed white apart all_is out_is) quiet reads =
    let tail = gap ++ spelled kind in
    let here : begins_with (goes_on kind) rest ≡ false = by rest (subst (λ l. begins_with (last_goes_on l) rest ≡ false) all_is quiet) in
    let sizes : at + size out ≡ (at + size text) + size tail = omega (arith, ap size out_is, size-append text tail) in
    let one = one-more (at + size text) gap kind rest left formed white here (subst (λ n. Reads n rest left) sizes reads) in
    let some : 0 < length tail = omega (arith, length-append gap (spelled kind), spelled-some kind formed) in
    let quiet' : begins_with (last_goes_on kinds) (tail ++ rest) ≡ false = begins-append (last_goes_on kinds) tail rest some ∙ apart in
    let whole = reads-on at (tail ++ rest) (kind ∷ left) written quiet' one in
    let text_is : text ++ (tail ++ rest) ≡ out ++ rest = sym (append_assoc text tail rest) ∙ ap (λ l. l ++ rest) (sym out_is) in
    let kinds_is : kinds ++ (kind ∷ left) ≡ all ++ left = sym (append_assoc kinds (kind ∷ []) left) ∙ ap (λ l. l ++ left) (sym all_is) in
    subst (λ l. Reads at l (all ++ left)) text_is (subst (λ (l : List TokenKind). Reads at (text ++ (tail ++ rest)) l) kinds_is whole)
  where
    by : (rest : List ℕ) → begins_with (last_goes_on (kinds ++ kind ∷ [])) rest ≡ false → begins_with (goes_on kind) rest ≡ false
    by [] quiet = refl
    by (c ∷ rest) quiet = sym (last-is kinds kind c) ∙ quiet

gap-reads : (at : ℕ) (gap : List ℕ) → IsGap gap → Reads at gap []
gap-reads at gap white = record {
  tokens = [];
  lexes = subst (λ l. Lexes at l [] None) (append-nil gap) (spaces at gap [] [] None white (at_end (at + length gap)));
  kinds_are = refl;
}

gap-quiet : (kinds : List TokenKind) (gap : List ℕ) → IsGap gap → begins_with (last_goes_on kinds) gap ≡ false
gap-quiet kinds [] white = refl
gap-quiet kinds (c ∷ gap) white = subst (λ l. begins_with (last_goes_on kinds) l ≡ false) (append-nil (c ∷ gap)) (apart-gap kinds (c ∷ gap) [] white (omega arith))

pub written-lexed : (bytes : List ℕ) (kinds : List TokenKind) (text gap : List ℕ) → Written kinds text → IsGap gap → chars bytes ≡ text ++ gap → (tokens : List Token) × IsLexed bytes tokens None × (kinds_of tokens ≡ kinds)
written-lexed bytes kinds text gap written white e =
    let reads = reads-on 0 gap [] written (gap-quiet kinds gap white) (gap-reads (0 + size text) gap white) in
    (reads.tokens, subst (λ l. Lexes 0 l reads.tokens None) (sym e) reads.lexes, reads.kinds_are ∙ append-nil kinds)
