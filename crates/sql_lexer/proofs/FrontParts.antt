-- The token at the front of a text.
use Rattle.std.proofs.Common.{◌≡◌, ◌≤◌, ◌<◌, ◌∷◌, ◌++◌, ◌∙◌, ◌==◌, [], ℕ, List, true, false, length, sym, ap, refl, if◌then◌else◌, arith, inl, inr, append_assoc, length-append}
use Rattle.std.specs.Char.{is_ascii_digit}
use Rattle.std.specs.List.{list_all}
use Rattle.std.proofs.lemmas.Bool.{and_parts, cases_Bool, false≢true}
use Rattle.std.proofs.lemmas.Bool.Decides.{nat_tests}
use Rattle.std.proofs.lemmas.List.{append_cancel_right}
use Rattle.std.proofs.lemmas.List.Folds.{list_all-append}
use Rattle.sql_lexer.specs.Lexed.{IsToken, NoToken, Starts, is_white_space}
use Rattle.sql_lexer.specs.Spelling.{IsDecimal, IsDigits, IsFormed, doubled, quoted, spelled, spelling}
use Rattle.vtl_lists.specs.Runs.{begins_with}
use Rattle.sql_lexer.specs.declared.token.TokenKind.{TokenKind}
use Rattle.sql_lexer.specs.declared.token.TokenKind.TheVariants as k
use Rattle.sql_lexer.specs.declared.token.Word.{Word}
use Rattle.sql_lexer.specs.declared.token.Word.TheVariants as w
use Rattle.sql_lexer.proofs.Leads.{apostrophe, digit, lead_kind, lead_of, nothing, other, quote, spelled-lead, starts-lead}
use Rattle.sql_lexer.proofs.Quoting.{doubled-other, doubled-same}
use Rattle.vtl_lists.proofs.Runs.{front-same}
use Rattle.sql_lexer.proofs.Table.{one-word}

digits-first : (cs rest : List ℕ) → IsDigits cs → begins_with is_ascii_digit (cs ++ rest) ≡ true
digits-first [] rest d = absurd (omega (arith, d.0))
digits-first (c ∷ cs) rest d = (and_parts (is_ascii_digit c) (list_all is_ascii_digit cs) d.1).0

-- ---- a word

pub word-token : (text : List ℕ) (word : Word) (rest : List ℕ) → text ≡ spelling word ++ rest → ((another : Word) (behind : List ℕ) → text ≡ spelling another ++ behind → length rest ≤ length behind)
    → IsToken text (k.Word word) rest
word-token text word rest e longest = record {
  starts = there;
  longest = λ kind behind starts. by kind behind (sym (starts-lead text (k.Word word) rest there) ∙ starts-lead text kind behind starts) starts.split;
}
  where
    there : Starts text (k.Word word) rest
    there = record { formed = tt; split = e }

    by : (kind : TokenKind) (behind : List ℕ) → lead_kind (k.Word word) ≡ lead_kind kind → text ≡ spelled kind ++ behind → length rest ≤ length behind
    by (k.Word another) behind lead f = longest another behind f
    by kind behind lead f = absurd (cc lead)

pub no-token : (text : List ℕ) → ((rest : List ℕ) → text ≡ 34 ∷ rest → ⊥) → ((rest : List ℕ) → text ≡ 39 ∷ rest → ⊥) → begins_with is_ascii_digit text ≡ false
    → ((word : Word) (rest : List ℕ) → text ≡ spelling word ++ rest → ⊥) → NoToken text
no-token text name literal digits word kind rest starts = by kind starts.formed starts.split
  where
    by : (kind : TokenKind) → IsFormed kind → text ≡ spelled kind ++ rest → ⊥
    by (k.Word v) formed e = word v rest e
    by (k.Name v) formed e = name _ e
    by (k.Text v) formed e = literal _ e
    by (k.Int v) formed e = false≢true (sym digits ∙ ap (begins_with is_ascii_digit) e ∙ digits-first v rest formed)
    by (k.Dec v) formed e =
        false≢true (sym digits ∙ ap (begins_with is_ascii_digit) (e ∙ ap (λ l. l ++ rest) formed.is ∙ append_assoc formed.whole (46 ∷ formed.part) rest) ∙ digits-first formed.whole (46 ∷ formed.part ++ rest) formed.before)

-- ---- a token is no white space, and not empty

word-dark : (word : Word) (rest : List ℕ) → begins_with is_white_space (spelling word ++ rest) ≡ false
word-dark w.NotEqual rest = refl
word-dark _ rest = refl

digits-dark : (cs rest : List ℕ) → IsDigits cs → begins_with is_white_space (cs ++ rest) ≡ false
digits-dark [] rest d = absurd (omega (arith, d.0))
digits-dark (c ∷ cs) rest d = by c (and_parts (is_ascii_digit c) (list_all is_ascii_digit cs) d.1).0
  where
    by : (c : ℕ) → is_ascii_digit c ≡ true → is_white_space c ≡ false
    by c e = grind (arith, nat_tests, e)

pub spelled-dark : (kind : TokenKind) (rest : List ℕ) → IsFormed kind → begins_with is_white_space (spelled kind ++ rest) ≡ false
spelled-dark (k.Word word) rest formed = word-dark word rest
spelled-dark (k.Name name) rest formed = refl
spelled-dark (k.Text text) rest formed = refl
spelled-dark (k.Int digits) rest formed = digits-dark digits rest formed
spelled-dark (k.Dec number) rest formed =
    ap (λ l. begins_with is_white_space (l ++ rest)) formed.is ∙ ap (begins_with is_white_space) (append_assoc formed.whole (46 ∷ formed.part) rest) ∙ digits-dark formed.whole (46 ∷ formed.part ++ rest) formed.before

some-lead : (kind : TokenKind) → nothing ≡ lead_kind kind → ⊥
some-lead (k.Word word) e = cc e
some-lead kind e = cc e

pub spelled-some : (kind : TokenKind) → IsFormed kind → 0 < length (spelled kind)
spelled-some kind formed = by (spelled kind) (spelled-lead kind [] formed)
  where
    by : (cs : List ℕ) → lead_of (cs ++ []) ≡ lead_kind kind → 0 < length cs
    by [] e = absurd (some-lead kind e)
    by (c ∷ cs) e = omega arith

-- ---- a spelling is that of one kind

undoubled : ℕ → List ℕ → List ℕ
undoubled mark [] = []
undoubled mark (c ∷ []) = c ∷ []
undoubled mark (c ∷ d ∷ cs) = if c == mark then c ∷ undoubled mark cs else c ∷ undoubled mark (d ∷ cs)

undoubled-same : (mark c : ℕ) (cs : List ℕ) → (c == mark) ≡ true → undoubled mark (c ∷ c ∷ cs) ≡ c ∷ undoubled mark cs
unfolding undoubled
undoubled-same mark c cs e = rw e refl

undoubled-other : (mark c : ℕ) (cs : List ℕ) → (c == mark) ≡ false → undoubled mark (c ∷ cs) ≡ c ∷ undoubled mark cs
unfolding undoubled
undoubled-other mark c [] e = refl
undoubled-other mark c (d ∷ cs) e = rw e refl

undoubled-doubled : (mark : ℕ) (cs : List ℕ) → undoubled mark (doubled mark cs) ≡ cs
unfolding undoubled
undoubled-doubled mark [] = refl
undoubled-doubled mark (c ∷ cs) = elim (cases_Bool (c == mark)) [
  | inl e ↦ ap (undoubled mark) (doubled-same mark c cs e) ∙ undoubled-same mark c (doubled mark cs) e ∙ ap (λ l. c ∷ l) (undoubled-doubled mark cs)
  | inr e ↦ ap (undoubled mark) (doubled-other mark c cs e) ∙ undoubled-other mark c (doubled mark cs) e ∙ ap (λ l. c ∷ l) (undoubled-doubled mark cs)
]

quoted-one : (mark : ℕ) (xs ys : List ℕ) → quoted mark xs ≡ quoted mark ys → xs ≡ ys
quoted-one mark xs ys e =
    let tails : doubled mark xs ++ mark ∷ [] ≡ doubled mark ys ++ mark ∷ [] = cc e in
    sym (undoubled-doubled mark xs) ∙ ap (undoubled mark) (append_cancel_right (doubled mark xs) (doubled mark ys) (mark ∷ []) tails) ∙ undoubled-doubled mark ys

-- digits have no point
no-point : (digits number : List ℕ) → IsDigits digits → IsDecimal number → digits ≡ number → ⊥
no-point digits number d f e =
    let all = sym (list_all-append is_ascii_digit f.whole (46 ∷ f.part)) ∙ ap (list_all is_ascii_digit) (sym f.is ∙ sym e) ∙ d.1 in
    false≢true (and_parts (list_all is_ascii_digit f.whole) false all).1

word-kind : (v : Word) (b : TokenKind) → other ≡ lead_kind b → spelling v ≡ spelled b → k.Word v ≡ b
word-kind v (k.Word u) lead e = ap k.Word (one-word v u e)
word-kind v b lead e = absurd (cc lead)

name-kind : (v : List ℕ) (b : TokenKind) → quote ≡ lead_kind b → quoted 34 v ≡ spelled b → k.Name v ≡ b
name-kind v (k.Name u) lead e = ap k.Name (quoted-one 34 v u e)
name-kind v b lead e = absurd (cc lead)

text-kind : (v : List ℕ) (b : TokenKind) → apostrophe ≡ lead_kind b → quoted 39 v ≡ spelled b → k.Text v ≡ b
text-kind v (k.Text u) lead e = ap k.Text (quoted-one 39 v u e)
text-kind v b lead e = absurd (cc lead)

int-kind : (v : List ℕ) (b : TokenKind) → digit ≡ lead_kind b → IsDigits v → IsFormed b → v ≡ spelled b → k.Int v ≡ b
int-kind v (k.Int u) lead f g e = ap k.Int e
int-kind v (k.Dec u) lead f g e = absurd (no-point v u f g e)
int-kind v b lead f g e = absurd (cc lead)

dec-kind : (v : List ℕ) (b : TokenKind) → digit ≡ lead_kind b → IsDecimal v → IsFormed b → v ≡ spelled b → k.Dec v ≡ b
dec-kind v (k.Int u) lead f g e = absurd (no-point u v g f (sym e))
dec-kind v (k.Dec u) lead f g e = ap k.Dec e
dec-kind v b lead f g e = absurd (cc lead)

pub one-kind : (a b : TokenKind) → IsFormed a → IsFormed b → spelled a ≡ spelled b → a ≡ b
one-kind a b f g e = by a (sym (spelled-lead a [] f) ∙ ap (λ l. lead_of (l ++ [])) e ∙ spelled-lead b [] g) f e
  where
    by : (a : TokenKind) → lead_kind a ≡ lead_kind b → IsFormed a → spelled a ≡ spelled b → a ≡ b
    by (k.Word v) lead f e = word-kind v b lead e
    by (k.Name v) lead f e = name-kind v b lead e
    by (k.Text v) lead f e = text-kind v b lead e
    by (k.Int v) lead f e = int-kind v b lead f g e
    by (k.Dec v) lead f e = dec-kind v b lead f g e

-- two longest tokens at the front of a text are one
pub one-token : (text : List ℕ) (a b : TokenKind) (rest behind : List ℕ) → IsToken text a rest → IsToken text b behind → (a ≡ b) × (rest ≡ behind)
one-token text a b rest behind g h =
    let le = g.longest b behind h.starts in
    let ge = h.longest a rest g.starts in
    let split : spelled a ++ rest ≡ spelled b ++ behind = sym g.starts.split ∙ h.starts.split in
    let sizes : length (spelled a) ≡ length (spelled b) = omega (arith, le, ge, ap length split, length-append (spelled a) rest, length-append (spelled b) behind) in
    let same = front-same (spelled a) (spelled b) rest behind split sizes in
    (one-kind a b g.starts.formed h.starts.formed same.0, same.1)
