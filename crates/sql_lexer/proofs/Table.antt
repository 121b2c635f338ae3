-- The table of words: where each word stands, and that none begins with a word that stands before it.
use Rattle.std.proofs.Common.{◌≡◌, ◌≤◌, ◌<◌, ◌+◌, ◌∷◌, ◌++◌, ◌∙◌, ◌&&◌, ◌==◌, ◌⊎◌, [], ℕ, zero, suc, List, Bool, Option, Some, None, if◌then◌else◌, true, false, not, nat_lt, length, get_or, sym, ap, subst, refl, arith, inl, inr, length-append}
use Rattle.std.specs.List.{list_all}
use Rattle.std.specs.Str.{IsAscii}
use Rattle.std.proofs.lemmas.Bool.{and_parts, false≢true}
use borrow.Author.Tests.{ltb-true, eq-eqb}
use Rattle.std.specs.Option.{option_map_or}
use Rattle.sql_lexer.specs.Places.{place}
use Rattle.sql_lexer.specs.Spelling.{spelling}
use Rattle.sql_lexer.specs.Writing.{goes_on}
use Rattle.sql_lexer.specs.declared.token.TokenKind.TheVariants as k
use Rattle.sql_lexer.proofs.Texts.{all-ascii}
use Rattle.sql_lexer.specs.declared.words.TheConstants.{WORDS}
use Rattle.sql_lexer.specs.declared.token.Word.{Word}
use Rattle.sql_lexer.specs.declared.token.Word.TheVariants as w

-- the word at a place
abbrev pub word_at : ℕ → Word
word_at i = get_or WORDS i w.NotEqual

pub placed : (word : Word) → word_at (place word) ≡ word
placed w.NotEqual = refl
placed _ = refl

pub place-below : (word : Word) → nat_lt (place word) 106 ≡ true
place-below w.NotEqual = refl
place-below _ = refl

-- each is written in ASCII
abbrev is_ascii : List ℕ → Bool
is_ascii cs = list_all (λ c. nat_lt c 128) cs

word-ascii : (word : Word) → is_ascii (spelling word) ≡ true
word-ascii w.NotEqual = refl
word-ascii _ = refl

pub spelling-ascii : (word : Word) → IsAscii (spelling word)
spelling-ascii word = all-ascii (λ c. nat_lt c 128) (spelling word) (λ c e. ltb-true c 128 e) (word-ascii word)

-- ---- which begins with which
abbrev is_front : List ℕ → List ℕ → Bool
is_front [] text = true
is_front (c ∷ cs) [] = false
is_front (c ∷ cs) (d ∷ text) = c == d && is_front cs text

front-is : (xs r ys s : List ℕ) → xs ++ r ≡ ys ++ s → length xs ≤ length ys → is_front xs ys ≡ true
front-is [] r ys s e le = refl
front-is (x ∷ xs) r [] s e le = absurd (omega arith)
front-is (x ∷ xs) r (y ∷ ys) s e le =
    let heads : x ≡ y = cc e in
    let tails : xs ++ r ≡ ys ++ s = cc e in
    let more = front-is xs r ys s tails (omega arith) in
    rw (eq-eqb x y heads) more

abbrev is_ordered : List Word → Bool
is_ordered [] = true
is_ordered (word ∷ words) = list_all (λ other. not (is_front (spelling word) (spelling other))) words && is_ordered words

ordered : is_ordered WORDS ≡ true
ordered = refl

none-at : (p : Word → Bool) (words : List Word) (i : ℕ) → list_all p words ≡ true → i < length words → p (get_or words i w.NotEqual) ≡ true
none-at p [] i all lt = absurd (omega arith)
none-at p (word ∷ words) zero all lt = (and_parts (p word) (list_all p words) all).0
none-at p (word ∷ words) (suc i) all lt = none-at p words i (and_parts (p word) (list_all p words) all).1 (omega arith)

ordered-at : (words : List Word) (i j : ℕ) → is_ordered words ≡ true → i < j → j < length words
    → not (is_front (spelling (get_or words i w.NotEqual)) (spelling (get_or words j w.NotEqual))) ≡ true
ordered-at [] i j e lt within = absurd (omega arith)
ordered-at (word ∷ words) i zero e lt within = absurd (omega arith)
ordered-at (word ∷ words) zero (suc j) e lt within =
    none-at (λ other. not (is_front (spelling word) (spelling other))) words j (and_parts (list_all (λ other. not (is_front (spelling word) (spelling other))) words) (is_ordered words) e).0 (omega arith)
ordered-at (word ∷ words) (suc i) (suc j) e lt within =
    ordered-at words i j (and_parts (list_all (λ other. not (is_front (spelling word) (spelling other))) words) (is_ordered words) e).1 (omega arith) (omega arith)

-- a word that stands behind another is no longer, where both begin a text
shorter : (i : ℕ) (other : Word) (r s : List ℕ) → i < place other → spelling (word_at i) ++ r ≡ spelling other ++ s → length (spelling other) < length (spelling (word_at i))
shorter i other r s lt e = by (split (length (spelling (word_at i))) (length (spelling other)))
  where
    split : (m n : ℕ) → (m ≤ n) ⊎ (n < m)
    split m n = grind arith

    behind : not (is_front (spelling (word_at i)) (spelling other)) ≡ true
    behind = subst (λ v. not (is_front (spelling (word_at i)) (spelling v)) ≡ true) (placed other) (ordered-at WORDS i (place other) ordered lt (ltb-true (place other) 106 (place-below other)))

    by : (length (spelling (word_at i)) ≤ length (spelling other)) ⊎ (length (spelling other) < length (spelling (word_at i))) → length (spelling other) < length (spelling (word_at i))
    by (inl le) = absurd (false≢true (ap not (sym (front-is (spelling (word_at i)) r (spelling other) s e le)) ∙ behind))
    by (inr more) = more

-- the first word of the table that begins a text is the longest
pub first-longest : (text rest : List ℕ) (i : ℕ) → text ≡ spelling (word_at i) ++ rest → ((j : ℕ) → j < i → (left : List ℕ) → text ≡ spelling (word_at j) ++ left → ⊥)
    → (other : Word) (behind : List ℕ) → text ≡ spelling other ++ behind → length rest ≤ length behind
first-longest text rest i e none other behind f = by (cases (place other) i)
  where
    cases : (m n : ℕ) → (m < n) ⊎ ((m ≡ n) ⊎ (n < m))
    cases m n = grind arith

    sizes : length (spelling (word_at i)) + length rest ≡ length (spelling other) + length behind
    sizes = sym (length-append (spelling (word_at i)) rest) ∙ ap length (sym e ∙ f) ∙ length-append (spelling other) behind

    by : (place other < i) ⊎ ((place other ≡ i) ⊎ (i < place other)) → length rest ≤ length behind
    by (inl lt) = absurd (none (place other) lt behind (f ∙ ap (λ v. spelling v ++ behind) (sym (placed other))))
    by (inr (inl same)) =
        let one : length (spelling (word_at i)) ≡ length (spelling other) = ap (λ n. length (spelling (word_at n))) (sym same) ∙ ap (λ v. length (spelling v)) (placed other) in
        omega (arith, sizes, one)
    by (inr (inr lt)) = let less = shorter i other rest behind lt (sym e ∙ f) in omega (arith, sizes, less)

-- no other word has its spelling
pub one-word : (a b : Word) → spelling a ≡ spelling b → a ≡ b
one-word a b e = by (cases (place a) (place b))
  where
    cases : (m n : ℕ) → (m < n) ⊎ ((m ≡ n) ⊎ (n < m))
    cases m n = grind arith

    apart : (c d : Word) → place c < place d → spelling c ≡ spelling d → ⊥
    apart c d lt f =
        let is : spelling (word_at (place c)) ≡ spelling d = ap spelling (placed c) ∙ f in
        let less = shorter (place c) d [] [] lt (ap (λ l. l ++ []) is) in
        omega (arith, less, ap length is)

    by : (place a < place b) ⊎ ((place a ≡ place b) ⊎ (place b < place a)) → a ≡ b
    by (inl lt) = absurd (apart a b lt e)
    by (inr (inl same)) = sym (placed a) ∙ ap word_at same ∙ placed b
    by (inr (inr lt)) = absurd (apart b a lt (sym e))

-- ---- what a word goes on with to be another

abbrev next_of : List ℕ → List ℕ → Option ℕ
next_of [] [] = None
next_of [] (c ∷ cs) = Some c
next_of (c ∷ cs) [] = None
next_of (c ∷ cs) (d ∷ ds) = if c == d then next_of cs ds else None

abbrev is_told : Word → Word → Bool
is_told word longer = option_map_or (goes_on (k.Word word)) (next_of (spelling word) (spelling longer)) true

all-told : list_all (λ word. list_all (λ longer. is_told word longer) WORDS) WORDS ≡ true
all-told = refl

at-place : (p : Word → Bool) → list_all p WORDS ≡ true → (word : Word) → p word ≡ true
at-place p all word = subst (λ v. p v ≡ true) (placed word) (none-at p WORDS (place word) all (ltb-true (place word) 106 (place-below word)))

next-is : (xs ys : List ℕ) (c : ℕ) (rest behind : List ℕ) → length xs < length ys → xs ++ c ∷ rest ≡ ys ++ behind → next_of xs ys ≡ Some c
next-is [] [] c rest behind lt e = absurd (omega arith)
next-is [] (y ∷ ys) c rest behind lt e = let heads : c ≡ y = cc e in ap Some (sym heads)
next-is (x ∷ xs) [] c rest behind lt e = absurd (omega arith)
next-is (x ∷ xs) (y ∷ ys) c rest behind lt e =
    let heads : x ≡ y = cc e in
    let tails : xs ++ c ∷ rest ≡ ys ++ behind = cc e in
    rw (eq-eqb x y heads) (next-is xs ys c rest behind (omega arith) tails)

pub told : (word longer : Word) (c : ℕ) (rest behind : List ℕ) → length (spelling word) < length (spelling longer) → spelling word ++ c ∷ rest ≡ spelling longer ++ behind → goes_on (k.Word word) c ≡ true
told word longer c rest behind lt e =
    let next = next-is (spelling word) (spelling longer) c rest behind lt e in
    let here = at-place (λ v. is_told word v) (at-place (λ u. list_all (λ v. is_told u v) WORDS) all-told word) longer in
    ap (λ (o : Option ℕ). option_map_or (goes_on (k.Word word)) o true) (sym next) ∙ here
