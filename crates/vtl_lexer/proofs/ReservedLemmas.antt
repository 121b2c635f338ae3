-- Reserved words and their places.
use Rattle.std.proofs.Common.{◌≡◌, ◌<◌, ◌∷◌, ◌∙◌, ◌||◌, [], ℕ, zero, suc, ◌+◌, List, option_map, arith, ◌≤◌, not, cond, nat_lt, length, Bool, Option, Some, None, true, false, nat_eq, get_or, map, sym, ap, subst, refl}
use lib.Utf8.{encode}
use Rattle.std.specs.Cmp.Lexicographic.{pointwise}
use Rattle.std.specs.List.{list_all, list_any, position, position_or_len, slice_get}
use Rattle.std.proofs.lemmas.Bool.{and_parts}
use Rattle.std.proofs.lemmas.Bool.Decides.{nat_tests}
use Rattle.std.proofs.lemmas.List.Sums.{passes_at_first, prefix_len-le-length}
use Rattle.std.proofs.lemmas.Option.{get_or_from_slice_get, slice_get-get_or, slice_get-map}
use Rattle.std.proofs.lemmas.Slice.Eq.{bytes_eq-Decides}
use Rattle.vtl_text.specs.Words.{is_reserved, is_word, reserved_place, reserved_words}
use Rattle.vtl_lexer.specs.Keywords.{place_of, word_of}
use Rattle.vtl_lexer.specs.declared.keyword.TheConstants.{KEYWORDS}
use Rattle.vtl_lexer.specs.declared.keyword.Keyword.{Keyword}
use Rattle.vtl_lexer.specs.declared.keyword.Keyword.TheVariants as k

-- an element of a list of which all pass
pub all-at : {X : Type 0} (p : X → Bool) (xs : List X) (i : ℕ) (x : X) → list_all p xs ≡ true → slice_get xs i ≡ Some x → p x ≡ true
all-at p [] i x all e = cc e
all-at p (y ∷ ys) zero x all e = let same : y ≡ x = cc e in subst (λ z. p z ≡ true) same (and_parts (p y) (list_all p ys) all).0
all-at p (y ∷ ys) (suc i) x all e = all-at p ys i x (and_parts (p y) (list_all p ys) all).1 e

-- an element that passes
pub any-at : {X : Type 0} (p : X → Bool) (xs : List X) (i : ℕ) (x : X) → p x ≡ true → slice_get xs i ≡ Some x → list_any p xs ≡ true
any-at p [] i x pass e = cc e
any-at p (y ∷ ys) zero x pass e = let same : y ≡ x = cc e in rw (same, pass) refl
any-at p (y ∷ ys) (suc i) x pass e = by (p y) (any-at p ys i x pass e)
  where
    by : (b : Bool) → list_any p ys ≡ true → (b || list_any p ys) ≡ true
    by true more = refl
    by false more = more

reserved-count : length reserved_words ≡ 115
unfolding reserved_words
reserved-count = refl

-- each reserved word is a word
reserved-words : list_all is_word reserved_words ≡ true
unfolding is_word reserved_words encode
reserved-words = refl

-- a keyword's word stands at its place
word-placed : (keyword : Keyword) → slice_get reserved_words (place_of keyword) ≡ Some (word_of keyword)
unfolding reserved_words
word-placed k.Abs = refl
word-placed _ = refl

at-place : (keyword : Keyword) (bytes : List ℕ) → bytes ≡ word_of keyword → slice_get reserved_words (place_of keyword) ≡ Some bytes
at-place keyword bytes e = word-placed keyword ∙ ap Some (sym e)

pub keyword-word : (keyword : Keyword) (bytes : List ℕ) → bytes ≡ word_of keyword → is_word bytes ≡ true
keyword-word keyword bytes e = all-at is_word reserved_words (place_of keyword) bytes reserved-words (at-place keyword bytes e)

pub keyword-reserved : (keyword : Keyword) (bytes : List ℕ) → bytes ≡ word_of keyword → is_reserved bytes ≡ true
unfolding is_reserved
keyword-reserved keyword bytes e = any-at (λ w. pointwise nat_eq w bytes) reserved_words (place_of keyword) bytes ((bytes_eq-Decides bytes bytes).1 refl) (at-place keyword bytes e)

-- a reserved word has one place
place-found : (keyword : Keyword) → position (λ w. pointwise nat_eq w (get_or reserved_words (place_of keyword) [])) reserved_words ≡ Some (place_of keyword)
unfolding reserved_words
place-found k.Abs = refl
place-found _ = refl

keyword-placed : (keyword : Keyword) → get_or KEYWORDS (place_of keyword) k.Abs ≡ keyword
keyword-placed k.Abs = refl
keyword-placed _ = refl

-- the numbers from this one on, so many
abbrev numbers : ℕ → ℕ → List ℕ
numbers from zero = []
numbers from (suc n) = from ∷ numbers (suc from) n

numbers-at : (from n i : ℕ) → i < n → slice_get (numbers from n) i ≡ Some (from + i)
numbers-at from zero i lt = absurd (omega arith)
numbers-at from (suc n) zero lt = ap Some (omega arith)
numbers-at from (suc n) (suc i) lt = numbers-at (suc from) n i (omega arith) ∙ ap Some (omega arith)

places-kept : map place_of KEYWORDS ≡ numbers 0 115
places-kept = refl

-- the keyword at a place has that place
pub keyword-at : (i : ℕ) (keyword : Keyword) → i < 115 → slice_get KEYWORDS i ≡ Some keyword → place_of keyword ≡ i
keyword-at i keyword lt e =
    let mapped : slice_get (numbers 0 115) i ≡ Some (place_of keyword) = ap (λ l. slice_get l i) (sym places-kept) ∙ slice_get-map place_of KEYWORDS i ∙ ap (option_map place_of) e in
    let same : Some (place_of keyword) ≡ Some (0 + i) = sym mapped ∙ numbers-at 0 115 i lt in
    let places : place_of keyword ≡ 0 + i = cc same in
    omega arith

pub one-keyword : (a b : Keyword) (bytes : List ℕ) → bytes ≡ word_of a → bytes ≡ word_of b → a ≡ b
one-keyword a b bytes e f =
    let p = get_or_from_slice_get reserved_words (place_of a) bytes [] (at-place a bytes e) in
    let q = get_or_from_slice_get reserved_words (place_of b) bytes [] (at-place b bytes f) in
    let same : Some (place_of a) ≡ Some (place_of b) =
    sym (place-found a) ∙ ap (λ w. position (λ v. pointwise nat_eq v w) reserved_words) (p ∙ sym q) ∙ place-found b in
    let places : place_of a ≡ place_of b = cc same in
    sym (keyword-placed a) ∙ ap (λ i. get_or KEYWORDS i k.Abs) places ∙ keyword-placed b

-- what the place of a word tells
position-none : {X : Type 0} (p : X → Bool) (xs : List X) → position_or_len p xs ≡ length xs → list_any p xs ≡ false
position-none p [] e = refl
position-none p (x ∷ xs) e = by (p x) refl e (position-none p xs)
  where
    by : (b : Bool) → p x ≡ b → cond (not b) (1 + position_or_len p xs) 0 ≡ suc (length xs) → (position_or_len p xs ≡ length xs → list_any p xs ≡ false) → list_any p (x ∷ xs) ≡ false
    by true e' h more = absurd (omega arith)
    by false e' h more = let lengths : position_or_len p xs ≡ length xs = omega arith in rw e' (more lengths)

-- the two answers of `position`
none-place : {X : Type 0} (p : X → Bool) (xs : List X) → position p xs ≡ None → position_or_len p xs ≡ length xs
none-place p xs e = by (nat_lt (position_or_len p xs) (length xs)) refl e
  where
    by : (b : Bool) → nat_lt (position_or_len p xs) (length xs) ≡ b → cond {A = Option ℕ} b (Some (position_or_len p xs)) None ≡ None → position_or_len p xs ≡ length xs
    by true e' h = absurd (cc h)
    by false e' h =
        let le = prefix_len-le-length (λ x. not (p x)) xs in
        let ge : length xs ≤ position_or_len p xs = grind (arith, nat_tests, e') in
        omega (arith, le, ge)

some-place : {X : Type 0} (p : X → Bool) (xs : List X) (i : ℕ) (d : X) → position p xs ≡ Some i → (i < length xs) × (p (get_or xs i d) ≡ true)
some-place p xs i d e = by (nat_lt (position_or_len p xs) (length xs)) refl e
  where
    by : (b : Bool) → nat_lt (position_or_len p xs) (length xs) ≡ b → cond {A = Option ℕ} b (Some (position_or_len p xs)) None ≡ Some i → (i < length xs) × (p (get_or xs i d) ≡ true)
    by true e' h =
        let lt : position_or_len p xs < length xs = grind (arith, nat_tests, e') in
        let is : position_or_len p xs ≡ i = cc h in
        (subst (λ n. n < length xs) is lt, subst (λ n. p (get_or xs n d) ≡ true) is (passes_at_first p xs d lt))
    by false e' h = absurd (cc h)

pub unplaced : (bytes : List ℕ) → reserved_place bytes ≡ None → is_reserved bytes ≡ false
unfolding reserved_place is_reserved
unplaced bytes e = position-none (λ w. pointwise nat_eq w bytes) reserved_words (none-place (λ w. pointwise nat_eq w bytes) reserved_words e)

pub placed-below : (bytes : List ℕ) (i : ℕ) → reserved_place bytes ≡ Some i → i < 115
unfolding reserved_place
placed-below bytes i e = subst (λ n. i < n) reserved-count (some-place (λ w. pointwise nat_eq w bytes) reserved_words i [] e).0

pub placed : (bytes : List ℕ) (i : ℕ) (d : Keyword) → reserved_place bytes ≡ Some i → bytes ≡ word_of (get_or KEYWORDS i d)
unfolding reserved_place
placed bytes i d e =
    let (lt, same) = some-place (λ w. pointwise nat_eq w bytes) reserved_words i [] e in
    let lt' : i < length KEYWORDS = subst (λ n. i < n) reserved-count lt in
    let place = keyword-at i (get_or KEYWORDS i d) lt' (slice_get-get_or KEYWORDS i d lt') in
    let is : get_or reserved_words i [] ≡ bytes = (bytes_eq-Decides (get_or reserved_words i []) bytes).0 same in
    let found : Some (word_of (get_or KEYWORDS i d)) ≡ Some bytes = sym (word-placed (get_or KEYWORDS i d)) ∙ ap (slice_get reserved_words) place ∙ slice_get-get_or reserved_words i [] lt ∙ ap Some is in
    cc found
