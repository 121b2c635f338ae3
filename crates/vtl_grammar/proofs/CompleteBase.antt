-- What lists of tokens begin with, and reading of words and lists.
use Rattle.std.proofs.Common.{◌≡◌, ◌∙◌, ℕ, zero, suc, ◌≤◌, ◌-◌, max, min, Bool, true, false, List, [], ◌∷◌, ◌++◌, length, Option, Some, None, refl, arith, append_assoc}
use Rattle.std.specs.List.{AllByRecursion}
use Rattle.std.proofs.lemmas.List.{append-nil}
use Rattle.vtl_lexer.specs.declared.keyword.Keyword.{Keyword}
use Rattle.vtl_lexer.specs.declared.token.Sign.{Sign}
use Rattle.vtl_lexer.specs.declared.token.Sign.TheVariants as sign
use Rattle.vtl_lexer.specs.declared.token.TokenKind.{TokenKind}
use Rattle.vtl_syntax.specs.Depth.{deepest}
use Rattle.vtl_grammar.specs.Fits.{Filled}
use Rattle.vtl_grammar.specs.Grammar.{Tokens, comma, more_onto, listed_onto, maybe_onto, maybe_after_onto}
use Rattle.vtl_grammar.specs.Reading.{Reads, Gets, got, is_keyword, is_sign, after_keyword, after_sign, word, maybe_word, more_items, listed, more_got, got_listed}

-- ---- the first token

abbrev pub first_is : (TokenKind → Bool) → Tokens → Bool
first_is p [] = false
first_is p (t ∷ ts) = p t

-- no such token is first
abbrev pub Lacks : (TokenKind → Bool) → Tokens → Type 0
Lacks p ts = first_is p ts ≡ false

abbrev pub is_some : {A : Type 0} → Option A → Bool
is_some None = false
is_some (Some x) = true

-- the token is in the table
abbrev pub in_table : {A : Type 0} → (TokenKind → Option A) → TokenKind → Bool
in_table at t = is_some (at t)

-- a test that nothing passes
abbrev pub never : TokenKind → Bool
never t = false

pub lacks_never : (ts : Tokens) → Lacks never ts
lacks_never [] = refl
lacks_never (t ∷ ts) = refl

pub lacks_keyword : (k : Keyword) (ts : Tokens) → Lacks (is_keyword k) ts → after_keyword k ts ≡ None
unfolding after_keyword
lacks_keyword k [] h = refl
lacks_keyword k (t ∷ ts) h = rw h

pub lacks_sign : (s : Sign) (ts : Tokens) → Lacks (is_sign s) ts → after_sign s ts ≡ None
unfolding after_sign
lacks_sign s [] h = refl
lacks_sign s (t ∷ ts) h = rw h

lacks_at : {A : Type 0} (o : Option A) → is_some o ≡ false → o ≡ None
lacks_at None h = refl
lacks_at (Some x) h = cc

pub lacks_word : {A : Type 0} (at : TokenKind → Option A) (ts : Tokens) → Lacks (in_table at) ts → word at ts ≡ None
lacks_word at [] h = refl
lacks_word at (t ∷ ts) h = rw (lacks_at (at t) h)

-- ---- an optional token, and an optional part behind a word

pub maybe_lacks : {A : Type 0} (p : TokenKind → Bool) (token_of : A → TokenKind) → ((x : A) → p (token_of x) ≡ false) → (o : Option A) (ts : Tokens) → Lacks p ts → Lacks p (maybe_onto token_of o ts)
maybe_lacks p token_of none None ts h = h
maybe_lacks p token_of none (Some x) ts h = none x

pub maybe_after_lacks : {A : Type 0} (p : TokenKind → Bool) (w : TokenKind) (item : A → Tokens → Tokens) → p w ≡ false → (o : Option A) (ts : Tokens) → Lacks p ts → Lacks p (maybe_after_onto w item o ts)
maybe_after_lacks p w item none None ts h = h
maybe_after_lacks p w item none (Some x) ts h = none

pub maybe_word_complete : {A : Type 0} (at : TokenKind → Option A) (token_of : A → TokenKind) → ((x : A) → at (token_of x) ≡ Some x) → (o : Option A) (rest : Tokens) → Lacks (in_table at) rest → maybe_word at (maybe_onto token_of o rest) ≡ (o, rest)
maybe_word_complete at token_of reads None rest h = rw (lacks_word at rest h)
maybe_word_complete at token_of reads (Some x) rest h = rw (reads x)

-- ---- lists

-- what a reading function gives at the tokens of an item
abbrev pub Complete : {A : Type 0} → Reads A → (A → Tokens → Tokens) → (TokenKind → Bool) → Type 0
Complete {A} item onto p = (x : A) (rest : Tokens) → Lacks p rest → item (onto x rest) ≡ Some (x, rest)

-- the tokens that it is handed are the last
abbrev pub Grows : {A : Type 0} → (A → Tokens → Tokens) → Type 0
Grows {A} onto = (x : A) (ts : Tokens) → length ts ≤ length (onto x ts)

pub more_onto-grows : {A : Type 0} (onto : A → Tokens → Tokens) → Grows onto → (xs : List A) (ts : Tokens) → length xs ≤ length (more_onto onto xs ts)
more_onto-grows onto grows [] ts = omega arith
more_onto-grows onto grows (x ∷ xs) ts = omega (arith, more_onto-grows onto grows xs ts, grows x (more_onto onto xs ts))

pub more_lacks : {A : Type 0} (p : TokenKind → Bool) (onto : A → Tokens → Tokens) → p comma ≡ false → (xs : List A) (ts : Tokens) → Lacks p ts → Lacks p (more_onto onto xs ts)
more_lacks p onto none [] ts h = h
more_lacks p onto none (x ∷ xs) ts h = none

pub more_items_complete : {A : Type 0} (item : Reads A) (onto : A → Tokens → Tokens) (p : TokenKind → Bool) → Complete item onto p → p comma ≡ false
    → (n : ℕ) (items xs : List A) (rest : Tokens) → length xs ≤ n → Lacks (is_sign sign.Comma) rest → Lacks p rest
    → more_items item n items (more_onto onto xs rest) ≡ Some (items ++ xs, rest)
unfolding after_sign
more_items_complete item onto p complete none zero items [] rest few ends stops = rw append-nil refl
more_items_complete item onto p complete none zero items (x ∷ xs) rest few ends stops = absurd (omega arith)
more_items_complete item onto p complete none (suc n) items [] rest few ends stops = rw (lacks_sign sign.Comma rest ends, append-nil) refl
more_items_complete item onto p complete none (suc n) items (x ∷ xs) rest few ends stops =
    rw (complete x (more_onto onto xs rest) (more_lacks p onto none xs rest stops))
    (more_items_complete item onto p complete none n (items ++ x ∷ []) xs rest (omega arith) ends stops ∙ rw append_assoc refl)

pub listed_complete : {A : Type 0} (item : Reads A) (onto : A → Tokens → Tokens) (p : TokenKind → Bool) → Grows onto → Complete item onto p → p comma ≡ false
    → (xs : List A) (rest : Tokens) → Filled xs → Lacks (is_sign sign.Comma) rest → Lacks p rest → listed item (listed_onto onto xs rest) ≡ Some (xs, rest)
listed_complete item onto p grows complete none [] rest filled ends stops = absurd (omega arith)
listed_complete item onto p grows complete none (x ∷ xs) rest filled ends stops =
    rw (complete x (more_onto onto xs rest) (more_lacks p onto none xs rest stops))
    (more_items_complete item onto p complete none (length (more_onto onto xs rest)) (x ∷ []) xs rest (more_onto-grows onto grows xs rest) ends stops)

-- the same for items that have a depth, at a budget
abbrev pub CompleteGets : {A : Type 0} → ℕ → Gets A → (A → Tokens → Tokens) → (A → Type 0) → (A → ℕ) → (TokenKind → Bool) → Type 0
CompleteGets {A} budget item onto fits depth p = (x : A) (rest : Tokens) → fits x → depth x ≤ budget → Lacks p rest → item (onto x rest) ≡ Some (got x (budget - depth x) rest)

pub more_got_complete : {A : Type 0} (budget : ℕ) (item : Gets A) (onto : A → Tokens → Tokens) (fits : A → Type 0) (depth : A → ℕ) (p : TokenKind → Bool)
    → CompleteGets budget item onto fits depth p → p comma ≡ false
    → (n : ℕ) (items xs : List A) (spare : ℕ) (rest : Tokens) → length xs ≤ n → AllByRecursion fits xs → deepest depth xs ≤ budget → spare ≤ budget
    → Lacks (is_sign sign.Comma) rest → Lacks p rest
    → more_got item n items spare (more_onto onto xs rest) ≡ Some (got (items ++ xs) (min spare (budget - deepest depth xs)) rest)
unfolding after_sign
more_got_complete budget item onto fits depth p complete none zero items [] spare rest few all shallow below ends stops =
    let e : min spare (budget - 0) ≡ spare = omega arith in rw (append-nil, e) refl
more_got_complete budget item onto fits depth p complete none zero items (x ∷ xs) spare rest few all shallow below ends stops = absurd (omega arith)
more_got_complete budget item onto fits depth p complete none (suc n) items [] spare rest few all shallow below ends stops =
    let e : min spare (budget - 0) ≡ spare = omega arith in rw (lacks_sign sign.Comma rest ends, append-nil, e) refl
more_got_complete budget item onto fits depth p complete none (suc n) items (x ∷ xs) spare rest few all shallow below ends stops =
    let one : depth x ≤ budget = omega arith in
    let e : min (min spare (budget - depth x)) (budget - deepest depth xs) ≡ min spare (budget - max (depth x) (deepest depth xs)) = omega arith in
    rw (complete x (more_onto onto xs rest) all.0 one (more_lacks p onto none xs rest stops))
    (more_got_complete budget item onto fits depth p complete none n (items ++ x ∷ []) xs (min spare (budget - depth x)) rest (omega arith) all.1 (omega arith) (omega arith) ends stops
    ∙ rw (append_assoc, e) refl)

pub got_listed_complete : {A : Type 0} (budget : ℕ) (item : Gets A) (onto : A → Tokens → Tokens) (fits : A → Type 0) (depth : A → ℕ) (p : TokenKind → Bool)
    → Grows onto → CompleteGets budget item onto fits depth p → p comma ≡ false
    → (xs : List A) (rest : Tokens) → Filled xs → AllByRecursion fits xs → deepest depth xs ≤ budget → Lacks (is_sign sign.Comma) rest → Lacks p rest
    → got_listed item (listed_onto onto xs rest) ≡ Some (got xs (budget - deepest depth xs) rest)
got_listed_complete budget item onto fits depth p grows complete none [] rest filled all shallow ends stops = absurd (omega arith)
got_listed_complete budget item onto fits depth p grows complete none (x ∷ xs) rest filled all shallow ends stops =
    let one : depth x ≤ budget = omega arith in
    let e : min (budget - depth x) (budget - deepest depth xs) ≡ budget - max (depth x) (deepest depth xs) = omega arith in
    rw (complete x (more_onto onto xs rest) all.0 one (more_lacks p onto none xs rest stops))
    (more_got_complete budget item onto fits depth p complete none (length (more_onto onto xs rest)) (x ∷ []) xs (budget - depth x) rest (more_onto-grows onto grows xs rest) all.1 (omega arith) (omega arith) ends stops
    ∙ rw e refl)
