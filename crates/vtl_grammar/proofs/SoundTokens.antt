-- Reading tokens gives what stands there.
use Rattle.std.proofs.Common.{◌≡◌, true, [], ◌∷◌, Option, None, Some, refl, ap}
use Rattle.std.specs.Prelude.{option_map}
use Rattle.vtl_lexer.specs.declared.keyword.Keyword.{Keyword}
use Rattle.vtl_lexer.specs.declared.token.Sign.{Sign}
use Rattle.vtl_lexer.specs.declared.token.TokenKind.{TokenKind}
use Rattle.vtl_lexer.specs.declared.token.TokenKind.TheVariants as token
use Rattle.vtl_grammar.specs.Grammar.{Tokens, maybe_onto, maybe_after_onto}
use Rattle.vtl_grammar.specs.Reading.{Reads, after_keyword, after_sign, is_keyword, is_sign, maybe_after, maybe_word, word}
use Rattle.vtl_grammar.proofs.Places.{keyword_by_test, sign_by_test}
use Rattle.vtl_grammar.proofs.SoundSteps.{Gives, either, either_way, follow, none_gives, some_gives, under_test, weaker}

is_keyword-sound : (k : Keyword) (t : TokenKind) → is_keyword k t ≡ true → t ≡ token.Keyword k
is_keyword-sound k (token.Keyword w) e = ap (λ x. token.Keyword x) (keyword_by_test w k e)
is_keyword-sound k _ e = cc

is_sign-sound : (s : Sign) (t : TokenKind) → is_sign s t ≡ true → t ≡ token.Sign s
is_sign-sound s (token.Sign w) e = ap (λ x. token.Sign x) (sign_by_test w s e)
is_sign-sound s _ e = cc

pub after_keyword-sound : (k : Keyword) (ts : Tokens) → Gives (λ rest. ts ≡ token.Keyword k ∷ rest) (after_keyword k ts)
unfolding after_keyword
after_keyword-sound k [] = none_gives
after_keyword-sound k (t ∷ ts) =
    under_test (is_keyword k t) (Some ts) None (λ e. some_gives ts (ap (λ x. x ∷ ts) (is_keyword-sound k t e))) (λ e. none_gives)

pub after_sign-sound : (s : Sign) (ts : Tokens) → Gives (λ rest. ts ≡ token.Sign s ∷ rest) (after_sign s ts)
unfolding after_sign
after_sign-sound s [] = none_gives
after_sign-sound s (t ∷ ts) = under_test (is_sign s t) (Some ts) None (λ e. some_gives ts (ap (λ x. x ∷ ts) (is_sign-sound s t e))) (λ e. none_gives)

-- these are the tokens of what was read, and then those that are left
abbrev pub Spelled : {A : Type 0} → (A → Tokens → Tokens) → Tokens → A × Tokens → Type 0
Spelled onto ts p = ts ≡ onto p.0 p.1

-- the token of a word
abbrev pub word_onto : {A : Type 0} → (A → TokenKind) → A → Tokens → Tokens
word_onto token_of x ts = token_of x ∷ ts

-- the first token is what the table gives for it
pub word_onto-sound : {A : Type 0} (onto : A → Tokens → Tokens) (at : TokenKind → Option A) → ((t : TokenKind) → Gives (λ x. (us : Tokens) → t ∷ us ≡ onto x us) (at t)) → (ts : Tokens) → Gives (Spelled onto ts) (word at ts)
word_onto-sound onto at table [] = none_gives
word_onto-sound {A} onto at table (t ∷ ts) = go (at t) (table t)
  where
    go : (r : Option A) → Gives (λ x. (us : Tokens) → t ∷ us ≡ onto x us) r → Gives (Spelled onto (t ∷ ts)) (option_map (λ a. (a, ts)) r)
    go None h = none_gives
    go (Some a) h = some_gives (a, ts) (h.holds a refl ts)

-- the first token is that of the word
pub word-sound : {A : Type 0} (token_of : A → TokenKind) (at : TokenKind → Option A) → ((t : TokenKind) → Gives (λ x. t ≡ token_of x) (at t)) → (ts : Tokens) → Gives (Spelled (word_onto token_of) ts) (word at ts)
word-sound token_of at table ts = word_onto-sound (word_onto token_of) at (λ t. weaker (table t) (λ x e us. ap (λ y. y ∷ us) e)) ts

pub maybe_word-sound : {A : Type 0} (token_of : A → TokenKind) (at : TokenKind → Option A) → ((t : TokenKind) → Gives (λ x. t ≡ token_of x) (at t)) → (ts : Tokens) → ts ≡ maybe_onto token_of (maybe_word at ts).0 (maybe_word at ts).1
maybe_word-sound token_of at table ts =
    either_way (Spelled (maybe_onto token_of) ts) (word at ts) (λ p. (Some p.0, p.1)) (None, ts) (word-sound token_of at table ts) (λ p e. e) refl

-- an item that is read stands there
pub record Reading {A : Type 0} (onto : A → Tokens → Tokens) (item : Reads A) : Type 0 where
  pub sound : (ts : Tokens) → Gives (Spelled onto ts) (item ts)

pub maybe_after-sound : {A : Type 0} (k : Keyword) (onto : A → Tokens → Tokens) (item : Reads A) → Reading onto item → (ts : Tokens) → Gives (Spelled (maybe_after_onto (token.Keyword k) onto) ts) (maybe_after k item ts)
maybe_after-sound k onto item h ts =
    either (after_keyword k ts) _ _ (after_keyword-sound k ts)
    (λ after e. follow (item after) _ (h.sound after) (λ p is. some_gives (Some p.0, p.1) (cc)))
    (some_gives (None, ts) refl)
