-- How reading goes: each reading function gives what stands at the front of some tokens and the tokens that are left, or nothing.
use Rattle.std.specs.Prelude.{ℕ, zero, suc, ◌-◌, min, Bool, false, List, [], ◌∷◌, ◌++◌, length, Option, None, Some, option_map, nat_eq, nat_le, if◌then◌else◌}
use Rattle.vtl_lists.specs.Options.{◌>>=◌, given}
use Rattle.vtl_lexer.specs.Keywords.{same_keyword}
use Rattle.vtl_lexer.specs.declared.keyword.Keyword.{Keyword}
use Rattle.vtl_lexer.specs.declared.token.Sign.{Sign}
use Rattle.vtl_lexer.specs.declared.token.Sign.TheVariants as sign
use Rattle.vtl_lexer.specs.declared.token.TokenKind.{TokenKind}
use Rattle.vtl_lexer.specs.declared.token.TokenKind.TheVariants as token
use Rattle.vtl_grammar.specs.Grammar.{Tokens}

abbrev pub Reads : Type 0 → Type 0
Reads A = Tokens → Option (A × Tokens)

-- What is read, with the number of levels that the budget has above its depth. So the depth of what is read and `spare` make up the budget.
pub record Got (A : Type 0) : Type 0 where
  pub tree : A
  pub spare : ℕ
  pub rest : Tokens

abbrev pub Gets : Type 0 → Type 0
Gets A = Tokens → Option (Got A)

abbrev pub got : {A : Type 0} → A → ℕ → Tokens → Got A
got tree spare rest = record { tree = tree; spare = spare; rest = rest }

-- ---- tokens

abbrev pub sign_place : Sign → ℕ
sign_place sign.Assign = 0
sign_place sign.Persist = 1
sign_place sign.NotEqual = 2
sign_place sign.LessOrEqual = 3
sign_place sign.GreaterOrEqual = 4
sign_place sign.Concat = 5
sign_place sign.Less = 6
sign_place sign.Greater = 7
sign_place sign.Equal = 8
sign_place sign.Plus = 9
sign_place sign.Minus = 10
sign_place sign.Star = 11
sign_place sign.Slash = 12
sign_place sign.OpenBracket = 13
sign_place sign.CloseBracket = 14
sign_place sign.OpenSquare = 15
sign_place sign.CloseSquare = 16
sign_place sign.OpenBrace = 17
sign_place sign.CloseBrace = 18
sign_place sign.Comma = 19
sign_place sign.Semicolon = 20
sign_place sign.Colon = 21
sign_place sign.Hash = 22

abbrev pub same_sign : Sign → Sign → Bool
same_sign a b = nat_eq (sign_place a) (sign_place b)

abbrev pub is_keyword : Keyword → TokenKind → Bool
is_keyword k (token.Keyword w) = same_keyword w k
is_keyword k _ = false

abbrev pub is_sign : Sign → TokenKind → Bool
is_sign s (token.Sign t) = same_sign t s
is_sign s _ = false

-- the tokens after the keyword, where it stands first
unfoldable pub after_keyword : Keyword → Tokens → Option Tokens
after_keyword k [] = None
after_keyword k (t ∷ ts) = if is_keyword k t then Some ts else None

-- the tokens after the sign, where it stands first
unfoldable pub after_sign : Sign → Tokens → Option Tokens
after_sign s [] = None
after_sign s (t ∷ ts) = if is_sign s t then Some ts else None

-- the first token, as what a table gives for it
abbrev pub word : {A : Type 0} → (TokenKind → Option A) → Reads A
word at [] = None
word at (t ∷ ts) = option_map (λ a. (a, ts)) (at t)

-- that, where the first token is in the table
abbrev pub maybe_word : {A : Type 0} → (TokenKind → Option A) → Tokens → Option A × Tokens
maybe_word at ts = given (word at ts) (λ p. (Some p.0, p.1)) (None, ts)

-- ---- optional parts and lists

-- [ keyword item ]
abbrev pub maybe_after : {A : Type 0} → Keyword → Reads A → Reads (Option A)
maybe_after k item ts = given (after_keyword k ts) (λ after. item after >>= (λ p. Some (Some p.0, p.1))) (Some (None, ts))

-- the items after some, each behind a comma; the number bounds the turns
abbrev pub more_items : {A : Type 0} → Reads A → ℕ → List A → Reads (List A)
more_items item zero items ts = Some (items, ts)
more_items item (suc n) items ts =
    given (after_sign sign.Comma ts) (λ after. item after >>= (λ p. more_items item n (items ++ p.0 ∷ []) p.1)) (Some (items, ts))

-- item { "," item }
abbrev pub listed : {A : Type 0} → Reads A → Reads (List A)
listed item ts = item ts >>= (λ p. more_items item (length p.1) (p.0 ∷ []) p.1)

-- the same for items that have a depth; the list has the depth of its deepest
abbrev pub more_got : {A : Type 0} → Gets A → ℕ → List A → ℕ → Gets (List A)
more_got item zero items spare ts = Some (got items spare ts)
more_got item (suc n) items spare ts =
    given (after_sign sign.Comma ts) (λ after. item after >>= (λ g. more_got item n (items ++ g.tree ∷ []) (min spare g.spare) g.rest)) (Some (got items spare ts))

abbrev pub got_listed : {A : Type 0} → Gets A → Gets (List A)
got_listed item ts = item ts >>= (λ g. more_got item (length g.rest) (g.tree ∷ []) g.spare g.rest)

-- what is left of a budget below a depth
abbrev pub spared : ℕ → ℕ → Option ℕ
spared n depth = if nat_le depth n then Some (n - depth) else None
