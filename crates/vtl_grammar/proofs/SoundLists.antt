-- Reading lists gives what stands there.
use Rattle.std.proofs.Common.{◌≡◌, ◌++◌, ◌∙◌, ℕ, zero, suc, Option, None, Some, List, [], ◌∷◌, append_assoc, append-nil, arith, length, refl, sym}
use Rattle.vtl_lexer.specs.declared.keyword.Keyword.{Keyword}
use Rattle.vtl_lexer.specs.declared.token.Sign.TheVariants as sign
use Rattle.vtl_lexer.specs.declared.token.TokenKind.TheVariants as token
use Rattle.vtl_grammar.specs.Fits.{Filled}
use Rattle.vtl_grammar.specs.Grammar.{Tokens, listed_onto, maybe_after_onto, more_onto}
use Rattle.vtl_grammar.specs.Reading.{Reads, after_keyword, after_sign, listed, maybe_after, more_items}
use Rattle.vtl_grammar.proofs.SoundSteps.{Gives, either, follow, some_gives, weaker}
use Rattle.vtl_grammar.proofs.SoundTokens.{Reading, after_keyword-sound, after_sign-sound}

-- what was read stands there, and it fits
pub record IsRead {A : Type 0} (onto : A → Tokens → Tokens) (Holds : A → Type 0) (ts : Tokens) (p : A × Tokens) : Type 0 where
  pub spelled : ts ≡ onto p.0 p.1
  pub fits : Holds p.0

-- the items so far, and some more that stand there
record IsMore {A : Type 0} (onto : A → Tokens → Tokens) (items : List A) (ts : Tokens) (p : List A × Tokens) : Type 0 where
  others : List A
  all : p.0 ≡ items ++ others
  spelled : ts ≡ more_onto onto others p.1

more_items-sound : {A : Type 0} (onto : A → Tokens → Tokens) (item : Reads A) → Reading onto item → (turns : ℕ) (items : List A) (ts : Tokens) → Gives (IsMore onto items ts) (more_items item turns items ts)
more_items-sound onto item h zero items ts = some_gives (items, ts) (record { others = []; all = sym (append-nil items); spelled = refl })
more_items-sound onto item h (suc n) items ts =
    either (after_sign sign.Comma ts) _ _ (after_sign-sound sign.Comma ts)
    (λ after e. follow (item after) _ (h.sound after)
    (λ p is. weaker (more_items-sound onto item h n (items ++ p.0 ∷ []) p.1)
    (λ q more. record { others = p.0 ∷ more.others; all = more.all ∙ append_assoc items (p.0 ∷ []) more.others; spelled = cc })))
    (some_gives (items, ts) (record { others = []; all = sym (append-nil items); spelled = refl }))

pub listed-sound : {A : Type 0} (onto : A → Tokens → Tokens) (item : Reads A) → Reading onto item → (ts : Tokens) → Gives (IsRead (listed_onto onto) Filled ts) (listed item ts)
listed-sound onto item h ts =
    follow (item ts) _ (h.sound ts)
    (λ p is. weaker (more_items-sound onto item h (length p.1) (p.0 ∷ []) p.1)
    (λ q more. record { spelled = rw more.all cc; fits = rw more.all (omega arith) }))

-- an optional part behind a word
abbrev pub OptionAll : {A : Type 0} → (A → Type 0) → Option A → Type 0
OptionAll Holds None = Unit {0}
OptionAll Holds (Some x) = Holds x

pub maybe_after_all-sound : {A : Type 0} (k : Keyword) (onto : A → Tokens → Tokens) (Holds : A → Type 0) (item : Reads A) → ((ts : Tokens) → Gives (IsRead onto Holds ts) (item ts)) → (ts : Tokens) → Gives (IsRead (maybe_after_onto (token.Keyword k) onto) (OptionAll Holds) ts) (maybe_after k item ts)
maybe_after_all-sound k onto Holds item h ts =
    either (after_keyword k ts) _ _ (after_keyword-sound k ts)
    (λ after e. follow (item after) _ (h after) (λ p is. some_gives (Some p.0, p.1) (record { spelled = cc; fits = is.fits })))
    (some_gives (None, ts) (record { spelled = refl; fits = tt }))
