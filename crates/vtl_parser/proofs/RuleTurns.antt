-- One turn of the loop over the rules of a ruleset.
use Rattle.std.proofs.Common.{◌≡◌, ℕ, zero, suc, ◌<◌, List, [], ◌∷◌, ◌++◌, None, Some, true, false, refl, arith}
use Rattle.vtl_lexer.specs.declared.token.Sign.TheVariants as sign
use Rattle.vtl_grammar.specs.Grammar.{Tokens}
use Rattle.vtl_grammar.specs.ReadStatements.{ends_rules, more_rules}
use Rattle.vtl_grammar.specs.Reading.{Reads, after_sign}

pub more_rules-ends : {A : Type 0} (rule : Reads A) (n : ℕ) (found : List A) (ts : Tokens) → after_sign sign.Semicolon ts ≡ None → more_rules rule n found ts ≡ Some ((found, false), ts)
more_rules-ends rule zero found ts e = refl
more_rules-ends rule (suc n) found ts e = rw e refl

pub more_rules-full : {A : Type 0} (rule : Reads A) (n : ℕ) (found : List A) (ts : Tokens) → n ≡ 0 → more_rules rule n found ts ≡ Some ((found, false), ts)
more_rules-full rule zero found ts e = refl
more_rules-full rule (suc n) found ts e = absurd (omega (arith, e))

pub more_rules-last : {A : Type 0} (rule : Reads A) (n : ℕ) (found : List A) (ts after : Tokens) → 0 < n → after_sign sign.Semicolon ts ≡ Some after → ends_rules after ≡ true → more_rules rule n found ts ≡ Some ((found, true), after)
more_rules-last rule zero found ts after some e f = absurd (omega (arith, some))
more_rules-last rule (suc n) found ts after some e f = rw (e, f) refl

pub more_rules-stops : {A : Type 0} (rule : Reads A) (n : ℕ) (found : List A) (ts after : Tokens) → 0 < n → after_sign sign.Semicolon ts ≡ Some after → ends_rules after ≡ false → rule after ≡ None → more_rules rule n found ts ≡ None
more_rules-stops rule zero found ts after some e f g = absurd (omega (arith, some))
more_rules-stops rule (suc n) found ts after some e f g = rw (e, f, g) refl

pub more_rules-turn : {A : Type 0} (rule : Reads A) (n m : ℕ) (found : List A) (ts after : Tokens) (x : A) (rest : Tokens) → n ≡ suc m → after_sign sign.Semicolon ts ≡ Some after → ends_rules after ≡ false → rule after ≡ Some (x, rest)
    → more_rules rule n found ts ≡ more_rules rule m (found ++ x ∷ []) rest
more_rules-turn rule n m found ts after x rest is e f g = rw (is, e, f, g) refl
