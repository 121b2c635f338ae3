-- One turn of the loop over the signed items of a rule.
use Rattle.std.proofs.Common.{◌≡◌, ℕ, zero, suc, ◌<◌, List, [], ◌∷◌, ◌++◌, None, Some, refl, arith}
use Rattle.vtl_syntax.specs.declared.parts.Comp.{Comp}
use Rattle.vtl_syntax.specs.declared.parts.SignedComp.{SignedComp}
use Rattle.vtl_syntax.specs.declared.word_groups.Addition.{Addition}
use Rattle.vtl_grammar.specs.Grammar.{Tokens}
use Rattle.vtl_grammar.specs.ReadStatements.{more_signed}
use Rattle.vtl_grammar.specs.Reading.{word}
use Rattle.vtl_grammar.specs.Words.{addition_at, comp_at}

pub more_signed-ends : (n : ℕ) (items : List SignedComp) (ts : Tokens) → word addition_at ts ≡ None → more_signed n items ts ≡ Some (items, ts)
unfolding more_signed
more_signed-ends zero items ts e = refl
more_signed-ends (suc n) items ts e = rw e refl

pub more_signed-full : (n : ℕ) (items : List SignedComp) (ts : Tokens) → n ≡ 0 → more_signed n items ts ≡ Some (items, ts)
unfolding more_signed
more_signed-full zero items ts e = refl
more_signed-full (suc n) items ts e = absurd (omega (arith, e))

pub more_signed-stops : (n : ℕ) (items : List SignedComp) (ts after : Tokens) (s : Addition) → 0 < n → word addition_at ts ≡ Some (s, after) → word comp_at after ≡ None → more_signed n items ts ≡ None
unfolding more_signed
more_signed-stops zero items ts after s some e f = absurd (omega (arith, some))
more_signed-stops (suc n) items ts after s some e f = rw (e, f) refl

pub more_signed-turn : (n m : ℕ) (items : List SignedComp) (ts after : Tokens) (s : Addition) (c : Comp) (rest : Tokens) → n ≡ suc m → word addition_at ts ≡ Some (s, after) → word comp_at after ≡ Some (c, rest)
    → more_signed n items ts ≡ more_signed m (items ++ record { sign = s; item = c } ∷ []) rest
unfolding more_signed
more_signed-turn n m items ts after s c rest is e f = rw (is, e, f) refl
