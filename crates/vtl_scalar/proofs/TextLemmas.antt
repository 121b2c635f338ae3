-- Texts without an occurrence of a pattern.
use Rattle.std.proofs.Common.{◌≡◌, ℕ, suc, false, List, [], ◌∷◌, drop, refl, ap}
use Rattle.vtl_text.specs.Texts.{begins, replace_of, replaced_from}

-- nothing is replaced where the pattern stands at no place
none_replaced : (pattern by cs : List ℕ) → ((n : ℕ) → begins pattern (drop n cs) ≡ false) → replaced_from pattern by 0 cs ≡ cs
none_replaced pattern by [] none = refl
none_replaced pattern by (c ∷ cs) none = rw (none 0) (ap (λ l. c ∷ l) (none_replaced pattern by cs (λ n. none (suc n))))

pub nothing_to_replace : (cs pattern by : List ℕ) → ((n : ℕ) → begins pattern (drop n cs) ≡ false) → replace_of cs pattern by ≡ cs
unfolding replace_of
nothing_to_replace cs [] by none = refl
nothing_to_replace cs (x ∷ pattern) by none = none_replaced (x ∷ pattern) by cs none
