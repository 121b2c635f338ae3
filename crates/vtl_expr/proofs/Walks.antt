-- A walk over rows that keeps what passes and joins the faults.
use Rattle.std.proofs.Common.{◌≡◌, ℕ, ◌+◌, ◌<◌, List, [], ◌∷◌, ◌++◌, Bool, cond, length, get_or, take, Option, sym, ap, ◌∙◌}
use Rattle.std.specs.List.{filter}
use Rattle.std.proofs.lemmas.List.Elements.{filter_more}
use Rattle.vtl_decimal.specs.declared.number.Fault.{Fault}
use Rattle.vtl_cell.specs.Outcome.{join, faults_by}
use Rattle.vtl_tree.proofs.Faults.{faults_by_more}

pub kept_more : {X : Type 0} (p : X → Bool) (xs : List X) (i : ℕ) (x : X) (kept kept' : List X) → i < length xs → x ≡ get_or xs i x → kept ≡ filter p (take i xs) → kept' ≡ kept ++ cond (p x) (x ∷ []) [] → kept' ≡ filter p (take (i + 1) xs)
kept_more p xs i x kept kept' h at k k' = k' ∙ ap (λ l. l ++ cond (p x) (x ∷ []) []) k ∙ ap (λ y. filter p (take i xs) ++ cond (p y) (y ∷ []) []) at ∙ sym (filter_more p xs i x h)

pub seen_more : {X : Type 0} (f : X → Option Fault) (xs : List X) (i : ℕ) (x : X) (s s' : Option Fault) → i < length xs → x ≡ get_or xs i x → s ≡ faults_by f (take i xs) → s' ≡ join s (f x) → s' ≡ faults_by f (take (i + 1) xs)
seen_more f xs i x s s' h at k k' = k' ∙ ap (λ g. join g (f x)) k ∙ ap (λ y. join (faults_by f (take i xs)) (f y)) at ∙ sym (faults_by_more f xs i x h)
