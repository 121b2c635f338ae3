-- Numbers that are marked.
use Rattle.std.proofs.Common.{◌≡◌, ◌≢◌, ℕ, ◌<◌, ◌≤◌, List, Bool, true, false, ◌||◌, length, get_or, set, refl, sym, ap, ◌∙◌, arith, ◌⊎◌, inl, inr}
use Rattle.std.specs.Prelude.{◌==◌}
use Rattle.std.proofs.lemmas.Grind.{get_or-set_at}
use Rattle.std.proofs.lemmas.List.{get_or-set_other}
use Rattle.std.proofs.lemmas.Bool.{cases_eq}
use Rattle.vtl_lists.proofs.Tests.{or_false, or_true}

pub same_number : (a b : ℕ) → a ≡ b → (a == b) ≡ true
same_number a b e = grind arith

pub other_number : (a b : ℕ) → a ≢ b → (a == b) ≡ false
other_number a b e = grind arith

pub mark_set : (met : List Bool) (last : ℕ) → last < length met → (j : ℕ) → get_or (set met last true) j false ≡ (get_or met j false || (last == j))
mark_set met last h j = go (cases_eq last j)
  where
    go : (last ≡ j) ⊎ (last ≢ j) → get_or (set met last true) j false ≡ (get_or met j false || (last == j))
    go (inl s) = get_or-set_at met last j true false (sym s) (omega arith) ∙ sym (ap (λ b. get_or met j false || b) (same_number last j s) ∙ or_true (get_or met j false))
    go (inr s) = get_or-set_other met last j true false (λ t. s (sym t)) ∙ sym (ap (λ b. get_or met j false || b) (other_number last j s) ∙ or_false (get_or met j false))

pub mark_past : (met : List Bool) (last : ℕ) → length met ≤ last → (j : ℕ) → j < length met → get_or met j false ≡ (get_or met j false || (last == j))
mark_past met last h j k = let s : last ≢ j = λ e. omega arith in sym (ap (λ b. get_or met j false || b) (other_number last j s) ∙ or_false (get_or met j false))
