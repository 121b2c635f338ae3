-- The operand whose identifiers contain those of all.
use Rattle.std.proofs.Common.{◌≡◌, ℕ, suc, ◌+◌, ◌<◌, Bool, true, false, cond, List, ◌∷◌, Some, length, get_or, drop, drop-cons, refl, sym, ap, ◌∙◌, arith}
use Rattle.std.proofs.lemmas.Bool.{false≢true}
use Rattle.std.proofs.lemmas.List.Folds.{list_all_at}
use Rattle.std.specs.List.{find}
use Rattle.vtl_tree.specs.Pairs.{contains}
use Rattle.vtl_tree.specs.declared.joins.Operand.{Operand}
use Rattle.vtl_tree.specs.Joins.{contains_all}
use Rattle.vtl_tree.proofs.Containing.{all_pass_more, contains_onward}

-- what contains an operand contains all that it contains
all-of : (rest : List Operand) (c o : Operand) → contains c.structure o.structure ≡ true → contains_all rest o ≡ true → contains_all rest c ≡ true
all-of rest c o e = all_pass_more (λ x. contains o.structure x.structure) (λ x. contains c.structure x.structure) (λ x. contains_onward c.structure o.structure x.structure e) rest

-- ---- one more operand beside the one that is left
rest-at : (os : List Operand) (o : Operand) (i : ℕ) → i < length os → o ≡ get_or os i o → drop i os ≡ o ∷ drop (i + 1) os
rest-at os o i h at =
    let next : suc i ≡ i + 1 = omega arith in
    drop-cons os i o h ∙ ap (λ n. get_or os i o ∷ drop n os) next ∙ ap (λ x. x ∷ drop (i + 1) os) (sym at)

-- an operand stays where it contains the next one
pub stays : (os : List Operand) (c o n : Operand) (i : ℕ) → i < length os → o ≡ get_or os i o → find (contains_all os) (c ∷ drop i os) ≡ find (contains_all os) os → contains c.structure o.structure ≡ true → n ≡ c
    → find (contains_all os) (n ∷ drop (i + 1) os) ≡ find (contains_all os) os
stays os c o n i h at before e new =
    ap (λ x. find (contains_all os) (x ∷ drop (i + 1) os)) new ∙ go (contains_all os c) (contains_all os o) refl refl ∙ ap (λ l. find (contains_all os) (c ∷ l)) (sym (rest-at os o i h at)) ∙ before
  where
    go : (first next : Bool) → contains_all os c ≡ first → contains_all os o ≡ next → cond first (Some c) (find (contains_all os) (drop (i + 1) os)) ≡ cond first (Some c) (cond next (Some o) (find (contains_all os) (drop (i + 1) os)))
    go true next p q = refl
    go false true p q = absurd (false≢true (sym p ∙ all-of os c o e q))
    go false false p q = refl

-- and gives way to it where it does not
pub gives-way : (os : List Operand) (c o n : Operand) (i : ℕ) → i < length os → o ≡ get_or os i o → find (contains_all os) (c ∷ drop i os) ≡ find (contains_all os) os → contains c.structure o.structure ≡ false → n ≡ o
    → find (contains_all os) (n ∷ drop (i + 1) os) ≡ find (contains_all os) os
gives-way os c o n i h at before e new =
    let misses : contains_all os c ≡ false = list_all_at (λ x. contains c.structure x.structure) os i o h (ap (λ x. contains c.structure x.structure) (sym at) ∙ e) in
    ap (λ x. find (contains_all os) (x ∷ drop (i + 1) os)) new ∙ ap (find (contains_all os)) (sym (rest-at os o i h at)) ∙ ap (λ b. cond b (Some c) (find (contains_all os) (drop i os))) (sym misses) ∙ before
