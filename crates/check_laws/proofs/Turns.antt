-- What holds of each thing that items give in turn.
use Rattle.std.proofs.Common.{◌≡◌, List, [], ◌∷◌, ◌++◌, map, Result, sym, ap, ◌∙◌, append_assoc}
use Rattle.std.proofs.lemmas.List.{append-nil, map-append}
use Rattle.std.specs.List.{AllByRecursion}
use Rattle.vtl_lists.proofs.Alls.{all_append}
use Rattle.check_faults.specs.InTurn.{in_turn}
use Rattle.check_faults.specs.declared.rules.Rule.{Rule}
use Rattle.check_laws.specs.Gives.{Gives}
use Rattle.vtl_meaning.proofs.Lists as lists
use Rattle.check_laws.proofs.Steps.{then, weaker}

-- each item gives such a thing behind such things
pub all-in-turn : {A B : Type 0} (Q : A → Type 0) (P : B → Type 0) (step : List B → A → Result B Rule) → ((done : List B) (x : A) → Q x → Gives P (step done x))
    → (done : List B) (xs : List A) → AllByRecursion P done → AllByRecursion Q xs → Gives (AllByRecursion P) (in_turn step done xs)
all-in-turn Q P step each done [] hd h = hd
all-in-turn Q P step each done (x ∷ xs) hd h =
    then P (AllByRecursion P) (step done x) (λ y. in_turn step (done ++ y ∷ []) xs) (each done x h.0)
    (λ y is. all-in-turn Q P step each (done ++ y ∷ []) xs (all_append P done (y ∷ []) hd (is, tt)) h.1)

-- the same of any items
pub in-turn : {A B : Type 0} (P : B → Type 0) (step : List B → A → Result B Rule) → ((done : List B) (x : A) → Gives P (step done x)) → (xs : List A) → Gives (AllByRecursion P) (in_turn step [] xs)
in-turn P step each xs = all-in-turn (λ x. Unit {0}) P step (λ done x u. each done x) [] xs tt (lists.every (λ x. Unit {0}) xs (λ x. tt))

-- what each thing has of its item, the list has of the items
pub kept-in-turn : {A B C : Type 0} (f : A → C) (g : B → C) (step : List B → A → Result B Rule) → ((done : List B) (x : A) → Gives (λ y. g y ≡ f x) (step done x)) → (done : List B) (xs : List A) → Gives (λ ys. map g ys ≡ map g done ++ map f xs) (in_turn step done xs)
kept-in-turn f g step each done [] = sym (append-nil (map g done))
kept-in-turn f g step each done (x ∷ xs) =
    then (λ y. g y ≡ f x) (λ ys. map g ys ≡ map g done ++ f x ∷ map f xs) (step done x) (λ y. in_turn step (done ++ y ∷ []) xs) (each done x)
    (λ y same. weaker (λ ys. map g ys ≡ map g (done ++ y ∷ []) ++ map f xs) (λ ys. map g ys ≡ map g done ++ f x ∷ map f xs) (in_turn step (done ++ y ∷ []) xs)
    (λ ys e. e ∙ ap (λ l. l ++ map f xs) (map-append g done (y ∷ [])) ∙ append_assoc (map g done) (g y ∷ []) (map f xs) ∙ ap (λ z. map g done ++ z ∷ map f xs) same) (kept-in-turn f g step each (done ++ y ∷ []) xs))
