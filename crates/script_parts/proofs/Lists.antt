-- What holds at a place of a list, and what a list of lists has of one more.
use Rattle.std.proofs.Common.{◌≡◌, ℕ, zero, suc, List, [], ◌∷◌, ◌++◌, sym, ap, ◌∙◌, append_assoc}
use Rattle.std.specs.List.{flat_map}
use Rattle.std.proofs.lemmas.List.{append-nil}

pub flat_one_more : {X Y : Type 0} (f : X → List Y) (xs : List X) (x : X) → flat_map f (xs ++ x ∷ []) ≡ flat_map f xs ++ f x
flat_one_more f [] x = append-nil (f x)
flat_one_more f (y ∷ ys) x = ap (λ l. f y ++ l) (flat_one_more f ys x) ∙ sym (append_assoc (f y) (flat_map f ys) (f x))
