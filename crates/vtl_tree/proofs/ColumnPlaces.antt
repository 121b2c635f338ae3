-- The kind of a column by its name.
use Rattle.std.proofs.Common.{◌≡◌, ℕ, zero, suc, ◌<◌, ◌≤◌, List, [], ◌∷◌, length, get_or, Option, Some, None, refl, sym, ap, ◌∙◌, arith}
use Rattle.std.specs.Option.{option_map_or}
use Rattle.std.specs.Prelude.{slice_get}
use Rattle.std.specs.Borrow.{Bor}
use Rattle.std.proofs.lemmas.List.Folds.{find_at}
use Rattle.vtl_tree.specs.Shown.{shown}
use Rattle.vtl_tree.specs.Structure.{same_name}
use Rattle.vtl_cell.specs.declared.kind.Kind.TheVariants as k
use Rattle.vtl_tree.specs.declared.structure.Component.{Component}
use Rattle.vtl_tree.specs.Columns.{kind_named, place_of}

there : (xs : List (Bor Component)) (i : ℕ) (x : Bor Component) → i < length xs → x ≡ get_or xs i x → slice_get (shown xs) i ≡ Some x.now
there [] i x h e = absurd (omega arith)
there (y ∷ ys) zero x h e = ap (λ (z : Bor Component). Some z.now) (sym e)
there (y ∷ ys) (suc i) x h e = there ys i x (omega arith) e

gone : (xs : List (Bor Component)) (i : ℕ) → length xs ≤ i → slice_get (shown xs) i ≡ None
gone [] i h = refl
gone (y ∷ ys) zero h = absurd (omega arith)
gone (y ∷ ys) (suc i) h = gone ys i (omega arith)

kind_looked : (name : List ℕ) (xs : List Component) → kind_named name xs ≡ option_map_or (λ x. x.kind) (slice_get xs (place_of name xs)) k.Null
kind_looked name xs = ap (λ (o : Option Component). option_map_or (λ x. x.kind) o k.Null) (find_at (λ x. same_name x.name name) xs)

pub kind_there : (name : List ℕ) (xs : List (Bor Component)) (i : ℕ) (x : Bor Component) → i ≡ place_of name (shown xs) → i < length xs → x ≡ get_or xs i x → x.now.kind ≡ kind_named name (shown xs)
kind_there name xs i x at h e =
    sym (kind_looked name (shown xs) ∙ ap (λ j. option_map_or (λ x. x.kind) (slice_get (shown xs) j) k.Null) (sym at) ∙ ap (λ (o : Option Component). option_map_or (λ x. x.kind) o k.Null) (there xs i x h e))

pub kind_gone : (name : List ℕ) (xs : List (Bor Component)) (i : ℕ) → i ≡ place_of name (shown xs) → length xs ≤ i → k.Null ≡ kind_named name (shown xs)
kind_gone name xs i at h =
    sym (kind_looked name (shown xs) ∙ ap (λ j. option_map_or (λ x. x.kind) (slice_get (shown xs) j) k.Null) (sym at) ∙ ap (λ (o : Option Component). option_map_or (λ x. x.kind) o k.Null) (gone xs i h))
