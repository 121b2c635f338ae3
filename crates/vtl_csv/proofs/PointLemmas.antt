-- Steps of the loops over the columns and the records of a CSV file.
use Rattle.std.proofs.Common.{◌≡◌, ℕ, zero, suc, ◌<◌, ◌≤◌, List, [], ◌∷◌, get_or, length, sym, ap, ◌∙◌, arith}
use Rattle.std.specs.List.{zip}
use Rattle.std.proofs.lemmas.List.{length-map}
use Rattle.std.specs.Borrow.{Bor}
use Rattle.vtl_tree.specs.Shown.{shown}
use Rattle.std.proofs.lemmas.Slice.Zip.{length-zip, get_or-zip}
use Rattle.vtl_tree.specs.declared.structure.Component.{Component}

-- the pair at a place
pub pair_at : {A B : Type 0} (xs : List A) (ys : List B) (i : ℕ) (x : A) (y : B) → i < length xs → i < length ys → x ≡ get_or xs i x → y ≡ get_or ys i y → get_or (zip xs ys) i (x, y) ≡ (x, y)
pair_at xs ys i x y h k e f = get_or-zip xs ys i (x, y) h k ∙ ap (λ a. (a, get_or ys i y)) (sym e) ∙ ap (λ b. (x, b)) (sym f)

pub zip_within : {A B : Type 0} (xs : List A) (ys : List B) (i : ℕ) → i < length xs → length ys ≡ length xs → i < length (zip xs ys)
zip_within xs ys i h e = let l = length-zip xs ys in omega arith

pub zip_ended : {A B : Type 0} (xs : List A) (ys : List B) (i : ℕ) → length xs ≤ i → length (zip xs ys) ≤ i
zip_ended xs ys i h = let l = length-zip xs ys in omega arith

-- what a list has at a place, whatever stands for what it lacks
pub read_there : (xs : List (List ℕ)) (i : ℕ) (x : List ℕ) → i < length xs → get_or xs i [] ≡ x → x ≡ get_or xs i x
read_there [] i x h e = absurd (omega arith)
read_there (y ∷ ys) zero x h e = sym e
read_there (y ∷ ys) (suc i) x h e = let k : i < length ys = omega arith in read_there ys i x k e

-- references show as many values
pub length-shown : (rs : List (Bor Component)) → length (shown rs) ≡ length rs
length-shown rs = simp length-map

pub columns_shown : (rs : List (Bor Component)) (i : ℕ) → i < length rs → i < length (shown rs)
columns_shown rs i h = let l = length-shown rs in omega arith

pub shown_ended : (rs : List (Bor Component)) (i : ℕ) → length rs ≤ i → length (shown rs) ≤ i
shown_ended rs i h = let l = length-shown rs in omega arith
