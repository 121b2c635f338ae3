-- Look-up in lists of points that are made of others.
use Rattle.std.proofs.Common.{◌≡◌, ℕ, Bool, true, false, cond, List, [], ◌∷◌, ◌++◌, map, take, Option, Some, None, refl, sym, ap, ◌∙◌, subst}
use Rattle.std.specs.Prelude.{IfSome, option_map}
use Rattle.std.specs.List.{AllByRecursion, flat_map}
use Rattle.std.specs.Option.{option_and_then, option_to_list}
use Rattle.vtl_lists.proofs.Aparts.{apart_parts}
use Rattle.vtl_cell.specs.Row.{Row, same_key, same_row}
use Rattle.vtl_cell.proofs.Rows.{same_row-is, same_row-sym}
use Rattle.vtl_tree.specs.DataSet.{Distinct, look}
use Rattle.vtl_tree.specs.Kept.{kept_row}
use Rattle.vtl_meaning.proofs.Kept.{look_is}

-- ---- options
pub map_some : {X Y : Type 0} (f g : X → Y) (o : Option X) → ((x : X) → o ≡ Some x → f x ≡ g x) → option_map f o ≡ option_map g o
map_some f g None h = refl
map_some f g (Some x) h = ap Some (h x refl)

pub then_some : {X Y : Type 0} (f g : X → Option Y) (o : Option X) → ((x : X) → o ≡ Some x → f x ≡ g x) → option_and_then f o ≡ option_and_then g o
then_some f g None h = refl
then_some f g (Some x) h = h x refl

pub map_then : {X Y Z : Type 0} (f : Y → Z) (g : X → Option Y) (o : Option X) → option_map f (option_and_then g o) ≡ option_and_then (λ x. option_map f (g x)) o
map_then f g None = refl
map_then f g (Some x) = refl

pub map_twice : {X Y Z : Type 0} (f : Y → Z) (g : X → Y) (o : Option X) → option_map f (option_map g o) ≡ option_map (λ x. f (g x)) o
map_twice f g None = refl
map_twice f g (Some x) = refl

pub then_turned : {X Y Z : Type 0} (f : X → Y → Z) (o : Option X) (u : Option Y) → option_and_then (λ y. option_map (λ x. f x y) o) u ≡ option_and_then (λ x. option_map (f x) u) o
then_turned f None None = refl
then_turned f None (Some y) = refl
then_turned f (Some x) None = refl
then_turned f (Some x) (Some y) = refl

pub kept_all : (p : Row → Bool) (o : Option Row) → ((r : Row) → o ≡ Some r → p r ≡ true) → kept_row p o ≡ o
kept_all p None h = refl
kept_all p (Some r) h = ap (λ b. cond b (Some r) None) (h r refl)

pub some_if : {X Y : Type 0} (P : Y → Type 0) (f : X → Y) (o : Option X) → ((x : X) → o ≡ Some x → P (f x)) → IfSome (option_map f o) P
some_if P f None h = tt
some_if P f (Some x) h = h x refl

-- ---- what is found
-- the key of a point that is found
pub look_key : (n : ℕ) (d : List Row) (k r : Row) → look n d k ≡ Some r → take n r ≡ k
look_key n [] k r e = cc
look_key n (x ∷ d) k r e = go (same_row (take n x) k) refl e (look_key n d k r)
  where
    go : (b : Bool) → same_row (take n x) k ≡ b → cond b (Some x) (look n d k) ≡ Some r → (look n d k ≡ Some r → take n r ≡ k) → take n r ≡ k
    go true f h ih = let same : x ≡ r = cc in ap (take n) (sym same) ∙ same_row-is (take n x) k f
    go false f h ih = ih h

-- no point has a key that differs from all
pub look_absent : (n : ℕ) (d : List Row) (k : Row) → AllByRecursion (λ r. same_row (take n r) k ≡ false) d → look n d k ≡ None
look_absent n [] k all = refl
look_absent n (r ∷ d) k all = rw all.0 (look_absent n d k all.1)

-- the key of a first point is found nowhere behind it
pub behind_none : (n : ℕ) (r : Row) (d : List Row) (k : Row) → Distinct n (r ∷ d) → same_row (take n r) k ≡ true → look n d k ≡ None
behind_none n r d k apart e = look_absent n d k (others d (apart_parts (same_key n) r d apart).0)
  where
    others : (l : List Row) → AllByRecursion (λ s. same_key n r s ≡ false) l → AllByRecursion (λ s. same_row (take n s) k ≡ false) l
    others [] all = tt
    others (s ∷ l) all = (subst (λ z. same_row (take n s) z ≡ false) (same_row-is (take n r) k e) (same_row-sym (take n s) (take n r) ∙ all.0), others l all.1)

-- ---- one point for each
cond_map : (b : Bool) (f : Row → Row) (r : Row) (o : Option Row) → cond b (Some (f r)) (option_map f o) ≡ option_map f (cond b (Some r) o)
cond_map true f r o = refl
cond_map false f r o = refl

pub look-map : (n m : ℕ) (f : Row → Row) (d : List Row) (k j : Row) → AllByRecursion (λ r. same_row (take m (f r)) k ≡ same_row (take n r) j) d → look m (map f d) k ≡ option_map f (look n d j)
look-map n m f [] k j all = refl
look-map n m f (r ∷ d) k j all =
    ap (λ b. cond b (Some (f r)) (look m (map f d) k)) all.0
    ∙ ap (cond (same_row (take n r) j) (Some (f r))) (look-map n m f d k j all.1)
    ∙ cond_map (same_row (take n r) j) f r (look n d j)

pub found_of_map : (m : ℕ) (P : Row → Type 0) (f : Row → Row) (d : List Row) (k q : Row) → AllByRecursion P d → look m (map f d) k ≡ Some q → (r : Row) × P r × (take m (f r) ≡ k)
found_of_map m P f [] k q all e = cc
found_of_map m P f (r ∷ d) k q all e = go (same_row (take m (f r)) k) refl e (found_of_map m P f d k q all.1)
  where
    go : (b : Bool) → same_row (take m (f r)) k ≡ b → cond b (Some (f r)) (look m (map f d) k) ≡ Some q → (look m (map f d) k ≡ Some q → (x : Row) × P x × (take m (f x) ≡ k)) → (x : Row) × P x × (take m (f x) ≡ k)
    go true h g ih = (r, all.0, same_row-is (take m (f r)) k h)
    go false h g ih = ih g

-- ---- at most one point from each, with its key
pub look-drawn : (n m : ℕ) (h : Row → Option Row) (d : List Row) (k : Row) → AllByRecursion (λ r. IfSome (h r) (λ q. take m q ≡ take n r)) d → Distinct n d → look m (flat_map (λ r. option_to_list (h r)) d) k ≡ option_and_then h (look n d k)
look-drawn n m h [] k all apart = refl
look-drawn n m h (r ∷ d) k all apart = go (h r) refl (same_row (take n r) k) refl (look-drawn n m h d k all.1 (apart_parts (same_key n) r d apart).1)
  where
    rest : List Row
    rest = flat_map (λ s. option_to_list (h s)) d

    go : (o : Option Row) → h r ≡ o → (b : Bool) → same_row (take n r) k ≡ b → look m rest k ≡ option_and_then h (look n d k) → look m (option_to_list o ++ rest) k ≡ option_and_then h (cond b (Some r) (look n d k))
    go None e true f ih = ih ∙ ap (option_and_then h) (behind_none n r d k apart f) ∙ sym e
    go None e false f ih = ih
    go (Some q) e true f ih =
        let key : take m q ≡ take n r = subst (λ o. IfSome o (λ z. take m z ≡ take n r)) e all.0 in
        ap (λ z. cond (same_row z k) (Some q) (look m rest k)) key ∙ ap (λ b. cond b (Some q) (look m rest k)) f ∙ sym e
    go (Some q) e false f ih =
        let key : take m q ≡ take n r = subst (λ o. IfSome o (λ z. take m z ≡ take n r)) e all.0 in
        ap (λ z. cond (same_row z k) (Some q) (look m rest k)) key ∙ ap (λ b. cond b (Some q) (look m rest k)) f ∙ ih

-- what is found among points of which P holds
pub found_map : {X : Type 0} (P : Row → Type 0) (n : ℕ) (d : List Row) (k : Row) (f g : Row → X) → AllByRecursion P d → ((r : Row) → P r → take n r ≡ k → f r ≡ g r) → option_map f (look n d k) ≡ option_map g (look n d k)
found_map P n d k f g all h = map_some f g (look n d k) (λ r e. h r (look_is P n d k r all e) (look_key n d k r e))

pub found_then : {X : Type 0} (P : Row → Type 0) (n : ℕ) (d : List Row) (k : Row) (f g : Row → Option X) → AllByRecursion P d → ((r : Row) → P r → take n r ≡ k → f r ≡ g r) → option_and_then f (look n d k) ≡ option_and_then g (look n d k)
found_then P n d k f g all h = then_some f g (look n d k) (λ r e. h r (look_is P n d k r all e) (look_key n d k r e))
