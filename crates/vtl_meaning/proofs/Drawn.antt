-- Points that are drawn from points, at most one from each: where each keeps its key and fits the columns, they are a data set.
use Rattle.std.proofs.Common.{◌≡◌, ℕ, Bool, true, false, List, [], ◌∷◌, ◌++◌, map, take, Option, Some, None, refl, sym, ap, ◌∙◌, subst, true≢false}
use Rattle.std.specs.Prelude.{option_map}
use Rattle.std.specs.List.{AllByRecursion, flat_map}
use Rattle.std.specs.Option.{option_to_list}
use Rattle.vtl_lists.specs.Apart.{all_apart}
use Rattle.vtl_lists.proofs.Aparts.{apart_more, apart_parts}
use Rattle.vtl_lists.proofs.Alls.{all_append}
use Rattle.vtl_cell.specs.Row.{Row, same_key, same_row}
use Rattle.vtl_tree.specs.DataSet.{Distinct, IsDataSet, is_point}
use Rattle.vtl_tree.specs.Structure.{IsStructure, columns_of, key_width}
use Rattle.vtl_tree.specs.declared.structure.Structure.{Structure}

-- no point, or one of which P holds
abbrev pub AtMostOne : (Row → Type 0) → List Row → Type 0
AtMostOne P [] = Unit {0}
AtMostOne P (q ∷ []) = P q
AtMostOne P (q ∷ other ∷ more) = ⊥

-- each point of d gives at most one, in this relation to it
abbrev pub AreDrawn : (Row → Row → Type 0) → (Row → List Row) → List Row → Type 0
AreDrawn R g d = AllByRecursion (λ r. AtMostOne (R r) (g r)) d

pub one_of_option : (P : Row → Type 0) (f : Row → Row) (o : Option Row) → ((q : Row) → o ≡ Some q → P (f q)) → AtMostOne P (option_to_list (option_map f o))
one_of_option P f None h = tt
one_of_option P f (Some q) h = h q refl

pub drawn_all : (R : Row → Row → Type 0) (G : Row → Type 0) → ((r q : Row) → R r q → G q) → (g : Row → List Row) (d : List Row) → AreDrawn R g d → AllByRecursion G (flat_map g d)
drawn_all R G f g [] all = tt
drawn_all R G f g (r ∷ d) all = all_append G (g r) (flat_map g d) (go (g r) all.0) (drawn_all R G f g d all.1)
  where
    go : (l : List Row) → AtMostOne (R r) l → AllByRecursion G l
    go [] h = tt
    go (q ∷ []) h = (f r q h, tt)
    go (q ∷ other ∷ more) h = absurd h

-- points that tell those apart that they are drawn from
module _ (R : Row → Row → Type 0) (same drawn_same : Row → Row → Bool) (back : (r s q z : Row) → R r q → R s z → drawn_same q z ≡ true → same r s ≡ true) (g : Row → List Row) where
  drawn_differ : (r q : Row) (d : List Row) → R r q → AllByRecursion (λ y. same r y ≡ false) d → AreDrawn R g d → AllByRecursion (λ z. drawn_same q z ≡ false) (flat_map g d)
  drawn_differ r q [] h apart all = tt
  drawn_differ r q (y ∷ d) h apart all = all_append (λ z. drawn_same q z ≡ false) (g y) (flat_map g d) (go (g y) all.0) (drawn_differ r q d h apart.1 all.1)
    where
      one : (z : Row) → R y z → (b : Bool) → drawn_same q z ≡ b → drawn_same q z ≡ false
      one z i true e = absurd (true≢false (sym (back r y q z h i e) ∙ apart.0))
      one z i false e = e

      go : (l : List Row) → AtMostOne (R y) l → AllByRecursion (λ z. drawn_same q z ≡ false) l
      go [] i = tt
      go (z ∷ []) i = (one z i (drawn_same q z) refl, tt)
      go (z ∷ other ∷ more) i = absurd i

  pub drawn_apart : (d : List Row) → AreDrawn R g d → all_apart same d ≡ true → all_apart drawn_same (flat_map g d) ≡ true
  drawn_apart [] all e = refl
  drawn_apart (r ∷ d) all e = go (g r) all.0 (drawn_apart d all.1 (apart_parts same r d e).1)
    where
      go : (l : List Row) → AtMostOne (R r) l → all_apart drawn_same (flat_map g d) ≡ true → all_apart drawn_same (l ++ flat_map g d) ≡ true
      go [] h ih = ih
      go (q ∷ []) h ih = apart_more drawn_same q (flat_map g d) (drawn_differ r q d h (apart_parts same r d e).0 all.1) ih
      go (q ∷ other ∷ more) h ih = absurd h

-- a point of the structure, with the key that a row has in its first n cells
abbrev pub Keeps : Structure → ℕ → Row → Row → Type 0
Keeps s n r q = (is_point (columns_of s) q ≡ true) × (take (key_width s) q ≡ take n r)

-- rows whose keys are the first cells of others
pub same_keys_back : (n m : ℕ) (r s q z : Row) → take m q ≡ take n r → take m z ≡ take n s → same_key m q z ≡ true → same_key n r s ≡ true
same_keys_back n m r s q z h i e = ap (λ x. same_row x (take n s)) (sym h) ∙ ap (λ x. same_row (take m q) x) (sym i) ∙ e

pub drawn_kept : (s : Structure) (n : ℕ) (g : Row → List Row) (d : List Row) → IsStructure s → AreDrawn (Keeps s n) g d → Distinct n d → IsDataSet s (flat_map g d)
drawn_kept s n g d w all apart = record {
  well_formed = w;
  typed = drawn_all (Keeps s n) (λ q. is_point (columns_of s) q ≡ true) (λ r q h. h.0) g d all;
  distinct = drawn_apart (Keeps s n) (same_key n) (same_key (key_width s)) (λ r t q z h i. same_keys_back n (key_width s) r t q z h.1 i.1) g d all apart;
}

pub map_drawn : (f : Row → Row) (d : List Row) → map f d ≡ flat_map (λ r. f r ∷ []) d
map_drawn f [] = refl
map_drawn f (r ∷ d) = ap (λ l. f r ∷ l) (map_drawn f d)

-- one point for each
pub mapped_kept : (s : Structure) (n : ℕ) (f : Row → Row) (d : List Row) → IsStructure s → AllByRecursion (λ r. Keeps s n r (f r)) d → Distinct n d → IsDataSet s (map f d)
mapped_kept s n f d w all apart = subst (λ l. IsDataSet s l) (sym (map_drawn f d)) (drawn_kept s n (λ r. f r ∷ []) d w all apart)
