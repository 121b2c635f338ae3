-- The columns of the rows of series are the identifiers, of which the time stands last.
use Rattle.std.proofs.Common.{◌≡◌, suc, ◌+◌, ◌<◌, Bool, true, false, not, cond, List, [], ◌∷◌, ◌++◌, length, get_or, refl, ap, ◌∙◌, subst, arith}
use Rattle.std.specs.List.{AllByRecursion, filter, position_or_len}
use Rattle.vtl_lists.specs.Apart.{all_apart}
use Rattle.vtl_lists.specs.Perm.{Perm, empty, keep, chain}
use Rattle.vtl_lists.proofs.Aparts.{all_apart-Perm}
use Rattle.vtl_lists.proofs.Perms.{AllByRecursion-Perm, Perm-map, Perm-middle, Perm-sym}
use Rattle.vtl_lists.proofs.Sorts.{AllByRecursion-filter}
use Rattle.vtl_lists.proofs.Alls.{all_front}
use Rattle.vtl_tree.specs.Columns.{identifiers_of, others_of, place_of}
use Rattle.vtl_tree.specs.Structure.{IsStructure, columns_of, names_of, same_name}
use Rattle.vtl_tree.specs.declared.structure.Component.{Component}
use Rattle.vtl_tree.specs.declared.structure.Structure.{Structure}
use Rattle.vtl_meaning.specs.Made.{AreAmong, IsColumnAt}
use Rattle.vtl_meaning.proofs.OwnColumns.{own_among, own_columns}
use Rattle.vtl_meaning.proofs.Places.{IsIdentifier, are_identifiers, columns_split, identifiers_apart, same_name-sym}
use Rattle.vtl_timing.specs.Times.{HasTime, is_time, other_identifiers, series_columns}

-- ---- a list in two parts
parts_perm : {X : Type 0} (p : X → Bool) (xs : List X) → Perm (filter (λ x. not (p x)) xs ++ filter p xs) xs
parts_perm p [] = empty
parts_perm {X = X} p (x ∷ xs) = go (p x) (parts_perm p xs)
  where
    without : List X
    without = filter (λ y. not (p y)) xs

    go : (b : Bool) → Perm (without ++ filter p xs) xs → Perm (cond (not b) (x ∷ without) without ++ cond b (x ∷ filter p xs) (filter p xs)) (x ∷ xs)
    go true ih = chain (Perm-middle without x (filter p xs)) (keep x ih)
    go false ih = keep x ih

module _ (a : Structure) where
  pub series_perm : Perm (series_columns a) (identifiers_of a)
  series_perm = parts_perm is_time (identifiers_of a)

  pub series_identifiers : AllByRecursion IsIdentifier (series_columns a)
  series_identifiers = AllByRecursion-Perm IsIdentifier (Perm-sym series_perm) (are_identifiers a)

  module _ (well : IsStructure a) where
    pub series_apart : all_apart same_name (names_of (series_columns a)) ≡ true
    series_apart = all_apart-Perm same_name same_name-sym (Perm-map (λ x. x.name) series_perm) ∙ identifiers_apart a well

    pub own_series : AreAmong (series_columns a) (series_columns a)
    own_series = own_among (series_columns a) series_apart

    -- each identifier is one of them
    pub identifiers_among : AreAmong (identifiers_of a) (series_columns a)
    identifiers_among = AllByRecursion-Perm (λ y. IsColumnAt (place_of y.name (series_columns a)) y.name y.kind (series_columns a)) series_perm own_series

    -- the others are columns of the points
    pub others_among : AreAmong (other_identifiers a) (columns_of a)
    others_among =
        let P : Component → Type 0 = λ y. IsColumnAt (place_of y.name (columns_of a)) y.name y.kind (columns_of a) in
        AllByRecursion-filter P (λ x. not (is_time x)) (identifiers_of a) (all_front P (identifiers_of a) (others_of a) (subst (AllByRecursion P) (columns_split a) (own_columns a well)))

-- ---- the time
-- the only one that passes stands where the first one stands
pub record IsOnly {X : Type 0} (p : X → Bool) (xs : List X) : Type 0 where
  pub item : X
  pub only : filter p xs ≡ item ∷ []
  pub within : position_or_len p xs < length xs
  pub at : get_or xs (position_or_len p xs) item ≡ item

none_left : {X : Type 0} (ys : List X) → suc (length ys) ≡ 1 → ys ≡ []
none_left [] e = refl
none_left (y ∷ ys) e = absurd (omega (arith, e))

pub only_one : {X : Type 0} (p : X → Bool) (xs : List X) → length (filter p xs) ≡ 1 → IsOnly p xs
only_one p [] e = absurd (omega (arith, e))
only_one {X = X} p (x ∷ xs) e = go (p x) refl e (λ f. only_one p xs f)
  where
    go : (b : Bool) → p x ≡ b → length (cond b (x ∷ filter p xs) (filter p xs)) ≡ 1 → (length (filter p xs) ≡ 1 → IsOnly p xs) → IsOnly p (x ∷ xs)
    go true t f later =
        let here : position_or_len p (x ∷ xs) ≡ 0 = ap (λ b. cond (not b) (1 + position_or_len p xs) 0) t in
        record {
          item = x;
          only = ap (λ b. cond b (x ∷ filter p xs) (filter p xs)) t ∙ ap (λ l. x ∷ l) (none_left (filter p xs) f);
          within = omega (arith, here);
          at = ap (λ n. get_or (x ∷ xs) n x) here;
        }
    go false t f later =
        let more = later f in
        let next : 1 + position_or_len p xs ≡ suc (position_or_len p xs) = omega arith in
        let there : position_or_len p (x ∷ xs) ≡ suc (position_or_len p xs) = ap (λ b. cond (not b) (1 + position_or_len p xs) 0) t ∙ next in
        record {
          item = more.item;
          only = ap (λ b. cond b (x ∷ filter p xs) (filter p xs)) t ∙ more.only;
          within = omega (arith, there, more.within);
          at = ap (λ n. get_or (x ∷ xs) n more.item) there ∙ more.at;
        }

pub time_only : (a : Structure) → HasTime a → IsOnly is_time (identifiers_of a)
time_only a h = only_one is_time (identifiers_of a) h
