-- Values are dropped block by block, from the last one on.
use Rattle.std.proofs.Common.{◌≡◌, ℕ, zero, suc, ◌+◌, ◌-◌, ◌≤◌, inl, inr, min, List, [], ◌∷◌, ◌++◌, length, get_or, replicate, Option, None, refl, sym, ap, ◌∙◌, subst, arith, ext_get_or, length-append, get_or-append-add}
use Rattle.std.proofs.lemmas.List.{get_or_append_left, get_or_past, length-replicate}
use Rattle.std.proofs.lemmas.Bool.{cases_lt}
use Rattle.vtl_pages.specs.Joined.{joined, HaveSizes}
use Rattle.vtl_pages.specs.Places.{IsFilledTo}
use Rattle.vtl_pages.proofs.Joins.{joined-append, sizes-front}

pub get-none : (X : Type 0) (n i : ℕ) → let none : Option X = None in get_or (replicate n none) i none ≡ none
get-none X zero i = refl
get-none X (suc n) zero = refl
get-none X (suc n) (suc i) = get-none X n i

module _ {X : Type 0} where
  pub all_empty : (cs : List (Option X)) (n : ℕ) → length cs ≡ n → ((i : ℕ) → get_or cs i None ≡ None) → cs ≡ replicate n None
  all_empty cs n long none = ext_get_or None cs (replicate n None) (long ∙ sym (length-replicate n None)) (λ i lt. none i ∙ sym (get-none X n i))

  -- the last of some blocks, and those in front of it
  module _ (all bs : List (List (Option X))) (b : List (Option X)) (sizes : ℕ → ℕ) (room : ℕ) (is : all ≡ bs ++ b ∷ []) (sized : HaveSizes sizes all) (whole : room ≡ length (joined all)) where
    pub front_sized : HaveSizes sizes bs
    front_sized = (sizes-front sizes bs b (subst (HaveSizes sizes) is sized)).0

    pub last_size : length b ≡ sizes (length bs)
    last_size = (sizes-front sizes bs b (subst (HaveSizes sizes) is sized)).1

    places : joined all ≡ joined bs ++ b
    places = ap joined is ∙ joined-append bs b

    pub front_room : room - sizes (length bs) ≡ length (joined bs)
    front_room = let last = last_size in omega (arith, ap length places, length-append (joined bs) b)

    pub last_fits : sizes (length bs) ≤ room
    last_fits = let last = last_size in omega (arith, ap length places, length-append (joined bs) b)

    module _ (n before : ℕ) (filled : IsFilledTo (joined all) n) (least : before ≡ min n (room - sizes (length bs))) where
      split : IsFilledTo (joined bs ++ b) n
      split = subst (λ cs. IsFilledTo cs n) places filled

      pub front_filled : IsFilledTo (joined bs) before
      front_filled = let front = front_room in record {
        full = λ i lt. let x = split.full i (omega arith) in (x.0, sym (get_or_append_left (joined bs) b None i (omega arith)) ∙ x.1);
        free = λ i le. elim (cases_lt i (length (joined bs))) [
          | inl low ↦ sym (get_or_append_left (joined bs) b None i low) ∙ split.free i (omega arith)
          | inr past ↦ get_or_past (joined bs) i None past
        ];
      }

      pub last_filled : IsFilledTo b (n - before)
      last_filled = let front = front_room in record {
        full = λ i lt. let x = split.full (length (joined bs) + i) (omega arith) in (x.0, sym (get_or-append-add (joined bs) b i None) ∙ x.1);
        free = λ i le. sym (get_or-append-add (joined bs) b i None) ∙ split.free (length (joined bs) + i) (omega arith);
      }
