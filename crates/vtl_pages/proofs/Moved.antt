-- The values of some places are moved into others, the last one first.
use Rattle.std.proofs.Common.{◌≡◌, ◌≢◌, ℕ, zero, suc, ◌+◌, ◌-◌, ◌<◌, ◌≤◌, List, [], ◌∷◌, ◌++◌, length, take, set, get_or, Option, Some, None, refl, sym, ap, ◌∙◌, subst, arith, append-nil, length-take, take_all, get_or-set_other}
use Rattle.std.proofs.lemmas.List.{set-set, set_comm}
use Rattle.std.proofs.lemmas.List.Edits.{length-swap, swap_is}
use Rattle.std.specs.List.{swap}
use Rattle.vtl_pages.specs.Laid.{laid, IsLaid}
use Rattle.vtl_pages.specs.Ordered.{swap_all}
use Rattle.vtl_pages.specs.Places.{values, IsFilled}
use Rattle.vtl_pages.specs.Stored.{stored}
use Rattle.vtl_pages.proofs.Lays.{get-laid, item_at, item_is, item_there, laid_out, swap-laid}
use Rattle.vtl_pages.proofs.Puts.{IsPutFrom}
use Rattle.vtl_pages.proofs.Rows.{filled_below}
use Rattle.vtl_pages.proofs.Swaps.{length-swap_all}

module _ {X : Type 0} where
  emptied_place : (cs : List (Option X)) (k i : ℕ) → (k < i → get_or cs i None ≡ None) → k ≤ i → get_or (set cs k None) i None ≡ None
  emptied_place [] k i h le = refl
  emptied_place (c ∷ cs) zero zero h le = refl
  emptied_place (c ∷ cs) zero (suc i) h le = h (omega arith)
  emptied_place (c ∷ cs) (suc k) zero h le = absurd (omega arith)
  emptied_place (c ∷ cs) (suc k) (suc i) h le = emptied_place cs k i (λ lt. h (omega arith)) (omega arith)

  take_next : (xs : List X) (k : ℕ) (v : X) → k < length xs → v ≡ get_or xs k v → take (suc k) xs ≡ take k xs ++ v ∷ []
  take_next [] k v lt e = absurd (omega arith)
  take_next (x ∷ xs) zero v lt e = ap (λ y. y ∷ []) (sym e)
  take_next (x ∷ xs) (suc k) v lt e = ap (λ l. x ∷ l) (take_next xs k v (omega arith) e)

  pub same_stored : {cs ds : List (Option X)} {a b m n : ℕ} → cs ≡ ds → a ≡ b → m ≡ n → stored cs a m ≡ stored ds b n
  same_stored e f g = λ i. stored (e i) (f i) (g i)

  -- all values are left at first
  pub all_left : (old cs : List (Option X)) (from n room : ℕ) → IsLaid cs n room → IsPutFrom old old from (values cs) (take n (values cs))
  all_left old cs from n room h =
      let count = h.count in let whole : take n (values cs) ≡ values cs = take_all n (values cs) (omega arith) in
      ([], sym (append-nil (take n (values cs)) ∙ whole), refl)

  module _ (cs ds : List (Option X)) (n room left k : ℕ) (h : IsLaid cs n room) (within : left ≤ n) (next : left ≡ suc k) (kept : (i : ℕ) → i < left → get_or ds i None ≡ get_or cs i None) where
    pub value_there : IsFilled ds k
    value_there = let count = h.count in let x = item_there cs n room h k (omega arith) in (x.0, kept k (omega arith) ∙ x.1)

    pub value_is : (v : X) → get_or ds k None ≡ Some v → take left (values cs) ≡ take k (values cs) ++ v ∷ []
    value_is v e = let count = h.count in
        ap (λ j. take j (values cs)) next ∙ take_next (values cs) k v (omega arith) (item_is cs n room h k v (omega arith) (sym (kept k (omega arith)) ∙ e))

    pub shorter : k ≡ length (take k (values cs))
    shorter = let count = h.count in omega (arith, length-take k (values cs))

    pub still_kept : (es : List (Option X)) → es ≡ set ds k None → (i : ℕ) → i < k → get_or es i None ≡ get_or cs i None
    still_kept es e i lt = ap (λ l. get_or l i None) e ∙ get_or-set_other ds k i None None (λ same. absurd (omega arith)) ∙ kept i (omega arith)

    pub more_empty : (es : List (Option X)) → es ≡ set ds k None → ((i : ℕ) → left ≤ i → get_or ds i None ≡ None) → (i : ℕ) → k ≤ i → get_or es i None ≡ None
    more_empty es e empty i le = ap (λ l. get_or l i None) e ∙ emptied_place ds k i (λ lt. empty i (omega arith)) le

  -- two values are taken, and each is put where the other was
  pub exchanged : (cs : List (Option X)) (i j : ℕ) (x y : X) → i ≢ j → get_or cs i None ≡ Some x → get_or (set cs i None) j None ≡ Some y → set (set (set (set cs i None) j None) i (Some y)) j (Some x) ≡ swap cs i j
  exchanged cs i j x y ne ex ey =
      let y_there : get_or cs j None ≡ Some y = sym (get_or-set_other cs i j None None (λ e. ne (sym e))) ∙ ey in
      ap (λ l. set l j (Some x)) (set_comm (set cs i None) j i None (Some y) (λ e. ne (sym e)) ∙ ap (λ l. set l j None) (set-set cs i None (Some y))) ∙ set-set (set cs i (Some y)) j None (Some x)
      ∙ (λ k. set (set cs i (sym y_there k)) j (sym ex k)) ∙ swap_is cs i j None (filled_below cs i x ex) (filled_below cs j y y_there)

  -- a place is empty once its value is taken
  pub emptied_at : (cs : List (Option X)) (i : ℕ) → get_or (set cs i None) i None ≡ None
  emptied_at cs i = emptied_place cs i i (λ lt. absurd (omega arith)) (omega arith)

  -- another place is filled while one is empty
  pub other_filled : (cs ds : List (Option X)) (i j : ℕ) → i ≢ j → ds ≡ set cs i None → IsFilled cs j → IsFilled ds j
  other_filled cs ds i j ne is x = (x.0, ap (λ l. get_or l j None) is ∙ get_or-set_other cs i j None None (λ e. ne (sym e)) ∙ x.1)

  -- some values change places with others, all of them among those in front
  pub swap_all-laid : (xs : List X) (n a b k : ℕ) → a + k ≤ length xs → b + k ≤ length xs → swap_all (laid xs n) a b k ≡ laid (swap_all xs a b k) n
  swap_all-laid xs n a b zero la lb = refl
  swap_all-laid xs n a b (suc k) la lb =
      let long = length-swap_all xs a b k in
      ap (λ l. swap l (a + k) (b + k)) (swap_all-laid xs n a b k (omega arith) (omega arith)) ∙ swap-laid (swap_all xs a b k) n (a + k) (b + k) (omega arith) (omega arith)

  module _ (cs : List (Option X)) (a b k n : ℕ) (h : IsLaid cs (length (values cs)) (length cs)) (more : k < n) (la : a + n ≤ length (values cs)) (lb : b + n ≤ length (values cs)) where
    pub still_filled : (ds : List (Option X)) (i : ℕ) → ds ≡ swap_all cs a b k → i < length (values cs) → IsFilled ds i
    still_filled ds i is lt =
        let xs = values cs in let zs = swap_all xs a b k in let s = length cs - length xs in
        let x = get-laid zs s i (item_at zs i (subst (λ m. i < m) (sym (length-swap_all xs a b k)) lt)) (subst (λ m. i < m) (sym (length-swap_all xs a b k)) lt) in
        (get_or zs i (item_at zs i (subst (λ m. i < m) (sym (length-swap_all xs a b k)) lt)), ap (λ l. get_or l i None) (is ∙ ap (λ l. swap_all l a b k) h.places ∙ swap_all-laid xs s a b k (omega arith) (omega arith)) ∙ x)

  pub one_swapped : (cs : List (Option X)) (n room : ℕ) → IsLaid cs n room → (ds : List (Option X)) (i j : ℕ) → i < length (values cs) → j < length (values cs) → ds ≡ swap cs i j → IsLaid ds n room × (values ds ≡ swap (values cs) i j)
  one_swapped cs n room h ds i j li lj is =
      let most = h.within in
      laid_out ds (swap (values cs) i j) n room (room - n) (h.count ∙ sym (length-swap (values cs) i j)) (omega arith) (is ∙ ap (λ l. swap l i j) h.places ∙ swap-laid (values cs) (room - n) i j li lj)

  pub all_swapped : (cs : List (Option X)) (n room : ℕ) → IsLaid cs n room → (ds : List (Option X)) (a b k : ℕ) → a + k ≤ length (values cs) → b + k ≤ length (values cs) → ds ≡ swap_all cs a b k → IsLaid ds n room × (values ds ≡ swap_all (values cs) a b k)
  all_swapped cs n room h ds a b k la lb is =
      let most = h.within in
      laid_out ds (swap_all (values cs) a b k) n room (room - n) (h.count ∙ sym (length-swap_all (values cs) a b k)) (omega arith) (is ∙ ap (λ l. swap_all l a b k) h.places ∙ swap_all-laid (values cs) (room - n) a b k la lb)
