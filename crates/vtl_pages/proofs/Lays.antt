-- Items that stand in front in some places: they are found, one is added, one is taken, and two change places.
use Rattle.std.proofs.Common.{◌≡◌, ℕ, zero, suc, ◌+◌, ◌-◌, ◌<◌, ◌≤◌, List, [], ◌∷◌, ◌++◌, map, length, take, drop, set, get_or, replicate, Option, Some, None, refl, sym, ap, ◌∙◌, arith, length-append, length-drop, length-set, append_assoc, append-nil, take-append-drop, drop-cons, drop_of_length-le}
use Rattle.std.proofs.lemmas.List.{length-map, length-replicate, get_or_append_left, get_or-append_right, get_or-map, set-append_left, map-set, drop-append-le, take-append-le, take-map, drop-map, replicate-append-replicate}
use Rattle.std.proofs.lemmas.List.Edits.{swap_is}
use Rattle.std.specs.List.{swap}
use Rattle.vtl_pages.specs.Laid.{laid, IsLaid}
use Rattle.vtl_pages.specs.Paged.{Paged, paged}
use Rattle.vtl_pages.specs.Places.{values, put_all, IsFilled, IsFilledTo, IsRun}
use Rattle.vtl_pages.proofs.Emptied.{get-none}
use Rattle.vtl_pages.proofs.Puts.{set-put_all}

module _ {X : Type 0} where
  pub values-map : (xs : List X) → values (map Some xs) ≡ xs
  values-map [] = refl
  values-map (x ∷ xs) = ap (λ l. x ∷ l) (values-map xs)

  values-none : (n : ℕ) → values {X = X} (replicate n None) ≡ []
  values-none zero = refl
  values-none (suc n) = values-none n

  values-front : (xs : List X) (cs : List (Option X)) → values (map Some xs ++ cs) ≡ xs ++ values cs
  values-front [] cs = refl
  values-front (x ∷ xs) cs = ap (λ l. x ∷ l) (values-front xs cs)

  pub same_items : (xs ys : List X) → map Some xs ≡ map Some ys → xs ≡ ys
  same_items xs ys e = sym (values-map xs) ∙ ap values e ∙ values-map ys

  pub values-laid : (xs : List X) (n : ℕ) → values (laid xs n) ≡ xs
  unfolding laid
  values-laid xs n = values-front xs (replicate n None) ∙ ap (λ l. xs ++ l) (values-none n) ∙ append-nil xs

  pub length-laid : (xs : List X) (n : ℕ) → length (laid xs n) ≡ length xs + n
  unfolding laid
  length-laid xs n = let none : Option X = None in omega (arith, length-append (map Some xs) (replicate n none), length-map xs Some, length-replicate n none)

  pub get-laid : (xs : List X) (n i : ℕ) (d : X) → i < length xs → get_or (laid xs n) i None ≡ Some (get_or xs i d)
  unfolding laid
  get-laid xs n i d lt = let long = length-map xs Some in get_or_append_left (map Some xs) (replicate n None) None i (omega arith) ∙ get_or-map Some xs i d None lt

  pub get-free : (xs : List X) (n i : ℕ) → length xs ≤ i → get_or (laid xs n) i None ≡ None
  unfolding laid
  get-free xs n i le = let long = length-map xs Some in get_or-append_right (map Some xs) (replicate n None) (length xs) i None long le ∙ get-none X n (i - length xs)

  pub item_at : (xs : List X) (i : ℕ) → i < length xs → X
  item_at [] i lt = absurd (omega arith)
  item_at (x ∷ xs) zero lt = x
  item_at (x ∷ xs) (suc i) lt = item_at xs i (omega arith)

  put_behind : (xs : List X) (n : ℕ) (v : X) → set (map Some xs ++ replicate (suc n) None) (length xs) (Some v) ≡ map Some (xs ++ v ∷ []) ++ replicate n None
  put_behind [] n v = refl
  put_behind (x ∷ xs) n v = ap (λ l. Some x ∷ l) (put_behind xs n v)

  put-laid : (xs : List X) (n m : ℕ) (v : X) → n ≡ suc m → set (laid xs n) (length xs) (Some v) ≡ laid (xs ++ v ∷ []) m
  unfolding laid
  put-laid xs n m v e = ap (λ (k : ℕ). set (map Some xs ++ replicate k None) (length xs) (Some v)) e ∙ put_behind xs m v

  cut_behind : (xs : List X) (n : ℕ) (v : X) → set (map Some (xs ++ v ∷ []) ++ replicate n None) (length xs) None ≡ map Some xs ++ replicate (suc n) None
  cut_behind [] n v = refl
  cut_behind (x ∷ xs) n v = ap (λ l. Some x ∷ l) (cut_behind xs n v)

  cut-laid : (xs : List X) (n : ℕ) (v : X) → set (laid (xs ++ v ∷ []) n) (length xs) None ≡ laid xs (suc n)
  unfolding laid
  cut-laid xs n v = cut_behind xs n v

  set-laid : (xs : List X) (n i : ℕ) (v : X) → i < length xs → set (laid xs n) i (Some v) ≡ laid (set xs i v) n
  unfolding laid
  set-laid xs n i v lt = let long = length-map xs Some in set-append_left (map Some xs) (replicate n None) i (Some v) (omega arith) ∙ ap (λ l. l ++ replicate n None) (sym (map-set Some xs i v))

  pub swap-laid : (xs : List X) (n i j : ℕ) → i < length xs → j < length xs → swap (laid xs n) i j ≡ laid (swap xs i j) n
  swap-laid xs n i j li lj =
      let d = item_at xs i li in let long = length-laid xs n in
      sym (swap_is (laid xs n) i j None (omega arith) (omega arith))
      ∙ (λ k. set (set (laid xs n) i (get-laid xs n j d lj k)) j (get-laid xs n i d li k))
      ∙ ap (λ l. set l j (Some (get_or xs i d))) (set-laid xs n i (get_or xs j d) li)
      ∙ set-laid (set xs i (get_or xs j d)) n j (get_or xs i d) (omega (arith, length-set xs i (get_or xs j d)))
      ∙ ap (λ l. laid l n) (swap_is xs i j d li lj)

  more-laid : (xs : List X) (n m : ℕ) → laid xs n ++ replicate m None ≡ laid xs (n + m)
  unfolding laid
  more-laid xs n m = append_assoc (map Some xs) (replicate n None) (replicate m None) ∙ ap (λ l. map Some xs ++ l) (replicate-append-replicate n m None)

  run-laid : (xs : List X) (n i k : ℕ) → i + k ≤ length xs → take k (drop i (laid xs n)) ≡ map Some (take k (drop i xs))
  unfolding laid
  run-laid xs n i k le =
      let long = length-map xs Some in
      ap (take k) (drop-append-le i (map Some xs) (replicate n None) (omega arith))
      ∙ take-append-le k (drop i (map Some xs)) (replicate n None) (omega (arith, length-drop i (map Some xs)))
      ∙ ap (take k) (drop-map Some i xs) ∙ take-map Some k (drop i xs)

  -- values are put behind items
  put_all-laid : (xs vs : List X) (n m : ℕ) → n ≡ length vs + m → put_all (laid xs n) (length xs) vs ≡ laid (xs ++ vs) m
  put_all-laid xs [] n m e = (let same : n ≡ m = omega arith in ap (λ k. laid xs k) same) ∙ ap (λ l. laid l m) (sym (append-nil xs))
  put_all-laid xs (v ∷ vs) n m e =
      let more : suc (length xs) ≡ length (xs ++ v ∷ []) = omega (arith, length-append xs (v ∷ [])) in
      set-put_all (laid xs n) (length xs) (suc (length xs)) (Some v) vs (omega arith)
      ∙ ap (λ l. put_all l (suc (length xs)) vs) (put-laid xs n (length vs + m) v (omega arith))
      ∙ ap (λ k. put_all (laid (xs ++ v ∷ []) (length vs + m)) k vs) more
      ∙ put_all-laid (xs ++ v ∷ []) vs (length vs + m) m refl ∙ ap (λ l. laid l m) (append_assoc xs (v ∷ []) vs)

  pub none_laid : (cs : List (Option X)) → cs ≡ [] → IsLaid cs 0 0 × (values cs ≡ [])
  unfolding laid
  none_laid cs e = (record { count = sym (ap (λ (l : List (Option X)). length (values l)) e); within = omega arith; places = e ∙ sym (ap (λ (l : List (Option X)). laid (values l) 0) e) }, ap values e)

  -- places that begin with the items hold just them
  pub laid_out : (cs : List (Option X)) (xs : List X) (n room spare : ℕ) → n ≡ length xs → room ≡ n + spare → cs ≡ laid xs spare → IsLaid cs n room × (values cs ≡ xs)
  laid_out cs xs n room spare count all is =
      let items : values cs ≡ xs = ap values is ∙ values-laid xs spare in let left : room - n ≡ spare = omega arith in
      (record { count = count ∙ sym (ap length items); within = omega arith; places = is ∙ (λ i. laid (sym items i) (sym left i)) }, items)

  pub all_empty_laid : (cs : List (Option X)) (room : ℕ) → cs ≡ replicate room None → IsLaid cs 0 room × (values cs ≡ [])
  unfolding laid
  all_empty_laid cs room e = laid_out cs [] 0 room room refl (omega arith) e

  module _ (cs : List (Option X)) (n room : ℕ) (h : IsLaid cs n room) where
    abbrev xs : List X
    xs = values cs

    pub room_is : length cs ≡ room
    room_is = let most = h.within in let count = h.count in ap length h.places ∙ length-laid xs (room - n) ∙ (omega arith)

    pub item_there : (i : ℕ) → i < length xs → IsFilled cs i
    item_there i lt = let d = item_at xs i lt in (get_or xs i d, ap (λ l. get_or l i None) h.places ∙ get-laid xs (room - n) i d lt)

    pub item_is : (i : ℕ) (x : X) → i < length xs → get_or cs i None ≡ Some x → x ≡ get_or xs i x
    item_is i x lt e = let both : Some x ≡ Some (get_or xs i x) = sym e ∙ ap (λ l. get_or l i None) h.places ∙ get-laid xs (room - n) i x lt in cc

    pub free_there : (i : ℕ) → n ≤ i → get_or cs i None ≡ None
    free_there i le = let count = h.count in ap (λ l. get_or l i None) h.places ∙ get-free xs (room - n) i (omega arith)

    pub filled_to : IsFilledTo cs n
    filled_to = let count = h.count in record { full = λ i lt. item_there i (omega arith); free = free_there }

    pub run_there : (i k : ℕ) → i + k ≤ length xs → IsRun cs i k
    run_there i k le =
        let count = h.count in let most = h.within in let long = room_is in
        (omega arith, (take k (drop i xs), ap (λ l. take k (drop i l)) h.places ∙ run-laid xs (room - n) i k le))

    pub run_is : (i k : ℕ) (ws : List X) → i + k ≤ length xs → take k (drop i cs) ≡ map Some ws → ws ≡ take k (drop i xs)
    run_is i k ws le e = same_items ws (take k (drop i xs)) (sym e ∙ ap (λ l. take k (drop i l)) h.places ∙ run-laid xs (room - n) i k le)

    pub pushed : (ds : List (Option X)) (v : X) → n < room → ds ≡ set cs n (Some v) → IsLaid ds (n + 1) room × (values ds ≡ xs ++ v ∷ [])
    pushed ds v lt is =
        let count = h.count in let more = length-append xs (v ∷ []) in
        laid_out ds (xs ++ v ∷ []) (n + 1) room (room - (n + 1)) (omega arith) (omega arith) (is ∙ (λ i. set (h.places i) (count i) (Some v)) ∙ put-laid xs (room - n) (room - (n + 1)) v (omega arith))

    -- some values are put behind the items
    pub all_pushed : (ds : List (Option X)) (vs : List X) (more : ℕ) → more ≡ length vs → n + more ≤ room → ds ≡ put_all cs n vs → IsLaid ds (n + more) room × (values ds ≡ xs ++ vs)
    all_pushed ds vs more long fit is =
        let count = h.count in let all = length-append xs vs in
        laid_out ds (xs ++ vs) (n + more) room (room - (n + more)) (omega arith) (omega arith) (is ∙ (λ i. put_all (h.places i) (count i) vs) ∙ put_all-laid xs vs (room - n) (room - (n + more)) (omega arith))

    -- the last item is taken
    pub popped : (ds : List (Option X)) (ys : List X) (v : X) (m : ℕ) → xs ≡ ys ++ v ∷ [] → n ≡ m + 1 → ds ≡ set cs m None → IsLaid ds m room × (values ds ≡ ys)
    popped ds ys v m e one is =
        let count = h.count in let most = h.within in let less : m ≡ length ys = omega (arith, ap length e, length-append ys (v ∷ [])) in
        let spare : suc (room - n) ≡ room - m = omega arith in
        laid_out ds ys m room (room - m) less (omega arith) (is ∙ (λ i. set ((h.places ∙ ap (λ l. laid l (room - n)) e) i) (less i) None) ∙ cut-laid ys (room - n) v ∙ ap (laid ys) spare)

    pub roomier : (ds : List (Option X)) (k : ℕ) → ds ≡ cs ++ replicate k None → IsLaid ds n (room + k) × (values ds ≡ xs)
    roomier ds k is =
        let most = h.within in laid_out ds xs n (room + k) (room - n + k) h.count (omega arith) (is ∙ ap (λ l. l ++ replicate k None) h.places ∙ more-laid xs (room - n) k)

  -- a list is its items but the last, and then the last
  pub last_split : (ys : List X) (m : ℕ) (x : X) → length ys ≡ m + 1 → x ≡ get_or ys m x → ys ≡ take m ys ++ x ∷ []
  last_split ys m x long is = sym (take-append-drop m ys) ∙ ap (λ l. take m ys ++ l) (drop-cons ys m x (omega arith) ∙ (λ i. sym is i ∷ rest i))
    where
      rest : drop (suc m) ys ≡ []
      rest = drop_of_length-le ys {i = suc m} (omega arith)

  pub items_seen : {p q : Paged X} → p ≡ q → p.items ≡ q.items
  items_seen e = ap (λ (p : Paged X). p.items) e

  pub spare_seen : {p q : Paged X} → p ≡ q → p.spare ≡ q.spare
  spare_seen e = ap (λ (p : Paged X). p.spare) e

  pub width_seen : {p q : Paged X} → p ≡ q → p.width ≡ q.width
  width_seen e = ap (λ (p : Paged X). p.width) e

  pub same_paged : {xs ys : List X} {m n v w : ℕ} → xs ≡ ys → m ≡ n → v ≡ w → paged xs m v ≡ paged ys n w
  same_paged a b c = λ i. paged (a i) (b i) (c i)
