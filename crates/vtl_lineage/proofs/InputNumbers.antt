-- The numbers of the components that are read: data sets behind one another.
use Rattle.std.proofs.Common.{◌≡◌, ℕ, suc, ◌+◌, Bool, true, false, not, cond, ◌&&◌, ◌||◌, List, [], ◌∷◌, ◌++◌, append_assoc, length, length-append, map, refl, sym, ap, ◌∙◌, subst, arith}
use Rattle.std.proofs.lemmas.Bool.{and_parts, not-true, or_parts, or_right}
use Rattle.std.proofs.lemmas.List.{append-nil, length-map, map-append}
use Rattle.std.specs.List.{AllByRecursion, list_any}
use Rattle.std.specs.Map.{keys_of}
use Rattle.std.specs.Cmp.Lexicographic.{nat_list_eq_equiv}
use Rattle.vtl_lists.specs.Apart.{all_apart}
use Rattle.vtl_lists.proofs.Alls.{all_append}
use Rattle.vtl_tree.specs.Columns.{identifiers_of, others_of}
use Rattle.vtl_tree.specs.Structure.{IsStructure, columns_of, key_width, names_of, same_name}
use Rattle.vtl_tree.specs.Structures.{Named}
use Rattle.vtl_tree.specs.declared.structure.Component.{Component}
use Rattle.vtl_tree.specs.declared.structure.Structure.{Structure}
use Rattle.vtl_tree.proofs.NotNullLemmas.{same_itself}
use Rattle.vtl_meaning.proofs.OwnColumns.{columns_apart}
use Rattle.vtl_meaning.proofs.Places.{columns_split}
use Rattle.vtl_sources.specs.Links.{Pair, Pairs, input_sources, inputs_lineage, is_in, pairs_of, pairs_of_set}
use Rattle.vtl_sources.specs.Sources.{sources}
use Rattle.vtl_lineage.specs.Numbers.{Numbers, each_alone, input_numbers, inputs_numbers, numbered, numbered_past, numbers_of, places_from, run}

-- ---- places
places_append : (i : ℕ) (f : Pair → Bool) (xs ys : Pairs) → places_from i f (xs ++ ys) ≡ places_from i f xs ++ places_from (i + length xs) f ys
places_append i f [] ys = ap (λ n. places_from n f ys) (let e : i ≡ i + 0 = omega arith in e)
places_append i f (x ∷ xs) ys =
    let e : suc i + length xs ≡ i + suc (length xs) = omega arith in
    go (f x) (places_append (suc i) f xs ys ∙ ap (λ n. places_from (suc i) f xs ++ places_from n f ys) e)
  where
    go : (b : Bool) → places_from (suc i) f (xs ++ ys) ≡ places_from (suc i) f xs ++ places_from (i + suc (length xs)) f ys
        → cond b (i ∷ places_from (suc i) f (xs ++ ys)) (places_from (suc i) f (xs ++ ys)) ≡ cond b (i ∷ places_from (suc i) f xs) (places_from (suc i) f xs) ++ places_from (i + suc (length xs)) f ys
    go true more = ap (λ l. i ∷ l) more
    go false more = more

none_here : (i : ℕ) (f : Pair → Bool) (xs : Pairs) → AllByRecursion (λ q. f q ≡ false) xs → places_from i f xs ≡ []
none_here i f [] h = refl
none_here i f (x ∷ xs) h = ap (λ b. cond b (i ∷ places_from (suc i) f xs) (places_from (suc i) f xs)) h.0 ∙ none_here (suc i) f xs h.1

all_here : (i : ℕ) (f : Pair → Bool) (xs : Pairs) → AllByRecursion (λ q. f q ≡ true) xs → places_from i f xs ≡ run i (length xs)
all_here i f [] h = refl
all_here i f (x ∷ xs) h = ap (λ b. cond b (i ∷ places_from (suc i) f xs) (places_from (suc i) f xs)) h.0 ∙ ap (λ l. i ∷ l) (all_here (suc i) f xs h.1)

-- of three parts the middle one alone
middle : (f : Pair → Bool) (before own behind : Pairs) (ns : Numbers) → AllByRecursion (λ q. f q ≡ false) before → AllByRecursion (λ q. f q ≡ false) behind → places_from (length before) f own ≡ ns → places_from 0 f (before ++ (own ++ behind)) ≡ ns
middle f before own behind ns h k e =
    let start : 0 + length before ≡ length before = omega arith in
    places_append 0 f before (own ++ behind)
    ∙ ap (λ l. l ++ places_from (0 + length before) f (own ++ behind)) (none_here 0 f before h)
    ∙ ap (λ n. places_from n f (own ++ behind)) start
    ∙ places_append (length before) f own behind
    ∙ (λ j. e j ++ none_here (length before + length own) f behind k j)
    ∙ append-nil ns

-- ---- pairs of one data set
abbrev pair_with : List ℕ → Component → Pair
pair_with name x = (name, x.name)

-- a pair of another data set is none of them
abbrev IsOf : List ℕ → Pair → Type 0
IsOf name q = same_name q.0 name ≡ false

other_set : (name : List ℕ) (xs : List Component) (q : Pair) → IsOf name q → is_in (map (pair_with name) xs) q ≡ false
other_set name [] q h = refl
other_set name (x ∷ xs) q h = ap (λ b. (b && same_name q.1 x.name) || is_in (map (pair_with name) xs) q) h ∙ other_set name xs q h

others_set : (name : List ℕ) (xs : List Component) (qs : Pairs) → AllByRecursion (IsOf name) qs → AllByRecursion (λ q. is_in (map (pair_with name) xs) q ≡ false) qs
others_set name xs [] h = tt
others_set name xs (q ∷ qs) h = (other_set name xs q h.0, others_set name xs qs h.1)

-- within one data set the names of the components decide
by_name : (name : List ℕ) (xs : List Component) (y : Component) → is_in (map (pair_with name) xs) (pair_with name y) ≡ list_any (λ x. same_name y.name x.name) xs
by_name name [] y = refl
by_name name (x ∷ xs) y = λ i. (same_itself name i && same_name y.name x.name) || by_name name xs y i

own_there : (name : List ℕ) (front xs : List Component) → AllByRecursion (λ q. is_in (map (pair_with name) (front ++ xs)) q ≡ true) (map (pair_with name) xs)
own_there name front [] = tt
own_there name front (x ∷ xs) =
    (by_name name (front ++ x ∷ xs) x ∙ at front, subst (λ l. AllByRecursion (λ q. is_in (map (pair_with name) l) q ≡ true) (map (pair_with name) xs)) (append_assoc front (x ∷ []) xs) (own_there name (front ++ x ∷ []) xs))
  where
    at : (us : List Component) → list_any (λ u. same_name x.name u.name) (us ++ x ∷ xs) ≡ true
    at [] = ap (λ b. b || list_any (λ u. same_name x.name u.name) xs) (same_itself x.name)
    at (u ∷ us) = or_right (same_name x.name u.name) (list_any (λ v. same_name x.name v.name) (us ++ x ∷ xs)) (at us)

-- ---- names that stand apart
abbrev IsNone : List ℕ → List Component → Type 0
IsNone name xs = list_any (λ x. same_name name x.name) xs ≡ false

abbrev AreApart : List Component → Type 0
AreApart xs = all_apart same_name (names_of xs) ≡ true

named_any : (name : List ℕ) (xs : List Component) → list_any (same_name name) (names_of xs) ≡ list_any (λ x. same_name name x.name) xs
named_any name [] = refl
named_any name (x ∷ xs) = ap (λ b. same_name name x.name || b) (named_any name xs)

apart_first : (x : Component) (xs : List Component) → AreApart (x ∷ xs) → IsNone x.name xs × AreApart xs
apart_first x xs h =
    let parts = and_parts (not (list_any (same_name x.name) (names_of xs))) (all_apart same_name (names_of xs)) h in
    (sym (named_any x.name xs) ∙ not-true (list_any (same_name x.name) (names_of xs)) parts.0, parts.1)

none_back : (name : List ℕ) (xs ys : List Component) → IsNone name (xs ++ ys) → IsNone name xs × IsNone name ys
none_back name [] ys h = (refl, h)
none_back name (x ∷ xs) ys h =
    let parts = or_parts (same_name name x.name) (list_any (λ u. same_name name u.name) (xs ++ ys)) h in
    let more = none_back name xs ys parts.1 in
    ((λ i. parts.0 i || more.0 i), more.1)

-- none of the later ones is one of the first
none_of_front : (xs ys : List Component) → AreApart (xs ++ ys) → AllByRecursion (λ y. IsNone y.name xs) ys
none_of_front [] [] h = tt
none_of_front [] (y ∷ ys) h = (refl, none_of_front [] ys (apart_first y ys h).1)
none_of_front (x ∷ xs) ys h =
    let parts = apart_first x (xs ++ ys) h in
    both ys (none_back x.name xs ys parts.0).1 (none_of_front xs ys parts.1)
  where
    both : (zs : List Component) → IsNone x.name zs → AllByRecursion (λ z. IsNone z.name xs) zs → AllByRecursion (λ z. IsNone z.name (x ∷ xs)) zs
    both [] g k = tt
    both (z ∷ zs) g k =
        let one = or_parts (same_name x.name z.name) (list_any (λ u. same_name x.name u.name) zs) g in
        ((λ i. (nat_list_eq_equiv.symm z.name x.name ∙ one.0) i || k.0 i), both zs one.1 k.1)

all_back_apart : (xs ys : List Component) → AreApart (xs ++ ys) → AreApart ys
all_back_apart [] ys h = h
all_back_apart (x ∷ xs) ys h = all_back_apart xs ys (apart_first x (xs ++ ys) h).1

pairs_none : (name : List ℕ) (xs ys : List Component) → AllByRecursion (λ y. IsNone y.name xs) ys → AllByRecursion (λ q. is_in (map (pair_with name) xs) q ≡ false) (map (pair_with name) ys)
pairs_none name xs [] h = tt
pairs_none name xs (y ∷ ys) h = (by_name name xs y ∙ h.0, pairs_none name xs ys h.1)

-- ---- one data set among others
module _ (name : List ℕ) (s : Structure) (w : IsStructure s) (before behind : Pairs) (hb : AllByRecursion (IsOf name) before) (hr : AllByRecursion (IsOf name) behind) where
  abbrev ids : List Component
  ids = identifiers_of s

  abbrev zs : List Component
  zs = others_of s

  abbrev P : Pairs
  P = before ++ (pairs_of_set name s ++ behind)

  apart : AreApart (ids ++ zs)
  apart = subst AreApart (columns_split s) (columns_apart s w)

  own_split : pairs_of_set name s ≡ map (pair_with name) ids ++ map (pair_with name) zs
  own_split = ap (map (pair_with name)) (columns_split s) ∙ map-append (pair_with name) ids zs

  pairs_are : P ≡ before ++ ((map (pair_with name) ids ++ map (pair_with name) zs) ++ behind)
  pairs_are = ap (λ l. before ++ (l ++ behind)) own_split

  points_numbers : numbers_of P (map (pair_with name) ids) ≡ run (length before) (key_width s)
  points_numbers =
      let f = is_in (map (pair_with name) ids) in
      let own = map (pair_with name) ids in
      let rest = map (pair_with name) zs in
      let n = length before in
      ap (places_from 0 f) pairs_are
      ∙ middle f before (own ++ rest) behind (run n (key_width s)) (others_set name ids before hb) (others_set name ids behind hr)
      (places_append n f own rest
      ∙ (λ i. all_here n f own (own_there name [] ids) i ++ none_here (n + length own) f rest (pairs_none name ids zs (none_of_front ids zs apart)) i)
      ∙ append-nil (run n (length own)) ∙ ap (run n) (length-map ids (pair_with name)))

  -- a component alone, with others before and behind it
  one_number : (us : List Component) (x : Component) (vs : List Component) → AreApart (us ++ x ∷ vs) → places_from (length before) (is_in (pair_with name x ∷ [])) (map (pair_with name) (us ++ x ∷ vs)) ≡ (length before + length us) ∷ []
  one_number us x vs h =
      let n = length before in
      let f = is_in (map (pair_with name) (x ∷ [])) in
      let here : f (pair_with name x) ≡ true = by_name name (x ∷ []) x ∙ ap (λ b. b || false) (same_itself x.name) in
      ap (places_from n f) (map-append (pair_with name) us (x ∷ vs))
      ∙ places_append n f (map (pair_with name) us) (pair_with name x ∷ map (pair_with name) vs)
      ∙ (λ i. none_here n f (map (pair_with name) us) (pairs_none name (x ∷ []) us (fronts us h)) i
      ++ places_from (n + length-map us (pair_with name) i) f (pair_with name x ∷ map (pair_with name) vs))
      ∙ ap (λ b. cond b ((n + length us) ∷ places_from (suc (n + length us)) f (map (pair_with name) vs)) (places_from (suc (n + length us)) f (map (pair_with name) vs))) here
      ∙ ap (λ l. (n + length us) ∷ l) (none_here (suc (n + length us)) f (map (pair_with name) vs) (pairs_none name (x ∷ []) vs (none_of_front (x ∷ []) vs (all_back_apart us (x ∷ vs) h))))
    where
      fronts : (us : List Component) → AreApart (us ++ x ∷ vs) → AllByRecursion (λ u. IsNone u.name (x ∷ [])) us
      fronts [] h = tt
      fronts (u ∷ us) h =
          let parts = apart_first u (us ++ x ∷ vs) h in
          let one = or_parts (same_name u.name x.name) (list_any (λ v. same_name u.name v.name) vs) (none_back u.name us (x ∷ vs) parts.0).1 in
          ((λ i. one.0 i || false), fronts us parts.1)

  others_numbers : (us vs : List Component) → zs ≡ us ++ vs → map (numbers_of P) (map (λ x. pair_with name x ∷ []) vs) ≡ each_alone (run (length before + key_width s + length us) (length vs))
  others_numbers us [] e = refl
  others_numbers us (x ∷ vs) e =
      let n = length before in
      let f = is_in (pair_with name x ∷ []) in
      let whole : ids ++ zs ≡ (ids ++ us) ++ x ∷ vs = ap (λ l. ids ++ l) e ∙ sym (append_assoc ids us (x ∷ vs)) in
      let own : pairs_of_set name s ≡ map (pair_with name) ((ids ++ us) ++ x ∷ vs) = ap (map (pair_with name)) (columns_split s ∙ whole) in
      let first : numbers_of P (pair_with name x ∷ []) ≡ (n + key_width s + length us) ∷ [] =
      middle f before (pairs_of_set name s) behind ((n + key_width s + length us) ∷ []) (others_set name (x ∷ []) before hb) (others_set name (x ∷ []) behind hr)
      (ap (places_from n f) own ∙ one_number (ids ++ us) x vs (subst AreApart whole apart) ∙ ap (λ m. m ∷ []) (ap (λ m. n + m) (length-append ids us) ∙ (let e : n + (key_width s + length us) ≡ n + key_width s + length us = omega arith in e))) in
      let rest = others_numbers (us ++ x ∷ []) vs (e ∙ sym (append_assoc us (x ∷ []) vs)) in
      let more : n + key_width s + length (us ++ x ∷ []) ≡ suc (n + key_width s + length us) = let l = length-append us (x ∷ []) in omega (arith, l) in
      λ i. first i ∷ (rest ∙ ap (λ m. each_alone (run m (length vs))) more) i

  pub input_same : numbered P (input_sources name s) ≡ input_numbers (length before) s
  input_same = λ i. sources (points_numbers i) ((others_numbers [] zs refl ∙ ap (λ m. each_alone (run m (length zs))) (let e : length before + key_width s + 0 ≡ length before + key_width s = omega arith in e)) i)

-- ---- all data sets
of_set : (name other : List ℕ) → same_name other name ≡ false → (xs : List Component) → AllByRecursion (IsOf name) (map (pair_with other) xs)
of_set name other h [] = tt
of_set name other h (x ∷ xs) = (h, of_set name other h xs)

abbrev AreNew : Pairs → Named → Type 0
AreNew before es = AllByRecursion (λ e. AllByRecursion (IsOf e.0) before) es

-- behind a data set of another name
behind_of : (name : List ℕ) (es : Named) → list_any (same_name name) (keys_of es) ≡ false → AllByRecursion (IsOf name) (pairs_of es)
behind_of name [] h = tt
behind_of name (e ∷ es) h =
    let parts = or_parts (same_name name e.0) (list_any (same_name name) (keys_of es)) h in
    all_append (IsOf name) (pairs_of_set e.0 e.1) (pairs_of es) (of_set name e.0 (nat_list_eq_equiv.symm e.0 name ∙ parts.0) (columns_of e.1)) (behind_of name es parts.1)

still_new : (before : Pairs) (name : List ℕ) (s : Structure) (es : Named) → list_any (same_name name) (keys_of es) ≡ false → AreNew before es → AreNew (before ++ pairs_of_set name s) es
still_new before name s [] h k = tt
still_new before name s (e ∷ es) h k =
    let parts = or_parts (same_name name e.0) (list_any (same_name name) (keys_of es)) h in
    (all_append (IsOf e.0) before (pairs_of_set name s) k.0 (of_set e.0 name parts.0 (columns_of s)), still_new before name s es parts.1 k.1)

pub inputs_same : (before : Pairs) (es : Named) → all_apart same_name (keys_of es) ≡ true → AllByRecursion (λ e. IsStructure e.1) es → AreNew before es → numbered_past (before ++ pairs_of es) (inputs_lineage es) ≡ inputs_numbers (length before) es
inputs_same before [] h w new = refl
inputs_same before (e ∷ es) h w new =
    let own = pairs_of_set e.0 e.1 in
    let parts = and_parts (not (list_any (same_name e.0) (keys_of es))) (all_apart same_name (keys_of es)) h in
    let alone = not-true (list_any (same_name e.0) (keys_of es)) parts.0 in
    let rest = inputs_same (before ++ own) es parts.1 w.1 (still_new before e.0 e.1 es alone new.1) in
    let first = input_same e.0 e.1 w.0 before (pairs_of es) new.0 (behind_of e.0 es alone) in
    λ i. (e.0, first i) ∷ (ap (λ l. numbered_past l (inputs_lineage es)) (sym (append_assoc before own (pairs_of es))) ∙ rest ∙ ap (λ m. inputs_numbers m es) (length-append before own)) i

no_news : (es : Named) → AreNew [] es
no_news [] = tt
no_news (e ∷ es) = (tt, no_news es)

pub all_inputs_same : (es : Named) → all_apart same_name (keys_of es) ≡ true → AllByRecursion (λ e. IsStructure e.1) es → numbered_past (pairs_of es) (inputs_lineage es) ≡ inputs_numbers 0 es
all_inputs_same es h w = inputs_same [] es h w (no_news es)
