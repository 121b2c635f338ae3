-- Lists in order: an item with those before and those behind it, the last of those before it, and filters.
use Rattle.std.proofs.Common.{◌≡◌, suc, ◌+◌, ◌-◌, Bool, true, false, ◌&&◌, ◌||◌, cond, List, [], ◌∷◌, ◌++◌, length, map, take, Option, Some, None, refl, sym, ap, ◌∙◌, subst, true≢false, arith}
use Rattle.std.specs.Prelude.{find, if◌then◌else◌, nat_le, slice_index_or}
use Rattle.std.specs.List.{AllByRecursion, filter, list_all, list_any}
use Rattle.std.specs.Option.{option_map_or}
use Rattle.std.proofs.lemmas.List.Elements.{filter-append}
use Rattle.vtl_lists.specs.Sorting.{Rises}
use Rattle.vtl_lists.proofs.Alls.{all_back, all_front}
use Rattle.vtl_lists.proofs.Filters.{filter_all, filter_none}
use Rattle.vtl_cell.specs.Row.{Row, same_row}
use Rattle.vtl_cell.specs.declared.cell.Cell.{Cell}
use Rattle.vtl_cell.proofs.Rows.{same_row-is, same_row-refl}

-- ---- an item of a list
pub record Cut (rows : List Row) (r : Row) : Type 0 where
  pub front : List Row
  pub back : List Row
  pub is : rows ≡ front ++ r ∷ back

pub cut_at : (r : Row) (rows : List Row) → list_any (same_row r) rows ≡ true → Cut rows r
cut_at r [] e = absurd (true≢false (sym e))
cut_at r (q ∷ rows) e = go (same_row r q) refl e (cut_at r rows)
  where
    go : (b : Bool) → same_row r q ≡ b → (b || list_any (same_row r) rows) ≡ true → (list_any (same_row r) rows ≡ true → Cut rows r) → Cut (q ∷ rows) r
    go true t f later = record { front = []; back = rows; is = ap (λ z. z ∷ rows) (sym (same_row-is r q t)) }
    go false t f later = let more = later f in record { front = q ∷ more.front; back = more.back; is = ap (λ l. q ∷ l) more.is }

pub item_has : (P : Row → Type 0) (rows : List Row) (r : Row) → list_any (same_row r) rows ≡ true → AllByRecursion P rows → P r
item_has P rows r e all = let c = cut_at r rows e in (all_back P c.front (r ∷ c.back) (subst (AllByRecursion P) c.is all)).0

-- each item is one of the list
pub own_items : (rows : List Row) → AllByRecursion (λ r. list_any (same_row r) rows ≡ true) rows
own_items [] = tt
own_items (q ∷ rows) = (ap (λ b. b || list_any (same_row q) rows) (same_row-refl q), later rows (own_items rows))
  where
    further : (r : Row) (b : Bool) → list_any (same_row r) rows ≡ true → (b || list_any (same_row r) rows) ≡ true
    further r true e = refl
    further r false e = e

    later : (ls : List Row) → AllByRecursion (λ r. list_any (same_row r) rows ≡ true) ls → AllByRecursion (λ r. list_any (same_row r) (q ∷ rows) ≡ true) ls
    later [] all = tt
    later (r ∷ ls) all = (further r (same_row r q) all.0, later ls all.1)

-- an item that passes a test is one of those that do
pub passes_too : (p : Row → Bool) (r : Row) (rows : List Row) → p r ≡ true → list_any (same_row r) rows ≡ true → list_any (same_row r) (filter p rows) ≡ true
passes_too p r [] h e = e
passes_too p r (q ∷ rows) h e = go (same_row r q) refl (p q) refl e (passes_too p r rows h)
  where
    go : (b : Bool) → same_row r q ≡ b → (t : Bool) → p q ≡ t → (b || list_any (same_row r) rows) ≡ true → (list_any (same_row r) rows ≡ true → list_any (same_row r) (filter p rows) ≡ true) → list_any (same_row r) (cond t (q ∷ filter p rows) (filter p rows)) ≡ true
    go true s true u f later = ap (λ b. b || list_any (same_row r) (filter p rows)) s
    go true s false u f later = absurd (true≢false (sym h ∙ ap p (same_row-is r q s) ∙ u))
    go false s true u f later = ap (λ b. b || list_any (same_row r) (filter p rows)) s ∙ later f
    go false s false u f later = later f

-- ---- filters
pub filter_twice : {X : Type 0} (p q g : X → Bool) → ((x : X) → (q x && p x) ≡ g x) → (xs : List X) → filter p (filter q xs) ≡ filter g xs
filter_twice p q g same [] = refl
filter_twice p q g same (x ∷ xs) = go (q x) refl (filter_twice p q g same xs)
  where
    go : (b : Bool) → q x ≡ b → filter p (filter q xs) ≡ filter g xs → filter p (cond b (x ∷ filter q xs) (filter q xs)) ≡ cond (g x) (x ∷ filter g xs) (filter g xs)
    go true e ih =
        let both : p x ≡ g x = ap (λ b. b && p x) (sym e) ∙ same x in
        (λ i. cond (both i) (x ∷ ih i) (ih i))
    go false e ih =
        let none : g x ≡ false = sym (same x) ∙ ap (λ b. b && p x) e in
        ih ∙ sym (ap (λ b. cond b (x ∷ filter g xs) (filter g xs)) none)

-- what passes up to an item and no farther
pub filter_front : (p : Row → Bool) (front : List Row) (r : Row) (back : List Row) → AllByRecursion (λ q. p q ≡ true) front → p r ≡ true → AllByRecursion (λ q. p q ≡ false) back → filter p (front ++ r ∷ back) ≡ front ++ r ∷ []
filter_front p front r back early here late =
    filter-append p front (r ∷ back)
    ∙ ap (λ l. l ++ filter p (r ∷ back)) (filter_all p front early)
    ∙ ap (λ b. front ++ cond b (r ∷ filter p back) (filter p back)) here
    ∙ ap (λ l. front ++ r ∷ l) (filter_none p back late)

pub filter_before : (p : Row → Bool) (front : List Row) (r : Row) (back : List Row) → AllByRecursion (λ q. p q ≡ true) front → p r ≡ false → AllByRecursion (λ q. p q ≡ false) back → filter p (front ++ r ∷ back) ≡ front
filter_before p front r back early here late =
    filter-append p front (r ∷ back)
    ∙ ap (λ l. l ++ filter p (r ∷ back)) (filter_all p front early)
    ∙ ap (λ b. front ++ cond b (r ∷ filter p back) (filter p back)) here
    ∙ ap (λ l. front ++ l) (filter_none p back late)
    ∙ nothing_behind front
  where
    nothing_behind : (l : List Row) → l ++ [] ≡ l
    nothing_behind [] = refl
    nothing_behind (q ∷ l) = ap (λ z. q ∷ z) (nothing_behind l)

-- ---- places
take_next : {X : Type 0} (f : Row → X) (front : List Row) (r : Row) (back : List Row) → take (suc (length front)) (map f (front ++ r ∷ back)) ≡ map f (front ++ r ∷ [])
take_next f [] r back = refl
take_next f (q ∷ front) r back = ap (λ l. f q ∷ l) (take_next f front r back)

pub take_front : {X : Type 0} (f : Row → X) (front : List Row) (r : Row) (back : List Row) → take (length front + 1) (map f (front ++ r ∷ back)) ≡ map f (front ++ r ∷ [])
take_front f front r back = let next : length front + 1 ≡ suc (length front) = omega arith in ap (λ n. take n (map f (front ++ r ∷ back))) next ∙ take_next f front r back

abbrev pub last_of : List Row → Option Row
last_of [] = None
last_of (q ∷ []) = Some q
last_of (q ∷ z ∷ front) = last_of (z ∷ front)

at_last : (f : Row → Cell) (default : Cell) (q : Row) (front back : List Row) → slice_index_or (map f (q ∷ front ++ back)) (length front) default ≡ option_map_or f (last_of (q ∷ front)) default
at_last f default q [] back = refl
at_last f default q (z ∷ front) back = at_last f default z front back

-- the item one place before, or the default
pub one_before : (f : Row → Cell) (default : Cell) (front back : List Row) → (if nat_le 1 (length front) then slice_index_or (map f (front ++ back)) (length front - 1) default else default) ≡ option_map_or f (last_of front) default
one_before f default [] back = refl
one_before f default (q ∷ front) back =
    let some : nat_le 1 (suc (length front)) ≡ true = search arith in
    let place : suc (length front) - 1 ≡ length front = omega arith in
    ap (λ b. if b then slice_index_or (map f (q ∷ front ++ back)) (suc (length front) - 1) default else default) some
    ∙ ap (λ n. slice_index_or (map f (q ∷ front ++ back)) n default) place
    ∙ at_last f default q front back

-- ---- the last one
find_same : {X : Type 0} (p q : X → Bool) (xs : List X) → AllByRecursion (λ x. p x ≡ q x) xs → find p xs ≡ find q xs
find_same p q [] all = refl
find_same p q (x ∷ xs) all = λ i. if all.0 i then Some x else find_same p q xs all.1 i

-- those before an item and those behind it
pub sides : (before : Row → Row → Bool) (front : List Row) (r : Row) (back : List Row) → Rises before (front ++ r ∷ back) → AllByRecursion (λ q. before q r ≡ true) front × AllByRecursion (λ q. before r q ≡ true) back
sides before [] r back h = (tt, h.0)
sides before (q ∷ front) r back h =
    let more = sides before front r back h.1 in
    (((all_back (λ z. before q z ≡ true) front (r ∷ back) h.0).0, more.0), more.1)

pub front_rises : (before : Row → Row → Bool) (front back : List Row) → Rises before (front ++ back) → Rises before front
front_rises before [] back h = tt
front_rises before (q ∷ front) back h = (all_front (λ z. before q z ≡ true) front back h.0, front_rises before front back h.1)

module _ (before no_later : Row → Row → Bool) (self : (r : Row) → no_later r r ≡ true) (lax : (q r : Row) → before q r ≡ true → no_later q r ≡ true) (strict : (q r : Row) → before q r ≡ true → no_later r q ≡ false) where
  abbrev is_last : List Row → Row → Bool
  is_last rows q = list_all (λ z. no_later z q) rows

  not_all : (a b : Bool) → (a && (false && b)) ≡ false
  not_all true b = refl
  not_all false b = refl

  -- of a list in order it is the last one that none is later than
  pub find_last : (rows : List Row) → Rises before rows → find (is_last rows) rows ≡ last_of rows
  find_last [] h = refl
  find_last (q ∷ []) h = ap (λ b. if b && true then Some q else None) (self q)
  find_last (q ∷ z ∷ rows) h =
      let none : is_last (q ∷ z ∷ rows) q ≡ false = ap (λ b. no_later q q && (b && list_all (λ x. no_later x q) rows)) (strict q z h.0.0) ∙ not_all (no_later q q) (list_all (λ x. no_later x q) rows) in
      ap (λ b. if b then Some q else find (is_last (q ∷ z ∷ rows)) (z ∷ rows)) none
      ∙ find_same (is_last (q ∷ z ∷ rows)) (is_last (z ∷ rows)) (z ∷ rows) (others (z ∷ rows) h.0)
      ∙ find_last (z ∷ rows) h.1
    where
      others : (ls : List Row) → AllByRecursion (λ x. before q x ≡ true) ls → AllByRecursion (λ x. is_last (q ∷ z ∷ rows) x ≡ is_last (z ∷ rows) x) ls
      others [] all = tt
      others (x ∷ ls) all = (ap (λ b. b && is_last (z ∷ rows) x) (lax q x all.0), others ls all.1)
