-- Items of lists, tests and filters.
use Rattle.std.proofs.Common.{◌≡◌, Bool, true, false, ◌||◌, cond, List, [], ◌∷◌, ◌++◌, find, filter, Some, refl, sym, ap, ◌∙◌, subst, true≢false}
use Rattle.std.specs.List.{AllByRecursion, list_all, list_any}
use Rattle.std.proofs.lemmas.Bool.{and_parts, or_right}
use Rattle.vtl_lists.specs.Apart.{all_apart}
use Rattle.vtl_lists.proofs.Aparts.{apart_parts}
use Rattle.vtl_lists.proofs.Alls.{all_back}
use Rattle.vtl_cell.specs.Row.{Row, same_row}
use Rattle.vtl_cell.proofs.Rows.{same_row-is, same_row-refl}

abbrev pub IsAmong : List Row → Row → Type 0
IsAmong xs r = list_any (same_row r) xs ≡ true

-- ---- an item of a list
pub record Cut (rows : List Row) (r : Row) : Type 0 where
  pub front : List Row
  pub back : List Row
  pub is : rows ≡ front ++ r ∷ back

pub cut_at : (r : Row) (rows : List Row) → IsAmong rows r → Cut rows r
cut_at r [] e = absurd (true≢false (sym e))
cut_at r (q ∷ rows) e = go (same_row r q) refl e (cut_at r rows)
  where
    go : (b : Bool) → same_row r q ≡ b → (b || list_any (same_row r) rows) ≡ true → (IsAmong rows r → Cut rows r) → Cut (q ∷ rows) r
    go true t f later = record { front = []; back = rows; is = ap (λ z. z ∷ rows) (sym (same_row-is r q t)) }
    go false t f later = let more = later f in record { front = q ∷ more.front; back = more.back; is = ap (λ l. q ∷ l) more.is }

pub item_has : (P : Row → Type 0) (rows : List Row) (r : Row) → IsAmong rows r → AllByRecursion P rows → P r
item_has P rows r e all = let c = cut_at r rows e in (all_back P c.front (r ∷ c.back) (subst (AllByRecursion P) c.is all)).0

more_among : (x : Row) (xs ys : List Row) → AllByRecursion (IsAmong xs) ys → AllByRecursion (IsAmong (x ∷ xs)) ys
more_among x xs [] all = tt
more_among x xs (y ∷ ys) all = (or_right (same_row y x) (list_any (same_row y) xs) all.0, more_among x xs ys all.1)

pub all_among : (xs : List Row) → AllByRecursion (IsAmong xs) xs
all_among [] = tt
all_among (x ∷ xs) = (ap (λ b. b || list_any (same_row x) xs) (same_row-refl x), more_among x xs xs (all_among xs))

pub first_among : (x : Row) (xs : List Row) → IsAmong (x ∷ xs) x
first_among x xs = ap (λ b. b || list_any (same_row x) xs) (same_row-refl x)

pub later_among : (m x : Row) (xs : List Row) → IsAmong xs m → IsAmong (x ∷ xs) m
later_among m x xs e = or_right (same_row m x) (list_any (same_row m) xs) e

pub passes_too : (p : Row → Bool) (r : Row) (rows : List Row) → p r ≡ true → IsAmong rows r → IsAmong (filter p rows) r
passes_too p r [] h e = e
passes_too p r (q ∷ rows) h e = go (same_row r q) refl (p q) refl e (passes_too p r rows h)
  where
    go : (b : Bool) → same_row r q ≡ b → (t : Bool) → p q ≡ t → (b || list_any (same_row r) rows) ≡ true → (IsAmong rows r → IsAmong (filter p rows) r) → IsAmong (cond t (q ∷ filter p rows) (filter p rows)) r
    go true s true u f later = ap (λ b. b || list_any (same_row r) (filter p rows)) s
    go true s false u f later = absurd (true≢false (sym h ∙ ap p (same_row-is r q s) ∙ u))
    go false s true u f later = ap (λ b. b || list_any (same_row r) (filter p rows)) s ∙ later f
    go false s false u f later = later f

-- ---- tests
-- what holds of all that pass holds of each that passes
pub filtered_all : {X : Type 0} (p g : X → Bool) (xs : List X) → list_all g (filter p xs) ≡ true → AllByRecursion (λ x. p x ≡ true → g x ≡ true) xs
filtered_all p g [] e = tt
filtered_all p g (x ∷ xs) e = go (p x) refl e (filtered_all p g xs)
  where
    go : (b : Bool) → p x ≡ b → list_all g (cond b (x ∷ filter p xs) (filter p xs)) ≡ true → (list_all g (filter p xs) ≡ true → AllByRecursion (λ z. p z ≡ true → g z ≡ true) xs) → (p x ≡ true → g x ≡ true) × AllByRecursion (λ z. p z ≡ true → g z ≡ true) xs
    go true t f later = let parts = and_parts (g x) (list_all g (filter p xs)) f in ((λ u. parts.0), later parts.1)
    go false t f later = ((λ u. absurd (true≢false (sym u ∙ t))), later f)

pub find_gives : {X : Type 0} (p : X → Bool) (P : X → Type 0) (xs : List X) (x : X) → AllByRecursion P xs → find p xs ≡ Some x → P x × (p x ≡ true)
find_gives p P [] x all e = cc
find_gives p P (y ∷ ys) x all e = go (p y) refl e (find_gives p P ys x all.1)
  where
    go : (b : Bool) → p y ≡ b → cond b (Some y) (find p ys) ≡ Some x → (find p ys ≡ Some x → P x × (p x ≡ true)) → P x × (p x ≡ true)
    go true t f later = let same : y ≡ x = cc in (subst P same all.0, ap p (sym same) ∙ t)
    go false t f later = later f

-- of a list whose items stand apart, an item stands apart from those before it and behind it
pub apart_cut : {X : Type 0} (same : X → X → Bool) (front : List X) (r : X) (back : List X) → all_apart same (front ++ r ∷ back) ≡ true → AllByRecursion (λ z. same z r ≡ false) front × AllByRecursion (λ z. same r z ≡ false) back
apart_cut same [] r back e = (tt, (apart_parts same r back e).0)
apart_cut same (x ∷ front) r back e =
    let parts = apart_parts same x (front ++ r ∷ back) e in
    let more = apart_cut same front r back parts.1 in
    (((all_back (λ z. same x z ≡ false) front (r ∷ back) parts.0).0, more.0), more.1)
