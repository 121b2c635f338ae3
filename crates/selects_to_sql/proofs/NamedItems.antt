-- The next column of a result.
use Rattle.std.proofs.Common.{◌≡◌, ℕ, zero, suc, ◌+◌, ◌<◌, ◌≤◌, List, [], ◌∷◌, ◌++◌, map, length, get_or, take, refl, sym, ap, ◌∙◌, arith, append_assoc, append-nil}
use Rattle.std.proofs.lemmas.List.{length-map}
use Rattle.std.specs.Borrow.{Bor}
use Rattle.vtl_decimal.specs.Settings.{Settings}
use Rattle.vtl_tree.specs.Shown.{shown}
use Rattle.vtl_tree.specs.declared.structure.Component.{Component}
use Rattle.vtl_tree.specs.Columns.{columns_named}
use Rattle.sql_tree.specs.Trees.{Exp}
use Rattle.sql_tree.specs.View.{item_tree}
use Rattle.sql_tree.specs.declared.statements.Item.{Item}
use Rattle.selects_to_sql.specs.Queries.{all_to_sql, item_as, items_as, of_one}
use Rattle.selects_to_sql.specs.Items.{first_column}
use Rattle.selects_to_sql.specs.NamedItems.{AreNext, own_columns}

named : (es : List Exp) (ys : List (Bor Component)) (e : Exp) (y : Bor Component) (n : ℕ) → n ≡ length (items_as es (shown ys)) → n < length ys → y ≡ get_or ys n y → items_as (es ++ e ∷ []) (shown ys) ≡ items_as es (shown ys) ++ item_as y.now.name e ∷ []
named [] [] e y n is h at = absurd (omega (arith, h))
named [] (z ∷ ys) e y zero is h at = ap (λ (w : Bor Component). item_as w.now.name e ∷ []) (sym at)
named [] (z ∷ ys) e y (suc n) is h at = absurd (omega (arith, is))
named (d ∷ es) [] e y n is h at = absurd (omega (arith, h))
named (d ∷ es) (z ∷ ys) e y zero is h at = absurd (omega (arith, is))
named (d ∷ es) (z ∷ ys) e y (suc n) is h at = ap (λ l. item_as z.now.name d ∷ l) (named es ys e y n (omega (arith, is)) (omega (arith, h)) at)

full : (es : List Exp) (ys : List (Bor Component)) (e : Exp) → length ys ≤ length (items_as es (shown ys)) → items_as (es ++ e ∷ []) (shown ys) ≡ items_as es (shown ys)
full [] [] e h = refl
full [] (z ∷ ys) e h = absurd (omega (arith, h))
full (d ∷ es) [] e h = refl
full (d ∷ es) (z ∷ ys) e h = ap (λ l. item_as z.now.name d ∷ l) (full es ys e (omega (arith, h)))

count : (old : List Item) (es : List Exp) (ys : List (Bor Component)) → map item_tree old ≡ items_as es (shown ys) → length old ≡ length (items_as es (shown ys))
count old es ys is = sym (length-map old item_tree) ∙ ap length is

-- an item for the next column
pub next_is : (old new : List Item) (ys : List (Bor Component)) (e : Exp) (y : Bor Component) (n : ℕ) → map item_tree new ≡ map item_tree old ++ item_as y.now.name e ∷ [] → n ≡ length old → n < length ys → y ≡ get_or ys n y
    → AreNext old new (e ∷ []) (shown ys)
next_is old new ys e y n is len h at es o =
    is ∙ ap (λ l. l ++ item_as y.now.name e ∷ []) o ∙ sym (named es ys e y n (len ∙ count old es ys o) h at)

-- no items are for no expressions
pub none_behind : (old : List Item) (ys : List Component) → AreNext old old [] ys
none_behind old ys es o = o ∙ ap (λ l. items_as l ys) (sym (append-nil es))

-- there is no further column
pub none_is_next : (old : List Item) (ys : List (Bor Component)) (e : Exp) (n : ℕ) → n ≡ length old → length ys ≤ n → AreNext old old (e ∷ []) (shown ys)
none_is_next old ys e n len h es o = o ∙ sym (full es ys e (omega (arith, h, len, count old es ys o)))

-- items for some expressions, and then for others
pub next_behind : (old between new : List Item) (fs gs : List Exp) (ys : List Component) → AreNext old between fs ys → AreNext between new gs ys → AreNext old new (fs ++ gs) ys
next_behind old between new fs gs ys a b es o = b (es ++ fs) (a es o) ∙ ap (λ l. items_as l ys) (append_assoc es fs gs)

-- columns go by their names
pub own_written : (p : Settings) (xs ys : List Component) → all_to_sql p of_one (columns_named xs ys) ≡ own_columns ys
own_written p xs [] = refl
own_written p xs (y ∷ ys) = ap (λ l. first_column y.name ∷ l) (own_written p xs ys)

-- ---- components one by one

each : {X : Type 0} (f : Component → X) (xs : List (Bor Component)) (i : ℕ) (x : Bor Component) → i < length xs → x ≡ get_or xs i x → map f (shown (take (suc i) xs)) ≡ map f (shown (take i xs)) ++ f x.now ∷ []
each f [] i x h at = absurd (omega (arith, h))
each f (a ∷ xs) zero x h at = ap (λ (z : Bor Component). f z.now ∷ []) (sym at)
each f (a ∷ xs) (suc i) x h at = ap (λ l. f a.now ∷ l) (each f xs i x (omega (arith, h)) at)

-- one more of them
pub each_more : {X : Type 0} (f : Component → X) (xs : List (Bor Component)) (i : ℕ) (x : Bor Component) → i < length xs → x ≡ get_or xs i x → map f (shown (take (i + 1) xs)) ≡ map f (shown (take i xs)) ++ f x.now ∷ []
each_more f xs i x h at = let next : i + 1 ≡ suc i = omega arith in ap (λ n. map f (shown (take n xs))) next ∙ each f xs i x h at
