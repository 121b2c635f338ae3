-- Items by name, as lists of entries.
use Rattle.std.proofs.Common.{◌≡◌, ℕ, zero, suc, ◌+◌, ◌<◌, ◌≤◌, true, false, not, ◌++◌, List, [], ◌∷◌, length, take, map, get_or, Some, None, refl, sym, ap, ◌∙◌, arith, if◌then◌else◌}
use Rattle.std.specs.Map.{keys_of}
use Rattle.std.specs.Prelude.{zip}
use Rattle.std.proofs.lemmas.List.{take_more}
use Rattle.std.proofs.lemmas.Map.Made.{keys_of-map_values}
use Rattle.vtl_lists.specs.Apart.{all_apart}
use Rattle.vtl_text.specs.Texts.{same_text}
use Rattle.vtl_cell.specs.declared.kind.Kind.{Kind}
use Rattle.vtl_text.proofs.Apart.{apart_push, repeated}
use Rattle.sql_check_parts.specs.Scopes.{Columns, is_among, repeats}
use Rattle.sql_check_parts.specs.Told.{distinct_columns}

pub map_push : {A C : Type 0} (g : C → A) (ys : List C) (x : C) → map g (ys ++ x ∷ []) ≡ map g ys ++ g x ∷ []
map_push g [] x = refl
map_push g (y ∷ ys) x = ap (λ l. g y ∷ l) (map_push g ys x)

-- an entry whose name is the one that was shared
pub put_as : {V : Type 0} (before after : List (List ℕ × V)) (copy name : List ℕ) (v : V) → after ≡ before ++ (copy, v) ∷ [] → copy ≡ name → after ≡ before ++ (name, v) ∷ []
put_as before after copy name v p e = p ∙ ap (λ (n : List ℕ). before ++ (n, v) ∷ []) e

-- an entry with its value mapped
abbrev pub with_value : {V W : Type 0} → (V → W) → List ℕ × V → List ℕ × W
with_value g e = (e.0, g e.1)

-- mapping the values keeps the names
pub names_kept : {V W : Type 0} (g : V → W) (name : List ℕ) (es : List (List ℕ × V)) → is_among name (keys_of (map (with_value g) es)) ≡ is_among name (keys_of es)
names_kept g name es = ap (is_among name) (keys_of-map_values g es)

-- ---- columns of names and kinds

-- the names of the first entries are the first names
pub keys_taken : {V : Type 0} (names : List (List ℕ)) (vs : List V) (i : ℕ) → length vs ≡ length names → keys_of (take i (zip names vs)) ≡ take i names
keys_taken names vs zero h = refl
keys_taken [] vs (suc i) h = refl
keys_taken (n ∷ names) [] (suc i) h = absurd (omega (arith, h))
keys_taken (n ∷ names) (v ∷ vs) (suc i) h = ap (λ l. n ∷ l) (keys_taken names vs i (omega (arith, h)))

pub keys_all : {V : Type 0} (names : List (List ℕ)) (vs : List V) → length vs ≡ length names → keys_of (zip names vs) ≡ names
keys_all [] vs h = refl
keys_all (n ∷ names) [] h = absurd (omega (arith, h))
keys_all (n ∷ names) (v ∷ vs) h = ap (λ l. n ∷ l) (keys_all names vs (omega (arith, h)))

zip_long : {V : Type 0} (names : List (List ℕ)) (vs : List V) → length vs ≡ length names → length (zip names vs) ≡ length names
zip_long [] vs h = refl
zip_long (n ∷ names) [] h = absurd (omega (arith, h))
zip_long (n ∷ names) (v ∷ vs) h = ap suc (zip_long names vs (omega (arith, h)))

zip_at : {V : Type 0} (names : List (List ℕ)) (vs : List V) (i : ℕ) (e : List ℕ × V) → length vs ≡ length names → get_or (zip names vs) i e ≡ (get_or names i e.0, get_or vs i e.1)
zip_at [] [] i e h = refl
zip_at [] (v ∷ vs) i e h = absurd (omega (arith, h))
zip_at (n ∷ names) [] i e h = absurd (omega (arith, h))
zip_at (n ∷ names) (v ∷ vs) zero e h = refl
zip_at (n ∷ names) (v ∷ vs) (suc i) e h = zip_at names vs i e (omega (arith, h))

-- one more entry
pub entry_taken : {V : Type 0} (names : List (List ℕ)) (vs : List V) (i : ℕ) (name : List ℕ) (d : V) (es : List (List ℕ × V)) → length vs ≡ length names → i < length names → name ≡ get_or names i name → es ≡ take i (zip names vs)
    → es ++ (name, get_or vs i d) ∷ [] ≡ take (i + 1) (zip names vs)
entry_taken {V = V} names vs i name d es h l en s =
    ap (λ es. es ++ entry ∷ []) s
    ∙ sym (take_more (zip names vs) i (name, d) (omega (arith, l, zip_long names vs h)) ∙ ap (λ y. take i (zip names vs) ++ y ∷ []) (zip_at names vs i (name, d) h ∙ pair))
  where
    entry : List ℕ × V
    entry = (name, get_or vs i d)

    pair : ◌≡◌ {A = List ℕ × V} (get_or names i name, get_or vs i d) (name, get_or vs i d)
    pair = ap (λ (x : List ℕ). (x, get_or vs i d)) (sym en)

pub taken_whole : {X : Type 0} (xs : List X) (i : ℕ) → length xs ≤ i → take i xs ≡ xs
taken_whole [] zero h = refl
taken_whole [] (suc i) h = refl
taken_whole (x ∷ xs) zero h = absurd (omega (arith, h))
taken_whole (x ∷ xs) (suc i) h = ap (λ l. x ∷ l) (taken_whole xs i (omega (arith, h)))

-- all entries, where as many as there are names are taken
pub entries_whole : {V : Type 0} (names : List (List ℕ)) (vs : List V) (i : ℕ) → length vs ≡ length names → length names ≤ i → take i (zip names vs) ≡ zip names vs
entries_whole names vs i h l = taken_whole (zip names vs) i (omega (arith, l, zip_long names vs h))

-- the first names of columns
first_names : (names : List (List ℕ)) (kinds : List Kind) (i : ℕ) (es : Columns) → length kinds ≡ length names → es ≡ take i (zip names kinds) → keys_of es ≡ take i names
first_names names kinds i es h s = ap keys_of s ∙ keys_taken names kinds i h

-- a name among those before it stands twice
pub twice : (names : List (List ℕ)) (kinds : List Kind) (i : ℕ) (name : List ℕ) (es : Columns) → length kinds ≡ length names → i < length names → name ≡ get_or names i name → es ≡ take i (zip names kinds)
    → is_among name (keys_of es) ≡ true → None ≡ distinct_columns (zip names kinds)
twice names kinds i name es h l e s a =
    let before = repeated names i name l e (ap (is_among name) (sym (first_names names kinds i es h s)) ∙ a) in
    sym (ap (λ b. if b then None else Some (zip names kinds)) (ap repeats (keys_all names kinds h) ∙ ap not (sym before)))

-- one more name that is not among those before it
pub still_apart : (names : List (List ℕ)) (kinds : List Kind) (i : ℕ) (name : List ℕ) (es : Columns) → length kinds ≡ length names → i < length names → name ≡ get_or names i name → es ≡ take i (zip names kinds)
    → all_apart same_text (take i names) ≡ true → is_among name (keys_of es) ≡ false → all_apart same_text (take (i + 1) names) ≡ true
still_apart names kinds i name es h l e s a f =
    ap (all_apart same_text) (take_more names i name l ∙ ap (λ y. take i names ++ y ∷ []) (sym e))
    ∙ apart_push (take i names) name a (ap (is_among name) (sym (first_names names kinds i es h s)) ∙ f)

-- where all names are apart, the columns have different names
pub once : (names : List (List ℕ)) (kinds : List Kind) (i : ℕ) (es : Columns) → length kinds ≡ length names → length names ≤ i → es ≡ take i (zip names kinds)
    → all_apart same_text (take i names) ≡ true → Some es ≡ distinct_columns (zip names kinds)
once names kinds i es h l s a =
    ap Some (s ∙ entries_whole names kinds i h l)
    ∙ sym (ap (λ b. if b then None else Some (zip names kinds)) (ap repeats (keys_all names kinds h) ∙ ap not (ap (all_apart same_text) (sym (taken_whole names i l)) ∙ a)))
