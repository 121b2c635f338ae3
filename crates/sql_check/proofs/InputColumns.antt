-- The columns of an input, those of its key first.
use Rattle.std.proofs.Common.{◌≡◌, ◌∙◌, ◌+◌, ◌<◌, ℕ, Bool, true, false, cond, not, ◌||◌, List, [], ◌∷◌, ◌++◌, length, take, drop, get_or, map, if◌then◌else◌, refl, ap, sym, append_assoc}
use Rattle.std.specs.Map.{keys_of}
use Rattle.std.specs.Prelude.{filter, zip}
use Rattle.std.proofs.Math.Bool.{or_assoc}
use Rattle.std.proofs.lemmas.List.{drop_more, map-append, take_more}
use Rattle.std.proofs.lemmas.Slice.Eq.{bytes_eq-Decides}
use Rattle.vtl_text.specs.Texts.{same_text}
use Rattle.sql_tree.specs.Trees.{Text}
use Rattle.sql_tree.specs.declared.statements.InputColumn.{InputColumn}
use Rattle.sql_check_parts.specs.Scopes.{is_among}
use Rattle.sql_check_parts.specs.Statements.{column_entry, in_table_order}
use Rattle.sql_check_parts.proofs.Maps.{map_push}
use Rattle.sql_check.specs.Answers.{is_wanted}

-- ---- the names of a key

abbrev pub Names : Type 0
Names = List (Text × Unit {0})

among_push : (name : Text) (ks : List Text) (k : Text) → is_among name (ks ++ k ∷ []) ≡ (is_among name ks || same_text name k)
among_push name [] k = go (same_text name k)
  where
    go : (b : Bool) → (b || false) ≡ b
    go true = refl
    go false = refl
among_push name (x ∷ ks) k = ap (λ b. same_text name x || b) (among_push name ks k) ∙ sym (or_assoc (same_text name x) (is_among name ks) (same_text name k))

-- a name that is among others already is no new one
among_again : (name : Text) (ks : List Text) (k : Text) → is_among k ks ≡ true → is_among name ks ≡ (is_among name ks || same_text name k)
among_again name ks k h = go (same_text name k) (bytes_eq-Decides name k).0
  where
    or_true : (b : Bool) → b ≡ true → b ≡ (b || true)
    or_true true e = refl
    or_true false e = e

    or_false : (b : Bool) → b ≡ (b || false)
    or_false true = refl
    or_false false = refl

    go : (b : Bool) → (b ≡ true → name ≡ k) → is_among name ks ≡ (is_among name ks || b)
    go true same = or_true (is_among name ks) (ap (λ n. is_among n ks) (same refl) ∙ h)
    go false same = or_false (is_among name ks)

one_more : (key : List Text) (i : ℕ) (k : Text) → i < length key → k ≡ get_or key i k → (name : Text) → is_among name (take (i + 1) key) ≡ (is_among name (take i key) || same_text name k)
one_more key i k l e name = ap (is_among name) (take_more key i k l ∙ ap (λ y. take i key ++ y ∷ []) (sym e)) ∙ among_push name (take i key) k

-- one more name, which is put
pub name_put : (names : Names) (key : List Text) (i : ℕ) (k : Text) → i < length key → k ≡ get_or key i k → ((name : Text) → is_among name (keys_of names) ≡ is_among name (take i key)) → (name : Text) → is_among name (keys_of (names ++ (k, tt) ∷ [])) ≡ is_among name (take (i + 1) key)
name_put names key i k l e h name =
    ap (is_among name) (map_push (λ e. e.0) names (k, tt))
    ∙ among_push name (keys_of names) k
    ∙ ap (λ b. b || same_text name k) (h name)
    ∙ sym (one_more key i k l e name)

-- one more name, which is there
pub name_there : (names : Names) (key : List Text) (i : ℕ) (k : Text) → i < length key → k ≡ get_or key i k → is_among k (keys_of names) ≡ true → ((name : Text) → is_among name (keys_of names) ≡ is_among name (take i key)) → (name : Text) → is_among name (keys_of names) ≡ is_among name (take (i + 1) key)
name_there names key i k l e a h name =
    among_again name (keys_of names) k a
    ∙ ap (λ b. b || same_text name k) (h name)
    ∙ sym (one_more key i k l e name)

-- ---- columns

-- what is left behind one that is wanted, and behind one that is not
pub wanted_put : {A : Type 0} (g : InputColumn → A) (f : InputColumn → Bool) (cs : List InputColumn) (i : ℕ) (c : InputColumn) (before after : List A) → i < length cs → c ≡ get_or cs i c → f c ≡ true → after ≡ before ++ g c ∷ []
    → after ++ map g (filter f (drop (i + 1) cs)) ≡ before ++ map g (filter f (drop i cs))
wanted_put g f cs i c before after l e h a =
    let rest = filter f (drop (i + 1) cs) in
    ap (λ xs. xs ++ map g rest) a
    ∙ append_assoc before (g c ∷ []) (map g rest)
    ∙ sym (ap (λ b. before ++ map g (cond b (c ∷ rest) rest)) h)
    ∙ sym (ap (λ xs. before ++ map g (filter f xs)) (drop_more cs i c l ∙ ap (λ y. y ∷ drop (i + 1) cs) (sym e)))

pub other_left : {A : Type 0} (g : InputColumn → A) (f : InputColumn → Bool) (cs : List InputColumn) (i : ℕ) (c : InputColumn) (before : List A) → i < length cs → c ≡ get_or cs i c → f c ≡ false
    → before ++ map g (filter f (drop (i + 1) cs)) ≡ before ++ map g (filter f (drop i cs))
other_left g f cs i c before l e h =
    let rest = filter f (drop (i + 1) cs) in
    sym (ap (λ b. before ++ map g (cond b (c ∷ rest) rest)) h)
    ∙ sym (ap (λ xs. before ++ map g (filter f xs)) (drop_more cs i c l ∙ ap (λ y. y ∷ drop (i + 1) cs) (sym e)))

-- those of the key behind none, and then the others, are the columns of the table
pub listed_in_order : {A : Type 0} (g : InputColumn → A) (keys key : List Text) (cs : List InputColumn) (start first last : List A) → ((name : Text) → is_among name keys ≡ is_among name key) → start ≡ []
    → first ≡ start ++ map g (filter (is_wanted keys true) cs) → last ≡ first ++ map g (filter (is_wanted keys false) cs) → last ≡ map g (in_table_order key cs)
listed_in_order g keys key cs start first last h s f l =
    l
    ∙ ap (λ xs. xs ++ map g (filter (is_wanted keys false) cs)) (f ∙ ap (λ xs. xs ++ map g (filter (is_wanted keys true) cs)) s)
    ∙ sym (map-append g (filter (is_wanted keys true) cs) (filter (is_wanted keys false) cs))
    ∙ ap (λ (t : Text → Bool). map g (filter (λ c. t c.name) cs ++ filter (λ c. not (t c.name)) cs)) same
  where
    same : ◌≡◌ {A = Text → Bool} (λ name. is_among name keys) (λ name. is_among name key)
    same = λ i name. h name i

-- the names and the kinds of columns, side by side
pub columns_beside : (cs : List InputColumn) → zip (map (λ c. c.name) cs) (map (λ c. c.kind) cs) ≡ map column_entry cs
columns_beside [] = refl
columns_beside (c ∷ cs) = ap (λ l. (c.name, c.kind) ∷ l) (columns_beside cs)
