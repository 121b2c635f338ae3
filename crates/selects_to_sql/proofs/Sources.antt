-- The columns of one source, and of two.
use Rattle.std.proofs.Common.{◌≡◌, ◌<◌, ◌+◌, ℕ, zero, suc, Bool, true, false, cond, List, [], ◌∷◌, ◌++◌, length, Some, refl, ap, sym, ◌∙◌, subst, arith}
use Rattle.std.specs.Prelude.{nat_lt, if◌then◌else◌}
use Rattle.std.specs.List.{AllByRecursion}
use Rattle.std.specs.Map.{lookup}
use Rattle.std.proofs.lemmas.Bool.{le-ltb, lt-ltb}
use Rattle.std.proofs.lemmas.List.{length-map}
use Rattle.vtl_lists.specs.Apart.{all_apart}
use Rattle.vtl_text.specs.Texts.{same_text}
use Rattle.vtl_cell.specs.declared.kind.Kind.{Kind}
use Rattle.vtl_lists.proofs.Aparts.{apart_parts}
use Rattle.vtl_tree.specs.Structure.{names_of, same_name}
use Rattle.vtl_tree.specs.declared.structure.Component.{Component}
use Rattle.vtl_tree.proofs.NotNullLemmas.{same_itself}
use Rattle.vtl_meaning.specs.Made.{IsColumnAt}
use Rattle.vtl_meaning.proofs.Places.{same_name-sym}
use Rattle.sql_lexer.specs.Spelling.{is_name}
use Rattle.sql_tree.specs.Formed.{IsName}
use Rattle.sql_check_parts.specs.Scopes.{Scope, found, numbered}
use Rattle.sql_meaning.specs.Values.{place_in}
use Rattle.expressions_to_sql.specs.Names.{AreNamesFormed, Names}
use Rattle.selects_to_sql.specs.Writable.{HaveNames}
use Rattle.selects_to_sql.specs.Queries.{first_alias, of_one, of_two, second_alias}
use Rattle.selects_to_sql.specs.Runs.{entries}
use lib.Utf8.{encode}

abbrev pub AreApart : List Component → Type 0
AreApart xs = all_apart same_name (names_of xs) ≡ true

-- ---- a column by its place and by its name

named_within : (P : List ℕ → Type 0) (place : ℕ) (name : List ℕ) (kind : Kind) (xs : List Component) → IsColumnAt place name kind xs → AllByRecursion P (names_of xs) → P name
named_within P place name kind [] i all = absurd i
named_within P zero name kind (x ∷ xs) i all = subst P i.0 all.0
named_within P (suc place) name kind (x ∷ xs) i all = named_within P place name kind xs i all.1

pub not_first : (place : ℕ) (name : List ℕ) (kind : Kind) (x : Component) (xs : List Component) → IsColumnAt place name kind xs → AreApart (x ∷ xs) → same_text name x.name ≡ false
not_first place name kind x xs i a = same_name-sym name x.name ∙ named_within (λ n. same_name x.name n ≡ false) place name kind xs i (apart_parts same_name x.name (names_of xs) a).0

pub kind_found : (place : ℕ) (name : List ℕ) (kind : Kind) (xs : List Component) → IsColumnAt place name kind xs → AreApart xs → lookup (same_text name) (entries xs) ≡ Some kind
kind_found place name kind [] i a = absurd i
kind_found zero name kind (x ∷ xs) i a =
    ap (λ b. cond b (Some x.kind) (lookup (same_text name) (entries xs))) (ap (λ n. same_text n x.name) (sym i.0) ∙ same_itself x.name) ∙ ap Some i.1
kind_found (suc place) name kind (x ∷ xs) i a =
    ap (λ b. cond b (Some x.kind) (lookup (same_text name) (entries xs))) (not_first place name kind x xs i a)
    ∙ kind_found place name kind xs i (apart_parts same_name x.name (names_of xs) a).1

pub place_found : (n place : ℕ) (name : List ℕ) (kind : Kind) (xs : List Component) → IsColumnAt place name kind xs → AreApart xs → lookup (same_text name) (numbered n (entries xs)) ≡ Some (n + place)
place_found n place name kind [] i a = absurd i
place_found n zero name kind (x ∷ xs) i a =
    ap (λ b. cond b (Some n) (lookup (same_text name) (numbered (suc n) (entries xs)))) (ap (λ m. same_text m x.name) (sym i.0) ∙ same_itself x.name) ∙ ap Some (omega arith)
place_found n (suc place) name kind (x ∷ xs) i a =
    let more : suc n + place ≡ n + suc place = omega arith in
    ap (λ b. cond b (Some n) (lookup (same_text name) (numbered (suc n) (entries xs)))) (not_first place name kind x xs i a)
    ∙ place_found (suc n) place name kind xs i (apart_parts same_name x.name (names_of xs) a).1
    ∙ ap Some more

-- ---- one source

abbrev pub one_scope : List Component → Scope
one_scope xs = (first_alias, entries xs) ∷ []

pub one_names : (xs : List Component) → AreApart xs → Names of_one (one_scope xs) xs
one_names xs a = record {
  known = λ place name kind i. kind_found place name kind xs i a;
  placed = λ place name kind i. rw (place_found 0 place name kind xs i a) (omega arith);
}

-- ---- two sources

abbrev pub two_scope : List Component → List Component → Scope
two_scope xs ys = (first_alias, entries xs) ∷ (second_alias, entries ys) ∷ []

-- a column of the first, or one of the second
pub column_of_two : (xs ys : List Component) (place : ℕ) (name : List ℕ) (kind : Kind) (P : ℕ → Type 0)
    → ((i : ℕ) → i < length xs → IsColumnAt i name kind xs → P i) → ((j : ℕ) → IsColumnAt j name kind ys → P (length xs + j)) → IsColumnAt place name kind (xs ++ ys) → P place
column_of_two [] ys place name kind P f g i = subst P (omega arith) (g place i)
column_of_two (x ∷ xs) ys zero name kind P f g i = f zero (omega arith) i
column_of_two (x ∷ xs) ys (suc place) name kind P f g i =
    column_of_two xs ys place name kind (λ n. P (suc n)) (λ n h j. f (suc n) (omega (arith, h)) j) (λ n j. let more : length (x ∷ xs) + n ≡ suc (length xs + n) = omega arith in subst P more (g n j)) i

module _ (xs ys : List Component) (a : AreApart xs) (b : AreApart ys) where
  is_first : (i : ℕ) → i < length xs → nat_lt i (length xs) ≡ true
  is_first i h = lt-ltb i (length xs) h

  is_second : (j : ℕ) → nat_lt (length xs + j) (length xs) ≡ false
  is_second j = le-ltb (length xs + j) (length xs) (omega arith)

  pub two_names : Names (of_two (length xs)) (two_scope xs ys) (xs ++ ys)
  two_names = record {
    known = λ place name kind.
        column_of_two xs ys place name kind (λ n. found (two_scope xs ys) (of_two (length xs) n name) ≡ Some kind)
        (λ i h j. rw (is_first i h) (kind_found i name kind xs j a))
        (λ i j. rw (is_second i) (kind_found i name kind ys j b));
    placed = λ place name kind.
        column_of_two xs ys place name kind (λ n. place_in (two_scope xs ys) (of_two (length xs) n name) ≡ n)
        (λ i h j. rw (is_first i h) (rw (place_found 0 i name kind xs j a) (omega arith)))
        (λ i j. let size : length (entries xs) ≡ length xs = length-map xs (λ x. (x.name, x.kind)) in rw (is_second i) (rw (place_found (0 + length (entries xs)) i name kind ys j b) (omega (arith, size))));
  }

-- ---- names that are written

pub first_is_name : IsName first_alias
unfolding is_name encode
first_is_name = refl

pub second_is_name : IsName second_alias
unfolding is_name encode
second_is_name = refl

pub is_named : (xs : List Component) → HaveNames xs → (place : ℕ) (name : List ℕ) (kind : Kind) → IsColumnAt place name kind xs → IsName name
is_named [] all place name kind i = absurd i
is_named (x ∷ xs) all zero name kind i = subst IsName i.0 all.0
is_named (x ∷ xs) all (suc place) name kind i = is_named xs all.1 place name kind i

pub one_formed : (xs : List Component) → HaveNames xs → AreNamesFormed of_one xs
one_formed xs all = λ place name kind i. (first_is_name, is_named xs all place name kind i)

pub two_formed : (n : ℕ) (xs : List Component) → HaveNames xs → AreNamesFormed (of_two n) xs
two_formed n xs all = λ place name kind i. (go (nat_lt place n), is_named xs all place name kind i)
  where
    go : (b : Bool) → IsName (if b then first_alias else second_alias)
    go true = first_is_name
    go false = second_is_name
