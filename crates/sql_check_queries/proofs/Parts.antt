-- The rules of the parts of a list from the left, by what is left of it.
use Rattle.std.proofs.Common.{ℕ, ◌+◌, ◌<◌, ◌≤◌, ◌≡◌, ◌∙◌, length, drop, get_or, map, Bool, ◌&&◌, List, ◌∷◌, ap, sym}
use Rattle.std.specs.Prelude.{Option}
use Rattle.std.specs.List.{flat_map, list_all}
use Rattle.std.proofs.Math.Bool.{and_assoc, and-true}
use Rattle.std.proofs.lemmas.List.{drop_all, drop_more}
use Rattle.vtl_decimal.specs.Settings.{Settings}
use Rattle.sql_tree.specs.Trees.{JoinTree}
use Rattle.sql_check_parts.specs.Queries.{join_breaks, join_source, joins_break}
use Rattle.sql_check_parts.specs.Rules.{least, lesser}
use Rattle.sql_check_parts.specs.Scopes.{Scope, Tables, with_source}
use Rattle.sql_check_parts.specs.declared.rules.SqlRule.{SqlRule}
use Rattle.sql_check_parts.proofs.Least.{least_append, least_none, lesser_apart}

-- an item and those behind it
pub drop_read : {X : Type 0} (xs : List X) (i : ℕ) (x : X) → i < length xs → x ≡ get_or xs i x → drop i xs ≡ x ∷ drop (i + 1) xs
drop_read xs i x h e = drop_more xs i x h ∙ ap (λ y. y ∷ drop (i + 1) xs) (sym e)

-- one more part
pub part_left : {X Y : Type 0} (f : Y → List SqlRule) (view : X → Y) (xs : List X) (i : ℕ) (x : X) (a b : Option SqlRule) → i < length xs → x ≡ get_or xs i x → b ≡ least (f (view x))
    → lesser (lesser a b) (least (flat_map f (map view (drop (i + 1) xs)))) ≡ lesser a (least (flat_map f (map view (drop i xs))))
part_left f view xs i x a b h e s =
    let rest = least (flat_map f (map view (drop (i + 1) xs))) in
    ap (λ c. lesser (lesser a c) rest) s
    ∙ lesser_apart a (least (f (view x))) rest
    ∙ ap (lesser a) (sym (least_append (f (view x)) (flat_map f (map view (drop (i + 1) xs)))))
    ∙ sym (ap (λ ys. lesser a (least (flat_map f (map view ys)))) (drop_read xs i x h e))

-- no part is left
pub parts_end : {X Y : Type 0} (f : Y → List SqlRule) (view : X → Y) (xs : List X) (i : ℕ) (a : Option SqlRule) → length xs ≤ i → lesser a (least (flat_map f (map view (drop i xs)))) ≡ a
parts_end f view xs i a h = ap (λ ys. lesser a (least (flat_map f (map view ys)))) (drop_all i xs h) ∙ least_none a

-- one more join
pub join_left : {X : Type 0} (p : Settings) (tables : Tables) (before after : Scope) (view : X → JoinTree) (xs : List X) (i : ℕ) (x : X) (a b : Option SqlRule) → i < length xs → x ≡ get_or xs i x
    → after ≡ with_source tables before (join_source (view x)) → b ≡ least (join_breaks p tables before (view x))
    → lesser (lesser a b) (least (joins_break p tables after (map view (drop (i + 1) xs)))) ≡ lesser a (least (joins_break p tables before (map view (drop i xs))))
join_left p tables before after view xs i x a b h e grown s =
    let js = map view (drop (i + 1) xs) in
    let own = join_breaks p tables before (view x) in
    ap (λ scope. lesser (lesser a b) (least (joins_break p tables scope js))) grown
    ∙ ap (λ c. lesser (lesser a c) (least (joins_break p tables (with_source tables before (join_source (view x))) js))) s
    ∙ lesser_apart a (least own) (least (joins_break p tables (with_source tables before (join_source (view x))) js))
    ∙ ap (lesser a) (sym (least_append own (joins_break p tables (with_source tables before (join_source (view x))) js)))
    ∙ sym (ap (λ ys. lesser a (least (joins_break p tables before (map view ys)))) (drop_read xs i x h e))

-- no join is left
pub joins_end : {X : Type 0} (p : Settings) (tables : Tables) (before : Scope) (view : X → JoinTree) (xs : List X) (i : ℕ) (a : Option SqlRule) → length xs ≤ i → lesser a (least (joins_break p tables before (map view (drop i xs)))) ≡ a
joins_end p tables before view xs i a h = ap (λ ys. lesser a (least (joins_break p tables before (map view ys)))) (drop_all i xs h) ∙ least_none a

-- one more that has to pass a test
pub passes_left : {X Y : Type 0} (test : Y → Bool) (view : X → Y) (xs : List X) (i : ℕ) (x : X) (a b : Bool) → i < length xs → x ≡ get_or xs i x → b ≡ (a && test (view x))
    → (b && list_all test (map view (drop (i + 1) xs))) ≡ (a && list_all test (map view (drop i xs)))
passes_left test view xs i x a b h e s =
    let rest = list_all test (map view (drop (i + 1) xs)) in
    ap (λ c. c && rest) s
    ∙ and_assoc a (test (view x)) rest
    ∙ sym (ap (λ ys. a && list_all test (map view ys)) (drop_read xs i x h e))

pub passes_end : {X Y : Type 0} (test : Y → Bool) (view : X → Y) (xs : List X) (i : ℕ) (a : Bool) → length xs ≤ i → (a && list_all test (map view (drop i xs))) ≡ a
passes_end test view xs i a h = ap (λ ys. a && list_all test (map view ys)) (drop_all i xs h) ∙ and-true a
