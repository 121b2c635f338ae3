-- Rows that are made column by column: identifiers first, then the others.
use Rattle.lineage_laws.proofs.Rows.{agree_append, agree_key, agree_map, agree_map_all, same_identifier, same_named}
use Rattle.lineage_laws.specs.Agree.{Agree, IsKnown, Known, Together}
use Rattle.std.proofs.Common.{◌≡◌, ℕ, true, ◌||◌, List, [], ◌∷◌, ◌++◌, length, map, take, refl, sym, ap, ◌∙◌, subst, arith}
use Rattle.std.specs.List.{AllByRecursion, list_any}
use Rattle.std.specs.Prelude.{Ok, Option}
use Rattle.std.proofs.lemmas.Bool.{or_right}
use Rattle.vtl_lists.proofs.Sorts.{AllByRecursion-map}
use Rattle.vtl_lists.proofs.Alls.{all_more}
use Rattle.vtl_cell.specs.Outcome.{unless}
use Rattle.vtl_cell.specs.Row.{Row}
use Rattle.vtl_decimal.specs.declared.number.Fault.{Fault}
use Rattle.vtl_meaning.proofs.Kept.{shown_split, unless_ok}
use Rattle.vtl_meaning.proofs.LookUps.{named_cells}
use Rattle.vtl_meaning.proofs.OwnColumns.{column_any}
use Rattle.vtl_meaning.proofs.Places.{all_of_map, key_width_same}
use Rattle.vtl_meaning.specs.LookUps.{value_named, values_named}
use Rattle.vtl_meaning.specs.Made.{AreAmong, HasIdentifiers, IsColumnAt}
use Rattle.vtl_rows.specs.Tables.{cells_at}
use Rattle.vtl_tree.specs.Columns.{identifiers_of, others_of, place_of, places_in}
use Rattle.vtl_tree.specs.Structure.{columns_of, key_width, names_of, same_name}
use Rattle.vtl_tree.specs.declared.structure.Component.{Component}
use Rattle.vtl_tree.specs.declared.structure.Structure.{Structure}
use Rattle.vtl_tree.proofs.NotNullLemmas.{same_itself}
use Rattle.vtl_sources.specs.Links.{Pairs}
use Rattle.vtl_sources.specs.Sources.{sources}
use Rattle.lineage_laws.specs.Over.{Operand, columns_from, no_pairs, source_named}

-- ---- results without a fault
pub both_ok : {X Y : Type 0} (R : X → Y → Type 0) (f g : Option Fault) (xs out : List X) (ys other : List Y) → Together R xs ys → unless f xs ≡ Ok out → unless g ys ≡ Ok other → Together R out other
both_ok R f g xs out ys other t h k = subst (λ z. Together R z other) (unless_ok f xs out h).1 (subst (λ z. Together R xs z) (unless_ok g ys other k).1 t)

-- ---- columns that all depend on the same
pub const_map : {A : Type 0} (c : A) (xs ys : List Component) → length xs ≡ length ys → map (λ x. c) xs ≡ map (λ y. c) ys
const_map c [] [] e = refl
const_map c [] (y ∷ ys) e = absurd (omega (arith, e))
const_map c (x ∷ xs) [] e = absurd (omega (arith, e))
const_map c (x ∷ xs) (y ∷ ys) e = ap (λ l. c ∷ l) (const_map c xs ys (omega (arith, e)))

-- ---- identifiers of an operand
abbrev pub IsIdentifierOf : Structure → List ℕ → Type 0
IsIdentifierOf a name = list_any (λ x. same_name x.name name) (identifiers_of a) ≡ true

own_any : (xs zs : List Component) → ((n : List ℕ) → list_any (λ x. same_name x.name n) xs ≡ true → list_any (λ x. same_name x.name n) zs ≡ true) → AllByRecursion (λ y. list_any (λ x. same_name x.name y.name) zs ≡ true) xs
own_any [] zs h = tt
own_any (x ∷ xs) zs h = (h x.name (ap (λ b. b || list_any (λ y. same_name y.name x.name) xs) (same_itself x.name)), own_any xs zs (λ n e. h n (or_right (same_name x.name n) (list_any (λ y. same_name y.name n) xs) e)))

pub named_alike : (P : List ℕ → Type 0) (xs ys : List Component) → names_of ys ≡ names_of xs → AllByRecursion (λ x. P x.name) xs → AllByRecursion (λ y. P y.name) ys
named_alike P xs ys e all = all_of_map (λ y. y.name) P ys (subst (λ ns. AllByRecursion P ns) (sym e) (AllByRecursion-map (λ x. x.name) P xs all))

pub own_identifier_names : (a : Structure) → AllByRecursion (λ y. IsIdentifierOf a y.name) (identifiers_of a)
own_identifier_names a = own_any (identifiers_of a) (identifiers_of a) (λ n e. e)

pub kept_identifiers : (s a : Structure) → HasIdentifiers s (identifiers_of a) → AllByRecursion (λ y. IsIdentifierOf a y.name) (identifiers_of s)
kept_identifiers s a h = named_alike (IsIdentifierOf a) (identifiers_of a) (identifiers_of s) h.0 (own_identifier_names a)

pub among_identifiers : (ys : List Component) (a : Structure) → AreAmong ys (identifiers_of a) → AllByRecursion (λ y. IsIdentifierOf a y.name) ys
among_identifiers ys a h = all_more (λ y. IsColumnAt (place_of y.name (identifiers_of a)) y.name y.kind (identifiers_of a)) (λ y. IsIdentifierOf a y.name) (λ y c. column_any (place_of y.name (identifiers_of a)) y.name y.kind (identifiers_of a) c) ys h

module _ (known : Known) where
  pub agree_joined : (pts : Pairs) (xs : List Component) (srcs : List Pairs) (f g u v : Row) → Agree known (map (λ x. pts) xs) f g → Agree known srcs u v → Agree known (map (λ x. pts) xs ++ srcs) (f ++ u) (g ++ v)
  agree_joined pts xs srcs f g u v a b = agree_append known (map (λ x. pts) xs) f g srcs u v a b

  module _ (a : Operand) (r q : Row) (agree : Agree known (columns_from a.structure a.sources) r q) where
    abbrev xs : List Component
    xs = columns_of a.structure

    -- identifiers of the operand
    pub agree_front : (pts : Pairs) (ys : List Component) → AllByRecursion (λ y. IsIdentifierOf a.structure y.name) ys → Agree known (map (λ y. pts) ys) (values_named xs ys r) (values_named xs ys q)
    agree_front pts ys all = agree_map_all known (λ y. IsIdentifierOf a.structure y.name) (λ y. pts) (λ y. value_named xs r y.name) (λ y. value_named xs q y.name) ys (λ y i h. same_identifier known a r q agree y.name i) all

    pub agree_front_cells : (pts : Pairs) (ys : List Component) → AllByRecursion (λ y. IsIdentifierOf a.structure y.name) ys → Agree known (map (λ y. pts) ys) (cells_at (places_in xs ys) r) (cells_at (places_in xs ys) q)
    agree_front_cells pts ys all =
        subst (λ z. Agree known (map (λ y. pts) ys) z (cells_at (places_in xs ys) q)) (sym (named_cells xs ys r))
        (subst (λ z. Agree known (map (λ y. pts) ys) (values_named xs ys r) z) (sym (named_cells xs ys q)) (agree_front pts ys all))

    pub same_values : (ys : List Component) → AllByRecursion (λ y. IsIdentifierOf a.structure y.name) ys → values_named xs ys r ≡ values_named xs ys q
    same_values [] all = refl
    same_values (y ∷ ys) all = λ i. same_identifier known a r q agree y.name all.0 i ∷ same_values ys all.1 i

    -- columns by their names, of which more may be asked
    pub agree_named : (src : Component → Pairs) → ((y : Component) → IsKnown known (src y) → IsKnown known (source_named a y.name)) → (ys : List Component) → Agree known (map src ys) (values_named xs ys r) (values_named xs ys q)
    agree_named src more ys = agree_map known src (λ y. value_named xs r y.name) (λ y. value_named xs q y.name) ys (λ y h. same_named known a r q agree y.name (more y h))

    pub agree_left : (pts : Pairs) (src : Component → Pairs) → ((y : Component) → IsKnown known (src y) → IsKnown known (source_named a y.name)) → (s : Structure) → AllByRecursion (λ y. IsIdentifierOf a.structure y.name) (identifiers_of s)
        → Agree known (columns_from s (sources pts (map src (others_of s)))) (cells_at (places_in xs (columns_of s)) r) (cells_at (places_in xs (columns_of s)) q)
    agree_left pts src more s all =
        let ys = identifiers_of s in
        let zs = others_of s in
        let split : (t : Row) → cells_at (places_in xs (columns_of s)) t ≡ values_named xs ys t ++ values_named xs zs t = λ t. shown_split xs s t ∙ (λ i. named_cells xs ys t i ++ named_cells xs zs t i) in
        subst (λ z. Agree known (columns_from s (sources pts (map src zs))) z (cells_at (places_in xs (columns_of s)) q)) (sym (split r))
        (subst (λ z. Agree known (columns_from s (sources pts (map src zs))) (values_named xs ys r ++ values_named xs zs r) z) (sym (split q))
        (agree_joined no_pairs ys (map src zs) (values_named xs ys r) (values_named xs ys q) (values_named xs zs r) (values_named xs zs q) (agree_front no_pairs ys all) (agree_named src more zs)))

    -- the identifiers alone, in the columns of a structure that has them
    pub agree_ids : (pts : Pairs) (s : Structure) → HasIdentifiers s (identifiers_of a.structure) → Agree known (map (λ y. pts) (identifiers_of s)) (take (key_width a.structure) r) (take (key_width a.structure) q)
    agree_ids pts s h = subst (λ l. Agree known l (take (key_width a.structure) r) (take (key_width a.structure) q)) (const_map pts (identifiers_of a.structure) (identifiers_of s) (sym (key_width_same s a.structure h))) (agree_key known a r q agree pts)
