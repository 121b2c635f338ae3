-- The identifiers of results, with their codes.
use Rattle.std.specs.List.{AllByRecursion, filter, list_all}
use Rattle.std.proofs.Common.{◌≡◌, ℕ, Bool, true, false, not, cond, ◌&&◌, List, [], ◌∷◌, ◌++◌, map, Option, Some, None, refl, sym, ap, ◌∙◌, append_assoc}
use Rattle.std.proofs.lemmas.List.{append-nil}
use Rattle.std.proofs.lemmas.List.Elements.{filter-append}
use Rattle.vtl_lists.proofs.Alls.{all_append, all_each, all_filtered, all_more}
use Rattle.vtl_lists.proofs.Sorts.{AllByRecursion-map}
use Rattle.vtl_lists.proofs.Filters.{filter_all, filter_none}
use Rattle.vtl_cell.specs.declared.operator.ScalarOp.{ScalarOp}
use Rattle.vtl_decimal.specs.Settings.{Settings}
use Rattle.vtl_tree.specs.Choices.{chosen, is_chosen, is_identifier}
use Rattle.vtl_tree.specs.ClauseShapes.{code_measure, first_kind, names_column}
use Rattle.vtl_tree.specs.Columns.{identifiers_of, kind_named, measures_of}
use Rattle.vtl_tree.specs.Measures.{Gives, bool_var, given_measure, given_measures, made, measures}
use Rattle.vtl_tree.specs.Names.{is_among}
use Rattle.vtl_tree.specs.Operands.{agreed, agreed_identifiers, is_coded_alike}
use Rattle.vtl_tree.specs.Pairs.{contains, pair_identifiers}
use Rattle.vtl_tree.specs.Structure.{columns_of, same_role}
use Rattle.vtl_tree.specs.Trees.{MeasureTree}
use Rattle.vtl_tree.specs.declared.choices.Choice.TheVariants as choice
use Rattle.vtl_tree.specs.declared.measures.Outcome.{Outcome}
use Rattle.vtl_tree.specs.declared.measures.Outcome.TheVariants as outcome
use Rattle.vtl_tree.specs.declared.structure.Component.{Component}
use Rattle.vtl_tree.specs.declared.structure.Role.TheVariants as role
use Rattle.vtl_tree.specs.declared.structure.Structure.{Structure}
use Rattle.vtl_tuples.proofs.Lists.{filter_each}
use Rattle.vtl_meaning.specs.Made.{IsChoice, IsExistence, IsMeasured, IsPaired, IsPivoted, IsUnpivoted}
use Rattle.vtl_meaning.specs.Shapes.{given_between, given_of_two, outcome_of}
use Rattle.vtl_meaning.specs.Turned.{codes_of, other_identifiers}
use Rattle.vtl_meaning.proofs.Places.{measure_role}
use Rattle.vtl_meaning_laws.proofs.Combined.{agreed_roles}

-- ---- identifiers before other components
abbrev pub AreIdentifiers : List Component → Type 0
AreIdentifiers xs = AllByRecursion (λ x. is_identifier x ≡ true) xs

abbrev pub AreOthers : List Component → Type 0
AreOthers xs = AllByRecursion (λ x. is_identifier x ≡ false) xs

pub front : (s : Structure) (ids others : List Component) → s.components ≡ ids ++ others → AreIdentifiers ids → AreOthers others → identifiers_of s ≡ ids
front s ids others e all none =
    ap (filter is_identifier) e ∙ filter-append is_identifier ids others ∙ ap (λ l. l ++ filter is_identifier others) (filter_all is_identifier ids all)
    ∙ ap (λ l. ids ++ l) (filter_none is_identifier others none) ∙ append-nil ids

own : (a : Structure) → AreIdentifiers (identifiers_of a)
own a = all_filtered is_identifier a.components

own_measures : (a : Structure) → AreOthers (measures_of a)
own_measures a = all_more (λ x. same_role x.role role.Measure ≡ true) (λ x. is_identifier x ≡ false) (λ x e. measure_role x.role e) (measures_of a) (all_filtered (λ x. same_role x.role role.Measure) a.components)

given : (o : Outcome) (f : Gives) (others : Option (List Component)) (xs : List Component) → AreOthers (given_measures o f others xs)
given outcome.Each f others xs = AllByRecursion-map (given_measure f others) (λ x. is_identifier x ≡ false) (measures xs) (all_each (λ x. is_identifier (given_measure f others x) ≡ false) (λ x. refl) (measures xs))
given outcome.All f others xs = AllByRecursion-map (given_measure f others) (λ x. is_identifier x ≡ false) (measures xs) (all_each (λ x. is_identifier (given_measure f others x) ≡ false) (λ x. refl) (measures xs))
given outcome.Truth f others xs = (refl, tt)
given outcome.Count f others xs = (refl, tt)

pub left_ones : (names : List (List ℕ)) (xs : List Component) → AreIdentifiers (chosen choice.Except names xs)
left_ones names xs = all_more (λ x. is_chosen choice.Except names x ≡ true) (λ x. is_identifier x ≡ true) (λ x e. first (is_identifier x) (not (is_among x.name names)) e) (chosen choice.Except names xs) (all_filtered (is_chosen choice.Except names) xs)
  where
    first : (a b : Bool) → (a && b) ≡ true → a ≡ true
    first true b e = refl
    first false b e = e

pub agreed_ones : (bs : List Structure) (xs : List Component) → AreIdentifiers (agreed_identifiers bs xs)
agreed_ones bs xs = agreed_roles role.Identifier bs xs

-- ---- operators
pub measured_identifiers : (p : Settings) (m : MeasureTree) (a s : Structure) → IsMeasured p m a s → identifiers_of s ≡ identifiers_of a
measured_identifiers p m a s i = front s (identifiers_of a) (given_measures (outcome_of m.op) (given_between m) None a.components) i.shape (own a) (given (outcome_of m.op) (given_between m) None a.components)

pub paired_identifiers : (p : Settings) (o : ScalarOp) (a b s : Structure) → IsPaired p o a b s → identifiers_of s ≡ pair_identifiers a b
paired_identifiers p o a b s i =
    front s (pair_identifiers a b) (given_measures (outcome_of o) (given_of_two o) (Some b.components) a.components) i.shape (either (contains a b)) (given (outcome_of o) (given_of_two o) (Some b.components) a.components)
  where
    either : (c : Bool) → AreIdentifiers (cond c (agreed_identifiers (b ∷ []) a.components) (agreed_identifiers (a ∷ []) b.components))
    either true = agreed_ones (b ∷ []) a.components
    either false = agreed_ones (a ∷ []) b.components

pub choice_identifiers : (t a b s : Structure) → IsChoice t a b s → identifiers_of s ≡ agreed_identifiers (a ∷ b ∷ []) t.components
choice_identifiers t a b s i = front s (agreed_identifiers (a ∷ b ∷ []) t.components) (measures_of a) i.shape (agreed_ones (a ∷ b ∷ []) t.components) (own_measures a)

pub existence_identifiers : (a b s : Structure) → IsExistence a b s → identifiers_of s ≡ agreed_identifiers (b ∷ []) a.components
existence_identifiers a b s i = front s (agreed_identifiers (b ∷ []) a.components) (bool_var ∷ []) i.shape (agreed_ones (b ∷ []) a.components) (refl, tt)

pub pivoted_identifiers : (id m : List ℕ) (a s : Structure) → IsPivoted id m a s → identifiers_of s ≡ other_identifiers id a
pivoted_identifiers id m a s i =
    let kind = kind_named m (columns_of a) in
    front s (other_identifiers id a) (map (code_measure kind) (codes_of id a)) i.shape (left_ones (id ∷ []) a.components)
    (AllByRecursion-map (code_measure kind) (λ x. is_identifier x ≡ false) (codes_of id a) (all_each (λ t. is_identifier (code_measure kind t) ≡ false) (λ t. refl) (codes_of id a)))

pub unpivoted_identifiers : (id m : List ℕ) (a s : Structure) → IsUnpivoted id m a s → identifiers_of s ≡ identifiers_of a ++ names_column id (measures_of a) ∷ []
unpivoted_identifiers id m a s i =
    front s (identifiers_of a ++ names_column id (measures_of a) ∷ []) (made m role.Measure (first_kind (measures_of a)) ∷ []) (i.shape ∙ regrouped)
    (all_append (λ x. is_identifier x ≡ true) (identifiers_of a) (names_column id (measures_of a) ∷ []) (own a) (refl, tt)) (refl, tt)
  where
    all_left : (xs : List Component) → chosen choice.Except [] xs ≡ filter is_identifier xs
    all_left xs = filter_each (is_chosen choice.Except []) is_identifier (λ x. plain (is_identifier x)) xs
      where
        plain : (b : Bool) → (b && true) ≡ b
        plain true = refl
        plain false = refl

    regrouped : chosen choice.Except [] a.components ++ names_column id (measures_of a) ∷ made m role.Measure (first_kind (measures_of a)) ∷ [] ≡ (identifiers_of a ++ names_column id (measures_of a) ∷ []) ++ made m role.Measure (first_kind (measures_of a)) ∷ []
    regrouped =
        ap (λ l. l ++ names_column id (measures_of a) ∷ made m role.Measure (first_kind (measures_of a)) ∷ []) (all_left a.components)
        ∙ sym (append_assoc (identifiers_of a) (names_column id (measures_of a) ∷ []) (made m role.Measure (first_kind (measures_of a)) ∷ []))

-- ---- what is agreed
pub agreed_kept : (bs : List Structure) (x : Component) → AllByRecursion (λ b. is_coded_alike x b.components ≡ true) bs → agreed bs x ≡ x
agreed_kept bs x all = ap (λ b. cond b x (record x { codes = None })) (all_pass bs all)
  where
    all_pass : (cs : List Structure) → AllByRecursion (λ b. is_coded_alike x b.components ≡ true) cs → list_all (λ b. is_coded_alike x b.components) cs ≡ true
    all_pass [] h = refl
    all_pass (c ∷ cs) h = ap (λ b. b && list_all (λ d. is_coded_alike x d.components) cs) h.0 ∙ all_pass cs h.1

pub agreed_lost : (bs : List Structure) (x : Component) → list_all (λ b. is_coded_alike x b.components) bs ≡ false → (agreed bs x).codes ≡ None
agreed_lost bs x e = ap (λ b. (cond b x (record x { codes = None })).codes) e
