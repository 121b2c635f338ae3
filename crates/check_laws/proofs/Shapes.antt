-- The structures that forms give.
use Rattle.std.proofs.Common.{◌≡◌, ℕ, Bool, true, false, cond, not, List, [], ◌∷◌, ◌++◌, length, map, Result, refl, sym, ap, ◌∙◌}
use Rattle.std.proofs.lemmas.Bool.{false≢true, and_parts, not-false, or_parts}
use Rattle.std.proofs.lemmas.List.{append-nil}
use Rattle.std.proofs.lemmas.List.Elements.{filter-append}
use Rattle.std.specs.List.{AllByRecursion, filter}
use Rattle.std.specs.Prelude.{nat_eq, nat_lt}
use Rattle.vtl_lists.specs.Apart.{all_apart}
use Rattle.vtl_lists.specs.Results.{◌>>=◌}
use Rattle.vtl_lists.proofs.Filters.{filter_all, filter_none}
use Rattle.vtl_lists.proofs.Alls.{all_filtered, all_kept}
use Rattle.vtl_lists.proofs.Aparts.{none_same}
use Rattle.check_faults.specs.declared.rules.Rule.{Rule}
use Rattle.vtl_tree.specs.Structure.{columns_of, most_components, names_of, of_role, same_name, same_role}
use Rattle.vtl_tree.specs.Structures.{is_null_kind, structure_of}
use Rattle.vtl_tree.specs.declared.structure.Component.{Component}
use Rattle.vtl_tree.specs.declared.structure.Role.{Role}
use Rattle.vtl_tree.specs.declared.structure.Role.TheVariants as role
use Rattle.vtl_tree.specs.declared.structure.Structure.{Structure}
use Rattle.vtl_tree.specs.Choices.{chosen, is_chosen, is_identifier}
use Rattle.vtl_tree.specs.Measures.{is_measure}
use Rattle.vtl_tree.specs.Names.{is_among}
use Rattle.check_shapes.specs.Shape.{result_tests, shaped}
use Rattle.vtl_tree.specs.declared.choices.Choice.TheVariants as choice
use Rattle.vtl_tree.specs.Columns.{identifiers_of, measures_of, others_of}
use Rattle.vtl_meaning.specs.Shapes.{IsShaped}
use Rattle.check_laws.specs.Gives.{ArePassed, Gives}
use Rattle.vtl_meaning.proofs.Lists as lists
use Rattle.check_laws.proofs.Steps.{after, tested}
use Rattle.check_laws.proofs.Tests.{below, nonzero}

pub shaped-gives : (P : Structure → Type 0) (xs : List Component) → (IsShaped (structure_of xs) → P (structure_of xs)) → Gives P (shaped xs)
shaped-gives P xs f = tested P (result_tests xs) (structure_of xs) (λ passed. f (is passed))
  where
    is : ArePassed (result_tests xs) → IsShaped (structure_of xs)
    is passed = let counts = or_parts (nat_eq (length xs) 0) (nat_lt most_components (length xs)) passed.1.0 in
        record {
          well_formed = record {
            some = nonzero (length xs) counts.0;
            few = below most_components (length xs) counts.1;
            distinct = not-false (all_apart same_name (names_of xs)) passed.0;
          };
          kinds = none_same (λ x. is_null_kind x.kind) xs passed.1.1.0;
        }

-- whatever the components are
pub any-shaped : {A : Type 0} (r : Result A Rule) (f : A → List Component) → Gives IsShaped (r >>= λ x. shaped (f x))
any-shaped r f = after IsShaped r (λ x. shaped (f x)) (λ x. shaped-gives IsShaped (f x) (λ is. is))

-- ---- filters
-- a test behind a weaker one
pub filter-within : {X : Type 0} (p q : X → Bool) (xs : List X) → AllByRecursion (λ x. p x ≡ true → q x ≡ true) xs → filter p (filter q xs) ≡ filter p xs
filter-within p q [] h = refl
filter-within p q (x ∷ xs) h = go (q x) refl (p x) refl (filter-within p q xs h.1)
  where
    go : (b : Bool) → q x ≡ b → (c : Bool) → p x ≡ c → filter p (filter q xs) ≡ filter p xs → filter p (cond b (x ∷ filter q xs) (filter q xs)) ≡ cond c (x ∷ filter p xs) (filter p xs)
    go true e true d ih = ap (λ b. cond b (x ∷ filter p (filter q xs)) (filter p (filter q xs))) d ∙ ap (λ l. x ∷ l) ih
    go true e false d ih = ap (λ b. cond b (x ∷ filter p (filter q xs)) (filter p (filter q xs))) d ∙ ih
    go false e true d ih = absurd (false≢true (sym e ∙ h.0 d))
    go false e false d ih = ih

-- a change of items that the test does not see
pub filter-mapped : {X : Type 0} (p : X → Bool) (f : X → X) (xs : List X) → ((x : X) → p (f x) ≡ p x) → filter p (map f xs) ≡ map f (filter p xs)
filter-mapped p f [] e = refl
filter-mapped p f (x ∷ xs) e = ap (λ b. cond b (f x ∷ filter p (map f xs)) (filter p (map f xs))) (e x) ∙ go (p x) (filter-mapped p f xs e)
  where
    go : (b : Bool) → filter p (map f xs) ≡ map f (filter p xs) → cond b (f x ∷ filter p (map f xs)) (filter p (map f xs)) ≡ map f (cond b (x ∷ filter p xs) (filter p xs))
    go true ih = ap (λ l. f x ∷ l) ih
    go false ih = ih

-- ---- identifiers and then other components
pub front-identifiers : (ids others : List Component) → AllByRecursion (λ x. x.role ≡ role.Identifier) ids → AllByRecursion (λ x. is_identifier x ≡ false) others → identifiers_of (structure_of (ids ++ others)) ≡ ids
front-identifiers ids others first rest =
    filter-append is_identifier ids others
    ∙ ap (λ l. l ++ filter is_identifier others) (filter_all is_identifier ids (lists.weaker (λ x. x.role ≡ role.Identifier) (λ x. is_identifier x ≡ true) ids (λ x e. ap (λ r. same_role r role.Identifier) e) first))
    ∙ ap (λ l. ids ++ l) (filter_none is_identifier others rest)
    ∙ append-nil ids

-- the components of another role are all behind them
pub behind-identifiers : (r : Role) (ids others : List Component) → same_role role.Identifier r ≡ false → AllByRecursion (λ x. x.role ≡ role.Identifier) ids → of_role r (structure_of (ids ++ others)) ≡ filter (λ x. same_role x.role r) others
behind-identifiers r ids others unlike first =
    filter-append (λ x. same_role x.role r) ids others
    ∙ ap (λ l. l ++ filter (λ x. same_role x.role r) others) (filter_none (λ x. same_role x.role r) ids (lists.weaker (λ x. x.role ≡ role.Identifier) (λ x. same_role x.role r ≡ false) ids (λ x e. ap (λ q. same_role q r) e ∙ unlike) first))

-- ---- identifiers and then measures
pub record AreParts (ids ms : List Component) : Type 0 where
  pub identifiers : AllByRecursion (λ x. x.role ≡ role.Identifier) ids
  pub measures : AllByRecursion (λ x. x.role ≡ role.Measure) ms

pub parts-identifiers : (ids ms : List Component) → AreParts ids ms → identifiers_of (structure_of (ids ++ ms)) ≡ ids
parts-identifiers ids ms are = front-identifiers ids ms are.identifiers (lists.weaker (λ x. x.role ≡ role.Measure) (λ x. is_identifier x ≡ false) ms (λ x e. ap (λ r. same_role r role.Identifier) e) are.measures)

pub parts-measures : (ids ms : List Component) → AreParts ids ms → measures_of (structure_of (ids ++ ms)) ≡ ms
parts-measures ids ms are = behind-identifiers role.Measure ids ms refl are.identifiers ∙ filter_all is_measure ms (lists.weaker (λ x. x.role ≡ role.Measure) (λ x. is_measure x ≡ true) ms (λ x e. ap (λ r. same_role r role.Measure) e) are.measures)

abbrev pub is_attribute : Component → Bool
is_attribute x = same_role x.role role.Attribute

pub parts-attributes : (ids ms : List Component) → AreParts ids ms → of_role role.Attribute (structure_of (ids ++ ms)) ≡ []
parts-attributes ids ms are = behind-identifiers role.Attribute ids ms refl are.identifiers ∙ filter_none is_attribute ms (lists.weaker (λ x. x.role ≡ role.Measure) (λ x. is_attribute x ≡ false) ms (λ x e. ap (λ r. same_role r role.Attribute) e) are.measures)

pub parts-columns : (ids ms : List Component) → AreParts ids ms → columns_of (structure_of (ids ++ ms)) ≡ ids ++ ms
parts-columns ids ms are =
    ap (λ l. l ++ of_role role.Measure s ++ of_role role.Attribute s) (parts-identifiers ids ms are)
    ∙ ap (λ l. ids ++ l ++ of_role role.Attribute s) (parts-measures ids ms are)
    ∙ ap (λ l. ids ++ ms ++ l) (parts-attributes ids ms are)
    ∙ append-nil (ids ++ ms)
  where
    s : Structure
    s = structure_of (ids ++ ms)

pub parts-others : (ids ms : List Component) → AreParts ids ms → others_of (structure_of (ids ++ ms)) ≡ ms
parts-others ids ms are = ap (λ l. l ++ of_role role.Attribute (structure_of (ids ++ ms))) (parts-measures ids ms are) ∙ ap (λ l. ms ++ l) (parts-attributes ids ms are) ∙ append-nil ms

-- ---- all identifiers of an operand
pub role-identifier : (x : Component) → is_identifier x ≡ true → x.role ≡ role.Identifier
role-identifier x e = go x.role e
  where
    go : (r : Role) → same_role r role.Identifier ≡ true → r ≡ role.Identifier
    go role.Identifier e = refl
    go role.Measure e = absurd (false≢true e)
    go role.Attribute e = absurd (false≢true e)

pub role-measure : (x : Component) → is_measure x ≡ true → x.role ≡ role.Measure
role-measure x e = go x.role e
  where
    go : (r : Role) → same_role r role.Measure ≡ true → r ≡ role.Measure
    go role.Identifier e = absurd (false≢true e)
    go role.Measure e = refl
    go role.Attribute e = absurd (false≢true e)

-- identifiers that a choice leaves
pub chosen-roles : (names : List (List ℕ)) (xs : List Component) → AllByRecursion (λ x. x.role ≡ role.Identifier) (chosen choice.Except names xs)
chosen-roles names xs = lists.weaker (λ x. is_chosen choice.Except names x ≡ true) (λ x. x.role ≡ role.Identifier) (chosen choice.Except names xs) (λ x e. role-identifier x (and_parts (is_identifier x) (not (is_among x.name names)) e).0) (all_filtered (is_chosen choice.Except names) xs)

pub identifier-roles : (xs : List Component) → AllByRecursion (λ x. x.role ≡ role.Identifier) (filter is_identifier xs)
identifier-roles xs = lists.weaker (λ x. Unit {0} × (is_identifier x ≡ true)) (λ x. x.role ≡ role.Identifier) (filter is_identifier xs) (λ x k. role-identifier x k.1) (all_kept (λ x. Unit {0}) is_identifier xs (lists.every (λ x. Unit {0}) xs (λ x. tt)))

pub measure-roles : (xs : List Component) → AllByRecursion (λ x. x.role ≡ role.Measure) (filter is_measure xs)
measure-roles xs = lists.weaker (λ x. Unit {0} × (is_measure x ≡ true)) (λ x. x.role ≡ role.Measure) (filter is_measure xs) (λ x k. role-measure x k.1) (all_kept (λ x. Unit {0}) is_measure xs (lists.every (λ x. Unit {0}) xs (λ x. tt)))
