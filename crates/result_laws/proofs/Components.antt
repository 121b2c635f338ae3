-- Components with names and codes, and what operators and clauses make of them.
use Rattle.std.proofs.Common.{◌≡◌, ◌⊎◌, inl, inr, ℕ, Bool, true, false, cond, ◌&&◌, not, List, [], ◌∷◌, ◌++◌, map, length, Option, Some, None, refl, sym, ap, ◌∙◌, subst, arith, true≢false}
use Rattle.std.proofs.lemmas.Bool.{and_from, and_parts, false≢true}
use Rattle.std.proofs.lemmas.Bool.Decides.{nat_tests}
use Rattle.std.specs.List.{AllByRecursion, filter, list_all, list_any}
use Rattle.std.specs.Map.{lookup}
use Rattle.std.specs.Option.{option_and_then, option_map_or}
use Rattle.std.specs.Prelude.{◌==◌, nat_le}
use lib.Utf8.{encode}
use Rattle.vtl_cell.specs.declared.kind.Kind.{Kind}
use Rattle.vtl_cell.specs.declared.kind.Kind.TheVariants as k
use Rattle.vtl_text.specs.Words.{fits_name, is_component_character, is_component_name}
use Rattle.vtl_lists.specs.Apart.{all_apart}
use Rattle.vtl_lists.proofs.Aparts.{all_apart-filter}
use Rattle.vtl_lists.proofs.Sorts.{AllByRecursion-filter}
use Rattle.vtl_lists.proofs.Alls.{all_append, all_back, all_from_test}
use Rattle.vtl_tree.specs.Structure.{IsStructure, most_components, names_of, of_role, same_name, same_role}
use Rattle.vtl_tree.specs.Structures.{AreStructures, Named, are_codes, codes_fit, is_declarable, is_declarable_component, is_declarable_entry, is_filled, is_null_kind, is_string_identifier, is_text_kind}
use Rattle.vtl_tree.specs.declared.structure.Component.{Component}
use Rattle.vtl_tree.specs.declared.structure.Role.{Role}
use Rattle.vtl_tree.specs.declared.structure.Role.TheVariants as role
use Rattle.vtl_tree.specs.declared.structure.Structure.{Structure}
use Rattle.vtl_meaning.specs.AggregateShapes as aggregates
use Rattle.vtl_meaning.specs.AggregateShapes.{made_components}
use Rattle.vtl_meaning.specs.AnalyticShapes.{analyzed_components, of_measure}
use Rattle.vtl_syntax.specs.declared.word_groups.CheckOut.{CheckOut}
use Rattle.vtl_syntax.specs.declared.word_groups.CheckOut.TheVariants as out
use Rattle.vtl_tree.specs.Columns.{identifiers_of, kind_named, measures_of}
use Rattle.vtl_meaning.specs.Made.{IsUnpivoted}
use Rattle.vtl_meaning.specs.Shapes.{IsShaped, calculated_components, target_of}
use Rattle.vtl_tree.specs.Trees as nodes
use Rattle.vtl_tree.specs.Trees.{AnalyticTree}
use Rattle.vtl_meaning.specs.Turned.{codes_of}
use Rattle.vtl_tree.specs.declared.specifications.AggItems.{AggItems}
use Rattle.vtl_tree.specs.declared.specifications.AggItems.TheVariants as items
use Rattle.vtl_tree.specs.Choices.{chosen, is_chosen, is_identifier}
use Rattle.vtl_tree.specs.ClauseShapes.{calculated, code_measure, first_kind, is_new, names_column, new_name, pivot_components, renamed, retargeted, target_component}
use Rattle.vtl_tree.specs.ClauseShapes as clauses
use Rattle.vtl_tree.specs.Measures.{Gives, bool_var, given_measure, given_measures, int_var, is_measure, made, measures}
use Rattle.vtl_tree.specs.Operands.{agreed, agreed_identifiers, is_coded_alike}
use Rattle.vtl_tree.specs.Checks.{error_measures, output_parts, ruled_measures, ruleid, sided_measures, uncoded, without_codes}
use Rattle.vtl_tree.specs.Joins.{marked}
use Rattle.vtl_tree.specs.Pairs.{check_measures, contains, errorcode, errorlevel, imbalance, pair_identifiers}
use Rattle.vtl_tree.specs.declared.choices.Choice.{Choice}
use Rattle.vtl_tree.specs.declared.choices.Choice.TheVariants as choice
use Rattle.vtl_tree.specs.declared.measures.Outcome.{Outcome}
use Rattle.vtl_tree.specs.declared.measures.Outcome.TheVariants as outcome
use Rattle.vtl_tree.specs.declared.renaming.Renaming.{Renaming}
use Rattle.vtl_tree.specs.declared.targets.Target.{Target}
use Rattle.vtl_meaning.proofs.FoundColumns.{at-found, found-filter, kind-found}
use Rattle.vtl_meaning.proofs.JoinKept.{apart_map}
use Rattle.vtl_meaning.proofs.Lists as lists
use Rattle.result_laws.proofs.Words.{AreRenamings, CallsHaveNames, HasCodes, IsColumnName, TargetsHaveNames}

-- ---- components
-- one of the names that renamings are from
abbrev pub IsFrom : List Renaming → List ℕ → Type 0
IsFrom rs name = list_any (λ r. same_name r.from name) rs ≡ true

-- a component's name behind an alias
pub record IsMarked (name : List ℕ) : Type 0 where
  pub alias : List ℕ
  pub own : List ℕ
  pub alias_named : IsColumnName alias
  pub own_named : IsColumnName own
  pub is : name ≡ marked alias own

-- a component's name, or one that a join gives back
abbrev pub IsGivenName : List Renaming → List ℕ → Type 0
IsGivenName rs name = IsColumnName name ⊎ (IsMarked name × IsFrom rs name)

-- a component with such a name, and with codes only where they may stand, each once and none empty
abbrev pub IsPlain : List Renaming → Component → Type 0
IsPlain rs x = IsGivenName rs x.name × (codes_fit x ≡ true)

abbrev pub ArePlain : List Renaming → List Component → Type 0
ArePlain rs xs = AllByRecursion (IsPlain rs) xs

pub plain : (rs : List Renaming) (x : Component) → IsColumnName x.name → codes_fit x ≡ true → IsPlain rs x
plain rs x name coded = (inl name, coded)

-- outside of joins it has a component's name
pub column_name : (x : Component) → IsPlain [] x → IsColumnName x.name
column_name x h = go h.0
  where
    go : IsGivenName [] x.name → IsColumnName x.name
    go (inl name) = name
    go (inr none) = absurd (false≢true none.1)

pub all_weaker : (rs : List Renaming) (xs : List Component) → ArePlain [] xs → ArePlain rs xs
all_weaker rs xs h = lists.weaker (IsPlain []) (IsPlain rs) xs (λ x k. plain rs x (column_name x k) k.1) h

-- what a structure's components and the renamings are
abbrev pub Fits : List Renaming → List Component → Type 0
Fits rs xs = ArePlain rs xs × AreRenamings rs

-- ---- data sets that are declared
declared_component : (x : Component) → is_declarable_component x ≡ true → IsPlain [] x
declared_component x h =
    let two = and_parts (is_component_name x.name && not (is_null_kind x.kind)) (codes_fit x) h in
    plain [] x (and_parts (is_component_name x.name) (not (is_null_kind x.kind)) two.0).0 two.1

declared_structure : (s : Structure) → is_declarable s ≡ true → ArePlain [] s.components
declared_structure s h =
    let parts = and_parts (nat_le 1 (length s.components) && nat_le (length s.components) most_components && all_apart same_name (names_of s.components)) (list_all is_declarable_component s.components) h in
    lists.weaker (λ x. is_declarable_component x ≡ true) (IsPlain []) s.components declared_component (all_from_test is_declarable_component s.components parts.1)

-- the structures that are known
abbrev pub AreKnownNamed : Named → Type 0
AreKnownNamed known = AllByRecursion (λ e. ArePlain [] e.1.components) known

pub declared_named : (known : Named) → AreStructures known → AreKnownNamed known
declared_named known are = lists.weaker (λ e. is_declarable_entry e ≡ true) (λ e. ArePlain [] e.1.components) known (λ e h. declared_structure e.1 h) (all_from_test is_declarable_entry known are.declarable)

pub found_named : (test : List ℕ → Bool) (known : Named) (s : Structure) → AreKnownNamed known → lookup test known ≡ Some s → ArePlain [] s.components
found_named test [] s h e = cc
found_named test (x ∷ xs) s h e = go (test x.0) e (found_named test xs s h.1)
  where
    go : (b : Bool) → cond b (Some x.1) (lookup test xs) ≡ Some s → (lookup test xs ≡ Some s → ArePlain [] s.components) → ArePlain [] s.components
    go true k ih = let same : x.1 ≡ s = cc in subst (λ (z : Structure). ArePlain [] z.components) same h.0
    go false k ih = ih k

-- ---- what operators give
pub bool_var_named : IsPlain [] bool_var
unfolding is_component_name encode
bool_var_named = plain [] bool_var refl refl

int_var_named : IsPlain [] int_var
unfolding is_component_name encode
int_var_named = plain [] int_var refl refl

-- ---- what operators and clauses give
module _ (rs : List Renaming) where
  pub role_named : (r : Role) (s : Structure) → ArePlain rs s.components → ArePlain rs (of_role r s)
  role_named r s h = AllByRecursion-filter (IsPlain rs) (λ x. same_role x.role r) s.components h

  pub agreed_named : (others : List Structure) (xs : List Component) → ArePlain rs xs → ArePlain rs (agreed_identifiers others xs)
  agreed_named others xs h = lists.mapped (IsPlain rs) (agreed others) (filter is_identifier xs) (lists.weaker (IsPlain rs) (λ x. IsPlain rs (agreed others x)) (filter is_identifier xs) one (AllByRecursion-filter (IsPlain rs) is_identifier xs h))
    where
      one : (x : Component) → IsPlain rs x → IsPlain rs (agreed others x)
      one x k = go (list_all (λ s. is_coded_alike x s.components) others)
        where
          go : (b : Bool) → IsPlain rs (cond b x (record x { codes = None }))
          go true = k
          go false = (k.0, refl)

  pub chosen_named : (w : Choice) (names : List (List ℕ)) (xs : List Component) → ArePlain rs xs → ArePlain rs (chosen w names xs)
  chosen_named w names xs h = AllByRecursion-filter (IsPlain rs) (is_chosen w names) xs h

  pub calculated_named : (ts : List Target) (xs : List Component) → AllByRecursion (λ t. IsColumnName t.name) ts → ArePlain rs xs → ArePlain rs (calculated_components ts xs)
  calculated_named ts xs named h =
      all_append (IsPlain rs) (map (calculated ts) xs) (map target_component (filter (is_new xs) ts)) (lists.mapped (IsPlain rs) (calculated ts) xs (lists.weaker (IsPlain rs) (λ x. IsPlain rs (calculated ts x)) xs one h))
      (lists.mapped (IsPlain rs) target_component (filter (is_new xs) ts) (lists.weaker (λ t. IsColumnName t.name) (λ t. IsPlain rs (target_component t)) (filter (is_new xs) ts) (λ t name. plain rs (target_component t) name refl) (AllByRecursion-filter (λ t. IsColumnName t.name) (is_new xs) ts named)))
    where
      one : (x : Component) → IsPlain rs x → IsPlain rs (calculated ts x)
      one x k = go (clauses.target_of x.name ts)
        where
          go : (o : Option Target) → IsPlain rs (retargeted x o)
          go None = k
          go (Some t) = (k.0, refl)

  new_named : (pairs : List Renaming) (x : Component) → AreRenamings pairs → IsPlain rs x → IsPlain rs (record x { name = new_name pairs x.name })
  new_named [] x named h = h
  new_named (r ∷ pairs) x named h = go (same_name r.from x.name) (new_named pairs x named.1 h)
    where
      go : (b : Bool) → IsPlain rs (record x { name = new_name pairs x.name }) → IsPlain rs (record x { name = cond b r.to (new_name pairs x.name) })
      go true ih = plain rs (record x { name = r.to }) named.0 h.1
      go false ih = ih

  pub renamed_named : (pairs : List Renaming) (xs : List Component) → AreRenamings pairs → ArePlain rs xs → ArePlain rs (map (renamed pairs) xs)
  renamed_named pairs xs named h = lists.mapped (IsPlain rs) (renamed pairs) xs (lists.weaker (IsPlain rs) (λ x. IsPlain rs (renamed pairs x)) xs (λ x k. new_named pairs x named k) h)

-- ---- what operators give of measures
module _ (rs : List Renaming) where
  each_given : (f : Gives) (others : Option (List Component)) (xs : List Component) → ArePlain rs xs → ArePlain rs (map (given_measure f others) (measures xs))
  each_given f others xs h = lists.mapped (IsPlain rs) (given_measure f others) (measures xs) (lists.weaker (IsPlain rs) (λ x. IsPlain rs (given_measure f others x)) (measures xs) (λ x k. (k.0, refl)) (AllByRecursion-filter (IsPlain rs) is_measure xs h))

  pub given_named : (o : Outcome) (f : Gives) (others : Option (List Component)) (xs : List Component) → ArePlain rs xs → ArePlain rs (given_measures o f others xs)
  given_named outcome.Each f others xs h = each_given f others xs h
  given_named outcome.All f others xs h = each_given f others xs h
  given_named outcome.Truth f others xs h = all_weaker rs (bool_var ∷ []) (bool_var_named, tt)
  given_named outcome.Count f others xs h = all_weaker rs (int_var ∷ []) (int_var_named, tt)

  -- what an aggregate makes
  pub made_named : (i : AggItems) (xs : List Component) → TargetsHaveNames i → ArePlain rs xs → ArePlain rs (made_components i xs)
  made_named (items.Measures f) xs named h = given_named (aggregates.outcome_of f) (aggregates.of_measure f) None xs h
  made_named (items.Targets ts) xs named h =
      lists.mapped (IsPlain rs) (aggregates.target_component xs) ts
      (lists.weaker (λ t. IsColumnName t.target) (λ t. IsPlain rs (aggregates.target_component xs t)) ts (λ t name. plain rs (aggregates.target_component xs t) name refl) named)

  -- what an analytic operator makes
  pub analyzed_named : (spec : AnalyticTree) (xs : List Component) → CallsHaveNames spec → ArePlain rs xs → ArePlain rs (analyzed_components spec xs)
  analyzed_named (nodes.of_measures o w) xs named h = all_append (IsPlain rs) (chosen choice.Except [] xs) (given_measures outcome.All (of_measure o) None xs) (chosen_named rs choice.Except [] xs h) (given_named outcome.All (of_measure o) None xs h)
  analyzed_named (nodes.of_items items) xs named h = calculated_named rs (map (target_of xs) items) xs (lists.mapped (λ t. IsColumnName t.name) (target_of xs) items named) h

pub pair_named : (a b : Structure) → ArePlain [] a.components → ArePlain [] b.components → ArePlain [] (pair_identifiers a b)
pair_named a b ha hb = go (contains a b)
  where
    go : (t : Bool) → ArePlain [] (cond t (agreed_identifiers (b ∷ []) a.components) (agreed_identifiers (a ∷ []) b.components))
    go true = agreed_named [] (b ∷ []) a.components ha
    go false = agreed_named [] (a ∷ []) b.components hb

-- ---- checks
imbalance_named : IsPlain [] imbalance
unfolding is_component_name encode
imbalance_named = plain [] imbalance refl refl

errorcode_named : IsPlain [] errorcode
unfolding is_component_name encode
errorcode_named = plain [] errorcode refl refl

errorlevel_named : IsPlain [] errorlevel
unfolding is_component_name encode
errorlevel_named = plain [] errorlevel refl refl

ruleid_named : IsPlain [] ruleid
unfolding is_component_name encode
ruleid_named = plain [] ruleid refl refl

errors_named : ArePlain [] error_measures
errors_named = (errorcode_named, (errorlevel_named, tt))

pub check_named : (others : List Structure) (xs : List Component) → ArePlain [] xs → ArePlain [] (agreed_identifiers others xs ++ check_measures)
check_named others xs h = all_append (IsPlain []) (agreed_identifiers others xs) check_measures (agreed_named [] others xs h) (bool_var_named, (imbalance_named, errors_named))

-- identifiers, that of rules, and what an output shows behind them
shown_named : (o : CheckOut) (ids : List Component) (a : Structure) (rest : List Component) → ArePlain [] ids → ArePlain [] a.components → ArePlain [] rest → ArePlain [] (ids ++ ruleid ∷ output_parts o (measures_of a) bool_var rest)
shown_named o ids a rest i h r = all_append (IsPlain []) ids (ruleid ∷ output_parts o (measures_of a) bool_var rest) i (ruleid_named, go o)
  where
    measured : ArePlain [] (measures_of a)
    measured = role_named [] role.Measure a h

    go : (o : CheckOut) → ArePlain [] (output_parts o (measures_of a) bool_var rest)
    go out.Invalid = all_append (IsPlain []) (measures_of a) rest measured r
    go out.All = (bool_var_named, r)
    go out.AllMeasures = all_append (IsPlain []) (measures_of a) (bool_var ∷ rest) measured (bool_var_named, r)

pub ruled_named : (o : CheckOut) (a : Structure) → ArePlain [] a.components → ArePlain [] (identifiers_of a ++ ruleid ∷ ruled_measures o a)
ruled_named o a h = shown_named o (identifiers_of a) a error_measures (role_named [] role.Identifier a h) h errors_named

-- the identifier of items is without codes
pub uncoded_named : (id : List ℕ) (a : Structure) → ArePlain [] a.components → ArePlain [] (without_codes id (identifiers_of a))
uncoded_named id a h = lists.mapped (IsPlain []) (uncoded id) (identifiers_of a) (lists.weaker (IsPlain []) (λ x. IsPlain [] (uncoded id x)) (identifiers_of a) one (role_named [] role.Identifier a h))
  where
    one : (x : Component) → IsPlain [] x → IsPlain [] (uncoded id x)
    one x k = go (same_name x.name id)
      where
        go : (b : Bool) → IsPlain [] (cond b (record x { codes = None }) x)
        go true = (k.0, refl)
        go false = k

pub sided_named : (o : CheckOut) (id : List ℕ) (a : Structure) → ArePlain [] a.components → ArePlain [] (without_codes id (identifiers_of a) ++ ruleid ∷ sided_measures o a)
sided_named o id a h = shown_named o (without_codes id (identifiers_of a)) a (imbalance ∷ error_measures) (uncoded_named id a h) h (imbalance_named, errors_named)

-- ---- `pivot`: codes are texts
text_kind : (kind : Kind) → is_text_kind kind ≡ true → kind ≡ k.Text
text_kind k.Text h = refl
text_kind kind h = absurd (false≢true h)

coded_kind : (x : Component) (texts : List (List ℕ)) → codes_fit x ≡ true → x.codes ≡ Some texts → x.kind ≡ k.Text
coded_kind x texts fit there =
    let both = and_parts (is_string_identifier x.role x.kind) (are_codes texts) (subst (λ o. option_map_or (λ codes. is_string_identifier x.role x.kind && are_codes codes) o true ≡ true) there fit) in
    text_kind x.kind (and_parts (same_role x.role role.Identifier) (is_text_kind x.kind) both.0).1

pub codes_are_texts : (id : List ℕ) (a : Structure) → ArePlain [] a.components → HasCodes id a → kind_named id (identifiers_of a) ≡ k.Text
codes_are_texts id a h coded =
    let x = coded.component in
    let own = at-found (IsPlain []) id a.components x h coded.named.0 in
    kind-found id (identifiers_of a) x (found-filter is_identifier id a.components x coded.named.0 coded.named.1) ∙ coded_kind x coded.codes own.1 coded.there

codes_found : (id : List ℕ) (a : Structure) (coded : HasCodes id a) → codes_of id a ≡ coded.codes
codes_found id a coded = ap (λ o. option_map_or (λ codes. codes) (option_and_then (λ x. x.codes) o) []) coded.named.0 ∙ ap (λ codes. option_map_or (λ codes. codes) codes []) coded.there

pub pivot_named : (id : List ℕ) (kind : Kind) (a : Structure) → ArePlain [] a.components → HasCodes id a → ArePlain [] (pivot_components id kind (codes_of id a) a.components)
pivot_named id kind a h coded =
    all_append (IsPlain []) (chosen choice.Except (id ∷ []) a.components) (map (code_measure kind) (codes_of id a)) (chosen_named [] choice.Except (id ∷ []) a.components h)
    (lists.mapped (IsPlain []) (code_measure kind) (codes_of id a) (lists.weaker IsColumnName (λ text. IsPlain [] (code_measure kind text)) (codes_of id a) (λ text name. plain [] (code_measure kind text) name refl) (subst (AllByRecursion IsColumnName) (sym (codes_found id a coded)) coded.names)))

-- ---- `unpivot`: the names of measures are the codes of the identifier that holds them
-- a component's name is not empty
name_filled : (name : List ℕ) → IsColumnName name → is_filled name ≡ true
unfolding is_component_name
name_filled name h = (and_parts (not (length name == 0)) (list_all is_component_character name) (and_parts (fits_name name) (not (length name == 0) && list_all is_component_character name) h).1).0

names_filled : (xs : List Component) → ArePlain [] xs → list_all is_filled (names_of xs) ≡ true
names_filled [] h = refl
names_filled (x ∷ xs) h = and_from (is_filled x.name) (list_all is_filled (names_of xs)) (name_filled x.name (column_name x h.0)) (names_filled xs h.1)

names_coded : (id : List ℕ) (ms : List Component) → is_null_kind (first_kind ms) ≡ false → ArePlain [] ms → all_apart same_name (names_of ms) ≡ true → codes_fit (names_column id ms) ≡ true
names_coded id [] some named apart = absurd (true≢false some)
names_coded id (x ∷ xs) some named apart =
    let names = names_of (x ∷ xs) in
    and_from (not (length names == 0) && list_all is_filled names) (all_apart same_name names) (and_from (not (length names == 0)) (list_all is_filled names) (grind (arith, nat_tests)) (names_filled (x ∷ xs) named)) apart

measures_apart : (a : Structure) → IsStructure a → all_apart same_name (names_of (measures_of a)) ≡ true
measures_apart a h = apart_map (λ x. x.name) same_name (measures_of a) ∙ all_apart-filter (λ x y. same_name x.name y.name) (λ x. same_role x.role role.Measure) a.components (sym (apart_map (λ x. x.name) same_name a.components) ∙ h.distinct)

-- the kind of the measure that is given is that of a first measure
measure_kind : (id x : List ℕ) (a s : Structure) → IsUnpivoted id x a s → IsShaped s → is_null_kind (first_kind (measures_of a)) ≡ false
measure_kind id x a s is shaped = (all_back HasKind (chosen choice.Except [] a.components) (names_column id (measures_of a) ∷ made x role.Measure (first_kind (measures_of a)) ∷ []) (subst (AllByRecursion HasKind) is.shape shaped.kinds)).1.0
  where
    HasKind : Component → Type 0
    HasKind y = is_null_kind y.kind ≡ false

pub unpivot_named : (id x : List ℕ) (a s : Structure) → IsStructure a → ArePlain [] a.components → IsColumnName id → IsColumnName x → IsUnpivoted id x a s → IsShaped s → ArePlain [] (chosen choice.Except [] a.components ++ names_column id (measures_of a) ∷ made x role.Measure (first_kind (measures_of a)) ∷ [])
unpivot_named id x a s formed h id_named x_named is shaped =
    let codes = names_coded id (measures_of a) (measure_kind id x a s is shaped) (role_named [] role.Measure a h) (measures_apart a formed) in
    all_append (IsPlain []) (chosen choice.Except [] a.components) (names_column id (measures_of a) ∷ made x role.Measure (first_kind (measures_of a)) ∷ []) (chosen_named [] choice.Except [] a.components h)
    (plain [] (names_column id (measures_of a)) id_named codes, (plain [] (made x role.Measure (first_kind (measures_of a))) x_named refl, tt))
