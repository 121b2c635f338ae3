-- A text of version 2 declares what it was written for.
use Rattle.std.proofs.Common.{◌≡◌, ℕ, ◌+◌, ◌-◌, ◌≤◌, Bool, true, false, cond, not, ◌&&◌, ◌||◌, List, [], ◌∷◌, ◌++◌, length, length-append, map, flat_map, Option, Some, None, Result, Ok, Err, arith, refl, sym, ap, subst, ◌∙◌, append-nil, append_assoc}
use Rattle.std.specs.Cmp.Lexicographic.{nat_list_eq_equiv}
use Rattle.std.specs.List.{AllByRecursion, list_all, list_any}
use Rattle.std.specs.Map.{keys_of, lookup}
use Rattle.std.specs.Option.{option_and_then, option_map_or}
use Rattle.std.specs.Prelude.{encode_utf8_all, nat_le, option_map}
use Rattle.std.proofs.lemmas.Bool.{and_parts, not-true, or_parts}
use Rattle.std.proofs.lemmas.Bool.Decides.{nat_tests}
use Rattle.std.proofs.lemmas.List.{map-append}
use Rattle.vtl_lists.specs.Aliases.{Name, Record}
use Rattle.vtl_lists.specs.Apart.{all_apart}
use Rattle.vtl_lists.specs.Results.{◌>>=◌}
use Rattle.vtl_decimal.specs.Settings.{Settings}
use Rattle.vtl_decimal.specs.declared.settings.Rounding.{Rounding}
use Rattle.vtl_decimal.specs.declared.settings.Rounding.TheVariants as round
use Rattle.vtl_tree.specs.declared.structure.Component.{Component}
use Rattle.vtl_tree.specs.declared.structure.Structure.{Structure}
use Rattle.vtl_tree.specs.NotNull.{Declared, NotNull, not_null_of}
use Rattle.vtl_tree.specs.Structure.{most_components, names_of, same_name}
use Rattle.vtl_tree.specs.Structures.{Named, are_declarable, components_of, has_name, is_declarable_component, is_declarable_entry, structure_of}
use Rattle.vtl_tree.proofs.StructuresLemmas.{not_found}
use Rattle.vtl_csv.specs.declared.declarations.NewComponent.{NewComponent}
use Rattle.vtl_csv.specs.declared.structures.Declared.{Declared as Whole}
use Rattle.vtl_csv.specs.declared.version.Opening.{Opening}
use Rattle.vtl_csv.specs.declared.version.Version.TheVariants as v
use Rattle.vtl_csv.specs.Declarations.{dataset_in, record_of, with_new}
use Rattle.vtl_csv.specs.Opening.{Fault, opening_of, profile_in, rounding_in, scale_in, second_of}
use Rattle.vtl_csv.specs.StructuresFile.{◌at_line◌, is_identifier, lacks_identifier, lines_behind, lines_declare, lines_in, missing_in, structures_of_file, with_identifiers, without_identifier}
use Rattle.vtl_csv.specs.StructuresText.{component_record, declaring_records, heading_record, profile_record, records_written, rounding_word, second_text, set_records}
use Rattle.structures_laws.specs.Writable.{IsWritable, IsWritableComponent, IsWritableSet}
use Rattle.structures_laws.proofs.OneMore.{record_again}
use Rattle.structures_laws.proofs.Orders.{last_found, new_of, same_itself, state, state_begins, state_grows}
use Rattle.structures_laws.proofs.RecordsAgain.{second_again}

-- ---- names that are apart
at_seam : {X : Type 0} (p : X → Bool) (xs : List X) (x : X) (ys : List X) → list_any p (xs ++ x ∷ ys) ≡ false → p x ≡ false
at_seam p [] x ys h = (or_parts (p x) (list_any p ys) h).0
at_seam p (z ∷ xs) x ys h = at_seam p xs x ys (or_parts (p z) (list_any p (xs ++ x ∷ ys)) h).1

new_behind : (xs : List Name) (n : Name) (ys : List Name) → all_apart same_name (xs ++ n ∷ ys) ≡ true → list_any (same_name n) xs ≡ false
new_behind [] n ys apart = refl
new_behind (z ∷ xs) n ys apart =
    let parts = and_parts (not (list_any (same_name z) (xs ++ n ∷ ys))) (all_apart same_name (xs ++ n ∷ ys)) apart in
    let differ = at_seam (same_name z) xs n ys (not-true (list_any (same_name z) (xs ++ n ∷ ys)) parts.0) in
    ap (λ b. b || list_any (same_name n) xs) (nat_list_eq_equiv.symm n z ∙ differ) ∙ new_behind xs n ys parts.1

front_apart : (xs : List Name) (n : Name) (ys : List Name) → all_apart same_name (xs ++ n ∷ ys) ≡ true → all_apart same_name (xs ++ n ∷ []) ≡ true
front_apart [] n ys apart = refl
front_apart (z ∷ xs) n ys apart =
    let parts = and_parts (not (list_any (same_name z) (xs ++ n ∷ ys))) (all_apart same_name (xs ++ n ∷ ys)) apart in
    let fewer = not-true (list_any (same_name z) (xs ++ n ∷ ys)) parts.0 in
    ap (λ b. not b && all_apart same_name (xs ++ n ∷ [])) (shorter (same_name z) xs n ys fewer) ∙ front_apart xs n ys parts.1
  where
    shorter : (p : Name → Bool) (xs : List Name) (n : Name) (ys : List Name) → list_any p (xs ++ n ∷ ys) ≡ false → list_any p (xs ++ n ∷ []) ≡ false
    shorter p [] n ys h = ap (λ b. b || false) (or_parts (p n) (list_any p ys) h).0
    shorter p (z ∷ xs) n ys h =
        let parts = or_parts (p z) (list_any p (xs ++ n ∷ ys)) h in
        ap (λ b. b || list_any p (xs ++ n ∷ [])) parts.0 ∙ shorter p xs n ys parts.1

before_apart : (xs : List Name) (ys : List Name) → all_apart same_name (xs ++ ys) ≡ true → all_apart same_name xs ≡ true
before_apart [] ys apart = refl
before_apart (z ∷ xs) ys apart =
    let parts = and_parts (not (list_any (same_name z) (xs ++ ys))) (all_apart same_name (xs ++ ys)) apart in
    ap (λ b. not b && all_apart same_name xs) (shorter (same_name z) xs (not-true (list_any (same_name z) (xs ++ ys)) parts.0)) ∙ before_apart xs ys parts.1
  where
    shorter : (p : Name → Bool) (us : List Name) → list_any p (us ++ ys) ≡ false → list_any p us ≡ false
    shorter p [] h = refl
    shorter p (u ∷ us) h =
        let parts = or_parts (p u) (list_any p (us ++ ys)) h in
        ap (λ b. b || list_any p us) parts.0 ∙ shorter p us parts.1

names_split : (xs : List Component) (x : Component) (ys : List Component) → names_of (xs ++ x ∷ ys) ≡ names_of xs ++ x.name ∷ names_of ys
names_split xs x ys = map-append (λ (c : Component). c.name) xs (x ∷ ys)

keys_split : (xs : Named) (ys : Named) → keys_of (xs ++ ys) ≡ keys_of xs ++ keys_of ys
keys_split [] ys = refl
keys_split (x ∷ xs) ys = ap (λ (l : List Name). x.0 ∷ l) (keys_split xs ys)

upto : (n : ℕ) → nat_le n most_components ≡ true → n ≤ most_components
upto n e = grind (arith, nat_tests)

-- ---- the lines
module _ (ls : NotNull) where
  abbrev Declares : Declared → List Record → Declared → Type 0
  Declares so_far rows final = (line : ℕ) → lines_declare v.Second line so_far rows ≡ Ok final

  one_line : (so_far new final : Declared) (fields : Record) (rest : List Record) (n : NewComponent) → record_of v.Second so_far.sets fields ≡ Ok n → with_new n so_far ≡ new → Declares new rest final → Declares so_far (fields ∷ rest) final
  one_line so_far new final fields rest n is same k line =
      ap (λ (q : Result NewComponent ℕ). (q >>= λ m. Ok (with_new m so_far)) at_line line >>= λ more. lines_declare v.Second (line + 1) more rest) is
      ∙ ap (λ (d : Declared). lines_declare v.Second (line + 1) d rest) same
      ∙ k (line + 1)

  module _ (front : Named) (name : Name) (new : has_name name front ≡ false) (apart : all_apart same_name (keys_of front ++ name ∷ []) ≡ true) (named : dataset_in (encode_utf8_all name) ≡ Some name) (final : Declared) (more : List Record) where
    abbrev list : List Name
    list = not_null_of name ls

    abbrev reached : List Component → Declared
    reached cs = state ls (front ++ (name, structure_of cs) ∷ [])

    its_components : (cs : List Component) → components_of name (front ++ (name, structure_of cs) ∷ []) ≡ cs
    its_components cs = ap (λ (o : Option Structure). option_map_or (λ s. s.components) o []) (last_found front name (structure_of cs) new)

    more_components : (done rest : List Component) → AllByRecursion IsWritableComponent rest → list_all is_declarable_component rest ≡ true → all_apart same_name (names_of (done ++ rest)) ≡ true → length (done ++ rest) ≤ most_components
        → Declares (reached (done ++ rest)) more final → Declares (reached done) (map (component_record name list) rest ++ more) final
    more_components done [] all declarable names few k = subst (λ (cs : List Component). Declares (reached cs) more final) (append-nil done) k
    more_components done (x ∷ rest) all declarable names few k =
        let good = and_parts (is_declarable_component x) (list_all is_declarable_component rest) declarable in
        let on : (done ++ x ∷ []) ++ rest ≡ done ++ x ∷ rest = append_assoc done (x ∷ []) rest in
        let away : list_any (same_name x.name) (names_of (components_of name (front ++ (name, structure_of done) ∷ []))) ≡ false =
        ap (λ (cs : List Component). list_any (same_name x.name) (names_of cs)) (its_components done) ∙ new_behind (names_of done) x.name (names_of rest) (ap (all_apart same_name) (sym (names_split done x rest)) ∙ names) in
        let size : length (components_of name (front ++ (name, structure_of done) ∷ [])) ≡ length done = ap length (its_components done) in
        let sum = length-append done (x ∷ rest) in
        one_line (reached done) (reached (done ++ x ∷ [])) final (component_record name list x) (map (component_record name list) rest ++ more) (new_of ls name x)
        (record_again (front ++ (name, structure_of done) ∷ []) name list x named all.0 good.0 away (omega (arith, size, sum, few))) (state_grows ls front name new done x apart)
        (more_components (done ++ x ∷ []) rest all.1 good.1 (ap (λ (cs : List Component). all_apart same_name (names_of cs)) on ∙ names) (subst (λ (cs : List Component). length cs ≤ most_components) (sym on) few)
        (subst (λ (cs : List Component). Declares (reached cs) more final) (sym on) k))

    one_set : (cs : List Component) → are_declarable cs ≡ true → AllByRecursion IsWritableComponent cs → Declares (reached cs) more final → Declares (state ls front) (map (component_record name list) cs ++ more) final
    one_set [] declarable all k = cc
    one_set (x ∷ xs) declarable all k =
        let parts = and_parts (nat_le 1 (length (x ∷ xs)) && nat_le (length (x ∷ xs)) most_components && all_apart same_name (names_of (x ∷ xs))) (list_all is_declarable_component (x ∷ xs)) declarable in
        let front_parts = and_parts (nat_le 1 (length (x ∷ xs)) && nat_le (length (x ∷ xs)) most_components) (all_apart same_name (names_of (x ∷ xs))) parts.0 in
        let few = upto (length (x ∷ xs)) (and_parts (nat_le 1 (length (x ∷ xs))) (nat_le (length (x ∷ xs)) most_components) front_parts.0).1 in
        let good = and_parts (is_declarable_component x) (list_all is_declarable_component xs) parts.1 in
        let nothing : components_of name front ≡ [] = ap (λ (o : Option Structure). option_map_or (λ s. s.components) o []) (not_found front name new) in
        let away : list_any (same_name x.name) (names_of (components_of name front)) ≡ false = ap (λ (c : List Component). list_any (same_name x.name) (names_of c)) nothing in
        let size : length (components_of name front) ≡ 0 = ap length nothing in
        one_line (state ls front) (reached (x ∷ [])) final (component_record name list x) (map (component_record name list) xs ++ more) (new_of ls name x)
        (record_again front name list x named all.0 good.0 away (omega (arith, size, few))) (state_begins ls front name new x (before_apart (keys_of front) (name ∷ []) apart))
        (more_components (x ∷ []) xs all.1 good.1 front_parts.1 few k)

  all_sets : (front rest : Named) → all_apart same_name (keys_of (front ++ rest)) ≡ true → AllByRecursion IsWritableSet rest → list_all is_declarable_entry rest ≡ true → Declares (state ls front) (flat_map (set_records ls) rest) (state ls (front ++ rest))
  all_sets front [] apart all declarable = λ line. ap (λ (xs : Named). Ok (state ls xs)) (sym (append-nil front))
  all_sets front (e ∷ rest) apart all declarable =
      let good = and_parts (is_declarable_entry e) (list_all is_declarable_entry rest) declarable in
      let keys : all_apart same_name (keys_of front ++ e.0 ∷ keys_of rest) ≡ true = ap (all_apart same_name) (sym (keys_split front (e ∷ rest))) ∙ apart in
      let on : (front ++ e ∷ []) ++ rest ≡ front ++ e ∷ rest = append_assoc front (e ∷ []) rest in
      one_set front e.0 (new_behind (keys_of front) e.0 (keys_of rest) keys) (front_apart (keys_of front) e.0 (keys_of rest) keys) all.0.named (state ls (front ++ e ∷ rest)) (flat_map (set_records ls) rest) e.1.components good.0 all.0.components
      (subst (λ (xs : Named). Declares (state ls (front ++ e ∷ [])) (flat_map (set_records ls) rest) (state ls xs)) on (all_sets (front ++ e ∷ []) rest (ap (λ (xs : Named). all_apart same_name (keys_of xs)) on ∙ apart) all.1 good.1))

-- ---- no data set lacks an identifier
module _ (ls : NotNull) (sets : Named) where
  none_lacks : (line : ℕ) (rows : List Record) → AllByRecursion (λ fields. lacks_identifier v.Second sets fields ≡ false) rows → without_identifier v.Second line sets rows ≡ None
  none_lacks line [] all = refl
  none_lacks line (fields ∷ rows) all = ap (λ b. cond b (Some line) (without_identifier v.Second (line + 1) sets rows)) all.0 ∙ none_lacks (line + 1) rows all.1

  all_joined : {X : Type 0} (P : X → Type 0) (xs ys : List X) → AllByRecursion P xs → AllByRecursion P ys → AllByRecursion P (xs ++ ys)
  all_joined P [] ys a b = b
  all_joined P (x ∷ xs) ys a b = (a.0, all_joined P xs ys a.1 b)

  set_lacks_none : (e : Name × Structure) (cs : List Component) → dataset_in (encode_utf8_all e.0) ≡ Some e.0 → list_any is_identifier (components_of e.0 sets) ≡ true
      → AllByRecursion (λ fields. lacks_identifier v.Second sets fields ≡ false) (map (component_record e.0 (not_null_of e.0 ls)) cs)
  set_lacks_none e [] named has = tt
  set_lacks_none e (c ∷ cs) named has =
      (ap (λ o. option_map_or (λ name. not (list_any is_identifier (components_of name sets))) o false) named ∙ ap not has, set_lacks_none e cs named has)

  records_lack_none : (es : Named) → AllByRecursion IsWritableSet es → AllByRecursion (λ e. components_of e.0 sets ≡ e.1.components) es → AllByRecursion (λ fields. lacks_identifier v.Second sets fields ≡ false) (flat_map (set_records ls) es)
  records_lack_none [] all own = tt
  records_lack_none (e ∷ es) all own =
      all_joined (λ fields. lacks_identifier v.Second sets fields ≡ false) (set_records ls e) (flat_map (set_records ls) es)
      (set_lacks_none e e.1.components all.0.named (ap (list_any is_identifier) own.0 ∙ all.0.identified)) (records_lack_none es all.1 own.1)

own_components : (xs : Named) → all_apart same_name (keys_of xs) ≡ true → AllByRecursion (λ e. components_of e.0 xs ≡ e.1.components) xs
own_components [] apart = tt
own_components (x ∷ xs) apart =
    let parts = and_parts (not (has_name x.0 xs)) (all_apart same_name (keys_of xs)) apart in
    (ap (λ b. option_map_or (λ (s : Structure). s.components) (cond b (Some x.1) (lookup (same_name x.0) xs)) []) (same_itself x.0), past xs (not-true (has_name x.0 xs) parts.0) (own_components xs parts.1))
  where
    past : (ys : Named) → has_name x.0 ys ≡ false → AllByRecursion (λ e. components_of e.0 xs ≡ e.1.components) ys → AllByRecursion (λ e. components_of e.0 (x ∷ xs) ≡ e.1.components) ys
    past [] new all = tt
    past (y ∷ ys) new all =
        let parts = or_parts (same_name x.0 y.0) (has_name x.0 ys) new in
        (ap (λ b. option_map_or (λ (s : Structure). s.components) (cond b (Some x.1) (lookup (same_name y.0) xs)) []) (nat_list_eq_equiv.symm y.0 x.0 ∙ parts.0) ∙ all.0, past ys parts.1 all.1)

-- ---- the first records
rounding_again : (m : Rounding) → rounding_in (rounding_word m) ≡ Some m
rounding_again round.HalfUp = refl
rounding_again round.HalfEven = refl
rounding_again round.Down = refl

digit_again : (s : ℕ) → s ≤ 9 → scale_in ((48 + s) ∷ []) ≡ Some s
digit_again s few =
    let low : nat_le 48 (48 + s) ≡ true = grind (arith, nat_tests) in
    let high : nat_le (48 + s) 57 ≡ true = grind (arith, nat_tests) in
    let back : (48 + s) - 48 ≡ s = omega arith in
    ap (λ b. cond (b && nat_le (48 + s) 57) (Some ((48 + s) - 48)) None) low ∙ ap (λ b. cond b (Some ((48 + s) - 48)) None) high ∙ ap (λ n. Some n) back

module _ (d : Declared) (p : Settings) (w : IsWritable d) (few : p.scale ≤ 9) where
  abbrev opening : Opening
  opening = record { version = v.Second; profile = Some p }

  abbrev rows : List Record
  rows = records_written d p

  abbrev whole : Whole
  whole = record { structures = d; profile = Some p }

  profile_again : profile_in (profile_record p) ≡ Some p
  profile_again =
      ap (λ (o : Option ℕ). option_and_then (λ s. option_map (with_rounding s) (rounding_in (rounding_word p.rounding))) o) (digit_again p.scale few)
      ∙ ap (λ (o : Option Rounding). option_map (with_rounding p.scale) o) (rounding_again p.rounding)
    where
      with_rounding : ℕ → Rounding → Settings
      with_rounding s m = record { scale = s; rounding = m }

  opens : opening_of rows ≡ Ok opening
  opens = ap (λ (o : Option Settings). option_map_or (λ q. second_of q (heading_record ∷ declaring_records d)) o (Err (1, 1))) profile_again

  state_is : state d.not_null d.sets ≡ d
  state_is = ap (λ (l : NotNull). made l) (sym w.lists)
    where
      made : NotNull → Declared
      made l = record { sets = d.sets; not_null = l }

  behind : lines_behind opening rows ≡ Ok d
  behind = all_sets d.not_null [] d.sets w.structures.distinct w.sets w.structures.declarable 3 ∙ ap (λ (x : Declared). Ok x) state_is

  nothing_lacks : missing_in opening d.sets rows ≡ None
  nothing_lacks = none_lacks d.not_null d.sets 3 (declaring_records d) (records_lack_none d.not_null d.sets d.sets w.sets (own_components d.sets w.structures.distinct))

  pub written_again : structures_of_file (second_text d p) ≡ Ok whole
  written_again =
      ap (λ (rs : List Record). lines_in rs >>= with_identifiers rs) (second_again d p)
      ∙ ap (λ (q : Result Opening Fault). (q >>= λ o. lines_behind o rows >>= λ x. Ok (o, x)) >>= with_identifiers rows) opens
      ∙ ap (λ (q : Result Declared Fault). (q >>= λ x. Ok (opening, x)) >>= with_identifiers rows) behind
      ∙ ap (λ (o : Option ℕ). option_map_or {U = Result Whole Fault} (λ line. Err (line, 10)) o (Ok whole)) nothing_lacks
