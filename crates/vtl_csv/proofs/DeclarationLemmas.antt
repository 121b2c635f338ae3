-- Records of five fields, and the parts of a list.
use Rattle.std.proofs.Common.{◌≡◌, ℕ, zero, suc, ◌+◌, ◌-◌, ◌<◌, ◌≤◌, Bool, true, false, cond, not, ◌&&◌, ◌==◌, nat_le, List, [], ◌∷◌, ◌++◌, take, drop, get_or, length, Option, Some, None, Result, Ok, Err, chars, codes, option_map, arith, refl, sym, ap, subst, ◌∙◌, if◌then◌else◌}
use Rattle.std.proofs.lemmas.List.{take_all}
use Rattle.std.specs.List.{list_all, position_or_len}
use Rattle.std.specs.Option.{option_and_then, option_map_or}
use Rattle.std.specs.Str.{IsUtf8, is_utf8}
use Rattle.std.proofs.lemmas.Bool.{and_from, not_from_false}
use Rattle.std.proofs.lemmas.Bool.Decides.{nat_tests}
use Rattle.std.proofs.lemmas.Str.{IsUtf8-from_is_utf8, is_utf8-from_IsUtf8}
use Rattle.std.specs.Bool.{OnTrue}
use Rattle.std.specs.Prelude.{IfOk, ok_or}
use Rattle.csv.specs.Machine.{Read, next_record}
use Rattle.csv.specs.Reading.{default_config, is_bom, records, records_from, records_next, strip_bom}
use Rattle.csv.specs.declared.parser.Config.{Config}
use Rattle.csv.specs.declared.parser.State.{State}
use Rattle.csv.specs.declared.parser.State.TheVariants as st
use Rattle.vtl_lists.specs.Results.{◌>>=◌}
use Rattle.vtl_lists.specs.Apart.{all_apart}
use Rattle.vtl_lists.specs.Each.{cons_if, each_some, onto}
use Rattle.vtl_lists.proofs.Eaches.{each_stops, each_takes}
use Rattle.vtl_text.specs.Words.{is_component_name}
use Rattle.vtl_cell.specs.declared.kind.Kind.{Kind}
use Rattle.vtl_cell.specs.declared.kind.Kind.TheVariants as k
use Rattle.vtl_tree.specs.declared.structure.Role.{Role}
use Rattle.vtl_tree.specs.declared.structure.Component.{Component}
use Rattle.vtl_tree.specs.Structure.{most_components, same_name}
use Rattle.vtl_tree.specs.Structures.{Fits, Named, are_codes, codes_fit, components_of, is_declarable_component, is_filled, is_null_kind, is_string_identifier}
use Rattle.vtl_csv.specs.declared.declarations.NewComponent.{NewComponent}
use Rattle.vtl_csv.specs.declared.version.Version.{Version}
use Rattle.vtl_csv.specs.declared.version.Version.TheVariants as ve
use Rattle.vtl_csv.specs.Declarations.{Declaration, code_in, codes_in, codes_of, component_in, dataset_in, declaration_of, declared_by, distinct, has_component, is_bar, is_full, is_identifier_role, kind_in, listed_by, most_in, of_five, of_six, onto_first, parts, record_of, role_in, says_not_null, says_null, text_in, text_that}
use Rattle.vtl_csv.specs.Opening.{headers_of, profile_in, settings_in}

pub five_there : (fs : List (List ℕ)) (v w x y z : List ℕ) → length fs ≡ 5
    → v ≡ get_or fs 0 v → w ≡ get_or fs 1 w → x ≡ get_or fs 2 x → y ≡ get_or fs 3 y → z ≡ get_or fs 4 z
    → Some (record { dataset = v; component = w; role = x; kind = y; code_list = z; nullable = None }) ≡ of_five fs
five_there [] v w x y z n e0 e1 e2 e3 e4 = absurd (omega (arith, n))
five_there (a ∷ []) v w x y z n e0 e1 e2 e3 e4 = absurd (omega (arith, n))
five_there (a ∷ b ∷ []) v w x y z n e0 e1 e2 e3 e4 = absurd (omega (arith, n))
five_there (a ∷ b ∷ c ∷ []) v w x y z n e0 e1 e2 e3 e4 = absurd (omega (arith, n))
five_there (a ∷ b ∷ c ∷ d ∷ []) v w x y z n e0 e1 e2 e3 e4 = absurd (omega (arith, n))
five_there (a ∷ b ∷ c ∷ d ∷ e ∷ []) v w x y z n e0 e1 e2 e3 e4 = cc
five_there (a ∷ b ∷ c ∷ d ∷ e ∷ f ∷ fs) v w x y z n e0 e1 e2 e3 e4 = absurd (omega (arith, n))

-- a list of six
six : (P : List (List ℕ) → Type 0) → ((a b c d e f : List ℕ) → P (a ∷ b ∷ c ∷ d ∷ e ∷ f ∷ [])) → (fs : List (List ℕ)) → length fs ≡ 6 → P fs
six P p [] n = absurd (omega (arith, n))
six P p (a ∷ []) n = absurd (omega (arith, n))
six P p (a ∷ b ∷ []) n = absurd (omega (arith, n))
six P p (a ∷ b ∷ c ∷ []) n = absurd (omega (arith, n))
six P p (a ∷ b ∷ c ∷ d ∷ []) n = absurd (omega (arith, n))
six P p (a ∷ b ∷ c ∷ d ∷ e ∷ []) n = absurd (omega (arith, n))
six P p (a ∷ b ∷ c ∷ d ∷ e ∷ f ∷ []) n = p a b c d e f
six P p (a ∷ b ∷ c ∷ d ∷ e ∷ f ∷ g ∷ fs) n = absurd (omega (arith, n))

pub six_there : (fs : List (List ℕ)) (u v w x y z : List ℕ) → length fs ≡ 6
    → u ≡ get_or fs 0 u → v ≡ get_or fs 1 v → w ≡ get_or fs 2 w → x ≡ get_or fs 3 x → y ≡ get_or fs 4 y → z ≡ get_or fs 5 z
    → Some (record { dataset = u; component = v; role = w; kind = x; code_list = y; nullable = Some z }) ≡ of_six fs
six_there fs u v w x y z n =
    six (λ l. u ≡ get_or l 0 u → v ≡ get_or l 1 v → w ≡ get_or l 2 w → x ≡ get_or l 3 x → y ≡ get_or l 4 y → z ≡ get_or l 5 z
    → Some (record { dataset = u; component = v; role = w; kind = x; code_list = y; nullable = Some z }) ≡ of_six l)
    (λ a b c d e f e0 e1 e2 e3 e4 e5. cc) fs n

-- the parts after the first
abbrev pub other_parts : List ℕ → List (List ℕ)
other_parts [] = []
other_parts (b ∷ bs) = parts bs

one_more : (n : ℕ) → 1 + n ≡ suc n
one_more n = omega arith

-- the first part goes to the first `|`, and the others follow it
pub first_cut : (xs : List ℕ) → parts xs ≡ take (position_or_len is_bar xs) xs ∷ other_parts (drop (position_or_len is_bar xs) xs)
first_cut [] = refl
first_cut (x ∷ xs) = go (is_bar x) refl (first_cut xs)
  where
    cut : ℕ → List (List ℕ)
    cut n = take n (x ∷ xs) ∷ other_parts (drop n (x ∷ xs))

    go : (b : Bool) → is_bar x ≡ b → parts xs ≡ take (position_or_len is_bar xs) xs ∷ other_parts (drop (position_or_len is_bar xs) xs)
        → cond b ([] ∷ parts xs) (onto_first x (parts xs)) ≡ cut (position_or_len is_bar (x ∷ xs))
    go true e ih = sym (ap (λ b. cut (cond (not b) (1 + position_or_len is_bar xs) 0)) e)
    go false e ih = ap (onto_first x) ih ∙ sym (ap (λ b. cut (cond (not b) (1 + position_or_len is_bar xs) 0)) e ∙ ap cut (one_more (position_or_len is_bar xs)))

-- a list that is cut there has one part, or others behind it
module _ (xs part rest : List ℕ) (n : ℕ) (place : n ≡ position_or_len is_bar xs) (front : part ≡ take n xs) (back : rest ≡ drop n xs) where
  cut_there : parts xs ≡ part ∷ other_parts rest
  cut_there = first_cut xs ∙ ap (λ m. take m xs ∷ other_parts (drop m xs)) (sym place) ∙ ap (λ l. l ∷ other_parts (drop n xs)) (sym front) ∙ ap (λ l. part ∷ other_parts l) (sym back)

  pub cut_ends : length rest < 1 → parts xs ≡ part ∷ []
  cut_ends h = cut_there ∙ ap (λ l. part ∷ l) (go rest h)
    where
      go : (l : List ℕ) → length l < 1 → other_parts l ≡ []
      go [] q = refl
      go (b ∷ bs) q = absurd (omega (arith, q))

  pub cut_goes : 1 ≤ length rest → parts xs ≡ part ∷ parts (take (length rest - 1) (drop 1 rest))
  cut_goes h = cut_there ∙ ap (λ l. part ∷ l) (go rest h)
    where
      go : (l : List ℕ) → 1 ≤ length l → other_parts l ≡ parts (take (length l - 1) (drop 1 l))
      go [] q = absurd (omega (arith, q))
      go (b ∷ bs) q = ap parts (sym (take_all (length (b ∷ bs) - 1) bs (omega arith)))

-- a field that is a text, and one that is none
pub text_taken : (f : List ℕ) → IsUtf8 f → text_in f ≡ Some (chars f)
text_taken f h = ap (λ b. cond b (Some (chars f)) None) (is_utf8-from_IsUtf8 f h)

pub text_refused : (f : List ℕ) → ¬ (IsUtf8 f) → None ≡ text_in f
text_refused f h = go (is_utf8 f) refl
  where
    go : (b : Bool) → is_utf8 f ≡ b → None ≡ cond b (Some (chars f)) None
    go true e = absurd (h (IsUtf8-from_is_utf8 f e))
    go false e = refl

-- a part that is a code or none
module _ (front : List (List ℕ)) (whole : Option (List (List ℕ))) (xs part : List ℕ) (others : List (List ℕ))
    (before : onto front (each_some code_in (parts xs)) ≡ whole) (first : parts xs ≡ part ∷ others) where
  pub code_stops : code_in part ≡ None → None ≡ whole
  code_stops e = sym (sym before ∙ ap (λ l. onto front (each_some code_in l)) first ∙ each_stops code_in part others front e)

  pub code_takes : (code : List ℕ) → code_in part ≡ Some code → onto (front ++ code ∷ []) (each_some code_in others) ≡ whole
  code_takes code e = sym (ap (λ l. onto front (each_some code_in l)) first ∙ each_takes code_in part others code front e) ∙ before

-- what a rule that is kept gives
pub or_rule-kept : {X Y : Type 0} (n : ℕ) (o : Option X) (f : X → Result Y ℕ) (y : Y) → (ok_or o n >>= f) ≡ Ok y → (v : X) × (o ≡ Some v) × (f v ≡ Ok y)
or_rule-kept n None f y e = cc
or_rule-kept n (Some v) f y e = (v, refl, e)

unless_rule-kept : {Y : Type 0} (n : ℕ) (b : Bool) (r : Result Y ℕ) (y : Y) → cond b (Err n) r ≡ Ok y → (b ≡ false) × (r ≡ Ok y)
unless_rule-kept n true r y e = cc
unless_rule-kept n false r y e = (refl, e)

text_passes : (test : List ℕ → Bool) (f t : List ℕ) → text_that test f ≡ Some t → test t ≡ true
text_passes test f t e = from (text_in f) e
  where
    at : (v : List ℕ) (b : Bool) → test v ≡ b → cond b (Some v) None ≡ Some t → test t ≡ true
    at v true p q = let same : v ≡ t = cc in ap test (sym same) ∙ p
    at v false p q = cc

    from : (o : Option (List ℕ)) → option_and_then (λ v. if test v then Some v else None) o ≡ Some t → test t ≡ true
    from None q = cc
    from (Some v) q = at v (test v) refl q

picked : (b : Bool) (kind v : Kind) (rest : Option Kind) → is_null_kind kind ≡ false → (rest ≡ Some v → is_null_kind v ≡ false) → cond b (Some kind) rest ≡ Some v → is_null_kind v ≡ false
picked true kind v rest n more e = let same : kind ≡ v = cc in ap is_null_kind (sym same) ∙ n
picked false kind v rest n more e = more e

kind_in-is : (f : List ℕ) (v : Kind) → kind_in f ≡ Some v → is_null_kind v ≡ false
kind_in-is f v e =
    picked (same_name f (codes "integer")) k.Int v _ refl
    (picked (same_name f (codes "number")) k.Num v _ refl
    (picked (same_name f (codes "string")) k.Text v _ refl
    (picked (same_name f (codes "boolean")) k.Bool v _ refl
    (picked (same_name f (codes "date")) k.Day v _ refl
    (picked (same_name f (codes "time_period")) k.Period v None refl (λ q. cc)))))) e

each_passes : (ps ts : List (List ℕ)) → each_some code_in ps ≡ Some ts → list_all is_filled ts ≡ true
each_passes [] ts e = let same : [] ≡ ts = cc in ap (list_all is_filled) (sym same)
each_passes (p ∷ ps) ts e = go (code_in p) refl (each_some code_in ps) refl (each_passes ps) e
  where
    go : (o : Option (List ℕ)) → code_in p ≡ o → (m : Option (List (List ℕ))) → each_some code_in ps ≡ m → ((us : List (List ℕ)) → each_some code_in ps ≡ Some us → list_all is_filled us ≡ true)
        → cons_if o m ≡ Some ts → list_all is_filled ts ≡ true
    go None q m r ih s = cc
    go (Some t) q None r ih s = cc
    go (Some t) q (Some us) r ih s = let same : (t ∷ us) ≡ ts = cc in ap (list_all is_filled) (sym same) ∙ and_from (is_filled t) (list_all is_filled us) (text_passes is_filled p t q) (ih us r)

each_some-length : (ps ts : List (List ℕ)) → each_some code_in ps ≡ Some ts → length ts ≡ length ps
each_some-length [] ts e = let same : [] ≡ ts = cc in ap length (sym same)
each_some-length (p ∷ ps) ts e = go (code_in p) (each_some code_in ps) (each_some-length ps) e
  where
    go : (o : Option (List ℕ)) (m : Option (List (List ℕ))) → ((us : List (List ℕ)) → m ≡ Some us → length us ≡ length ps) → cons_if o m ≡ Some ts → length ts ≡ suc (length ps)
    go None m ih s = cc
    go (Some t) None ih s = cc
    go (Some t) (Some us) ih s = let same : (t ∷ us) ≡ ts = cc in ap length (sym same) ∙ ap suc (ih us refl)

filled : (n : ℕ) → not (suc n == 0) ≡ true
filled n = grind (arith, nat_tests)

some_part : (xs : List ℕ) → not (length (parts xs) == 0) ≡ true
some_part xs = ap (λ l. not (length l == 0)) (first_cut xs) ∙ filled (length (other_parts (drop (position_or_len is_bar xs) xs)))

codes_in-are : (list : List ℕ) (ts : List (List ℕ)) → codes_in list ≡ Some ts → are_codes ts ≡ true
codes_in-are list ts e = from (each_some code_in (parts list)) refl e
  where
    at : (us : List (List ℕ)) (b : Bool) → each_some code_in (parts list) ≡ Some us → all_apart same_name us ≡ b → cond b (Some us) None ≡ Some ts → are_codes ts ≡ true
    at us true q a r =
        let same : us ≡ ts = cc in
        let many : not (length us == 0) ≡ true = ap (λ n. not (n == 0)) (each_some-length (parts list) us q) ∙ some_part list in
        ap are_codes (sym same) ∙ and_from (not (length us == 0) && list_all is_filled us) (all_apart same_name us) (and_from (not (length us == 0)) (list_all is_filled us) many (each_passes (parts list) us q)) a
    at us false q a r = cc

    from : (o : Option (List (List ℕ))) → each_some code_in (parts list) ≡ o → option_and_then distinct o ≡ Some ts → are_codes ts ≡ true
    from None q r = cc
    from (Some us) q r = at us (all_apart same_name us) q refl r

codes_of-fit : (role : Role) (kind : Kind) (list : List ℕ) (texts : Option (List (List ℕ))) → codes_of role kind list ≡ Some texts
    → option_map_or (λ ts. is_string_identifier role kind && are_codes ts) texts true ≡ true
codes_of-fit role kind [] texts e = let same : ◌≡◌ {A = Option (List (List ℕ))} None texts = cc in ap (λ o. option_map_or (λ ts. is_string_identifier role kind && are_codes ts) o true) (sym same)
codes_of-fit role kind (b ∷ bs) texts e = go (is_string_identifier role kind) refl e
  where
    from : (o : Option (List (List ℕ))) → codes_in (b ∷ bs) ≡ o → option_map Some o ≡ Some texts → is_string_identifier role kind ≡ true
        → option_map_or (λ ts. is_string_identifier role kind && are_codes ts) texts true ≡ true
    from None q r s = cc
    from (Some us) q r s =
        let same : ◌≡◌ {A = Option (List (List ℕ))} (Some us) texts = cc in
        ap (λ o. option_map_or (λ ts. is_string_identifier role kind && are_codes ts) o true) (sym same) ∙ and_from (is_string_identifier role kind) (are_codes us) s (codes_in-are (b ∷ bs) us q)

    go : (c : Bool) → is_string_identifier role kind ≡ c → cond c (option_map Some (codes_in (b ∷ bs))) None ≡ Some texts
        → option_map_or (λ ts. is_string_identifier role kind && are_codes ts) texts true ≡ true
    go true s q = from (codes_in (b ∷ bs)) refl q s
    go false s q = cc

ok_same : {X : Type 0} (x y : X) → ◌≡◌ {A = Result X ℕ} (Ok x) (Ok y) → x ≡ y
ok_same x y e = cc

not_full : (v : Version) (n : ℕ) → nat_le (most_in v) n ≡ false → n < most_components
not_full ve.First n e = grind (arith, nat_tests)
not_full ve.Second n e = grind (arith, nat_tests)

-- only a component that is no identifier stands on the list
listed_is : (role : Role) (nullable : Option (List ℕ)) (listed : Bool) → listed_by role nullable ≡ Some listed → OnTrue listed (is_identifier_role role ≡ false)
listed_is role None listed e = let same : false ≡ listed = cc in subst (λ b. OnTrue b (is_identifier_role role ≡ false)) same tt
listed_is role (Some f) listed e = go (says_not_null f) (says_null f && not (is_identifier_role role)) (is_identifier_role role) refl e
  where
    go : (a b i : Bool) → is_identifier_role role ≡ i → cond a (Some (not i)) (cond b (Some false) None) ≡ Some listed → OnTrue listed (is_identifier_role role ≡ false)
    go true b true p q = let same : false ≡ listed = cc in subst (λ k. OnTrue k (is_identifier_role role ≡ false)) same tt
    go true b false p q = let same : true ≡ listed = cc in subst (λ k. OnTrue k (is_identifier_role role ≡ false)) same p
    go false true i p q = let same : false ≡ listed = cc in subst (λ k. OnTrue k (is_identifier_role role ≡ false)) same tt
    go false false i p q = cc

-- what a record declares fits what the records before it declare, and is listed lawfully
pub declared_fits : (version : Version) (so_far : Named) (d : Declaration) (n : NewComponent) → declared_by version so_far d ≡ Ok n
    → Fits n.component (components_of n.dataset so_far) × OnTrue n.is_listed (is_identifier_role n.component.role ≡ false)
declared_fits version so_far d n e =
    let s3 = or_rule-kept 3 (dataset_in d.dataset) _ n e in
    let s4 = or_rule-kept 4 (component_in d.component) _ n s3.2 in
    let s5 = or_rule-kept 5 (role_in d.role) _ n s4.2 in
    let s6 = or_rule-kept 6 (kind_in d.kind) _ n s5.2 in
    let s7 = unless_rule-kept 7 (has_component so_far s3.0 s4.0) _ n s6.2 in
    let s8 = or_rule-kept 8 (codes_of s5.0 s6.0 d.code_list) _ n s7.1 in
    let s9 = unless_rule-kept 9 (is_full version so_far s3.0) _ n s8.2 in
    let s11 = or_rule-kept 11 (listed_by s5.0 d.nullable) _ n s9.1 in
    let x : Component = record { name = s4.0; role = s5.0; kind = s6.0; codes = s8.0 } in
    let m : NewComponent = record { dataset = s3.0; component = x; is_listed = s11.0 } in
    let same : m ≡ n = ok_same m n s11.2 in
    let good : is_declarable_component x ≡ true =
    and_from (is_component_name s4.0 && not (is_null_kind s6.0)) (codes_fit x)
    (and_from (is_component_name s4.0) (not (is_null_kind s6.0)) (text_passes is_component_name d.component s4.0 s4.1) (not_from_false (is_null_kind s6.0) (kind_in-is d.kind s6.0 s6.1)))
    (codes_of-fit s5.0 s6.0 d.code_list s8.0 s8.1) in
    subst (λ (k : NewComponent). Fits k.component (components_of k.dataset so_far) × OnTrue k.is_listed (is_identifier_role k.component.role ≡ false)) same
    ((good, s7.0, not_full version (length (components_of s3.0 so_far)) s9.0), listed_is s5.0 d.nullable s11.0 s11.1)

pub record_fits : (version : Version) (so_far : Named) (fields : List (List ℕ)) (n : NewComponent) → record_of version so_far fields ≡ Ok n
    → Fits n.component (components_of n.dataset so_far) × OnTrue n.is_listed (is_identifier_role n.component.role ≡ false)
record_fits version so_far fields n e =
    let s = or_rule-kept 2 (declaration_of version fields) (declared_by version so_far) n e in
    declared_fits version so_far s.0 n s.2

-- a text has no more records than bytes behind the first
records_few : (cfg : Config) (n : ℕ) (s : State) (xs : List ℕ) → length (records_from cfg n s xs) ≤ n
unfolding records_from
records_few cfg zero s xs = omega arith
records_few cfg (suc n) s xs = go (next_record cfg s [] [] xs) (records_few cfg n)
  where
    go : (o : Option Read) → ((t : State) (ys : List ℕ) → length (records_from cfg n t ys) ≤ n) → length (records_next (records_from cfg n) o) ≤ suc n
    go None ih = omega arith
    go (Some p) ih = let few = ih p.1 p.2 in omega (arith, few)

at_most_itself : (n : ℕ) → n ≤ n
at_most_itself n = omega arith

stripped : (xs : List ℕ) → length (strip_bom xs) ≤ length xs
unfolding strip_bom
stripped [] = at_most_itself 0
stripped (a ∷ []) = at_most_itself 1
stripped (a ∷ b ∷ []) = at_most_itself 2
stripped (a ∷ b ∷ c ∷ rest) = go (is_bom a b c)
  where
    go : (t : Bool) → length (cond t rest (a ∷ b ∷ c ∷ rest)) ≤ length (a ∷ b ∷ c ∷ rest)
    go true = omega arith
    go false = omega arith

-- no more records declare components than the text has bytes
pub few_declaring : (text : List ℕ) (old new : List (List (List ℕ))) (version : Version) → old ≡ records default_config (strip_bom text) → new ≡ drop (headers_of version) old → length new ≤ length text
few_declaring text old new version a e =
    let few = records_few default_config (length (strip_bom text) + 1) st.StartRecord (strip_bom text) in
    let short = stripped text in
    let size : length old ≡ length (records default_config (strip_bom text)) = ap length a in
    let left : length new ≡ length (drop (headers_of version) old) = ap length e in
    let fewer = less version old in
    omega (arith, few, short, size, left, fewer)
  where
    less : (v : Version) (rows : List (List (List ℕ))) → length (drop (headers_of v) rows) ≤ length rows - 1
    less ve.First [] = omega arith
    less ve.First (r ∷ rows) = omega arith
    less ve.Second [] = omega arith
    less ve.Second (r ∷ []) = omega arith
    less ve.Second (r ∷ q ∷ rows) = omega arith

-- what holds of a value holds of the one that is there
pub of_ok : {A E : Type 0} (P : A → Type 0) (r : Result A E) (x : A) → r ≡ Ok x → IfOk r P → P x
of_ok P (Ok y) x e p = let same : y ≡ x = cc in subst P same p
of_ok P (Err y) x e p = cc

pub profile_there : (fs : List (List ℕ)) (a b s m e f : List ℕ) → length fs ≡ 6
    → a ≡ get_or fs 0 a → b ≡ get_or fs 1 b → e ≡ get_or fs 4 e → f ≡ get_or fs 5 f → s ≡ get_or fs 2 s → m ≡ get_or fs 3 m
    → cond (same_name a (codes "structures") && same_name b (codes "2") && same_name e [] && same_name f []) (settings_in s m) None ≡ profile_in fs
profile_there fs a b s m e f n =
    six (λ l. a ≡ get_or l 0 a → b ≡ get_or l 1 b → e ≡ get_or l 4 e → f ≡ get_or l 5 f → s ≡ get_or l 2 s → m ≡ get_or l 3 m
    → cond (same_name a (codes "structures") && same_name b (codes "2") && same_name e [] && same_name f []) (settings_in s m) None ≡ profile_in l)
    (λ u v w x y z e0 e1 e2 e3 e4 e5. cc) fs n
