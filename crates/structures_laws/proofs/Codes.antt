-- The fields of a component are read again.
use Rattle.std.proofs.Common.{◌≡◌, Bool, true, false, cond, not, ◌&&◌, ◌||◌, ◌==◌, List, [], ◌∷◌, ◌++◌, length, map, flat_map, Option, Some, None, refl, sym, ap, ◌∙◌, append-nil, true≢false}
use Rattle.std.specs.List.{AllByRecursion, list_all, list_any}
use Rattle.std.specs.Option.{option_and_then}
use Rattle.std.specs.Prelude.{chars, codes, encode_utf8_all, option_map}
use Rattle.std.specs.Str.{is_utf8}
use Rattle.std.proofs.lemmas.Bool.{and_parts, or_parts}
use Rattle.std.proofs.lemmas.Str.{chars-nil}
use Rattle.vtl_lists.specs.Aliases.{Field, Name, Text}
use Rattle.vtl_lists.specs.Apart.{all_apart}
use Rattle.vtl_lists.specs.Each.{cons_if, each_some}
use Rattle.vtl_cell.specs.declared.kind.Kind.{Kind}
use Rattle.vtl_cell.specs.declared.kind.Kind.TheVariants as k
use Rattle.vtl_tree.specs.declared.structure.Component.{Component}
use Rattle.vtl_tree.specs.declared.structure.Role.{Role}
use Rattle.vtl_tree.specs.declared.structure.Role.TheVariants as r
use Rattle.vtl_tree.specs.Names.{is_among}
use Rattle.vtl_tree.specs.Structure.{same_name}
use Rattle.vtl_tree.specs.Structures.{are_codes, codes_fit, is_filled, is_null_kind, is_string_identifier}
use Rattle.vtl_csv.specs.Declarations.{code_in, codes_in, codes_of, distinct, is_bar, kind_in, listed_by, onto_first, parts, role_in, says_not_null, says_null}
use Rattle.vtl_csv.specs.StructuresFile.{is_identifier}
use Rattle.vtl_csv.specs.StructuresText.{barred, codes_field, kind_word, nullable_word, role_word}
use Rattle.structures_laws.specs.Writable.{AreCodes, IsCode, is_listed}

-- ---- words
pub role_again : (role : Role) → role_in (role_word role) ≡ Some role
role_again r.Identifier = refl
role_again r.Measure = refl
role_again r.Attribute = refl

pub kind_again : (kind : Kind) → is_null_kind kind ≡ false → kind_in (kind_word kind) ≡ Some kind
kind_again k.Null e = cc
kind_again k.Bool e = refl
kind_again k.Int e = refl
kind_again k.Num e = refl
kind_again k.Text e = refl
kind_again k.Day e = refl
kind_again k.Period e = refl

pub listed_again : (list : List Name) (x : Component) → listed_by x.role (Some (nullable_word list x)) ≡ Some (is_listed list x)
listed_again list x = go (is_identifier x) (is_among x.name list)
  where
    word : Bool → Bool → Field
    word i a = cond (i || a) (codes "false") (codes "true")

    go : (i a : Bool) → cond (says_not_null (word i a)) (Some (not i)) (cond (says_null (word i a) && not i) (Some false) None) ≡ Some (a && not i)
    go true true = refl
    go true false = refl
    go false true = refl
    go false false = refl

-- ---- codes
parts_end : (f : Field) → list_any is_bar f ≡ false → parts f ≡ f ∷ []
parts_end [] h = refl
parts_end (b ∷ bs) h =
    let p = or_parts (is_bar b) (list_any is_bar bs) h in
    ap (λ t. cond t ([] ∷ parts bs) (onto_first b (parts bs))) p.0 ∙ ap (onto_first b) (parts_end bs p.1)

parts_bar : (f rest : Field) → list_any is_bar f ≡ false → parts (f ++ 124 ∷ rest) ≡ f ∷ parts rest
parts_bar [] rest h = refl
parts_bar (b ∷ bs) rest h =
    let p = or_parts (is_bar b) (list_any is_bar bs) h in
    ap (λ t. cond t ([] ∷ parts (bs ++ 124 ∷ rest)) (onto_first b (parts (bs ++ 124 ∷ rest)))) p.0 ∙ ap (onto_first b) (parts_bar bs rest p.1)

parts_again : (c : Text) (cs : List Text) → IsCode c → AllByRecursion IsCode cs → parts (encode_utf8_all c ++ flat_map barred cs) ≡ encode_utf8_all c ∷ map encode_utf8_all cs
parts_again c [] h all = ap parts (append-nil (encode_utf8_all c)) ∙ parts_end (encode_utf8_all c) h.barless
parts_again c (d ∷ ds) h all = parts_bar (encode_utf8_all c) (encode_utf8_all d ++ flat_map barred ds) h.barless ∙ ap (λ (l : List Field). encode_utf8_all c ∷ l) (parts_again d ds all.0 all.1)

each_again : (cs : List Text) → AllByRecursion IsCode cs → each_some code_in (map encode_utf8_all cs) ≡ Some cs
each_again [] all = refl
each_again (c ∷ cs) all = ap (λ o. cons_if o (each_some code_in (map encode_utf8_all cs))) all.0.read ∙ ap (cons_if (Some c)) (each_again cs all.1)

-- nothing is no code
no_code : code_in [] ≡ None
no_code = go (is_utf8 [])
  where
    go : (b : Bool) → option_and_then (λ t. cond (is_filled t) (Some t) None) (cond b (Some (chars [])) None) ≡ None
    go true = ap (λ (t : Text). cond (is_filled t) (Some t) None) chars-nil
    go false = refl

list_of : (role : Role) (kind : Kind) (f rest : Field) (c : Text) (texts : List Text) → code_in f ≡ Some c → is_string_identifier role kind ≡ true → codes_in (f ++ rest) ≡ Some texts → codes_of role kind (f ++ rest) ≡ Some (Some texts)
list_of role kind [] rest c texts code fits is = let q : None ≡ Some c = sym no_code ∙ code in cc
list_of role kind (b ∷ bs) rest c texts code fits is = ap (λ t. cond t (option_map Some (codes_in (b ∷ bs ++ rest))) None) fits ∙ ap (option_map Some) is

pub codes_again : (x : Component) → codes_fit x ≡ true → AreCodes x.codes → codes_of x.role x.kind (codes_field x.codes) ≡ Some x.codes
codes_again x fit all = go x.codes refl all
  where
    go : (o : Option (List Text)) → x.codes ≡ o → AreCodes o → codes_of x.role x.kind (codes_field o) ≡ Some o
    go None e h = refl
    go (Some []) e h =
        let f : (is_string_identifier x.role x.kind && are_codes []) ≡ true = cc in
        absurd (true≢false (sym (and_parts (is_string_identifier x.role x.kind) (are_codes []) f).1))
    go (Some (c ∷ cs)) e h =
        let f : (is_string_identifier x.role x.kind && are_codes (c ∷ cs)) ≡ true = cc in
        let fits = and_parts (is_string_identifier x.role x.kind) (are_codes (c ∷ cs)) f in
        let apart = (and_parts (not (length (c ∷ cs) == 0) && list_all is_filled (c ∷ cs)) (all_apart same_name (c ∷ cs)) fits.1).1 in
        list_of x.role x.kind (encode_utf8_all c) (flat_map barred cs) c (c ∷ cs) h.0.read fits.0
        (ap (λ ps. option_and_then distinct (each_some code_in ps)) (parts_again c cs h.0 h.1) ∙ ap (option_and_then distinct) (each_again (c ∷ cs) h) ∙ ap (λ b. cond b (Some (c ∷ cs)) None) apart)
