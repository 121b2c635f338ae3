-- The law in the words of its readers: inputs that are the same where they are restricted to what is known.
use Rattle.lineage_laws.proofs.Rows.{agree_append, agree_map_all, same_key as same_keys, same_named, known_parts}
use Rattle.lineage_laws.proofs.Scripts.{EnvironmentsAgree, outputs_agree}
use Rattle.lineage_laws.proofs.Togethers.{same_map, together_left}
use Rattle.lineage_laws.specs.Agree.{Agree, Agreeing, IsKnown, Known, OutputsAgree, Together, and, none}
use Rattle.lineage_laws.specs.Inputs.{Occurs, SameInputs, SameOutputs, is_kept, restricted, view}
use Rattle.std.proofs.Common.{◌≡◌, inl, inr, ℕ, ◌≤◌, Bool, true, false, cond, ◌&&◌, ◌||◌, List, [], ◌∷◌, ◌++◌, length, map, take, Some, Result, Ok, Err, refl, sym, ap, ◌∙◌, subst, arith, true≢false}
use Rattle.std.proofs.lemmas.Bool.{and_parts}
use Rattle.std.proofs.lemmas.List.{append-nil, map-append, take_all}
use Rattle.std.specs.List.{AllByRecursion, filter, list_all, list_any}
use Rattle.std.specs.Map.{lookup}
use Rattle.std.specs.Option.{option_map_or}
use Rattle.vtl_cell.proofs.Rows.{same_row-sym}
use Rattle.vtl_cell.specs.Row.{Row, same_key}
use Rattle.vtl_decimal.specs.Settings.{Settings}
use Rattle.vtl_decimal.specs.declared.number.Fault.{Fault}
use Rattle.vtl_lists.proofs.Aparts.{all_apart-Perm}
use Rattle.vtl_lists.proofs.Perms.{AllByRecursion-Perm, Perm-map, Perm-refl, Perm-same, Perm-sym}
use Rattle.vtl_lists.specs.Perm.{Perm, chain, cross, empty, keep}
use Rattle.vtl_lists.proofs.Alls.{all_back, all_from_filtered, all_front, all_with}
use Rattle.vtl_meaning.proofs.LookUps.{named_cells}
use Rattle.vtl_meaning.proofs.OwnColumns.{columns_apart}
use Rattle.vtl_meaning.proofs.Places.{IsIdentifier, are_identifiers, columns_split, first_cells, point_length, same_name-sym}
use Rattle.vtl_meaning.specs.LookUps.{value_named, values_named}
use Rattle.vtl_meaning.specs.Orders.{SameData}
use Rattle.vtl_meaning.specs.Points.{with_points}
use Rattle.vtl_rows.specs.Tables.{cells_at}
use Rattle.vtl_scripts.proofs.ScriptsOrders.{meaning_respects}
use Rattle.vtl_scripts.specs.Made.{AreMadeStatements}
use Rattle.vtl_scripts.specs.Meaning.{AreDataSets, Outputs, Statement, meaning}
use Rattle.vtl_scripts.specs.Orders.{SameMeaning}
use Rattle.vtl_tree.specs.Columns.{identifiers_of, others_of, places_in}
use Rattle.vtl_tree.specs.DataSet.{IsDataSet, is_point}
use Rattle.vtl_tree.specs.Environment.{Environment, data_of, known_in, points_named}
use Rattle.vtl_tree.specs.Structure.{IsStructure, columns_of, key_width, same_name, same_role}
use Rattle.vtl_tree.specs.declared.structure.Component.{Component}
use Rattle.vtl_tree.specs.declared.structure.Role.TheVariants as role
use Rattle.vtl_tree.specs.declared.structure.Structure.{Structure}
use Rattle.vtl_sources.specs.Links.{input_sources, inputs_lineage}
use Rattle.vtl_sources.specs.Sources.{sources}
use Rattle.lineage_laws.specs.Over.{Found, Operand, columns_from, no_pairs, outputs_lineage, source_named}

-- ---- a list in the order of another one with the same values
lifted : {X Y : Type 0} (f : X → Y) {us vs : List Y} → Perm us vs → (ys : List X) → vs ≡ map f ys → (zs : List X) × Perm ys zs × (us ≡ map f zs)
lifted f empty [] e = ([], empty, refl)
lifted f empty (y ∷ ys) e = cc
lifted f (keep x p) [] e = cc
lifted f (keep x {ys = ws} p) (y ∷ ys) e =
    let here : x ≡ f y = cc in
    let there : ws ≡ map f ys = cc in
    let more = lifted f p ys there in
    (y ∷ more.0, keep y more.1, λ i. here i ∷ more.2 i)
lifted f (cross x y xs) [] e = cc
lifted f (cross x y xs) (a ∷ []) e = cc
lifted f (cross x y xs) (a ∷ b ∷ ys) e =
    let one : y ≡ f a = cc in
    let two : x ≡ f b = cc in
    let rest : xs ≡ map f ys = cc in
    (b ∷ a ∷ ys, cross a b ys, λ i. two i ∷ one i ∷ rest i)
lifted f (chain p q) ys e =
    let second = lifted f q ys e in
    let first = lifted f p second.0 second.2 in
    (first.0, chain second.1 first.1, first.2)

together_maps : {X Y : Type 0} (f : X → Y) (xs ys : List X) → map f xs ≡ map f ys → Together (λ x y. f x ≡ f y) xs ys
together_maps f [] [] e = none
together_maps f [] (y ∷ ys) e = cc
together_maps f (x ∷ xs) [] e = cc
together_maps f (x ∷ xs) (y ∷ ys) e = and (let here : f x ≡ f y = cc in here) (together_maps f xs ys (let there : map f xs ≡ map f ys = cc in there))

-- ---- one input
all_values : (xs ys : List Component) (r q : Row) → values_named xs ys r ≡ values_named xs ys q → AllByRecursion (λ y. value_named xs r y.name ≡ value_named xs q y.name) ys
all_values xs [] r q e = tt
all_values xs (y ∷ ys) r q e = ((let here : value_named xs r y.name ≡ value_named xs q y.name = cc in here), all_values xs ys r q (let there : values_named xs ys r ≡ values_named xs ys q = cc in there))

-- a point is its values
whole_row : (s : Structure) (r : Row) → IsStructure s → is_point (columns_of s) r ≡ true → values_named (columns_of s) (identifiers_of s) r ++ values_named (columns_of s) (others_of s) r ≡ r
whole_row s r w h =
    let xs = columns_of s in
    let len = point_length xs r h in
    let few : length xs ≤ length r = omega (arith, len) in
    let enough : length r ≤ length xs = omega (arith, len) in
    sym (map-append (λ y. value_named xs r y.name) (identifiers_of s) (others_of s))
    ∙ ap (λ ys. values_named xs ys r) (sym (columns_split s))
    ∙ sym (named_cells xs xs r)
    ∙ ap (λ l. cells_at (places_in l xs) r) (sym (append-nil xs))
    ∙ first_cells xs [] r (columns_apart s w) few
    ∙ take_all (length xs) r enough

-- points that are the same where they are restricted agree
row_agrees : (known : Known) (name : List ℕ) (s : Structure) (r q : Row) → IsStructure s → is_point (columns_of s) r ≡ true → is_point (columns_of s) q ≡ true
    → values_named (columns_of s) (filter (is_kept known name) (columns_of s)) r ≡ values_named (columns_of s) (filter (is_kept known name) (columns_of s)) q → Agree known (columns_from s (input_sources name s)) r q
row_agrees known name s r q w h k e =
    let xs = columns_of s in
    let ids = identifiers_of s in
    let zs = others_of s in
    let P : Component → Type 0 = λ y. value_named xs r y.name ≡ value_named xs q y.name in
    let all : AllByRecursion (λ y. is_kept known name y ≡ true → P y) (ids ++ zs) = subst (λ l. AllByRecursion (λ y. is_kept known name y ≡ true → P y) l) (columns_split s) (all_from_filtered P (is_kept known name) xs (all_values xs (filter (is_kept known name) xs) r q e)) in
    let first = all_with (λ y. is_kept known name y ≡ true → P y) IsIdentifier ids (all_front (λ y. is_kept known name y ≡ true → P y) ids zs all) (are_identifiers s) in
    let second = all_back (λ y. is_kept known name y ≡ true → P y) ids zs all in
    subst (λ z. Agree known (columns_from s (input_sources name s)) z q) (whole_row s r w h) (subst (λ z. Agree known (columns_from s (input_sources name s)) (values_named xs ids r ++ values_named xs zs r) z) (whole_row s q w k)
    (agree_append known (map (λ x. no_pairs) ids) (values_named xs ids r) (values_named xs ids q) (input_sources name s).others (values_named xs zs r) (values_named xs zs q)
    (agree_map_all known (λ y. (is_kept known name y ≡ true → P y) × IsIdentifier y) (λ y. no_pairs) (λ y. value_named xs r y.name) (λ y. value_named xs q y.name) ids (λ y g l. g.0 (ap (λ b. b || known (name, y.name)) g.1)) first)
    (agree_map_all known (λ y. is_kept known name y ≡ true → P y) (λ y. (name, y.name) ∷ []) (λ y. value_named xs r y.name) (λ y. value_named xs q y.name) zs (λ y g l. g (or_right (same_role y.role role.Identifier) (known (name, y.name)) (own l))) second)))
  where
    own : {b : Bool} → (b && true) ≡ true → b ≡ true
    own {b = true} e = refl
    own {b = false} e = e

    or_right : (b l : Bool) → l ≡ true → (b || l) ≡ true
    or_right true l e = refl
    or_right false l e = e

-- what the points of an input depend on is known: it occurs
occurs : (known : Known) (name : List ℕ) (s : Structure) → IsKnown known (input_sources name s).points → Occurs known name s
occurs known name s h = go (identifiers_of s) refl h
  where
    front : (xs ys : List Component) → list_any (λ x. known (name, x.name)) xs ≡ true → list_any (λ x. known (name, x.name)) (xs ++ ys) ≡ true
    front [] ys e = cc
    front (x ∷ xs) ys e = step (known (name, x.name)) e (front xs ys)
      where
        step : (b : Bool) → (b || list_any (λ z. known (name, z.name)) xs) ≡ true → (list_any (λ z. known (name, z.name)) xs ≡ true → list_any (λ z. known (name, z.name)) (xs ++ ys) ≡ true) → (b || list_any (λ z. known (name, z.name)) (xs ++ ys)) ≡ true
        step true e ih = refl
        step false e ih = ih e

    go : (ids : List Component) → identifiers_of s ≡ ids → list_all known (map (λ x. (name, x.name)) ids) ≡ true → Occurs known name s
    go [] e k = inr e
    go (x ∷ ids) e k =
        let first : known (name, x.name) ≡ true = (and_parts (known (name, x.name)) (list_all known (map (λ z. (name, z.name)) ids)) k).0 in
        let any : list_any (λ z. known (name, z.name)) (x ∷ ids) ≡ true = ap (λ b. b || list_any (λ z. known (name, z.name)) ids) first in
        inl (ap (list_any (λ z. known (name, z.name))) (columns_split s) ∙ front (identifiers_of s) (others_of s) (subst (λ l. list_any (λ z. known (name, z.name)) l ≡ true) (sym e) any))

set_reordered : (s : Structure) (d e : List Row) → Perm d e → IsDataSet s d → IsDataSet s e
set_reordered s d e h i = record {
  well_formed = i.well_formed;
  typed = AllByRecursion-Perm (λ r. is_point (columns_of s) r ≡ true) h i.typed;
  distinct = all_apart-Perm (same_key (key_width s)) (λ r q. same_row-sym (take (key_width s) r) (take (key_width s) q)) (Perm-sym h) ∙ i.distinct;
}

-- the points of the second run in the order of the first
record Aligned (known : Known) (name : List ℕ) (s : Structure) (d e : List Row) : Type 0 where
  points : List Row
  order : Perm e points
  agree : IsKnown known (input_sources name s).points → Agreeing known (columns_from s (input_sources name s)) d points

aligned : (known : Known) (name : List ℕ) (s : Structure) (d e : List Row) → IsDataSet s d → IsDataSet s e → (Occurs known name s → Perm (restricted known name s d) (restricted known name s e)) → Aligned known name s d e
aligned known name s d e hd ht same = go (list_all known (map (λ x. (name, x.name)) (identifiers_of s))) refl
  where
    go : (b : Bool) → list_all known (map (λ x. (name, x.name)) (identifiers_of s)) ≡ b → Aligned known name s d e
    go false k = record { points = e; order = Perm-refl e; agree = λ h. absurd (true≢false (sym h ∙ k)) }
    go true k =
        let f : Row → Row = values_named (columns_of s) (filter (is_kept known name) (columns_of s)) in
        let R : Row → Type 0 = λ r. is_point (columns_of s) r ≡ true in
        let l = lifted f (same (occurs known name s k)) e refl in
        let own = set_reordered s e l.0 l.1 ht in
        record { points = l.0; order = l.1; agree = λ h. together_left (λ r q. f r ≡ f q) R R (Agree known (columns_from s (input_sources name s))) (λ r q g x y. row_agrees known name s r q hd.well_formed x y g) d l.0 (together_maps f d l.0 l.2) hd.typed own.typed }

-- ---- all inputs
abbrev EachAgrees : Known → Environment → Environment → Type 0
EachAgrees known [] [] = Unit {0}
EachAgrees known (d ∷ ds) (e ∷ es) = (IsKnown known (input_sources d.0 d.1.structure).points → Agreeing known (columns_from d.1.structure (input_sources d.0 d.1.structure)) d.1.points e.1.points) × (d.0 ≡ e.0) × EachAgrees known ds es
EachAgrees known ds es = ⊥

record Reordered (known : Known) (env other : Environment) : Type 0 where
  third : Environment
  same : SameData other third
  sets : AreDataSets third
  alike : known_in third ≡ known_in env
  agree : EachAgrees known env third

reordered : (known : Known) (env other : Environment) → SameInputs known env other → AreDataSets env → AreDataSets other → Reordered known env other
reordered known [] [] h he ho = record { third = []; same = tt; sets = tt; alike = refl; agree = tt }
reordered known [] (e ∷ es) h he ho = absurd h
reordered known (d ∷ ds) [] h he ho = absurd h
reordered known (d ∷ ds) (e ∷ es) h he ho =
    let s = d.1.structure in
    let two : IsDataSet s e.1.points = subst (λ z. IsDataSet z e.1.points) (sym h.1) ho.0 in
    let a = aligned known d.0 s d.1.points e.1.points he.0 two h.2 in
    let more = reordered known ds es h.3 he.1 ho.1 in
    record {
      third = (d.0, with_points s a.points) ∷ more.third;
      same = (sym h.0, sym h.1, a.order, more.same);
      sets = (set_reordered s e.1.points a.points a.order two, more.sets);
      alike = ap (λ k. (d.0, s) ∷ k) more.alike;
      agree = (a.agree, refl, more.agree);
    }

environments_agree : (known : Known) (env other : Environment) → EachAgrees known env other → EnvironmentsAgree known (inputs_lineage (known_in env)) env other
environments_agree known [] [] h name s e k = cc
environments_agree known [] (t ∷ ts) h name s e k = absurd h
environments_agree known (d ∷ ds) [] h name s e k = absurd h
environments_agree known (d ∷ ds) (t ∷ ts) h name s e k = go (same_name name d.0) (same_name d.0 name) (same_name-sym name d.0) (same_name t.0 name) (ap (λ n. same_name n name) h.1) e (environments_agree known ds ts h.2 name s) k
  where
    own : Found
    own = input_sources d.0 d.1.structure

    found : Bool → Found
    found b = option_map_or (λ f. f) (cond b (Some own) (lookup (same_name name) (inputs_lineage (known_in ds)))) (sources no_pairs [])

    go : (b l : Bool) → b ≡ l → (m : Bool) → l ≡ m → cond b (Some d.1.structure) (lookup (same_name name) (known_in ds)) ≡ Some s
        → (lookup (same_name name) (known_in ds) ≡ Some s → IsKnown known (found false).points → Agreeing known (columns_from s (found false)) (points_named name ds) (points_named name ts))
        → IsKnown known (found b).points
        → Agreeing known (columns_from s (found b)) (option_map_or (λ z. z.points) (cond l (Some d.1) (data_of name ds)) []) (option_map_or (λ z. z.points) (cond m (Some t.1) (data_of name ts)) [])
    go true true p true q i ih k =
        let same : d.1.structure ≡ s = cc in
        subst (λ z. Agreeing known (columns_from z own) d.1.points t.1.points) same (h.0 k)
    go false false p false q i ih k = ih i k
    go true false p m q i ih k = cc
    go false true p m q i ih k = cc
    go true true p false q i ih k = cc
    go false false p true q i ih k = cc

-- ---- outputs
shown : (known : Known) (ls : List (List ℕ × Operand)) (out outs third : Outputs) → OutputsAgree known ls out third → SameData outs third → SameOutputs known ls out outs
shown known [] [] [] [] a b = tt
shown known (l ∷ ls) (d ∷ ds) (e ∷ es) (t ∷ ts) a b = (
  a.0,
  b.0 ∙ a.1,
  a.2,
  b.1 ∙ a.3,
  (λ x all. let parts = known_parts known l.1.sources.points (source_named l.1 x) all in chain (Perm-same (map (view l.1.structure x) d.1.points) (map (view l.1.structure x) t.1.points) (same_map (Agree known (columns_from l.1.structure l.1.sources)) (view l.1.structure x) (view l.1.structure x)
      (λ r q g i. same_keys known l.1 r q g i ++ same_named known l.1 r q g x parts.1 i ∷ []) d.1.points t.1.points (a.4 parts.0))) (Perm-map (view l.1.structure x) (Perm-sym b.2))),
  shown known ls ds es ts a.5 b.3,
)
shown known [] [] [] (t ∷ ts) a b = absurd a
shown known [] [] (e ∷ es) [] a b = absurd b
shown known [] [] (e ∷ es) (t ∷ ts) a b = absurd a
shown known [] (d ∷ ds) outs third a b = absurd a
shown known (l ∷ ls) [] outs third a b = absurd a
shown known (l ∷ ls) (d ∷ ds) [] [] a b = absurd a
shown known (l ∷ ls) (d ∷ ds) [] (t ∷ ts) a b = absurd b
shown known (l ∷ ls) (d ∷ ds) (e ∷ es) [] a b = absurd a

-- ---- the law
pub sources_suffice : (p : Settings) (ss : List Statement) (env other : Environment) (known : Known) → AreMadeStatements p (known_in env) ss → AreDataSets env → AreDataSets other → SameInputs known env other
    → (out outs : Outputs) → meaning p ss env ≡ Ok out → meaning p ss other ≡ Ok outs → SameOutputs known (outputs_lineage (inputs_lineage (known_in env)) ss) out outs
sources_suffice p ss env other known i he ho h out outs e f =
    let r = reordered known env other h he ho in
    let alike : known_in other ≡ known_in env = same_known other r.third r.same ∙ r.alike in
    let same = meaning_respects p ss other r.third (subst (λ k. AreMadeStatements p k ss) (sym alike) i) ho r.same in
    go r (meaning p ss other) (meaning p ss r.third) f refl same
  where
    same_known : (ds es : Environment) → SameData ds es → known_in ds ≡ known_in es
    same_known [] [] s = refl
    same_known [] (e ∷ es) s = absurd s
    same_known (d ∷ ds) [] s = absurd s
    same_known (d ∷ ds) (e ∷ es) s = λ j. (s.0 j, s.1 j) ∷ same_known ds es s.3 j

    go : (r : Reordered known env other) (m n : Result Outputs (Fault × List ℕ)) → m ≡ Ok outs → meaning p ss r.third ≡ n → SameMeaning m n → SameOutputs known (outputs_lineage (inputs_lineage (known_in env)) ss) out outs
    go r (Ok us) (Ok vs) k l s =
        let is : us ≡ outs = cc in
        shown known (outputs_lineage (inputs_lineage (known_in env)) ss) out outs vs (outputs_agree p known ss (inputs_lineage (known_in env)) env r.third i he r.sets r.alike (environments_agree known env r.third r.agree) out vs e l) (subst (λ z. SameData z vs) is s)
    go r (Ok us) (Err y) k l s = absurd s
    go r (Err x) n k l s = cc
