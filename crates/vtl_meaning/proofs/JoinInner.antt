-- The inner join from the reference is the set of all tuples of points that agree.
use Rattle.std.proofs.Common.{◌≡◌, ℕ, zero, suc, List, [], ◌∷◌, ◌++◌, Bool, true, false, ◌&&◌, cond, length, map, Option, Some, None, refl, sym, ap, ◌∙◌, subst}
use Rattle.std.specs.Prelude.{is_some, option_map, slice_get}
use Rattle.std.specs.List.{AllByRecursion, find, list_all}
use Rattle.std.specs.Option.{option_map_or, option_to_list}
use Rattle.std.proofs.lemmas.List.Folds.{flat_map-map}
use Rattle.vtl_lists.specs.Each.{cons_if, each_some}
use Rattle.vtl_lists.specs.Perm.{Perm, chain}
use Rattle.vtl_cell.specs.Row.{Row}
use Rattle.vtl_lists.proofs.Perms.{Perm-map, Perm-same}
use Rattle.vtl_lists.proofs.Sorts.{AllByRecursion-filter, AllByRecursion-map}
use Rattle.vtl_lists.proofs.Alls.{all_back, all_each, all_front, all_more}
use Rattle.vtl_syntax.specs.declared.word_groups.JoinKind.TheVariants as join
use Rattle.vtl_tree.specs.DataSet.{IsDataSet}
use Rattle.vtl_tree.specs.Environment.{DataSet}
use Rattle.vtl_tree.specs.declared.structure.Structure.{Structure}
use Rattle.vtl_tuples.specs.Leads.{Finds, FindsOnly, Leads}
use Rattle.vtl_tuples.specs.Tuples.{led}
use Rattle.vtl_tuples.proofs.Leads.{led_is}
use Rattle.vtl_tuples.proofs.Lists.{filter-map, flat_map_each, map-flat_map, map-map, map_same}
use Rattle.vtl_meaning.specs.Agreement.{OperandPoint, first_agreeing, key_of, operand_point, operand_points, points_agree}
use Rattle.vtl_tree.specs.Columns.{identifiers_of}
use Rattle.vtl_meaning.specs.JoinWords.{IsWithin, agreed_tuple}
use Rattle.vtl_meaning.specs.Joined.{Part, Tuple, agreeing, inner_tuples, is_whole, join_of, left_tuples, part_of, present, reference_place, structures_of, tuple_beside, tuple_point}
use Rattle.vtl_meaning.specs.Made.{AreAmong, IsJoined}
use Rattle.vtl_meaning.proofs.JoinAgreements.{Covers, agree-from, agree-gives, agreeing_only, agreeing_own, covers}
use Rattle.vtl_meaning.proofs.JoinKept.{join_with, made_of_passing, reference_is}
use Rattle.vtl_meaning.proofs.JoinParts.{AreSets}

-- ---- points of one type
-- the point of an operand that agrees
abbrev pub beside : OperandPoint → DataSet → Option OperandPoint
beside x d = find (points_agree x) (operand_points d)

pub find-map : {X Y : Type 0} (p : Y → Bool) (f : X → Y) (xs : List X) → find p (map f xs) ≡ option_map f (find (λ x. p (f x)) xs)
find-map p f [] = refl
find-map p f (x ∷ xs) = go (p (f x)) (find-map p f xs)
  where
    go : (b : Bool) → find p (map f xs) ≡ option_map f (find (λ z. p (f z)) xs) → cond b (Some (f x)) (find p (map f xs)) ≡ option_map f (cond b (Some x) (find (λ z. p (f z)) xs))
    go true ih = refl
    go false ih = ih

beside_is : (x : OperandPoint) (d : DataSet) → beside x d ≡ option_map (operand_point d.structure) (first_agreeing x.structure d x.point)
beside_is x d = find-map (points_agree x) (operand_point d.structure) d.points

mapped_option : {X Y : Type 0} (f : X → Y) (o : Option X) → map f (option_to_list o) ≡ option_to_list (option_map f o)
mapped_option f None = refl
mapped_option f (Some x) = refl

beside_only : (x : OperandPoint) (d : DataSet) → Covers x.structure d.structure → IsDataSet d.structure d.points → FindsOnly points_agree operand_points beside x d
beside_only x d cover h =
    filter-map (points_agree x) (operand_point d.structure) d.points ∙ ap (map (operand_point d.structure)) (agreeing_only x.structure d x.point cover h)
    ∙ mapped_option (operand_point d.structure) (first_agreeing x.structure d x.point) ∙ ap option_to_list (sym (beside_is x d))

-- ---- a point of the reference tells whether others agree
abbrev Within : Structure → OperandPoint → Type 0
Within r x = Covers r x.structure

reference_leads : (r : OperandPoint) → Leads (Within r.structure) points_agree r
reference_leads r = record {
  of = λ name h. h;
  self = agree-from r r (λ name h i. refl);
  turned = λ x c e. let f = agree-gives x r e in agree-from r x (λ name h i. sym (f name i h));
  covers = λ x y c d e g. let f = agree-gives r x e in let f' = agree-gives r y g in agree-from x y (λ name h i. sym (f name (c name h) h) ∙ f' name (d name i) i);
}

within_points : (r : Structure) (d : DataSet) → IsWithin r d → AllByRecursion (Within r) (operand_points d)
within_points r d j = AllByRecursion-map (operand_point d.structure) (Within r) d.points (all_each (λ q. Covers r d.structure) (λ q. covers r d.structure j.within) d.points)

-- ---- the parts of what a point finds
-- all parts, where none is missing
whole_parts : (g : DataSet → Option Row) (ds : List DataSet) → option_map (map present) (each_some (λ d. option_map (operand_point d.structure) (g d)) ds) ≡ cond (list_all (λ p. is_some p.point) (map (λ d. part_of d (g d)) ds)) (Some (map (λ d. part_of d (g d)) ds)) None
whole_parts g [] = refl
whole_parts g (d ∷ ds) = go (g d) (each_some (λ e. option_map (operand_point e.structure) (g e)) ds) (list_all (λ p. is_some p.point) (map (λ e. part_of e (g e)) ds)) (whole_parts g ds)
  where
    go : (o : Option Row) (m : Option (List OperandPoint)) (b : Bool) → option_map (map present) m ≡ cond b (Some (map (λ e. part_of e (g e)) ds)) None → option_map (map present) (cons_if (option_map (operand_point d.structure) o) m) ≡ cond (is_some o && b) (Some (part_of d o ∷ map (λ e. part_of e (g e)) ds)) None
    go None m b ih = refl
    go (Some q) None true ih = cc
    go (Some q) None false ih = refl
    go (Some q) (Some xs) true ih = let same : map present xs ≡ map (λ e. part_of e (g e)) ds = cc in ap (λ l. Some (part_of d (Some q) ∷ l)) same
    go (Some q) (Some xs) false ih = cc

led_parts : (r : DataSet) (ds : List DataSet) → map (map present) (led beside ds (operand_points r)) ≡ map (λ t. t.parts) (inner_tuples r ds)
led_parts r ds =
    let a = r.structure in
    let one : Row → List (List Part) = λ q. option_to_list (cond (is_whole (tuple_beside a ds q)) (Some (tuple_beside a ds q).parts) None) in
    map-flat_map (map present) (λ x. option_to_list (each_some (beside x) ds)) (operand_points r)
    ∙ flat_map-map (λ x. map (map present) (option_to_list (each_some (beside x) ds))) (operand_point a) r.points
    ∙ flat_map_each (λ q. map (map present) (option_to_list (each_some (beside (operand_point a q)) ds))) one
    (λ q. mapped_option (map present) (each_some (beside (operand_point a q)) ds)
    ∙ ap (λ (g : DataSet → Option OperandPoint). option_to_list (option_map (map present) (each_some g ds))) (λ i d. beside_is (operand_point a q) d i)
    ∙ ap option_to_list (whole_parts (λ d. first_agreeing a d q) ds)) r.points
    ∙ sym (made_of_passing is_whole (λ t. t.parts) (tuple_beside a ds) r.points)

-- ---- the reference may be any operand
pub inner_is : (pre : List DataSet) (r : DataSet) (post : List DataSet) → AllByRecursion (IsWithin r.structure) (pre ++ r ∷ post)
    → Perm (map (map present) (agreeing (pre ++ r ∷ post))) (map (λ t. t.parts) (inner_tuples r (pre ++ r ∷ post)))
inner_is pre r post all =
    chain (Perm-map (map present) (led_is (Within a) points_agree operand_points beside pre r post
    (all_more (IsWithin a) (λ d. AllByRecursion (Within a) (operand_points d)) (within_points a) pre in_pre)
    (all_more (IsWithin a) (λ d. AllByRecursion (Within a) (operand_points d)) (within_points a) post in_post.1)
    (AllByRecursion-map (operand_point a) (Finds (Within a) points_agree operand_points beside pre r post) r.points (all_more (λ q. first_agreeing a r q ≡ Some q) (λ q. Finds (Within a) points_agree operand_points beside pre r post (operand_point a q)) found r.points (agreeing_own r in_post.0.kept)))))
    (Perm-same _ _ (led_parts r (pre ++ r ∷ post)))
  where
    a : Structure
    a = r.structure

    in_pre : AllByRecursion (IsWithin r.structure) pre
    in_pre = all_front (IsWithin r.structure) pre (r ∷ post) all

    in_post : AllByRecursion (IsWithin r.structure) (r ∷ post)
    in_post = all_back (IsWithin r.structure) pre (r ∷ post) all

    found : (q : Row) → first_agreeing r.structure r q ≡ Some q → Finds (Within r.structure) points_agree operand_points beside pre r post (operand_point r.structure q)
    found q e = record {
      leads = reference_leads (operand_point r.structure q);
      own = beside_is (operand_point r.structure q) r ∙ ap (option_map (operand_point r.structure)) e;
      before = all_more (IsWithin r.structure) _ (λ d j. beside_only (operand_point r.structure q) d (covers r.structure d.structure j.within) j.kept) pre in_pre;
      behind = all_more (IsWithin r.structure) _ (λ d j. beside_only (operand_point r.structure q) d (covers r.structure d.structure j.within) j.kept) post in_post.1;
    }

-- ---- the tuples, with their identifiers
-- the tuple of these parts, of which the one at a place is the reference's
abbrev tuple_from : ℕ → List Part → Tuple
tuple_from n ps = record { identifiers = option_map_or (λ p. option_map_or (key_of p.structure) p.point []) (slice_get ps n) []; parts = ps }

agreed_from : (n : ℕ) (xs : List OperandPoint) → agreed_tuple n xs ≡ tuple_from n (map present xs)
agreed_from n xs = ap (λ k. record { identifiers = k; parts = map present xs }) (same n xs)
  where
    same : (i : ℕ) (ys : List OperandPoint) → option_map_or (λ x. key_of x.structure x.point) (slice_get ys i) [] ≡ option_map_or (λ p. option_map_or (key_of p.structure) p.point []) (slice_get (map present ys) i) []
    same i [] = refl
    same zero (y ∷ ys) = refl
    same (suc i) (y ∷ ys) = same i ys

part_there : (pre : List DataSet) (r : DataSet) (post : List DataSet) (g : DataSet → Option Row) → slice_get (map (λ d. part_of d (g d)) (pre ++ r ∷ post)) (length pre) ≡ Some (part_of r (g r))
part_there [] r post g = refl
part_there (d ∷ pre) r post g = part_there pre r post g

-- a tuple beside a point of the reference is told by its parts
told_by_parts : (pre : List DataSet) (r : DataSet) (post : List DataSet) (q : Row) → first_agreeing r.structure r q ≡ Some q → tuple_from (length pre) (tuple_beside r.structure (pre ++ r ∷ post) q).parts ≡ tuple_beside r.structure (pre ++ r ∷ post) q
told_by_parts pre r post q e =
    let a = r.structure in
    let ps = map (λ d. part_of d (first_agreeing a d q)) (pre ++ r ∷ post) in
    ap (λ k. record { identifiers = k; parts = ps }) (ap (λ o. option_map_or (λ p. option_map_or (key_of p.structure) p.point []) o []) (part_there pre r post (λ d. first_agreeing a d q)) ∙ ap (λ o. option_map_or (key_of a) o []) e)

pub inner_agreed : (pre : List DataSet) (r : DataSet) (post : List DataSet) → AllByRecursion (IsWithin r.structure) (pre ++ r ∷ post)
    → Perm (map (agreed_tuple (length pre)) (agreeing (pre ++ r ∷ post))) (inner_tuples r (pre ++ r ∷ post))
inner_agreed pre r post all =
    let n = length pre in
    let ds = pre ++ r ∷ post in
    let a = r.structure in
    let I : Tuple → Type 0 = λ t. tuple_from n t.parts ≡ t in
    let own = (all_back (IsWithin a) pre (r ∷ post) all).0.kept in
    let each_told = AllByRecursion-map (tuple_beside a ds) I r.points (all_more (λ q. first_agreeing a r q ≡ Some q) (λ q. I (tuple_beside a ds q)) (told_by_parts pre r post) r.points (agreeing_own r own)) in
    let told = AllByRecursion-filter I is_whole (left_tuples r ds) each_told in
    chain (Perm-same _ _ (ap (λ (f : List OperandPoint → Tuple). map f (agreeing ds)) (λ i xs. agreed_from n xs i) ∙ sym (map-map (tuple_from n) (map present) (agreeing ds))))
    (chain (Perm-map (tuple_from n) (inner_is pre r post all))
    (Perm-same _ _ (map-map (tuple_from n) (λ t. t.parts) (inner_tuples r ds) ∙ map_same (λ t. tuple_from n t.parts) (λ t. t) (inner_tuples r ds) told ∙ itself (inner_tuples r ds))))
  where
    itself : (ts : List Tuple) → map (λ t. t) ts ≡ ts
    itself [] = refl
    itself (t ∷ ts) = ap (λ l. t ∷ l) (itself ts)

-- ---- the joined set
split_at : {X : Type 0} (xs : List X) (n : ℕ) (x : X) → slice_get xs n ≡ Some x → (pre : List X) × (post : List X) × (xs ≡ pre ++ x ∷ post) × (length pre ≡ n)
split_at [] n x e = cc
split_at (y ∷ xs) zero x e = let same : y ≡ x = cc in ([], xs, ap (λ z. z ∷ xs) same, refl)
split_at (y ∷ xs) (suc n) x e = let rest = split_at xs n x e in (y ∷ rest.0, rest.1, ap (λ l. y ∷ l) rest.2, ap suc rest.3)

all_join : (a : Structure) (ds : List DataSet) → AreSets ds → AllByRecursion (λ b. AreAmong (identifiers_of b) (identifiers_of a)) (structures_of ds) → AllByRecursion (IsWithin a) ds
all_join a [] all within = tt
all_join a (d ∷ ds) all within = (record { kept = all.0; within = within.0 }, all_join a ds all.1 within.1)

pub inner_points : (ds : List DataSet) (s : Structure) → IsJoined join.Inner (structures_of ds) s → AllByRecursion (λ d. IsDataSet d.structure d.points) ds
    → Perm (map (λ xs. tuple_point (agreed_tuple (reference_place join.Inner (structures_of ds)) xs)) (agreeing ds)) (join_of join.Inner ds)
inner_points ds s i all =
    let r = reference_is join.Inner ds s i all in
    let parts = split_at ds (reference_place join.Inner (structures_of ds)) r.0 r.1.there in
    let joins = all_join r.0.structure ds all r.1.together.1 in
    chain (Perm-same _ _ (sym (map-map tuple_point (agreed_tuple (reference_place join.Inner (structures_of ds))) (agreeing ds))))
    (chain (Perm-map tuple_point (at ds r.0 parts.0 parts.1 (reference_place join.Inner (structures_of ds)) parts.2 parts.3 joins))
    (Perm-same _ _ (sym (join_with join.Inner ds r.0 r.1.there))))
  where
    at : (es : List DataSet) (r : DataSet) (pre post : List DataSet) (n : ℕ) → es ≡ pre ++ r ∷ post → length pre ≡ n → AllByRecursion (IsWithin r.structure) es → Perm (map (agreed_tuple n) (agreeing es)) (inner_tuples r es)
    at es r pre post n e l joins =
        subst (λ zs. Perm (map (agreed_tuple n) (agreeing zs)) (inner_tuples r zs)) (sym e)
        (subst (λ m. Perm (map (agreed_tuple m) (agreeing (pre ++ r ∷ post))) (inner_tuples r (pre ++ r ∷ post))) l (inner_agreed pre r post (subst (AllByRecursion (IsWithin r.structure)) e joins)))
