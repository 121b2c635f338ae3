-- Forms on two and three data sets whose points are paired: operators on two data sets, and `if`.
use Rattle.lineage_laws.proofs.Columns.{IsIdentifierOf, agree_front_cells, agree_ids, agree_joined, agree_named, among_identifiers, both_ok, kept_identifiers, same_values}
use Rattle.lineage_laws.proofs.Rows.{known_parts, same_at, same_key, same_named}
use Rattle.lineage_laws.proofs.Togethers.{both_list, both_map, found_both, together_flat, together_map, together_with}
use Rattle.lineage_laws.specs.Agree.{Agree, Agreeing, Both, IsKnown, Known, Together, cell, neither, no_cells, none, and}
use Rattle.std.proofs.Common.{◌≡◌, ℕ, ◌≤◌, Bool, true, false, cond, ◌||◌, List, [], ◌∷◌, ◌++◌, length, map, take, Ok, refl, sym, ap, ◌∙◌, subst, arith, length-append}
use Rattle.std.proofs.lemmas.List.{length-map, map-append, take-append-le}
use Rattle.std.specs.List.{AllByRecursion, list_any}
use Rattle.std.specs.Prelude.{option_map}
use Rattle.vtl_lists.proofs.Alls.{all_filtered, all_more}
use Rattle.vtl_lists.proofs.Tests.{or_second}
use Rattle.vtl_cell.specs.Outcome.{faults_by}
use Rattle.vtl_cell.specs.Outcomes.{is_true}
use Rattle.vtl_cell.specs.Row.{Row, same_row}
use Rattle.vtl_cell.specs.declared.cell.Cell.{Cell}
use Rattle.vtl_cell.specs.declared.operator.ScalarOp.{ScalarOp}
use Rattle.vtl_decimal.specs.Settings.{Settings}
use Rattle.vtl_meaning.proofs.Agreements.{common_of_contained}
use Rattle.vtl_meaning.proofs.Kept.{columns_point, for_back}
use Rattle.vtl_meaning.proofs.LookUps.{named_cells, namesake_values, value_behind, value_in_front}
use Rattle.vtl_meaning.proofs.Places.{columns_split, key_cells, key_within}
use Rattle.vtl_meaning.specs.LookUps.{paired_at, result_at, value_named, values_for, values_named}
use Rattle.vtl_meaning.specs.Made.{AreAmong, AreFor, HasIdentifiers, IsChoice, IsPaired}
use Rattle.vtl_meaning.specs.Operators.{choice_of, for_measures, is_first_chosen, joined_point, pair_of, taken_at, taken_from, with_namesake}
use Rattle.vtl_meaning.specs.Points.{beside, cell_or_null, each_point, paired, partner, point_fault, point_of, with_points}
use Rattle.vtl_rows.specs.Tables.{cells_at}
use Rattle.vtl_tree.specs.Columns.{common_identifiers, has_identifier, column_behind, column_named, columns_named, identifiers_of, measures_of, others_of, places_in}
use Rattle.vtl_tree.specs.CompExp.{CompExp}
use Rattle.vtl_tree.specs.DataSet.{IsDataSet, is_point, look}
use Rattle.vtl_tree.specs.Names.{is_among}
use Rattle.vtl_tree.specs.Pairs.{contains}
use Rattle.vtl_tree.specs.Structure.{columns_of, key_width, names_of, same_name}
use Rattle.vtl_tree.specs.Value.{value}
use Rattle.vtl_tree.specs.declared.structure.Component.{Component}
use Rattle.vtl_tree.specs.declared.structure.Structure.{Structure}
use Rattle.vtl_sources.specs.Links.{Pairs}
use Rattle.vtl_sources.specs.Sources.{sources}
use Rattle.lineage_laws.specs.Over.{Operand, columns_from, no_pairs, of_choice, of_pair, source_at, source_named}

-- ---- look-up
pub together_look : (R : Row → Row → Type 0) (n : ℕ) → ((r q : Row) → R r q → take n r ≡ take n q) → (k j : Row) → k ≡ j → (d t : List Row) → Together R d t → Both R (look n d k) (look n t j)
together_look R n h k j e _ _ none = neither
together_look R n h k j e _ _ (and {x = r} {y = q} {xs = d} {ys = t} g rest) =
    found_both R r q (look n d k) (look n t j) (same_row (take n r) k) (same_row (take n q) j) (λ i. same_row (h r q g i) (e i)) g (together_look R n h k j e d t rest)

pub among_any : (name : List ℕ) (xs : List Component) → is_among name (names_of xs) ≡ list_any (λ x. same_name x.name name) xs
among_any name [] = refl
among_any name (x ∷ xs) = ap (λ b. same_name x.name name || b) (among_any name xs)

-- the identifiers of the operand with fewer ones
pub contained_identifiers : (a b : Structure) → contains a b ≡ true → AllByRecursion (λ y. IsIdentifierOf a y.name) (identifiers_of b)
contained_identifiers a b e =
    subst (λ ys. AllByRecursion (λ y. IsIdentifierOf a y.name) ys) (common_of_contained a b e)
    (all_more (λ y. has_identifier a y.name ≡ true) (λ y. IsIdentifierOf a y.name) (λ y h. sym (among_any y.name (identifiers_of a)) ∙ h) (common_identifiers a b) (all_filtered (λ y. has_identifier a y.name) (identifiers_of b)))

-- a row of an operand, with its width
abbrev pub IsRowOf : Structure → Row → Type 0
IsRowOf a r = is_point (columns_of a) r ≡ true

abbrev pub Points : Known → Operand → Row → Row → Type 0
Points known a r q = Agree known (columns_from a.structure a.sources) r q × IsRowOf a.structure r × IsRowOf a.structure q

module _ (known : Known) (a : Operand) (points : IsKnown known a.sources.points) (d t : List Row) (agree : Agreeing known (columns_from a.structure a.sources) d t) (h : IsDataSet a.structure d) (k : IsDataSet a.structure t) where
  pub point_pairs : Together (Points known a) d t
  point_pairs = together_with (Agree known (columns_from a.structure a.sources)) (IsRowOf a.structure) (IsRowOf a.structure) d t agree h.typed k.typed

  -- the partners of two points that agree
  pub partners_agree : (s : Structure) (r q : Row) → cells_at (places_in (columns_of s) (identifiers_of a.structure)) r ≡ cells_at (places_in (columns_of s) (identifiers_of a.structure)) q → Both (Points known a) (partner s (with_points a.structure d) r) (partner s (with_points a.structure t) q)
  partners_agree s r q e = together_look (Points known a) (key_width a.structure) (λ u v g. same_key known a u v g.0) _ _ e d t point_pairs

-- the cells of identifiers of an operand
pub same_cells : (known : Known) (a : Operand) → IsKnown known a.sources.points → (r q : Row) → Agree known (columns_from a.structure a.sources) r q → (ys : List Component) → AllByRecursion (λ y. IsIdentifierOf a.structure y.name) ys → cells_at (places_in (columns_of a.structure) ys) r ≡ cells_at (places_in (columns_of a.structure) ys) q
same_cells known a points r q g ys all = named_cells (columns_of a.structure) ys r ∙ same_values known a r q g ys all ∙ sym (named_cells (columns_of a.structure) ys q)

-- ---- operators on two data sets; `a` has all identifiers, and `F` says what the rest of the columns has of two points
module _ (known : Known) (p : Settings) (a b : Operand) (pa : IsKnown known a.sources.points) (pb : IsKnown known b.sources.points) (d t e f : List Row)
    (da : IsDataSet a.structure d) (ta : IsDataSet a.structure t) (eb : IsDataSet b.structure e) (fb : IsDataSet b.structure f)
    (ga : Agreeing known (columns_from a.structure a.sources) d t) (gb : Agreeing known (columns_from b.structure b.sources) e f) where
  pub side_agrees : (s : Structure) → contains a.structure b.structure ≡ true → HasIdentifiers s (identifiers_of a.structure) → (rest : List CompExp) (pts : Pairs) (srcs : List Pairs)
      → ((r q u v : Row) → Points known a r q → Points known b u v → Agree known srcs (point_of p rest (r ++ u)) (point_of p rest (q ++ v)))
      → (out other : List Row)
      → each_point p (columns_named (columns_of a.structure) (identifiers_of s) ++ rest) (paired (with_points a.structure d) (with_points b.structure e)) ≡ Ok out
      → each_point p (columns_named (columns_of a.structure) (identifiers_of s) ++ rest) (paired (with_points a.structure t) (with_points b.structure f)) ≡ Ok other
      → Agreeing known (columns_from s (sources pts srcs)) out other
  side_agrees s within kept rest pts srcs same out other h k =
      let ours = a.structure in
      let theirs = b.structure in
      let xs = columns_of ours in
      let exps = columns_named xs (identifiers_of s) ++ rest in
      let Q = Agree known (columns_from s (sources pts srcs)) in
      let W : Row → Row → Type 0 = λ x y. Q (point_of p exps x) (point_of p exps y) in
      let split : (x : Row) → point_of p exps x ≡ cells_at (places_in xs (identifiers_of s)) x ++ point_of p rest x = λ x. map-append (λ z. cell_or_null (value p z x)) (columns_named xs (identifiers_of s)) rest ∙ ap (λ l. l ++ point_of p rest x) (columns_point p xs (identifiers_of s) x) in
      let joined : (r q : Row) → Points known a r q → (u v : Row) → Points known b u v → W (r ++ u) (q ++ v) = λ r q g u v m.
      subst (λ z. Q z (point_of p exps (q ++ v))) (sym (split (r ++ u)))
      (subst (λ z. Q (cells_at (places_in xs (identifiers_of s)) (r ++ u) ++ point_of p rest (r ++ u)) z) (sym (split (q ++ v)))
      (agree_joined known no_pairs (identifiers_of s) srcs (cells_at (places_in xs (identifiers_of s)) (r ++ u)) (cells_at (places_in xs (identifiers_of s)) (q ++ v)) (point_of p rest (r ++ u)) (point_of p rest (q ++ v))
      (front r q u v g) (same r q u v g m))) in
      both_ok Q (faults_by (point_fault p exps) (paired (with_points ours d) (with_points theirs e))) (faults_by (point_fault p exps) (paired (with_points ours t) (with_points theirs f)))
      (map (point_of p exps) (paired (with_points ours d) (with_points theirs e))) out (map (point_of p exps) (paired (with_points ours t) (with_points theirs f))) other
      (together_map W Q (point_of p exps) (point_of p exps) (λ x y w. w) (paired (with_points ours d) (with_points theirs e)) (paired (with_points ours t) (with_points theirs f))
      (together_flat (Points known a) W (beside ours (with_points theirs e)) (beside ours (with_points theirs f))
      (λ r q g. both_list W (option_map (λ z. r ++ z) (partner ours (with_points theirs e) r)) (option_map (λ z. q ++ z) (partner ours (with_points theirs f) q))
      (both_map (Points known b) W (λ z. r ++ z) (λ z. q ++ z) (joined r q g) (partner ours (with_points theirs e) r) (partner ours (with_points theirs f) q)
      (partners_agree known b pb e f gb eb fb ours r q (same_cells known a pa r q g.0 (identifiers_of theirs) (contained_identifiers ours theirs within)))))
      d t (point_pairs known a pa d t ga da ta))) h k
    where
      front : (r q u v : Row) → Points known a r q → Agree known (map (λ y. no_pairs) (identifiers_of s)) (cells_at (places_in (columns_of a.structure) (identifiers_of s)) (r ++ u)) (cells_at (places_in (columns_of a.structure) (identifiers_of s)) (q ++ v))
      front r q u v g =
          let n = key_width a.structure in
          let places = places_in (columns_of a.structure) (identifiers_of s) in
          let cells : (x y : Row) → IsRowOf a.structure x → cells_at places (x ++ y) ≡ take n x = λ x y m.
          let l = key_within a.structure x m in
          let longer : n ≤ length (x ++ y) = let more = length-append x y in omega (arith, l, more) in
          key_cells a.structure s (x ++ y) da.well_formed kept longer ∙ take-append-le n x y l in
          subst (λ z. Agree known (map (λ y. no_pairs) (identifiers_of s)) z (cells_at places (q ++ v))) (sym (cells r u g.1))
          (subst (λ z. Agree known (map (λ y. no_pairs) (identifiers_of s)) (take n r) z) (sym (cells q v g.2)) (agree_ids known a r q g.0 no_pairs s kept))

-- the values for namesakes
agree_values : (known : Known) (k : Component → Pairs) (f g : Component → Component → Cell) → ((x y : Component) → IsKnown known (k x) → f x y ≡ g x y) → (xs ys : List Component) → Agree known (map k (take (length ys) xs)) (values_for f xs ys) (values_for g xs ys)
agree_values known k f g h [] [] = no_cells
agree_values known k f g h [] (y ∷ ys) = no_cells
agree_values known k f g h (x ∷ xs) [] = no_cells
agree_values known k f g h (x ∷ xs) (y ∷ ys) = cell (h x y) (agree_values known k f g h xs ys)

module _ (known : Known) (p : Settings) (o : ScalarOp) (a b : Operand) (pa : IsKnown known a.sources.points) (pb : IsKnown known b.sources.points) (d t e f : List Row)
    (da : IsDataSet a.structure d) (ta : IsDataSet a.structure t) (eb : IsDataSet b.structure e) (fb : IsDataSet b.structure f)
    (ga : Agreeing known (columns_from a.structure a.sources) d t) (gb : Agreeing known (columns_from b.structure b.sources) e f) where
  pub pair_agrees : (s : Structure) → IsPaired p o a.structure b.structure s → (out other : List Row) → pair_of p o (with_points a.structure d) (with_points b.structure e) s ≡ Ok out → pair_of p o (with_points a.structure t) (with_points b.structure f) s ≡ Ok other → Agreeing known (columns_from s (of_pair a b s)) out other
  pair_agrees s i out other h k = go (contains ours theirs) refl i.identifiers i.columns h k
    where
      ours : Structure
      ours = a.structure

      theirs : Structure
      theirs = b.structure

      left : List CompExp
      left = for_measures (with_namesake o (column_named (columns_of ours)) (column_behind (length (columns_of ours)) (columns_of theirs))) (measures_of ours) (measures_of s)

      right : List CompExp
      right = for_measures (with_namesake o (column_behind (length (columns_of theirs)) (columns_of ours)) (column_named (columns_of theirs))) (measures_of ours) (measures_of s)

      exps : Bool → List CompExp
      exps z = cond z (columns_named (columns_of ours) (identifiers_of s) ++ left) (columns_named (columns_of theirs) (identifiers_of s) ++ right)

      src : Component → Pairs
      src x = source_named a x.name ++ source_named b x.name

      srcs : List Pairs
      srcs = map src (take (length (measures_of s)) (measures_of ours))

      -- the measures of two points
      named : (r q u v : Row) → Points known a r q → Points known b u v → Agree known srcs (paired_at p o ours theirs s r u) (paired_at p o ours theirs s q v)
      named r q u v m n = agree_values known src (λ x y. result_at p o y.kind (Ok (value_named (columns_of ours) r x.name) ∷ Ok (value_named (columns_of theirs) u x.name) ∷ [])) (λ x y. result_at p o y.kind (Ok (value_named (columns_of ours) q x.name) ∷ Ok (value_named (columns_of theirs) v x.name) ∷ []))
          (λ x y w. let parts = known_parts known (source_named a x.name) (source_named b x.name) w in
          λ j. result_at p o y.kind (Ok (same_named known a r q m.0 x.name parts.0 j) ∷ Ok (same_named known b u v n.0 x.name parts.1 j) ∷ []))
          (measures_of ours) (measures_of s)

      go : (z : Bool) → contains ours theirs ≡ z → HasIdentifiers s (identifiers_of (cond z ours theirs)) → AreFor p (cond z (columns_of ours ++ columns_of theirs) (columns_of theirs ++ columns_of ours)) (exps z) (columns_of s)
          → each_point p (exps z) (cond z (paired (with_points ours d) (with_points theirs e)) (paired (with_points theirs e) (with_points ours d))) ≡ Ok out
          → each_point p (exps z) (cond z (paired (with_points ours t) (with_points theirs f)) (paired (with_points theirs f) (with_points ours t))) ≡ Ok other
          → Agreeing known (columns_from s (of_pair a b s)) out other
      go true w ids typed l m =
          let split = for_back p (columns_of ours ++ columns_of theirs) (columns_named (columns_of ours) (identifiers_of s)) left (identifiers_of s) (others_of s) (length-map (identifiers_of s) (λ y. column_named (columns_of ours) y.name)) (subst (λ ys. AreFor p (columns_of ours ++ columns_of theirs) (columns_named (columns_of ours) (identifiers_of s) ++ left) ys) (columns_split s) typed) in
          let values : (r u : Row) → IsRowOf ours r → IsRowOf theirs u → point_of p left (r ++ u) ≡ paired_at p o ours theirs s r u = λ r u v x. namesake_values p o (columns_of ours ++ columns_of theirs) (column_named (columns_of ours)) (column_behind (length (columns_of ours)) (columns_of theirs)) (r ++ u) (value_named (columns_of ours) r) (value_named (columns_of theirs) u)
          (λ n j. ap (λ (c : Cell). Ok c) (value_in_front p (columns_of ours) (columns_of theirs) r u n v x j)) (λ n j. ap (λ (c : Cell). Ok c) (value_behind (columns_of ours) (columns_of theirs) r u n v)) (measures_of ours) (measures_of s) (others_of s) split in
          side_agrees known p a b pa pb d t e f da ta eb fb ga gb s w ids left (a.sources.points ++ b.sources.points) srcs
          (λ r q u v x y. subst (λ z. Agree known srcs z (point_of p left (q ++ v))) (sym (values r u x.1 y.1)) (subst (λ z. Agree known srcs (paired_at p o ours theirs s r u) z) (sym (values q v x.2 y.2)) (named r q u v x y)))
          out other l m
      go false w ids typed l m =
          let split = for_back p (columns_of theirs ++ columns_of ours) (columns_named (columns_of theirs) (identifiers_of s)) right (identifiers_of s) (others_of s) (length-map (identifiers_of s) (λ y. column_named (columns_of theirs) y.name)) (subst (λ ys. AreFor p (columns_of theirs ++ columns_of ours) (columns_named (columns_of theirs) (identifiers_of s) ++ right) ys) (columns_split s) typed) in
          let values : (u r : Row) → IsRowOf theirs u → IsRowOf ours r → point_of p right (u ++ r) ≡ paired_at p o ours theirs s r u = λ u r v x. namesake_values p o (columns_of theirs ++ columns_of ours) (column_behind (length (columns_of theirs)) (columns_of ours)) (column_named (columns_of theirs)) (u ++ r) (value_named (columns_of ours) r) (value_named (columns_of theirs) u)
          (λ n j. ap (λ (c : Cell). Ok c) (value_behind (columns_of theirs) (columns_of ours) u r n v)) (λ n j. ap (λ (c : Cell). Ok c) (value_in_front p (columns_of theirs) (columns_of ours) u r n v x j)) (measures_of ours) (measures_of s) (others_of s) split in
          side_agrees known p b a pb pa e f d t eb fb da ta gb ga s (or_second (contains ours theirs) (contains theirs ours) i.contained w) ids right (a.sources.points ++ b.sources.points) srcs
          (λ u v r q y x. subst (λ z. Agree known srcs z (point_of p right (v ++ q))) (sym (values u r y.1 x.1)) (subst (λ z. Agree known srcs (paired_at p o ours theirs s r u) z) (sym (values v q y.2 x.2)) (named r q u v x y)))
          out other l m

-- ---- `if`
module _ (known : Known) (c a b : Operand) (pc : IsKnown known c.sources.points) (pa : IsKnown known a.sources.points) (pb : IsKnown known b.sources.points) (tested : IsKnown known (source_at c (key_width c.structure)))
    (x y d t e f : List Row) (da : IsDataSet a.structure d) (ta : IsDataSet a.structure t) (eb : IsDataSet b.structure e) (fb : IsDataSet b.structure f)
    (gc : Agreeing known (columns_from c.structure c.sources) x y) (ga : Agreeing known (columns_from a.structure a.sources) d t) (gb : Agreeing known (columns_from b.structure b.sources) e f) (s : Structure) (i : IsChoice c.structure a.structure b.structure s) where
  abbrev chosen_cols : List Pairs
  chosen_cols = columns_from s (of_choice c a b s)

  abbrev Chosen : Row → Row → Type 0
  Chosen = Agree known chosen_cols

  taken_agrees : (o : Operand) (po : IsKnown known o.sources.points) (u v : List Row) (uo : IsDataSet o.structure u) (vo : IsDataSet o.structure v) (go : Agreeing known (columns_from o.structure o.sources) u v)
      → AreAmong (identifiers_of o.structure) (identifiers_of c.structure) → ((z : Component) → IsKnown known (source_named a z.name ++ source_named b z.name) → IsKnown known (source_named o z.name))
      → (r q : Row) → Agree known (columns_from c.structure c.sources) r q → Together Chosen (taken_from c.structure (with_points o.structure u) s r) (taken_from c.structure (with_points o.structure v) s q)
  taken_agrees o po u v uo vo go there more r q g =
      let ours = c.structure in
      let theirs = o.structure in
      let src : Component → Pairs = λ z. source_named a z.name ++ source_named b z.name in
      let places = places_in (columns_of ours) (identifiers_of s) in
      let behind = places_in (columns_of theirs) (measures_of s) in
      let joined : (m n : Row) → Points known o m n → Chosen (joined_point ours theirs s r m) (joined_point ours theirs s q n) = λ m n w.
      agree_joined known no_pairs (identifiers_of s) (map src (measures_of s)) (cells_at places r) (cells_at places q) (cells_at behind m) (cells_at behind n)
      (agree_front_cells known c r q g no_pairs (identifiers_of s) (kept_identifiers s ours i.identifiers))
      (subst (λ z. Agree known (map src (measures_of s)) z (cells_at behind n)) (sym (named_cells (columns_of theirs) (measures_of s) m))
      (subst (λ z. Agree known (map src (measures_of s)) (values_named (columns_of theirs) (measures_of s) m) z) (sym (named_cells (columns_of theirs) (measures_of s) n))
      (agree_named known o m n w.0 src more (measures_of s)))) in
      both_list Chosen (option_map (joined_point ours theirs s r) (partner ours (with_points theirs u) r)) (option_map (joined_point ours theirs s q) (partner ours (with_points theirs v) q))
      (both_map (Points known o) Chosen (joined_point ours theirs s r) (joined_point ours theirs s q) joined (partner ours (with_points theirs u) r) (partner ours (with_points theirs v) q)
      (partners_agree known o po u v go uo vo ours r q (same_cells known c pc r q g (identifiers_of theirs) (among_identifiers (identifiers_of theirs) ours there))))

  either : (m n : List Row) (o w : List Row) (z l : Bool) → z ≡ l → Together Chosen m n → Together Chosen o w → Together Chosen (cond z m o) (cond l n w)
  either m n o w true true h g k = g
  either m n o w false false h g k = k
  either m n o w true false h g k = cc
  either m n o w false true h g k = cc

  pub choice_agrees : Agreeing known chosen_cols (choice_of (with_points c.structure x) (with_points a.structure d) (with_points b.structure e) s) (choice_of (with_points c.structure y) (with_points a.structure t) (with_points b.structure f) s)
  choice_agrees =
      together_flat (Agree known (columns_from c.structure c.sources)) Chosen (taken_at c.structure (with_points a.structure d) (with_points b.structure e) s) (taken_at c.structure (with_points a.structure t) (with_points b.structure f) s)
      (λ r q g. either (taken_from c.structure (with_points a.structure d) s r) (taken_from c.structure (with_points a.structure t) s q) (taken_from c.structure (with_points b.structure e) s r) (taken_from c.structure (with_points b.structure f) s q)
      (is_first_chosen c.structure r) (is_first_chosen c.structure q) (ap (λ v. is_true (Ok v)) (same_at known c r q g (key_width c.structure) tested))
      (taken_agrees a pa d t da ta ga i.first.there (λ z h. (known_parts known (source_named a z.name) (source_named b z.name) h).0) r q g)
      (taken_agrees b pb e f eb fb gb i.second.there (λ z h. (known_parts known (source_named a z.name) (source_named b z.name) h).1) r q g))
      x y gc
