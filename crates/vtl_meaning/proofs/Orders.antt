-- The operators do not depend on the order of points.
use Rattle.std.proofs.Common.{◌≡◌, Bool, true, false, cond, List, ◌++◌, map, Option, ap, ◌∙◌}
use Rattle.std.specs.Prelude.{option_map}
use Rattle.std.specs.List.{filter}
use Rattle.std.specs.Option.{option_to_list}
use Rattle.vtl_decimal.specs.Settings.{Settings}
use Rattle.vtl_lists.specs.Perm.{Perm, chain}
use Rattle.vtl_lists.proofs.Perms.{Perm-filter, Perm-flat_map, Perm-flat_map_each, Perm-map, Perm-same}
use Rattle.vtl_decimal.specs.declared.number.Fault.{Fault}
use Rattle.vtl_cell.specs.Outcome.{fault_in, faults_by}
use Rattle.vtl_cell.specs.Outcomes.{Same, is_true}
use Rattle.vtl_cell.specs.Row.{Row}
use Rattle.vtl_cell.specs.declared.operator.ScalarOp.{ScalarOp}
use Rattle.vtl_rows.specs.Tables.{cells_at}
use Rattle.vtl_tree.specs.Clauses.{filter_of}
use Rattle.vtl_tree.specs.CompExp.{CompExp}
use Rattle.vtl_tree.specs.DataSet.{Distinct}
use Rattle.vtl_tree.specs.Structure.{columns_of, key_width}
use Rattle.vtl_tree.specs.Value.{value}
use Rattle.vtl_tree.specs.declared.structure.Component.{Component}
use Rattle.vtl_tree.specs.declared.structure.Structure.{Structure}
use Rattle.vtl_tree.proofs.Faults.{Same_unless, faults_by-Perm}
use Rattle.vtl_tree.proofs.LookUps.{look_respects}
use Rattle.vtl_tree.specs.declared.clauses.SubItem.{SubItem}
use Rattle.vtl_tree.specs.Pairs.{contains}
use Rattle.vtl_tree.specs.Columns.{identifiers_of, places_in}
use Rattle.vtl_meaning.specs.Operators.{choice_of, has_values, is_first_chosen, joined_point, pair_exps, pair_of, pairs_of, sub_of, taken_at}
use Rattle.vtl_meaning.specs.Points.{beside, each_point, paired, partner, point_fault, point_of, shown, with_points}

-- ---- operators
pub each_respects : (p : Settings) (es : List CompExp) (d e : List Row) → Perm d e → Same (each_point p es d) (each_point p es e)
each_respects p es d e q = Same_unless (faults_by (point_fault p es) d) (faults_by (point_fault p es) e) (map (point_of p es) d) (map (point_of p es) e) (faults_by-Perm (point_fault p es) q) (Perm-map (point_of p es) q)

pub filtered_respects : (p : Settings) (e : CompExp) (d f : List Row) → Perm d f → Same (filter_of p e d) (filter_of p e f)
filtered_respects p e d f q =
    let fault : Row → Option Fault = λ r. fault_in (value p e r) in
    let test : Row → Bool = λ r. is_true (value p e r) in
    Same_unless (faults_by fault d) (faults_by fault f) (filter test d) (filter test f) (faults_by-Perm fault q) (Perm-filter test q)

pub shown_respects : (xs ys : List Component) (d e : List Row) → Perm d e → Perm (shown xs ys d) (shown xs ys e)
shown_respects xs ys d e q = Perm-map (cells_at (places_in xs ys)) q

pub sub_respects : (items : List SubItem) (a s : Structure) (d e : List Row) → Perm d e → Perm (sub_of items (with_points a d) s) (sub_of items (with_points a e) s)
sub_respects items a s d e q = Perm-map (cells_at (places_in (columns_of a) (columns_of s))) (Perm-filter (has_values a items) q)

-- a partner is found by its key, of which there is one
partner_respects : (s other : Structure) (e f : List Row) → Perm e f → Distinct (key_width other) e → (r : Row) → partner s (with_points other e) r ≡ partner s (with_points other f) r
partner_respects s other e f q apart r = look_respects (key_width other) (cells_at (places_in (columns_of s) (identifiers_of other)) r) q apart

pub paired_respects : (s other : Structure) (d t e f : List Row) → Perm d t → Perm e f → Distinct (key_width other) e → Perm (paired (with_points s d) (with_points other e)) (paired (with_points s t) (with_points other f))
paired_respects s other d t e f p q apart =
    let old : Row → List Row = beside s (with_points other e) in
    let new : Row → List Row = beside s (with_points other f) in
    let same : (r : Row) → old r ≡ new r = λ r. ap (λ o. option_to_list (option_map (λ z. r ++ z) o)) (partner_respects s other e f q apart r) in
    chain (Perm-flat_map old p) (Perm-flat_map_each old new (λ r. Perm-same (old r) (new r) (same r)) t)

pub pair_respects : (p : Settings) (o : ScalarOp) (a b s : Structure) (d t e f : List Row) → Perm d t → Perm e f → Distinct (key_width a) d → Distinct (key_width b) e → Same (pair_of p o (with_points a d) (with_points b e) s) (pair_of p o (with_points a t) (with_points b f) s)
pair_respects p o a b s d t e f g h i j = each_respects p (pair_exps o a b s) (pairs_of (with_points a d) (with_points b e)) (pairs_of (with_points a t) (with_points b f)) (sides (contains a b))
  where
    sides : (x : Bool) → Perm (cond x (paired (with_points a d) (with_points b e)) (paired (with_points b e) (with_points a d))) (cond x (paired (with_points a t) (with_points b f)) (paired (with_points b f) (with_points a t)))
    sides true = paired_respects a b d t e f g h j
    sides false = paired_respects b a e f d t h g i

pub choice_respects : (t a b s : Structure) (tests other d e f g : List Row) → Perm tests other → Perm d e → Perm f g → Distinct (key_width a) d → Distinct (key_width b) f → Perm (choice_of (with_points t tests) (with_points a d) (with_points b f) s) (choice_of (with_points t other) (with_points a e) (with_points b g) s)
choice_respects t a b s tests other d e f g p q u i j =
    let old : Row → List Row = taken_at t (with_points a d) (with_points b f) s in
    let new : Row → List Row = taken_at t (with_points a e) (with_points b g) s in
    let Taken : Row → Option Row → Option Row → List Row = λ r x y. cond (is_first_chosen t r) (option_to_list (option_map (joined_point t a s r) x)) (option_to_list (option_map (joined_point t b s r) y)) in
    let same : (r : Row) → old r ≡ new r = λ r. ap (λ x. Taken r x (partner t (with_points b f) r)) (partner_respects t a d e q i r) ∙ ap (Taken r (partner t (with_points a e) r)) (partner_respects t b f g u j r) in
    chain (Perm-flat_map old p) (Perm-flat_map_each old new (λ r. Perm-same (old r) (new r) (same r)) other)
