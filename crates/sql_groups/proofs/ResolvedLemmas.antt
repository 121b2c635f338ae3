-- HAVING and items with places have the values of those of a grouped select.
use Rattle.std.proofs.Common.{◌≡◌, ℕ, ◌+◌, ◌<◌, ◌≤◌, List, [], ◌∷◌, ◌++◌, Bool, true, false, cond, length, get_or, map, take, Option, None, Some, Ok, Err, refl, sym, ap, ◌∙◌, subst, arith}
use Rattle.std.specs.Prelude.{zip}
use Rattle.std.specs.List.{filter}
use Rattle.std.proofs.lemmas.List.{get_or-map, length-map, take_all, take_more}
use Rattle.std.proofs.lemmas.Slice.Zip.{get_or-zip, length-zip}
use Rattle.vtl_lists.proofs.Filters.{filter_true}
use Rattle.vtl_cell.specs.Conversion.{as_kind}
use Rattle.vtl_decimal.specs.declared.number.Fault.{Fault}
use Rattle.vtl_cell.specs.Outcome.{Outcome, after, fault_in, faults_by, join, unless}
use Rattle.vtl_cell.specs.Outcomes.{is_true}
use Rattle.vtl_cell.specs.Row.{Row}
use Rattle.vtl_cell.specs.declared.cell.Cell.{Cell}
use Rattle.vtl_cell.specs.declared.kind.Kind.{Kind}
use Rattle.sql_tree.specs.Trees as tree
use Rattle.sql_tree.specs.Trees.{Exp, ItemTree, Text, ValueTree}
use Rattle.sql_tree.specs.View.{item_tree}
use Rattle.sql_tree.specs.declared.statements.Item.{Item}
use Rattle.sql_meaning.specs.Outcomes.{cell_or_null, row_at, row_fault}
use Rattle.sql_meaning.specs.Selects.{Wanted, group_item, group_rows, having_fault, kept_keys, key_value}
use Rattle.sql_meaning.specs.Values.{View}
use Rattle.sql_meaning.proofs.UpToOrder.{join_assoc, join_none, join_swap}
use Rattle.sql_eval.specs.Placed.{placed_value}
use Rattle.sql_eval.specs.View.{placed_of}
use Rattle.sql_eval.specs.declared.resolved.Resolved.{Resolved}
use Rattle.sql_groups.specs.Items.{Around, groups_made, item_at, passes, tested}
use Rattle.sql_groups.specs.Resolved.{AllStand, GroupSight, HavingStands, IsResolved, StandsFor, group_value, view_of}
use Rattle.sql_groups.specs.declared.items.GroupItem.{GroupItem}
use Rattle.sql_groups.specs.declared.items.GroupSelect.{GroupSelect}

-- ---- one more item

stand_more : (s : GroupSight) (xs : List Wanted) (ys : List GroupItem) (x : Wanted) (y : GroupItem) → AllStand s xs ys → StandsFor s x y → AllStand s (xs ++ x ∷ []) (ys ++ y ∷ [])
stand_more s [] [] x y all h = (h, tt)
stand_more s [] (z ∷ ys) x y all h = absurd all
stand_more s (w ∷ xs) [] x y all h = absurd all
stand_more s (w ∷ xs) (z ∷ ys) x y all h = (all.0, stand_more s xs ys x y all.1 h)

pub items_more : (s : GroupSight) (items : List Item) (kinds : List Kind) (i : ℕ) (item : Item) (kind : Kind) (y : GroupItem) (now then : List GroupItem) → length kinds ≡ length items → i < length items → item ≡ get_or items i item → kind ≡ get_or kinds i kind
    → StandsFor s (item_tree item, kind) y → then ≡ now ++ y ∷ [] → AllStand s (take i (zip (map item_tree items) kinds)) now → AllStand s (take (i + 1) (zip (map item_tree items) kinds)) then
items_more s items kinds i item kind y now then same h at_item at_kind stands e all =
    let wanted : List Wanted = zip (map item_tree items) kinds in
    let many : length (map item_tree items) ≡ length items = length-map items item_tree in
    let long = length-zip (map item_tree items) kinds in
    let within : i < length wanted = omega (arith, long, many, same, h) in
    let here : get_or wanted i (item_tree item, kind) ≡ (let w : Wanted = (item_tree item, kind) in w) =
    get_or-zip (map item_tree items) kinds i (item_tree item, kind) (omega (arith, many, h)) (omega (arith, same, h))
    ∙ (λ n. ((get_or-map item_tree items i item (item_tree item) h ∙ ap item_tree (sym at_item)) n, sym at_kind n)) in
    subst (AllStand s (take (i + 1) wanted)) (sym e)
    (subst (λ l. AllStand s l (now ++ y ∷ [])) (ap (λ w. take i wanted ++ w ∷ []) (sym here) ∙ sym (take_more wanted i (item_tree item, kind) within))
    (stand_more s (take i wanted) now (item_tree item, kind) y all stands))

pub items_done : (s : GroupSight) (items : List Item) (kinds : List Kind) (i : ℕ) (now : List GroupItem) → length kinds ≡ length items → length items ≤ i → AllStand s (take i (zip (map item_tree items) kinds)) now → AllStand s (zip (map item_tree items) kinds) now
items_done s items kinds i now same past all =
    let many : length (map item_tree items) ≡ length items = length-map items item_tree in
    let long = length-zip (map item_tree items) kinds in
    subst (λ l. AllStand s l now) (take_all i (zip (map item_tree items) kinds) (omega (arith, long, many, same, past))) all

-- ---- a walk over keys

exchanged : (t r u v : Option Fault) → join (join t r) (join u v) ≡ join (join t u) (join r v)
exchanged t r u v = join_assoc t r (join u v) ∙ ap (join t) (join_swap r u v) ∙ sym (join_assoc t u (join r v))

-- tests at all keys, and something more at those that pass, are one walk
one_walk : (t r : Row → Option Fault) (p : Row → Bool) (keys : List Row) → faults_by (λ key. join (t key) (cond (p key) (r key) None)) keys ≡ join (faults_by t keys) (faults_by r (filter p keys))
one_walk t r p [] = refl
one_walk t r p (x ∷ keys) = ap (join (join (t x) (cond (p x) (r x) None))) (one_walk t r p keys) ∙ go (p x)
  where
    go : (b : Bool) → join (join (t x) (cond b (r x) None)) (join (faults_by t keys) (faults_by r (filter p keys))) ≡ join (join (t x) (faults_by t keys)) (faults_by r (cond b (x ∷ filter p keys) (filter p keys)))
    go true = exchanged (t x) (r x) (faults_by t keys) (faults_by r (filter p keys))
    go false = ap (λ f. join f (join (faults_by t keys) (faults_by r (filter p keys)))) (join_none (t x)) ∙ sym (join_assoc (t x) (faults_by t keys) (faults_by r (filter p keys)))

-- ---- at a key

kept_where : (m : Outcome Cell) → passes (after m (λ v. Ok (is_true (Ok v)))) ≡ is_true m
kept_where (Ok v) = refl
kept_where (Err f) = refl

fault_there : (m : Outcome Cell) → fault_in (after m (λ v. let r : Outcome Bool = Ok (is_true (Ok v)) in r)) ≡ fault_in m
fault_there (Ok v) = refl
fault_there (Err f) = refl

module _ (s : GroupSight) (tables : Text → List Row) (members : Row → List Row) where
  abbrev v : View
  v = view_of s tables

  abbrev a : Around
  a = record { settings = s.settings; tables = tables; members = members }

  abbrev item : GroupItem → Row → Outcome Cell
  item x key = item_at s.settings tables key (members key) x

  value_is : (w : ValueTree) (key : Row) → group_value v w key (members key) ≡ key_value v members w key
  value_is (tree.expression e) key = refl
  value_is (tree.window w) key = refl

  item_is : (i : Wanted) (x : GroupItem) → StandsFor s i x → (key : Row) → item x key ≡ group_item v members i key
  item_is i x h key = λ n. after ((h.value_is tables key (members key) ∙ value_is i.0.value key) n) (as_kind s.settings (h.kind_is n))

  pub row_is : (items : List Wanted) (xs : List GroupItem) → AllStand s items xs → (key : Row) → map (λ x. cell_or_null (item x key)) xs ≡ row_at (group_item v members) items key
  row_is [] [] all key = refl
  row_is [] (x ∷ xs) all key = absurd all
  row_is (i ∷ is) [] all key = absurd all
  row_is (i ∷ is) (x ∷ xs) all key = λ n. cell_or_null (item_is i x all.0 key n) ∷ row_is is xs all.1 key n

  fault_is : (items : List Wanted) (xs : List GroupItem) → AllStand s items xs → (key : Row) → faults_by (λ x. fault_in (item x key)) xs ≡ row_fault (group_item v members) items key
  fault_is [] [] all key = refl
  fault_is [] (x ∷ xs) all key = absurd all
  fault_is (i ∷ is) [] all key = absurd all
  fault_is (i ∷ is) (x ∷ xs) all key = λ n. join (fault_in (item_is i x all.0 key n)) (fault_is is xs all.1 key n)

  -- ---- at all keys
  module _ (items : List Wanted) (xs : List GroupItem) (all : AllStand s items xs) (keys : List Row) where
    abbrev row_fault_at : Row → Option Fault
    row_fault_at key = faults_by (λ x. fault_in (item x key)) xs

    abbrev test : Option Resolved → Row → Outcome Bool
    test having key = tested s.settings tables having key (members key)

    kept_is : (having : Option Exp) (h : Option Resolved) → HavingStands s having h → filter (λ key. passes (test h key)) keys ≡ kept_keys v members having keys
    kept_is None None e = filter_true keys
    kept_is None (Some x) e = absurd e
    kept_is (Some t) None e = absurd e
    kept_is (Some t) (Some x) e = λ n. filter (λ key. (kept_where (placed_value s.settings tables (placed_of x) key (members key)) ∙ ap is_true (e tables key (members key))) n) keys

    faults_are : (having : Option Exp) (h : Option Resolved) → HavingStands s having h → faults_by (λ key. join (fault_in (test h key)) (cond (passes (test h key)) (row_fault_at key) None)) keys ≡ join (having_fault v members having keys) (faults_by (row_fault (group_item v members) items) (kept_keys v members having keys))
    faults_are None None e = λ n. faults_by (λ key. fault_is items xs all key n) keys
    faults_are None (Some x) e = absurd e
    faults_are (Some t) None e = absurd e
    faults_are (Some t) (Some x) e =
        one_walk (λ key. fault_in (test (Some x) key)) row_fault_at (λ key. passes (test (Some x) key)) keys
        ∙ (λ n. join
        (faults_by (λ key. (fault_there (placed_value s.settings tables (placed_of x) key (members key)) ∙ ap fault_in (e tables key (members key))) n) keys)
        (faults_by (λ key. fault_is items xs all key n) (kept_is (Some t) (Some x) e n)))

  pub groups_are : (items : List Wanted) (having : Option Exp) (x : GroupSelect) → IsResolved s items having x → (keys : List Row) → groups_made a x keys ≡ group_rows v items having members keys
  groups_are items having x is keys = λ n.
      unless (faults_are items x.items.items is.items_are keys having x.having is.having_is n)
      (map (λ key. row_is items x.items.items is.items_are key n) (kept_is items x.items.items is.items_are keys having x.having is.having_is n))
