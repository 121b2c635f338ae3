-- What is kept stays so as cells come and go, and gives the value of the aggregate.
use Rattle.std.proofs.Common.{◌≡◌, ℕ, ◌<◌, ◌^◌, List, [], ◌∷◌, ◌++◌, length, map, true, false, refl, sym, ap, ◌∙◌, Ok, subst, true≢false}
use Rattle.std.specs.List.{AllByRecursion}
use Rattle.std.proofs.lemmas.List.{map-append}
use Rattle.std.proofs.lemmas.List.Elements.{All-from_recursion, recursion_from_All}
use Rattle.vtl_cell.specs.Groups.{group_value, values_of}
use Rattle.vtl_decimal.specs.Settings.{Settings}
use Rattle.vtl_cell.specs.declared.cell.Cell.{Cell}
use Rattle.vtl_cell.specs.declared.cell.Cell.TheVariants as c
use Rattle.vtl_cell.specs.declared.operator.AggKind.{AggKind}
use Rattle.vtl_cell.specs.declared.operator.AggKind.TheVariants as kinds
use Rattle.vtl_frames.specs.Best.{best_places, cell_in, first_of, le_of, with_place, without_place}
use Rattle.vtl_frames.specs.Framed.{cells_at}
use Rattle.vtl_frames.specs.Kept.{AreAbove, AreIn, HasBest, HasTotals, IsKept, Keeps, is_best}
use Rattle.vtl_frames.specs.Picks.{cell_or}
use Rattle.vtl_frames.specs.Totals.{HasCounted, IsRoomy, IsSmall, joined, left, totals_of, value_of}
use Rattle.vtl_frames.specs.declared.best.Best.{Best}
use Rattle.vtl_frames.specs.declared.kept.Kept.{Kept}
use Rattle.vtl_frames.specs.declared.kept.State.TheVariants as states
use Rattle.vtl_frames.specs.declared.totals.Totals.{Totals}
use Rattle.vtl_frames.proofs.BestLemmas.{best_all, best_first, cell_is, greatest_value, least_value, order_of, with_place_is, without_front}
use Rattle.vtl_frames.proofs.TotalLemmas.{has_counted, joined_is, left_is, roomy, value_is}

all_push : (P : ℕ → Type 0) (ks : List ℕ) (k : ℕ) → AllByRecursion P ks → P k → AllByRecursion P (ks ++ k ∷ [])
all_push P [] k all h = (h, tt)
all_push P (j ∷ ks) k all h = (all.0, all_push P ks k all.1 h)

-- ---- totals
pub totals_kept : (at : ℕ → Cell) (ks : List ℕ) (k : Kept) (t : Totals) → k.state ≡ states.Totals t → Keeps at ks k → (is_best k.kind ≡ false) × HasTotals at ks t
totals_kept at ks k t e h = subst (IsKept k.kind at ks) e h.state

pub kept_roomy : (at : ℕ → Cell) (ks : List ℕ) (k : Kept) (t : Totals) → k.state ≡ states.Totals t → Keeps at ks k → length ks < 2 ^ 61 → IsRoomy t
kept_roomy at ks k t e h few = roomy at ks t (totals_kept at ks k t e h).1 few

pub kept_counted : (at : ℕ → Cell) (place : ℕ) (ks : List ℕ) (k : Kept) (t : Totals) (x : Cell) → k.state ≡ states.Totals t → Keeps at (place ∷ ks) k → x ≡ at place → HasCounted t x
kept_counted at place ks k t x e h same =
    subst (λ y. HasCounted t y) (sym same) (subst (λ u. HasCounted u (at place)) (sym (totals_kept at (place ∷ ks) k t e h).1.totals) (has_counted (at place) (map at ks)))

pub has_joined : (at : ℕ → Cell) (ks : List ℕ) (place : ℕ) (t u : Totals) (x : Cell) → HasTotals at ks t → u ≡ joined t x → x ≡ at place → IsSmall x → HasTotals at (ks ++ place ∷ []) u
has_joined at ks place t u x has new same small = record {
  totals =
      new ∙ ap (joined t) same ∙ ap (λ s. joined s (at place)) has.totals ∙ joined_is (map at ks) (at place)
      ∙ ap (λ l. totals_of (values_of l)) (sym (map-append at ks (place ∷ [])));
  small = all_push (λ j. IsSmall (at j)) ks place has.small (subst IsSmall same small);
}

pub totals_joined : (at : ℕ → Cell) (ks : List ℕ) (place : ℕ) (k : Kept) (t u : Totals) (x : Cell) → k.state ≡ states.Totals t → Keeps at ks k → u ≡ joined t x → x ≡ at place → IsSmall x → Keeps at (ks ++ place ∷ []) (record { kind = k.kind; state = states.Totals u })
totals_joined at ks place k t u x e h new same small =
    let has = totals_kept at ks k t e h in
    record { moved = h.moved; state = (has.0, has_joined at ks place t u x has.1 new same small) }

pub totals_left : (at : ℕ → Cell) (place : ℕ) (ks : List ℕ) (k : Kept) (t u : Totals) (x : Cell) → k.state ≡ states.Totals t → Keeps at (place ∷ ks) k → u ≡ left t x → x ≡ at place → Keeps at ks (record { kind = k.kind; state = states.Totals u })
totals_left at place ks k t u x e h new same =
    let has = totals_kept at (place ∷ ks) k t e h in
    record {
      moved = h.moved;
      state = (
        has.0,
        record {
          totals = new ∙ ap (left t) same ∙ ap (λ s. left s (at place)) has.1.totals ∙ left_is (at place) (map at ks);
          small = has.1.small.1;
        },
      );
    }

pub totals_value : (p : Settings) (cells : List Cell) (ks : List ℕ) (k : Kept) (t : Totals) → k.state ≡ states.Totals t → Keeps (cell_in cells) ks k → value_of p k.kind t ≡ group_value p k.kind (cells_at cells ks)
totals_value p cells ks k t e h =
    let has = totals_kept (cell_in cells) ks k t e h in
    value_is p k.kind t (cells_at cells ks) has.0 h.moved has.1.totals

-- ---- the best
pub best_kept : (at : ℕ → Cell) (ks : List ℕ) (k : Kept) (b : Best) → k.state ≡ states.Best b → Keeps at ks k → (is_best k.kind ≡ true) × HasBest k.kind at ks b
best_kept at ks k b e h = subst (IsKept k.kind at ks) e h.state

pub best_within : (cells : List Cell) (ks : List ℕ) (k : Kept) (b : Best) → k.state ≡ states.Best b → Keeps (cell_in cells) ks k → AreIn cells ks → AreIn cells b.places.items
best_within cells ks k b e h within =
    let has = best_kept (cell_in cells) ks k b e h in
    subst (AreIn cells) (sym has.1.places)
    (All-from_recursion (λ j. j < length cells) (best_places (le_of k.kind) (cell_in cells) ks)
    (best_all (λ j. j < length cells) (le_of k.kind) (cell_in cells) ks (recursion_from_All (λ j. j < length cells) ks within)))

pub best_joined : (at : ℕ → Cell) (ks : List ℕ) (place : ℕ) (k : Kept) (b d : Best) → k.state ≡ states.Best b → Keeps at ks k → d.kind ≡ b.kind → d.places.items ≡ with_place (le_of b.kind) at b.places.items place → Keeps at (ks ++ place ∷ []) (record { kind = k.kind; state = states.Best d })
best_joined at ks place k b d e h kind new =
    let has = best_kept at ks k b e h in
    record {
      moved = h.moved;
      state = (
        has.0,
        record {
          kind_is = kind ∙ has.1.kind_is;
          places =
              new ∙ ap (λ o. with_place (le_of o) at b.places.items place) has.1.kind_is ∙ ap (λ l. with_place (le_of k.kind) at l place) has.1.places
              ∙ with_place_is (order_of k.kind) at ks place;
        },
      );
    }

pub best_left : (at : ℕ → Cell) (place : ℕ) (ks : List ℕ) (k : Kept) (b d : Best) → k.state ≡ states.Best b → Keeps at (place ∷ ks) k → AreAbove place ks → d.kind ≡ b.kind → d.places.items ≡ without_place place b.places.items → Keeps at ks (record { kind = k.kind; state = states.Best d })
best_left at place ks k b d e h above kind new =
    let has = best_kept at (place ∷ ks) k b e h in
    record {
      moved = h.moved;
      state = (
        has.0,
        record {
          kind_is = kind ∙ has.1.kind_is;
          places = new ∙ ap (without_place place) has.1.places ∙ without_front (le_of k.kind) at place ks above;
        },
      );
    }

best_is : (p : Settings) (kind : AggKind) (cells : List Cell) (ks : List ℕ) (x : Cell) → is_best kind ≡ true → x ≡ cell_or c.Null cells (first_of (best_places (le_of kind) (cell_in cells) ks)) → Ok x ≡ group_value p kind (cells_at cells ks)
best_is p kinds.Min cells ks x e same =
    ap Ok (same ∙ cell_is cells (best_places (le_of kinds.Min) (cell_in cells) ks) ∙ best_first (order_of kinds.Min) (cell_in cells) ks)
    ∙ least_value p (values_of (cells_at cells ks)) (cells_at cells ks) refl
best_is p kinds.Max cells ks x e same =
    ap Ok (same ∙ cell_is cells (best_places (le_of kinds.Max) (cell_in cells) ks) ∙ best_first (order_of kinds.Max) (cell_in cells) ks)
    ∙ greatest_value p (values_of (cells_at cells ks)) (cells_at cells ks) refl
best_is p other cells ks x e same = absurd (true≢false (sym e))

pub best_value : (p : Settings) (cells : List Cell) (ks : List ℕ) (k : Kept) (b : Best) (x : Cell) → k.state ≡ states.Best b → Keeps (cell_in cells) ks k → x ≡ cell_or c.Null cells (first_of b.places.items) → Ok x ≡ group_value p k.kind (cells_at cells ks)
best_value p cells ks k b x e h same =
    let has = best_kept (cell_in cells) ks k b e h in
    best_is p k.kind cells ks x has.0 (same ∙ ap (λ l. cell_or c.Null cells (first_of l)) has.1.places)
