-- Each state gives the next, and points are filled cell by cell.
use Rattle.std.proofs.Common.{◌≡◌, ◌<◌, ◌^◌, ◌∙◌, ◌∷◌, ◌++◌, [], ℕ, suc, pos, w64, ap, ap₂, sym}
use mir.Val.{to_z}
use Rattle.std.proofs.lemmas.Int.{to_z_pos}
use Rattle.vtl_cell.specs.Row.{Row}
use Rattle.vtl_cell.specs.declared.cell.Cell.{Cell}
use Rattle.vtl_cell.specs.declared.cell.Cell.TheVariants as c
use Rattle.vtl_demo.specs.Draws.{next_state, state}

pub next : (j k : ℕ) → k ≡ suc j → next_state (state j) ≡ state k
next j k e = sym (ap state e)

-- a small number is itself as an integer of 64 bits
pub small-cell : (n : ℕ) → n < 2 ^ 63 → c.Int (to_z w64 n) ≡ c.Int (pos n)
small-cell n small = ap c.Int (to_z_pos w64 n small)

pub two-cells : (start first second : Row) (x y u v : Cell) → start ≡ [] → first ≡ start ++ x ∷ [] → second ≡ first ++ y ∷ [] → x ≡ u → y ≡ v → second ≡ u ∷ v ∷ []
two-cells start first second x y u v none a b p q = b ∙ ap (λ l. l ++ y ∷ []) (a ∙ ap (λ l. l ++ x ∷ []) none) ∙ ap₂ (λ s t. s ∷ t ∷ []) p q

pub third-cell : (second third : Row) (u v z w : Cell) → second ≡ u ∷ v ∷ [] → third ≡ second ++ z ∷ [] → z ≡ w → third ≡ u ∷ v ∷ w ∷ []
third-cell second third u v z w before a p = a ∙ ap₂ (λ l s. l ++ s ∷ []) before p
