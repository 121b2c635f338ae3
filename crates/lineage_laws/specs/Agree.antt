-- Data sets that agree in what is known: rows in the same order, alike in each column of which all sources are known.
use Rattle.std.specs.List.{list_all}
use Rattle.std.specs.Prelude.{◌≡◌, ℕ, Bool, true, List, [], ◌∷◌, Option, None, Some}
use Rattle.vtl_cell.specs.Row.{Row}
use Rattle.vtl_cell.specs.declared.cell.Cell.{Cell}
use Rattle.vtl_scripts.specs.Meaning.{Outputs}
use Rattle.vtl_sources.specs.Links.{Pair, Pairs}
use Rattle.lineage_laws.specs.Over.{Operand, columns_from}

-- two lists of the same length whose items are related, each with the one at its place
pub data Together {X Y : Type 0} (R : X → Y → Type 0) : List X → List Y → Type 0 where
  none : Together R [] []
  and : {x : X} {y : Y} {xs : List X} {ys : List Y} → R x y → Together R xs ys → Together R (x ∷ xs) (y ∷ ys)

-- both missing, or both there and related
pub data Both {X Y : Type 0} (R : X → Y → Type 0) : Option X → Option Y → Type 0 where
  neither : Both R None None
  both : {x : X} {y : Y} → R x y → Both R (Some x) (Some y)

-- which pairs are known
abbrev pub Known : Type 0
Known = Pair → Bool

abbrev pub IsKnown : Known → Pairs → Type 0
IsKnown known ps = list_all known ps ≡ true

-- a cell for each column in both rows, the same one where all that the column depends on is known
pub data Agree (known : Known) : List Pairs → Row → Row → Type 0 where
  no_cells : Agree known [] [] []
  cell : {ps : Pairs} {pss : List Pairs} {v w : Cell} {r q : Row} → (IsKnown known ps → v ≡ w) → Agree known pss r q → Agree known (ps ∷ pss) (v ∷ r) (w ∷ q)

abbrev pub Agreeing : Known → List Pairs → List Row → List Row → Type 0
Agreeing known cols d e = Together (Agree known cols) d e

-- outputs of both runs under the names and of the structures of their lineage; where what the points depend on is known, they agree
abbrev pub OutputsAgree : Known → List (List ℕ × Operand) → Outputs → Outputs → Type 0
OutputsAgree known [] [] [] = Unit {0}
OutputsAgree known (l ∷ ls) (d ∷ ds) (e ∷ es) =
    (d.0 ≡ l.0) × (e.0 ≡ l.0) × (d.1.structure ≡ l.1.structure) × (e.1.structure ≡ l.1.structure)
    × (IsKnown known l.1.sources.points → Agreeing known (columns_from l.1.structure l.1.sources) d.1.points e.1.points) × OutputsAgree known ls ds es
OutputsAgree known ls ds es = ⊥
