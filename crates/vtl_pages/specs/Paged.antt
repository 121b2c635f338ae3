-- What a contract sees of pages.
use Rattle.std.specs.Prelude.{ℕ, List, refl}
use Rattle.std.specs.Coded.{Coded, code_by, coded×, coded_list, coded_ℕ}

-- the items, for how many more there is room, and how many items a run has
pub record Paged (X : Type 0) : Type 0 where
  pub items : List X
  pub spare : ℕ
  pub width : ℕ

module _ {X : Type 0} where
  abbrev pub paged : List X → ℕ → ℕ → Paged X
  paged xs spare width = record { items = xs; spare = spare; width = width }

  abbrev pub paged_code : Coded X → Coded (Paged X)
  paged_code c = code_by (List X × (ℕ × ℕ)) (coded× (coded_list c) (coded× coded_ℕ coded_ℕ)) (λ p. (p.items, (p.spare, p.width))) (λ t. paged t.0 t.1.0 t.1.1) (λ _. refl)
