-- A `&` to cells shows the value in each place.
use mathlib.Core.List.{[], ◌++◌}
use base.Fml.{Incl-trans}
use contract.BorrowLft.{meet_⊑_left}
use denote.Param.Laws.{Laws}
use denote.Param.Shared.{copy_shared}
use denote.RattleType.{RattleType}
use denote.RawPtr.{RawPtr}
use denote.Struct.Laws.{field_copy}
use denote.Struct.Lending.{of_Lends}
use Rattle.core.specs.contracts.marker.PhantomData as phantom
use Rattle.vtl_pages.specs.contracts.cells.Cells as cells
use Rattle.vtl_pages.proofs.Lending.{lent_laws, cells_lend}
use Rattle.vtl_pages.proofs.cells.Cells.TheLaw.Statement.{statement}

pub shares : (R : RattleType) (laws : Laws R) → statement R laws
shares R laws =
    let codes = cells.the_codes R.Denot R.coded (phantom.the_row RawPtr).coded in
    let lives = Incl-trans (meet_⊑_left (R.lives ++ []) _) (meet_⊑_left R.lives []) in
    of_Lends (cells.struct R) codes (cells.the_heap R) (cells.the_lent R) (λ d p. lent_laws R laws.shr_laws d.address d.places)
    (copy_shared (phantom.the_field RawPtr) (field_copy (phantom.the_type RawPtr) tt), tt)
    (λ M 𝓤 𝓛 d p. cells_lend 𝓛 (cells.the_row R).lives R laws lives d.address d.places)
