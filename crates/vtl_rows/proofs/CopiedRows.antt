-- Cells that are copied row by row.
use Rattle.std.proofs.Common.{◌≡◌, ℕ, suc, ◌+◌, ◌-◌, ◌*◌, ◌/◌, ◌%◌, ◌<◌, ◌≤◌, List, [], ◌++◌, length, take, drop, arith, refl, sym, ap, subst, ◌∙◌}
use Rattle.std.proofs.Math.Nat.{div-mul-le_self, le_refl, mod-eq-sub-div-mul, mul-mod_left}
use Rattle.std.proofs.Math.Seq.{take-add}
use Rattle.std.proofs.lemmas.List.{length-take-le, take_all, length-drop}
use Rattle.std.proofs.lemmas.Nat.{mul-le}
use Rattle.vtl_cell.specs.declared.cell.Cell.{Cell}
use Rattle.vtl_pages.specs.Paged.{Paged, paged}
use Rattle.vtl_rows.proofs.Flats.{row_ends}

-- the first i rows are copied, and there is room for the others
pub record IsCopied (cells : List Cell) (width count i : ℕ) (copy : Paged Cell) (row : List Cell) : Type 0 where
  pub copied : copy.items ≡ take (i * width) cells
  pub wide : copy.width ≡ width
  pub room : count * width ≤ copy.spare + i * width
  pub none : row ≡ []

module _ (cells : List Cell) (width count : ℕ) (whole : length cells % width ≡ 0) (count_is : count ≡ length cells / width) where
  all_rows : count * width ≡ length cells
  all_rows =
      let below = div-mul-le_self (length cells) width in
      let rest = mod-eq-sub-div-mul (length cells) width in
      let c : count * width ≡ length cells / width * width = ap (λ k. k * width) count_is in
      omega (arith, below, rest, whole, c)

  module _ (i : ℕ) (copy : Paged Cell) (row : List Cell) (sofar : IsCopied cells width count i copy row) where
    pub all_copied : count ≤ i → copy.items ≡ cells
    all_copied h = sofar.copied ∙ take_all (i * width) cells (let up = mul-le count width i width h (le_refl width) in let all = all_rows in omega (arith, up, all))

    module _ (h : i < count) where
      run_there : i * width + width ≤ length cells
      run_there = let e = row_ends width count i h in let all = all_rows in omega (arith, e, all)

      pub whole_before : length copy.items % copy.width ≡ 0
      whole_before =
          let t = run_there in
          let l : length copy.items ≡ i * width = ap length sofar.copied ∙ length-take-le (i * width) cells (omega (arith, t)) in
          ap (λ w. length copy.items % w) sofar.wide ∙ ap (λ k. k % width) l ∙ mul-mod_left i width

      room_ahead : copy.width ≤ copy.spare
      room_ahead = subst (λ w. w ≤ copy.spare) (sym sofar.wide) (let e = row_ends width count i h in let r = sofar.room in omega (arith, e, r))

      pub one_more_copied : (more run : List Cell) (after : Paged Cell) (left : List Cell) → run ≡ take width (drop (i * width) cells) → more ≡ row ++ run → after ≡ paged (copy.items ++ more) (copy.spare - copy.width) copy.width → left ≡ [] → IsCopied cells width count (i + 1) after left
      one_more_copied more run after left r e p none =
          let next : i * width + width ≡ (i + 1) * width = omega arith in
          let w = sofar.wide in
          let spare : after.spare ≡ copy.spare - copy.width = ap (λ x. x.spare) p in
          let ahead = room_ahead in
          let room = sofar.room in
          record {
            copied = ap (λ x. x.items) p ∙ ap (λ x. copy.items ++ x) (e ∙ ap (λ x. x ++ run) sofar.none ∙ r) ∙ ap (λ x. x ++ take width (drop (i * width) cells)) sofar.copied ∙ sym (take-add (i * width) width cells) ∙ ap (λ k. take k cells) next;
            wide = ap (λ x. x.width) p ∙ w;
            room = omega (arith, next, w, spare, ahead, room);
            none = none;
          }
