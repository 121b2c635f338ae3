use Rattle.std.proofs.Common.{◌≡◌, ◌<◌, Some, None, get_or, set, length, refl, sym, ap, ◌∙◌, subst, length-set, get_or-set_other}
use Rattle.vtl_pages.specs.Places.{IsFilled}
use Rattle.vtl_pages.specs.Stored.{Stored, block_size, spot, stored}
use Rattle.vtl_pages.proofs.Moved.{emptied_at, exchanged, other_filled}
use Rattle.vtl_pages.proofs.Rows.{filled_below}
use Rattle.vtl_pages.proofs.store.Store.swap.Goals as goal

pub take-other-requires-clause-in_block : goal.take-other-requires-clause-in_block
take-other-requires-clause-in_block g c = subst (λ (t : Stored _). c.args.b.1 < block_size t.first t.step c.args.b.0) (sym c.take-one.ensures.places) c.requires.b_in_block

pub take-other-requires-clause-filled : goal.take-other-requires-clause-filled
take-other-requires-clause-filled g c =
    let s = c.args.self.now in let cs = s.places in let a = spot s.first s.step c.args.a.0 c.args.a.1 in let b = spot s.first s.step c.args.b.0 c.args.b.1 in
    subst (λ (t : Stored _). IsFilled t.places (spot t.first t.step c.args.b.0 c.args.b.1)) (sym c.take-one.ensures.places) (other_filled cs (set cs a None) a b c.requires.apart refl c.requires.b_filled)

pub put-requires-clause-in_block : goal.put-requires-clause-in_block
put-requires-clause-in_block g c =
    let s = c.args.self.now in let cs = s.places in let a = spot s.first s.step c.args.a.0 c.args.a.1 in let b = spot s.first s.step c.args.b.0 c.args.b.1 in
    let second : c.take-other.new.self ≡ stored (set (set cs a None) b None) s.first s.step =
    c.take-other.ensures.places ∙ ap (λ (t : Stored _). stored (set t.places (spot t.first t.step c.args.b.0 c.args.b.1) None) t.first t.step) c.take-one.ensures.places in
    subst (λ (t : Stored _). c.args.a.1 < block_size t.first t.step c.args.a.0) (sym second) c.requires.a_in_block

pub put-requires-clause-there : goal.put-requires-clause-there
put-requires-clause-there g c =
    let s = c.args.self.now in let cs = s.places in let a = spot s.first s.step c.args.a.0 c.args.a.1 in let b = spot s.first s.step c.args.b.0 c.args.b.1 in
    let second : c.take-other.new.self ≡ stored (set (set cs a None) b None) s.first s.step =
    c.take-other.ensures.places ∙ ap (λ (t : Stored _). stored (set t.places (spot t.first t.step c.args.b.0 c.args.b.1) None) t.first t.step) c.take-one.ensures.places in
    let x = c.requires.a_filled in
    subst (λ (t : Stored _). spot t.first t.step c.args.a.0 c.args.a.1 < length t.places) (sym second) (subst (λ n. a < n) (sym (length-set (set cs a None) b None ∙ length-set cs a None)) (filled_below cs a x.0 x.1))

pub put-requires-clause-empty : goal.put-requires-clause-empty
put-requires-clause-empty g c =
    let s = c.args.self.now in let cs = s.places in let a = spot s.first s.step c.args.a.0 c.args.a.1 in let b = spot s.first s.step c.args.b.0 c.args.b.1 in
    let second : c.take-other.new.self ≡ stored (set (set cs a None) b None) s.first s.step =
    c.take-other.ensures.places ∙ ap (λ (t : Stored _). stored (set t.places (spot t.first t.step c.args.b.0 c.args.b.1) None) t.first t.step) c.take-one.ensures.places in
    ap (λ (t : Stored _). get_or t.places (spot t.first t.step c.args.a.0 c.args.a.1) None) second ∙ get_or-set_other (set cs a None) b a None None c.requires.apart ∙ emptied_at cs a

pub put-requires-2-clause-in_block : goal.put-2-requires-clause-in_block
put-requires-2-clause-in_block g c =
    let s = c.args.self.now in let cs = s.places in let a = spot s.first s.step c.args.a.0 c.args.a.1 in let b = spot s.first s.step c.args.b.0 c.args.b.1 in
    let second : c.take-other.new.self ≡ stored (set (set cs a None) b None) s.first s.step =
    c.take-other.ensures.places ∙ ap (λ (t : Stored _). stored (set t.places (spot t.first t.step c.args.b.0 c.args.b.1) None) t.first t.step) c.take-one.ensures.places in
    let y = c.take-other.result in
    let third : c.put.new.self ≡ stored (set (set (set cs a None) b None) a (Some y)) s.first s.step =
    c.put.ensures ∙ ap (λ (t : Stored _). stored (set t.places (spot t.first t.step c.args.a.0 c.args.a.1) (Some y)) t.first t.step) second in
    subst (λ (t : Stored _). c.args.b.1 < block_size t.first t.step c.args.b.0) (sym third) c.requires.b_in_block

pub put-requires-2-clause-there : goal.put-2-requires-clause-there
put-requires-2-clause-there g c =
    let s = c.args.self.now in let cs = s.places in let a = spot s.first s.step c.args.a.0 c.args.a.1 in let b = spot s.first s.step c.args.b.0 c.args.b.1 in
    let second : c.take-other.new.self ≡ stored (set (set cs a None) b None) s.first s.step =
    c.take-other.ensures.places ∙ ap (λ (t : Stored _). stored (set t.places (spot t.first t.step c.args.b.0 c.args.b.1) None) t.first t.step) c.take-one.ensures.places in
    let y = c.take-other.result in
    let third : c.put.new.self ≡ stored (set (set (set cs a None) b None) a (Some y)) s.first s.step =
    c.put.ensures ∙ ap (λ (t : Stored _). stored (set t.places (spot t.first t.step c.args.a.0 c.args.a.1) (Some y)) t.first t.step) second in
    let x = c.requires.b_filled in
    subst (λ (t : Stored _). spot t.first t.step c.args.b.0 c.args.b.1 < length t.places) (sym third)
    (subst (λ n. b < n) (sym (length-set (set (set cs a None) b None) a (Some y) ∙ length-set (set cs a None) b None ∙ length-set cs a None)) (filled_below cs b x.0 x.1))

pub put-requires-2-clause-empty : goal.put-2-requires-clause-empty
put-requires-2-clause-empty g c =
    let s = c.args.self.now in let cs = s.places in let a = spot s.first s.step c.args.a.0 c.args.a.1 in let b = spot s.first s.step c.args.b.0 c.args.b.1 in
    let second : c.take-other.new.self ≡ stored (set (set cs a None) b None) s.first s.step =
    c.take-other.ensures.places ∙ ap (λ (t : Stored _). stored (set t.places (spot t.first t.step c.args.b.0 c.args.b.1) None) t.first t.step) c.take-one.ensures.places in
    let y = c.take-other.result in
    let third : c.put.new.self ≡ stored (set (set (set cs a None) b None) a (Some y)) s.first s.step =
    c.put.ensures ∙ ap (λ (t : Stored _). stored (set t.places (spot t.first t.step c.args.a.0 c.args.a.1) (Some y)) t.first t.step) second in
    ap (λ (t : Stored _). get_or t.places (spot t.first t.step c.args.b.0 c.args.b.1) None) third ∙ get_or-set_other (set (set cs a None) b None) a b (Some y) None (λ e. c.requires.apart (sym e)) ∙ emptied_at (set cs a None) b

pub returns : goal.returns
returns g c =
    let s = c.args.self.now in let cs = s.places in let a = spot s.first s.step c.args.a.0 c.args.a.1 in let b = spot s.first s.step c.args.b.0 c.args.b.1 in
    let second : c.take-other.new.self ≡ stored (set (set cs a None) b None) s.first s.step =
    c.take-other.ensures.places ∙ ap (λ (t : Stored _). stored (set t.places (spot t.first t.step c.args.b.0 c.args.b.1) None) t.first t.step) c.take-one.ensures.places in
    let y = c.take-other.result in
    let third : c.put.new.self ≡ stored (set (set (set cs a None) b None) a (Some y)) s.first s.step =
    c.put.ensures ∙ ap (λ (t : Stored _). stored (set t.places (spot t.first t.step c.args.a.0 c.args.a.1) (Some y)) t.first t.step) second in
    let x = c.take-one.result in
    let other : get_or (set cs a None) b None ≡ Some y = ap (λ (t : Stored _). get_or t.places (spot t.first t.step c.args.b.0 c.args.b.1) None) (sym c.take-one.ensures.places) ∙ c.take-other.ensures.value in
    c.put-2.ensures ∙ ap (λ (t : Stored _). stored (set t.places (spot t.first t.step c.args.b.0 c.args.b.1) (Some x)) t.first t.step) third
    ∙ ap (λ l. stored l s.first s.step) (exchanged cs a b x y c.requires.apart c.take-one.ensures.value other)
