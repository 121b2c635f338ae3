use Rattle.std.proofs.Common.{◌≡◌, ◌+◌, ◌-◌, ◌<◌, ◌≤◌, suc, length, get_or, set, refl, sym, ap, ◌∙◌, subst, arith, length-set, Some, None}
use Rattle.vtl_pages.specs.Places.{values, IsFilled}
use Rattle.vtl_pages.specs.Stored.{Stored, block_size, spot}
use Rattle.vtl_pages.proofs.Emptied.{all_empty}
use Rattle.vtl_pages.proofs.Lays.{free_there}
use Rattle.vtl_pages.proofs.Moved.{all_left, more_empty, same_stored, shorter, still_kept, value_is, value_there}
use Rattle.vtl_pages.proofs.Puts.{next_free, next_there, put_next}
use Rattle.vtl_pages.proofs.Spots.{first_seen, places_seen, step_seen}
use Rattle.vtl_pages.proofs.store.Store.move_all.Goals as goal

pub loop-left-init : goal.loop-left-init
loop-left-init g c =
    let o = c.args.other.now in let laid = c.requires.laid in record {
      put = all_left c.args.self.now.places o.places c.args.at c.args.n (length o.places) laid;
      first = refl;
      step = refl;
      within = omega arith;
      to = c.find-to.ensures.spot;
      to_in = let low = c.find-to.ensures.in_block in omega arith;
      from = c.find-from.ensures.spot;
      from_in = let low = c.find-from.ensures.in_block in omega arith;
      other_first = refl;
      other_step = refl;
      long = refl;
      kept = λ i lt. refl;
      emptied = free_there o.places c.args.n (length o.places) laid;
    }

pub take-value-requires-clause-filled : goal.take-value-requires-clause-filled
take-value-requires-clause-filled g c =
    let o = c.args.other.now in let l = c.loop-left in let inv = l.invariant in let some = c.loop-left-test.true in let next : l.left ≡ suc (l.left - 1) = omega arith in
    let f = c.before-from.result in let at_from : spot l.other.first l.other.step f.0 f.1 ≡ l.left - 1 = omega (arith, inv.from, c.before-from.ensures.spot) in
    subst (IsFilled l.other.places) (sym at_from) (value_there o.places l.other.places c.args.n (length o.places) l.left (l.left - 1) c.requires.laid inv.within next inv.kept)

pub put-requires-clause-there : goal.put-requires-clause-there
put-requires-clause-there g c =
    let o = c.args.other.now in let l = c.loop-left in let inv = l.invariant in let some = c.loop-left-test.true in let next : l.left ≡ suc (l.left - 1) = omega arith in
    let f = c.before-from.result in let at_from : spot l.other.first l.other.step f.0 f.1 ≡ l.left - 1 = omega (arith, inv.from, c.before-from.ensures.spot) in
    let t = c.before-to.result in let at_to : spot l.self.first l.self.step t.0 t.1 ≡ c.args.at + (l.left - 1) = omega (arith, inv.to, c.before-to.ensures.spot) in
    let v = c.take-value.result in let stood = ap (λ i. get_or l.other.places i None) (sym at_from) ∙ c.take-value.ensures.value in
    let e = value_is o.places l.other.places c.args.n (length o.places) l.left (l.left - 1) c.requires.laid inv.within next inv.kept v stood in
    let k = shorter o.places l.other.places c.args.n (length o.places) l.left (l.left - 1) c.requires.laid inv.within next inv.kept in
    let there = c.requires.there in let count = c.requires.laid.count in
    subst (λ i. i < length l.self.places) (sym at_to) (next_there c.args.self.now.places l.self.places c.args.at (l.left - 1) (values o.places) _ _ v inv.put e k (omega arith))

pub put-requires-clause-empty : goal.put-requires-clause-empty
put-requires-clause-empty g c =
    let o = c.args.other.now in let l = c.loop-left in let inv = l.invariant in let some = c.loop-left-test.true in let next : l.left ≡ suc (l.left - 1) = omega arith in
    let f = c.before-from.result in let at_from : spot l.other.first l.other.step f.0 f.1 ≡ l.left - 1 = omega (arith, inv.from, c.before-from.ensures.spot) in
    let t = c.before-to.result in let at_to : spot l.self.first l.self.step t.0 t.1 ≡ c.args.at + (l.left - 1) = omega (arith, inv.to, c.before-to.ensures.spot) in
    let v = c.take-value.result in let stood = ap (λ i. get_or l.other.places i None) (sym at_from) ∙ c.take-value.ensures.value in
    let e = value_is o.places l.other.places c.args.n (length o.places) l.left (l.left - 1) c.requires.laid inv.within next inv.kept v stood in
    let k = shorter o.places l.other.places c.args.n (length o.places) l.left (l.left - 1) c.requires.laid inv.within next inv.kept in
    let count = c.requires.laid.count in
    ap (λ i. get_or l.self.places i None) at_to ∙ next_free c.args.self.now.places l.self.places c.args.at (l.left - 1) (values o.places) _ _ v inv.put e k (λ j from below. c.requires.free j from (omega arith))

pub loop-left-preserved : goal.loop-left-preserved
loop-left-preserved g c =
    let o = c.args.other.now in let l = c.loop-left in let inv = l.invariant in let some = c.loop-left-test.true in let next : l.left ≡ suc (l.left - 1) = omega arith in
    let f = c.before-from.result in let at_from : spot l.other.first l.other.step f.0 f.1 ≡ l.left - 1 = omega (arith, inv.from, c.before-from.ensures.spot) in
    let t = c.before-to.result in let at_to : spot l.self.first l.self.step t.0 t.1 ≡ c.args.at + (l.left - 1) = omega (arith, inv.to, c.before-to.ensures.spot) in
    let v = c.take-value.result in let stood = ap (λ i. get_or l.other.places i None) (sym at_from) ∙ c.take-value.ensures.value in
    let e = value_is o.places l.other.places c.args.n (length o.places) l.left (l.left - 1) c.requires.laid inv.within next inv.kept v stood in
    let k = shorter o.places l.other.places c.args.n (length o.places) l.left (l.left - 1) c.requires.laid inv.within next inv.kept in
    let took = c.take-value.ensures.places in let put = c.put.ensures in let within = inv.within in
    let taken = places_seen took ∙ ap (λ i. set l.other.places i None) at_from in
    let f_in = c.before-from.ensures.in_block in let t_in = c.before-to.ensures.in_block in record {
      put = put_next c.args.self.now.places l.self.places c.put.new.self.places c.args.at (l.left - 1) (values o.places) _ _ v inv.put e k (places_seen put ∙ ap (λ i. set l.self.places i (Some v)) at_to);
      first = first_seen put ∙ inv.first;
      step = step_seen put ∙ inv.step;
      within = omega arith;
      to = (λ i. spot (first_seen put i) (step_seen put i) t.0 t.1) ∙ at_to;
      to_in = subst (λ (s : Stored _). t.1 ≤ block_size s.first s.step t.0) (sym put) (omega arith);
      from = (λ i. spot (first_seen took i) (step_seen took i) f.0 f.1) ∙ at_from;
      from_in = subst (λ (s : Stored _). f.1 ≤ block_size s.first s.step f.0) (sym took) (omega arith);
      other_first = first_seen took ∙ inv.other_first;
      other_step = step_seen took ∙ inv.other_step;
      long = ap length taken ∙ length-set l.other.places (l.left - 1) None ∙ inv.long;
      kept = still_kept o.places l.other.places c.args.n (length o.places) l.left (l.left - 1) c.requires.laid inv.within next inv.kept c.take-value.new.self.places taken;
      emptied = more_empty o.places l.other.places c.args.n (length o.places) l.left (l.left - 1) c.requires.laid inv.within next inv.kept c.take-value.new.self.places taken inv.emptied;
    }

pub returns-clause-other : goal.returns-clause-other
returns-clause-other g c =
    let o = c.args.other.now in let l = c.loop-left in let inv = l.invariant in let over = c.loop-left-test.false in
    same_stored (all_empty l.other.places (length o.places) inv.long (λ i. inv.emptied i (omega arith))) inv.other_first inv.other_step
