use Rattle.std.proofs.Common.{arith, refl, sym, subst, ◌≡◌, ◌∙◌, Bool, true, false, ℕ}
use Rattle.std.proofs.lemmas.List.{take_rest}
use Rattle.vtl_files.specs.Outside.{append_last, CountsMisuse}
use Rattle.vtl_files.specs.Whole.{AddsUpTo}
use Rattle.vtl_files.proofs.Adding.{append_last_adds, nothing_yet, one_more}
use Rattle.vtl_files.proofs.whole.write_all.Goals as goal

rightly_used : (creating : Bool) (before now : ℕ) → CountsMisuse true creating before now → creating ≡ true → now ≡ before
rightly_used true before now counted is_true = counted
rightly_used false before now counted is_true = cc

pub loop-rest-init : goal.loop-rest-init
loop-rest-init g c = record {
  held = refl;
  creating = refl;
  place = refl;
  mark = refl;
  opened = refl;
  left = refl;
  absences = refl;
  misuses = omega arith;
  used = λ _. refl;
  faults = omega arith;
  written = nothing_yet append_last append_last_adds (g.F.Files.written c.args.f.now) c.args.bytes.now;
}

pub returns-then-count-eq0-clause-front : goal.returns-then-count-eq0-clause-front
returns-then-count-eq0-clause-front g c =
    (_, one_more append_last append_last_adds (g.F.Files.written c.args.f.now) _ (g.F.Files.written c.write.new.self) c.args.bytes.now c.loop-rest.rest.now c.in_ok-count.count c.loop-rest.invariant.written c.in_ok-count.ensures.written)

pub loop-rest-preserved : goal.loop-rest-preserved
loop-rest-preserved g c =
    let w = c.in_ok-count.ensures in
    let i = c.loop-rest.invariant in
    let more = one_more append_last append_last_adds (g.F.Files.written c.args.f.now) _ (g.F.Files.written c.write.new.self) c.args.bytes.now c.loop-rest.rest.now c.in_ok-count.count i.written w.written in
    record {
      held = w.held ∙ i.held;
      creating = w.creating ∙ i.creating;
      place = w.place ∙ i.place;
      mark = w.mark ∙ i.mark;
      opened = w.opened ∙ i.opened;
      left = w.left ∙ i.left;
      absences = w.absences ∙ i.absences;
      misuses = omega (arith, w.misuses, i.misuses);
      used = λ h. rightly_used _ _ _ w.misused (i.creating ∙ h) ∙ i.used h;
      faults = omega (arith, w.faults, i.faults);
      written = subst (λ l. AddsUpTo append_last (g.F.Files.written c.args.f.now) (g.F.Files.written c.write.new.self) c.args.bytes.now l) (sym (take_rest c.loop-rest.rest.now c.in_ok-count.count)) more;
    }
