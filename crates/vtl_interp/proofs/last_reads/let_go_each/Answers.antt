use Rattle.std.proofs.Common.{◌∙◌, ◌+◌, ◌++◌, ◌∷◌, [], take, ap, subst, sym}
use Rattle.std.specs.List.{AllByRecursion}
use Rattle.std.proofs.lemmas.List.{take_more}
use Rattle.vtl_lists.proofs.Alls.{all_append, all_more}
use Rattle.vtl_text.specs.declared.shared_text.Txt.{Txt}
use Rattle.vtl_interp.specs.Reads.{IsGone}
use Rattle.vtl_interp.proofs.last_reads.let_go_each.Goals as goal

pub loop-name-preserved : goal.loop-name-preserved
loop-name-preserved c =
    let is_gone = IsGone (c.args.i + 1) c.args.last.now.entries in
    let before = c.loop-name.known.entries in
    let now = c.let_go_of.new.known.entries in
    let k = c.loop-name.name-index in
    let names = c.args.names.now in
    let name = c.name-item.result in
    record {
      kept = λ other r. c.let_go_of.ensures.kept other r ∙ c.loop-name.invariant.kept other r;
      gone = subst (AllByRecursion (is_gone now)) (sym (take_more names k name c.loop-name-test.true ∙ ap (λ (x : Txt). take k names ++ x ∷ []) (sym c.name-item.is)))
          (all_append (is_gone now) (take k names) (name ∷ []) (all_more (is_gone before) (is_gone now) (λ other h unread. c.let_go_of.ensures.no_more other (h unread)) (take k names) c.loop-name.invariant.gone) (c.let_go_of.ensures.gone, tt));
      no_more = λ other none. c.let_go_of.ensures.no_more other (c.loop-name.invariant.no_more other none);
    }
