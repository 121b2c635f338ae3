use Rattle.std.proofs.Common.{inl, ◌≡◌, ◌∙◌, ◌++◌, ℕ, List, [], ◌∷◌, Some, cond, take, ap, subst, sym, arith}
use Rattle.std.specs.List.{AllByRecursion}
use Rattle.std.specs.Map.{lookup}
use Rattle.std.proofs.lemmas.List.{take_more}
use Rattle.vtl_lists.proofs.Alls.{all_append, all_more}
use Rattle.vtl_text.specs.declared.shared_text.Txt.{Txt}
use Rattle.vtl_tree.specs.Structure.{same_name}
use Rattle.vtl_interp.specs.Reads.{IsReadFrom, NotedAs}
use Rattle.vtl_interp.proofs.PlacesRead.{noted_more, now_read, still_read}
use Rattle.vtl_interp.proofs.last_reads.note_reads.Goals as goal

pub loop-name-preserved : goal.loop-name-preserved
loop-name-preserved c =
    let last = c.loop-name.last.entries in
    let now = c.insert.new.self.entries in
    let i = c.args.i in
    let k = c.loop-name.name-index in
    let names = c.as_slice-name-items.result.now in
    let name = c.name-item.result in
    let noted : (q : List ℕ) → lookup (same_name q) now ≡ cond (same_name name q) (Some i) (lookup (same_name q) last) =
    λ q. c.in_ok-insert.ensures.updates.0 q ∙ ap (λ (n : List ℕ). cond (same_name n q) (Some i) (lookup (same_name q) last)) c.in_ok-share.ensures in
    record {
      new = subst (AllByRecursion (IsReadFrom i now)) (sym (take_more names k name c.loop-name-test.true ∙ ap (λ (x : Txt). take k names ++ x ∷ []) (sym c.name-item.is)))
          (all_append (IsReadFrom i now) (take k names) (name ∷ []) (all_more (IsReadFrom i last) (IsReadFrom i now) (λ other h. still_read last now name i noted i other (omega arith) h) (take k names) c.loop-name.invariant.new) (now_read last now name i noted, tt));
      old = λ j other h r. still_read last now name i noted j other h (c.loop-name.invariant.old j other h r);
      only = subst (λ (read : List (List ℕ)). NotedAs c.args.last.now.entries i read now) (sym (take_more names k name c.loop-name-test.true ∙ ap (λ (x : Txt). take k names ++ x ∷ []) (sym c.name-item.is)))
          (noted_more last now name i noted c.args.last.now.entries (take k names) c.loop-name.invariant.only);
    }

pub loop-name-init : goal.loop-name-init
loop-name-init c = record { new = tt; old = λ j other h r. r; only = λ other place h. inl h }
