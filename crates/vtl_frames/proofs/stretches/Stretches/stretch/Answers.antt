use Rattle.std.proofs.Common.{◌≡◌, ◌<◌, ◌+◌, ◌-◌, [], length, get_or, take, drop, sym, ap, ◌∙◌, arith}
use Rattle.vtl_frames.specs.Stretches.{start_at}
use Rattle.vtl_frames.proofs.RunLemmas.{cut_many, cut_place}
use Rattle.vtl_frames.proofs.stretches.Stretches.stretch.Goals as goal

pub overflow_add-i : goal.overflow_add-i
overflow_add-i c =
    let s = c.self.inside in
    let many : length s.starts.items ≡ length c.args.self.now = sym (cut_many s.numbers.now s.starts.items) ∙ ap length c.self.view_is in
    let room = ap length c.deref.ensures.value in
    omega (arith, c.requires, many, room, c.deref.type_inv.0)

pub returns : goal.returns
returns c =
    let s = c.self.inside in
    let numbers = s.numbers.now in
    let i = c.args.i in
    let many : length s.starts.items ≡ length c.args.self.now = sym (cut_many numbers s.starts.items) ∙ ap length c.self.view_is in
    let inside : i < length s.starts.items = omega (arith, c.requires, many) in
    let first : c.start_at-start.result ≡ start_at s.starts.items (length numbers) i = c.start_at-start.ensures ∙ ap (λ l. start_at l (length numbers) i) c.deref.ensures.value in
    let next : c.start_at-end.result ≡ start_at s.starts.items (length numbers) (i + 1) = c.start_at-end.ensures ∙ ap (λ l. start_at l (length numbers) (i + 1)) c.deref-2.ensures.value in
    ap (λ a. take (c.start_at-end.result - a) (drop a numbers)) first ∙ ap (λ b. take (b - start_at s.starts.items (length numbers) i) (drop (start_at s.starts.items (length numbers) i) numbers)) next
    ∙ sym (cut_place numbers s.starts.items i inside) ∙ ap (λ l. get_or l i []) c.self.view_is
