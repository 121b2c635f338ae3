use Rattle.std.proofs.Common.{◌≡◌, length, sym, ap, ◌∙◌, arith}
use Rattle.vtl_frames.proofs.RunLemmas.{cut_many}
use Rattle.vtl_frames.proofs.stretches.Stretches.len.Goals as goal

pub returns : goal.returns
returns c =
    let s = c.self.inside in
    let many : length s.starts.items ≡ length c.args.self.now = sym (cut_many s.numbers.now s.starts.items) ∙ ap length c.self.view_is in
    omega (arith, c.len.ensures, s.starts.ok, many)
