use Rattle.std.proofs.Common.{sym, ap, ◌∙◌}
use Rattle.vtl_frames.specs.Framed as places
use Rattle.sql_meaning.specs.Windows.{framed}
use Rattle.sql_window.specs.Frames.{bound_in}
use Rattle.sql_window.proofs.FrameLemmas.{whole_frame, written_frame}
use Rattle.sql_window.proofs.frames.frame_of.Goals as goal

pub returns-in-Some : goal.returns-in-Some
returns-in-Some c = λ i xs.
    let p = c.args.p.now in
    ap (λ b. places.framed (record { first = b; last = c.bound_of-in-Some.result }) i xs) c.bound_of.ensures
    ∙ ap (λ b. places.framed (record { first = bound_in p c.in-Some.frame.first; last = b }) i xs) c.bound_of-in-Some.ensures
    ∙ written_frame p c.in-Some.frame i xs ∙ ap (λ f. framed p f i xs) (sym c.in-Some.is)

pub returns-in-None : goal.returns-in-None
returns-in-None c = λ i xs. whole_frame c.args.p.now i xs ∙ ap (λ f. framed c.args.p.now f i xs) (sym c.in-None.is)
