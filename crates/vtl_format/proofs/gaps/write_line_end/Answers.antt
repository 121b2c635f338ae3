use Rattle.std.proofs.Common.{◌≡◌, ◌+◌, ◌*◌, ◌∷◌, ◌++◌, ◌∙◌, [], ℕ, List, ap, append_assoc, arith, replicate, string_bytes}
use lib.ListN.{replicate-append-replicate}
use Rattle.vtl_format.proofs.gaps.write_line_end.Goals as goal

pub loop-preserved : goal.loop-preserved
loop-preserved c =
    let old = string_bytes c.args.out.now in
    let counter = c.loop.counter in
    let two : List ℕ = 32 ∷ 32 ∷ [] in
    let more : 2 * counter + 2 ≡ 2 * (counter + 1) = omega arith in
    c.in_ok-push_str-2.ensures.bytes ∙ ap (λ l. l ++ two) c.loop.invariant ∙ append_assoc old (10 ∷ replicate (2 * counter) 32) two
    ∙ ap (λ l. old ++ 10 ∷ l) (replicate-append-replicate (2 * counter) 2 32 ∙ ap (λ n. replicate n 32) more)
