-- What is written, and then what comes of the rest, is what comes of the text.
use Rattle.std.proofs.Common.{◌≡◌, ◌++◌, chars, length}
use Rattle.std.specs.String.{string_bytes}
use denote.Text.{Utf8}
use denote.Shadow.{shadow}
use Rattle.vtl_text.specs.Texts.{replaced_from}
use Rattle.vtl_text.proofs.searches.replace.Given as goal

abbrev pub invariant-loop-at : goal.invariant-loop-at
invariant-loop-at l =
    shadow (Utf8 l.rest)
    × (chars (string_bytes l.out) ++ replaced_from (chars l.pattern) (chars l.by) 0 (chars l.rest) ≡ replaced_from (chars l.pattern) (chars l.by) 0 (chars l.t))

abbrev pub decreases-loop-at : goal.decreases-loop-at
decreases-loop-at l = length l.rest
