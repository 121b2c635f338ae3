-- Two texts are equal where their characters are.
use Rattle.std.proofs.Common.{◌≡◌, ℕ, List, nat_eq, sym, ap, ◌∙◌}
use Rattle.std.specs.Str.{IsUtf8, chars}
use lib.Pointwise.{pointwise}
use Rattle.std.proofs.Math.Utf8.{encodes}
use Rattle.std.proofs.lemmas.Str.{encodes-chars}
use Rattle.std.proofs.lemmas.Slice.Eq.{bytes_eq-Decides}
use Rattle.std.proofs.lemmas.Bool.Decides.{same_from_decides, Decides-like}

pub same_characters : (xs ys : List ℕ) → IsUtf8 xs → IsUtf8 ys → pointwise nat_eq xs ys ≡ pointwise nat_eq (chars xs) (chars ys)
same_characters xs ys u v =
    same_from_decides (pointwise nat_eq xs ys) (pointwise nat_eq (chars xs) (chars ys)) (bytes_eq-Decides xs ys)
    (Decides-like (pointwise nat_eq (chars xs) (chars ys)) (λ e. sym (encodes-chars xs u) ∙ ap encodes e ∙ encodes-chars ys v) (λ e. ap chars e) (bytes_eq-Decides (chars xs) (chars ys)))
