-- A reader that takes ASCII texts alone reads the characters of a text as it reads its bytes.
use Rattle.std.proofs.Common.{◌≡◌, ℕ, List, Option, None, Some, refl, sym, ap, ◌∙◌, chars, IsUtf8}
use Rattle.std.specs.Str.{IsAscii}
use Rattle.std.proofs.lemmas.Str.{chars-IsAscii, encodes-IsAscii, encodes-chars}

module _ {X : Type 0} (f : List ℕ → Option X) (ascii : (cs : List ℕ) (x : X) → f cs ≡ Some x → IsAscii cs) (bs : List ℕ) (u : IsUtf8 bs) where
  by_characters : (r : Option X) → f (chars bs) ≡ r → f bs ≡ None → f bs ≡ f (chars bs)
  by_characters None e none = none ∙ sym e
  by_characters (Some x) e none = ap f (sym (encodes-chars bs u) ∙ encodes-IsAscii (chars bs) (ascii (chars bs) x e))

  by_bytes : (r : Option X) → f bs ≡ r → f bs ≡ f (chars bs)
  by_bytes None e = by_characters (f (chars bs)) refl e
  by_bytes (Some x) e = ap f (sym (chars-IsAscii bs (ascii bs x e)))

  pub same_by_characters : f bs ≡ f (chars bs)
  same_by_characters = by_bytes (f bs) refl
