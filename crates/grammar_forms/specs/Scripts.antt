-- Scripts: statements one after the other. `at i` is the form of the one at place i; a script has `least` statements at least. A text's tokens have a kind, over which the forms are, and a first byte.
use Rattle.std.specs.Prelude.{◌≡◌, ℕ, zero, suc, ◌≤◌, ◌<◌, List, [], ◌∷◌, ◌++◌, length, map, Option, None, Some}
use Rattle.vtl_lists.specs.Options.{given}
use Rattle.grammar_forms.specs.Forms.{Form}

abbrev pub ScriptSpells : {T S : Type 0} → (ℕ → Form T S) → ℕ → List T → List S → Type 0
ScriptSpells {T} at i ts [] = ts ≡ []
ScriptSpells {T} at i ts (s ∷ ss) = (left : List T) × (right : List T) × (ts ≡ left ++ right) × (at i).spells left s × ScriptSpells at (suc i) right ss

-- as many statements as there are; the number bounds them
abbrev pub script_reads : {T S : Type 0} → (ℕ → Form T S) → ℕ → ℕ → List T → List S × List T
script_reads at zero i ts = ([], ts)
script_reads at (suc n) i ts = given ((at i).reads ts) (λ s. (s.0 ∷ (script_reads at n (suc i) s.1).0, (script_reads at n (suc i) s.1).1)) ([], ts)

-- the first byte of the next token, or the byte from which none starts, or the end of the text
abbrev pub byte_of : {P : Type 0} → (P → ℕ) → List P → Option ℕ → ℕ → ℕ
byte_of start [] None end = end
byte_of start [] (Some b) end = b
byte_of start (t ∷ ts) bad end = start t

-- all of the text is tokens, and they spell the script
pub record WholeScript {P T S : Type 0} (kind : P → T) (at : ℕ → Form T S) (least : ℕ) (ts : List P) (bad : Option ℕ) (script : List S) : Type 0 where
  pub whole : bad ≡ None
  pub spelled : ScriptSpells at 0 (map kind ts) script
  pub enough : least ≤ length script

-- Some first tokens spell that many statements, no first tokens spell more, the byte is the start of what follows them, and the text is no script.
pub record SyntaxFault {P T S : Type 0} (kind : P → T) (start : P → ℕ) (at : ℕ → Form T S) (least : ℕ) (ts : List P) (bad : Option ℕ) (end done byte : ℕ) : Type 0 where
  pub front : List P
  pub rest : List P
  pub split : ts ≡ front ++ rest
  pub script : List S
  pub spelled : ScriptSpells at 0 (map kind front) script
  pub counts : length script ≡ done
  pub greatest : (f r : List P) (s : List S) → ts ≡ f ++ r → ScriptSpells at 0 (map kind f) s → length s ≤ done
  pub is_byte : byte_of start rest bad end ≡ byte
  pub broken : rest ≡ [] → bad ≡ None → length script < least

-- statements in front of what is read
abbrev pub ahead : {T S : Type 0} → List S → List S × List T → List S × List T
ahead items p = (items ++ p.0, p.1)
