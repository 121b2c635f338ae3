-- Words of tables, one after the other; and lists of what is its own view.
use Rattle.std.proofs.Common.{◌≡◌, ℕ, Bool, true, false, List, [], ◌∷◌, map, Option, None, Some, Result, Ok, Err, Vec, refl, ap, sym, ◌∙◌}
use Rattle.std.specs.Prelude.{nat_eq, if◌then◌else◌, option_map}
use Rattle.std.specs.declared.alloc.Global.{Global}
use Rattle.grammar_forms.specs.Forms.{lookup}
use Rattle.grammar_forms.proofs.Laws.{pair_of}
use Rattle.std.proofs.Math.Utf8.{encodes}
use Rattle.std.proofs.lemmas.Str.{encodes_same}
use Rattle.std.specs.Cmp.Lexicographic.{pointwise, same_text}
use Rattle.sql_lexer.specs.Places.{place}
use Rattle.sql_lexer.specs.declared.token.TokenKind.{TokenKind}
use Rattle.sql_lexer.specs.declared.token.Word.{Word}
use Rattle.sql_tree.specs.Classes.{class}
use Rattle.sql_tree.specs.Grammar.{key, of_table}
use Rattle.sql_parser_parts.specs.Answers.{AnswersBy, item_views, marked, same, vec_items}
use Rattle.sql_parser_parts.specs.declared.front.Front.{Front}
use Rattle.sql_parser_parts.specs.declared.front.Unread.{Unread}
use Rattle.sql_parser_parts.specs.declared.front.Unread.TheVariants as u

at-first : {A : Type 0} (a : A) (more : Option A) (b : Bool) (ts rest : List TokenKind) → option_map {U = Unit {0} × List TokenKind} (λ x. (x, ts)) (if b then Some tt else None) ≡ Some (marked rest) → option_map {U = A × List TokenKind} (λ x. (x, ts)) (if b then Some a else more) ≡ Some (a, rest)
at-first a more true ts rest e = ap (λ us. Some (a, us)) (pair_of tt ts tt rest e).1
at-first a more false ts rest e = cc

at-other : {A : Type 0} (a : A) (more : Option A) (b : Bool) (ts : List TokenKind) → option_map {U = Unit {0} × List TokenKind} (λ x. (x, ts)) (if b then Some tt else None) ≡ None → option_map {U = A × List TokenKind} (λ x. (x, ts)) (if b then Some a else more) ≡ option_map (λ x. (x, ts)) more
at-other a more true ts e = cc
at-other a more false ts e = refl

pub table-first : {A : Type 0} (word : Word) (a : A) (more : List (ℕ × A)) (ts rest : List TokenKind) → (key word).reads ts ≡ Some (marked rest) → (of_table ((place word, a) ∷ more)).reads ts ≡ Some (a, rest)
table-first word a more [] rest e = cc
table-first word a more (t ∷ ts) rest e = at-first a (lookup more (class t)) (nat_eq (place word) (class t)) ts rest e

pub table-other : {A : Type 0} (word : Word) (a : A) (more : List (ℕ × A)) (ts : List TokenKind) → (key word).reads ts ≡ None → (of_table ((place word, a) ∷ more)).reads ts ≡ (of_table more).reads ts
table-other word a more [] e = refl
table-other word a more (t ∷ ts) e = at-other a (lookup more (class t)) (nat_eq (place word) (class t)) ts e

pub table-none : {A : Type 0} (ts : List TokenKind) → (of_table {A = A} []).reads ts ≡ None
table-none [] = refl
table-none (t ∷ ts) = refl

pub ruleset tables = (table-first, table-other, table-none)

map-same : {A : Type 0} (xs : List A) → map same xs ≡ xs
map-same [] = refl
map-same (x ∷ xs) = ap (λ ys. x ∷ ys) (map-same xs)

pub same_items : {A : Type 0} (reading : Option (List A × List TokenKind)) (read : Result (Front (Vec A Global)) Unread) → AnswersBy (item_views same) reading read → AnswersBy vec_items reading read
same_items reading (Ok front) h = rw (sym (map-same front.part.items)) h
same_items reading (Err u.Absent) h = h
same_items reading (Err u.OutOfMemory) h = tt

-- a text whose bytes are the digit 1
pub one-is : (digits bytes : List ℕ) → bytes ≡ encodes digits → true ≡ pointwise nat_eq bytes (49 ∷ []) → digits ≡ 49 ∷ []
unfolding lib.Utf8.encode
one-is digits bytes b t = encodes_same digits (49 ∷ []) (sym b ∙ same_text bytes (49 ∷ []) t)
