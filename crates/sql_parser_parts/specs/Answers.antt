-- What reading functions of a program answer.
use Rattle.std.specs.Prelude.{◌≡◌, ℕ, List, [], ◌∷◌, map, Option, None, Some, Result, Ok, Err, Vec}
use Rattle.std.specs.Borrow.{Bor}
use Rattle.std.specs.declared.alloc.Global.{Global}
use Rattle.vtl_lists.specs.Options.{◌>>=◌}
use Rattle.grammar_forms.specs.Forms.{Reads, first_as, gives, lookup, one_of, then_reads}
use Rattle.sql_lexer.specs.Places.{place}
use Rattle.sql_lexer.specs.declared.token.Token.{Token}
use Rattle.sql_lexer.specs.declared.token.TokenKind.{TokenKind}
use Rattle.sql_lexer.specs.declared.token.Word.{Word}
use Rattle.sql_tree.specs.Classes.{class}
use Rattle.sql_parser_parts.specs.declared.front.Front.{Front}
use Rattle.sql_parser_parts.specs.declared.front.Unread.{Unread}
use Rattle.sql_parser_parts.specs.declared.front.Unread.TheVariants as u

-- the tokens without their places
unfoldable pub kinds : List Token → List TokenKind
kinds ts = map (λ t. t.kind) ts

abbrev pub same : {A : Type 0} → A → A
same x = x

-- what is read and the tokens that are left
abbrev pub front_view : {A B : Type 0} → (A → B) → Front A → B × List TokenKind
front_view view front = (view front.part, kinds front.rest.now)

-- the answer is what reading gives, by a view of what was read; want of memory may come in any case
abbrev pub AnswersBy : {A B : Type 0} → (A → B) → Option (B × List TokenKind) → Result (Front A) Unread → Type 0
AnswersBy view reading (Ok front) = reading ≡ Some (front_view view front)
AnswersBy view reading (Err u.Absent) = reading ≡ None
AnswersBy view reading (Err u.OutOfMemory) = Unit {0}

abbrev pub Answers : {A : Type 0} → Option (A × List TokenKind) → Result (Front A) Unread → Type 0
Answers = AnswersBy same

abbrev pub vec_items : {A : Type 0} → Vec A Global → List A
vec_items v = v.items

-- the same where nothing is made of what is read
abbrev pub AnswersTokens : Option (Unit {0} × List TokenKind) → Result (Bor (List Token)) Unread → Type 0
AnswersTokens reading (Ok rest) = reading ≡ Some (tt, kinds rest.now)
AnswersTokens reading (Err u.Absent) = reading ≡ None
AnswersTokens reading (Err u.OutOfMemory) = ⊥

abbrev pub optional_of : {A : Type 0} → Result (Front A) Unread → Result (Option (Front A)) Unread
optional_of (Ok front) = Ok (Some front)
optional_of (Err u.Absent) = Ok None
optional_of (Err u.OutOfMemory) = Err u.OutOfMemory

abbrev pub both_of : {A B : Type 0} → A → Result (Front B) Unread → Result (Front (A × B)) Unread
both_of a (Ok front) = Ok (record { part = (a, front.part); rest = front.rest })
both_of a (Err unread) = Err unread

-- a part and a list
abbrev pub with_items : {A B : Type 0} → A × Vec B Global → A × List B
with_items p = (p.0, p.1.items)

abbrev pub item_views : {A B : Type 0} → (A → B) → Vec A Global → List B
item_views view v = map view v.items

-- the list of one item
abbrev pub first_item : {A : Type 0} → Reads TokenKind A → Reads TokenKind (List A)
first_item item ts = item ts >>= (λ p. Some (one_of p.0) >>= (λ b. gives b p.1))

-- ---- words

abbrev pub word_reads : Word → Reads TokenKind (Unit {0})
word_reads word = first_as (λ t. lookup ((place word, tt) ∷ []) (class t))

-- what stands behind the word
abbrev pub after_word : {A : Type 0} → Word → Reads TokenKind A → Reads TokenKind A
after_word word f ts = then_reads (word_reads word) f ts >>= (λ p. Some p.0.1 >>= (λ b. gives b p.1))

abbrev pub marked : List TokenKind → Unit {0} × List TokenKind
marked ts = (tt, ts)

-- a table of words, as one of their places
abbrev pub by_places : {A : Type 0} → List (Word × A) → List (ℕ × A)
by_places table = map (λ p. (place p.0, p.1)) table
