-- The gap at the front of a text, from its first bytes and what a search found.
use Rattle.std.proofs.Common.{◌≡◌, ◌+◌, ◌∷◌, ◌++◌, ◌∙◌, ◌==◌, [], ℕ, List, Option, Some, None, true, not, length, take, drop, codes, sym, ap, subst, refl, arith, append_assoc, length-append, MatchOption, nat_eq}
use Rattle.std.specs.Cmp.Lexicographic.{pointwise}
use Rattle.std.specs.Option.{unwrap_or}
use Rattle.std.specs.List.{slice_get}
use Rattle.std.proofs.Math.Seq.{take-append_seam, drop-append_seam}
use Rattle.std.proofs.lemmas.Bool.{and_parts}
use Rattle.std.proofs.lemmas.List.{append-nil, take-append-drop, length-take-le}
use Rattle.std.proofs.lemmas.Slice.Eq.{bytes_eq-Decides}
use Rattle.vtl_lexer.specs.Found.{IsGapOf}
use Rattle.vtl_lexer.specs.Gaps.{IsGap, block_comment, is_white_space, line_comment, white_space}
use Rattle.vtl_lexer.specs.Searches.{EndsFirst, StandsFirst}
use Rattle.vtl_lexer.specs.Spelling.{Lacks}
use Rattle.vtl_lexer.proofs.GapLemmas.{first_of, second_of}

-- a gap that the text is parted into
pub gap-of : (text bytes rest : List ℕ) → text ≡ bytes ++ rest → IsGap bytes rest → IsGapOf text (length bytes)
gap-of text bytes rest e gap = record {
  within = omega (arith, ap length e, length-append bytes rest);
  gap =
      let front : take (length bytes) text ≡ bytes = ap (take (length bytes)) e ∙ take-append_seam bytes rest in
      let back : drop (length bytes) text ≡ rest = ap (drop (length bytes)) e ∙ drop-append_seam bytes rest in
      subst (λ l. IsGap l (drop (length bytes) text)) (sym front) (subst (IsGap bytes) (sym back) gap);
}

pub first-splits : (text : List ℕ) (first : ℕ) → Some first ≡ slice_get text 0 → text ≡ first ∷ drop 1 text
first-splits [] first e = absurd (cc e)
first-splits (byte ∷ rest) first e = let same : byte ≡ first = cc e in ap (λ b. b ∷ rest) same

pub start-splits : (text front : List ℕ) → pointwise nat_eq front (take (length front) text) ≡ true → text ≡ front ++ drop (length front) text
start-splits text front e =
    let same : front ≡ take (length front) text = (bytes_eq-Decides front (take (length front) text)).0 e in
    sym (take-append-drop (length front) text) ∙ ap (λ l. l ++ drop (length front) text) (sym same)

pub white-found : (text : List ℕ) (first : ℕ) (rest : List ℕ) → text ≡ first ∷ rest → is_white_space first ≡ true → IsGapOf text 1
white-found text first rest e white = gap-of text (first ∷ []) rest e (white_space first refl white)

slash-no_feed : ◌≡◌ {A = ℕ} 47 10 → ⊥
slash-no_feed e = omega arith

-- what stands before a line feed, in a text that begins with `//`
line-front : (front rest behind : List ℕ) → codes "//" ++ rest ≡ front ++ 10 ∷ behind → Lacks 10 front → (inner : List ℕ) × (front ≡ codes "//" ++ inner) × Lacks 10 inner
line-front [] rest behind e lacks = absurd (slash-no_feed (ap first_of e))
line-front (a ∷ []) rest behind e lacks = absurd (slash-no_feed (ap second_of e))
line-front (a ∷ b ∷ inner) rest behind e lacks =
    let first : a ≡ 47 = sym (ap first_of e) in
    let second : b ≡ 47 = sym (ap second_of e) in
    let tail = (and_parts (not (b == 10)) _ (and_parts (not (a == 10)) _ lacks).1).1 in
    (inner, ap (λ n. n ∷ b ∷ inner) first ∙ ap (λ n. 47 ∷ n ∷ inner) second, tail)

line-ended : (text rest : List ℕ) (place : ℕ) → text ≡ codes "//" ++ rest → StandsFirst 10 text place → IsGapOf text place
line-ended text rest place e found =
    let front = take place text in
    let behind = drop (place + 1) text in
    let (inner, is, lacks) = line-front front rest behind (sym e ∙ found.split) found.lacks in
    let size : length front ≡ place = length-take-le place text (omega (arith, found.within)) in
    subst (IsGapOf text) size (gap-of text front (10 ∷ behind) found.split (line_comment inner is lacks refl))

line-last : (text rest : List ℕ) → text ≡ codes "//" ++ rest → Lacks 10 text → IsGapOf text (length text)
line-last text rest e lacks =
    let inner = (and_parts (not (47 == 10)) _ (and_parts (not (47 == 10)) _ (subst (Lacks 10) e lacks)).1).1 in
    gap-of text text [] (sym (append-nil text)) (line_comment rest e inner refl)

pub line-found : (text rest : List ℕ) (r : Option ℕ) → text ≡ codes "//" ++ rest → MatchOption r (Lacks 10 text) (λ place. StandsFirst 10 text place) → IsGapOf text (unwrap_or r (length text))
line-found text rest None e lacks = line-last text rest e lacks
line-found text rest (Some place) e found = line-ended text rest place e found

pub block-found : (text rest : List ℕ) (place : ℕ) → text ≡ codes "/*" ++ rest → EndsFirst rest place → IsGapOf text (place + 4)
block-found text rest place e found =
    let inner = take place rest in
    let behind = drop (place + 2) rest in
    let whole : text ≡ (codes "/*" ++ (inner ++ codes "*/")) ++ behind = e ∙ ap (λ l. codes "/*" ++ l) (found.split ∙ sym (append_assoc inner (codes "*/") behind)) in
    let size : length inner ≡ place = length-take-le place rest (omega (arith, found.within)) in
    let sizes : length (codes "/*" ++ (inner ++ codes "*/")) ≡ place + 4 = omega (arith, size, length-append inner (codes "*/")) in
    subst (IsGapOf text) sizes (gap-of text (codes "/*" ++ (inner ++ codes "*/")) behind whole (block_comment inner refl found.none))
