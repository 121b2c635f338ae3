-- Where a pattern stands among the characters of a text, and what takes its place.
use Rattle.std.proofs.Common.{◌≡◌, ◌↔◌, ℕ, zero, suc, Bool, Option, ◌-◌, ◌<◌, true, false, cond, List, [], ◌∷◌, ◌++◌, length, take, drop, None, Some, refl, sym, ap, ◌∙◌, arith}
use Rattle.std.specs.Option.{option_map, option_map_or}
use Rattle.std.proofs.lemmas.List.{take-append-drop, take_at}
use Rattle.std.proofs.lemmas.Slice.Eq.{bytes_eq-Decides}
use Rattle.vtl_text.specs.Texts.{begins, first_occurrence, instr_of, replaced_from, replace_of}

-- a text that begins with a pattern is the pattern and what follows it
pub begins_splits : (ps cs : List ℕ) → begins ps cs ≡ true → cs ≡ ps ++ drop (length ps) cs
begins_splits ps cs h =
    sym (take-append-drop (length ps) cs) ∙ ap (λ l. l ++ drop (length ps) cs) (sym ((bytes_eq-Decides ps (take (length ps) cs)).0 h))

pub begins-append : (ps rest : List ℕ) → begins ps (ps ++ rest) ≡ true
begins-append ps rest = (bytes_eq-Decides ps (take (length ps) (ps ++ rest))).1 (sym (take_at ps rest (length ps) refl))

-- the pattern stands at none of the first n places
abbrev pub NoneBelow : List ℕ → List ℕ → ℕ → Type 0
NoneBelow ps cs n = (i : ℕ) → i < n → begins ps (drop i cs) ≡ false

NoneBelow-tail : (ps cs : List ℕ) (c n : ℕ) → NoneBelow ps (c ∷ cs) (suc n) → NoneBelow ps cs n
NoneBelow-tail ps cs c n none i below = none (suc i) (omega arith)

at_head : (ps cs : List ℕ) → begins ps cs ≡ true → first_occurrence ps cs ≡ Some 0
at_head ps [] h = ap (λ b. cond b (Some 0) None) h
at_head ps (c ∷ cs) h = ap (λ b. cond b (Some 0) (option_map suc (first_occurrence ps cs))) h

past_head : (ps cs : List ℕ) (c : ℕ) → begins ps (c ∷ cs) ≡ false → first_occurrence ps (c ∷ cs) ≡ option_map suc (first_occurrence ps cs)
past_head ps cs c h = ap (λ b. cond b (Some 0) (option_map suc (first_occurrence ps cs))) h

pub first_occurrence-split : (ps before after : List ℕ) → NoneBelow ps (before ++ (ps ++ after)) (length before) → first_occurrence ps (before ++ (ps ++ after)) ≡ Some (length before)
first_occurrence-split ps [] after none = at_head ps (ps ++ after) (begins-append ps after)
first_occurrence-split ps (c ∷ before) after none =
    past_head ps (before ++ (ps ++ after)) c (none 0 (omega arith))
    ∙ ap (option_map suc) (first_occurrence-split ps before after (NoneBelow-tail ps (before ++ (ps ++ after)) c (length before) none))

pub first_occurrence-none : (ps cs : List ℕ) → NoneBelow ps cs (suc (length cs)) → first_occurrence ps cs ≡ None
first_occurrence-none ps [] none = ap (λ b. cond b (Some 0) None) (none 0 (omega arith))
first_occurrence-none ps (c ∷ cs) none =
    past_head ps cs c (none 0 (omega arith)) ∙ ap (option_map suc) (first_occurrence-none ps cs (NoneBelow-tail ps cs c (suc (length cs)) none))

pub instr_of-split : (ps before after : List ℕ) → NoneBelow ps (before ++ (ps ++ after)) (length before) → instr_of (before ++ (ps ++ after)) ps ≡ suc (length before)
unfolding instr_of
instr_of-split ps before after none = ap (λ o. option_map_or suc o 0) (first_occurrence-split ps before after none)

pub instr_of-none : (ps cs : List ℕ) → NoneBelow ps cs (suc (length cs)) → instr_of cs ps ≡ 0
unfolding instr_of
instr_of-none ps cs none = ap (λ o. option_map_or suc o 0) (first_occurrence-none ps cs none)

pub instr_of-empty : (cs : List ℕ) → instr_of cs [] ≡ 1
unfolding instr_of
instr_of-empty cs = ap (λ o. option_map_or suc o 0) (at_head [] cs (begins-append [] cs))

-- the rest of an occurrence is passed over
passed : (ps by xs after : List ℕ) → replaced_from ps by (length xs) (xs ++ after) ≡ replaced_from ps by 0 after
passed ps by [] after = refl
passed ps by (x ∷ xs) after = passed ps by xs after

one_less : (n : ℕ) → suc n - 1 ≡ n
one_less n = omega arith

replaced-here : (p : ℕ) (ps by after : List ℕ) → replaced_from (p ∷ ps) by 0 ((p ∷ ps) ++ after) ≡ by ++ replaced_from (p ∷ ps) by 0 after
replaced-here p ps by after =
    ap (λ b. cond b (by ++ replaced_from (p ∷ ps) by (length (p ∷ ps) - 1) (ps ++ after)) (p ∷ replaced_from (p ∷ ps) by 0 (ps ++ after))) (begins-append (p ∷ ps) after)
    ∙ ap (λ n. by ++ replaced_from (p ∷ ps) by n (ps ++ after)) (one_less (length ps)) ∙ ap (λ l. by ++ l) (passed (p ∷ ps) by ps after)

replaced-miss : (ps by cs : List ℕ) (c : ℕ) → begins ps (c ∷ cs) ≡ false → replaced_from ps by 0 (c ∷ cs) ≡ c ∷ replaced_from ps by 0 cs
replaced-miss ps by cs c h = ap (λ b. cond b (by ++ replaced_from ps by (length ps - 1) cs) (c ∷ replaced_from ps by 0 cs)) h

replaced-split : (p : ℕ) (ps by before after : List ℕ) → NoneBelow (p ∷ ps) (before ++ ((p ∷ ps) ++ after)) (length before)
    → replaced_from (p ∷ ps) by 0 (before ++ ((p ∷ ps) ++ after)) ≡ before ++ (by ++ replaced_from (p ∷ ps) by 0 after)
replaced-split p ps by [] after none = replaced-here p ps by after
replaced-split p ps by (c ∷ before) after none =
    replaced-miss (p ∷ ps) by (before ++ ((p ∷ ps) ++ after)) c (none 0 (omega arith))
    ∙ ap (λ l. c ∷ l) (replaced-split p ps by before after (NoneBelow-tail (p ∷ ps) (before ++ ((p ∷ ps) ++ after)) c (length before) none))

pub replaced-none : (ps by cs : List ℕ) → NoneBelow ps cs (length cs) → replaced_from ps by 0 cs ≡ cs
replaced-none ps by [] none = refl
replaced-none ps by (c ∷ cs) none =
    replaced-miss ps by cs c (none 0 (omega arith)) ∙ ap (λ l. c ∷ l) (replaced-none ps by cs (NoneBelow-tail ps cs c (length cs) none))

pub replaced_past : (ps by before after : List ℕ) → 0 < length ps → NoneBelow ps (before ++ (ps ++ after)) (length before)
    → replaced_from ps by 0 (before ++ (ps ++ after)) ≡ before ++ (by ++ replaced_from ps by 0 after)
replaced_past [] by before after some none = absurd (omega arith)
replaced_past (p ∷ ps) by before after some none = replaced-split p ps by before after none

pub replace_of-some : (cs ps by : List ℕ) → 0 < length ps → replace_of cs ps by ≡ replaced_from ps by 0 cs
unfolding replace_of
replace_of-some cs [] by some = absurd (omega arith)
replace_of-some cs (p ∷ ps) by some = refl

pub replace_of-empty : (cs by : List ℕ) → replace_of cs [] by ≡ cs
unfolding replace_of
replace_of-empty cs by = refl

-- no first occurrence: the pattern begins the text nowhere
begins_nowhere : (ps : List ℕ) (b : Bool) (r : Option ℕ) → cond b (Some 0) r ≡ None → (b ≡ false) × (r ≡ None)
begins_nowhere ps true r h = cc
begins_nowhere ps false r h = (refl, h)

no_later : (r : Option ℕ) → option_map suc r ≡ None → r ≡ None
no_later None h = refl
no_later (Some k) h = cc

nowhere : (ps cs : List ℕ) → first_occurrence ps cs ≡ None → (n : ℕ) → begins ps (drop n cs) ≡ false
nowhere ps [] h zero = (begins_nowhere ps (begins ps []) None h).0
nowhere ps [] h (suc n) = (begins_nowhere ps (begins ps []) None h).0
nowhere ps (c ∷ cs) h zero = (begins_nowhere ps (begins ps (c ∷ cs)) (option_map suc (first_occurrence ps cs)) h).0
nowhere ps (c ∷ cs) h (suc n) = nowhere ps cs (no_later (first_occurrence ps cs) (begins_nowhere ps (begins ps (c ∷ cs)) (option_map suc (first_occurrence ps cs)) h).1) n

zero_for_none : (o : Option ℕ) → option_map_or suc o 0 ≡ 0 → o ≡ None
zero_for_none None h = refl
zero_for_none (Some k) h = absurd (omega arith)

-- `instr` gives 0 just where the pattern begins the text at no character
pub absent_from : (cs ps : List ℕ) (r : ℕ) → r ≡ instr_of cs ps → (r ≡ 0) ↔ ((n : ℕ) → begins ps (drop n cs) ≡ false)
unfolding instr_of
absent_from cs ps r value =
    (λ is_zero. nowhere ps cs (zero_for_none (first_occurrence ps cs) (sym value ∙ is_zero)), λ none. value ∙ instr_of-none ps cs (λ i _. none i))
