-- Reading parts that have a depth gives what stands there, and what is left of the budget.
use Rattle.std.proofs.Common.{◌≡◌, ◌≤◌, ◌+◌, ◌++◌, ◌∙◌, ℕ, zero, suc, List, [], ◌∷◌, append_assoc, append-nil, arith, length, refl, sym, ap}
use Rattle.std.specs.Prelude.{max, min}
use Rattle.std.specs.List.{AllByRecursion}
use Rattle.vtl_lexer.specs.declared.token.Sign.TheVariants as sign
use Rattle.vtl_lexer.specs.declared.token.TokenKind.TheVariants as token
use Rattle.vtl_syntax.specs.Depth.{calcs_depth, deepest, exp_depth, exps_depth, parts_depth}
use Rattle.vtl_syntax.specs.Trees.{CalcTree, Exp, PartTree, calcs_of, exps_of, parts_of}
use Rattle.vtl_lexer.specs.declared.keyword.Keyword.TheVariants as keyword
use Rattle.vtl_grammar.specs.Fits.{CalcsFit, ExpsFit, Filled, Fits, PartsFit, calcs_count, exps_count, parts_count}
use Rattle.vtl_grammar.specs.Grammar.{Tokens, calcs_onto, comma, exp_onto, exps_onto, listed_onto, maybe_after_onto, maybe_onto, more_calcs_onto, more_exps_onto, more_onto, more_parts_onto, name_onto, parts_onto}
use Rattle.vtl_grammar.specs.Reading.{Gets, Got, after_sign, got, got_listed, more_got}
use Rattle.vtl_grammar.specs.Words.{comp_token, written_role_token}
use Rattle.vtl_grammar.proofs.SoundSteps.{Gives, either, follow, some_gives, weaker}
use Rattle.vtl_grammar.proofs.SoundTokens.{after_sign-sound}

-- what was read stands there and fits, and its depth and what is spare make up the budget
pub record IsGot {A : Type 0} (onto : A → Tokens → Tokens) (Holds : A → Type 0) (depth : A → ℕ) (n : ℕ) (ts : Tokens) (g : Got A) : Type 0 where
  pub spelled : ts ≡ onto g.tree g.rest
  pub fits : Holds g.tree
  pub deep : depth g.tree + g.spare ≡ n

-- the items so far, and some more that stand there
record IsMore {A : Type 0} (onto : A → Tokens → Tokens) (Holds : A → Type 0) (depth : A → ℕ) (n : ℕ) (items : List A) (deep_so_far : ℕ) (ts : Tokens) (g : Got (List A)) : Type 0 where
  others : List A
  all : g.tree ≡ items ++ others
  spelled : ts ≡ more_onto onto others g.rest
  fits : AllByRecursion Holds others
  deep : max deep_so_far (deepest depth others) + g.spare ≡ n

more_got-sound : {A : Type 0} (onto : A → Tokens → Tokens) (Holds : A → Type 0) (depth : A → ℕ) (n : ℕ) (item : Gets A) → ((ts : Tokens) → Gives (IsGot onto Holds depth n ts) (item ts)) → (turns : ℕ) (items : List A) (spare : ℕ) (ts : Tokens) (so_far : ℕ) → so_far + spare ≡ n → Gives (IsMore onto Holds depth n items so_far ts) (more_got item turns items spare ts)
more_got-sound onto Holds depth n item h zero items spare ts d e = some_gives (got items spare ts) (record { others = []; all = sym (append-nil items); spelled = refl; fits = tt; deep = omega arith })
more_got-sound onto Holds depth n item h (suc turns) items spare ts d e =
    either (after_sign sign.Comma ts) _ _ (after_sign-sound sign.Comma ts)
    (λ after ea. follow (item after) _ (h after)
    (λ g is. weaker (more_got-sound onto Holds depth n item h turns (items ++ g.tree ∷ []) (min spare g.spare) g.rest (max d (depth g.tree)) (omega arith))
    (λ q more. record { others = g.tree ∷ more.others; all = more.all ∙ append_assoc items (g.tree ∷ []) more.others; spelled = cc; fits = (is.fits, more.fits); deep = omega arith })))
    (some_gives (got items spare ts) (record { others = []; all = sym (append-nil items); spelled = refl; fits = tt; deep = omega arith }))

-- a list with an item at least, each of which fits
pub record FilledWith {A : Type 0} (Holds : A → Type 0) (xs : List A) : Type 0 where
  pub some : Filled xs
  pub each : AllByRecursion Holds xs

pub got_listed-sound : {A : Type 0} (onto : A → Tokens → Tokens) (Holds : A → Type 0) (depth : A → ℕ) (n : ℕ) (item : Gets A) → ((ts : Tokens) → Gives (IsGot onto Holds depth n ts) (item ts)) → (ts : Tokens) → Gives (IsGot (listed_onto onto) (FilledWith Holds) (deepest depth) n ts) (got_listed item ts)
got_listed-sound onto Holds depth n item h ts =
    follow (item ts) _ (h ts)
    (λ g is. weaker (more_got-sound onto Holds depth n item h (length g.rest) (g.tree ∷ []) g.spare g.rest (depth g.tree) is.deep)
    (λ q more. record { spelled = rw more.all cc; fits = rw more.all (record { some = omega arith; each = (is.fits, more.fits) }); deep = rw more.all more.deep }))

-- ---- lists of trees, as trees hold them

more_exps : (es : List Exp) (ts : Tokens) → more_exps_onto (exps_of es) ts ≡ more_onto exp_onto es ts
more_exps [] ts = refl
more_exps (e ∷ es) ts = ap (λ us. comma ∷ exp_onto e us) (more_exps es ts)

pub exps_listed : (es : List Exp) (ts : Tokens) → exps_onto (exps_of es) ts ≡ listed_onto exp_onto es ts
exps_listed [] ts = refl
exps_listed (e ∷ es) ts = ap (λ us. exp_onto e us) (more_exps es ts)

pub exps_fit : (es : List Exp) → AllByRecursion Fits es → ExpsFit (exps_of es)
exps_fit [] h = tt
exps_fit (e ∷ es) h = (h.0, exps_fit es h.1)

pub exps_deep : (es : List Exp) → exps_depth (exps_of es) ≡ deepest exp_depth es
exps_deep [] = refl
exps_deep (e ∷ es) = ap (λ d. max (exp_depth e) d) (exps_deep es)

pub exps_counted : (es : List Exp) → exps_count (exps_of es) ≡ length es
exps_counted [] = refl
exps_counted (e ∷ es) = ap (λ d. suc d) (exps_counted es)

abbrev pub calc_item_onto : CalcTree → Tokens → Tokens
calc_item_onto c ts = maybe_onto written_role_token c.role (comp_token c.component ∷ token.Sign sign.Assign ∷ exp_onto c.value ts)

abbrev pub CalcFits : CalcTree → Type 0
CalcFits c = Fits c.value

abbrev pub calc_depth : CalcTree → ℕ
calc_depth c = exp_depth c.value

more_calcs : (cs : List CalcTree) (ts : Tokens) → more_calcs_onto (calcs_of cs) ts ≡ more_onto calc_item_onto cs ts
more_calcs [] ts = refl
more_calcs (c ∷ cs) ts = ap (λ us. comma ∷ calc_item_onto c us) (more_calcs cs ts)

pub calcs_listed : (cs : List CalcTree) (ts : Tokens) → calcs_onto (calcs_of cs) ts ≡ listed_onto calc_item_onto cs ts
calcs_listed [] ts = refl
calcs_listed (c ∷ cs) ts = ap (λ us. calc_item_onto c us) (more_calcs cs ts)

pub calcs_fit : (cs : List CalcTree) → AllByRecursion CalcFits cs → CalcsFit (calcs_of cs)
calcs_fit [] h = tt
calcs_fit (c ∷ cs) h = (h.0, calcs_fit cs h.1)

pub calcs_deep : (cs : List CalcTree) → calcs_depth (calcs_of cs) ≡ deepest calc_depth cs
calcs_deep [] = refl
calcs_deep (c ∷ cs) = ap (λ d. max (calc_depth c) d) (calcs_deep cs)

pub calcs_counted : (cs : List CalcTree) → calcs_count (calcs_of cs) ≡ length cs
calcs_counted [] = refl
calcs_counted (c ∷ cs) = ap (λ d. suc d) (calcs_counted cs)

abbrev pub part_item_onto : PartTree → Tokens → Tokens
part_item_onto p ts = exp_onto p.operand (maybe_after_onto (token.Keyword keyword.As) name_onto p.alias ts)

abbrev pub PartFits : PartTree → Type 0
PartFits p = Fits p.operand

abbrev pub part_depth : PartTree → ℕ
part_depth p = exp_depth p.operand

more_parts : (ps : List PartTree) (ts : Tokens) → more_parts_onto (parts_of ps) ts ≡ more_onto part_item_onto ps ts
more_parts [] ts = refl
more_parts (p ∷ ps) ts = ap (λ us. comma ∷ part_item_onto p us) (more_parts ps ts)

pub parts_listed : (ps : List PartTree) (ts : Tokens) → parts_onto (parts_of ps) ts ≡ listed_onto part_item_onto ps ts
parts_listed [] ts = refl
parts_listed (p ∷ ps) ts = ap (λ us. part_item_onto p us) (more_parts ps ts)

pub parts_fit : (ps : List PartTree) → AllByRecursion PartFits ps → PartsFit (parts_of ps)
parts_fit [] h = tt
parts_fit (p ∷ ps) h = (h.0, parts_fit ps h.1)

pub parts_deep : (ps : List PartTree) → parts_depth (parts_of ps) ≡ deepest part_depth ps
parts_deep [] = refl
parts_deep (p ∷ ps) = ap (λ d. max (part_depth p) d) (parts_deep ps)

pub parts_counted : (ps : List PartTree) → parts_count (parts_of ps) ≡ length ps
parts_counted [] = refl
parts_counted (p ∷ ps) = ap (λ d. suc d) (parts_counted ps)

-- ---- what lists of trees are, as trees hold them

abbrev pub exps_tree_onto : List Exp → Tokens → Tokens
exps_tree_onto es ts = exps_onto (exps_of es) ts

abbrev pub ExpsTreeFit : List Exp → Type 0
ExpsTreeFit es = (1 ≤ exps_count (exps_of es)) × ExpsFit (exps_of es)

abbrev pub exps_tree_depth : List Exp → ℕ
exps_tree_depth es = exps_depth (exps_of es)

pub exps_as_tree : (n : ℕ) (ts : Tokens) (g : Got (List Exp)) → IsGot (listed_onto exp_onto) (FilledWith Fits) (deepest exp_depth) n ts g → IsGot exps_tree_onto ExpsTreeFit exps_tree_depth n ts g
exps_as_tree n ts g is = record {
  spelled = is.spelled ∙ sym (exps_listed g.tree g.rest);
  fits = (rw (exps_counted g.tree) is.fits.some, exps_fit g.tree is.fits.each);
  deep = rw (exps_deep g.tree) is.deep;
}

abbrev pub calcs_tree_onto : List CalcTree → Tokens → Tokens
calcs_tree_onto cs ts = calcs_onto (calcs_of cs) ts

abbrev pub CalcsTreeFit : List CalcTree → Type 0
CalcsTreeFit cs = (1 ≤ calcs_count (calcs_of cs)) × CalcsFit (calcs_of cs)

abbrev pub calcs_tree_depth : List CalcTree → ℕ
calcs_tree_depth cs = calcs_depth (calcs_of cs)

pub calcs_as_tree : (n : ℕ) (ts : Tokens) (g : Got (List CalcTree)) → IsGot (listed_onto calc_item_onto) (FilledWith CalcFits) (deepest calc_depth) n ts g → IsGot calcs_tree_onto CalcsTreeFit calcs_tree_depth n ts g
calcs_as_tree n ts g is = record {
  spelled = is.spelled ∙ sym (calcs_listed g.tree g.rest);
  fits = (rw (calcs_counted g.tree) is.fits.some, calcs_fit g.tree is.fits.each);
  deep = rw (calcs_deep g.tree) is.deep;
}

abbrev pub parts_tree_onto : List PartTree → Tokens → Tokens
parts_tree_onto ps ts = parts_onto (parts_of ps) ts

abbrev pub PartsTreeFit : List PartTree → Type 0
PartsTreeFit ps = PartsFit (parts_of ps)

abbrev pub parts_tree_depth : List PartTree → ℕ
parts_tree_depth ps = parts_depth (parts_of ps)

pub parts_as_tree : (n : ℕ) (ts : Tokens) (g : Got (List PartTree)) → IsGot (listed_onto part_item_onto) (FilledWith PartFits) (deepest part_depth) n ts g → IsGot parts_tree_onto PartsTreeFit parts_tree_depth n ts g
parts_as_tree n ts g is = record {
  spelled = is.spelled ∙ sym (parts_listed g.tree g.rest);
  fits = parts_fit g.tree is.fits.each;
  deep = rw (parts_deep g.tree) is.deep;
}
