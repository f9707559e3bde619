-- The names and the words of the options of a tree stand at rising tokens of the text.
use Rattle.std.proofs.Common.{ℕ, suc, ◌+◌, ◌<◌, ◌≤◌, Bool, true, false, List, [], ◌∷◌, ◌++◌, length, map, flat_map, Option, Some, None, All, AllPairs, sym, subst, arith, length-append, append-nil, codes}
use Rattle.std.proofs.lemmas.Grind.{flat_map-append}
use Rattle.proto_base.proofs.Common.{All-nil, All-cons, All-weaker, AllPairs-cons}
use Rattle.proto_base.specs.Texts.{Text}
use Rattle.proto_tree.specs.declared.class.Class.TheVariants as class
use Rattle.proto_tree.specs.declared.class.Expected.TheVariants as want
use Rattle.proto_tree.specs.declared.tree.Atom.{Atom}
use Rattle.proto_tree.specs.declared.tree.Atom.TheVariants as atom
use Rattle.proto_tree.specs.declared.tree.Behind.{Behind}
use Rattle.proto_tree.specs.declared.tree.Constant.{Constant}
use Rattle.proto_tree.specs.declared.tree.Constant.TheVariants as constant
use Rattle.proto_tree.specs.declared.tree.Custom.{Custom}
use Rattle.proto_tree.specs.declared.tree.CustomValue.{CustomValue}
use Rattle.proto_tree.specs.declared.tree.CustomValue.TheVariants as custom_value
use Rattle.proto_tree.specs.declared.tree.Separated.{Separated}
use Rattle.proto_tree.specs.Common.{Mark, flat, flat_all, flat_behind, flat_constant, flat_custom, flat_custom_value, flat_dotted, fewer, flat_extension_name, flat_option, flat_within, inner_expected, last_expected, mark, one, only, other_expected}
use Rattle.proto_tree.proofs.Common.{Numbered, first_of, numbered_append, trees_are_numbered_in}
use Rattle.proto_tree.proofs.MarkLaws.{fit_length_in}
use Rattle.proto_custom_options.proofs.EachCustom.{of_tree}
use Rattle.proto_custom_options.specs.CustomOptions.{CustomOf, CustomsRise, atom_words, constant_words, customs_in, named_words, value_words}

-- from lo on and before hi, each above the one before it
abbrev Rising : ℕ → ℕ → List ℕ → Type 0
Rising lo hi [] = lo ≤ hi
Rising lo hi (x ∷ xs) = (lo ≤ x) × Rising (suc x) hi xs

rising_lower : (lo low hi : ℕ) (xs : List ℕ) → lo ≤ low → Rising low hi xs → Rising lo hi xs
rising_lower lo low hi [] le r = omega (arith, le, r)
rising_lower lo low hi (x ∷ xs) le r = (omega (arith, le, r.0), r.1)

rising_append : (lo mid hi : ℕ) (xs ys : List ℕ) → Rising lo mid xs → Rising mid hi ys → Rising lo hi (xs ++ ys)
rising_append lo mid hi [] ys r s = rising_lower lo mid hi ys r s
rising_append lo mid hi (x ∷ xs) ys r s = (r.0, rising_append (suc x) mid hi xs ys r.1 s)

rising_order : (lo hi : ℕ) (xs : List ℕ) → Rising lo hi xs → lo ≤ hi
rising_order lo hi [] r = r
rising_order lo hi (x ∷ xs) r = let n = rising_order (suc x) hi xs r.1 in omega (arith, r.0, n)

rising_all : (low lo hi : ℕ) (xs : List ℕ) → low ≤ lo → Rising lo hi xs → All (λ x. (low ≤ x) × (x < hi)) xs
rising_all low lo hi [] le r = All-nil (λ x. (low ≤ x) × (x < hi))
rising_all low lo hi (x ∷ xs) le r =
    let n = rising_order (suc x) hi xs r.1 in
    All-cons (λ x. (low ≤ x) × (x < hi)) x xs (omega (arith, le, r.0), omega (arith, n)) (rising_all low (suc x) hi xs (omega (arith, le, r.0)) r.1)

rising_pairs : (lo hi : ℕ) (xs : List ℕ) → Rising lo hi xs → AllPairs (λ x y. x < y) xs
rising_pairs lo hi [] r = λ i j d a b. absurd (omega (arith, b))
rising_pairs lo hi (x ∷ xs) r =
    AllPairs-cons (λ x y. x < y) x xs
    (All-weaker (λ y. (suc x ≤ y) × (y < hi)) (λ y. x < y) (λ y h. omega (arith, h.0)) xs (rising_all (suc x) (suc x) hi xs (omega arith) r.1))
    (rising_pairs (suc x) hi xs r.1)

-- ---- tokens of marks

-- these tokens stand among the marks, in order
abbrev Stand : List Mark → List ℕ → Type 0
Stand ms xs = (n : ℕ) → Numbered n ms → Rising n (n + length ms) xs

none_stand : (ms : List Mark) → Stand ms []
none_stand ms = λ n h. omega arith

one_stands : (m : Mark) → Stand (m ∷ []) (m.at ∷ [])
one_stands m = λ n h. (omega (arith, h.0), omega (arith, h.0))

both_stand : (a b : List Mark) (xs ys : List ℕ) → Stand a xs → Stand b ys → Stand (a ++ b) (xs ++ ys)
both_stand a b xs ys s t = λ n h.
    let parts = numbered_append n a b h in
    let second : Rising (n + length a) (n + length (a ++ b)) ys =
    subst (λ (k : ℕ). Rising (n + length a) k ys) (omega (arith, length-append a b)) (t (n + length a) parts.1) in
    rising_append n (n + length a) (n + length (a ++ b)) xs ys (s n parts.0) second

-- tokens with marks before them, and behind them
late : (a b : List Mark) (ys : List ℕ) → Stand b ys → Stand (a ++ b) ys
late a b ys t = both_stand a b [] ys (none_stand a) t

early : (a b : List Mark) (xs : List ℕ) → Stand a xs → Stand (a ++ b) xs
early a b xs s = subst (λ (zs : List ℕ). Stand (a ++ b) zs) (append-nil xs) (both_stand a b xs [] s (none_stand b))

-- ---- an option

-- the first token of a name: its leading dot, or its first word
name_stands : (dot : Option ℕ) (words : Separated ℕ) → Stand (flat_option (one class.Dot) dot ++ flat_dotted words) (first_of dot words ∷ [])
name_stands None words = early (only want.Word words.first) (flat_all (flat_behind class.Dot (only want.Word)) words.rest) (words.first ∷ []) (one_stands (mark want.Word words.first))
name_stands (Some i) words = early (one class.Dot i) (flat_dotted words) (i ∷ []) (one_stands (mark (want.One class.Dot) i))

path_stands : (bs : List (Behind ℕ)) → Stand (flat_all (flat_behind class.Dot (only want.OptionName)) bs) (map (λ b. b.item) bs)
path_stands [] = none_stand []
path_stands (b ∷ bs) =
    both_stand (one class.Dot b.separator ++ only want.OptionName b.item) (flat_all (flat_behind class.Dot (only want.OptionName)) bs) (b.item ∷ []) (map (λ b. b.item) bs)
    (late (one class.Dot b.separator) (only want.OptionName b.item) (b.item ∷ []) (one_stands (mark want.OptionName b.item))) (path_stands bs)

atoms_stand : (colon : Bool) (n : ℕ) (xs : List Atom) (j : ℕ) → Stand (flat_within colon n xs j) (flat_map atom_words xs)
atoms_stand colon n [] j = none_stand (only (last_expected n) j)
atoms_stand colon n (atom.Open i ∷ rest) j = late (one class.Open i) (flat_within false (suc n) rest j) (flat_map atom_words rest) (atoms_stand false (suc n) rest j)
atoms_stand colon n (atom.Close i ∷ rest) j = late (only (inner_expected n) i) (flat_within false (fewer n) rest j) (flat_map atom_words rest) (atoms_stand false (fewer n) rest j)
atoms_stand colon n (atom.Colon i ∷ rest) j = late (one class.Colon i) (flat_within true n rest j) (flat_map atom_words rest) (atoms_stand true n rest j)
atoms_stand colon n (atom.Word i ∷ rest) j = both_stand (only want.OptionName i) (flat_within false n rest j) (i ∷ []) (flat_map atom_words rest) (one_stands (mark want.OptionName i)) (atoms_stand false n rest j)
atoms_stand colon n (atom.Other i ∷ rest) j = late (only (other_expected colon) i) (flat_within false n rest j) (flat_map atom_words rest) (atoms_stand false n rest j)

constant_stands : (c : Constant) → Stand (flat_constant c) (constant_words c)
constant_stands (constant.Word w) = one_stands (mark want.Constant w)
constant_stands (constant.Number n) = none_stand (flat_constant (constant.Number n))
constant_stands (constant.Text t) = none_stand (flat_constant (constant.Text t))

value_stands : (v : CustomValue) → Stand (flat_custom_value v) (value_words v)
value_stands (custom_value.Constant c) = constant_stands c
value_stands (custom_value.Aggregate a) = late (one class.Open a.«open») (flat_within false 0 a.atoms a.close) (flat_map atom_words a.atoms) (atoms_stand false 0 a.atoms a.close)

custom_stands : (c : Custom) → Stand (flat_custom c) (named_words c)
custom_stands c =
    let value : List Mark = one class.Equals c.equals ++ flat_custom_value c.value in
    let path : List Mark = flat_all (flat_behind class.Dot (only want.OptionName)) c.path in
    let behind : List Mark = one class.RightParenthesis c.close ++ (path ++ value) in
    let words : List ℕ = map (λ b. b.item) c.path in
    late (one class.NameParenthesis c.«open») (flat_extension_name c.name ++ behind) (named_words c)
    (both_stand (flat_extension_name c.name) behind (first_of c.name.dot c.name.words ∷ []) (words ++ value_words c.value) (name_stands c.name.dot c.name.words)
    (late (one class.RightParenthesis c.close) (path ++ value) (words ++ value_words c.value)
    (both_stand path value words (value_words c.value) (path_stands c.path)
    (late (one class.Equals c.equals) (flat_custom_value c.value) (value_words c.value) (value_stands c.value)))))

-- ---- options of a tree

-- the tokens of options: of each the first of its name, and its words
abbrev tokens_of : List CustomOf → List ℕ
tokens_of cs = flat_map (λ c. named_words c.custom) cs

-- these options stand among the marks, in order
abbrev Hold : List Mark → List CustomOf → Type 0
Hold ms cs = Stand ms (tokens_of cs)

none_hold : (ms : List Mark) → Hold ms []
none_hold ms = none_stand ms

both_hold : (a b : List Mark) (cs ds : List CustomOf) → Hold a cs → Hold b ds → Hold (a ++ b) (cs ++ ds)
both_hold a b cs ds s t = subst (λ (zs : List ℕ). Stand (a ++ b) zs) (sym (flat_map-append (λ c. named_words c.custom) cs ds)) (both_stand a b (tokens_of cs) (tokens_of ds) s t)

custom_holds : (message : Text) (c : Custom) → Hold (flat_custom c) (record { message = message; custom = c } ∷ [])
custom_holds message c = subst (λ (zs : List ℕ). Stand (flat_custom c) zs) (sym (append-nil (named_words c))) (custom_stands c)

pub customs_rise : CustomsRise
customs_rise p t ls s =
    let tokens : List ℕ = tokens_of (customs_in t) in
    let end : ℕ = 0 + length (flat t) in
    let rise : Rising 0 end tokens = of_tree Hold none_hold both_hold custom_holds (codes "FileOptions") t 0 (trees_are_numbered_in p t ls s) in
    let below : (k : ℕ) → (0 ≤ k) × (k < end) → k < length ls = λ k h. omega (arith, h.1, fit_length_in p 0 (flat t) ls s.fits) in
    (rising_pairs 0 end tokens rise, All-weaker (λ k. (0 ≤ k) × (k < end)) (λ k. k < length ls) below tokens (rising_all 0 0 end tokens (omega arith) rise))
