-- The tokens of a file that a rename changes are those that the definition has there.
use Rattle.std.proofs.Common.{◌≡◌, ◌↔◌, ℕ, zero, suc, ◌+◌, ◌<◌, ◌==◌, List, [], ◌∷◌, ◌++◌, length, map, Option, Some, None, Result, Ok, Err, IfOk, IfErr, option_map, refl, sym, ap, ap₂, subst, ◌∙◌, inl, inr, arith, if◌then◌else◌, flat_map, Contains, eqb-true, eq-eqb}
use Rattle.proto_base.proofs.Common.{list_any, cases_Bool, cond-true, cond-false, false_from_ne_true, Contains-append_left, Contains-append_right, Contains-append_cases, contains_cases, contains_head, contains_later, contains_map, from_map}
use Rattle.proto_case.specs.Camel.{entry_name}
use Rattle.proto_files.proofs.Common.{ReadOf, AreRead, read_at, FileOf}
use Rattle.proto_names_rules.proofs.Common.{At, at, joined, ArePlain, symbol_of}
use Rattle.proto_names_imports.proofs.Common.{link_skeleton, text_of, names_are_plain}
use Rattle.proto_ast.specs.Parts.{FieldOf}
use Rattle.proto_edit_rename_laws.proofs.Common.{defaults_from, default_words, fields_of_file, means_value, renamed_default, renamed_defaults, type_meaning, same_at, standing, HasEnum, Target, name_map, renamed_words, from_flat_map, listed_is_there, listed}
use Rattle.proto_edit_rename.specs.Common.{ArePlacesIn, HasDefaultsIn, IsChangeIn, IsFaultIn, IsValueOf, or_own, places_of, IsChangeAt, IsRewordFault, PutsAt, RewordFault, TooLarge, NoMemory}
use Rattle.proto_edit_rename.specs.StandingTokens.{IsStandingIn}
use Rattle.proto_edit_entries.specs.declared.entry.Change.{Change}
use Rattle.proto_edit_captures.specs.FoundTargets.{IsFoundTarget}
use Rattle.proto_edit_captures.specs.declared.rename_target.RenameTarget.{RenameTarget}

file_of : (f g i j : ℕ) → at f i ≡ at g j → f ≡ g
file_of f g i j e = ap (λ (z : At). z.file) e

token_of : (f g i j : ℕ) → at f i ≡ at g j → i ≡ j
token_of f g i j e = ap (λ (z : At). z.token) e

-- ---- defaults of one file among those of all

module _ (files : List FileOf) (reads : List ReadOf) (enum : Option (List (List ℕ))) (old : List ℕ) where
  abbrev here : ℕ → ReadOf → List ℕ
  here file r = flat_map (renamed_default files reads enum old file) (fields_of_file r.tree)

  record StandsIn (n : ℕ) (rs : List ReadOf) (file i : ℕ) : Type 0 where
    k : ℕ
    inside : k < length rs
    file_is : file ≡ n + k
    within : Contains (here file (read_at rs k)) i

  default_forth : (n : ℕ) (rs : List ReadOf) (file i : ℕ) → Contains (defaults_from files reads enum old n rs) (at file i) → StandsIn n rs file i
  default_forth n [] file i c = absurd (omega (arith, c.1))
  default_forth n (r ∷ rs) file i c = elim (Contains-append_cases (map (at n) (here n r)) (defaults_from files reads enum old (suc n) rs) (at file i) c) [
    | inl a ↦
        let j = from_map (at n) (here n r) (at file i) a in
        let f : n ≡ file = file_of n file j.0 i j.2 in
        let t : j.0 ≡ i = token_of n file j.0 i j.2 in
        record { k = 0; inside = omega arith; file_is = omega (arith, f); within = subst (λ (z : ℕ). Contains (here z r) i) f (subst (Contains (here n r)) t j.1) }
    | inr b ↦
        let s = default_forth (suc n) rs file i b in
        let l = s.inside in
        let f = s.file_is in
        record { k = suc s.k; inside = omega (arith, l); file_is = omega (arith, f); within = s.within }
  ]

  default_back : (n : ℕ) (rs : List ReadOf) (k file i : ℕ) → k < length rs → file ≡ n + k → Contains (here file (read_at rs k)) i → Contains (defaults_from files reads enum old n rs) (at file i)
  default_back n [] k file i l e c = absurd (omega (arith, l))
  default_back n (r ∷ rs) zero file i l e c =
      let f : file ≡ n = omega (arith, e) in
      Contains-append_left (map (at n) (here n r)) (defaults_from files reads enum old (suc n) rs) (at file i)
      (subst (λ (z : ℕ). Contains (map (at n) (here n r)) (at z i)) (sym f) (contains_map (at n) (here n r) i (subst (λ (z : ℕ). Contains (here z r) i) f c)))
  default_back n (r ∷ rs) (suc k) file i l e c =
      Contains-append_right (map (at n) (here n r)) (defaults_from files reads enum old (suc n) rs) (at file i) (default_back (suc n) rs k file i (omega (arith, l)) (omega (arith, e)) c)

-- what is no value has no defaults
no_default : (files : List FileOf) (reads : List ReadOf) (old : List ℕ) (file : ℕ) (f : FieldOf) (i : ℕ) → Contains (renamed_default files reads None old file f) i → ⊥
no_default files reads old file f i c =
    let w = from_flat_map (λ (w : ℕ). if means_value None old (type_meaning files reads file f.kind) (text_of files reads (at file w)) then w ∷ [] else []) (default_words (λ (t : ℕ). text_of files reads (at file t)) f) i c in
    let z = w.2.1 in
    omega (arith, z)

no_defaults : (files : List FileOf) (reads : List ReadOf) (old : List ℕ) (a : At) → Contains (renamed_defaults files reads None old) a → ⊥
no_defaults files reads old a c =
    let s = default_forth files reads None old 0 reads a.file a.token c in
    let f = from_flat_map (renamed_default files reads None old a.file) (fields_of_file (read_at reads s.k).tree) a.token s.within in
    no_default files reads old a.file f.0 a.token f.2

-- ---- the parts

own_forth : (own token file i : ℕ) → Contains (or_own own token file) i → at own token ≡ at file i
own_forth own token file i c = elim (cases_Bool (own == file)) [
  | inl t ↦ elim (contains_cases token i [] (subst (λ (z : List ℕ). Contains z i) (cond-true (own == file) (token ∷ []) [] t) c)) [
    | inl e ↦ ap₂ (λ (x y : ℕ). at x y) (eqb-true own file t) e
    | inr d ↦ absurd (omega (arith, d.1))
  ]
  | inr f ↦ (let d = subst (λ (z : List ℕ). Contains z i) (cond-false (own == file) (token ∷ []) [] f) c in absurd (omega (arith, d.1)))
]

own_back : (own token file i : ℕ) → at own token ≡ at file i → Contains (or_own own token file) i
own_back own token file i e =
    let f : own ≡ file = file_of own file token i e in
    let t : token ≡ i = token_of own file token i e in
    subst (λ (z : List ℕ). Contains z i) (sym (cond-true (own == file) (token ∷ []) [] (eq-eqb own file f))) (subst (Contains (token ∷ [])) t (contains_head token []))

module _ (files : List FileOf) (reads : List ReadOf) (r : AreRead files reads) (t : Target) (file : ℕ) (inside : file < length files) (old : List ℕ) (found : List ℕ) where
  enum_plain : (enum : List (List ℕ)) → HasEnum files reads t.aim t.token (Some enum) → ArePlain enum
  enum_plain enum h =
      let d = h.1.d in
      subst ArePlain h.1.name_is (names_are_plain files reads r (symbol_of (text_of files reads) entry_name d) (contains_map (symbol_of (text_of files reads) entry_name) (link_skeleton files reads).declared d h.1.declared))

  -- the defaults of the file
  defaults_same : (e : Option (List (List ℕ))) → HasEnum files reads t.aim t.token e → HasDefaultsIn files file (option_map joined e) old found → (i : ℕ)
      → Contains found i ↔ Contains (renamed_defaults files reads e old) (at file i)
  defaults_same None h d i = (
    λ c. (let x = subst (λ (z : List ℕ). Contains z i) d c in absurd (omega (arith, x.1))),
    λ c. absurd (no_defaults files reads old (at file i) c),
  )
  defaults_same (Some enum) h d i =
      let is = d reads r enum (enum_plain enum h) refl in
      let same = r.same in (
        λ c. default_back files reads (Some enum) old 0 reads file file i (omega (arith, inside, same)) (omega arith) (subst (λ (z : List ℕ). Contains z i) is c),
        λ c.
            let s = default_forth files reads (Some enum) old 0 reads file i c in
            let f = s.file_is in
            let k_is : s.k ≡ file = omega (arith, f) in
            subst (λ (z : List ℕ). Contains z i) (sym is) (subst (λ (k : ℕ). Contains (flat_map (renamed_default files reads (Some enum) old file) (fields_of_file (read_at reads k).tree)) i) k_is s.within),
      )

-- all of them
pub places_are : (files : List FileOf) (a : RenameTarget) (file : ℕ) → file < length files → (enum_name : Option (List ℕ)) (old : List ℕ) → IsValueOf files a enum_name old
    → (words defaults : List ℕ) → IsStandingIn files a file words → HasDefaultsIn files file enum_name old defaults → ArePlacesIn files a file ((words ++ or_own a.file a.token file) ++ defaults)
places_are files a file inside enum_name old value words defaults stands has reads r t aimed to i =
    let v = value reads r in
    let old_is : old ≡ text_of files reads t.token = v.0 ∙ ap (text_of files reads) aimed.token in
    let enum_is : enum_name ≡ option_map joined t.enum = v.1 t aimed in
    let stand = stands reads r t aimed to i in
    let stood = flat_map (standing (text_of files reads) (link_skeleton files reads) (name_map files reads t to)) (link_skeleton files reads).used in
    let defs = renamed_defaults files reads t.enum (text_of files reads t.token) in
    let default = subst (λ (z : List ℕ). Contains defaults i ↔ Contains (renamed_defaults files reads t.enum z) (at file i)) old_is
    (defaults_same files reads r t file inside old defaults t.enum aimed.named.enum_is (subst (λ (z : Option (List ℕ)). HasDefaultsIn files file z old defaults) enum_is has) i) in (
      λ c. elim (Contains-append_cases (words ++ or_own a.file a.token file) defaults i c) [
        | inr d ↦ contains_later t.token (at file i) (stood ++ defs) (Contains-append_right stood defs (at file i) (default.0 d))
        | inl b ↦ elim (Contains-append_cases words (or_own a.file a.token file) i b) [
          | inl w ↦ contains_later t.token (at file i) (stood ++ defs) (Contains-append_left stood defs (at file i) (stand.0 w))
          | inr o ↦ (let e : t.token ≡ at file i = sym aimed.token ∙ own_forth a.file a.token file i o in subst (Contains (t.token ∷ (stood ++ defs))) e (contains_head t.token (stood ++ defs)))
        ]
      ],
      λ c. elim (contains_cases t.token (at file i) (stood ++ defs) c) [
        | inl e ↦ Contains-append_left (words ++ or_own a.file a.token file) defaults i (Contains-append_right words (or_own a.file a.token file) i (own_back a.file a.token file i (aimed.token ∙ e)))
        | inr b ↦ elim (Contains-append_cases stood defs (at file i) b) [
          | inl s ↦ Contains-append_left (words ++ or_own a.file a.token file) defaults i (Contains-append_left words (or_own a.file a.token file) i (stand.1 s))
          | inr d ↦ Contains-append_right (words ++ or_own a.file a.token file) defaults i (default.1 d)
        ]
      ],
    )

-- ---- the change of words at them

pub puts_at : (files : List FileOf) (a : RenameTarget) (file : ℕ) (places : List ℕ) → ArePlacesIn files a file places → (reads : List ReadOf) → AreRead files reads → (t : Target) → IsFoundTarget files reads a t → (to : List ℕ) → PutsAt (renamed_words files reads t to) file places to
puts_at files a file places are reads r t aimed to =
    let all = places_of files reads t to in
    record {
      placed = λ i c. cond-true (list_any (same_at (at file i)) all) (Some to) None (listed (at file i) all ((are reads r t aimed to i).0 c));
      others = λ i none. cond-false (list_any (same_at (at file i)) all) (Some to) None (false_from_ne_true (list_any (same_at (at file i)) all) (λ h. none ((are reads r t aimed to i).1 (listed_is_there (at file i) all h))));
    }

pub change_is : (files : List FileOf) (a : RenameTarget) (file : ℕ) (places to : List ℕ) → ArePlacesIn files a file places → (found : Option Change) → IsChangeAt files file places to found → IsChangeIn files a file to found
change_is files a file places to are found h = λ reads r t aimed. h reads r (renamed_words files reads t to) (puts_at files a file places are reads r t aimed to)

pub fault_is : (files : List FileOf) (a : RenameTarget) (file : ℕ) (places to : List ℕ) → ArePlacesIn files a file places → (e : RewordFault) → IsRewordFault files file places to e → IsFaultIn files a file to e
fault_is files a file places to are TooLarge h = λ reads r t aimed. h reads r (renamed_words files reads t to) (puts_at files a file places are reads r t aimed to)
fault_is files a file places to are NoMemory h = tt

-- the same of what was answered
pub changed_in : (files : List FileOf) (a : RenameTarget) (file : ℕ) (places to : List ℕ) → ArePlacesIn files a file places → (r : Result (Option Change) RewordFault) → IfOk r (λ found. IsChangeAt files file places to found) → IfOk r (λ found. IsChangeIn files a file to found)
changed_in files a file places to are (Ok found) h = change_is files a file places to are found h
changed_in files a file places to are (Err e) h = tt

pub faulty_in : (files : List FileOf) (a : RenameTarget) (file : ℕ) (places to : List ℕ) → ArePlacesIn files a file places → (r : Result (Option Change) RewordFault) → IfErr r (IsRewordFault files file places to) → IfErr r (IsFaultIn files a file to)
faulty_in files a file places to are (Ok found) h = tt
faulty_in files a file places to are (Err e) h = fault_is files a file places to are e h
