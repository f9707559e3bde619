-- A token that a rename changes declares the name, is a word of a reference, or a default, and is
-- one of these alone.
use Rattle.std.proofs.Common.{◌≡◌, ◌⊎◌, ℕ, ◌≤◌, if◌then◌else◌, List, [], ◌∷◌, ◌++◌, length, flat_map, Option, Some, None, refl, sym, ap₂, subst, ◌∙◌, inl, inr, arith, Contains, true≢false}
use Rattle.proto_base.proofs.Common.{list_any, cond-true, contains_cases, contains_head, contains_later, contains_or_not, from_flat_map, to_flat_map, none-some, Contains-append_cases, Contains-append_left, Contains-append_right}
use Rattle.proto_case.specs.Camel.{entry_name}
use Rattle.proto_files.proofs.Common.{HasNoFault, FileOf, ReadOf, AreRead}
use Rattle.proto_names_rules.proofs.Common.{Renaming, target, At, at, Skeleton, Token, symbol_of, same_name}
use Rattle.proto_names_imports.proofs.Common.{LinkFaults, link_skeleton, text_of}
use Rattle.proto_edit_rename_laws.proofs.Common.{IsNamed, Names, RolesAreApart, Target, Uses, front_of, listed, name_map, renamed_defaults, renamed_places, renamed_words, same_at, standing, stands, stands_at, targets_are_one}
use Rattle.proto_edit_rename_laws.proofs.Inside.{name_of_file, word_of_file}
use Rattle.proto_edit_rename_laws.proofs.OldTexts.{changed_to}
use Rattle.proto_edit_rename_laws.proofs.TokenRoles.{tokens_have_roles}
use Rattle.proto_edit_rename.specs.Occurrences.{tokens_in}
use Rattle.proto_names_at.specs.NamesAt.{DeclaresName, DefaultsToName, IsNameAt, IsOnlyName, RefersToName, StandsFor, UsesName}
use Rattle.proto_names_at.specs.Occurring.{NamesOccur}
use Rattle.proto_names_at.proofs.DefaultFields.{default_field}
use Rattle.proto_names_at.proofs.NamedTargets.{target_symbol}

-- ---- the words of references stand for the name, whatever the new one is

same_stands : (e f : Renaming) → target e ≡ target f → (text : At → List ℕ) (front : List (List ℕ)) (ts : List At) → stands e text front ts ≡ stands f text front ts
same_stands e f same text front [] = refl
same_stands e f same text front (t ∷ ts) =
    ap₂ (λ (x : List (List ℕ)) (ys : List At). (if same_name (front ++ text t ∷ []) x then t ∷ [] else []) ++ ys) same (same_stands e f same text (front ++ text t ∷ []) ts)

module _ (files : List FileOf) (reads : List ReadOf) where
  abbrev text : At → List ℕ
  text = text_of files reads

  abbrev k : Skeleton At
  k = link_skeleton files reads

  abbrev stood : Target → List ℕ → List At
  stood t to = flat_map (standing text k (name_map files reads t to)) k.used

  abbrev places : Target → List ℕ → List At
  places t to = renamed_places text k (name_map files reads t to) t.token (renamed_defaults files reads t.enum (name_map files reads t to).old)

  stood_so : (t : Target) (from to : List ℕ) (a : At) → Contains (stood t from) a → Contains (stood t to) a
  stood_so t from to a c =
      let u = from_flat_map (standing text k (name_map files reads t from)) k.used a c in
      to_flat_map (standing text k (name_map files reads t to)) k.used u.0 a u.1
      (subst (λ (z : List At). Contains z a) (same_stands (name_map files reads t from) (name_map files reads t to) refl text (front_of text k u.0) u.0.tokens) u.2)

  -- ---- from a way to stand for the name, and to one

  placed : (name : List ℕ) (t : Target) → IsNamed files reads name t → (a : At) → ((to : List ℕ) → Contains (places t to) a) → StandsFor files reads a name
  placed name t named a c = (t, named, λ to. cond-true (list_any (same_at a) (places t to)) (Some to) None (listed a (places t to) (c to)))

  pub from_declared : (a : At) (name : List ℕ) → DeclaresName files reads a name → StandsFor files reads a name
  from_declared a name (t, named, is) =
      placed name t named a (λ to. subst (Contains (places t to)) is (contains_head t.token (stood t to ++ renamed_defaults files reads t.enum (name_map files reads t to).old)))

  pub from_used : (a : At) (name : List ℕ) → UsesName files reads a name → StandsFor files reads a name
  from_used a name (inl (t, named, c)) =
      placed name t named a (λ to. contains_later t.token a (stood t to ++ renamed_defaults files reads t.enum (text_of files reads t.token)) (Contains-append_left (stood t to) (renamed_defaults files reads t.enum (text_of files reads t.token)) a (stood_so t [] to a c)))
  from_used a name (inr (t, named, c)) =
      placed name t named a (λ to. contains_later t.token a (stood t to ++ renamed_defaults files reads t.enum (text_of files reads t.token)) (Contains-append_right (stood t to) (renamed_defaults files reads t.enum (text_of files reads t.token)) a c))

  pub ways : (a : At) (name : List ℕ) → StandsFor files reads a name → DeclaresName files reads a name ⊎ UsesName files reads a name
  ways a name (t, named, h) = elim (contains_cases t.token a (stood t [] ++ renamed_defaults files reads t.enum (text_of files reads t.token)) (changed_to (places t []) [] a [] (h [])).1) [
    | inl e ↦ inl (t, named, e)
    | inr b ↦ elim (Contains-append_cases (stood t []) (renamed_defaults files reads t.enum (text_of files reads t.token)) a b) [
      | inl s ↦ inr (inl (t, named, s))
      | inr d ↦ inr (inr (t, named, d))
    ]
  ]

  -- ---- they are apart

  names_it : (a : At) (name : List ℕ) → DeclaresName files reads a name → Names (link_skeleton files reads) a
  names_it a name (t, named, is) = (t.aim, named.within, (t.above, inl (subst (λ z. t.aim.path ≡ t.above ++ Token z ∷ []) is named.path)))

  uses_it : (a : At) (name : List ℕ) → RefersToName files reads a name → Uses (link_skeleton files reads) a
  uses_it a name (t, named, c) =
      let u = from_flat_map (standing text k (name_map files reads t [])) k.used a c in
      let s = stands_at (name_map files reads t []) text (front_of text k u.0) u.0.tokens a u.2 in
      (u.0, u.1, subst (λ z. Contains z a) (sym s.parts) (Contains-append_right s.before (a ∷ s.behind) a (contains_head a s.behind)))

  module _ (are : AreRead files reads) (clean : HasNoFault (LinkFaults files)) where
    roles : (name : List ℕ) (t : Target) → IsNamed files reads name t → RolesAreApart (link_skeleton files reads) (renamed_defaults files reads t.enum (text_of files reads t.token))
    roles name t named = (tokens_have_roles files reads name [] t are clean named).tokens.apart

    pub declared_alone : (a : At) (m n : List ℕ) → DeclaresName files reads a m → UsesName files reads a n → ⊥
    declared_alone a m n d (inl r) = (roles m d.0 d.1).names_uses a (names_it a m d) (uses_it a n r)
    declared_alone a m n d (inr e) = (roles n e.0 e.1).names_defaults a (names_it a m d) e.2

    pub referred_alone : (a : At) (m n : List ℕ) → RefersToName files reads a m → DefaultsToName files reads a n → ⊥
    referred_alone a m n r e = (roles n e.0 e.1).uses_defaults a (uses_it a m r) e.2

-- ---- what is found of one way, else of the other

-- the first way, where it gives a name
pub first_way : (files : List FileOf) (A B Both : List ReadOf → List ℕ → Type 0) → ((reads : List ReadOf) → AreRead files reads → (name : List ℕ) → A reads name → Both reads name) → ((reads : List ReadOf) → AreRead files reads → (name : List ℕ) → Both reads name → A reads name ⊎ B reads name)
    → ((reads : List ReadOf) → AreRead files reads → (m n : List ℕ) → A reads m → B reads n → ⊥) → (found : Option (List ℕ)) → IsOnlyName files A found → (m : List ℕ) → found ≡ Some m → IsOnlyName files Both found
first_way files A B Both into cases apart found only m is reads are name = (
  λ e. into reads are name ((only reads are name).0 e),
  λ b. elim (cases reads are name b) [
    | inl a ↦ (only reads are name).1 a
    | inr c ↦ absurd (apart reads are m name ((only reads are m).0 is) c)
  ],
)

-- the other way, where it gives none
pub other_way : (files : List FileOf) (A B Both : List ReadOf → List ℕ → Type 0) → ((reads : List ReadOf) → AreRead files reads → (name : List ℕ) → B reads name → Both reads name) → ((reads : List ReadOf) → AreRead files reads → (name : List ℕ) → Both reads name → A reads name ⊎ B reads name)
    → (first found : Option (List ℕ)) → IsOnlyName files A first → first ≡ None → IsOnlyName files B found → IsOnlyName files Both found
other_way files A B Both into cases first found only is other reads are name = (
  λ e. into reads are name ((other reads are name).0 e),
  λ b. elim (cases reads are name b) [
    | inl a ↦ absurd (none-some name (sym is ∙ (only reads are name).1 a))
    | inr c ↦ (other reads are name).1 c
  ],
)

-- ---- no name stands in a file that is not there

pub none_outside : (files : List FileOf) (file token : ℕ) → length files ≤ file → IsNameAt files (at file token) None
none_outside files file token past reads are name = (
  λ e. absurd (none-some name e),
  λ s. elim (ways files reads (at file token) name s) [
    | inl d ↦ (let o = name_of_file files reads (at file token) (names_it files reads (at file token) name d) in let l = o.inside in let same = are.same in absurd (omega (arith, l, same, past)))
    | inr (inl r) ↦ (let o = word_of_file files reads (at file token) (uses_it files reads (at file token) name r) in let l = o.inside in let same = are.same in absurd (omega (arith, l, same, past)))
    | inr (inr d) ↦ (let x = default_field files reads d.0.enum (text_of files reads d.0.token) file token d.2 in let l = x.inside in let same = are.same in absurd (omega (arith, l, same, past)))
  ],
)

-- ---- the occurrences of a name

pub names_occur : NamesOccur
names_occur files reads name None are clean has file token inside = (
  λ s. absurd (true≢false (sym s.1.kind ∙ has reads are (symbol_of (text_of files reads) entry_name s.0.aim) (target_symbol files reads name s.0 s.1) s.1.name_is)),
  λ c. absurd (omega (arith, c.1)),
)
names_occur files reads name (Some found) are clean has file token inside =
    let h = has reads are in (
      λ s. elim (contains_or_not (tokens_in found.items file) token) [
        | inl c ↦ c
        | inr never ↦
            let same : s.0 ≡ h.0 = targets_are_one files reads name s.0 h.0 are clean s.1 h.1 in
            let changed : renamed_words files reads h.0 [] (at file token) ≡ Some [] = subst (λ (t : Target). renamed_words files reads t [] (at file token) ≡ Some []) same (s.2 []) in
            absurd (none-some [] (sym ((h.2.changed file inside []).others token never) ∙ changed))
      ],
      λ c. (h.0, h.1, λ to. (h.2.changed file inside to).placed token c),
    )
