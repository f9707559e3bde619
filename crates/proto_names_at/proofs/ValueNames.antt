-- The value of an enum that a word is, by the token that declares it.
use Rattle.std.proofs.Common.{◌≡◌, ◌≢◌, ◌↔◌, ℕ, ◌<◌, true, false, List, [], length, get_or, map, find, Option, Some, None, option_map, option_and_then, refl, sym, ap, ap₂, subst, ◌∙◌, bytes_eq, Contains, true≢false}
use Rattle.proto_base.proofs.Common.{Contains-get_or, contains_map, from_map, none-some, same_Some, same_from_word, word_from_same}
use Rattle.proto_case.specs.Camel.{entry_name}
use Rattle.proto_tree.specs.declared.tree.Value.{Value as ValueParts}
use Rattle.proto_files.proofs.Common.{HasNoFault, FileOf, ReadOf, AreRead, read_at}
use Rattle.proto_names_rules.specs.declared.kind.Kind.TheVariants.{Package, Enum}
use Rattle.proto_names_rules.proofs.Common.{At, at, ArePlain, Declared, Symbol, is_package, joined, joined_apart, name_of, place_from, place_of, symbol_of}
use Rattle.proto_names_imports.proofs.Common.{LinkFaults, link_skeleton, names_of_files, text_of, names_are_plain}
use Rattle.proto_names.proofs.Common.{IsLinkRead, LinkOf, NameOf, name_at, name_text}
use Rattle.proto_ast.specs.Parts.{BlockOf, blocks_in, values_in}
use Rattle.proto_resolved.specs.SceneOf.{is_enum_at}
use Rattle.proto_edit_rename_laws.proofs.Common.{HasEnum, HasValue, IsEnumOf, IsNamed, Target, find_there, place_last}
use Rattle.proto_edit_rename_laws.proofs.Declarations.{ends_with_token, is_written}
use Rattle.proto_edit_rename_laws.proofs.TokenRoles.{tokens_have_roles}
use Rattle.proto_edit_captures.proofs.ByTexts.{named_at}
use Rattle.proto_names_at.specs.Defaults.{value_in, value_of_enum}
use Rattle.proto_names_at.specs.NamesAt.{DeclaresName}
use Rattle.proto_names_at.proofs.DeclaredNames.{symbol_declared}
use Rattle.proto_names_at.proofs.DefaultFields.{none_found}

-- ---- a value among blocks

record ValueFound (text : ℕ → List ℕ) (word : List ℕ) (token : ℕ) (bs : List BlockOf) (v : ℕ) : Type 0 where
  b : BlockOf
  block : find (λ b. is_enum_at token b.header) bs ≡ Some b
  x : ValueParts
  value : Contains (values_in b.within) x
  word_is : text x.name ≡ word
  name_is : x.name ≡ v

found_value : (text : ℕ → List ℕ) (word : List ℕ) (token : ℕ) (bs : List BlockOf) (v : ℕ) → value_of_enum text word token bs ≡ Some v → ValueFound text word token bs v
found_value text word token bs v e = by_block (find (λ b. is_enum_at token b.header) bs) refl e
  where
    by_value : (b : BlockOf) → find (λ b. is_enum_at token b.header) bs ≡ Some b → (o : Option ValueParts) → find (λ y. bytes_eq (text y.name) word) (values_in b.within) ≡ o → option_map (λ (y : ValueParts). y.name) o ≡ Some v → ValueFound text word token bs v
    by_value b q None f h = absurd (none-some v h)
    by_value b q (Some x) f h =
        let t = find_there (λ (y : ValueParts). bytes_eq (text y.name) word) (values_in b.within) x f in
        record { b = b; block = q; x = x; value = t.0; word_is = word_from_same (text x.name) word t.1; name_is = same_Some x.name v h }

    by_block : (o : Option BlockOf) → find (λ b. is_enum_at token b.header) bs ≡ o → option_and_then (λ b. value_in text word b.within) o ≡ Some v → ValueFound text word token bs v
    by_block None q h = absurd (none-some v h)
    by_block (Some b) q h = by_value b q (find (λ (y : ValueParts). bytes_eq (text y.name) word) (values_in b.within)) refl h

-- where the enum has a value with the word, one is found
some_value : (text : ℕ → List ℕ) (word : List ℕ) (token : ℕ) (bs : List BlockOf) (b : BlockOf) → find (λ b. is_enum_at token b.header) bs ≡ Some b → (x : ValueParts) → Contains (values_in b.within) x → text x.name ≡ word → (v : ℕ) × (value_of_enum text word token bs ≡ Some v)
some_value text word token bs b q x cx is = by (find (λ (y : ValueParts). bytes_eq (text y.name) word) (values_in b.within)) refl
  where
    by : (o : Option ValueParts) → find (λ y. bytes_eq (text y.name) word) (values_in b.within) ≡ o → (v : ℕ) × (value_of_enum text word token bs ≡ Some v)
    by None f = absurd (none_found (λ (y : ValueParts). bytes_eq (text y.name) word) (values_in b.within) f x cx (same_from_word (text x.name) word is))
    by (Some y) f = (y.name, ap (option_and_then (λ (c : BlockOf). value_in text word c.within)) q ∙ ap (option_map (λ (z : ValueParts). z.name)) f)

-- ---- the enum

package_is : is_package Package ≡ true
package_is = refl

module _ (files : List FileOf) (reads : List ReadOf) (are : AreRead files reads) (clean : HasNoFault (LinkFaults files)) (l : LinkOf) (link : IsLinkRead files reads l) where
  abbrev text : At → List ℕ
  text = text_of files reads

  -- what the link has of a name that is no package's, as a declaration
  record PlaceOf (n : NameOf) : Type 0 where
    d : Declared At
    declared : Contains (link_skeleton files reads).declared d
    name_is : joined (name_of text entry_name d.path) ≡ n.text
    place_is : at (get_or n.files 0 0) n.token ≡ place_of d

  symbol_at : (row : ℕ) (n : NameOf) → name_at l row ≡ Some n → (s : Symbol) × Contains (names_of_files files reads).symbols s × (joined s.name ≡ n.text) × (s.kind ≡ n.kind) × (s.file ≡ get_or n.files 0 0)
  symbol_at row n is =
      let s = link.by.names.only row (get_or n.files 0 0) n is (Contains-get_or n.files 0 0 (link.by.names.declared row n is)) in
      (s.0, s.1, s.2, s.3, s.4)

  -- a name of the link is of one of the files
  pub file_inside : (row : ℕ) (n : NameOf) → name_at l row ≡ Some n → get_or n.files 0 0 < length files
  file_inside row n is = let s = symbol_at row n is in subst (λ (f : ℕ). f < length files) s.4 (symbol_declared files reads are l link s.0 s.1).0

  place_found : (row : ℕ) (n : NameOf) → name_at l row ≡ Some n → is_package n.kind ≡ false → PlaceOf n
  place_found row n is other =
      let s = symbol_at row n is in
      let d = from_map (symbol_of text entry_name) (link_skeleton files reads).declared s.0 s.1 in
      let named : joined (name_of text entry_name d.0.path) ≡ n.text = ap (λ (z : Symbol). joined z.name) d.2 ∙ s.2 in
      let kind : d.0.kind ≡ n.kind = ap (λ (z : Symbol). z.kind) d.2 ∙ s.3 in
      let differ : d.0.kind ≢ Package = λ e. true≢false (sym package_is ∙ ap is_package (sym e ∙ kind) ∙ other) in
      record { d = d.0; declared = d.1; name_is = named; place_is = link.by.places d.0 d.1 differ row n is (sym named) }

  -- ---- its value

  module _ (enum : List (List ℕ)) (plain : ArePlain enum) (row : ℕ) (n : NameOf) (is : name_at l row ≡ Some n) (said : n.text ≡ joined enum) (place : At) (at_is : at (get_or n.files 0 0) n.token ≡ place) (word : List ℕ) where
    -- a target is the value
    abbrev pub IsValue : List ℕ → Type 0
    IsValue name = (t : Target) × IsNamed files reads name t × (t.enum ≡ Some enum) × (text_of files reads t.token ≡ word)

    value_forth : is_package n.kind ≡ false → (v : ℕ) → value_of_enum (λ t. text (at place.file t)) word place.token (blocks_in (read_at reads place.file).tree) ≡ Some v → (name : List ℕ) → DeclaresName files reads (at place.file v) name → IsValue name
    value_forth other v e name d =
        let p = place_found row n is other in
        let f = found_value (λ t. text (at place.file t)) word place.token (blocks_in (read_at reads place.file).tree) v e in
        let here : place ≡ place_of p.d = sym at_is ∙ p.place_is in
        let found : find (λ (x : BlockOf). is_enum_at (place_of p.d).token x.header) (blocks_in (read_at reads (place_of p.d).file).tree) ≡ Some f.b =
        subst (λ (a : At). find (λ (x : BlockOf). is_enum_at a.token x.header) (blocks_in (read_at reads a.file).tree) ≡ Some f.b) here f.block in
        let within : Contains (map (λ (y : ValueParts). y.name) (values_in f.b.within)) v = subst (Contains (map (λ (y : ValueParts). y.name) (values_in f.b.within))) f.name_is (contains_map (λ (y : ValueParts). y.name) (values_in f.b.within) f.x f.value) in
        let has : HasValue files reads p.d v = record { b = f.b; declared = p.declared; found = found; within = within } in
        let token : at (place_of p.d).file v ≡ d.0.token = ap (λ (a : At). at a.file v) (sym here) ∙ sym d.2 in
        let roles = tokens_have_roles files reads name [] d.0 are clean d.1 in
        let enum_is : name_of text entry_name p.d.path ≡ enum = joined_apart (name_of text entry_name p.d.path) enum (names_are_plain files reads are (symbol_of text entry_name p.d) (contains_map (symbol_of text entry_name) (link_skeleton files reads).declared p.d p.declared)) plain (p.name_is ∙ said) in (
          d.0,
          d.1,
          roles.enums.one p.d v has token ∙ ap (λ (z : List (List ℕ)). Some z) enum_is,
          ap text d.2 ∙ ap (λ (z : ℕ). text (at place.file z)) (sym f.name_is) ∙ f.word_is,
        )

    value_back : (name : List ℕ) → IsValue name → (v : ℕ) × (value_of_enum (λ t. text (at place.file t)) word place.token (blocks_in (read_at reads place.file).tree) ≡ Some v) × DeclaresName files reads (at place.file v) name
    value_back name (t, named, enum_is, word_is) = by t.enum enum_is named.enum_is
      where
        by : (o : Option (List (List ℕ))) → o ≡ Some enum → HasEnum files reads t.aim t.token o → (v : ℕ) × (value_of_enum (λ t. text (at place.file t)) word place.token (blocks_in (read_at reads place.file).tree) ≡ Some v) × DeclaresName files reads (at place.file v) name
        by None q h = absurd (none-some enum q)
        by (Some z) q h =
            let x : IsEnumOf files reads t.token z = h.1 in
            let own : name_of text entry_name x.d.path ≡ enum = x.name_is ∙ same_Some z enum q in
            let differ : x.d.kind ≢ Package = λ e. different (sym x.kind ∙ e) in
            let here : place ≡ place_of x.d = sym at_is ∙ link.by.places x.d x.declared differ row n is (said ∙ ap joined (sym own)) in
            let o = ends_with_token 0 reads x.d x.declared (ap is_written x.kind) in
            let stands : place_of x.d ≡ at x.d.file o.1 = ap (place_from (at x.d.file 0)) o.2 ∙ place_last (at x.d.file 0) o.0 (at x.d.file o.1) in
            let file : place.file ≡ t.token.file = ap (λ (a : At). a.file) (here ∙ stands) ∙ x.file_is in
            let token : place.token ≡ (place_of x.d).token = ap (λ (a : At). a.token) here in
            let there : find (λ (y : BlockOf). is_enum_at (place_of x.d).token y.header) (blocks_in (read_at reads place.file).tree) ≡ Some x.b =
            subst (λ (m : ℕ). find (λ (y : BlockOf). is_enum_at (place_of x.d).token y.header) (blocks_in (read_at reads m).tree) ≡ Some x.b) (sym file) x.found in
            let block : find (λ (y : BlockOf). is_enum_at place.token y.header) (blocks_in (read_at reads place.file).tree) ≡ Some x.b =
            subst (λ (m : ℕ). find (λ (y : BlockOf). is_enum_at m y.header) (blocks_in (read_at reads place.file).tree) ≡ Some x.b) (sym token) there in
            let y = from_map (λ (v : ValueParts). v.name) (values_in x.b.within) t.token.token x.within in
            let its : at place.file y.0.name ≡ t.token = ap₂ (λ (a b : ℕ). at a b) file y.2 in
            let s = some_value (λ v. text (at place.file v)) word place.token (blocks_in (read_at reads place.file).tree) x.b block y.0 y.1 (ap text its ∙ word_is) in
            let f = found_value (λ v. text (at place.file v)) word place.token (blocks_in (read_at reads place.file).tree) s.0 s.1 in
            let found : find (λ (b : BlockOf). is_enum_at (place_of x.d).token b.header) (blocks_in (read_at reads (place_of x.d).file).tree) ≡ Some f.b =
            subst (λ (a : At). find (λ (b : BlockOf). is_enum_at a.token b.header) (blocks_in (read_at reads a.file).tree) ≡ Some f.b) here f.block in
            let within : Contains (map (λ (v : ValueParts). v.name) (values_in f.b.within)) s.0 = subst (Contains (map (λ (v : ValueParts). v.name) (values_in f.b.within))) f.name_is (contains_map (λ (v : ValueParts). v.name) (values_in f.b.within) f.x f.value) in
            let has : HasValue files reads x.d s.0 = record { b = f.b; declared = x.declared; found = found; within = within } in
            let roles = tokens_have_roles files reads name [] t are clean named in
            let word_here : text (at place.file s.0) ≡ word = ap (λ (v : ℕ). text (at place.file v)) (sym f.name_is) ∙ f.word_is in
            let same : text (at (place_of x.d).file s.0) ≡ text t.token = ap (λ (a : At). text (at a.file s.0)) (sym here) ∙ word_here ∙ sym word_is in
            let one : at (place_of x.d).file s.0 ≡ t.token = roles.enums.apart x.d s.0 has (enum_is ∙ ap (λ (e : List (List ℕ)). Some e) (sym own)) same in
            (s.0, s.1, (t, named, sym one ∙ ap (λ (a : At). at a.file s.0) (sym here)))
          where
            different : Enum ≡ Package → ⊥
            different e = cc

    -- the value whose token was found, by the name that it declares
    pub value_named : is_package n.kind ≡ false → (v : ℕ) → value_of_enum (λ t. text_of files reads (at place.file t)) word place.token (blocks_in (read_at reads place.file).tree) ≡ Some v → (found : Option (List ℕ)) → ((name : List ℕ) → (found ≡ Some name) ↔ DeclaresName files reads (at place.file v) name) → (name : List ℕ) → (found ≡ Some name) ↔ IsValue name
    value_named other v e found has name = (
      λ h. value_forth other v e name ((has name).0 h),
      λ x.
          let b = value_back name x in
          let same : b.0 ≡ v = same_Some b.0 v (sym b.1 ∙ e) in
          (has name).1 (subst (λ (z : ℕ). DeclaresName files reads (at place.file z) name) same b.2),
    )

    pub no_value : value_of_enum (λ t. text_of files reads (at place.file t)) word place.token (blocks_in (read_at reads place.file).tree) ≡ None → (name : List ℕ) → IsValue name → ⊥
    no_value e name x = let b = value_back name x in none-some b.0 (sym e ∙ b.1)

  -- no package has values
  pub package_has_none : (enum : List (List ℕ)) (row : ℕ) → name_text l row ≡ Some (joined enum) → ((n : NameOf) → name_at l row ≡ Some n → is_package n.kind ≡ true) → (name : List ℕ) (t : Target) → IsNamed files reads name t → t.enum ≡ Some enum → ⊥
  package_has_none enum row said all name t named is = by t.enum is named.enum_is
    where
      by : (o : Option (List (List ℕ))) → o ≡ Some enum → HasEnum files reads t.aim t.token o → ⊥
      by None q h = none-some enum q
      by (Some z) q h =
          let x : IsEnumOf files reads t.token z = h.1 in
          let m = named_at l row (joined enum) said in
          let s = link.by.names.there (symbol_of text entry_name x.d) (contains_map (symbol_of text entry_name) (link_skeleton files reads).declared x.d x.declared) in
          let own : joined (name_of text entry_name x.d.path) ≡ joined enum = ap joined (x.name_is ∙ same_Some z enum q) in
          let rows : row ≡ s.0 = link.by.names.once row s.0 m.0 s.1 m.1 s.2 (m.2 ∙ sym (s.3 ∙ own)) in
          let same : m.0 ≡ s.1 = same_Some m.0 s.1 (sym m.1 ∙ ap (name_at l) rows ∙ s.2) in
          true≢false (sym (all m.0 m.1) ∙ ap (λ (y : NameOf). is_package y.kind) same ∙ ap is_package (s.4 ∙ x.kind))

-- ---- for the answers

module _ (files : List FileOf) (reads : List ReadOf) (are : AreRead files reads) (clean : HasNoFault (LinkFaults files)) (l : LinkOf) (link : IsLinkRead files reads l) (row : ℕ) where
  -- the file where a name of the link is declared
  pub inside : (n : NameOf) → name_at l row ≡ Some n → (place : At) → at (get_or n.files 0 0) n.token ≡ place → place.file < length files
  inside n is place at_is = subst (λ (f : ℕ). f < length files) (ap (λ (a : At). a.file) at_is) (file_inside files reads are clean l link row n is)

  module _ (enum : List (List ℕ)) (plain : ArePlain enum) (said : name_text l row ≡ Some (joined enum)) (name : List ℕ) where
    abbrev IsIts : List ℕ → Type 0
    IsIts word = (t : Target) × IsNamed files reads name t × (t.enum ≡ Some enum) × (text_of files reads t.token ≡ word)

    -- it is declared nowhere
    pub of_package : ((n : NameOf) → name_at l row ≡ Some n → is_package n.kind ≡ true) → (word : List ℕ) → ◌≡◌ {A = Option (List ℕ)} None (Some name) ↔ IsIts word
    of_package all word = (λ e. absurd (none-some name e), λ t. absurd (package_has_none files reads are clean l link enum row said all name t.0 t.1 t.2))

    module _ (n : NameOf) (is : name_at l row ≡ Some n) (other : is_package n.kind ≡ false) (place : At) (at_is : at (get_or n.files 0 0) n.token ≡ place) (word : List ℕ) where
      text_is : n.text ≡ joined enum
      text_is = same_Some n.text (joined enum) (sym (ap (option_map (λ (z : NameOf). z.text)) is) ∙ said)

      pub of_value : (v : ℕ) → Some v ≡ value_of_enum (λ t. text_of files reads (at place.file t)) word place.token (blocks_in (read_at reads place.file).tree) → (found : Option (List ℕ)) → ((m : List ℕ) → (found ≡ Some m) ↔ DeclaresName files reads (at place.file v) m) → (found ≡ Some name) ↔ IsIts word
      of_value v e found has = value_named files reads are clean l link enum plain row n is text_is place at_is word other v (sym e) found has name

      pub of_no_value : None ≡ value_of_enum (λ t. text_of files reads (at place.file t)) word place.token (blocks_in (read_at reads place.file).tree) → ◌≡◌ {A = Option (List ℕ)} None (Some name) ↔ IsIts word
      of_no_value e = (λ h. absurd (none-some name h), λ t. absurd (no_value files reads are clean l link enum plain row n is text_is place at_is word (sym e) name t))
