-- In linked files, fields of a message that stand at different tokens have different names.
use Rattle.std.proofs.Common.{◌≡◌, ◌≢◌, ℕ, suc, ◌+◌, ◌<◌, ◌⊎◌, None, List, [], ◌∷◌, ◌++◌, length, map, sym, ap, subst, ◌∙◌, inl, inr, arith, AllPairs, Contains}
use Rattle.proto_base.proofs.Common.{map-append, contains_cases, contains_map}
use Rattle.proto_case.specs.Camel.{entry_name}
use Rattle.proto_tree.specs.declared.piece.Header.TheVariants as header
use Rattle.proto_tree.specs.Tree.{Tree}
use Rattle.proto_files.proofs.Common.{AreRead, ReadOf, read_at, FileOf, file_at}
use Rattle.proto_names_rules.specs.declared.kind.Kind.TheVariants as kind
use Rattle.proto_names_rules.proofs.Common.{At, at, all_declared, AreApart, IsLinked, Declared, Source, Token, name_of, shifted_source, spell, symbol_of, file_placed, place, FileAt, declared_to, declares, snoc_parts}
use Rattle.proto_names_outline.specs.FromTree.{items_in}
use Rattle.proto_names_imports.specs.Links.{names_in, names_of_files, text_of}
use Rattle.proto_names_imports.proofs.NumberedFiles.{file_there}
use Rattle.proto_desc_checks_laws.proofs.Common.{IsDeclared, blocks_are_declared}
use Rattle.proto_desc.specs.SceneOf.{lexemes_of, scene_of}
use Rattle.proto_edit_statement_described.specs.Deletions.{FieldNamesDiffer}

-- ---- two of a list

abbrev Pairs : {X : Type 0} → (X → X → Type 0) → List X → Type 0
Pairs R [] = Unit {0}
Pairs {X} R (x ∷ xs) = ((y : X) → Contains xs y → R x y) × Pairs R xs

by_pairs : {X : Type 0} (R : X → X → Type 0) (xs : List X) → AllPairs R xs → Pairs R xs
by_pairs R [] h = tt
by_pairs R (x ∷ xs) h = (
  λ y c. subst (R x) c.2 (h 0 (suc c.0) y (omega arith) (omega (arith, c.1))),
  by_pairs R xs (λ i j d a b. h (suc i) (suc j) d (omega (arith, a)) (omega (arith, b))),
)

of_map : {X Y : Type 0} (R : Y → Y → Type 0) (f : X → Y) (xs : List X) → Pairs R (map f xs) → Pairs (λ x y. R (f x) (f y)) xs
of_map R f [] h = tt
of_map R f (x ∷ xs) h = (λ y c. h.0 (f y) (contains_map f xs y c), of_map R f xs h.1)

-- they are one, or stand in this order or in the other
two : {X : Type 0} (R : X → X → Type 0) (xs : List X) → Pairs R xs → (a b : X) → Contains xs a → Contains xs b → (a ≡ b) ⊎ (R a b ⊎ R b a)
two R [] h a b ca cb = absurd (omega (arith, ca.1))
two {X} R (x ∷ xs) h a b ca cb = go (λ c d. two R xs h.1 a b c d) (contains_cases x a xs ca) (contains_cases x b xs cb)
  where
    go : (Contains xs a → Contains xs b → (a ≡ b) ⊎ (R a b ⊎ R b a)) → (x ≡ a) ⊎ Contains xs a → (x ≡ b) ⊎ Contains xs b → (a ≡ b) ⊎ (R a b ⊎ R b a)
    go on (inl e) (inl f) = inl (sym e ∙ f)
    go on (inl e) (inr c) = inr (inl (subst (λ (z : X). R z b) e (h.0 b c)))
    go on (inr c) (inl f) = inr (inr (subst (λ (z : X). R z a) f (h.0 a c)))
    go on (inr c) (inr d) = on c d

-- ---- names

same_source : (x y : At) → ◌≡◌ {A = Source At} (Token x) (Token y) → x ≡ y
same_source x y h = cc

at_one : (file i j : ℕ) → ◌≡◌ {A = Source At} (Token (at file i)) (Token (at file j)) → i ≡ j
at_one file i j h = ap (λ (x : At). x.token) (same_source (at file i) (at file j) h)

module _ (files : List FileOf) (reads : List ReadOf) (are : AreRead files reads) (linked : IsLinked (names_of_files files reads)) (file : ℕ) (l : file < length files) where
  abbrev said : At → List ℕ
  said = text_of files reads

  abbrev tree : Tree
  tree = (read_at reads file).tree

  -- the declaration of a field with this name token
  abbrev declaration : List (Source ℕ) → ℕ → Declared At
  declaration path token = declares file (place path (Token token) kind.Field)

  -- its name
  name_is : (path : List (Source ℕ)) (token : ℕ) → name_of said entry_name (declaration path token).path ≡ map (spell said entry_name) (map (shifted_source (at file)) path) ++ said (at file token) ∷ []
  name_is path token =
      ap (map (spell said entry_name)) (map-append (shifted_source (at file)) path (Token token ∷ []))
      ∙ map-append (spell said entry_name) (map (shifted_source (at file)) path) (map (shifted_source (at file)) (Token token ∷ []))

  is_there : (path : List (Source ℕ)) (token : ℕ) → Contains (file_placed (items_in tree)) (place path (Token token) kind.Field) → Contains (all_declared 0 (map names_in reads)) (declaration path token)
  is_there path token c =
      let e : 0 + file ≡ file = omega arith in
      declared_to 0 (map names_in reads) file (names_in (read_at reads file)) (subst (λ m. FileAt 0 (map names_in reads) m (names_in (read_at reads file))) e (file_there 0 reads file (omega (arith, l, are.same)))) (place path (Token token) kind.Field) c

  no_package : kind.Field ≡ kind.Package → ⊥
  no_package h = cc

  path_ends : (path : List (Source ℕ)) (k : ℕ) → (declaration path k).path ≡ map (shifted_source (at file)) path ++ Token (at file k) ∷ []
  path_ends path k = map-append (shifted_source (at file)) path (Token k ∷ [])

  same_last : (path : List (Source ℕ)) (i j : ℕ) → declaration path i ≡ declaration path j → i ≡ j
  same_last path i j e =
      let shifted : List (Source At) = map (shifted_source (at file)) path in
      at_one file i j (snoc_parts shifted shifted (Token (at file i)) (Token (at file j)) (sym (path_ends path i) ∙ ap (λ (d : Declared At). d.path) e ∙ path_ends path j)).1

  differ : (path : List (Source ℕ)) (i j : ℕ) → Contains (file_placed (items_in tree)) (place path (Token i) kind.Field) → Contains (file_placed (items_in tree)) (place path (Token j) kind.Field)
      → i ≢ j → said (at file i) ≢ said (at file j)
  differ path i j ci cj apart same =
      let pairs = of_map AreApart (symbol_of said entry_name) (all_declared 0 (map names_in reads)) (by_pairs AreApart (map (symbol_of said entry_name) (all_declared 0 (map names_in reads))) linked.unique) in
      let names : name_of said entry_name (declaration path i).path ≡ name_of said entry_name (declaration path j).path =
      name_is path i ∙ ap (λ (w : List ℕ). map (spell said entry_name) (map (shifted_source (at file)) path) ++ w ∷ []) same ∙ sym (name_is path j) in
      elim (two (λ (d e : Declared At). AreApart (symbol_of said entry_name d) (symbol_of said entry_name e)) (all_declared 0 (map names_in reads)) pairs (declaration path i) (declaration path j) (is_there path i ci) (is_there path j cj)) [
        | inl e ↦ apart (same_last path i j e)
        | inr (inl r) ↦ no_package (r names).0
        | inr (inr r) ↦ no_package (r (sym names)).0
      ]

pub field_names_differ : (files : List FileOf) (reads : List ReadOf) → AreRead files reads → IsLinked (names_of_files files reads) → (file : ℕ) → file < length files
    → FieldNamesDiffer (scene_of None files reads file) (read_at reads file).tree
field_names_differ files reads are linked file l b h f g cb is cf cg apart =
    let tree : Tree = (read_at reads file).tree in
    let declared : IsDeclared (file_placed (items_in tree)) (header.Message h) b.within =
    subst (λ hd. IsDeclared (file_placed (items_in tree)) hd b.within) is (blocks_are_declared (file_at files file).profile tree (lexemes_of files reads file) (are.trees file l).spells b cb) in
    differ files reads are linked file l (declared.0 ++ Token h.name ∷ []) f.name g.name (declared.2 f cf).0 (declared.2 g cg).0 apart
