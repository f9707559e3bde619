-- The references of a file that are overtaken, by what is read of it.
use Rattle.std.proofs.Common.{◌≡◌, ◌↔◌, ℕ, ◌+◌, ◌<◌, Bool, true, false, not, ◌&&◌, List, [], ◌∷◌, length, get_or, map, Option, Some, None, refl, sym, ap, subst, ◌∙◌, arith, option_map, AllPairs, Contains}
use Rattle.proto_base.proofs.Common.{and_from, and_parts, not-true, not_from_false, or_nothing, contains_map}
use Rattle.proto_case.specs.Camel.{entry_name}
use Rattle.proto_text.specs.Texts.{words}
use Rattle.proto_files.proofs.Common.{HasNoFault, ReadOf, AreRead, read_at, FileOf, file_at}
use Rattle.proto_names_imports.proofs.Common.{LinkFaults, link_skeleton, names_of_files, text_of, uses_of, name_in, used_named}
use Rattle.proto_names_outline.proofs.Common.{path_at, read, used_by, uses_plain}
use Rattle.proto_names_outline.specs.declared.listing.Listed.{Listed}
use Rattle.proto_names_outline.specs.declared.listing.Use.{Use}
use Rattle.proto_names_rules.proofs.Common.{IsOvertaken, At, at, used_in, ArePlain, IsPlain, joined, IsLinked, Reference, Workspace, meaning, Used, name_of, reference_of, map_map}
use Rattle.proto_names.proofs.Common.{HoldsNames, IsLinkOf, meant_by_link, meant_by_use, TextMeant, LinkOf, name_text, use_there}
use Rattle.proto_names.specs.Linking.{Meant}
use Rattle.proto_edit_rename_laws.proofs.Common.{HasScope, files_are_linked, files_are_woven}
use Rattle.proto_edit_captures.specs.Common.{first_passing, IsFirstOvertaken, Overtakes, SeesMarked, TellsPackages, overtakes_by, overtakes_use, overtakes_words}
use Rattle.proto_edit_captures.proofs.FirstOnes.{none_passes, one_passes}
use Rattle.proto_edit_captures.proofs.Overtaken.{IsPackageIn, back, forth}
use Rattle.proto_edit_captures.proofs.PackagesSeen.{packages_are}
use Rattle.proto_edit_captures.proofs.PlainWords.{has_scope, scope_plain}

module _ (files : List FileOf) (reads : List ReadOf) (are : AreRead files reads) (clean : HasNoFault (LinkFaults files)) (v : Workspace) (marks : List Bool)
    (l : LinkOf) (link : IsLinkOf files l) (file : ℕ) (within : file < length files) (sees : SeesMarked files reads v file marks) (packages : List ℕ → Bool) (tells : TellsPackages files marks packages) where
  abbrev w : Workspace
  w = names_of_files files reads

  abbrev T : At → List ℕ
  T = text_of files reads

  abbrev own : ℕ → List ℕ
  own = words (file_at files file).bytes (read_at reads file).tokens

  abbrev P : Used ℕ → Type 0
  P u = Overtakes files reads v file u

  linked : IsLinked w
  linked = files_are_linked files reads are clean

  names : HoldsNames w l
  names = (link reads are).by.names

  of_packages : (text : List ℕ) → (packages text ≡ true) ↔ IsPackageIn w marks text
  of_packages text = packages_are files reads are marks names.plain packages (tells reads are) text

  there : (u : Used ℕ) → Contains (uses_of reads file) u → Contains (link_skeleton files reads).used (used_in file u)
  there u c =
      let e : 0 + file ≡ file = omega arith in
      let s = are.same in
      subst (λ m. Contains (link_skeleton files reads).used (used_in m u)) e (use_there 0 reads file u (omega (arith, within, s)) c)

  module _ (declared : List Listed) (u : Use) (c : Contains (uses_of reads file) (used_by (read declared) u)) where
    abbrev x : Used ℕ
    x = used_by (read declared) u

    abbrev q : Reference
    q = used_named T file x

    abbrev p : List ℕ
    p = own u.reference.now.words.first

    abbrev rest : List (List ℕ)
    rest = map (λ b. own b.item) u.reference.now.words.rest

    words_are : q.words ≡ p ∷ rest
    words_are = ap (λ (z : List (List ℕ)). p ∷ z) (map_map (at file) T (map (λ b. b.item) u.reference.now.words.rest) ∙ map_map (λ b. b.item) own u.reference.now.words.rest)

    scope_is : q.scope ≡ name_of own entry_name (path_at (read declared) u.scope)
    scope_is = name_in T file (path_at (read declared) u.scope)

    scoped : HasScope w q
    scoped = has_scope T entry_name (link_skeleton files reads) (files_are_woven files reads are) (used_in file x) (there x c)

    word_plain : IsPlain p
    word_plain = (uses_plain (file_at files file).profile (file_at files file).bytes (read_at reads file).tokens (read_at reads file).tree (are.trees file within) x c).0.0

    has_meaning : (m : List (List ℕ)) × (meaning w q ≡ Some m)
    has_meaning = by (meaning w q) refl
      where
        by : (o : Option (List (List ℕ))) → meaning w q ≡ o → (m : List (List ℕ)) × (meaning w q ≡ Some m)
        by None h = absurd (linked.resolved q (contains_map (reference_of T entry_name) (link_skeleton files reads).used (used_in file x) (there x c)) h)
        by (Some m) h = (m, h)

    abbrev answer : List (List ℕ) → Bool
    answer m = overtakes_words l marks packages q.wants q.scope p rest (joined m)

    plain : ArePlain q.scope
    plain = scope_plain w q names.plain scoped

    to_overtaken : (m : List (List ℕ)) → meaning w q ≡ Some m → q.is_absolute ≡ false → answer m ≡ true → IsOvertaken w v q
    to_overtaken m means = forth w v l file marks packages names linked.unique (ap (λ (z : Workspace). z.symbols) sees.imports) sees.seen of_packages q refl plain p rest words_are word_plain m means

    from_overtaken : (m : List (List ℕ)) → meaning w q ≡ Some m → IsOvertaken w v q → (q.is_absolute ≡ false) × (answer m ≡ true)
    from_overtaken m means = back w v l file marks packages names linked.unique (ap (λ (z : Workspace). z.symbols) sees.imports) sees.seen of_packages q refl plain p rest words_are word_plain m means

    -- the code's answer
    answer_is : (m : List (List ℕ)) → overtakes_use l marks packages own declared u (joined m) ≡ (not q.is_absolute && answer m)
    answer_is m = ap (λ (s : List (List ℕ)). not q.is_absolute && overtakes_words l marks packages q.wants s p rest (joined m)) (sym scope_is)

    decided : (y : Meant) → meant_by_link l y ≡ meant_by_use files reads file x
        → (overtakes_by l marks packages own declared u y ≡ true → P x) × (P x → overtakes_by l marks packages own declared u y ≡ true)
    decided y same =
        let m = has_meaning in
        let text : name_text l y.row ≡ Some (joined m.0) = ap (λ (z : TextMeant). z.text) same ∙ ap (option_map joined) m.1 in
        let is : overtakes_by l marks packages own declared u y ≡ (not q.is_absolute && answer m.0) = ap (λ o. overtakes_use l marks packages own declared u (or_nothing o)) text ∙ answer_is m.0 in (
          (λ h.
              let k = and_parts (not q.is_absolute) (answer m.0) (sym is ∙ h) in
              (c, to_overtaken m.0 m.1 (not-true q.is_absolute k.0) k.1)),
          λ h.
              let k = from_overtaken m.0 m.1 h.1 in
              is ∙ and_from (not q.is_absolute) (answer m.0) (not_from_false q.is_absolute k.0) k.1,
        )

  -- the first of a file's list
  pub first_is : (declared : List Listed) (us : List Use) (ms : List Meant) → map (used_by (read declared)) us ≡ uses_of reads file → ms ≡ get_or l.meant file []
      → (first : Option ℕ) → first ≡ first_passing (overtakes_by l marks packages own declared) us ms → IsFirstOvertaken files reads v file first
  first_is declared us ms uses meant first h = by first (sym h)
    where
      means : map (meant_by_link l) ms ≡ map (meant_by_use files reads file) (map (used_by (read declared)) us)
      means = ap (map (meant_by_link l)) meant ∙ ((link reads are).means file within).texts ∙ ap (map (meant_by_use files reads file)) (sym uses)

      rising : AllPairs (λ a b. a.token < b.token) ms
      rising = subst (AllPairs (λ (a b : Meant). a.token < b.token)) (sym meant) ((link reads are).means file within).rising

      each : (u : Use) → Contains us u → (y : Meant) → meant_by_link l y ≡ meant_by_use files reads file (used_by (read declared) u)
          → (overtakes_by l marks packages own declared u y ≡ true → P (used_by (read declared) u)) × (P (used_by (read declared) u) → overtakes_by l marks packages own declared u y ≡ true)
      each u cu = decided declared u (subst (λ (z : List (Used ℕ)). Contains z (used_by (read declared) u)) uses (contains_map (used_by (read declared)) us u cu))

      by : (o : Option ℕ) → first_passing (overtakes_by l marks packages own declared) us ms ≡ o → IsFirstOvertaken files reads v file o
      by None k = λ u p. none_passes files reads l file P (overtakes_by l marks packages own declared) (used_by (read declared)) us ms means each k u (subst (λ (z : List (Used ℕ)). Contains z u) (sym uses) p.0) p
      by (Some token) k =
          let x = one_passes files reads l file P (overtakes_by l marks packages own declared) (used_by (read declared)) us ms token means rising each k in
          (x.0, x.2, x.3, λ u p before. x.4 u (subst (λ (z : List (Used ℕ)). Contains z u) (sym uses) p.0) before p)
