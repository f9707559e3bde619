-- What is wrong with the custom options of a file, as the code finds it.
use Rattle.std.proofs.Common.{◌≡◌, ℕ, ◌+◌, ◌<◌, Bool, true, false, not, List, [], ◌∷◌, ◌++◌, length, get_or, take, map, flat_map, Option, Some, None, option_and_then, refl, sym, ap, subst, ◌∙◌, find, All, bytes_eq, append-nil, append_assoc, arith, ◌==◌}
use Rattle.proto_base.proofs.Common.{All-contains, both_ways, Contains-get_or, contains_map, flat_map_more, list_any, list_any_at, map-append, none-some, take_more}
use Rattle.std.specs.Global.{Vec}
use Rattle.proto_base.specs.declared.fault.FaultKind.TheVariants as kind
use Rattle.proto_base.specs.declared.profile.Profile.{Profile}
use Rattle.proto_base.specs.declared.profile.Profile.TheVariants as profile
use Rattle.proto_custom_options.specs.CustomOptions.{CoreTreesHaveNoCustom, CustomOf, customs_in, options_text}
use Rattle.proto_custom_options.specs.Views.{custom_of}
use Rattle.proto_custom_options.specs.declared.custom_options.CustomAt.{CustomAt}
use Rattle.proto_files.proofs.Common.{AreRead, FileOf, ReadOf, file_at, read_at}
use Rattle.proto_names_rules.proofs.Common.{ArePlain, At, Declared, at, place_of}
use Rattle.proto_names.proofs.Common.{IsLinkRead, LinkOf}
use Rattle.proto_names.specs.Links.{uses_of}
use Rattle.proto_ast.proofs.Common.{blocks_in, past}
use Rattle.proto_desc_numbers.specs.declared.flaw.Flaw.{Flaw}
use Rattle.proto_desc_numbers.proofs.Common.{flaw_if}
use Rattle.proto_resolved.specs.SceneOf.{declared_as}
use Rattle.proto_tree.proofs.Common.{ReadsIn}
use Rattle.proto_tree.specs.References.{first_of}
use Rattle.proto_tree.specs.declared.tree.Reference.{Reference}
use Rattle.proto_desc_extensions.specs.Common.{AreNumberFlaws, AreWorkspaceFlaws, IsOfOneWord, extended_at, extended_by, extendee_in, extendee_meant, has_extension_at, is_an_option, is_as_written, is_written, meant_text, name_meant, not_an_option, number_flaws, option_extends, custom_flaws}
use Rattle.proto_desc_extensions.proofs.Extendees.{MeantName}
use Rattle.proto_desc_extensions.proofs.OptionTexts.{are_of_one_word, same_message}
use Rattle.proto_desc_extensions.proofs.WorkspaceNumbers.{plain_name}

-- ---- what the extension extends

module _ (files : List FileOf) (reads : List ReadOf) (l : LinkOf) (link : IsLinkRead files reads l) where
  pub extends_none : (file : ℕ) (r : Reference) → name_meant files reads file r ≡ None → option_extends files reads file r ≡ None
  extends_none file r e = ap (option_and_then (extended_by files reads)) e

  -- the extension stands where the link has it
  pub extends_there : (file : ℕ) (within : file < length files) (r : Reference) (row : ℕ) (m : MeantName files reads l link file within r row)
      → extended_at files reads (at (get_or m.has.files 0 0) m.has.token) ≡ option_extends files reads file r
  extends_there file within r row m =
      ap (extended_at files reads) m.placed.place
      ∙ sym (ap (option_and_then (extended_by files reads)) m.is
      ∙ ap (option_and_then (λ (d : Declared At). extended_at files reads (place_of d))) m.placed.is)

  -- ---- it is a plain name

  through : {A B : Type 0} (f : A → Option B) (o : Option A) (b : B) → option_and_then f o ≡ Some b → (a : A) × (f a ≡ Some b)
  through f None b e = absurd (none-some b e)
  through f (Some a) b e = (a, e)

  extends_plain : (file : ℕ) (r : Reference) (name : List (List ℕ)) → option_extends files reads file r ≡ Some name → ArePlain name
  extends_plain file r name e =
      let by_name = through (extended_by files reads) (name_meant files reads file r) name e in
      let d = through (λ (d : Declared At). extended_at files reads (place_of d)) (declared_as files reads by_name.0) name by_name.1 in
      let a : At = place_of d.0 in
      let b = through (extendee_meant files reads a.file) (find (has_extension_at a.token) (blocks_in (read_at reads a.file).tree)) name d.1 in
      let s = through (name_meant files reads a.file) (extendee_in b.0.header) name b.1 in
      plain_name files reads l link a.file (find (λ u. u.first == first_of s.0.dot s.0.words) (uses_of reads a.file)) name s.1

  -- so its text tells whether it is the options message
  pub option_told : (file : ℕ) (c : CustomOf) → IsOfOneWord c → (text : List ℕ) → text ≡ meant_text (option_extends files reads file c.custom.name)
      → bytes_eq text (options_text c.message) ≡ is_an_option files reads file c
  option_told file c one text e =
      ap (λ (t : List ℕ). bytes_eq t (options_text c.message)) e
      ∙ same_message c.message one (option_extends files reads file c.custom.name) (extends_plain file c.custom.name)

-- ---- options one by one

module _ (files : List FileOf) (reads : List ReadOf) (file : ℕ) where
  abbrev flaw_of : CustomOf → List Flaw
  flaw_of c = flaw_if (not (is_an_option files reads file c)) kind.NotAnOption (first_of c.custom.name.dot c.custom.name.words)

  pub of_one_word : (options : List CustomAt) (i : ℕ) (d : CustomAt) → i < length options → d ≡ get_or options i d → All IsOfOneWord (map custom_of options) → IsOfOneWord (custom_of d)
  of_one_word options i d l is all =
      subst (λ (x : CustomAt). IsOfOneWord (custom_of x)) (sym is)
      (All-contains IsOfOneWord (map custom_of options) (custom_of (get_or options i d)) all
      (contains_map custom_of options (get_or options i d) (Contains-get_or options i d l)))

  pub option_turn : (options : List CustomAt) (i : ℕ) (d : CustomAt) → i < length options → d ≡ get_or options i d → (is_wrong : Bool) (token : ℕ) (start found next : List Flaw)
      → is_wrong ≡ not (is_an_option files reads file (custom_of d)) → token ≡ first_of d.custom.now.name.dot d.custom.now.name.words
      → found ≡ start ++ not_an_option files reads file (map custom_of (take i options)) → next ≡ found ++ flaw_if is_wrong kind.NotAnOption token
      → next ≡ start ++ not_an_option files reads file (map custom_of (take (i + 1) options))
  option_turn options i d l is is_wrong token start found next wrong place before new =
      let front : List CustomOf = map custom_of (take i options) in
      new
      ∙ ap (λ (b : Bool). found ++ flaw_if b kind.NotAnOption token) wrong
      ∙ ap (λ (t : ℕ). found ++ flaw_if (not (is_an_option files reads file (custom_of d))) kind.NotAnOption t) place
      ∙ ap (λ (fs : List Flaw). fs ++ flaw_of (custom_of d)) before
      ∙ append_assoc start (flat_map flaw_of front) (flaw_of (custom_of d))
      ∙ ap (λ (fs : List Flaw). start ++ fs)
      (flat_map_more flaw_of [] front (custom_of d)
      ∙ ap (λ (x : CustomAt). flat_map flaw_of (front ++ custom_of x ∷ [])) is
      ∙ ap (flat_map flaw_of) (sym (ap (map custom_of) (take_more options i d l) ∙ map-append custom_of (take i options) (get_or options i d ∷ []))))

  -- the options of a file
  pub of_options : (options : List CustomAt) → map custom_of options ≡ customs_in (read_at reads file).tree → All IsOfOneWord (map custom_of options)
  of_options options is = subst (All IsOfOneWord) (sym is) (are_of_one_word (read_at reads file).tree)

  pub options_are : (options : List CustomAt) → map custom_of options ≡ customs_in (read_at reads file).tree → not_an_option files reads file (map custom_of options) ≡ custom_flaws files reads file
  options_are options is = ap (not_an_option files reads file) is

-- ---- files of the core language

-- such a file has no custom option
pub core_has_none : CoreTreesHaveNoCustom → (files : List FileOf) (reads : List ReadOf) → AreRead files reads → (file : ℕ) → file < length files → (file_at files file).profile ≡ profile.Core → customs_in (read_at reads file).tree ≡ []
core_has_none law files reads are file within core =
    let r = read_at reads file in
    law (file_at files file).bytes r.tokens r.tree (subst (λ (p : Profile). ReadsIn p (file_at files file).bytes r.tokens r.tree) core (are.trees file within))

core_if : (p : Profile) → is_as_written p ≡ false → p ≡ profile.Core
core_if profile.Core e = refl
core_if profile.AsWritten e = absurd (cc)

none_written : (files : List FileOf) → list_any is_written files ≡ false → (file : ℕ) → file < length files → (file_at files file).profile ≡ profile.Core
none_written files none file l = core_if (file_at files file).profile (go (is_written (file_at files file)) refl)
  where
    go : (b : Bool) → is_written (file_at files file) ≡ b → is_written (file_at files file) ≡ false
    go false e = e
    go true e = absurd (both_ways (list_any is_written files) none (list_any_at is_written files file _ l e))

-- where no file is as written, nothing is wrong with options
pub numbers_alone : CoreTreesHaveNoCustom → (files : List FileOf) → list_any is_written files ≡ false → (found : List (Vec Flaw)) → AreNumberFlaws files found → AreWorkspaceFlaws files found
numbers_alone law files none found are_numbers = record {
  len = are_numbers.len;
  each = λ reads are k d l.
      let within : k < length files = omega (arith, l, are_numbers.len) in
      are_numbers.each reads are k d l
      ∙ sym (ap (λ (cs : List CustomOf). number_flaws (Some past) files reads k ++ not_an_option files reads k cs) (core_has_none law files reads are k within (none_written files none k within))
      ∙ append-nil (number_flaws (Some past) files reads k));
}
