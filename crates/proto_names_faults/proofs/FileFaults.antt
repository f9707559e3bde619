-- The faults of the references of a file by its listing are those of its tree, and those of all files are those of the references.
use Rattle.std.proofs.Common.{◌≡◌, ◌↔◌, ◌⊎◌, ℕ, ◌+◌, ◌<◌, Bool, List, [], length, get_or, map, refl, sym, ◌∙◌, ap, subst, inl, inr, arith, All, Contains}
use Rattle.proto_base.proofs.Common.{Vec, get_or-map as get_or-map_within, get_or_default, Contains-get_or, cases_eq, contains_map, from_map, length-map}
use Rattle.std.proofs.Math.ListN.{get_or-map}
use Rattle.proto_text.proofs.Common.{AreTokens, Lexeme, lexeme_at, one_token_list, word_at, words}
use Rattle.proto_base.specs.declared.profile.Profile.{Profile}
use Rattle.proto_text.specs.declared.lexer.Token.{Token}
use Rattle.proto_tree.proofs.Common.{ReadsIn, dotted}
use Rattle.proto_tree.specs.Tree.{End}
use Rattle.proto_files.proofs.Common.{AreRead, FileOf, ReadOf, file_at, one_reading, read_at}
use Rattle.proto_case.specs.Camel.{entry_name}
use Rattle.proto_names_rules.proofs.Common.{ArePlain, At, Fault, FileNames, MarksSeen, Placed, Reference, ReferenceFault, Skeleton, Source, Used, Workspace, at, fault, map_map, name_of, shifted_source}
use Rattle.proto_names_outline.proofs.Common.{path_at, path_of, read, used_by, uses_plain, whole}
use Rattle.proto_names_outline.specs.declared.listing.Above.{Above}
use Rattle.proto_names_outline.specs.declared.listing.Above.TheVariants.{Below, Outermost}
use Rattle.proto_names_outline.specs.declared.listing.Listing.{Listing}
use Rattle.proto_names_outline.specs.declared.listing.Use.{Use}
use Rattle.proto_names_imports.proofs.Common.{IsListing, link_imports, link_skeleton, name_in, names_in, names_of_files, text_of}
use Rattle.proto_names_table.specs.Naming.{ReferenceFlaw, used_named}
use Rattle.proto_names_table.specs.declared.table.Table.{Table}
use Rattle.proto_names_table.proofs.UseFaults.{use_faults}
use Rattle.proto_names_update.specs.NamesOfFiles.{declared_names}
use Rattle.proto_names.specs.FileReferences.{AreLinked, IsFileLinked}
use Rattle.proto_names.specs.Referring.{reference_by, scope_above}
use Rattle.proto_names_faults.specs.Common.{AreAdded, AreFlawsOf, AreRowsOf, Flaw, IsFaultBefore, IsFaultIn, IsListedFault}
use Rattle.proto_names_faults.proofs.Added.{added_as, flaws_as, flaws_more}

-- ---- the references of a file

module _ (text : At → List ℕ) (file : ℕ) (ds : List Placed) where
  abbrev own : ℕ → List ℕ
  own i = text (at file i)

  abbrev full : List (Source ℕ) → List (List ℕ)
  full path = name_of own entry_name path

  scope_is : (a : Above) → scope_above (map (λ p. full (whole p)) ds) a ≡ name_of text entry_name (map (shifted_source (at file)) (path_at ds a))
  scope_is Outermost = refl
  scope_is (Below k) =
      ap (λ (z : List (List (List ℕ))). get_or z k []) (sym (map_map whole full ds))
      ∙ get_or-map full (map whole ds) k []
      ∙ sym (name_in text file (path_of ds k))

  -- a reference by the list is the one by the tree
  same_reference : (u : Use) → reference_by file (map (λ p. full (whole p)) ds) own u ≡ used_named text file (used_by ds u)
  same_reference u =
      let words = sym (map_map (at file) text (dotted u.reference.now.words)) in
      λ i. record (used_named text file (used_by ds u)) { scope = scope_is u.scope i; words = words i }

module _ (files : List FileOf) (reads : List ReadOf) (file : ℕ) (l : Listing) (is : IsListing (read_at reads file) l) where
  abbrev w : Workspace
  w = names_of_files files reads

  abbrev text : At → List ℕ
  text = text_of files reads

  abbrev ds : List Placed
  ds = read l.declared.items

  abbrev by : Use → Reference
  by = reference_by file (declared_names files reads file) (λ i. text (at file i))

  abbrev named : Used ℕ → Reference
  named = used_named text file

  same : (u : Use) → by u ≡ named (used_by ds u)
  same u =
      ap (λ (z : List Placed). reference_by file (map (λ p. name_of (λ i. text (at file i)) entry_name (whole p)) z) (λ i. text (at file i)) u) (sym is.declared)
      ∙ same_reference text file ds u

  -- a fault by the list is one by the tree
  file_faults : (f : Fault) → IsListedFault w by file l.used.items f ↔ IsFaultIn files reads file f
  file_faults f = (forth, back)
    where
      forth : IsListedFault w by file l.used.items f → IsFaultIn files reads file f
      forth h = record {
        one = used_by ds h.one;
        number = h.number;
        there = subst (λ (z : List (Used ℕ)). Contains z (used_by ds h.one)) is.used (contains_map (used_by ds) l.used.items h.one h.there);
        flaw = subst (λ (r : Reference). ReferenceFlaw w r h.number) (same h.one) h.flaw;
        is = h.is;
      }

      back : IsFaultIn files reads file f → IsListedFault w by file l.used.items f
      back h =
          let c = from_map (used_by ds) l.used.items h.one (subst (λ (z : List (Used ℕ)). Contains z h.one) (sym is.used) h.there) in
          record {
            one = c.0;
            number = h.number;
            there = c.1;
            flaw = subst (λ (r : Reference). ReferenceFlaw w r h.number) (sym (same c.0 ∙ ap named c.2)) h.flaw;
            is = h.is ∙ ap (λ (z : Used ℕ). fault (at file z.first) h.number) (sym c.2);
          }

-- the words of a listing's references are plain
pub words_plain : (profile : Profile) (bytes : List ℕ) (r : ReadOf) (l : Listing) → ReadsIn profile bytes r.tokens r.tree → IsListing r l → All (λ u. ArePlain (map (words bytes r.tokens) (dotted u.reference.now.words))) l.used.items
words_plain profile bytes r l x is = λ k d m.
    (let u = get_or l.used.items k d in
    (uses_plain profile bytes r.tokens r.tree x (used_by (read l.declared.items) u)
    (subst (λ (z : List (Used ℕ)). Contains z (used_by (read l.declared.items) u)) is.used (contains_map (used_by (read l.declared.items)) l.used.items u (Contains-get_or l.used.items k d m)))).0)

-- with the words of the tokens as another read of the file has them
module _ (files : List FileOf) (reads : List ReadOf) (are : AreRead files reads) (file : ℕ) (within : file < length files) (r : ReadOf) (reading : ReadsIn (file_at files file).profile (file_at files file).bytes r.tokens r.tree) (l : Listing) (is : IsListing r l)
    (tokens : List Token) (tokens_are : AreTokens (file_at files file).bytes tokens) (ls : List Lexeme) (words_are : ls ≡ map (lexeme_at (file_at files file).bytes) tokens) where
  abbrev reference : List Lexeme → Use → Reference
  reference z = reference_by file (declared_names files reads file) (word_at z)

  same_listing : IsListing (read_at reads file) l
  same_listing = subst (λ (z : ReadOf). IsListing z l) (one_reading (file_at files file).profile (file_at files file).bytes r (read_at reads file) reading (are.trees file within)) is

  same_words : ls ≡ map (lexeme_at (file_at files file).bytes) (read_at reads file).tokens
  same_words = words_are
      ∙ ap (map (lexeme_at (file_at files file).bytes)) (one_token_list (file_at files file).bytes tokens (read_at reads file).tokens tokens_are (are.tokens file within))

  pub listed_added : (us : List Use) → us ≡ l.used.items → (old new : List Flaw) → AreAdded (IsListedFault (names_of_files files reads) (reference ls) file us) old new → AreAdded (IsFaultIn files reads file) old new
  listed_added us e old new a =
      added_as (IsListedFault (names_of_files files reads) (reference (map (lexeme_at (file_at files file).bytes) (read_at reads file).tokens)) file l.used.items) (IsFaultIn files reads file) old new
      (file_faults files reads file l same_listing)
      (subst (λ z. AreAdded (IsListedFault (names_of_files files reads) (reference z) file l.used.items) old new) same_words
      (subst (λ z. AreAdded (IsListedFault (names_of_files files reads) (reference ls) file z) old new) e a))

-- ---- by what references are read

are_linked : (files : List FileOf) (reads : List ReadOf) (t : Table) (seen : List (List Bool)) (rows : List (Vec ℕ))
    → ((k : ℕ) → k < length files → MarksSeen (names_of_files files reads) k (get_or seen k [])) → AreRowsOf files reads t rows → AreLinked t seen rows files reads
are_linked files reads t seen rows marks names k l = record {
  index = names.index;
  marks = marks k l;
  paired = names.counts k l;
  plain = names.plain k l;
  named = λ j m. names.named k j l m;
}

-- so it is with what files see, where it was handed on
pub linked_by : (files : List FileOf) (reads : List ReadOf) (t : Table) (seen given : List (List Bool)) (rows : List (Vec ℕ)) → given ≡ seen
    → ((k : ℕ) → k < length files → MarksSeen (names_of_files files reads) k (get_or seen k [])) → AreRowsOf files reads t rows → AreLinked t given rows files reads
linked_by files reads t seen given rows e marks names =
    are_linked files reads t given rows (subst (λ (vs : List (List Bool)). (k : ℕ) → k < length files → MarksSeen (names_of_files files reads) k (get_or vs k [])) (sym e) marks) names

-- what is said of each file is said of one by what it sees and its rows
pub linked_at : (t : Table) (seen : List (List Bool)) (rows : List (Vec ℕ)) (files : List FileOf) (reads : List ReadOf) → AreLinked t seen rows files reads → (file : ℕ) → file < length files → length seen ≡ length files → length rows ≡ length files
    → (sees : List Bool) → sees ≡ get_or seen file sees → (r : Vec ℕ) → r ≡ get_or rows file r → (own : List ℕ) → own ≡ r.items → IsFileLinked t sees own files reads file
linked_at t seen rows files reads linked file l n m sees sees_is r r_is own own_are =
    let sees_at = sym (sees_is ∙ get_or_default seen file sees [] (omega (arith, l, n))) in
    let rows_at = get_or-map_within (λ z. z.items) rows file r [] (omega (arith, l, m)) ∙ ap (λ z. z.items) (sym r_is) ∙ sym own_are in
    subst (λ z. IsFileLinked t sees z files reads file) rows_at
    (subst (λ z. IsFileLinked t z (get_or (map (λ z. z.items) rows) file []) files reads file) sees_at (linked file l))

-- ---- the references of all files

module _ (files : List FileOf) (reads : List ReadOf) (are : AreRead files reads) where
  abbrev skeleton : Skeleton At
  skeleton = link_skeleton files reads

  here : (file : ℕ) (g : FileNames) → file < length files → get_or (map names_in reads) file g ≡ names_in (read_at reads file)
  here file g l = get_or-map_within names_in reads file (record { tokens = []; tree = End }) g (omega (arith, l, are.same))

  -- a fault in one of the files is one of the references
  all_faults : (f : Fault) → IsFaultBefore files reads (length files) f ↔ ReferenceFault (text_of files reads) skeleton f
  all_faults f = (forth, back)
    where
      forth : IsFaultBefore files reads (length files) f → ReferenceFault (text_of files reads) skeleton f
      forth h =
          let file = h.0 in
          let x = h.2 in
          (use_faults (text_of files reads) (link_imports files reads) (map names_in reads) f).1
          (record {
            file = file;
            names = names_in (read_at reads file);
            one = x.one;
            number = x.number;
            within = let l = h.1 in omega (arith, l, length-map reads names_in, are.same);
            here = here file (names_in (read_at reads file)) h.1;
            used = x.there;
            flaw = x.flaw;
            is = x.is;
          })

      back : ReferenceFault (text_of files reads) skeleton f → IsFaultBefore files reads (length files) f
      back h =
          let x = (use_faults (text_of files reads) (link_imports files reads) (map names_in reads) f).0 h in
          let l : x.file < length files = omega (arith, x.within, length-map reads names_in, are.same) in (
            x.file,
            l,
            record {
              one = x.one;
              number = x.number;
              there = subst (λ (z : FileNames). Contains z.used x.one) (sym x.here ∙ here x.file x.names l) x.used;
              flaw = x.flaw;
              is = x.is;
            },
          )

  one_file : (k : ℕ) (f : Fault) → (IsFaultBefore files reads k f ⊎ IsFaultIn files reads k f) ↔ IsFaultBefore files reads (k + 1) f
  one_file k f = (
    λ h. elim h [ inl b ↦ (b.0, (let l = b.1 in omega (arith, l)), b.2) | inr i ↦ (k, omega arith, i) ],
    λ b. elim (cases_eq b.0 k) [
      | inl e ↦ inr (subst (λ (file : ℕ). IsFaultIn files reads file f) e b.2)
      | inr ne ↦ inl (b.0, (let l = b.1 in omega (arith, l, ne)), b.2)
    ],
  )

  -- the flaws of one file more
  pub file_turn : (k : ℕ) (old new : List Flaw) → AreFlawsOf (IsFaultBefore files reads k) old → AreAdded (IsFaultIn files reads k) old new → AreFlawsOf (IsFaultBefore files reads (k + 1)) new
  file_turn k old new before added = flaws_more (IsFaultBefore files reads k) (IsFaultIn files reads k) (IsFaultBefore files reads (k + 1)) old new (one_file k) before added

  pub no_file : (f : Fault) → IsFaultBefore files reads 0 f → ⊥
  no_file f b = let l = b.1 in omega (arith, l)

  pub all_files : (k : ℕ) (ws : List Flaw) → k ≡ length files → AreFlawsOf (IsFaultBefore files reads k) ws → AreFlawsOf (ReferenceFault (text_of files reads) skeleton) ws
  all_files k ws e h =
      flaws_as (IsFaultBefore files reads (length files)) (ReferenceFault (text_of files reads) skeleton) ws all_faults
      (subst (λ (n : ℕ). AreFlawsOf (IsFaultBefore files reads n) ws) e h)
