-- The references of a file by its listing are those of its tree.
use Rattle.std.proofs.Common.{◌≡◌, ℕ, ◌<◌, Bool, List, [], ◌∷◌, length, get_or, map, refl, sym, ◌∙◌, ap, subst, arith, All, Contains}
use Rattle.proto_base.proofs.Common.{Vec, map-append, get_or-map as get_or-map_within, get_or_default, All-map, Contains-get_or, contains_map}
use Rattle.std.proofs.Math.ListN.{get_or-map}
use Rattle.proto_text.proofs.Common.{one_token_list, words, word_at, Lexeme, lexeme_at, AreTokens}
use Rattle.proto_tree.proofs.Common.{ReadsIn, dotted}
use Rattle.proto_text.specs.declared.lexer.Token.{Token}
use Rattle.proto_files.proofs.Common.{FileOf, file_at, ReadOf, AreRead, read_at, one_reading}
use Rattle.proto_case.specs.Camel.{entry_name}
use Rattle.proto_names.specs.Common.{declared_names, uses_of, AreFileMeant, AreLinked, IsFileLinked, IsFirstFlawed, IsFileReferenceError, reference_by, scope_above, first_token_of_use, IsFaultless, IsFlawed, IsFirstBad, IsReferenceError, AreMeant, BadReference, Meant}
use Rattle.proto_names_rules.proofs.Common.{At, at, ArePlain, Reference, Workspace, Source, Used, name_of, shifted_source, Placed, map_agree, map_map}
use Rattle.proto_names_imports.proofs.Common.{text_of, names_of_files, IsListing, name_in}
use Rattle.proto_names_outline.proofs.Common.{read, whole, path_at, path_of, used_by, uses_plain}
use Rattle.proto_names_table.specs.Naming.{used_named}
use Rattle.proto_names_outline.specs.declared.listing.Above.{Above}
use Rattle.proto_names_outline.specs.declared.listing.Above.TheVariants.{Outermost, Below}
use Rattle.proto_names_outline.specs.declared.listing.Listing.{Listing}
use Rattle.proto_names_outline.specs.declared.listing.Use.{Use}
use Rattle.proto_base.specs.declared.or_no_memory.OrNoMemory.{OrNoMemory}
use Rattle.proto_base.specs.declared.or_no_memory.OrNoMemory.TheVariants as or
use Rattle.proto_names_table.specs.declared.table.Table.{Table}
use Rattle.proto_base.specs.declared.profile.Profile.{Profile}

-- ---- what is read of a file

abbrev pub IsReadOf : List FileOf → ℕ → ReadOf → Type 0
IsReadOf files file r = ReadsIn (file_at files file).profile (file_at files file).bytes r.tokens r.tree

-- ---- the references of a file

module _ (text : At → List ℕ) (file : ℕ) (ds : List Placed) where
  abbrev own : ℕ → List ℕ
  own i = text (at file i)

  abbrev full : List (Source ℕ) → List (List ℕ)
  full path = name_of own entry_name path

  scope_is : (a : Above) → scope_above (map (λ p. full (whole p)) ds) a ≡ name_of text entry_name (map (shifted_source (at file)) (path_at ds a))
  scope_is Outermost = refl
  scope_is (Below k) =
      ap (λ (z : List (List (List ℕ))). get_or z k []) (sym (map_map whole full ds))
      ∙ get_or-map full (map whole ds) k []
      ∙ sym (name_in text file (path_of ds k))

  -- a reference by the list is the one by the tree
  pub same_reference : (u : Use) → reference_by file (map (λ p. full (whole p)) ds) own u ≡ used_named text file (used_by ds u)
  same_reference u =
      let words = sym (map_map (at file) text (dotted u.reference.now.words)) in
      λ i. record (used_named text file (used_by ds u)) { scope = scope_is u.scope i; words = words i }

module _ (files : List FileOf) (reads : List ReadOf) (file : ℕ) (l : Listing) (is : IsListing (read_at reads file) l) where
  abbrev w : Workspace
  w = names_of_files files reads

  abbrev text : At → List ℕ
  text = text_of files reads

  abbrev ds : List Placed
  ds = read l.declared.items

  abbrev by : Use → Reference
  by = reference_by file (declared_names files reads file) (λ i. text (at file i))

  abbrev named : Used ℕ → Reference
  named = used_named text file

  same : (u : Use) → by u ≡ named (used_by ds u)
  same u =
      ap (λ (z : List Placed). reference_by file (map (λ p. name_of (λ i. text (at file i)) entry_name (whole p)) z) (λ i. text (at file i)) u) (sym is.declared)
      ∙ same_reference text file ds u

  all_same : map by l.used.items ≡ map named (uses_of reads file)
  all_same = map_agree by (λ u. named (used_by ds u)) l.used.items (λ u c. same u) ∙ sym (map_map (used_by ds) named l.used.items) ∙ ap (map named) is.used

  all_tokens : map first_token_of_use l.used.items ≡ map (λ u. u.first) (uses_of reads file)
  all_tokens = sym (map_map (used_by ds) (λ u. u.first) l.used.items) ∙ ap (map (λ u. u.first)) is.used

  pub file_meant : (t : Table) (ms : List Meant) → AreMeant t w (map by l.used.items) (map first_token_of_use l.used.items) ms → AreFileMeant t files reads file ms
  file_meant t ms a = subst (λ (z : List ℕ). AreMeant t w (map named (uses_of reads file)) z ms) all_tokens (subst (λ (z : List Reference). AreMeant t w z (map first_token_of_use l.used.items) ms) all_same a)

  first_flawed : (bad : BadReference) → IsFirstBad w by file l.used.items bad → IsFirstFlawed w text file (uses_of reads file) bad
  first_flawed bad b = record {
    before = map (used_by ds) b.before;
    faulty = used_by ds b.faulty;
    behind = map (used_by ds) b.behind;
    parts = sym is.used ∙ ap (map (used_by ds)) b.parts ∙ map-append (used_by ds) b.before (b.faulty ∷ b.behind);
    file_is = b.file_is;
    token_is = b.token_is;
    flawed = subst (λ (r : Reference). IsFlawed w r bad.flaw) (same b.faulty) b.flawed;
    faultless = All-map (λ u. IsFaultless w (named u)) (used_by ds) b.before (λ k d m. subst (IsFaultless w) (same (get_or b.before k d)) (b.faultless k d m));
  }

  pub file_error : (e : OrNoMemory BadReference) → IsReferenceError w by file l.used.items e → IsFileReferenceError files reads file e
  file_error (or.Fault bad) h = first_flawed bad h
  file_error or.NoMemory h = tt

-- the words of a listing's references are plain
pub words_plain : (profile : Profile) (bytes : List ℕ) (r : ReadOf) (l : Listing) → ReadsIn profile bytes r.tokens r.tree → IsListing r l → All (λ u. ArePlain (map (words bytes r.tokens) (dotted u.reference.now.words))) l.used.items
words_plain profile bytes r l x is = λ k d m.
    (let u = get_or l.used.items k d in
    (uses_plain profile bytes r.tokens r.tree x (used_by (read l.declared.items) u)
    (subst (λ (z : List (Used ℕ)). Contains z (used_by (read l.declared.items) u)) is.used (contains_map (used_by (read l.declared.items)) l.used.items u (Contains-get_or l.used.items k d m)))).0)

-- with the words of the tokens as another read of the file has them
module _ (files : List FileOf) (reads : List ReadOf) (are : AreRead files reads) (file : ℕ) (within : file < length files) (r : ReadOf) (reading : IsReadOf files file r) (l : Listing) (is : IsListing r l)
    (source : List ℕ) (tokens : List Token) (source_is : source ≡ (file_at files file).bytes) (tokens_are : AreTokens (file_at files file).bytes tokens) (ls : List Lexeme) (words_are : ls ≡ map (lexeme_at source) tokens) where
  abbrev reference : List Lexeme → Use → Reference
  reference z = reference_by file (declared_names files reads file) (word_at z)

  same_listing : IsListing (read_at reads file) l
  same_listing = subst (λ (z : ReadOf). IsListing z l) (one_reading (file_at files file).profile (file_at files file).bytes r (read_at reads file) reading (are.trees file within)) is

  same_words : ls ≡ map (lexeme_at (file_at files file).bytes) (read_at reads file).tokens
  same_words = words_are ∙ ap (λ (z : List ℕ). map (lexeme_at z) tokens) source_is
      ∙ ap (map (lexeme_at (file_at files file).bytes)) (one_token_list (file_at files file).bytes tokens (read_at reads file).tokens tokens_are (are.tokens file within))

  pub listed_meant : (t : Table) (us : List Use) (ms : List Meant) → us ≡ l.used.items → AreMeant t (names_of_files files reads) (map (reference ls) us) (map first_token_of_use us) ms → AreFileMeant t files reads file ms
  listed_meant t us ms e a =
      file_meant files reads file l same_listing t ms
      (subst (λ z. AreMeant t (names_of_files files reads) (map (reference z) l.used.items) (map first_token_of_use l.used.items) ms) same_words
      (subst (λ z. AreMeant t (names_of_files files reads) (map (reference ls) z) (map first_token_of_use z) ms) e a))

  pub listed_error : (us : List Use) (e : OrNoMemory BadReference) → us ≡ l.used.items → IsReferenceError (names_of_files files reads) (reference ls) file us e → IsFileReferenceError files reads file e
  listed_error us error e a =
      file_error files reads file l same_listing error
      (subst (λ z. IsReferenceError (names_of_files files reads) (reference z) file l.used.items error) same_words
      (subst (λ z. IsReferenceError (names_of_files files reads) (reference ls) file z error) e a))

-- what is said of each file is said of one by what it sees and its rows
pub linked_at : (t : Table) (seen : List (List Bool)) (rows : List (Vec ℕ)) (files : List FileOf) (reads : List ReadOf) → AreLinked t seen rows files reads → (file : ℕ) → file < length files → length seen ≡ length files → length rows ≡ length files
    → (sees : List Bool) → sees ≡ get_or seen file sees → (r : Vec ℕ) → r ≡ get_or rows file r → (own : List ℕ) → own ≡ r.items → IsFileLinked t sees own files reads file
linked_at t seen rows files reads linked file l n m sees sees_is r r_is own own_are =
    let sees_at = sym (sees_is ∙ get_or_default seen file sees [] (omega (arith, l, n))) in
    let rows_at = get_or-map_within (λ z. z.items) rows file r [] (omega (arith, l, m)) ∙ ap (λ z. z.items) (sym r_is) ∙ sym own_are in
    subst (λ z. IsFileLinked t sees z files reads file) rows_at
    (subst (λ z. IsFileLinked t z (get_or (map (λ z. z.items) rows) file []) files reads file) sees_at (linked file l))
