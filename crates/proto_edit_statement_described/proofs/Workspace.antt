-- The deletion of a field from a workspace, where no case refuses it.
use Rattle.std.proofs.Common.{◌≡◌, ℕ, ◌+◌, ◌<◌, ◌^◌, ◌==◌, false, List, [], ◌∷◌, length, take, drop, map, slice_get, pos, sym, ◌∙◌, ap, ap₂, subst, arith, length-take, lt-ltb, ltb, ◌-◌}
use Rattle.std.proofs.lemmas.Bool.{cases_lt, cond-true}
use Rattle.proto_text.specs.declared.class.Class.TheVariants.{Letter}
use Rattle.proto_text.specs.declared.kind.TokenKind.TheVariants.{Text}
use Rattle.proto_text.specs.declared.lexer.Token.{Token}
use Rattle.proto_text.proofs.Common.{IsRun, moved, quoted, word_at, Lexeme, lexeme_at, StandsFor, value_again}
use Rattle.proto_tree.specs.declared.piece.Statement.{Statement}
use Rattle.proto_tree.proofs.Common.{Move, ReadsIn, Tree, End}
use Rattle.proto_files.proofs.Common.{ReadOf, read_at, FileOf, file_at}
use Rattle.proto_names_rules.proofs.Common.{at, IsLinked}
use Rattle.proto_edit_entries.proofs.Puts.{puts_are_once}
use Rattle.proto_names_imports.specs.Links.{names_of_files}
use Rattle.proto_ast.proofs.Common.{number_value as value_of_digits, string_of, value_or_none}
use Rattle.proto_edit_statement_described.proofs.Common.{lexemes_of, IsDeletedIn, Reservation, Reserves, WrittenField, written_name, written_number, statement_of, IsFileDeletion, scene_at, others_keep_apart, scenes_are_moved, deletions_leave_no_fault, deletions_map_descriptors}
use Rattle.proto_edit_statement_laws.proofs.NoLinkFault.{files_are_linked, read_files_are_clean}
use Rattle.proto_edit_statement_laws.proofs.Common.{IsDeleted, StandsAt, first_token, own, reservation_place, without, LexemesAreMoved, reservation_tokens, word_is_string}
use Rattle.proto_edit_statement_laws.proofs.TextLaws.{Laws as TextLaws}
use Rattle.proto_edit_statement_laws.proofs.ChangesCommon.{DeletionsAreChanges, FieldAt, IsFieldDeleted, changes_of_deletion, name_of_field, field_number_value, with_read, with_text}
use Rattle.proto_edit_statement_laws.proofs.NamesCommon.{IsAlone, last_of_oneof, AreClean, IsFieldLess, MeanTheSame}
use Rattle.proto_edit_statement_laws.proofs.Kept.{deletions_keep_links, deletions_keep_meanings}
use Rattle.proto_edit_statement_described.specs.DeletedScenes.{IsReadWithout}
use Rattle.proto_edit_statement_described.specs.Trees.{HasFellows, reservation_at, to_new, to_old}
use Rattle.proto_edit_statement_described.specs.Workspace.{AreLeft, DeletionsAreDeletions, DeletionsAreLess, DeletionsAreMade, DeletionsAreMapped, DeletionsLeaveFiles, DeletionsLeaveNoFault, DeletionsMeanTheSame, IsAllowedDeletion}
use Rattle.proto_edit_statement_described.proofs.Decimals.{decimals_are_numbers}
use Rattle.proto_edit_statement_described.proofs.Declared.{named, new_text, old_text, other_texts}
use Rattle.proto_edit_statement_described.proofs.Enums.{same_words}
use Rattle.proto_edit_statement_described.proofs.DeletedExtensions.{other_scenes_stay}
use Rattle.proto_edit_statement_laws.proofs.FieldNames.{name_is_word}
use Rattle.proto_edit_statement_described.proofs.OneRead.{around, come_in, here, many, other, paths_stay, read_here, read_other, same_path, same_profile}
use Rattle.proto_edit_statement_described.proofs.OwnTokens.{first_stays, name_apart, reserved_behind, use_apart}
use Rattle.proto_edit_statement_described.proofs.DeletedScenes.{scenes_have_tokens}
use Rattle.proto_edit_statement_described.proofs.SmallNumbers.{numbers_are_small}
use Rattle.proto_edit_statement_described.proofs.Trees.{trees_are_deleted}
use Rattle.proto_edit_statement_described.proofs.Written.{IsWritten, written}

-- the laws of texts and of trees that are called, as one record
pub record Laws : Type 0 where
  pub texts : TextLaws
  pub lexemes : LexemesAreMoved

-- what stands before the place stays
front_stays : (p n : ℕ) → 0 < p → moved p p n 0 ≡ 0
front_stays p n l = cond-true (ltb 0 p) 0 ((0 - p) + (p + n)) (lt-ltb 0 p l)

module _ (laws : Laws) (files : List FileOf) (reads : List ReadOf) (name : List ℕ) (f : FieldAt) (result : List ℕ) (after : List Token) (tree : Tree) (ok : IsAllowedDeletion files reads name f) (fd : IsFieldDeleted files reads f result after tree) where
  abbrev place : ℕ
  place = f.file

  abbrev text : List ℕ
  text = (file_at files f.file).bytes

  abbrev tokens : List Token
  tokens = (read_at reads f.file).tokens

  abbrev now : List FileOf
  now = with_text files f.file result

  abbrev seen : List ReadOf
  seen = with_read reads f.file after tree

  in_reads : f.file < length reads
  in_reads = let l = ok.stands.within in let s = ok.are.read.same in omega (arith, l, s)

  reading : ReadsIn (file_at files f.file).profile (file_at files f.file).bytes (read_at reads f.file).tokens (read_at reads f.file).tree
  reading = ok.are.read.trees f.file ok.stands.within

  is_written : IsWritten f.statement f.name f.number
  is_written = written f.statement f.name f.number ok.stands.declares

  w : WrittenField
  w = is_written.field

  stands : StandsAt (statement_of w) f.oneof (read_at reads f.file).tree
  unfolding w
  stands = subst (λ (s : Statement). StandsAt s f.oneof (read_at reads f.file).tree) is_written.same ok.stands.stands

  deleted : IsDeleted (file_at files f.file).profile (file_at files f.file).bytes (read_at reads f.file).tokens (read_at reads f.file).tree (statement_of w) f.oneof (field_number_value files reads f) (name_of_field files reads f) result after tree
  unfolding w
  deleted = subst (λ (s : Statement). IsDeleted (file_at files f.file).profile (file_at files f.file).bytes (read_at reads f.file).tokens (read_at reads f.file).tree s f.oneof (field_number_value files reads f) (name_of_field files reads f) result after tree) is_written.same fd.deleted

  its_name : written_name w ≡ f.name
  unfolding w
  its_name = is_written.named

  its_number : written_number w ≡ f.number
  unfolding w
  its_number = is_written.numbered

  fellows : HasFellows (read_at reads f.file).tree (written_name w)
  fellows h b c oneof alone =
      let it : IsAlone reads (at f.file f.name) = record { h = h; b = b; block = c; oneof = oneof; only = alone ∙ ap (λ (n : ℕ). n ∷ []) its_name } in
      ok.admissible 10 (last_of_oneof ok.target ok.field (subst (IsAlone reads) (sym ok.token) it))

  g : Move
  g = to_old (file_at files f.file).bytes (read_at reads f.file).tokens (statement_of w)

  k : Move
  k = to_new (statement_of w) f.oneof

  r : Reservation
  r = reservation_at (reservation_place (statement_of w) f.oneof)

  mid : List Lexeme
  mid = without (statement_of w) (map (lexeme_at (file_at files f.file).bytes) (read_at reads f.file).tokens)

  x : Tree
  x = deleted.middle

  trees : IsDeletedIn g k w r x (read_at reads f.file).tree tree
  unfolding g k r x
  trees = trees_are_deleted (file_at files f.file).profile (file_at files f.file).bytes (read_at reads f.file).tokens (read_at reads f.file).tree w f.oneof (field_number_value files reads f) (name_of_field files reads f) result after tree reading fellows stands deleted

  -- the tokens
  old_is : (i : ℕ) → slice_get (lexemes_of files reads f.file) (g i) ≡ slice_get mid i
  unfolding g mid
  old_is i =
      let s : Statement = statement_of w in
      let whole : List Lexeme = map (lexeme_at (file_at files f.file).bytes) (read_at reads f.file).tokens in
      ap (λ (ls : List Lexeme). slice_get ls (to_old (file_at files f.file).bytes (read_at reads f.file).tokens s i)) deleted.old.tokens
      ∙ laws.lexemes (without s whole) (own s whole) (first_token s) (first_token s) i (omega arith) deleted.old.within (cases_lt i (first_token s))

  new_lexemes : lexemes_of now seen f.file ≡ map (lexeme_at result) after
  new_lexemes = ap₂ (λ (y : FileOf) (z : ReadOf). map (lexeme_at y.bytes) z.tokens) (here files reads f.file result after tree ok.stands.within) (read_here files reads f.file result after tree in_reads)

  new_is : (i : ℕ) → slice_get (lexemes_of now seen f.file) (k i) ≡ slice_get mid i
  unfolding k mid
  new_is i =
      let s : Statement = statement_of w in
      let whole : List Lexeme = map (lexeme_at (file_at files f.file).bytes) (read_at reads f.file).tokens in
      let p : ℕ = reservation_place s f.oneof in
      ap (λ (ls : List Lexeme). slice_get ls (to_new s f.oneof i)) (new_lexemes ∙ deleted.new.tokens)
      ∙ laws.lexemes (without s whole) (reservation_tokens (field_number_value files reads f) (name_of_field files reads f)) p p i (omega arith) deleted.new.within (cases_lt i p)

  read_so : IsReadWithout files reads now seen f.file g k w r x mid
  unfolding g k
  read_so =
      let s : Statement = statement_of w in
      let whole : List Lexeme = map (lexeme_at (file_at files f.file).bytes) (read_at reads f.file).tokens in
      record {
        read = ok.are.read;
        seen_are = fd.changed.still.read;
        count = many files reads f.file result after tree;
        within = ok.stands.within;
        paths = same_path files reads f.file result after tree ok.stands.within;
        profiles = same_profile files reads f.file result after tree ok.stands.within;
        files_stay = other files reads f.file result after tree;
        reads_stay = read_other files reads f.file result after tree;
        trees = subst (λ (y : ReadOf). IsDeletedIn g k w r x (read_at reads f.file).tree y.tree) (sym (read_here files reads f.file result after tree in_reads)) trees;
        old = old_is;
        new = new_is;
        old_apart = others_keep_apart (first_token s) (length (own s whole));
        new_apart = others_keep_apart (reservation_place s f.oneof) 6;
        old_first = front_stays (first_token s) (length (own s whole)) (first_stays (file_at files f.file).profile (file_at files f.file).bytes (read_at reads f.file).tokens (read_at reads f.file).tree w f.oneof reading stands);
        new_first = front_stays (reservation_place s f.oneof) 6 (reserved_behind (file_at files f.file).profile (file_at files f.file).bytes (read_at reads f.file).tokens (read_at reads f.file).tree s f.oneof reading stands);
        own = use_apart (file_at files f.file).profile (file_at files f.file).bytes (read_at reads f.file).tokens (read_at reads f.file).tree w f.oneof reading stands;
      }

  -- ---- names

  clean : AreClean files reads
  clean = record { read = ok.are.read; clean = ok.link }

  linked : IsLinked (names_of_files files reads)
  linked = files_are_linked files reads ok.are.read ok.link

  pub is_less : IsFieldLess files reads now seen
  is_less =
      let n = named files reads now seen f.file g k w r x mid read_so linked in
      let new : ReadOf = record { tokens = after; tree = tree } in
      let a = around reads f.file (let d : ReadOf = record { tokens = []; tree = End } in d) new in_reads in
      let at_place = read_here files reads f.file result after tree in_reads in
      let same = subst (λ (y : ReadOf). Rattle.proto_edit_statement_laws.specs.Trees.MovesNames k x y.tree) at_place n.same in
      record {
        file = record { before = a.front; old = read_at reads f.file; new = new; behind = a.back; was = a.was; is = a.is; paths = paths_stay files f.file result };
        middle = x;
        words = word_at mid;
        to_old = g;
        to_new = k;
        more = n.more;
        same = same;
        imports = subst (λ (y : ReadOf). Rattle.proto_names_outline.specs.FromTree.imports_in y.tree ≡ map (Rattle.proto_names_outline.specs.Moved.move_wanted k) (Rattle.proto_names_outline.specs.FromTree.imports_in x)) at_place n.imports;
        of_old = λ i. ap (λ (m : ℕ). Rattle.proto_names_imports.specs.Links.text_of files reads (at m (g i))) a.long ∙ old_text files reads now seen f.file g k w r x mid read_so linked i;
        of_new = λ i. ap (λ (m : ℕ). Rattle.proto_names_imports.specs.Links.text_of now seen (at m (k i))) a.long ∙ new_text files reads now seen f.file g k w r x mid read_so linked i;
        others = λ j i apart. other_texts files reads now seen f.file g k w r x mid read_so linked j (λ e. apart (e ∙ sym a.long)) i;
      }

  pub means_same : MeanTheSame files reads now seen
  means_same = deletions_keep_meanings files reads now seen clean is_less

  -- ---- scenes

  new_at : (i : ℕ) → i < 6 → slice_get (lexemes_of now seen f.file) (reservation_place (statement_of w) f.oneof + i) ≡ slice_get (reservation_tokens (field_number_value files reads f) (name_of_field files reads f)) i
  new_at i l =
      let s : Statement = statement_of w in
      let whole : List Lexeme = map (lexeme_at (file_at files f.file).bytes) (read_at reads f.file).tokens in
      let p : ℕ = reservation_place s f.oneof in
      let within = deleted.new.within in
      ap (λ (ls : List Lexeme). slice_get ls (p + i)) (new_lexemes ∙ deleted.new.tokens)
      ∙ come_in (take p (without s whole)) (reservation_tokens (field_number_value files reads f) (name_of_field files reads f)) (drop p (without s whole)) p i (omega (arith, length-take p (without s whole), within)) l

  stands_for : StandsFor (quoted (name_of_field files reads f)) (name_of_field files reads f)
  stands_for =
      let run : IsRun Letter (name_of_field files reads f) = name_is_word (file_at files f.file).profile (file_at files f.file).bytes (read_at reads f.file).tokens (read_at reads f.file).tree f.statement f.name f.number reading ok.stands.stands ok.stands.declares in
      (word_is_string laws.texts (name_of_field files reads f) run).1

  small : field_number_value files reads f < 2 ^ 64
  small = numbers_are_small files reads f ok.are.read ok.checks ok.stands

  says : Reserves (scene_at files reads f.file) (scene_at now seen f.file) w r
  unfolding r
  says =
      let p : ℕ = reservation_place (statement_of w) f.oneof in
      let n : ℕ = field_number_value files reads f in
      let v : List ℕ = name_of_field files reads f in
      let res : List Lexeme = reservation_tokens n v in
      record {
        number = ap pos (ap value_of_digits (same_words res (lexemes_of now seen f.file) 1 (p + 1) (new_at 1 (omega arith))) ∙ decimals_are_numbers n small ∙ ap (λ (i : ℕ). value_of_digits (word_at (lexemes_of files reads f.file) i)) (sym its_number));
        name = ap string_of (new_at 4 (omega arith)) ∙ ap (value_or_none Text) (value_again (quoted v) v stands_for) ∙ ap (word_at (lexemes_of files reads f.file)) (sym its_name);
      }

  fresh : (i : ℕ) → (g i == written_name w) ≡ false
  unfolding g
  fresh = name_apart (file_at files f.file).profile (file_at files f.file).bytes (read_at reads f.file).tokens (read_at reads f.file).tree w f.oneof reading stands

  pub is_deletion : IsFileDeletion files reads now seen f.file f.name
  is_deletion =
      let scenes = scenes_have_tokens files reads now seen f.file g k w r x mid read_so linked means_same in
      record {
        others = other_scenes_stay files reads now seen f.file g k w r x mid read_so linked means_same;
        middle = scenes.middle;
        without = x;
        to_old = g;
        to_new = k;
        field = w;
        reservation = r;
        old = scenes_are_moved g scenes.middle (scene_at files reads f.file) scenes.old;
        new = scenes_are_moved k scenes.middle (scene_at now seen f.file) scenes.new;
        says = says;
        trees = read_so.trees;
        named = its_name;
        fresh = fresh;
      }

-- ---- the laws

pub deletions_are_less : Laws → DeletionsAreLess
deletions_are_less laws files reads name f result after tree ok fd = is_less laws files reads name f result after tree ok fd

pub deletions_mean_the_same : Laws → DeletionsMeanTheSame
deletions_mean_the_same laws files reads name f result after tree ok fd = means_same laws files reads name f result after tree ok fd

pub deletions_are_deletions : Laws → DeletionsAreDeletions
deletions_are_deletions laws files reads name f result after tree ok fd = is_deletion laws files reads name f result after tree ok fd

pub no_fault_comes_in : Laws → DeletionsLeaveNoFault
no_fault_comes_in laws files reads name f result after tree ok fd =
    let now = with_text files f.file result in
    let seen = with_read reads f.file after tree in
    let c : AreClean files reads = record { read = ok.are.read; clean = ok.link } in (
      deletions_keep_links files reads now seen c fd.changed.still.read (is_less laws files reads name f result after tree ok fd),
      deletions_leave_no_fault files reads now seen f.file f.name (is_deletion laws files reads name f result after tree ok fd) (files_are_linked files reads ok.are.read ok.link) ok.checks,
    )

pub deletions_are_mapped : Laws → DeletionsAreMapped
deletions_are_mapped laws files reads name f result after tree ok fd ds new was is =
    deletions_map_descriptors files reads (with_text files f.file result) (with_read reads f.file after tree) f.file f.name (is_deletion laws files reads name f result after tree ok fd) ds new was is

left_by : (laws : Laws) (files : List FileOf) (reads : List ReadOf) (name : List ℕ) (f : FieldAt) (result : List ℕ) (after : List Token) (tree : Tree) → IsAllowedDeletion files reads name f → IsFieldDeleted files reads f result after tree
    → AreLeft files reads f (with_text files f.file result)
left_by laws files reads name f result after tree ok fd =
    let still = fd.changed.still in
    let none = no_fault_comes_in laws files reads name f result after tree ok fd in
    record {
      workspace = still.workspace;
      reading = read_files_are_clean (with_text files f.file result) (with_read reads f.file after tree) still.read still.texts;
      link = none.0;
      checks = none.1;
      mapped = deletions_are_mapped laws files reads name f result after tree ok fd;
    }

pub deletions_are_made : Laws → DeletionsAreChanges → DeletionsAreMade
deletions_are_made laws changes files reads name f ok short =
    let v = changes files reads f ok.are ok.stands (numbers_are_small files reads f ok.are.read ok.checks ok.stands) short in
    (v.3.changed.entry, (with_text files f.file v.0, v.3.changed.put, left_by laws files reads name f v.0 v.1 v.2 ok v.3))

pub deletions_leave_files : Laws → DeletionsAreChanges → DeletionsLeaveFiles
deletions_leave_files laws changes files reads name f after ok short put =
    let v = deletions_are_made laws changes files reads name f ok short in
    subst (AreLeft files reads f) (puts_are_once files v.1.0 after (changes_of_deletion files reads f) v.1.1 put) v.1.2
