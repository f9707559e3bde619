-- The options of files that an edit of a statement leaves.
use Rattle.std.proofs.Common.{◌≡◌, List, [], ◌∷◌, map, Option, Some, None, refl, sym, ◌∙◌, ap, subst}
use Rattle.proto_text.proofs.Common.{Lexeme, lexeme_at}
use Rattle.proto_tree.specs.declared.piece.Statement.TheVariants as statement
use Rattle.proto_tree.specs.Tree.{Tree, End, Leaf}
use Rattle.proto_files.proofs.Common.{AreRead, file_at, paths_of, read_once}
use Rattle.proto_files.specs.Faults.{HasNoFault}
use Rattle.proto_names_rules.specs.Faults.{file_with_path}
use Rattle.proto_names_rules.specs.Grown.{At, at}
use Rattle.proto_names_outline.specs.FromTree.{imports_in}
use Rattle.proto_names_imports.specs.Links.{LinkFaults, text_of}
use Rattle.proto_resolved.specs.SceneOf.{lexemes_of}
use Rattle.proto_edit_entries.proofs.Puts.{puts_are_once}
use Rattle.proto_edit_rules.specs.AddImport.{changes_of_addition, unknown_path}
use Rattle.proto_edit_rules.specs.DeleteField.{changes_of_deletion, option_value}
use Rattle.proto_edit_rules.specs.DropImport.{changes_of_drop}
use Rattle.proto_edit_rules.specs.Options.{IsOptionWord}
use Rattle.proto_edit_rules.specs.Statements.{tree_at}
use Rattle.proto_edit_statement_laws.proofs.Common.{IsInsertion, import_place, import_tokens, import_tree, own}
use Rattle.proto_edit_statement_laws.proofs.OptionsMoved.{imports_move_options, options_move_tokens}
use Rattle.proto_edit_statement_laws.specs.DeletionChanges.{DeletionsAreChanges}
use Rattle.proto_edit_statement_laws.specs.OneFile.{with_read, with_text}
use Rattle.proto_edit_statement_described.proofs.Additions.{Laws as AdditionLaws, addition, additions_are_made}
use Rattle.proto_edit_statement_described.proofs.ChangedFile.{is_change, lexemes_here, tree_here}
use Rattle.proto_edit_statement_described.proofs.Drops.{Laws as DropLaws, drop, drops_are_made}
use Rattle.proto_edit_statement_described.proofs.FilePlaces.{place_named, place_within}
use Rattle.proto_edit_statement_described.specs.Fields.{NumbersAreSmall}
use Rattle.proto_edit_statement_described.specs.Files.{IsDrop, IsFileAddition, IsFileDeletion}
use Rattle.proto_edit_statement_described.specs.NamedTrees.{TreesAreNamed}
use Rattle.proto_edit_statement_described.specs.Workspace.{DeletionsAreDeletions, DeletionsLeaveNoFault}
use Rattle.proto_option_laws.proofs.Agree.{options_agree}
use Rattle.proto_option_statement_laws.proofs.Deletions.{deletion_leaves_options}
use Rattle.proto_option_statement_laws.proofs.Imported.{addition_leaves_options, drop_leaves_options}
use Rattle.proto_option_statement_laws.specs.OptionLaws.{AdditionsLeaveOptions, DeletionsLeaveOptions, DropsLeaveOptions}

-- ---- a deleted field

-- what is known of deletions
pub record DeletionLaws : Type 0 where
  pub changes : DeletionsAreChanges
  pub small : NumbersAreSmall
  pub deletion : DeletionsAreDeletions
  pub clean : DeletionsLeaveNoFault
  pub named : TreesAreNamed

pub deletions_leave_options : DeletionLaws → DeletionsLeaveOptions
deletions_leave_options laws files reads name f after seen ok short put read ds new was is ren agree =
    let v = laws.changes files reads f ok.are ok.stands (laws.small files reads f ok.are.read ok.checks ok.stands) short in
    let now = with_text files f.file v.0 in
    let then = with_read reads f.file v.1 v.2 in
    let e : now ≡ after = puts_are_once files now after (changes_of_deletion files reads f) v.3.changed.put put in
    let s : then ≡ seen = read_once after then seen (subst (λ z. AreRead z then) e v.3.changed.still.read) read in
    let there : IsFileDeletion files reads after seen f.file f.name =
    subst (λ z. IsFileDeletion files reads after z f.file f.name) s (subst (λ z. IsFileDeletion files reads z then f.file f.name) e (laws.deletion files reads name f v.0 v.1 v.2 ok v.3)) in
    let fine : HasNoFault (LinkFaults after) = subst (λ z. HasNoFault (LinkFaults z)) e (laws.clean files reads name f v.0 v.1 v.2 ok v.3).0 in
    let unseen : (a : At) → IsOptionWord files reads f.file (text_of files reads (at f.file f.name) ∷ []) a → ⊥ =
    λ a w. ok.admissible 19 (option_value ok.target a ok.field (subst (λ (z : At). IsOptionWord files reads z.file (text_of files reads z ∷ []) a) (sym ok.token) w)) in
    options_agree (λ x. x) ren (λ x. sym (agree x)) files after reads seen ds new
    (deletion_leaves_options laws.named options_move_tokens files reads after seen f.file f.name ok.link fine there unseen ds new was is)

-- ---- an added import

some_or : {A : Type 0} (o : Option A) → (o ≡ None → ⊥) → (x : A) × (o ≡ Some x)
some_or None f = absurd (f refl)
some_or (Some x) f = (x, refl)

pub additions_leave_options : AdditionLaws → AdditionsLeaveOptions
additions_leave_options laws files reads file path place after seen may put read ds new was is ren agree =
    let within = place_within files file place may.at in
    let same = may.faultless.are.read.same in
    let language = (file_at files place).profile in
    let p = import_place (tree_at reads place) in
    let to = some_or (file_with_path (paths_of files) path) (λ e. may.free 11 (unknown_path e)) in
    let v = laws.changes files reads place path may.faultless.are within (place_named files path to.0 to.1 may.faultless.are.workspace) may.short in
    let now = with_text files place v.0 in
    let then = with_read reads place v.1 v.2 in
    let here : tree_at then place ≡ v.2 = tree_here files reads place v.0 v.1 v.2 within same in
    let ls : lexemes_of now then place ≡ map (lexeme_at v.0) v.1 = lexemes_here files reads place v.0 v.1 v.2 within same in
    let change = is_change files reads place v.0 v.1 v.2 within same in
    let put_in : IsInsertion language p (import_tree p) (import_tokens path) (tree_at reads place) (lexemes_of files reads place) (tree_at then place) (lexemes_of now then place) =
    subst (λ (z : List Lexeme). IsInsertion language p (import_tree p) (import_tokens path) (tree_at reads place) (lexemes_of files reads place) (tree_at then place) z) (sym ls)
    (subst (λ (u : Tree). IsInsertion language p (import_tree p) (import_tokens path) (tree_at reads place) (lexemes_of files reads place) u (map (lexeme_at v.0) v.1)) (sym here) v.3.added.tree) in
    let cs = changes_of_addition files reads place path in
    let e : now ≡ after = puts_are_once files now after cs v.3.changed.put put in
    let s : then ≡ seen = read_once after then seen (subst (λ z. AreRead z then) e v.3.changed.still.read) read in
    let first : IsFileAddition files reads now then place path = addition laws files reads now then file path place p may v.3.changed.still change (language, put_in) (ap imports_in here ∙ v.3.added.last) in
    let there : IsFileAddition files reads after seen place path = subst (λ z. IsFileAddition files reads after z place path) s (subst (λ z. IsFileAddition files reads z then place path) e first) in
    let made = additions_are_made laws files reads file path place may in
    let fine : HasNoFault (LinkFaults after) = subst (λ z. HasNoFault (LinkFaults z)) (puts_are_once files made.0 after cs made.2.put put) made.2.faultless.links in
    options_agree (λ x. x) ren (λ x. sym (agree x)) files after reads seen ds new
    (addition_leaves_options options_move_tokens imports_move_options files reads after seen place path may.faultless.links fine there ds new was is)

-- ---- a dropped import

pub drops_leave_options : DropLaws → DropsLeaveOptions
drops_leave_options laws files reads file path place i after seen may put read ds new was is ren agree =
    let within = may.imports.within in
    let same = may.faultless.are.read.same in
    let language = (file_at files place).profile in
    let v = laws.changes files reads place path i may.faultless.are may.imports in
    let now = with_text files place v.0 in
    let then = with_read reads place v.1 v.2 in
    let mine : List Lexeme = own (statement.Import i) (lexemes_of files reads place) in
    let change = is_change files reads place v.0 v.1 v.2 within same in
    let taken_out : IsInsertion language i.keyword (Leaf (statement.Import i) End) mine (tree_at then place) (lexemes_of now then place) (tree_at reads place) (lexemes_of files reads place) =
    subst (λ (z : List Lexeme). IsInsertion language i.keyword (Leaf (statement.Import i) End) mine (tree_at then place) z (tree_at reads place) (lexemes_of files reads place)) (sym (lexemes_here files reads place v.0 v.1 v.2 within same))
    (subst (λ (u : Tree). IsInsertion language i.keyword (Leaf (statement.Import i) End) mine u (map (lexeme_at v.0) v.1) (tree_at reads place) (lexemes_of files reads place)) (sym (tree_here files reads place v.0 v.1 v.2 within same)) v.3.dropped.tree) in
    let cs = changes_of_drop files reads place i in
    let e : now ≡ after = puts_are_once files now after cs v.3.changed.put put in
    let s : then ≡ seen = read_once after then seen (subst (λ z. AreRead z then) e v.3.changed.still.read) read in
    let first : IsDrop files reads now then place path = drop laws files reads now then file path place i mine may v.3.changed.still change (language, taken_out) in
    let there : IsDrop files reads after seen place path = subst (λ z. IsDrop files reads after z place path) s (subst (λ z. IsDrop files reads z then place path) e first) in
    let made = drops_are_made laws files reads file path place i may in
    let fine : HasNoFault (LinkFaults after) = subst (λ z. HasNoFault (LinkFaults z)) (puts_are_once files made.0 after cs made.2.put put) made.2.faultless.links in
    options_agree (λ x. x) ren (λ x. sym (agree x)) files after reads seen ds new
    (drop_leaves_options options_move_tokens imports_move_options files reads after seen place path may.faultless.links fine there ds new was is)
