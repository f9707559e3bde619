-- Files of which one has an import more: what the tokens and trees of that one say of all.
use Rattle.std.proofs.Common.{◌≡◌, ℕ, List, length, map, Some, refl, sym, ◌∙◌, ap, subst, arith, slice_get}
use Rattle.proto_base.proofs.Common.{cases_lt, map-append}
use Rattle.proto_text.proofs.Common.{moved, Lexeme, value_of}
use Rattle.proto_tree.specs.declared.piece.Statement.TheVariants as statement
use Rattle.proto_tree.specs.Modifiers.{is_public, is_weak}
use Rattle.proto_tree.specs.declared.tree.Import.{Import}
use Rattle.proto_tree.proofs.Common.{Move, End, Leaf}
use Rattle.proto_files.proofs.Common.{ReadOf, FileOf}
use Rattle.proto_names_rules.specs.Grown.{at}
use Rattle.proto_names_outline.proofs.Common.{Wanted, imports_in, move_wanted}
use Rattle.proto_names_imports.specs.Links.{text_of}
use Rattle.proto_edit_statement_described.proofs.Common.{lexemes_of, tree_at, HasImport, others_keep_apart}
use Rattle.proto_edit_statement_laws.proofs.Common.{LexemesAreMoved, IsInsertion, imports_come_in}
use Rattle.proto_edit_statement_laws.proofs.NamesCommon.{IsImportMore, HasOneMore, MovesNames}
use Rattle.proto_edit_statement_described.specs.MovedFiles.{AreMoved}
use Rattle.proto_edit_statement_described.proofs.Apart.{imports_are_apart}
use Rattle.proto_edit_statement_described.proofs.ChangedFile.{IsChange}
use Rattle.proto_edit_statement_described.proofs.MovedNames.{names_move}
use Rattle.proto_edit_statement_described.proofs.MovedTexts.{other_text, own_text}
use Rattle.proto_base.specs.declared.profile.Profile.{Profile}

-- the import of a statement
abbrev pub wanted_by : Import → Wanted
wanted_by i = record { path = i.path; is_public = is_public i.modifier; is_weak = is_weak i.modifier }

-- The import is put in at a token of the file at this place.
abbrev pub IsInserted : List FileOf → List ReadOf → List FileOf → List ReadOf → ℕ → ℕ → Import → List Lexeme → Type 0
IsInserted files reads after seen place token i more = (profile : Profile) × IsInsertion profile token (Leaf (statement.Import i) End) more (tree_at reads place) (lexemes_of files reads place) (tree_at seen place) (lexemes_of after seen place)

module _ (files : List FileOf) (reads : List ReadOf) (after : List FileOf) (seen : List ReadOf) (place token : ℕ) (i : Import) (more : List Lexeme) (c : IsChange files reads after seen place) (is : IsInserted files reads after seen place token i more) where
  pub are_moved : LexemesAreMoved → AreMoved files reads after seen place (moved token token (length more))
  are_moved law = record {
    profiles = c.profile;
    apart = others_keep_apart token (length more);
    own = λ k. ap (λ (ls : List Lexeme). slice_get ls (moved token token (length more) k)) is.1.tokens ∙ law (lexemes_of files reads place) more token token k (omega arith) is.1.within (cases_lt k token);
    others = c.lexemes;
    count = c.reads_many;
    tree = imports_are_apart (moved token token (length more)) i (tree_at reads place) (tree_at seen place) is.1.tree;
    trees = c.trees;
  }

  -- the trees, as the descriptors have them
  pub has_import : HasImport (moved token token (length more)) (wanted_by i) (tree_at reads place) (tree_at seen place)
  has_import =
      let h = imports_come_in (moved token token (length more)) i (tree_at reads place) (tree_at seen place) is.1.tree in
      record {
        front = h.front;
        back = h.back;
        was = h.was;
        is = h.is;
        others = imports_are_apart (moved token token (length more)) i (tree_at reads place) (tree_at seen place) is.1.tree;
      }

  -- and as the names have them
  one_more : HasOneMore (wanted_by i) (map (move_wanted (moved token token (length more))) (imports_in (tree_at reads place))) (imports_in (tree_at seen place))
  one_more =
      let g : Move = moved token token (length more) in
      record {
        front = map (move_wanted g) has_import.front;
        back = map (move_wanted g) has_import.back;
        was = ap (map (move_wanted g)) has_import.was ∙ map-append (move_wanted g) has_import.front has_import.back;
        is = has_import.is;
      }

  pub import_more : LexemesAreMoved → (path : List ℕ) → value_of (text_of after seen (at place i.path)) ≡ Some path → IsImportMore files reads after seen place path (is_public i.modifier)
  import_more law path value =
      let g : Move = moved token token (length more) in
      let h = are_moved law in
      record {
        file = c.one;
        place = c.long;
        move = g;
        same = subst (λ (r : ReadOf). MovesNames g r.tree c.one.new.tree) (sym c.old) (subst (λ (r : ReadOf). MovesNames g (tree_at reads place) r.tree) (sym c.new) (names_move files reads after seen place g h));
        wanted = wanted_by i;
        more = subst (λ (r : ReadOf). HasOneMore (wanted_by i) (map (move_wanted g) (imports_in r.tree)) (imports_in c.one.new.tree)) (sym c.old)
            (subst (λ (r : ReadOf). HasOneMore (wanted_by i) (map (move_wanted g) (imports_in (tree_at reads place))) (imports_in r.tree)) (sym c.new) one_more);
        path_is = value;
        public_is = refl;
        own = own_text files reads after seen place g h;
        others = λ k j n. other_text files reads after seen place g h k j n;
      }
