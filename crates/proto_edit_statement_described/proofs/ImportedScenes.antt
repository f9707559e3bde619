-- The scenes of files, where the tokens of one file are moved, and references mean what they meant.
use Rattle.std.proofs.Common.{◌≡◌, ◌≢◌, ℕ, List, [], map, Option, Some, None, refl, sym, ◌∙◌, ap, arith, Contains}
use Rattle.proto_tree.specs.Moved.{Move}
use Rattle.proto_files.proofs.Common.{ReadOf, FileOf}
use Rattle.proto_names_rules.proofs.Common.{meaning, Used, shifted_used, map_agree, map_map}
use Rattle.proto_names_imports.specs.Links.{names_of_files, text_of, used_named, uses_of}
use Rattle.proto_ast.specs.Scenes.{MeantOf}
use Rattle.proto_edit_statement_described.proofs.Common.{meaning_of, meant_as, means_of, scene_at, HasTokens, IsMovedScene, move_meant, scenes_are_moved}
use Rattle.proto_edit_statement_laws.specs.Kept.{MeanTheSame}
use Rattle.proto_edit_statement_described.specs.MovedFiles.{AreMoved, MovedFilesRead}
use Rattle.proto_edit_statement_described.specs.OtherScenes.{IsLeft}
use Rattle.proto_edit_statement_described.proofs.MovedEnums.{version_own}
use Rattle.proto_edit_statement_described.proofs.MovedNames.{enums_stay, names_move}
use Rattle.proto_edit_statement_described.proofs.MovedTexts.{use_here}
use Rattle.proto_edit_statement_described.proofs.OtherScenes.{meant_stays, other_scenes_stay, reference_there}

meant_moved : (files : List FileOf) (reads : List ReadOf) (g : Move) (t : ℕ) (o : Option (List (List ℕ))) → meant_as files reads (g t) o ≡ move_meant g (meant_as files reads t o)
meant_moved files reads g t None = refl
meant_moved files reads g t (Some m) = refl

module _ (files : List FileOf) (reads : List ReadOf) (after : List FileOf) (seen : List ReadOf) (place : ℕ) (g : Move) (h : AreMoved files reads after seen place g) (means : MeanTheSame files reads after seen) where
  -- ---- other files

  pub is_left : (k : ℕ) → k ≢ place → IsLeft files reads after seen k
  is_left k n = record { profile = h.profiles k; lexemes = h.others k n; tree = h.trees k n; enums = λ u c m e. enums_stay files reads after seen place g h m }

  pub scene_there : (k : ℕ) → k ≢ place → scene_at after seen k ≡ scene_at files reads k
  scene_there k n = other_scenes_stay files reads after seen k means (is_left k n)

  -- ---- the file

  pub means_here : (u : Used ℕ) → Contains (uses_of reads place) u → meaning_of after seen place (shifted_used g u) ≡ meaning_of files reads place u
  means_here u c =
      ap (meaning (names_of_files after seen)) (use_here files reads after seen place g h u) ∙ means (used_named (text_of files reads) place u) (reference_there files reads place u c)

  meant_here : (u : Used ℕ) → Contains (uses_of reads place) u → meant_as after seen (g u.first) (meaning_of after seen place (shifted_used g u)) ≡ move_meant g (meant_as files reads u.first (meaning_of files reads place u))
  meant_here u c =
      meant_stays files reads after seen (g u.first) (meaning_of files reads place u) (meaning_of after seen place (shifted_used g u)) (means_here u c) (λ m e. enums_stay files reads after seen place g h m)
      ∙ meant_moved files reads g u.first (meaning_of files reads place u)

  all_meant : means_of after seen place ≡ map (move_meant g) (means_of files reads place)
  all_meant =
      let now : Used ℕ → MeantOf = λ u. meant_as after seen u.first (meaning_of after seen place u) in
      let was : Used ℕ → MeantOf = λ u. meant_as files reads u.first (meaning_of files reads place u) in
      ap (map now) (names_move files reads after seen place g h).used
      ∙ map_map (shifted_used g) now (uses_of reads place)
      ∙ map_agree (λ u. now (shifted_used g u)) (λ u. move_meant g (was u)) (uses_of reads place) meant_here
      ∙ sym (map_map was (move_meant g) (uses_of reads place))

  has_tokens : HasTokens g (scene_at files reads place) (scene_at after seen place)
  has_tokens = record {
    profile = sym (h.profiles place);
    version = sym (version_own files reads after seen place g h);
    caps = refl;
    apart = h.apart;
    stays = h.own;
    front = [];
    more = [];
    back = means_of files reads place;
    was = refl;
    is = all_meant;
    own = λ m c i. absurd (omega (arith, c.1));
  }

  pub scene_here : IsMovedScene g (scene_at files reads place) (scene_at after seen place)
  scene_here = scenes_are_moved g (scene_at files reads place) (scene_at after seen place) has_tokens

pub moved_files_read : MovedFilesRead
moved_files_read files reads after seen place g h means = (scene_there files reads after seen place g h means, scene_here files reads after seen place g h means)
