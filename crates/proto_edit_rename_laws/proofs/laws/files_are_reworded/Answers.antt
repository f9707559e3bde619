use Rattle.proto_edit_rename_laws.proofs.Rewording.{files_are_reworded, texts_are_changed, other_texts_stay, skeletons_stay}
use Rattle.proto_edit_rename_laws.proofs.laws.files_are_reworded.Goals as goal

pub returns : goal.returns
returns c = record { put = files_are_reworded; texts = texts_are_changed; others = other_texts_stay; skeleton = skeletons_stay }
