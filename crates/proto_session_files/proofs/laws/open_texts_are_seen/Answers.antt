use Rattle.proto_session_files.proofs.ApartTexts.{open_texts_stay_apart}
use Rattle.proto_session_files.proofs.SeenFiles.{open_texts_are_seen}
use Rattle.proto_session_files.proofs.laws.open_texts_are_seen.Goals as goal

pub returns : goal.returns
returns c = record { seen = open_texts_are_seen; apart = open_texts_stay_apart }
