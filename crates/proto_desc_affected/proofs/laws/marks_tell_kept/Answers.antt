use Rattle.proto_desc_affected.proofs.Marked.{marks_tell_kept}
use Rattle.proto_desc_affected.proofs.laws.marks_tell_kept.Goals as goal

pub returns : goal.returns
returns c = marks_tell_kept c.edited_files_differ.ensures c.relinked_are_clean.ensures.unmarked
