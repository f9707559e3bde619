use Rattle.proto_desc_affected.proofs.Extensions.{unaffected_files_stay_flawless, unaffected_flaws_of_files_stay}
use Rattle.proto_desc_affected.proofs.Scenes.{unaffected_descriptors_stay, unaffected_scenes_stay}
use Rattle.proto_desc_affected.proofs.laws.unaffected_files_stay.Goals as goal

pub returns-clause-scenes : goal.returns-clause-scenes
returns-clause-scenes c = unaffected_scenes_stay

pub returns-clause-descriptors : goal.returns-clause-descriptors
returns-clause-descriptors c = unaffected_descriptors_stay

pub returns-clause-own : goal.returns-clause-own
returns-clause-own c = unaffected_flaws_of_files_stay

pub returns-clause-flawless : goal.returns-clause-flawless
returns-clause-flawless c = unaffected_files_stay_flawless
