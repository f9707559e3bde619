use Rattle.proto_names_update.proofs.Clean.{unmarked_files_mean_the_same, relinked_are_clean}
use Rattle.proto_names_update.proofs.laws.relinked_are_clean.Goals as goal

pub returns-clause-unmarked : goal.returns-clause-unmarked
returns-clause-unmarked c = unmarked_files_mean_the_same

pub returns-clause-clean : goal.returns-clause-clean
returns-clause-clean c = relinked_are_clean
