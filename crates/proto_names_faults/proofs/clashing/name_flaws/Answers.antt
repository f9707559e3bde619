use Rattle.std.proofs.Common.{sym, subst}
use Rattle.proto_names_imports.proofs.Common.{AreListings}
use Rattle.proto_names_faults.proofs.clashing.name_flaws.Goals as goal

pub clashing_flaws-requires : goal.clashing_flaws-requires
clashing_flaws-requires c = subst (AreListings c.args.files.now) (sym c.deref.ensures.value) c.in_ok-listings.ensures

pub returns : goal.returns
returns c = c.clashing_flaws.ensures
