-- Whether some file is as written.
use Rattle.std.proofs.Common.{◌≡◌, ◌↔◌, true, false, refl, ap}
use Rattle.std.specs.List.{list_any}
use Rattle.std.specs.Prelude.{List}
use Rattle.proto_base.proofs.Common.{any_from, any_to, both_ways}
use Rattle.proto_base.specs.declared.profile.Profile.{Profile}
use Rattle.proto_base.specs.declared.profile.Profile.TheVariants as profile
use Rattle.proto_files.specs.GivenFiles.{FileOf}
use Rattle.proto_edit_rules.specs.Options.{HasWritten}
use Rattle.proto_option_values.specs.FixedNames.{is_as_written, is_written}

written_is : (p : Profile) → is_as_written p ≡ true → p ≡ profile.AsWritten
written_is profile.Core h = absurd (both_ways false refl h)
written_is profile.AsWritten h = refl

pub some_written : (files : List FileOf) → (list_any is_written files ≡ true) ↔ HasWritten files
some_written files = (
  λ h. (let x = any_to is_written files h in (x.0, x.1, written_is x.0.profile x.2)),
  λ x. any_from is_written files x.0 x.1 (ap is_as_written x.2),
)
