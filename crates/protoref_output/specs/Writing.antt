-- What a writer has taken when it stops part of the way (the choice of this project).
use Rattle.std.specs.Prelude.{◌≡◌, ◌++◌, Option}
use Rattle.std.specs.Io.KnownBytes.{Appends}
use Rattle.proto_base.specs.Texts.{Text}

-- known bytes have grown by a beginning of the text
abbrev pub AppendsBeginning : Option Text → Option Text → Text → Type 0
AppendsBeginning old new text =
    (written : Text) × (rest : Text) × (text ≡ written ++ rest) × Appends old new written
