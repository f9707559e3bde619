-- What a writer holds when a write stops part of the way.
use Rattle.std.specs.Prelude.{◌≡◌, ◌++◌, Option}
use Rattle.std.specs.Io.KnownBytes.{Appends}
use Rattle.proto_base.specs.Texts.{Text}

-- known bytes have grown by a prefix of the text
abbrev pub AppendsBeginning : Option Text → Option Text → Text → Type 0
AppendsBeginning old new text =
    (written : Text) × (rest : Text) × (text ≡ written ++ rest) × Appends old new written
