use Rattle.std.proofs.Common.{ap, string_bytes}
use Rattle.proto_base.specs.Texts.{Text}
use Rattle.proto_session_told.specs.Telling.{ToldOf}
use Rattle.proto_session_told.proofs.telling.telling.Goals as goal

abbrev told_as : Text → Text → ToldOf
told_as uri message = record { uri = uri; message = message }

pub returns : goal.returns
returns c = record {
  document = c.in_ok-document.document;
  says = c.in_ok-document.ensures;
  is_of = ap (told_as (string_bytes c.in_ok-document.document.uri)) c.in_ok-message.ensures;
}
