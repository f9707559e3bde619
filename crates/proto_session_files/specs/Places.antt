-- Positions, as the client has them.
use Rattle.std.specs.Prelude.{ℕ, ◌&&◌, length, nat_le, if◌then◌else◌}
use Rattle.proto_base.specs.Texts.{Text, text_limit}
use Rattle.proto_messages.specs.declared.position.Position.{Position as SentPosition}
use Rattle.proto_positions.specs.Positions.{position_of}
use Rattle.proto_positions.specs.declared.encoding.Encoding.{Encoding}
use Rattle.proto_positions.specs.declared.position.Position.{Position}

-- the position of the protocol's messages
abbrev pub sent_position : Position → SentPosition
sent_position p = record { line = p.line; character = p.character }

-- the position of an offset of a text; the beginning, where the text is too large or ends before
abbrev pub position_in : Encoding → Text → ℕ → Position
position_in e text offset =
    if nat_le (length text) text_limit && nat_le offset (length text)
    then position_of e text offset else record { line = 0; character = 0 }
