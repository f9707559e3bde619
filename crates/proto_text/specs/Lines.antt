-- Lines and columns of this product, both counted from 1 and in bytes.
use Rattle.std.specs.Prelude.{ℕ, ◌+◌, ◌==◌, take}
use Rattle.std.specs.List.{count_by, suffix_len}
use Rattle.proto_base.specs.Ascii as ascii
use Rattle.proto_base.specs.Texts.{Text}
use Rattle.proto_text.specs.Pieces.{is_in_line}

-- 1, and the line feeds among the bytes
abbrev pub line_behind : Text → ℕ
line_behind front = 1 + count_by (λ b. b == ascii.line_feed) front

-- 1, and the bytes since the last line feed
abbrev pub column_behind : Text → ℕ
column_behind front = 1 + suffix_len is_in_line front

-- the line of an offset: 1, and the line feeds before it
abbrev pub line_at : Text → ℕ → ℕ
line_at text offset = line_behind (take offset text)

-- the column of an offset: 1, and the bytes before it in its line
abbrev pub column_at : Text → ℕ → ℕ
column_at text offset = column_behind (take offset text)
