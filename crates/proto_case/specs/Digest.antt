-- A number that equal texts share.
use Rattle.std.specs.Prelude.{ℕ, ◌+◌, ◌*◌, ◌%◌, ◌^◌, [], ◌∷◌}
use Rattle.proto_base.specs.Texts.{Text}

-- one byte more
abbrev pub digest_step : ℕ → ℕ → ℕ
digest_step digest b = ((digest * 31) % 2 ^ 64 + b) % 2 ^ 64

-- the bytes of a text, one after the other
abbrev pub digest_from : ℕ → Text → ℕ
digest_from digest [] = digest
digest_from digest (b ∷ bs) = digest_from (digest_step digest b) bs
