-- What stands behind a text in bytes that begin with it.
use Rattle.std.specs.Prelude.{◌≡◌, ◌≢◌, ◌++◌, Option, None, IfSome, MatchOption}
use Rattle.std.specs.Borrow.{Bor}
use Rattle.proto_base.specs.Texts.{Text}

-- where there are bytes, they are the text with the rest behind it; or, where no rest is told, they
-- do not begin with the text
pub record IsBehind (text : Text) (bytes rest : Option (Bor Text)) : Type 0 where
  pub none : bytes ≡ None → rest ≡ None
  pub some : IfSome bytes (λ b. MatchOption rest ((more : Text) → text ++ more ≢ b.now)
      (λ r. text ++ r.now ≡ b.now))
