-- The word at an offset of a text.
use Rattle.std.specs.Prelude.{◌≡◌, ◌⊎◌, ℕ, ◌<◌, ◌≤◌, List, length, slice_get, Some}
use Rattle.proto_text.specs.declared.kind.TokenKind.TheVariants.{Word}
use Rattle.proto_text.specs.declared.lexer.Token.{Token}

-- the token with this index is a word that covers the offset
pub record Covers (tokens : List Token) (offset index : ℕ) : Type 0 where
  pub token : Token
  pub is : slice_get tokens index ≡ Some token
  pub word : token.kind ≡ Word
  pub begins : token.span.start ≤ offset
  pub ends : offset < token.span.end

-- the token with this index is a word that ends at the offset
pub record EndsAt (tokens : List Token) (offset index : ℕ) : Type 0 where
  pub token : Token
  pub is : slice_get tokens index ≡ Some token
  pub word : token.kind ≡ Word
  pub ends : token.span.end ≡ offset

-- it is the word that covers the offset, or, where no word does, the one that ends there
abbrev pub IsWordAt : List Token → ℕ → ℕ → Type 0
IsWordAt tokens offset index = Covers tokens offset index
    ⊎ (EndsAt tokens offset index × ((other : ℕ) → Covers tokens offset other → ⊥))

-- ---- as it is found

-- no token is empty, and each ends before a later one begins, or right there
pub record StandApart (tokens : List Token) : Type 0 where
  pub some : (i : ℕ) (t : Token) → slice_get tokens i ≡ Some t → t.span.start < t.span.end
  pub apart : (i j : ℕ) (t u : Token) → slice_get tokens i ≡ Some t → slice_get tokens j ≡ Some u
      → i < j → t.span.end ≤ u.span.start

-- so many of the tokens, from the first, begin at the offset or before it, and the others behind it
pub record AreBegun (tokens : List Token) (offset count : ℕ) : Type 0 where
  pub within : count ≤ length tokens
  pub begun : (i : ℕ) (t : Token) → slice_get tokens i ≡ Some t → i < count
      → t.span.start ≤ offset
  pub later : (i : ℕ) (t : Token) → slice_get tokens i ≡ Some t → count ≤ i
      → offset < t.span.start

-- the token is a word that does not end before the offset
pub record IsWordUpTo (token : Token) (offset : ℕ) : Type 0 where
  pub word : token.kind ≡ Word
  pub ends : offset ≤ token.span.end
