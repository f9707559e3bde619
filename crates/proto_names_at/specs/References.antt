-- The reference that has a token as one of its words, and what the name that it means is before the
-- words behind that one.
use Rattle.std.specs.Prelude.{ℕ, ◌==◌, if◌then◌else◌, List, [], ◌∷◌, map, Option, Some, None, option_map}
use Rattle.std.specs.Option.{option_or}
use Rattle.proto_tree.specs.References.{dotted}
use Rattle.proto_names_outline.specs.declared.listing.Use.{Use}
use Rattle.proto_names.specs.Linking.{Meant}
use Rattle.proto_names_at.specs.declared.references.WordMeant.{WordMeant}

-- the elements behind the first one that is the token; none where no element is
abbrev pub behind_token : ℕ → List ℕ → Option (List ℕ)
behind_token token [] = None
behind_token token (t ∷ ts) = if t == token then Some ts else behind_token token ts

-- what a reference means, and the tokens of those of its words that stand behind one of them
pub record WordOf : Type 0 where
  pub meant : Meant
  pub behind : List ℕ

-- the same of what was found
abbrev pub word_of : WordMeant → WordOf
word_of w = record { meant = w.meant; behind = map (λ b. b.item) w.behind.now }

-- the same, with this as what the reference means
abbrev pub word_with : Meant → List ℕ → WordOf
word_with m ts = record { meant = m; behind = ts }

-- the first reference of which the token is a word, with what stands behind the word; the references
-- come with what each means
abbrev pub word_meant : ℕ → List Use → List Meant → Option WordOf
word_meant token [] ms = None
word_meant token (u ∷ us) [] = None
word_meant token (u ∷ us) (m ∷ ms) =
    option_or (option_map (word_with m) (behind_token token (dotted u.reference.now.words)))
    (word_meant token us ms)
