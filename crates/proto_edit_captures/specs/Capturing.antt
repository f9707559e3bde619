-- When a reference is captured, by its words, its scope and what it means: all by texts.
use Rattle.std.specs.Prelude.{ℕ, ◌+◌, ◌-◌, Bool, true, false, not, ◌&&◌, ◌||◌, ◌==◌, nat_eq, nat_le, if◌then◌else◌, List, [], ◌∷◌, length, map, is_some}
use Rattle.std.specs.List.{starts_with}
use Rattle.proto_base.specs.Texts.{Text}
use Rattle.proto_case.specs.Camel.{entry_name}
use Rattle.proto_names_outline.specs.Listing.{path_at, read}
use Rattle.proto_names_outline.specs.declared.listing.Listed.{Listed}
use Rattle.proto_names_outline.specs.declared.listing.Use.{Use}
use Rattle.proto_names_rules.specs.Forest.{under}
use Rattle.proto_names_rules.specs.declared.wants.Wants.{Wants}
use Rattle.proto_names_rules.specs.Skeleton.{name_of}
use Rattle.proto_names.specs.Linking.{LinkOf}
use Rattle.proto_edit_captures.specs.NewTexts.{NewTexts, is_new_word}
use Rattle.proto_edit_captures.specs.ShownTexts.{shown_below}
use Rattle.proto_edit_captures.specs.declared.scope.Fit.{Fit}

-- words follow
abbrev pub is_cons : {A : Type 0} → List A → Bool
is_cons [] = false
is_cons (x ∷ xs) = true

-- what fits at the first word of a reference that wants this, by the words behind it
abbrev pub fit_of : Wants → List Text → Fit
fit_of what rest = record { wants = what; is_long = is_cons rest }

-- the length of a text before these words, each with a dot before it
abbrev pub bytes_before : ℕ → List Text → ℕ
bytes_before len [] = len
bytes_before len (w ∷ ws) = bytes_before (len - (length w + 1)) ws

-- the meaning's text begins with the target's, and its first words have as many bytes
abbrev pub stands_first : Text → Text → ℕ → Bool
stands_first target meaning len = (len == length target) && starts_with nat_eq meaning target

-- a reference's first word as it is rewritten
abbrev pub first_now : NewTexts → Text → ℕ → Text → Text
first_now n meaning len first = if stands_first n.target meaning len then n.new else first

-- one of the fronts that go on from this one, and have at least so many bytes, passes
abbrev pub shown_from : (Text → Bool) → ℕ → Text → List Text → Bool
shown_from test least front [] = false
shown_from test least front (w ∷ ws) =
    (nat_le least (length (under front w)) && test (under front w))
    || shown_from test least (under front w) ws

-- the first word is then a new one, and something is shown under it in a front of the
-- scope longer than that of the hit
abbrev pub captures_at : LinkOf → ℕ → NewTexts → List Text → Fit → Text → ℕ → Text → Bool
captures_at l file n scope fit first len word = is_new_word n word
    && shown_from (λ front. shown_below l file fit n front word) (len - length first) [] scope

-- a reference of these words in this scope, by what it wants and what it means
abbrev pub captures_words : LinkOf → ℕ → NewTexts → Wants → List Text → Text → List Text → Text
    → Bool
captures_words l file n what scope first rest meaning =
    captures_at l file n scope (fit_of what rest) first (bytes_before (length meaning) rest)
    (first_now n meaning (bytes_before (length meaning) rest) first)

-- of a reference of a file, in its scope among what the file declares
abbrev pub captures_use : LinkOf → ℕ → NewTexts → (ℕ → Text) → List Listed → Use → Text → Bool
captures_use l file n text declared u meaning = not (is_some u.reference.now.dot)
    && captures_words l file n u.wants (name_of text entry_name (path_at (read declared) u.scope))
    (text u.reference.now.words.first) (map (λ b. text b.item) u.reference.now.words.rest) meaning
