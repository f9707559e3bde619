-- What fits and is visible below a scope by a link, under the new names of a rename: all by texts.
use Rattle.std.specs.Prelude.{ℕ, Bool, false, ◌&&◌, ◌||◌, if◌then◌else◌, Option, Some, None, option_map}
use Rattle.std.specs.Str.{bytes_eq}
use Rattle.proto_base.specs.Texts.{Text}
use Rattle.proto_names_rules.specs.declared.kind.Kind.{Kind}
use Rattle.proto_names_rules.specs.Joined.{below}
use Rattle.proto_names_rules.specs.Names.{fits_alone, is_outer}
use Rattle.proto_names.specs.Linking.{LinkOf, is_visible, name_with}
use Rattle.proto_edit_captures.specs.NewTexts.{NewTexts}
use Rattle.proto_edit_captures.specs.declared.scope.Fit.{Fit}

-- what fits at the first word, of several, or of one by what the reference wants
abbrev pub first_fits : Fit → Kind → Bool
first_fits fit k = if fit.is_long then is_outer k else fits_alone fit.wants k

-- the kind of the name with this text, which some file declares
abbrev pub kind_named : LinkOf → Text → Option Kind
kind_named l text = option_map (λ n. n.kind) (name_with l text)

-- there is such a kind, and it fits
abbrev pub kind_fits : Fit → Option Kind → Bool
kind_fits fit None = false
kind_fits fit (Some k) = first_fits fit k

-- a name with this text fits, and is visible from the file
abbrev pub shows_fitting : LinkOf → ℕ → Fit → Text → Bool
shows_fitting l file fit text = kind_fits fit (kind_named l text) && is_visible l file text

-- a map field's entry under its new name
abbrev pub entry_shown : LinkOf → ℕ → Fit → Text × Text → Text → Text → Bool
entry_shown l file fit p scope word =
    bytes_eq word p.1 && shows_fitting l file fit (below scope p.0)

-- the same, if there is an entry
abbrev pub entry_shown_if : LinkOf → ℕ → Fit → Option (Text × Text) → Text → Text → Bool
entry_shown_if l file fit None scope word = false
entry_shown_if l file fit (Some p) scope word = entry_shown l file fit p scope word

-- the target, or its entry, under its new name
abbrev pub shown_beside : LinkOf → ℕ → Fit → NewTexts → Text → Text → Bool
shown_beside l file fit n scope word =
    (bytes_eq word n.new && shows_fitting l file fit n.target)
    || entry_shown_if l file fit n.entry scope word

-- below the target's parent the target or its entry, elsewhere what has the name now
abbrev pub shown_below : LinkOf → ℕ → Fit → NewTexts → Text → Text → Bool
shown_below l file fit n scope word =
    if bytes_eq (below scope n.old) n.target
    then shown_beside l file fit n scope word
    else shows_fitting l file fit (below scope word)
