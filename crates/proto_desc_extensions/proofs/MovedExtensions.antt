-- Where the extensions of a workspace are those of another, with their tokens moved and what they extend named anew, so are the flaws of their numbers; with those of custom options, all that the workspace decides (for the crates above).
use Rattle.std.proofs.Common.{◌≡◌, ℕ, zero, suc, ◌<◌, Bool, true, false, not, ◌&&◌, ◌||◌, List, [], ◌∷◌, ◌++◌, length, map, None, refl, sym, ap, ◌∙◌, int_eq, arith, Contains}
use Rattle.proto_base.proofs.Common.{contains_head, contains_later, list_any, list_any-append, map-append}
use Rattle.proto_base.specs.declared.fault.FaultKind.{FaultKind}
use Rattle.proto_base.specs.declared.fault.FaultKind.TheVariants as kind
use Rattle.proto_base.specs.declared.profile.Profile.{Profile}
use Rattle.proto_base.specs.declared.profile.Profile.TheVariants as language
use Rattle.proto_files.proofs.Common.{FileOf, ReadOf, file_at}
use Rattle.proto_names_rules.specs.Names.{same_name}
use Rattle.proto_desc_numbers.specs.declared.flaw.Flaw.{Flaw}
use Rattle.proto_desc_numbers.proofs.Common.{earlier, flaw_if, is_inside, marked}
use Rattle.proto_desc_extensions.specs.Common.{ExtensionOf, are_same, custom_flaws, extensions_before, extensions_in, is_extendable, not_extendable, ranges_named, repeated_extensions, taken_before, number_flaws, workspace_flaws}

-- an extension whose token is moved, and what it extends named anew
abbrev pub moved_extension : (ℕ → ℕ) → (List (List ℕ) → List (List ℕ)) → ExtensionOf → ExtensionOf
moved_extension move turn e = record { number = record { token = move e.number.token; number = e.number.number }; extendee = turn e.extendee }

-- a flaw at a token that is moved
abbrev pub moved_flaw : (ℕ → ℕ) → Flaw → Flaw
moved_flaw move f = record { token = move f.token; kind = f.kind }

moved_if : (move : ℕ → ℕ) (b : Bool) (k : FaultKind) (t : ℕ) → flaw_if b k (move t) ≡ map (moved_flaw move) (flaw_if b k t)
moved_if move true k t = refl
moved_if move false k t = refl

moved_marked : (move : ℕ → ℕ) (k : FaultKind) (ts : List ℕ) (flags : List Bool) → marked k (map move ts) flags ≡ map (moved_flaw move) (marked k ts flags)
moved_marked move k [] flags = refl
moved_marked move k (t ∷ ts) [] = refl
moved_marked move k (t ∷ ts) (b ∷ bs) =
    ap (λ (fs : List Flaw). fs ++ marked k (map move ts) bs) (moved_if move b k t)
    ∙ ap (λ (fs : List Flaw). map (moved_flaw move) (flaw_if b k t) ++ fs) (moved_marked move k ts bs)
    ∙ sym (map-append (moved_flaw move) (flaw_if b k t) (marked k ts bs))

module _ (files : List FileOf) (reads : List ReadOf) (after : List FileOf) (seen : List ReadOf) (move : ℕ → ℕ → ℕ) (turn : List (List ℕ) → List (List ℕ)) where
  -- one of the extensions of the first workspace
  pub record IsExtension (e : ExtensionOf) : Type 0 where
    pub file : ℕ
    pub within : file < length files
    pub there : Contains (extensions_in None files reads file) e

  -- how the second has them: what they extend holds the same numbers, and different names stay different
  pub record AreMoved : Type 0 where
    pub profiles : (k : ℕ) → k < length files → (file_at after k).profile ≡ (file_at files k).profile
    pub extensions : (k : ℕ) → k < length files → extensions_in None after seen k ≡ map (moved_extension (move k) turn) (extensions_in None files reads k)
    pub ranges : (e : ExtensionOf) → IsExtension e → list_any (is_inside e.number.number) (ranges_named None after seen (turn e.extendee)) ≡ list_any (is_inside e.number.number) (ranges_named None files reads e.extendee)
    pub apart : (d e : ExtensionOf) → IsExtension d → IsExtension e → same_name (turn d.extendee) (turn e.extendee) ≡ same_name d.extendee e.extendee
    pub options : (k : ℕ) → k < length files → custom_flaws after seen k ≡ map (moved_flaw (move k)) (custom_flaws files reads k)

  module _ (are : AreMoved) where
    same_there : (k : ℕ) (d e : ExtensionOf) → IsExtension d → IsExtension e → (j : ℕ) → are_same (moved_extension (move j) turn d) (moved_extension (move k) turn e) ≡ are_same d e
    same_there k d e p q j = ap (λ (b : Bool). b && int_eq d.number.number e.number.number) (are.apart d e p q)

    any_there : (k j : ℕ) (e : ExtensionOf) → IsExtension e → (ds : List ExtensionOf) → ((d : ExtensionOf) → Contains ds d → IsExtension d) → list_any (λ p. are_same p (moved_extension (move k) turn e)) (map (moved_extension (move j) turn) ds) ≡ list_any (λ p. are_same p e) ds
    any_there k j e q [] within = refl
    any_there k j e q (d ∷ ds) within =
        ap (λ (b : Bool). b || list_any (λ p. are_same p (moved_extension (move k) turn e)) (map (moved_extension (move j) turn) ds)) (same_there k d e (within d (contains_head d ds)) q j)
        ∙ ap (λ (b : Bool). are_same d e || b) (any_there k j e q ds (λ x c. within x (contains_later d x ds c)))

    -- among those of the files before
    any_before : (k : ℕ) (e : ExtensionOf) → IsExtension e → (file : ℕ) → file < suc (length files) → list_any (λ p. are_same p (moved_extension (move k) turn e)) (extensions_before None after seen file) ≡ list_any (λ p. are_same p e) (extensions_before None files reads file)
    any_before k e q zero l = refl
    any_before k e q (suc file) l =
        list_any-append (λ p. are_same p (moved_extension (move k) turn e)) (extensions_before None after seen file) (extensions_in None after seen file)
        ∙ ap (λ (b : Bool). b || list_any (λ p. are_same p (moved_extension (move k) turn e)) (extensions_in None after seen file)) (any_before k e q file (omega (arith, l)))
        ∙ ap (λ (b : Bool). list_any (λ p. are_same p e) (extensions_before None files reads file) || b)
        (ap (list_any (λ p. are_same p (moved_extension (move k) turn e))) (are.extensions file (omega (arith, l)))
        ∙ any_there k file e q (extensions_in None files reads file) (λ d c. record { file = file; within = omega (arith, l); there = c }))
        ∙ sym (list_any-append (λ p. are_same p e) (extensions_before None files reads file) (extensions_in None files reads file))

    -- and among those of them that are taken
    any_taken : (k : ℕ) → k < length files → (e : ExtensionOf) → IsExtension e
        → list_any (λ p. are_same p (moved_extension (move k) turn e)) (taken_before (file_at after k).profile (extensions_before None after seen k)) ≡ list_any (λ p. are_same p e) (taken_before (file_at files k).profile (extensions_before None files reads k))
    any_taken k l e q =
        ap (λ (s : Profile). list_any (λ p. are_same p (moved_extension (move k) turn e)) (taken_before s (extensions_before None after seen k))) (are.profiles k l)
        ∙ by (file_at files k).profile
      where
        by : (s : Profile) → list_any (λ p. are_same p (moved_extension (move k) turn e)) (taken_before s (extensions_before None after seen k)) ≡ list_any (λ p. are_same p e) (taken_before s (extensions_before None files reads k))
        by language.Core = any_before k e q k (omega (arith, l))
        by language.AsWritten = refl

    outside_moved : (k : ℕ) (es : List ExtensionOf) → ((e : ExtensionOf) → Contains es e → IsExtension e) → not_extendable None after seen (map (moved_extension (move k) turn) es) ≡ map (moved_flaw (move k)) (not_extendable None files reads es)
    outside_moved k [] within = refl
    outside_moved k (e ∷ es) within =
        let b : Bool = not (is_extendable None files reads e) in
        ap (λ (s : Bool). flaw_if (not s) kind.NotExtendable (move k e.number.token) ++ not_extendable None after seen (map (moved_extension (move k) turn) es)) (are.ranges e (within e (contains_head e es)))
        ∙ ap (λ (fs : List Flaw). fs ++ not_extendable None after seen (map (moved_extension (move k) turn) es)) (moved_if (move k) b kind.NotExtendable e.number.token)
        ∙ ap (λ (fs : List Flaw). map (moved_flaw (move k)) (flaw_if b kind.NotExtendable e.number.token) ++ fs) (outside_moved k es (λ x c. within x (contains_later e x es c)))
        ∙ sym (map-append (moved_flaw (move k)) (flaw_if b kind.NotExtendable e.number.token) (not_extendable None files reads es))

    tokens_moved : (k : ℕ) (es : List ExtensionOf) → map (λ e. e.number.token) (map (moved_extension (move k) turn) es) ≡ map (move k) (map (λ e. e.number.token) es)
    tokens_moved k [] = refl
    tokens_moved k (e ∷ es) = ap (λ (ts : List ℕ). move k e.number.token ∷ ts) (tokens_moved k es)

    earlier_moved : (k : ℕ) (before was es : List ExtensionOf) → ((e : ExtensionOf) → IsExtension e → list_any (λ p. are_same p (moved_extension (move k) turn e)) before ≡ list_any (λ p. are_same p e) was)
        → ((e : ExtensionOf) → Contains es e → IsExtension e) → earlier are_same before (map (moved_extension (move k) turn) es) ≡ earlier are_same was es
    earlier_moved k before was [] same within = refl
    earlier_moved k before was (e ∷ es) same within =
        let here : IsExtension e = within e (contains_head e es) in
        ap (λ (b : Bool). b ∷ earlier are_same (before ++ moved_extension (move k) turn e ∷ []) (map (moved_extension (move k) turn) es)) (same e here)
        ∙ ap (λ (flags : List Bool). list_any (λ p. are_same p e) was ∷ flags)
        (earlier_moved k (before ++ moved_extension (move k) turn e ∷ []) (was ++ e ∷ []) es
        (λ x q.
        list_any-append (λ p. are_same p (moved_extension (move k) turn x)) before (moved_extension (move k) turn e ∷ [])
        ∙ ap (λ (b : Bool). b || (are_same (moved_extension (move k) turn e) (moved_extension (move k) turn x) || false)) (same x q)
        ∙ ap (λ (b : Bool). list_any (λ p. are_same p x) was || (b || false)) (same_there k e x here q k)
        ∙ sym (list_any-append (λ p. are_same p x) was (e ∷ [])))
        (λ x c. within x (contains_later e x es c)))

    -- each flaw of a number moves with its token
    numbers_moved : (k : ℕ) → k < length files → number_flaws None after seen k ≡ map (moved_flaw (move k)) (number_flaws None files reads k)
    numbers_moved k l =
        let es : List ExtensionOf = extensions_in None files reads k in
        let was : List ExtensionOf = taken_before (file_at files k).profile (extensions_before None files reads k) in
        let before : List ExtensionOf = taken_before (file_at after k).profile (extensions_before None after seen k) in
        let own : (e : ExtensionOf) → Contains es e → IsExtension e = λ e c. record { file = k; within = l; there = c } in
        ap (λ (xs : List ExtensionOf). not_extendable None after seen xs ++ repeated_extensions before xs) (are.extensions k l)
        ∙ ap (λ (fs : List Flaw). fs ++ repeated_extensions before (map (moved_extension (move k) turn) es)) (outside_moved k es own)
        ∙ ap (λ (fs : List Flaw). map (moved_flaw (move k)) (not_extendable None files reads es) ++ fs)
        (ap (λ (ts : List ℕ). marked kind.DuplicateExtension ts (earlier are_same before (map (moved_extension (move k) turn) es))) (tokens_moved k es)
        ∙ ap (marked kind.DuplicateExtension (map (move k) (map (λ (e : ExtensionOf). e.number.token) es))) (earlier_moved k before was es (any_taken k l) own)
        ∙ moved_marked (move k) kind.DuplicateExtension (map (λ (e : ExtensionOf). e.number.token) es) (earlier are_same was es))
        ∙ sym (map-append (moved_flaw (move k)) (not_extendable None files reads es) (repeated_extensions was es))

    -- and each flaw that the workspace decides
    pub workspace_moved : (k : ℕ) → k < length files → workspace_flaws None after seen k ≡ map (moved_flaw (move k)) (workspace_flaws None files reads k)
    workspace_moved k l =
        ap (λ (fs : List Flaw). fs ++ custom_flaws after seen k) (numbers_moved k l)
        ∙ ap (λ (fs : List Flaw). map (moved_flaw (move k)) (number_flaws None files reads k) ++ fs) (are.options k l)
        ∙ sym (map-append (moved_flaw (move k)) (number_flaws None files reads k) (custom_flaws files reads k))
