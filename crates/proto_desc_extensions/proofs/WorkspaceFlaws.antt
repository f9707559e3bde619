-- What is wrong with a file in its workspace is of the phase of checks, and stands at a token of the file (for the crates above).
use Rattle.std.proofs.Common.{◌≡◌, ℕ, ◌<◌, pos, min, Bool, true, false, not, List, [], ◌∷◌, length, map, flat_map, Option, Some, sym, ap, subst, inl, inr, arith, Contains}
use Rattle.proto_base.proofs.Common.{All-contains, Contains-append_cases, contains_cases, contains_head, contains_later, length-map, phase_of}
use Rattle.proto_base.specs.declared.fault.FaultKind.{FaultKind}
use Rattle.proto_base.specs.declared.fault.FaultKind.TheVariants as kind
use Rattle.proto_files.proofs.Common.{FileOf, ReadOf, AreRead, file_at, read_at}
use Rattle.proto_desc_numbers.specs.declared.flaw.Flaw.{Flaw}
use Rattle.proto_desc_numbers.proofs.Common.{flaw, flaw_if, is_field_number, marked}
use Rattle.proto_desc_checks.specs.FileFlaws.{file_flaws}
use Rattle.proto_desc_checks.proofs.FlawTokens.{flaw_within}
use Rattle.proto_desc_checks.proofs.Phases.{flaws_are_of_checks}
use Rattle.proto_resolved.specs.SceneOf.{scene_of}
use Rattle.proto_desc_extensions.specs.Common.{all_flaws, is_an_option, number_flaws, custom_flaws, workspace_flaws}
use Rattle.proto_desc_extensions.proofs.WrittenExtensions.{Written, again_of, flaws_written, from_flat_map, outside_of, written_in, wrong_there}
use Rattle.proto_ast.proofs.Common.{Scene, number_value, text}
use Rattle.proto_custom_options.proofs.RisingCustoms.{customs_rise}
use Rattle.proto_custom_options.specs.CustomOptions.{CustomOf, custom_words, customs_in, named_words}
use Rattle.proto_desc_numbers.proofs.CappedCovers.{contains_flat}
use Rattle.proto_text.specs.Tokens.{Lexeme, lexeme_at}
use Rattle.proto_text.specs.declared.lexer.Token.{Token}
use Rattle.proto_tree.specs.References.{first_of}
use Rattle.proto_tree.specs.Tree.{Tree}

of_if : (b : Bool) (k : FaultKind) (t : ℕ) (f : Flaw) → Contains (flaw_if b k t) f → flaw k t ≡ f
of_if true k t f c = elim (contains_cases (flaw k t) f [] c) [
  | inl e ↦ e
  | inr d ↦ absurd (omega (arith, d.1))
]
of_if false k t f c = absurd (omega (arith, c.1))

of_marked : (k : FaultKind) (ws : List Written) (flags : List Bool) (f : Flaw) → Contains (marked k (map (λ w. w.token) ws) flags) f → (w : Written) × Contains ws w × (flaw k w.token ≡ f)
of_marked k [] flags f c = absurd (omega (arith, c.1))
of_marked k (w ∷ ws) [] f c = absurd (omega (arith, c.1))
of_marked k (w ∷ ws) (b ∷ bs) f c = elim (Contains-append_cases (flaw_if b k w.token) (marked k (map (λ w. w.token) ws) bs) f c) [
  | inl h ↦ (w, contains_head w ws, of_if b k w.token f h)
  | inr h ↦ let r = of_marked k ws bs f h in (r.0, contains_later w r.0 ws r.1, r.2)
]

module _ (cap : Option ℕ) (files : List FileOf) (reads : List ReadOf) (file : ℕ) where
  -- it is at the number of an extension of the file
  record Stands (f : Flaw) : Type 0 where
    at : Written
    there : Contains (written_in files reads file) at
    token : at.token ≡ f.token
    phase : phase_of f.kind ≡ 6

  stands : (f : Flaw) → Contains (number_flaws cap files reads file) f → Stands f
  stands f c = elim (Contains-append_cases (flat_map (outside_of files reads cap) (written_in files reads file)) (again_of files reads cap file) f (subst (λ (fs : List Flaw). Contains fs f) (flaws_written files reads cap file) c)) [
    | inl h ↦
        let r = from_flat_map (outside_of files reads cap) (written_in files reads file) f h in
        let e = of_if _ kind.NotExtendable r.0.token f r.2 in
        record { at = r.0; there = r.1; token = ap (λ (x : Flaw). x.token) e; phase = ap (λ (x : Flaw). phase_of x.kind) (sym e) }
    | inr h ↦
        let r = of_marked kind.DuplicateExtension (written_in files reads file) _ f h in
        record { at = r.0; there = r.1; token = ap (λ (x : Flaw). x.token) r.2; phase = ap (λ (x : Flaw). phase_of x.kind) (sym r.2) }
  ]

  -- it is at the name of a custom option of the file
  record IsAtOption (f : Flaw) : Type 0 where
    option : CustomOf
    there : Contains (customs_in (read_at reads file).tree) option
    token : first_of option.custom.name.dot option.custom.name.words ≡ f.token
    phase : phase_of f.kind ≡ 6

  of_option : (f : Flaw) → Contains (custom_flaws files reads file) f → IsAtOption f
  of_option f c =
      let place : CustomOf → ℕ = λ o. first_of o.custom.name.dot o.custom.name.words in
      let r = from_flat_map (λ o. flaw_if (not (is_an_option files reads file o)) kind.NotAnOption (place o)) (customs_in (read_at reads file).tree) f c in
      let e = of_if _ kind.NotAnOption (place r.0) f r.2 in
      record { option = r.0; there = r.1; token = ap (λ (x : Flaw). x.token) e; phase = ap (λ (x : Flaw). phase_of x.kind) (sym e) }

  pub all_of_checks : (f : Flaw) → Contains (all_flaws cap files reads file) f → phase_of f.kind ≡ 6
  all_of_checks f c = elim (Contains-append_cases (file_flaws (scene_of cap files reads file) (read_at reads file).tree) (workspace_flaws cap files reads file) f c) [
    | inl h ↦ flaws_are_of_checks (scene_of cap files reads file) (read_at reads file).tree f h
    | inr h ↦ elim (Contains-append_cases (number_flaws cap files reads file) (custom_flaws files reads file) f h) [
      | inl n ↦ (stands f n).phase
      | inr o ↦ (of_option f o).phase
    ]
  ]

  module _ (are : AreRead files reads) (within : file < length files) where
    in_file : (scene : Scene) (f : Flaw) → Contains (file_flaws scene (read_at reads file).tree) f → f.token < length (read_at reads file).tokens
    in_file scene f c = flaw_within (file_at files file).profile (file_at files file).bytes (read_at reads file).tokens (read_at reads file).tree (are.trees file within) scene f c

    -- where all numbers are read as 0, each number of an extension is a flaw of the file alone
    number_there : (w : Written) → Contains (written_in files reads file) w → w.token < length (read_at reads file).tokens
    number_there w h =
        let n : ℕ = number_value (text (scene_of (Some 0) files reads w.file) w.token) in
        let least : min 0 n ≡ 0 = omega arith in
        in_file (scene_of (Some 0) files reads file) (flaw kind.NumberRange w.token) (wrong_there files reads (Some 0) file w h (ap (λ (m : ℕ). is_field_number (pos m)) least))

    -- the name of an option stands in the file
    option_there : (o : CustomOf) → Contains (customs_in (read_at reads file).tree) o → first_of o.custom.name.dot o.custom.name.words < length (read_at reads file).tokens
    option_there o c =
        let tokens : List Token = (read_at reads file).tokens in
        let tree : Tree = (read_at reads file).tree in
        let ls : List Lexeme = map (lexeme_at (file_at files file).bytes) tokens in
        let names : List ℕ = flat_map (λ (x : CustomOf). named_words x.custom) (customs_in tree) in
        let first : ℕ = first_of o.custom.name.dot o.custom.name.words in
        let rise = customs_rise (file_at files file).profile tree ls (are.trees file within).spells in
        let here : Contains names first = contains_flat (λ (x : CustomOf). named_words x.custom) (customs_in tree) o first c (contains_head first (custom_words o.custom)) in
        let l : first < length ls = All-contains (λ i. i < length ls) names first rise.1 here in
        omega (arith, l, length-map tokens (lexeme_at (file_at files file).bytes))

    pub all_within : (f : Flaw) → Contains (all_flaws cap files reads file) f → f.token < length (read_at reads file).tokens
    all_within f c = elim (Contains-append_cases (file_flaws (scene_of cap files reads file) (read_at reads file).tree) (workspace_flaws cap files reads file) f c) [
      | inl h ↦ in_file (scene_of cap files reads file) f h
      | inr h ↦ elim (Contains-append_cases (number_flaws cap files reads file) (custom_flaws files reads file) f h) [
        | inl n ↦ (let s = stands f n in subst (λ (t : ℕ). t < length (read_at reads file).tokens) s.token (number_there s.at s.there))
        | inr o ↦ (let s = of_option f o in subst (λ (t : ℕ). t < length (read_at reads file).tokens) s.token (option_there s.option s.there))
      ]
    ]
