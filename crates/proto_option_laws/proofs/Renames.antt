-- An allowed rename leaves options (for the crates above).
use Rattle.std.proofs.Common.{◌≡◌, ℕ, ◌<◌, ◌==◌, List, [], length, find, Option, Some, None, option_map, option_and_then, refl, sym, ◌∙◌, ap, subst, inl, inr, arith, Contains}
use Rattle.proto_base.proofs.Common.{cases_lt, contains_map}
use Rattle.proto_case.specs.Camel.{entry_name}
use Rattle.proto_custom_options.specs.CustomOptions.{CustomOf, custom_words, customs_in}
use Rattle.proto_desc.specs.Checked.{described}
use Rattle.proto_descriptors.specs.Descriptors.{FieldDesc}
use Rattle.proto_edit_rename_described.specs.Allowed.{IsAllowedRename}
use Rattle.proto_edit_rename_described.proofs.Allowed.{is_rename}
use Rattle.proto_edit_rename_described.proofs.FilesTurn.{all_are_mapped}
use Rattle.proto_edit_rename_described.proofs.WrittenJson.{writes_json}
use Rattle.proto_edit_rename_laws.proofs.Common.{AreReworded, IsRename, Target, find_there, meaning_after, meaning_of, name_map, renamed_words, trees_at, used_here, uses_stay}
use Rattle.proto_edit_rename_laws.proofs.CustomTokens.{option_texts_stay}
use Rattle.proto_edit_rename_laws.proofs.Scenes.{index_past}
use Rattle.proto_edit_rules.specs.OptionViews.{IsExtensionOf, OptionsStay, SeesTheSame, texts_at}
use Rattle.proto_edit_rules.specs.Rename.{Taken, mapped_field}
use Rattle.proto_files.proofs.Common.{FileOf, ReadOf, read_at}
use Rattle.proto_names_imports.proofs.Common.{link_skeleton, text_of, used_named, uses_of}
use Rattle.proto_names_rules.proofs.Common.{At, Used, has_meaning, reference_of, ren}
use Rattle.proto_option_laws.proofs.Agree.{options_agree}
use Rattle.proto_option_laws.proofs.Maps.{extension_turned}
use Rattle.proto_option_laws.proofs.Views.{packages_stay, sees_the_same}
use Rattle.proto_option_laws.specs.Renames.{RenamesKeepOptions, RenamesLeaveOptions}
use Rattle.proto_resolved.specs.SceneOf.{name_meant}
use Rattle.proto_tree.specs.References.{first_of}
use Rattle.proto_tree.specs.Tree.{End}
use Rattle.proto_tree.specs.declared.tree.Reference.{Reference}

-- a file past the last has no option
no_option : (reads : List ReadOf) (file : ℕ) (c : CustomOf) → Contains (customs_in (read_at reads file).tree) c → file < length reads
no_option reads file c h = elim (cases_lt file (length reads)) [
  | inl l ↦ l
  | inr past ↦ (
      let none : read_at reads file ≡ (let x : ReadOf = record { tokens = []; tree = End } in x) = index_past reads (record { tokens = []; tree = End }) file (omega (arith, past)) in
      let there = subst (λ (x : ReadOf). Contains (customs_in x.tree) c) none h in
      absurd (omega (arith, there.1)))
]

module _ (files : List FileOf) (reads : List ReadOf) (name to : List ℕ) (t : Target) (after : List FileOf) (seen : List ReadOf)
    (al : IsAllowedRename files reads name to t) (w : AreReworded (renamed_words files reads t to) files reads after seen) where
  abbrev c : At → Option (List ℕ)
  c = renamed_words files reads t to

  is : IsRename files reads (renamed_words files reads t to) after seen t.token t.above t.aim t.is_map to
  is = is_rename files reads name to t after seen al w

  module _ (file : ℕ) (l : file < length files) where
    -- what the name of an option means
    name_turns : (x : Reference) → name_meant after seen file x ≡ option_map (ren (name_map files reads t to)) (name_meant files reads file x)
    name_turns x =
        ap (λ us. option_and_then (meaning_of after seen file) (find (λ (u : Used ℕ). u.first == first_of x.dot x.words) us)) (uses_stay files reads c after seen t.token t.above t.aim t.is_map to is file)
        ∙ by (find (λ (u : Used ℕ). u.first == first_of x.dot x.words) (uses_of reads file)) refl
      where
        by : (o : Option (Used ℕ)) → find (λ (u : Used ℕ). u.first == first_of x.dot x.words) (uses_of reads file) ≡ o
            → option_and_then (meaning_of after seen file) o ≡ option_map (ren (name_map files reads t to)) (option_and_then (meaning_of files reads file) o)
        by None q = refl
        by (Some u) q =
            let cu = (find_there (λ (u : Used ℕ). u.first == first_of x.dot x.words) (uses_of reads file) u q).0 in
            let used = contains_map (reference_of (text_of files reads) entry_name) (link_skeleton files reads).used _ (used_here files reads c after seen t.token t.above t.aim t.is_map to is file l u cu) in
            let m = has_meaning (meaning_of files reads file u) (is.linked.resolved (used_named (text_of files reads) file u) used) in
            meaning_after files reads c after seen t.token t.above t.aim t.is_map to is file l u cu m.0 m.1 ∙ sym (ap (option_map (ren (name_map files reads t to))) m.1)

  stay : OptionsStay (ren (name_map files reads t to)) files after reads seen (described files reads) (described after seen)
  stay file d cd =
      let o = option_texts_stay files reads name to t after seen al.read al.link al.named w file d cd in
      let there = o.0 in
      let l : file < length files = (let m = no_option reads file d there in omega (arith, m, al.read.same)) in
      let j = writes_json files reads t in
      let all = all_are_mapped files reads name to t after seen al w j.0 j.1 in
      let taken : Taken = record { written = j.0; enum = t.enum } in (
        d,
        there,
        record {
          message = refl;
          texts = o.1;
          means = name_turns file l d.custom.name;
          sees = λ extension x m ix. (
              let y = extension_turned (name_map files reads t to) taken (described files reads) (packages_stay files reads name to t after seen al w j.0 j.1) extension x ix in
              subst (λ ns. (z : FieldDesc) × IsExtensionOf ns (ren (name_map files reads t to) extension) z × SeesTheSame (ren (name_map files reads t to)) (texts_at files reads file (custom_words d.custom)) (described files reads) ns x z) (sym all)
              (mapped_field (name_map files reads t to) taken y.0 x, y.1, sees_the_same files reads name to t after seen al w j.0 j.1 file d there extension x m ix y.0));
        },
      )

pub renames_leave_options : RenamesLeaveOptions
renames_leave_options files reads name to t after seen al w ds new old later f agree =
    options_agree (ren (name_map files reads t to)) f (λ x. sym (agree x)) files after reads seen ds new
    (subst (λ z. OptionsStay (ren (name_map files reads t to)) files after reads seen z new) (sym (old reads al.read))
    (subst (λ z. OptionsStay (ren (name_map files reads t to)) files after reads seen (described files reads) z) (sym (later seen w.read)) (stay files reads name to t after seen al w)))

pub renames_keep_options : RenamesKeepOptions
renames_keep_options files reads name to t after seen al w file =
    ap customs_in (trees_at files reads (renamed_words files reads t to) after seen t.token t.above t.aim t.is_map to (is files reads name to t after seen al w) file)
