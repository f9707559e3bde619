-- The types that a value may fill stand in files that the extension's file leads to, and the words of the option are none
-- that may not be of what these declare (for the crates above).
use Rattle.std.proofs.Common.{◌≡◌, ◌≢◌, ℕ, false, List, Some, sym, ◌∙◌, ap, subst, inl, inr, Contains, bytes_eq}
use Rattle.proto_base.proofs.Common.{any_to, fails_from, from_map, word_from_same}
use Rattle.proto_ast.specs.Options.{is_one_of}
use Rattle.proto_base.specs.Texts.{Text}
use Rattle.proto_custom_options.specs.CustomOptions.{CustomOf, custom_words, customs_in}
use Rattle.proto_desc.specs.Checked.{described}
use Rattle.proto_descriptors.specs.Descriptors.{FieldDesc}
use Rattle.proto_edit_rename_laws.proofs.Common.{one_declaration}
use Rattle.proto_edit_rules.specs.OptionViews.{IsExtensionOf, IsFilled, of_extension, of_field, texts_at}
use Rattle.proto_edit_rules.specs.Options.{IsOptionWord}
use Rattle.proto_files.proofs.Common.{AreRead, FileOf, HasNoFault, ReadOf, read_at}
use Rattle.proto_names_imports.proofs.Common.{LinkFaults, link_imports, link_skeleton, text_of}
use Rattle.proto_names_rules.proofs.Common.{At, Declared, Leads, at}
use Rattle.proto_names_rules.specs.Names.{Name}
use Rattle.proto_names_rules.specs.declared.kind.Kind.TheVariants.{Package}
use Rattle.proto_option_laws.proofs.Declared.{extensions_are_declared, messages_are_declared}
use Rattle.proto_option_laws.proofs.Types.{leads_on, linked}
use Rattle.proto_option_laws.specs.Declared.{HasName, IsDeclaredExtension, IsReached}
use Rattle.proto_option_laws.specs.Filled.{FilledAreReached, FilledAreUnaffected}
use Rattle.proto_resolved.specs.SceneOf.{name_meant}

module _ (files : List FileOf) (reads : List ReadOf) (r : AreRead files reads) (ok : HasNoFault (LinkFaults files)) where
  -- declarations of one name, of which the first is no package, are one
  pub one_file : (name : Name) (s t : Declared At) → Contains (link_skeleton files reads).declared s → Contains (link_skeleton files reads).declared t → HasName files reads s name → HasName files reads t name → s.kind ≢ Package → s ≡ t
  one_file name s t cs ct ns nt other = elim (one_declaration files reads r (linked files reads r ok) s t cs ct (ns ∙ sym nt)) [
    | inl q ↦ q
    | inr k ↦ absurd (other k.0)
  ]

  module _ (these : List Text) (extension : Name) (x : FieldDesc) (d : IsDeclaredExtension files reads extension x) where
    pub reached : (name : Name) → IsFilled these (described files reads) x name → IsReached files reads d.d.file name
    reached _ (of_extension name h) = d.type name h
    reached _ (of_field name next m f filled is cf ce h) =
        let before = reached name filled in
        let k = messages_are_declared files reads r ok name m is in
        let t = (k.fields f cf).type next h in
        let q = one_file name before.d k.d before.within k.within before.name_is k.name_is before.no_package in
        record {
          d = t.d;
          within = t.within;
          name_is = t.name_is;
          no_package = t.no_package;
          leads = leads_on (link_imports files reads) before.leads (subst (λ (z : Declared At). Leads (link_imports files reads) z.file t.d.file) (sym q) t.leads);
        }

  module _ (file : ℕ) (c : CustomOf) (within : Contains (customs_in (read_at reads file).tree) c) (extension : Name) (x : FieldDesc) (means : name_meant files reads file c.custom.name ≡ Some extension)
      (is : IsExtensionOf (described files reads) extension x) where
    unaffected : (name : Name) → IsFilled (texts_at files reads file (custom_words c.custom)) (described files reads) x name → (d : Declared At) → Contains (link_skeleton files reads).declared d → HasName files reads d name → d.kind ≢ Package
        → (words : List Text) → ((a : At) → IsOptionWord files reads d.file words a → ⊥) → (w : Text) → Contains words w → is_one_of (texts_at files reads file (custom_words c.custom)) w ≡ false
    unaffected name filled d cd nd other words none w cw =
        let e = extensions_are_declared files reads r ok extension x is in
        let to = reached (texts_at files reads file (custom_words c.custom)) extension x e name filled in
        let q = one_file name d to.d cd to.within nd to.name_is other in
        fails_from (is_one_of (texts_at files reads file (custom_words c.custom)) w) (λ h. (
        let v = any_to (bytes_eq w) (texts_at files reads file (custom_words c.custom)) h in
        let t = from_map (λ t. text_of files reads (at file t)) (custom_words c.custom) v.0 v.1 in
        let same : w ≡ text_of files reads (at file t.0) = word_from_same w v.0 v.2 ∙ sym t.2 in
        none (at file t.0) (record {
          option = c;
          extension = e.d;
          within = within;
          stands = t.1;
          word = subst (Contains words) same cw;
          declared = e.within;
          means = means ∙ ap Some (sym e.name_is);
          leads = subst (λ (z : Declared At). Leads (link_imports files reads) e.d.file z.file) (sym q) to.leads;
        })))

pub filled_are_reached : FilledAreReached
filled_are_reached files reads r ok these extension x d name f = reached files reads r ok these extension x d name f

pub filled_are_unaffected : FilledAreUnaffected
filled_are_unaffected files reads r ok file c within extension x means is name f d cd nd other words none w cw = unaffected files reads r ok file c within extension x means is name f d cd nd other words none w cw
