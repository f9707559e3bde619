-- An option that reads the same in another scene.
use Rattle.std.proofs.Common.{◌≡◌, ℕ, List, map, Option, Some, None, option_map, refl, sym, ◌∙◌, ap, Contains, inl, inr, subst}
use Rattle.proto_base.proofs.Common.{cases_eq}
use Rattle.proto_custom_options.specs.CustomOptions.{CustomOf, custom_tokens, custom_words, customs_in}
use Rattle.proto_files.proofs.Common.{AreRead, FileOf, ReadOf, read_at}
use Rattle.proto_files.specs.Faults.{HasNoFault}
use Rattle.proto_tree.proofs.Common.{Move, Tree}
use Rattle.proto_names_rules.proofs.Common.{map_agree, map_map}
use Rattle.proto_names_rules.specs.Names.{Name}
use Rattle.proto_names_imports.specs.Links.{LinkFaults}
use Rattle.proto_ast.specs.Scenes.{MeantOf, Scene, meant_by, text}
use Rattle.proto_descriptors.specs.Descriptors.{FieldDesc, FileDesc}
use Rattle.proto_resolved.specs.SceneOf.{name_meant, scene_of}
use Rattle.proto_edit_rules.specs.OptionViews.{IsExtensionOf, OptionsStay, SeesTheSame, texts_at}
use Rattle.proto_edit_rules.specs.Statements.{tree_at}
use Rattle.proto_edit_statement_described.specs.Files.{OthersStay, scene_at}
use Rattle.proto_edit_statement_described.specs.Scenes.{IsMovedScene}
use Rattle.proto_edit_statement_laws.specs.Options.{OptionsMoveTokens, move_custom_of}
use Rattle.proto_option_statement_laws.proofs.NamesMeant.{same_meaning}

-- the option of the second scene has the element, the texts and the meaning of that of the first
pub record IsSameIn (a b : Scene) (c d : CustomOf) : Type 0 where
  pub message : d.message ≡ c.message
  pub texts : map (text b) (custom_tokens d.custom) ≡ map (text a) (custom_tokens c.custom)
  pub name : option_map (λ (m : MeantOf). m.name) (meant_by b d.custom.name) ≡ option_map (λ (m : MeantOf). m.name) (meant_by a c.custom.name)

pub same_back : {a b : Scene} {c d : CustomOf} → IsSameIn a b c d → IsSameIn b a d c
same_back s = record { message = sym s.message; texts = sym s.texts; name = sym s.name }

pub same_then : {a b z : Scene} {c d e : CustomOf} → IsSameIn a b c d → IsSameIn b z d e → IsSameIn a z c e
same_then s t = record { message = t.message ∙ s.message; texts = t.texts ∙ s.texts; name = t.name ∙ s.name }

-- in a scene that is the first
pub same_scene : (a b : Scene) → b ≡ a → (c : CustomOf) → IsSameIn a b c c
same_scene a b e c = record {
  message = refl;
  texts = ap (λ (s : Scene). map (text s) (custom_tokens c.custom)) e;
  name = ap (λ (s : Scene). option_map (λ (m : MeantOf). m.name) (meant_by s c.custom.name)) e;
}

-- in a scene with moved tokens
pub same_moved : OptionsMoveTokens → (g : Move) (a b : Scene) → IsMovedScene g a b → (c : CustomOf) → IsSameIn a b c (move_custom_of g c)
same_moved law g a b m c = record {
  message = refl;
  texts = ap (map (text b)) (law g c.custom).1 ∙ map_map g (text b) (custom_tokens c.custom) ∙ map_agree (λ i. text b (g i)) (text a) (custom_tokens c.custom) (λ i h. m.same.texts i);
  name = m.names c.custom.name;
}

-- ---- all options

same_under : {A : Type 0} (o : Option A) → o ≡ option_map (λ x. x) o
same_under None = refl
same_under (Some x) = refl

module _ (files : List FileOf) (reads : List ReadOf) (after : List FileOf) (seen : List ReadOf) (r : AreRead files reads) (ok : HasNoFault (LinkFaults files)) (s : AreRead after seen) (fine : HasNoFault (LinkFaults after)) (ds new : List FileDesc) where
  -- a reader of a value of an old option sees the same
  abbrev pub Sees : Type 0
  Sees =
      (k : ℕ) (c : CustomOf) → Contains (customs_in (read_at reads k).tree) c → (name : Name) (x : FieldDesc) → name_meant files reads k c.custom.name ≡ Some name → IsExtensionOf ds name x
      → IsExtensionOf new name x × SeesTheSame (λ t. t) (texts_at files reads k (custom_words c.custom)) ds new x x

  -- each new option is an old one
  abbrev pub AreOld : Type 0
  AreOld =
      (k : ℕ) (d : CustomOf) → Contains (customs_in (read_at seen k).tree) d
      → (c : CustomOf) × Contains (customs_in (read_at reads k).tree) c × IsSameIn (scene_of None files reads k) (scene_of None after seen k) c d

  pub options_stay : AreOld → Sees → OptionsStay (λ t. t) files after reads seen ds new
  options_stay old sees k d c =
      let o = old k d c in (
        o.0,
        o.1,
        record {
          message = o.2.message;
          texts = o.2.texts;
          means = same_meaning files reads after seen r ok s fine k o.0.custom.name d.custom.name o.2.name ∙ same_under (name_meant files reads k o.0.custom.name);
          sees = λ name x m is. let v = sees k o.0 o.1 name x m is in (x, v.0, v.1);
        },
      )

-- ---- where one file is read otherwise

-- an option of the file with this number is one of before
abbrev pub Old : List FileOf → List ReadOf → List FileOf → List ReadOf → ℕ → CustomOf → Type 0
Old files reads after seen k e = (c : CustomOf) × Contains (customs_in (tree_at reads k)) c × IsSameIn (scene_at files reads k) (scene_at after seen k) c e

-- it is so in all files, where it is in that one
pub old_by : (files : List FileOf) (reads : List ReadOf) (after : List FileOf) (seen : List ReadOf) (place : ℕ) (ok : HasNoFault (LinkFaults files)) (fine : HasNoFault (LinkFaults after)) (others : OthersStay files reads after seen place)
    → ((e : CustomOf) → Contains (customs_in (tree_at seen place)) e → Old files reads after seen place e) → (ds new : List FileDesc) → AreOld files reads after seen others.read ok others.seen_are fine ds new
old_by files reads after seen place ok fine others here ds new k e c = elim (cases_eq k place) [
  | inl q ↦ subst (λ i. Old files reads after seen i e) (sym q) (here e (subst (λ i. Contains (customs_in (tree_at seen i)) e) q c))
  | inr n ↦ (e, subst (λ (t : Tree). Contains (customs_in t) e) (others.trees k n) c, same_scene (scene_at files reads k) (scene_at after seen k) (others.scenes k n) e)
]
