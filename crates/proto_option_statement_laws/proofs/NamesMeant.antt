-- What the name of an option means, by the text that its scene has of it.
use Rattle.std.proofs.Common.{◌≡◌, ℕ, ◌==◌, Bool, List, find, Option, Some, None, option_map, refl, sym, ◌∙◌, ap, subst, Contains, option_and_then}
use Rattle.proto_base.proofs.Common.{found_in_map, none-some, same_Some}
use Rattle.proto_files.proofs.Common.{AreRead, FileOf, ReadOf}
use Rattle.proto_files.specs.Faults.{HasNoFault}
use Rattle.proto_tree.specs.References.{first_of}
use Rattle.proto_tree.specs.declared.tree.Reference.{Reference}
use Rattle.proto_names_rules.proofs.Common.{has_meaning, joined_apart, meant}
use Rattle.proto_names_rules.specs.Joined.{ArePlain, joined}
use Rattle.proto_names_rules.specs.Names.{Name}
use Rattle.proto_names_rules.specs.Skeleton.{Used}
use Rattle.proto_names_imports.proofs.Common.{names_are_plain}
use Rattle.proto_names_imports.specs.Links.{LinkFaults, names_of_files, text_of, used_named, uses_of}
use Rattle.proto_ast.specs.Scenes.{MeantOf, meant_by}
use Rattle.proto_resolved.specs.SceneOf.{meaning_of, meant_as, name_meant, scene_of}
use Rattle.proto_edit_rename_laws.proofs.Common.{files_are_linked, find_agree, find_there}
use Rattle.proto_edit_statement_described.proofs.OtherScenes.{reference_there}

token_is : (files : List FileOf) (reads : List ReadOf) (t : ℕ) (o : Option Name) → (meant_as files reads t o).token ≡ t
token_is files reads t None = refl
token_is files reads t (Some name) = refl

module _ (files : List FileOf) (reads : List ReadOf) (r : AreRead files reads) (ok : HasNoFault (LinkFaults files)) (k : ℕ) where
  use_means : (u : Used ℕ) → Contains (uses_of reads k) u → (m : Name) × (meaning_of files reads k u ≡ Some m) × ArePlain m
  use_means u c =
      let m = has_meaning (meaning_of files reads k u) ((files_are_linked files reads r ok).resolved (used_named (text_of files reads) k u) (reference_there files reads k u c)) in
      let s = meant (names_of_files files reads) (used_named (text_of files reads) k u) m.0 m.1 in
      (m.0, m.1, subst ArePlain s.2 (names_are_plain files reads r s.0 s.1))

  -- what the scene has of a use
  abbrev as_meant : Used ℕ → MeantOf
  as_meant u = meant_as files reads u.first (meaning_of files reads k u)

  abbrev begins : Reference → Used ℕ → Bool
  begins q u = u.first == first_of q.dot q.words

  found : (q : Reference) → meant_by (scene_of None files reads k) q ≡ option_map as_meant (find (begins q) (uses_of reads k))
  found q =
      found_in_map (λ (m : MeantOf). m.token == first_of q.dot q.words) as_meant (uses_of reads k)
      ∙ ap (option_map as_meant) (find_agree (λ u. (as_meant u).token == first_of q.dot q.words) (begins q) (uses_of reads k) (λ u d. ap (λ n. n == first_of q.dot q.words) (token_is files reads u.first (meaning_of files reads k u))))

  -- it is the name, joined
  pub name_is_joined : (q : Reference) → option_map (λ (m : MeantOf). m.name) (meant_by (scene_of None files reads k) q) ≡ option_map joined (name_meant files reads k q)
  name_is_joined q = ap (option_map (λ (m : MeantOf). m.name)) (found q) ∙ by (find (begins q) (uses_of reads k)) (λ u e. (find_there (begins q) (uses_of reads k) u e).0)
    where
      by : (o : Option (Used ℕ)) → ((u : Used ℕ) → o ≡ Some u → Contains (uses_of reads k) u) → option_map (λ (m : MeantOf). m.name) (option_map as_meant o) ≡ option_map joined (option_and_then (meaning_of files reads k) o)
      by None there = refl
      by (Some u) there =
          let m = use_means u (there u refl) in
          ap (λ o. Some (meant_as files reads u.first o).name) m.1 ∙ sym (ap (option_map joined) m.1)

  -- and its words are plain
  pub meant_plain : (q : Reference) (m : Name) → name_meant files reads k q ≡ Some m → ArePlain m
  meant_plain q m e = by (find (begins q) (uses_of reads k)) (λ u f. (find_there (begins q) (uses_of reads k) u f).0) e
    where
      by : (o : Option (Used ℕ)) → ((u : Used ℕ) → o ≡ Some u → Contains (uses_of reads k) u) → option_and_then (meaning_of files reads k) o ≡ Some m → ArePlain m
      by None there e = absurd (none-some m e)
      by (Some u) there e = let n = use_means u (there u refl) in subst ArePlain (same_Some n.0 m (sym n.1 ∙ e)) n.2

-- plain names that join to one text are one
joined_both : (o p : Option Name) → ((m : Name) → o ≡ Some m → ArePlain m) → ((m : Name) → p ≡ Some m → ArePlain m) → option_map joined o ≡ option_map joined p → o ≡ p
joined_both None None a b e = refl
joined_both None (Some y) a b e = absurd (none-some (joined y) e)
joined_both (Some x) None a b e = absurd (none-some (joined x) (sym e))
joined_both (Some x) (Some y) a b e = ap Some (joined_apart x y (a x refl) (b y refl) (same_Some (joined x) (joined y) e))

-- two names mean the same where the scenes say so
pub same_meaning : (files : List FileOf) (reads : List ReadOf) (after : List FileOf) (seen : List ReadOf) → AreRead files reads → HasNoFault (LinkFaults files) → AreRead after seen → HasNoFault (LinkFaults after) → (k : ℕ) (q p : Reference)
    → option_map (λ (m : MeantOf). m.name) (meant_by (scene_of None after seen k) p) ≡ option_map (λ (m : MeantOf). m.name) (meant_by (scene_of None files reads k) q)
    → name_meant after seen k p ≡ name_meant files reads k q
same_meaning files reads after seen r ok s fine k q p e =
    joined_both (name_meant after seen k p) (name_meant files reads k q) (meant_plain after seen s fine k p) (meant_plain files reads r ok k q)
    (sym (name_is_joined after seen s fine k p) ∙ e ∙ name_is_joined files reads r ok k q)
