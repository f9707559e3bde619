-- What is visible by a link of files is what their files see, and references have plain words.
use Rattle.std.proofs.Common.{◌≡◌, ◌⊎◌, ℕ, zero, suc, ◌<◌, Bool, true, false, ◌&&◌, List, [], ◌∷◌, length, get_or, map, slice_get, Some, sym, ◌∙◌, ap, subst, inl, inr, arith, slice_index_or, Contains, bytes_eq}
use Rattle.proto_base.proofs.Common.{cases_Bool, false_from_ne_true, both_ways, and_parts, and_from, length-map, slice_get-get_or, none-some, same_Some, any_from, any_to, contains_later, word_from_same, same_from_word}
use Rattle.proto_text.proofs.Common.{words, one_token_list}
use Rattle.proto_tree.specs.References.{dotted}
use Rattle.proto_files.proofs.Common.{ReadOf, AreRead, read_at, FileOf, file_at}
use Rattle.proto_names_rules.proofs.Common.{joined, ArePlain, ImportsAreOfFiles, MarksSeen, Workspace, same_name, sees, shows, same_from_name, joined_apart, sees_is, shown}
use Rattle.proto_names_outline.proofs.ReadTrees.{uses_plain}
use Rattle.proto_names_imports.specs.Links.{names_in, names_of_files}
use Rattle.proto_names.proofs.NamesThere.{declared_at, there_is}
use Rattle.proto_names.specs.Laws.{SeesName, UsesAreWords, VisibleIsSeen, VisibleIsShown}
use Rattle.proto_names.specs.Common.{HoldsNames, IsLinkRead, LinkOf, NameOf, is_visible, name_at, sees_one}

member_at : (ns : List NameOf) (row : ℕ) (n : NameOf) → slice_get ns row ≡ Some n → Contains ns n
member_at [] row n h = absurd (none-some n h)
member_at (m ∷ ns) zero n h = (0, omega arith, same_Some m n h)
member_at (m ∷ ns) (suc row) n h = contains_later m n ns (member_at ns row n h)

-- a link that holds the names of a workspace, and the marks of what a file sees
module _ (w : Workspace) (l : LinkOf) (holds : HoldsNames w l) (files : ImportsAreOfFiles w) (file : ℕ) (marks : MarksSeen w file (get_or l.seen file [])) where
  abbrev seen : List Bool
  seen = get_or l.seen file []

  visible_to : (text : List ℕ) → is_visible l file text ≡ true → SeesName w file text
  visible_to text h =
      let n = any_to (λ n. bytes_eq n.text text && sees_one seen n.files) l.names h in
      let p = and_parts (bytes_eq n.0.text text) (sees_one seen n.0.files) n.2 in
      let f = any_to (λ g. slice_index_or seen g false) n.0.files p.1 in
      let at : name_at l n.1.0 ≡ Some n.0 = declared_at l n.1.0 n.0 (slice_get-get_or l.names n.1.0 n.0 n.1.1 ∙ ap Some n.1.2) (omega (arith, f.1.1)) in
      let s = holds.only n.1.0 f.0 n.0 at f.1 in
      record {
        symbol = s.0;
        declared = s.1;
        name = s.2 ∙ word_from_same n.0.text text p.0;
        seen = (sees_is w files file s.0.file).0 (ap (sees w file) s.4 ∙ sym (marks f.0) ∙ f.2);
      }

  visible_from : (text : List ℕ) → SeesName w file text → is_visible l file text ≡ true
  visible_from text x =
      let s = x.symbol in
      let n = holds.there s x.declared in
      let marked = marks s.file ∙ (sees_is w files file s.file).1 x.seen in
      any_from (λ n. bytes_eq n.text text && sees_one seen n.files) l.names n.1 (member_at l.names n.0 n.1 (there_is l n.0 n.1 n.2))
      (and_from _ _ (same_from_word n.1.text text (n.3 ∙ x.name)) (any_from (λ g. slice_index_or seen g false) n.1.files s.file n.5 marked))

  shown_is : (name : List (List ℕ)) → ArePlain name → is_visible l file (joined name) ≡ shows w file (λ k. true) name
  shown_is name plain = go (cases_Bool (shows w file (λ k. true) name))
    where
      go : (shows w file (λ k. true) name ≡ true) ⊎ (shows w file (λ k. true) name ≡ false) → is_visible l file (joined name) ≡ shows w file (λ k. true) name
      go (inl h) =
          let s = shown w file (λ k. true) name h in
          visible_from (joined name) (record { symbol = s.0; declared = s.1; name = ap joined s.2; seen = (sees_is w files file s.0.file).0 s.4 }) ∙ sym h
      go (inr h) =
          false_from_ne_true (is_visible l file (joined name)) (λ q.
          let x = visible_to (joined name) q in
          both_ways (shows w file (λ k. true) name) h
          (any_from (λ s. same_name s.name name && (true && sees w file s.file)) w.symbols x.symbol x.declared
          (and_from _ _ (same_from_name x.symbol.name name (joined_apart x.symbol.name name (holds.plain x.symbol x.declared) plain x.name)) ((sees_is w files file x.symbol.file).1 x.seen)))) ∙ sym h

marks_of : (files : List FileOf) (reads : List ReadOf) (l : LinkOf) → IsLinkRead files reads l → AreRead files reads → (file : ℕ) → file < length files → MarksSeen (names_of_files files reads) file (get_or l.seen file [])
marks_of files reads l link are file within = link.by.seen file (let n = length-map reads names_in in let m = are.same in omega (arith, within, m, n))

pub visible_is_seen : VisibleIsSeen
visible_is_seen files reads l link are file within text =
    let x = link reads are in
    let marks = marks_of files reads l x are file within in
    (visible_to (names_of_files files reads) l x.by.names x.by.between file marks text, visible_from (names_of_files files reads) l x.by.names x.by.between file marks text)

pub visible_is_shown : VisibleIsShown
visible_is_shown files reads l link are file within name plain =
    let x = link reads are in
    shown_is (names_of_files files reads) l x.by.names x.by.between file (marks_of files reads l x are file within) name plain

pub uses_are_words : UsesAreWords
uses_are_words files reads are file within u c r same tokens tokens_are =
    let bytes = (file_at files file).bytes in
    let mine = (read_at reads file).tokens in
    let plain = (uses_plain (file_at files file).profile bytes mine (read_at reads file).tree (are.trees file within) u c).0 in
    subst (λ z. ArePlain (map (words bytes z) (dotted r.words))) (one_token_list bytes mine tokens (are.tokens file within) tokens_are)
    (subst (λ z. ArePlain (map (words bytes mine) z)) (sym same) plain)
