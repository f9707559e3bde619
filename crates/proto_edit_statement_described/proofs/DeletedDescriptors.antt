-- The descriptor of a file without a field is the old one, mapped.
use Rattle.std.proofs.Common.{◌≡◌, ℕ, ℤ, ◌+◌, ◌==◌, ◌||◌, length, true, false, List, [], ◌∷◌, ◌++◌, map, flat_map, Option, None, codes, refl, sym, ◌∙◌, ap, ap₂, if◌then◌else◌, eq-eqb}
use Rattle.proto_base.proofs.Common.{list_any, cond-false, cond-true, flat_map-append, map-append}
use Rattle.proto_text.proofs.OneEdit.{length_map}
use Rattle.proto_tree.specs.declared.piece.Extending.{Extending}
use Rattle.proto_tree.specs.declared.piece.Statement.{Statement}
use Rattle.proto_tree.specs.declared.piece.Statement.TheVariants as statement
use Rattle.proto_tree.specs.declared.piece.Header.TheVariants as header
use Rattle.proto_tree.specs.declared.tree.MapField.{MapField}
use Rattle.proto_tree.proofs.Common.{Move, move_header, move_map_field, move_range, move_statement, move_tree, Tree, End, Leaf, Block}
use Rattle.proto_ast.proofs.Common.{FieldOf, extension_ranges, fields_in, options_in, reserved_names, reserved_ranges, statement_options, statements, Scene, number_at, text, value, truth_option}
use Rattle.proto_desc_numbers.specs.NumberFlaws.{range_of}
use Rattle.proto_desc_checks_laws.proofs.Common.{flat_map_moved, maps_kept, extension_ranges_moved, move_field_of, move_option_of, options_moved, reserved_ranges_moved, statement_names_moved, statement_options_moved, range_moved}
use Rattle.proto_names_outline.proofs.Common.{Wanted, imports_in, items_in, move_wanted}
use Rattle.proto_names_rules.specs.Tree.{package_of}
use Rattle.proto_descriptors.specs.declared.file.Syntax.TheVariants as syntax
use Rattle.proto_desc_build.specs.Described.{field_number, file_options, package_named, package_prefix, public_places, services_described, below, entry_described, message_options, enums_described, extensions_described, field_described, message_described, messages_described, number_range, oneof_names, weak_places}
use Rattle.proto_descriptors.specs.declared.message.NumberRange.{NumberRange}
use Rattle.proto_descriptors.specs.Descriptors.{FieldDesc, MessageDesc, Messages, NoMessages, Message}
use Rattle.proto_edit_statement_described.specs.Common.{Deeper, AtField, AtOneof, BehindBlock, BehindLeaf, InMessage, IsDeletedIn, IsDeletedRight, PastBlock, PastLeaf, Plain, OfMap, Reservation, Reserves, WrittenField, written_field, written_name, reserved, statement_of, at_place, places_before, with_more, without_place, DeletionsMapTheDescriptor, field_place, is_its, is_named_at, messages_with_deletion, range_of_field, statements_before, without_entry, without_field, IsMovedScene}
use Rattle.proto_edit_statement_described.proofs.Parts.{IsReader, named_one, no_ranges, no_words, nothing_with, numbered_one, new_fields, new_read, old_fields, old_read, outer_fields, outer_statements}
use Rattle.proto_edit_statement_described.proofs.DeletedHeads.{imports_less, packages_less}
use Rattle.proto_edit_statement_described.proofs.MovedImports.{publics_moved, weaks_moved}
use Rattle.proto_edit_statement_described.proofs.Places.{IsParted, at_is, none_in, none_moved, parted, place_is, some_behind, with_is, without_is}
use Rattle.proto_edit_statement_described.proofs.MovedDescriptors.{each_same, enum_same, enums_same, entry_same, extend_same, extensions_same, field_same, message_same, messages_same, oneofs_same, ranges_same, truths, services_same, service_same, package_same, options_same}

-- ---- imports that are moved

paths : (g : Move) (a b : Scene) → IsMovedScene g a b → (ws vs : List Wanted) → vs ≡ map (move_wanted g) ws → map (λ (w : Wanted). value b w.path) vs ≡ map (λ (w : Wanted). value a w.path) ws
paths g a b all ws vs e = ap (map (λ (w : Wanted). value b w.path)) e ∙ maps_kept (move_wanted g) (λ (w : Wanted). value a w.path) (λ (w : Wanted). value b w.path) (λ w. all.same.strings w.path) ws

message_by : (scene : Scene) (full : List ℕ) (name : ℕ) (t v : Tree) → statements t ≡ statements v → fields_in t ≡ fields_in v → extensions_described scene t ≡ extensions_described scene v → enums_described scene t ≡ enums_described scene v → oneof_names scene t ≡ oneof_names scene v → message_described scene full name t ≡ message_described scene full name v
message_by scene full name t v e f x n o = λ i. record {
  name = text scene name;
  field = map (field_described scene full) (f i);
  extension = x i;
  enum_type = n i;
  extension_range = map (λ r. number_range (range_of scene r)) (flat_map extension_ranges (e i));
  oneof_decl = o i;
  reserved_range = map (λ r. number_range (range_of scene r)) (flat_map reserved_ranges (e i));
  reserved_name = map (value scene) (flat_map reserved_names (e i));
  options = message_options scene false (flat_map statement_options (e i));
}

module _ (g k : Move) (middle old new : Scene) (to_old : IsMovedScene g middle old) (to_new : IsMovedScene k middle new) (aim : WrittenField) (res : Reservation) (reserving : Reserves old new aim res) (fresh : (i : ℕ) → (g i == written_name aim) ≡ false) where
  abbrev token : ℕ
  token = written_name aim

  -- ---- what is right in a message, but for fields and reservations

  right_enums : (x t u : Tree) → IsDeletedRight g k aim res x t u → (enums_described old t ≡ enums_described middle x) × (enums_described new u ≡ enums_described middle x)
  right_enums _ _ _ (AtField rest) = (enums_same g middle old to_old rest, enums_same k middle new to_new rest)
  right_enums _ _ _ (AtOneof h fd i x t j rest same some at) = (enums_same g middle old to_old rest, enums_same k middle new to_new rest)
  right_enums _ _ _ (PastLeaf a x t u sw) = right_enums x t u sw
  right_enums _ _ _ (PastBlock (header.Enum h) i within j x t u sw) =
      let r = right_enums x t u sw in
      (λ i. enum_same g middle old to_old h.name within i ∷ r.0 i, λ i. enum_same k middle new to_new h.name within i ∷ r.1 i)
  right_enums _ _ _ (PastBlock whole i within j x t u sw) = right_enums x t u sw

  -- the extensions of a block behind which the field goes
  past_extend : (e : Extending) (within x t u : Tree) → (extensions_described old t ≡ extensions_described middle x) × (extensions_described new u ≡ extensions_described middle x)
      → (extensions_described old (Block (move_header g (header.Extend e)) 0 (move_tree g within) 0 t) ≡ extensions_described middle (Block (header.Extend e) 0 within 0 x)) × (extensions_described new (Block (move_header k (header.Extend e)) 0 (move_tree k within) 0 u) ≡ extensions_described middle (Block (header.Extend e) 0 within 0 x))
  past_extend e within x t u r = (λ i. extend_same g middle old to_old e within i ++ r.0 i, λ i. extend_same k middle new to_new e within i ++ r.1 i)

  right_extensions : (x t u : Tree) → IsDeletedRight g k aim res x t u → (extensions_described old t ≡ extensions_described middle x) × (extensions_described new u ≡ extensions_described middle x)
  right_extensions _ _ _ (AtField rest) = (extensions_same g middle old to_old rest, extensions_same k middle new to_new rest)
  right_extensions _ _ _ (AtOneof h fd i x t j rest same some at) = (extensions_same g middle old to_old rest, extensions_same k middle new to_new rest)
  right_extensions _ _ _ (PastLeaf a x t u sw) = right_extensions x t u sw
  right_extensions _ _ _ (PastBlock (header.Extend e) i within j x t u sw) = past_extend e within x t u (right_extensions x t u sw)
  right_extensions _ _ _ (PastBlock whole i within j x t u sw) = right_extensions x t u sw

  right_oneofs : (x t u : Tree) → IsDeletedRight g k aim res x t u → (oneof_names old t ≡ oneof_names middle x) × (oneof_names new u ≡ oneof_names middle x)
  right_oneofs _ _ _ (AtField rest) = (oneofs_same g middle old to_old rest, oneofs_same k middle new to_new rest)
  right_oneofs _ _ _ (AtOneof h fd i x t j rest same some at) =
      (λ i. to_old.same.texts h.name i ∷ oneofs_same g middle old to_old rest i, λ i. to_new.same.texts h.name i ∷ oneofs_same k middle new to_new rest i)
  right_oneofs _ _ _ (PastLeaf a x t u sw) = right_oneofs x t u sw
  right_oneofs _ _ _ (PastBlock (header.Oneof h) i within j x t u sw) =
      let r = right_oneofs x t u sw in
      (λ i. to_old.same.texts h.name i ∷ r.0 i, λ i. to_new.same.texts h.name i ∷ r.1 i)
  right_oneofs _ _ _ (PastBlock whole i within j x t u sw) = right_oneofs x t u sw

  -- a message that is moved, and moved elsewhere
  message_over : (full : List ℕ) (h : ℕ) (within : Tree) (rest : Messages)
      → Message (message_described new (below full (text new (k h))) (k h) (move_tree k within)) (messages_described new (below full (text new (k h))) (move_tree k within)) rest
      ≡ Message (message_described old (below full (text old (g h))) (g h) (move_tree g within)) (messages_described old (below full (text old (g h))) (move_tree g within)) rest
  message_over full h within rest =
      let same : text new (k h) ≡ text old (g h) = to_new.same.texts h ∙ sym (to_old.same.texts h) in
      ap (λ w. Message (message_described new (below full w) (k h) (move_tree k within)) (messages_described new (below full w) (move_tree k within)) rest) same
      ∙ ap₂ (λ (m : MessageDesc) (ms : Messages). Message m ms rest)
      (message_same k middle new to_new (below full (text old (g h))) h within ∙ sym (message_same g middle old to_old (below full (text old (g h))) h within))
      (messages_same k middle new to_new (below full (text old (g h))) within ∙ sym (messages_same g middle old to_old (below full (text old (g h))) within))

  all_over : (full : List ℕ) (x : Tree) → messages_described new full (move_tree k x) ≡ messages_described old full (move_tree g x)
  all_over full x = messages_same k middle new to_new full x ∙ sym (messages_same g middle old to_old full x)

  entry_over : (f : MapField) → entry_described new (move_map_field k f) ≡ entry_described old (move_map_field g f)
  entry_over f = entry_same k middle new to_new f ∙ sym (entry_same g middle old to_old f)

  -- ---- the entry of a map field

  -- what is moved has no entry of it
  entries_stay : (y : Tree) (ms : Messages) → without_entry token (move_tree g y) ms ≡ ms
  entries_stay End ms = refl
  entries_stay (Leaf (statement.MapField f) rest) NoMessages = refl
  entries_stay (Leaf (statement.MapField f) rest) (Message m nested more) =
      cond-false (g f.name == token) more (Message m nested (without_entry token (move_tree g rest) more)) (fresh f.name) ∙ ap (Message m nested) (entries_stay rest more)
  entries_stay (Leaf _ rest) ms = entries_stay rest ms
  entries_stay (Block (header.Message h) i within j rest) NoMessages = refl
  entries_stay (Block (header.Message h) i within j rest) (Message m nested more) = ap (Message m nested) (entries_stay rest more)
  entries_stay (Block whole i within j rest) ms = entries_stay rest ms

  entry_at : (full : List ℕ) (w : WrittenField) (rest : Tree) → written_name w ≡ token
      → messages_described new full (move_tree k rest) ≡ without_entry token (Leaf (statement_of w) (move_tree g rest)) (messages_described old full (Leaf (statement_of w) (move_tree g rest)))
  entry_at full (Plain f) rest is = all_over full rest ∙ sym (entries_stay rest (messages_described old full (move_tree g rest)))
  entry_at full (OfMap f) rest is =
      all_over full rest
      ∙ sym (cond-true (f.name == token) (messages_described old full (move_tree g rest)) (Message (entry_described old f) NoMessages (without_entry token (move_tree g rest) (messages_described old full (move_tree g rest)))) (eq-eqb f.name token is))

  entry_behind : (full : List ℕ) (a : Statement) (t u : Tree) → messages_described new full u ≡ without_entry token t (messages_described old full t)
      → messages_described new full (Leaf (move_statement k a) u) ≡ without_entry token (Leaf (move_statement g a) t) (messages_described old full (Leaf (move_statement g a) t))
  entry_behind full (statement.MapField f) t u e =
      ap₂ (λ (m : MessageDesc) (ms : Messages). Message m NoMessages ms) (entry_over f) e
      ∙ sym (cond-false (g f.name == token) (messages_described old full t) (Message (entry_described old (move_map_field g f)) NoMessages (without_entry token t (messages_described old full t))) (fresh f.name))
  entry_behind full whole t u e = e

  nested : (full : List ℕ) (x t u : Tree) → IsDeletedRight g k aim res x t u → messages_described new full u ≡ without_entry token t (messages_described old full t)
  nested full _ _ _ (AtField rest) = entry_at full aim rest refl
  nested full _ _ _ (AtOneof h fd i x t j rest same some at) = all_over full rest ∙ sym (entries_stay rest (messages_described old full (move_tree g rest)))
  nested full _ _ _ (PastLeaf a x t u sw) = entry_behind full a t u (nested full x t u sw)
  nested full _ _ _ (PastBlock (header.Message h) i within j x t u sw) =
      message_over full h.name within (messages_described new full u)
      ∙ ap (Message (message_described old (below full (text old (g h.name))) (g h.name) (move_tree g within)) (messages_described old (below full (text old (g h.name))) (move_tree g within))) (nested full x t u sw)
  nested full _ _ _ (PastBlock whole i within j x t u sw) = nested full x t u sw

  -- ---- the message

  -- what is read of statements before and behind the place
  module _ {X Y : Type 0} (m_old m_new : X → X) (f : Statement → List X) (by_old : IsReader g m_old f) (by_new : IsReader k m_new f) (nothing : f (statement_of aim) ≡ []) (was of_old of_new : X → Y)
      (to_was : (y : X) → of_old (m_old y) ≡ was y) (from_was : (y : X) → of_new (m_new y) ≡ was y) (x t u : Tree) (sw : IsDeletedRight g k aim res x t u) where
    abbrev place : IsParted g token fresh k res x t u
    place = parted g token fresh k res aim refl x t u sw

    read_over : (h : Move) (m : X → X) → IsReader h m f → (of : X → Y) → ((y : X) → of (m y) ≡ was y) → (ss : List Statement) → map of (flat_map f (map (move_statement h) ss)) ≡ map was (flat_map f ss)
    read_over h m r of e ss = ap (map of) (flat_map_moved (move_statement h) m f f r.moves ss) ∙ maps_kept m was of e (flat_map f ss)

    read_before : length (flat_map f (statements_before token t)) ≡ length (map was (flat_map f place.front))
    read_before =
        ap (λ (ss : List Statement). length (flat_map f ss)) place.before ∙ sym (length_map of_old (flat_map f (map (move_statement g) place.front)))
        ∙ ap length (read_over g m_old by_old of_old to_was place.front)

    read_old : map of_old (flat_map f (statements t)) ≡ map was (flat_map f place.front) ++ map was (flat_map f place.back)
    read_old =
        ap (map of_old) (old_read g k aim res m_old f by_old nothing x t u sw) ∙ maps_kept m_old was of_old to_was (flat_map f (statements x))
        ∙ ap (λ (ss : List Statement). map was (flat_map f ss)) place.all ∙ ap (map was) (flat_map-append f place.front place.back) ∙ map-append was (flat_map f place.front) (flat_map f place.back)

    read_new : map of_new (flat_map f (statements u)) ≡ map was (flat_map f place.front) ++ (map of_new (flat_map f (statements (reserved res))) ++ map was (flat_map f place.back))
    read_new =
        ap (λ (ss : List Statement). map of_new (flat_map f ss)) place.new
        ∙ ap (map of_new) (flat_map-append f (map (move_statement k) place.front) (statements (reserved res) ++ map (move_statement k) place.back))
        ∙ map-append of_new (flat_map f (map (move_statement k) place.front)) (flat_map f (statements (reserved res) ++ map (move_statement k) place.back))
        ∙ ap₂ (λ (y z : List Y). y ++ z) (read_over k m_new by_new of_new from_was place.front)
        (ap (map of_new) (flat_map-append f (statements (reserved res)) (map (move_statement k) place.back))
        ∙ map-append of_new (flat_map f (statements (reserved res))) (flat_map f (map (move_statement k) place.back))
        ∙ ap (λ (z : List Y). map of_new (flat_map f (statements (reserved res))) ++ z) (read_over k m_new by_new of_new from_was place.back))

    -- so the reservation comes in at the place
    comes_in : (more : List Y) → map of_new (flat_map f (statements (reserved res))) ≡ more → map of_new (flat_map f (statements u)) ≡ with_more (length (flat_map f (statements_before token t))) more (map of_old (flat_map f (statements t)))
    comes_in more e =
        read_new ∙ ap (λ (z : List Y). map was (flat_map f place.front) ++ (z ++ map was (flat_map f place.back))) e
        ∙ sym (ap₂ (λ n (z : List Y). with_more n more z) read_before read_old ∙ with_is (map was (flat_map f place.front)) more (map was (flat_map f place.back)))

  message_less : (full : List ℕ) (h : ℕ) (x t u : Tree) → IsDeletedRight g k aim res x t u
      → message_described new full (k h) u ≡ without_field token t (message_described old full (g h) t)
  message_less full h x t u sw =
      let fs = old_fields g k aim res 0 x t u sw in
      let front : List FieldDesc = map (field_described middle full) fs.1.front in
      let back : List FieldDesc = map (field_described middle full) fs.1.back in
      let field : FieldOf = written_field fs.0 aim in
      let gone : FieldDesc = field_described old full field in
      let was : map (field_described old full) (fields_in t) ≡ front ++ gone ∷ back =
      ap (map (field_described old full)) fs.1.is ∙ map-append (field_described old full) (map (move_field_of g) fs.1.front) (field ∷ map (move_field_of g) fs.1.back)
      ∙ ap₂ (λ (y z : List FieldDesc). y ++ gone ∷ z) (maps_kept (move_field_of g) (field_described middle full) (field_described old full) (field_same g middle old to_old full) fs.1.front) (maps_kept (move_field_of g) (field_described middle full) (field_described old full) (field_same g middle old to_old full) fs.1.back) in
      let at : field_place token t ≡ length front =
      ap (places_before (is_named_at token)) fs.1.is ∙ place_is (is_named_at token) (map (move_field_of g) fs.1.front) field (map (move_field_of g) fs.1.back) (none_moved g token fresh fs.1.front) (eq-eqb field.name token (named_one fs.0 aim))
      ∙ length_map (move_field_of g) fs.1.front ∙ sym (length_map (field_described middle full) fs.1.front) in
      let fields : map (field_described new full) (fields_in u) ≡ without_place (field_place token t) (map (field_described old full) (fields_in t)) =
      each_same k middle new to_new (move_field_of k) (field_described middle full) (field_described new full) (field_same k middle new to_new full) (fields_in x) (fields_in u) (new_fields g k aim res 0 x t u sw)
      ∙ ap (map (field_described middle full)) fs.1.all ∙ map-append (field_described middle full) fs.1.front fs.1.back
      ∙ sym (ap₂ (λ n (z : List FieldDesc). without_place n z) at was ∙ without_is front gone back) in
      let one : at_place (field_place token t) (map (field_described old full) (fields_in t)) ≡ gone ∷ [] = ap₂ (λ n (z : List FieldDesc). at_place n z) at was ∙ at_is front gone back in
      let number : number_at new res.number ≡ number_at old field.number = reserving.number ∙ ap (number_at old) (sym (numbered_one fs.0 aim)) in
      let range : number_range (range_of new (record { first = res.number; up_to = None })) ≡ range_of_field gone = ap (λ (z : ℤ). let y : NumberRange = record { start = field_number z; end = field_number z + 1 } in y) number in
      let word : value new res.name ≡ gone.name = reserving.name ∙ ap (text old) (sym (named_one fs.0 aim)) in
      let ranges = comes_in (move_range g g) (move_range k k) reserved_ranges (record { moves = reserved_ranges_moved g }) (record { moves = reserved_ranges_moved k }) (no_ranges aim).0
      (λ r. number_range (range_of middle r)) (λ r. number_range (range_of old r)) (λ r. number_range (range_of new r)) (λ r. ap number_range (range_moved g middle old to_old.same r)) (λ r. ap number_range (range_moved k middle new to_new.same r))
      x t u sw (map range_of_field (at_place (field_place token t) (map (field_described old full) (fields_in t))))
      (ap (λ (r : NumberRange). r ∷ []) range ∙ sym (ap (map range_of_field) one)) in
      let names = comes_in g k reserved_names (record { moves = statement_names_moved g }) (record { moves = statement_names_moved k }) (no_words aim).0
      (value middle) (value old) (value new) to_old.same.strings to_new.same.strings
      x t u sw (map (λ (f : FieldDesc). f.name) (at_place (field_place token t) (map (field_described old full) (fields_in t))))
      (ap (λ (w : List ℕ). w ∷ []) word ∙ sym (ap (map (λ (f : FieldDesc). f.name)) one)) in
      let es = old_read g k aim res (move_range g g) extension_ranges (record { moves = extension_ranges_moved g }) (no_ranges aim).1 x t u sw in
      let ds = nothing_with (move_range k k) _ _ (new_read g k aim res (move_range k k) extension_ranges (record { moves = extension_ranges_moved k }) x t u sw) in
      let extensions : map (λ r. number_range (range_of new r)) (flat_map extension_ranges (statements u)) ≡ map (λ r. number_range (range_of old r)) (flat_map extension_ranges (statements t)) =
      ranges_same k middle new to_new (flat_map extension_ranges (statements x)) _ ds ∙ sym (ranges_same g middle old to_old (flat_map extension_ranges (statements x)) _ es) in
      let os = old_read g k aim res (move_option_of g) statement_options (record { moves = statement_options_moved g }) (no_words aim).2 x t u sw in
      let ps = nothing_with (move_option_of k) _ _ (new_read g k aim res (move_option_of k) statement_options (record { moves = statement_options_moved k }) x t u sw) in
      let said : (n : List ℕ) → truth_option (text new) n (options_in u) ≡ truth_option (text old) n (options_in t) =
      λ n. ap (truth_option (text new) n) ps ∙ truths k middle new to_new n (options_in x)
      ∙ sym (ap (truth_option (text old) n) os ∙ truths g middle old to_old n (options_in x)) in
      let extended = right_extensions x t u sw in
      let enums = right_enums x t u sw in
      let oneofs = right_oneofs x t u sw in
      λ i. record {
        name = (to_new.same.texts h ∙ sym (to_old.same.texts h)) i;
        field = fields i;
        extension = (extended.1 ∙ sym extended.0) i;
        enum_type = (enums.1 ∙ sym enums.0) i;
        extension_range = extensions i;
        oneof_decl = (oneofs.1 ∙ sym oneofs.0) i;
        reserved_range = ranges i;
        reserved_name = names i;
        options = record {
          deprecated = said (codes "deprecated") i;
          no_standard_descriptor_accessor = said (codes "no_standard_descriptor_accessor") i;
          map_entry = false;
        };
      }

  -- ---- further out

  outer_enums : (x t u : Tree) → IsDeletedIn g k aim res x t u → (enums_described old t ≡ enums_described middle x) × (enums_described new u ≡ enums_described middle x)
  outer_enums _ _ _ (InMessage h i x t u j rest sw) = (enums_same g middle old to_old rest, enums_same k middle new to_new rest)
  outer_enums _ _ _ (Deeper h i x t u j rest sw) = (enums_same g middle old to_old rest, enums_same k middle new to_new rest)
  outer_enums _ _ _ (BehindLeaf a x t u sw) = outer_enums x t u sw
  outer_enums _ _ _ (BehindBlock (header.Enum h) i within j x t u sw) =
      let r = outer_enums x t u sw in
      (λ i. enum_same g middle old to_old h.name within i ∷ r.0 i, λ i. enum_same k middle new to_new h.name within i ∷ r.1 i)
  outer_enums _ _ _ (BehindBlock whole i within j x t u sw) = outer_enums x t u sw

  outer_extensions : (x t u : Tree) → IsDeletedIn g k aim res x t u → (extensions_described old t ≡ extensions_described middle x) × (extensions_described new u ≡ extensions_described middle x)
  outer_extensions _ _ _ (InMessage h i x t u j rest sw) = (extensions_same g middle old to_old rest, extensions_same k middle new to_new rest)
  outer_extensions _ _ _ (Deeper h i x t u j rest sw) = (extensions_same g middle old to_old rest, extensions_same k middle new to_new rest)
  outer_extensions _ _ _ (BehindLeaf a x t u sw) = outer_extensions x t u sw
  outer_extensions _ _ _ (BehindBlock (header.Extend e) i within j x t u sw) = past_extend e within x t u (outer_extensions x t u sw)
  outer_extensions _ _ _ (BehindBlock whole i within j x t u sw) = outer_extensions x t u sw

  outer_oneofs : (x t u : Tree) → IsDeletedIn g k aim res x t u → (oneof_names old t ≡ oneof_names middle x) × (oneof_names new u ≡ oneof_names middle x)
  outer_oneofs _ _ _ (InMessage h i x t u j rest sw) = (oneofs_same g middle old to_old rest, oneofs_same k middle new to_new rest)
  outer_oneofs _ _ _ (Deeper h i x t u j rest sw) = (oneofs_same g middle old to_old rest, oneofs_same k middle new to_new rest)
  outer_oneofs _ _ _ (BehindLeaf a x t u sw) = outer_oneofs x t u sw
  outer_oneofs _ _ _ (BehindBlock (header.Oneof h) i within j x t u sw) =
      let r = outer_oneofs x t u sw in
      (λ i. to_old.same.texts h.name i ∷ r.0 i, λ i. to_new.same.texts h.name i ∷ r.1 i)
  outer_oneofs _ _ _ (BehindBlock whole i within j x t u sw) = outer_oneofs x t u sw

  -- the message around is the same
  around : (full : List ℕ) (h : ℕ) (x t u : Tree) → IsDeletedIn g k aim res x t u → message_described old full (g h) t ≡ message_described new full (k h) u
  around full h x t u sw =
      let ss = outer_statements g k aim res x t u sw in
      let fs = outer_fields g k aim res 0 x t u sw in
      let ds = outer_extensions x t u sw in
      let es = outer_enums x t u sw in
      let os = outer_oneofs x t u sw in
      message_by old full (g h) t (move_tree g x) ss.0 fs.0 (ds.0 ∙ sym (extensions_same g middle old to_old x)) (es.0 ∙ sym (enums_same g middle old to_old x)) (os.0 ∙ sym (oneofs_same g middle old to_old x))
      ∙ message_same g middle old to_old full h x ∙ sym (message_same k middle new to_new full h x)
      ∙ sym (message_by new full (k h) u (move_tree k x) ss.1 fs.1 (ds.1 ∙ sym (extensions_same k middle new to_new x)) (es.1 ∙ sym (enums_same k middle new to_new x)) (os.1 ∙ sym (oneofs_same k middle new to_new x)))

  -- a message without the field, and the one that has it
  past : (within : Tree) → is_its token within ≡ false → (m : MessageDesc) (inner more : Messages)
      → Message (if is_its token within then without_field token within m else m) (if is_its token within then without_entry token within inner else messages_with_deletion token within inner) more
      ≡ Message m (messages_with_deletion token within inner) more
  past within absent m inner more =
      ap₂ (λ (n : MessageDesc) (ns : Messages). Message n ns more) (cond-false (is_its token within) (without_field token within m) m absent) (cond-false (is_its token within) (without_entry token within inner) (messages_with_deletion token within inner) absent)

  hit : (within : Tree) → is_its token within ≡ true → (m : MessageDesc) (inner more : Messages)
      → Message (if is_its token within then without_field token within m else m) (if is_its token within then without_entry token within inner else messages_with_deletion token within inner) more
      ≡ Message (without_field token within m) (without_entry token within inner) more
  hit within present m inner more =
      ap₂ (λ (n : MessageDesc) (ns : Messages). Message n ns more) (cond-true (is_its token within) (without_field token within m) m present) (cond-true (is_its token within) (without_entry token within inner) (messages_with_deletion token within inner) present)

  its_own : (x t u : Tree) → IsDeletedRight g k aim res x t u → is_its token t ≡ true
  its_own x t u sw =
      let fs = old_fields g k aim res 0 x t u sw in
      ap (list_any (is_named_at token)) fs.1.is
      ∙ some_behind (is_named_at token) (map (move_field_of g) fs.1.front) (written_field fs.0 aim ∷ map (move_field_of g) fs.1.back)
      (ap (λ b. b || list_any (is_named_at token) (map (move_field_of g) fs.1.back)) (eq-eqb (written_field fs.0 aim).name token (named_one fs.0 aim)))

  -- messages that are moved have no field of it
  messages_stay : (y : Tree) (ms : Messages) → messages_with_deletion token (move_tree g y) ms ≡ ms
  messages_stay End ms = refl
  messages_stay (Leaf (statement.MapField f) rest) NoMessages = refl
  messages_stay (Leaf (statement.MapField f) rest) (Message m inner more) = ap (Message m inner) (messages_stay rest more)
  messages_stay (Leaf _ rest) ms = messages_stay rest ms
  messages_stay (Block (header.Message h) i within j rest) NoMessages = refl
  messages_stay (Block (header.Message h) i within j rest) (Message m inner more) =
      past (move_tree g within) (none_in g token fresh within) m inner (messages_with_deletion token (move_tree g rest) more) ∙ ap₂ (Message m) (messages_stay within inner) (messages_stay rest more)
  messages_stay (Block whole i within j rest) ms = messages_stay rest ms

  messages_at : (full : List ℕ) (x t u : Tree) → IsDeletedIn g k aim res x t u → messages_described new full u ≡ messages_with_deletion token t (messages_described old full t)
  messages_at full _ _ _ (InMessage h i x t u j rest sw) =
      let same : text new (k h.name) ≡ text old (g h.name) = to_new.same.texts h.name ∙ sym (to_old.same.texts h.name) in
      let inner : List ℕ = below full (text old (g h.name)) in
      ap₂ (λ (w : List ℕ) (ms : Messages). Message (message_described new (below full w) (k h.name) u) (messages_described new (below full w) u) ms) same (all_over full rest ∙ sym (messages_stay rest (messages_described old full (move_tree g rest))))
      ∙ ap₂ (λ (m : MessageDesc) (ms : Messages). Message m ms (messages_with_deletion token (move_tree g rest) (messages_described old full (move_tree g rest)))) (message_less inner h.name x t u sw) (nested inner x t u sw)
      ∙ sym (hit t (its_own x t u sw) (message_described old inner (g h.name) t) (messages_described old inner t) (messages_with_deletion token (move_tree g rest) (messages_described old full (move_tree g rest))))
  messages_at full _ _ _ (Deeper h i x t u j rest sw) =
      let same : text new (k h.name) ≡ text old (g h.name) = to_new.same.texts h.name ∙ sym (to_old.same.texts h.name) in
      let inner : List ℕ = below full (text old (g h.name)) in
      let fs = outer_fields g k aim res 0 x t u sw in
      ap₂ (λ (w : List ℕ) (ms : Messages). Message (message_described new (below full w) (k h.name) u) (messages_described new (below full w) u) ms) same (all_over full rest ∙ sym (messages_stay rest (messages_described old full (move_tree g rest))))
      ∙ ap₂ (λ (m : MessageDesc) (ms : Messages). Message m ms (messages_with_deletion token (move_tree g rest) (messages_described old full (move_tree g rest)))) (sym (around inner h.name x t u sw)) (messages_at inner x t u sw)
      ∙ sym (past t (ap (list_any (is_named_at token)) fs.0 ∙ none_in g token fresh x) (message_described old inner (g h.name) t) (messages_described old inner t) (messages_with_deletion token (move_tree g rest) (messages_described old full (move_tree g rest))))
  messages_at full _ _ _ (BehindLeaf a x t u sw) = leaf a (messages_at full x t u sw)
    where
      leaf : (a : Statement) → messages_described new full u ≡ messages_with_deletion token t (messages_described old full t)
          → messages_described new full (Leaf (move_statement k a) u) ≡ messages_with_deletion token (Leaf (move_statement g a) t) (messages_described old full (Leaf (move_statement g a) t))
      leaf (statement.MapField f) e = ap₂ (λ (m : MessageDesc) (ms : Messages). Message m NoMessages ms) (entry_over f) e
      leaf whole e = e
  messages_at full _ _ _ (BehindBlock (header.Message h) i within j x t u sw) =
      let inner : List ℕ = below full (text old (g h.name)) in
      message_over full h.name within (messages_described new full u)
      ∙ ap₂ (λ (ms ns : Messages). Message (message_described old inner (g h.name) (move_tree g within)) ms ns) (sym (messages_stay within (messages_described old inner (move_tree g within)))) (messages_at full x t u sw)
      ∙ sym (past (move_tree g within) (none_in g token fresh within) (message_described old inner (g h.name) (move_tree g within)) (messages_described old inner (move_tree g within)) (messages_with_deletion token t (messages_described old full t)))
  messages_at full _ _ _ (BehindBlock whole i within j x t u sw) = messages_at full x t u sw

  services_less : (x t u : Tree) (sw : IsDeletedIn g k aim res x t u) → (services_described old t ≡ services_described middle x) × (services_described new u ≡ services_described middle x)
  services_less _ _ _ (InMessage h i x t u j rest sw) = (services_same g middle old to_old rest, services_same k middle new to_new rest)
  services_less _ _ _ (Deeper h i x t u j rest sw) = (services_same g middle old to_old rest, services_same k middle new to_new rest)
  services_less _ _ _ (BehindLeaf a x t u sw) = services_less x t u sw
  services_less _ _ _ (BehindBlock (header.Service h) i within j x t u sw) =
      let r = services_less x t u sw in
      (λ i. service_same g middle old to_old h.name within i ∷ r.0 i, λ i. service_same k middle new to_new h.name within i ∷ r.1 i)
  services_less _ _ _ (BehindBlock whole i within j x t u sw) = services_less x t u sw

pub deletions_are_mapped : DeletionsMapTheDescriptor
deletions_are_mapped g k middle old new path aim res x t u to_old to_new reserving sw fresh =
    let pk = packages_less g k aim res x t u sw in
    let is = imports_less g k aim res x t u sw in
    let es = outer_enums g k middle old new to_old to_new aim res reserving fresh x t u sw in
    let ss = services_less g k middle old new to_old to_new aim res reserving fresh x t u sw in
    let xs = outer_extensions g k middle old new to_old to_new aim res reserving fresh x t u sw in
    let os = outer_statements g k aim res x t u sw in
    let same_package : package_named new (package_of (items_in u)) ≡ package_named old (package_of (items_in t)) = package_same k middle new to_new (package_of (items_in x)) (package_of (items_in u)) pk.1 ∙ sym (package_same g middle old to_old (package_of (items_in x)) (package_of (items_in t)) pk.0) in
    let messages : messages_described new (package_prefix (package_named new (package_of (items_in u)))) u ≡ messages_with_deletion (written_name aim) t (messages_described old (package_prefix (package_named old (package_of (items_in t)))) t) =
    ap (λ (p : Option (List ℕ)). messages_described new (package_prefix p) u) same_package ∙ messages_at g k middle old new to_old to_new aim res reserving fresh (package_prefix (package_named old (package_of (items_in t)))) x t u sw in
    let dependencies : map (λ (w : Wanted). value new w.path) (imports_in u) ≡ map (λ (w : Wanted). value old w.path) (imports_in t) = paths k middle new to_new (imports_in x) (imports_in u) is.1 ∙ sym (paths g middle old to_old (imports_in x) (imports_in t) is.0) in
    let publics : public_places 0 (imports_in u) ≡ public_places 0 (imports_in t) = ap (public_places 0) is.1 ∙ publics_moved k 0 (imports_in x) ∙ sym (ap (public_places 0) is.0 ∙ publics_moved g 0 (imports_in x)) in
    let weaks : weak_places 0 (imports_in u) ≡ weak_places 0 (imports_in t) = ap (weak_places 0) is.1 ∙ weaks_moved k 0 (imports_in x) ∙ sym (ap (weak_places 0) is.0 ∙ weaks_moved g 0 (imports_in x)) in
    let options : file_options new (options_in u) ≡ file_options old (options_in t) =
    options_same k middle new to_new (options_in x) (options_in u) (ap (flat_map statement_options) os.1 ∙ options_moved k x) ∙ sym (options_same g middle old to_old (options_in x) (options_in t) (ap (flat_map statement_options) os.0 ∙ options_moved g x)) in
    let proto3 : new.is_proto3 ≡ old.is_proto3 = sym to_new.same.version ∙ to_old.same.version in
    λ i. record {
      name = path;
      «package» = same_package i;
      dependency = dependencies i;
      public_dependency = publics i;
      weak_dependency = weaks i;
      message_type = messages i;
      enum_type = (es.1 ∙ sym es.0) i;
      service = (ss.1 ∙ sym ss.0) i;
      extension = (xs.1 ∙ sym xs.0) i;
      options = options i;
      syntax = if proto3 i then syntax.Proto3 else syntax.Proto2;
    }
