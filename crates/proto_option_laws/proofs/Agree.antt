-- What stays of options under a name map stays under each map that has its names (for the crates above).
use Rattle.std.proofs.Common.{◌≡◌, List, Option, Some, None, option_map, refl, sym, ◌∙◌, ap, subst, filter}
use Rattle.proto_ast.specs.Options.{is_one_of}
use Rattle.proto_base.specs.Texts.{Text}
use Rattle.proto_descriptors.specs.Descriptors.{FieldDesc, FileDesc, MessageDesc}
use Rattle.proto_edit_rules.specs.OptionViews.{IsEnumOf, IsExtensionOf, IsMessageOf, OptionsStay, SeenField, SeesTheSame, message_view, seen_field}
use Rattle.proto_edit_rules.specs.Rename.{words_of}
use Rattle.proto_files.proofs.Common.{FileOf, ReadOf}
use Rattle.proto_names_rules.proofs.Common.{map_agree}
use Rattle.proto_names_rules.specs.Names.{Name}

module _ (g f : Name → Name) (agree : (x : Name) → g x ≡ f x) where
  names_agree : (o : Option Name) → option_map g o ≡ option_map f o
  names_agree None = refl
  names_agree (Some x) = ap Some (agree x)

  types_agree : (o : Option Text) → option_map (λ x. g (words_of x)) o ≡ option_map (λ x. f (words_of x)) o
  types_agree None = refl
  types_agree (Some x) = ap Some (agree (words_of x))

  fields_agree : (x : FieldDesc) → seen_field g x ≡ seen_field f x
  fields_agree x = let types = types_agree x.type_name in λ i. record { name = x.name; number = x.number; label = x.label; field_type = x.field_type; type_name = types i; options = x.options }

  views_agree : (these : List Text) (m : MessageDesc) → message_view g these m ≡ message_view f these m
  views_agree these m =
      let pair : List SeenField → List SeenField × List Text = λ fs. (fs, filter (is_one_of these) m.reserved_name) in
      ap pair (map_agree (seen_field g) (seen_field f) (filter (λ (x : FieldDesc). is_one_of these x.name) m.field) (λ x c. fields_agree x))

  sees_agree : (these : List Text) (ds new : List FileDesc) (x y : FieldDesc) → SeesTheSame g these ds new x y → SeesTheSame f these ds new x y
  sees_agree these ds new x y s = record {
    own = (let named : SeenField → SeenField = λ z. record z { name = y.name } in s.own ∙ ap named (fields_agree x));
    messages = λ name m filled im. (let r = s.messages name m filled im in (r.0, subst (λ z. IsMessageOf new z r.0) (agree name) r.1, r.2 ∙ views_agree these m));
    enums = λ name d filled ie. (let r = s.enums name d filled ie in (r.0, subst (λ z. IsEnumOf new z r.0) (agree name) r.1, r.2));
    none_new = λ next filled. (let r = s.none_new next filled in (r.0, r.1, sym (agree r.0) ∙ r.2));
  }

  pub options_agree : (files after : List FileOf) (reads later : List ReadOf) (ds new : List FileDesc) → OptionsStay g files after reads later ds new → OptionsStay f files after reads later ds new
  options_agree files after reads later ds new stay file d cd =
      let o = stay file d cd in
      let s = o.2 in (
        o.0,
        o.1,
        record {
          message = s.message;
          texts = s.texts;
          means = s.means ∙ names_agree _;
          sees = λ name x m ix. (let r = s.sees name x m ix in (r.0, subst (λ z. IsExtensionOf new z r.0) (agree name) r.1, sees_agree _ ds new x r.0 r.2));
        },
      )
