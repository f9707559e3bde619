-- What proofs of the crates above name of this crate, and of std beside its own Common, passed on from one place. Declares nothing.
pub use Rattle.proto_base.proofs.Lists.{any_agree, any_from, any_map, any_to, contains_cases, contains_filter, contains_head, contains_later, contains_map, contains_or_not, fails_from, found_in_map, from_filter, from_flat_map, from_map, same_from_word, to_flat_map, word_from_same}
pub use Rattle.proto_base.proofs.Turns.{added_all, added_more, all_listed, front_element, listed_more, listed_turn, pushed_more, taken_more, then_added}
pub use Rattle.proto_base.specs.FaultTable.{kind_number, phase_of}
pub use Rattle.proto_base.specs.GivenFiles.{AreInLanguage, FileOf, file_of, file_of_as, files_of, files_of_as, paths_of}
pub use Rattle.proto_base.specs.Texts.{Path, Text, or_nothing, text_limit}
pub use Rattle.std.proofs.KnownBytes.{Appends-nil, Appends-trans, Keeps-refl}
pub use Rattle.std.proofs.lemmas.Bool.{and_from, and_parts, both_ways, cases_Bool, cases_eq, cases_lt, cases_order, cond-false, cond-true, cond_both, false_from_ne_true, false≢true, not-true, not_from_false, not_from_true, or_cases, or_left, or_parts, or_right, true_from_ne_false}
pub use Rattle.std.proofs.lemmas.Bool.Decides.{Decides-eqb, Decides-int_eq, Decides-like, nat_tests, same_from_decides}
pub use Rattle.std.proofs.lemmas.Cmp.{by_ranked, eq_by_cmp_equiv, int_cmp_total, int_eq_equiv, nat_cmp_total, on_total, ranked, then_total, tied_itself}
pub use Rattle.std.proofs.lemmas.Fmt.{IsAscii-decimal, decimal_by_steps, decimal_digit, decimal_nonempty, digits_decimal, digits_value-decimal, first_decimal}
pub use Rattle.std.proofs.lemmas.Grind.{common_steps, flat_map-append}
pub use Rattle.std.proofs.lemmas.Int.{ints, to_z-of_z, to_z_pos}
pub use Rattle.std.proofs.lemmas.Iterator.{YieldsList-from_map, YieldsList-from_slice, items_from_collect}
pub use Rattle.std.proofs.lemmas.Iterator.Adapters.{YieldsList-from_rev_slice, YieldsList-from_vec}
pub use Rattle.std.proofs.lemmas.Iterator.Consumers.{YieldsList-end, YieldsList-so_far, YieldsList-turn}
pub use Rattle.std.proofs.lemmas.Iterator.Search.{any_from_yields_List}
pub use Rattle.std.proofs.lemmas.List.{append_cancel_left, append_cancel_right, at_drop_all, at_drop_more, drop-append-le, drop_all, drop_more, flat_map_more, get_or-append_right, get_or-map, get_or_append_left, get_or_at, get_or_default, get_or_past, length-map, length_push, map-append, map-set, map_more, map_push, nil_from_length, replicate_more, reverse-append, same_from_push, take-append-le, take-map, take_more}
pub use Rattle.std.proofs.lemmas.List.Elements.{All-append, All-cons, All-contains, All-contains_itself, All-filter, All-from_recursion, All-head, All-map, All-nil, All-push, All-set, All-tail, All-weaker, Contains-append_cases, Contains-append_left, Contains-append_right, Contains-get_or, filter-append, filter_map-append, filter_passes, recursion_from_All, same_from_all_zip}
pub use Rattle.std.proofs.lemmas.List.Folds.{find-append, find_at, length-prefix_len, list_all-append, list_any-append, list_any_at, list_any_more, list_any_none}
pub use Rattle.std.proofs.lemmas.List.Kept.{AllPairs-cons, Any-dedup, Contains-from_dedup, IsStrictlySortedBy-dedup}
pub use Rattle.std.proofs.lemmas.List.Quantifiers.{position-Some}
pub use Rattle.std.proofs.lemmas.List.Sorted.{All-permutation, Contains-permutation, IsNonDecreasingBy-from_default, IsPermutation-map, IsPermutation-refl, IsPermutation-sym, IsPermutation-trans, length_permutation, list_any-IsPermutation, ranks_by, searchable_from_sorted, sorted_far, sum_by-IsPermutation}
pub use Rattle.std.proofs.lemmas.List.Sums.{count_by-le-length, length-filter, list_all-from_AllPass, position_or_len_is, prefix_len-drop_all, prefix_len-drop_no, prefix_len-drop_yes, prefix_len-le-length, sum_by-append, sum_by-cons, sum_by-take-le, sum_by_push}
pub use Rattle.std.proofs.lemmas.Map.Text.{btree_map_updates_text, hash_map_updates_text, hash_set_updates_text, is_eq-slice_cmp}
pub use Rattle.std.proofs.lemmas.Option.{MatchOption-from_none, cond_some, get_or_from_slice_get, none-some, same_Some, slice_get-get_or, slice_get_cases, slice_get_past, slice_get_read, slice_get_within}
pub use Rattle.std.proofs.lemmas.Result.{IfErr-weaker, IfOk-from_err, IfOk-weaker, err_from_is_err_and, on_ok_weaker}
pub use Rattle.std.proofs.lemmas.Simd.{map-map}
pub use Rattle.std.proofs.lemmas.Slice.Eq.{bytes_eq-Decides, ends_is, slice_eq-Decides, strip_prefix_is}
pub use Rattle.std.proofs.lemmas.Slice.Zip.{zip_end, zip_turn}
pub use Rattle.std.proofs.lemmas.Str.{IsCharBoundary-before_ascii, IsCharBoundary-end, IsCharBoundary-start, IsUtf8-append, IsUtf8-between, IsUtf8-from_ascii, IsUtf8-from_is_utf8, IsUtf8-nil, IsUtf8-string_bytes, encode_ascii, is_utf8-from_IsUtf8, len_utf8_ascii}
pub use Rattle.std.proofs.lemmas.Str.Ascii.{IsAscii-cons, IsAscii-nil}
pub use Rattle.std.proofs.lemmas.Str.Parse.{FoldsDigits, IsNumeralModel, numerals_by_fold, numerals_by_value, tells_by_index}
pub use Rattle.std.proofs.lemmas.Str.Pattern.{NoCharPasses-char, ends_text}
pub use Rattle.std.specs.BTreeMap.{UpdatesBy, get_by_text, is_at}
pub use Rattle.std.specs.Char.{is_ascii_digit, is_ascii_lowercase, is_ascii_uppercase, to_ascii_uppercase}
pub use Rattle.std.specs.Cmp.{IsEquivalence, IsStrictWeakOrder, IsTotalOrder, first_so, second_so}
pub use Rattle.std.specs.Cmp.Lexicographic.{nat_list_cmp_total, nat_list_eq_equiv, pointwise, pointwise_decides, same_text, slice_cmp, texts_ties}
pub use Rattle.std.specs.Fmt.{signed_decimal}
pub use Rattle.std.specs.Global.{Vec}
pub use Rattle.std.specs.HashSet.{contains, contains_text}
pub use Rattle.std.specs.Int.{IsInRange, w128}
pub use Rattle.std.specs.Io.KnownBytes.{Appends}
pub use Rattle.std.specs.Iterator.Adapters.{zip_first, zip_second}
pub use Rattle.std.specs.List.{AllByRecursion, AllPass, cons_option, dedup, ends_with, join_with_byte, list_all, list_any, position_or_len, prefix_len, slice_split, starts_with}
unfoldable pub use Rattle.std.specs.List.{IsDistinct}
pub use Rattle.std.specs.List.Sorted.{IsBinarySearchResult, IsNonDecreasingBy, IsPartitionPoint, IsPartitionedBy, IsSearchInRange}
unfoldable pub use Rattle.std.specs.List.Sorted.{IsStrictlySortedBy}
pub use Rattle.std.specs.Map.{lookup, set_value}
pub use Rattle.std.specs.Option.{option_map_or, option_or}
pub use Rattle.std.specs.Ordering.{eq_by_cmp, ordering_index, ordering_reverse, ordering_then}
pub use Rattle.std.specs.Path.{rfind_below}
unfoldable pub use Rattle.std.specs.Path.{rsplit_once}
pub use Rattle.std.specs.Prelude.{codes, ⊤}
pub use Rattle.std.specs.Slice.Iter.{iter_rest}
pub use Rattle.std.specs.Str.Iter.{chars_rest}
pub use Rattle.std.specs.declared.alloc.Global.{Global}
pub use Rattle.std.specs.declared.cmp.Ordering.{Ordering}
pub use Rattle.std.specs.declared.cmp.Ordering.TheVariants.{Equal, Greater, Less}
