-- The names that proofs cite from elsewhere, passed on from one place. Declares nothing.
pub use Prim.Native.Nat.{suc, zero}
pub use Rattle.indexmap.proofs.MapLemmas.{insert_entry-absent}
pub use Rattle.indexmap.specs.IndexMap.{insert_all, insert_entry, set_value_at}
pub use Rattle.std.proofs.Common.{[], All, ap, arith, bit_or, Bool, cond, drop, Err, false, filter, find, get_or, IfErr, IfOk, IfSome}
pub use Rattle.std.proofs.Common.{if◌then◌else◌, inl, inr, is_some, leb, length, List, lit<, lit≤, map, MatchOption, nat_eq, nat_le, nat_lt}
pub use Rattle.std.proofs.Common.{None, not, Ok, OnErr, OnOk, Option, option_map, refl, replicate, Result, rules, slice_index_or, Some}
pub use Rattle.std.proofs.Common.{subst, sym, take, tests, true, ℕ, ◌%◌, ◌&&◌, ◌*◌, ◌++◌, ◌+◌, ◌-◌, ◌<◌, ◌==◌, ◌^◌, ◌||◌, ◌↔◌, ◌∙◌, ◌∷◌}
pub use Rattle.std.proofs.Common.{◌≡◌, ◌≢◌, ◌≤◌, ◌⊎◌, take-append-drop, drop-cons, is_ok, set, min, ◌/◌, Any, add-one, is_none, zero-add}
pub use Rattle.std.proofs.Common.{slice_set}
pub use Rattle.std.proofs.Math.Bool.{or-false, or-true, or_assoc, and-false, and_comm, or_comm}
pub use Rattle.std.proofs.Output.{has_written_append, has_written_of_eq}
pub use Rattle.std.proofs.lemmas.Bool.{and_parts, cases_Bool, cases_lt, cases_order, eq-eqb, eqb-true, false_from_ne_true, false≢true}
pub use Rattle.std.proofs.lemmas.Bool.{le-leb, le-ltb, leb-true, lt-ltb, ltb-true, ne_eqb, not-true, or_cases, or_left, or_parts, or_right}
pub use Rattle.std.proofs.lemmas.Bool.{true≢false, leb-false, ltb-false, cases_eq, and_from}
pub use Rattle.std.proofs.lemmas.Bool.Decides.{Decides-like, eqb_tells, nat_tests, Decides-and}
pub use Rattle.std.proofs.lemmas.Fmt.{decimal_is_IsNumeral, digits_is_IsNumeral, decimal_nonempty}
pub use Rattle.std.proofs.lemmas.Grind.{drop_more_same, flat_map-append}
pub use Rattle.std.proofs.lemmas.Iterator.Consumers.{YieldsList-end, YieldsList-turn, YieldsList-at}
pub use Rattle.std.proofs.lemmas.Iterator.Splits.{YieldsList-from_str_split}
pub use Rattle.std.proofs.lemmas.List.{append-nil, append_assoc, at_drop_more, drop-set-lt, length-append, length-set, length-take-le}
pub use Rattle.std.proofs.lemmas.List.{length_push, map-append, take_all, take_at, take_more, take_more_set, get_or_default}
pub use Rattle.std.proofs.lemmas.List.{get_or_append_left, take-append-le}
pub use Rattle.std.proofs.lemmas.List.Elements.{All-append, All-cons, All-contains, All-filter, All-head, All-nil, All-push, All-tail}
pub use Rattle.std.proofs.lemmas.List.Elements.{All-weaker, Contains-append_right, filter-append, filter_map-append, All-contains_itself}
pub use Rattle.std.proofs.lemmas.List.Elements.{All-from_recursion, recursion_from_All, same_from_all_zip}
pub use Rattle.std.proofs.lemmas.List.Folds.{find-append, list_any-append}
pub use Rattle.std.proofs.lemmas.List.Splits.{slice_split_none, slice_split_at, length-slice_split}
pub use Rattle.std.proofs.lemmas.Map.Keys.{IsDistinct-cons, IsDistinct-head, IsDistinct-tail}
pub use Rattle.std.proofs.lemmas.Nat.{or_lt, pow_pos}
pub use Rattle.std.proofs.lemmas.Nat.Bits.{and_pow, bit_at-lt, bit_at-zero, bit_at_set_other, bit_at_set_same, same_from_bits, bit_at_and}
pub use Rattle.std.proofs.lemmas.Nat.Bits.{bit_at_or, bit_at_not, bit_at_above, bit_at-trailing_zeros, bit_at_cat_low, bit_at_mask_inside}
pub use Rattle.std.proofs.lemmas.Nat.Bits.{bit_at_cat_high}
pub use Rattle.std.proofs.lemmas.Option.{get_or_from_slice_get, none-some, same_Some, slice_get-get_or, slice_get_within, IfSome_then}
pub use Rattle.std.proofs.lemmas.Option.{MatchOption-from_none, slice_get_read}
pub use Rattle.std.proofs.lemmas.Result.{IfErr-at_err, IfErr-weaker, IfOk-at_ok, IfOk-weaker, on_err_weaker, on_ok_weaker}
pub use Rattle.std.proofs.lemmas.Slice.Eq.{bytes_eq-Decides}
pub use Rattle.std.specs.Bool.{beq, Decides, MatchBool, one_answer}
pub use Rattle.std.specs.Borrow.{Bor}
pub use Rattle.std.specs.Char.{digit_value, to_ascii_lowercase, is_whitespace}
pub use Rattle.std.specs.Cmp.{booleans_Decides, IsEquivalence, unsigned_Decides, nat_eq_equiv, equiv, bool_eq_equiv}
pub use Rattle.std.specs.Cmp.Lexicographic.{pointwise, pointwise_decides, slice_cmp, options_equiv}
pub use Rattle.std.specs.Fmt.{decimal, digits, HasWritten, IsPlainFormatter, format_spec}
pub use Rattle.std.specs.Int.{bit_at, bit_not, trailing_zeros, w128, IsBitSet, w16}
pub use Rattle.std.specs.Int.Bits.{bit_and}
pub use Rattle.std.specs.List.{AllByRecursion, AllZip, cons_option, Contains, filter_map, flat_map, IsDistinct, join_with_byte, list_all}
pub use Rattle.std.specs.List.{list_any, range_with_len, slice_get, slice_split}
pub use Rattle.std.specs.Map.{keys_of, lookup}
pub use Rattle.std.specs.Option.{ok_or, option_or, option_to_list, option_eq, option_copied}
pub use Rattle.std.specs.Prelude.{codes, unwrap_or, IsOk, IsAscii}
pub use Rattle.std.specs.Str.{bytes_eq, str_eq_ignore_ascii_case, str_to_ascii_lowercase, trim, trim_end, trim_start}
pub use Rattle.std.specs.Str.{skip_leading_whitespace, drop_trailing_whitespace}
pub use Rattle.std.specs.Str.Parse.{AllDigits, digits_value, IsNumeral}
pub use Rattle.str0m_formats.specs.Prelude.{num, when, ◌<|>◌, ◌>>=◌, lacks, IsTheOnly, IsNum, IsNumber, receives, H265ProfileTierLevel}
pub use Rattle.str0m_formats.specs.Prelude.{H266ProfileTierLevel, H264ProfileLevel, ProfileTierLevel}
pub use Rattle.str0m_values.proofs.AddressWords.{address_lacks_both}
pub use Rattle.str0m_values.proofs.CutLaws.{cut_at, cut_none, lacks_cut_true, lacks_cut_from}
pub use Rattle.str0m_values.proofs.CutsBothWays.{cuts_bind_some, cuts_reads_none, cuts_some_is, cuts_reads_first, Reads, cuts_none_reads}
pub use Rattle.str0m_values.proofs.CutsNumLaws.{num_found, num_only, num_reads, cuts_when_some, num_when_true, cuts_parsed_ok}
pub use Rattle.str0m_values.proofs.CutsNumLaws.{cuts_parsed_err}
pub use Rattle.str0m_values.proofs.CutsOnlyLaws.{only_read}
pub use Rattle.str0m_values.specs.CutsParts.{IsRest, Lacks, IsGivenNumber, part_text_of}
pub use mathlib.Core.Path.{fun_ext}
