-- The names that proofs cite from elsewhere, passed on from one place. Declares nothing.
pub use Rattle.indexmap.specs.IndexMap.{insert_entry}
pub use Rattle.indexmap.specs.IndexSet.{insert_all, insert_key}
pub use Rattle.std.proofs.Common.{[], All, ap, append_assoc, arith, Bool, cond, count_by, drop, Err, false, filter, filter_map, find}
pub use Rattle.std.proofs.Common.{get_or, IfSome, if◌then◌else◌, inl, inr, length, List, map, nat_eq, None, not, Ok, Option, option_to_list}
pub use Rattle.std.proofs.Common.{refl, replicate, Result, rules, Some, subst, suc, sym, take, tests, true, true≢false, zero, ℕ, ◌&&◌, ◌++◌}
pub use Rattle.std.proofs.Common.{◌+◌, ◌<◌, ◌==◌, ◌||◌, ◌∙◌, ◌∷◌, ◌≡◌, ◌≢◌, ◌≤◌, ◌⊎◌, set, IfOk, ◌%◌, add-one, add-zero, add-suc}
pub use Rattle.std.proofs.Common.{take-append-drop, OnOk, is_ok, ltb, reverse, ◌-◌}
pub use Rattle.std.proofs.lemmas.Bool.{cases_eq, eq-eqb, eqb-true, false≢true, le-ltb, lt-ltb, ltb-true, ne_eqb, or_left, or_parts}
pub use Rattle.std.proofs.lemmas.Bool.{or_right, cases_Bool, cases_lt, eqb-false, and_right}
pub use Rattle.std.proofs.lemmas.Bool.Decides.{Decides-like}
pub use Rattle.std.proofs.lemmas.Grind.{common_steps, take_at_read, get_or-set_at, elements}
pub use Rattle.std.proofs.lemmas.Iterator.{YieldsList-from_slice, YieldsList}
pub use Rattle.std.proofs.lemmas.Iterator.Adapters.{option_map_id, YieldsList-from_rev_slice}
pub use Rattle.std.proofs.lemmas.Iterator.Consumers.{YieldsList-so_far, YieldsList-end, YieldsList-from_filter_map}
pub use Rattle.std.proofs.lemmas.List.{append-nil, drop_all, get_or-replicate, get_or-set_other, get_or-set_same, length-set, map-append}
pub use Rattle.std.proofs.lemmas.List.{take_all, take_more, get_or_default, reverse-append, length-map, get_or_read}
pub use Rattle.std.proofs.lemmas.List.Elements.{All-from_recursion, All-head, All-nil, All-push, All-same, All-tail, filter-append}
pub use Rattle.std.proofs.lemmas.List.Elements.{filter_map-append, recursion_from_All, All-append, All-filter, same_from_all_zip, All-cons}
pub use Rattle.std.proofs.lemmas.List.Folds.{list_any-append, Any-from_list_any, list_any_at, list_any_more}
pub use Rattle.std.proofs.lemmas.List.Sums.{sum_by-append, count_by_more_no, count_by_more_yes, AllPass-from_list_all, fold-append}
pub use Rattle.std.proofs.lemmas.List.Sums.{length-filter}
pub use Rattle.std.proofs.lemmas.Option.{get_or_from_slice_get, same_Some}
pub use Rattle.std.specs.BTreeMap.{get, BTreeMap}
pub use Rattle.std.specs.BTreeSet.{BTreeSet, contains, Updates}
pub use Rattle.std.specs.Bool.{Decides}
pub use Rattle.std.specs.Borrow.{Bor}
pub use Rattle.std.specs.Cmp.{decided, nat_eq_equiv, unsigned_Decides, IsEquivalence, unsigned_tied}
pub use Rattle.std.specs.Cmp.Lexicographic.{bytes_decides, slice_cmp}
pub use Rattle.std.specs.Fmt.{HasWritten, IsPlainFormatter}
pub use Rattle.std.specs.List.{AllByRecursion, AllZip, cons_option, flat_map, IsDistinct, list_any, position_or_len, best_of, zip, AllPass}
pub use Rattle.std.specs.List.{position, AllPairs, Contains}
pub use Rattle.std.specs.Map.{lookup, keys_of}
pub use Rattle.std.specs.Option.{is_some, option_copied, option_eq, option_or, unwrap_or, option_flatten}
pub use Rattle.std.specs.Ordering.{nat_cmp, is_eq}
pub use Rattle.std.specs.Prelude.{codes, IsTrue, MatchOption, nat_lt, option_map, slice_get, slice_set, ◌↔◌, IsSomeAnd}
pub use Rattle.std.specs.Str.{bytes_eq, str_eq_ignore_ascii_case, str_to_ascii_lowercase}
pub use Rattle.std.specs.String.{string_bytes, string_len, string_capacity}
pub use Rattle.str0m_formats.proofs.{static_needs_none, static_small, format_all_of_both, param_Decides, ParamEqualityTest, param_eq_along}
pub use Rattle.str0m_formats.proofs.{param_equality}
pub use Rattle.str0m_formats.proofs.{param_eq_word, type_times-append}
pub use Rattle.str0m_formats.proofs.{type_times-cons, one_time_if, type_times-some}
pub use Rattle.str0m_formats.specs.codec.Codec.{events, other, CodecContent, audio, video}
pub use Rattle.str0m_formats.specs.declared.format.format_param.FormatParam.TheVariants.{Apt, BarePtList, BareRange}
pub use Rattle.str0m_formats.specs.format.FormatLine.{format_lines_ask_absent, events_end, is_event, line_without_event_ranges}
pub use Rattle.str0m_formats.specs.format.FormatLine.{params_of_lines}
pub use Rattle.str0m_formats.specs.format.FormatParams.{set_all}
pub use Rattle.str0m_formats.specs.round.Claimed.{AllTypesDistinct, type_times}
pub use Rattle.str0m_formats.specs.round.MatchScore.{same_codec}
pub use Rattle.str0m_formats.specs.row.PayloadParams.{SameRow}
pub use Rattle.str0m_formats.specs.row.PlainRow.{IsPlain, IsPlainG722}
pub use Rattle.str0m_formats.specs.row.PlainRowBounds.{HoldsRowNumbers}
pub use Rattle.str0m_sdp.specs.Prelude.{codec_content, codec_rtp_rate, static_spec, Codec, CodecSpec, FormatParam, FormatParams}
pub use Rattle.str0m_sdp.specs.Prelude.{PayloadParams}
pub use Rattle.str0m_sdp.specs.Prelude.{format_of_fmtp, format_line_values, empty, has, types, types_of, row_content_has_video, IsBounded}
pub use Rattle.str0m_sdp.specs.Prelude.{AreModes}
pub use Rattle.str0m_sdp.specs.Prelude.{IsDistance, when, ◌<|>◌, ◌>>=◌, cut, before, IpAddr, SocketAddr, Candidate}
pub use Rattle.str0m_values.specs.declared.address.IpAddr.TheVariants.{V4, V6}
pub use denote.Enum.Bare.{same_true, sameb}
