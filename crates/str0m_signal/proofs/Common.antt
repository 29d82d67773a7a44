-- The names that proofs cite from elsewhere, passed on from one place. Declares nothing.
pub use Rattle.std.proofs.Common.{[], All, ap, arith, Bool, cond, drop, eqb, Err, false, filter, filter_map, get_or, IfOk, IfSome, inl, inr}
pub use Rattle.std.proofs.Common.{length, length-append, List, lit<, lit≤, ltb, map, None, not, Ok, Option, option_map, option_to_list}
pub use Rattle.std.proofs.Common.{refl, Result, rules, Some, subst, suc, sym, take, true, true≢false, zero, zero-add, ℕ, ◌%◌, ◌&&◌, ◌++◌}
pub use Rattle.std.proofs.Common.{◌+◌, ◌-◌, ◌/◌, ◌<◌, ◌==◌, ◌^◌, ◌||◌, ◌∙◌, ◌∷◌, ◌≡◌, ◌≢◌, ◌≤◌, ◌⊎◌, ◌*◌, replicate, Vec, Global, OnErr}
pub use Rattle.std.proofs.Common.{if◌then◌else◌, drop-cons, add-one}
pub use Rattle.std.proofs.Math.Seq.{take-append_seam}
pub use Rattle.std.proofs.lemmas.Bool.{and_from, and_left, and_parts, and_right, both_ways, cases_Bool, cases_eq, cases_lt, eq-eqb}
pub use Rattle.std.proofs.lemmas.Bool.{eqb-true, false≢true, lt-ltb, ltb-true, ne_eqb, false_from_ne_true, not-true}
pub use Rattle.std.proofs.lemmas.Fmt.{decimal_is_IsNumeral, decimal_nonempty, digits_is_IsNumeral, hex_one_digit}
pub use Rattle.std.proofs.lemmas.List.{append-nil, append_assoc, map-append, take-append-drop, append_cancel_right, length-take}
pub use Rattle.std.proofs.lemmas.List.Elements.{All-cons, All-head, All-nil, All-tail, All-weaker, recursion_from_All, All-filter}
pub use Rattle.std.proofs.lemmas.List.Elements.{filter_passes, All-from_recursion}
pub use Rattle.std.proofs.lemmas.List.Sums.{sum_by-append, sum_by-cons}
pub use Rattle.std.proofs.lemmas.Option.{none-some, same_Some, slice_get_read, some_pair_parts, slice_get_within, IfSome_then}
pub use Rattle.std.proofs.lemmas.Result.{IfOk-weaker}
pub use Rattle.std.proofs.lemmas.Slice.Eq.{bytes_eq-Decides}
pub use Rattle.std.proofs.lemmas.Str.{IsCharBoundary-end, IsCharBoundary-after_ascii, IsCharBoundary-from_take, digit_value_digit}
pub use Rattle.std.proofs.lemmas.Str.Parse.{digit_from_value}
pub use Rattle.std.specs.Bool.{MatchBool}
pub use Rattle.std.specs.Borrow.{Bor}
pub use Rattle.std.specs.Char.{digit_value}
pub use Rattle.std.specs.Fmt.{decimal, digit_glyph}
pub use Rattle.std.specs.List.{AllByRecursion, cons_option, flat_map, join_by, join_with_byte, list_all, list_any, slice_get, slice_split}
pub use Rattle.std.specs.List.{onto_first}
pub use Rattle.std.specs.Prelude.{codes, is_some, IsTrue, ◌↔◌, IsErrAnd, count_by, slice_range, slice_set, nat_lt, find, MatchOption}
pub use Rattle.std.specs.Prelude.{unwrap_or}
pub use Rattle.std.specs.Str.{bytes_eq, IsCharBoundary, IsUtf8, encode_utf8_all, chars}
pub use Rattle.std.specs.Str.Parse.{digits_value, IsNumeral, AllDigits}
pub use Rattle.str0m_formats.proofs.{codec_read_as, codec_read_only, printed_pairs, format_linked_texts, parsed_param_printed}
pub use Rattle.str0m_formats.proofs.{param_decimal_reads, IsSolidPair}
pub use Rattle.str0m_formats.proofs.{joined_pair}
pub use Rattle.str0m_formats.proofs.{param_decimal_solid, Pairs, pairs_read_is, pairs_read_only}
pub use Rattle.str0m_formats.specs.codec.Codec.{codec_printed_and_read, codec_content, other, codec_text}
pub use Rattle.str0m_formats.specs.declared.codec.Codec.{Codec}
pub use Rattle.str0m_formats.specs.declared.format.format_param.FormatParam.TheVariants.{Apt, BarePtList, BareRange, Red, TelephoneEvents}
pub use Rattle.str0m_formats.specs.declared.format.format_param.FormatParam.TheVariants.{Unknown}
pub use Rattle.str0m_formats.specs.declared.round.rounds.Round.{Round}
pub use Rattle.str0m_formats.specs.format.FormatParam.{param_text, IsParsedParam, AreParsedParams}
pub use Rattle.str0m_formats.specs.format.Pairs.{has_triple_mark, ArePairsRead, AreJoinedPairs, pairs_merged}
pub use Rattle.str0m_formats.specs.format.PairsReading.{params_read}
pub use Rattle.str0m_formats.specs.round.Claimed.{type_times}
pub use Rattle.str0m_formats.specs.round.Narrowing.{telephone_max}
pub use Rattle.str0m_formats.specs.row.PayloadParams.{types_of, AllTypesSmall}
pub use Rattle.str0m_formats.specs.row.PlainRowBounds.{HoldsRowNumbers, IsBounded, IsByte}
pub use Rattle.str0m_sdp.proofs.{values_printed, section_describes_read_back, section_pairs_line_read, section_values_read}
pub use Rattle.str0m_sdp.proofs.{format_line_printed, reads, fmtp_lines}
pub use Rattle.str0m_sdp.proofs.{red_reads}
pub use Rattle.str0m_sdp.specs.attribute.Bandwidth.{bandwidth_line}
pub use Rattle.str0m_sdp.specs.attribute.Fmtp.{is_fmtp_shown, shown_fmtp_line}
pub use Rattle.str0m_sdp.specs.attribute.MediaType.{media_type_text}
pub use Rattle.str0m_sdp.specs.attribute.RtpMap.{map_of_spec, rtp_map_channels_text, rtp_map_text}
pub use Rattle.str0m_sdp.specs.attribute.Simulcast.{layer_name_text, simulcast_id_text, layer_text, layers_text, simulcast_sides_text}
pub use Rattle.str0m_sdp.specs.attribute.Simulcast.{simulcast_unless_munged}
pub use Rattle.str0m_sdp.specs.declared.attribute.MediaAttribute.TheVariants.{Fmtp, RtcpFb, RtpMap, Simulcast, Fingerprint, Setup, Mid}
pub use Rattle.str0m_sdp.specs.declared.attribute.MediaAttribute.TheVariants.{Candidate, SsrcGroup, Unused}
pub use Rattle.str0m_sdp.specs.declared.attribute.proto.Proto.TheVariants.{Sctp, Srtp}
pub use Rattle.str0m_sdp.specs.declared.attribute.setup.Setup.TheVariants.{ActPass}
pub use Rattle.str0m_sdp.specs.declared.attribute.setup.TheConstants.{SETUPS}
pub use Rattle.str0m_sdp.specs.declared.label.TheConstants.{AUDIO, SCTP, SRTP, VIDEO, TRANSPORT_CC, REMB, FIR, NACK, PLI, APPLICATION}
pub use Rattle.str0m_sdp.specs.declared.session.Session.{Session}
pub use Rattle.str0m_sdp.specs.declared.session.error.SdpError.{SdpError}
pub use Rattle.str0m_sdp.specs.form.Printed.{attribute_line}
pub use Rattle.str0m_sdp.specs.section.Consistency.{AgreesOnSectionApt, NoSectionFaultIff, IsMapped, NamesNoOtherSectionApt, section_apt_of}
pub use Rattle.str0m_sdp.specs.section.Consistency.{section_apt_among, section_apt_in, first_section_apt}
pub use Rattle.str0m_sdp.specs.section.Consistency.{maps}
pub use Rattle.str0m_sdp.specs.section.MediaLine.{formats_text, m_line, media_line_text, m_line_pts_text, port_text}
pub use Rattle.str0m_sdp.specs.section.RowAttributes.{row_attrs, feedback_line, feedback_attrs, fmtp_line, format_values, format_attrs}
pub use Rattle.str0m_sdp.specs.section.RowAttributes.{rtx_lines, rtx_attrs, red_lines, red_attrs}
pub use Rattle.str0m_sdp.specs.section.SectionRows.{KeepsToRowLine, IsRowInBounds, KeepsToRowLines}
pub use Rattle.str0m_sdp.specs.session.Session.{session_lines, versioned_origin, versioned_text}
pub use Rattle.str0m_signal.specs.Prelude.{codec_of, IsReadAsCodec, FormatParam, PayloadParams, pair_texts, IsEventRange, AllTypesDistinct}
pub use Rattle.str0m_signal.specs.Prelude.{types}
pub use Rattle.str0m_signal.specs.Prelude.{IsPlain, media_attribute_text, session_attribute_text, media_words, session_words}
pub use Rattle.str0m_signal.specs.Prelude.{bandwidth_text, is_media, setup_text, MediaAttribute, SessionAttribute, Bandwidth, MediaType}
pub use Rattle.str0m_signal.specs.Prelude.{Proto, RestrictionId, SimulcastLayer, MediaLine, Sdp, printed_line_end, Consistent, is_mid}
pub use Rattle.str0m_signal.specs.Prelude.{is_setup}
pub use Rattle.str0m_signal.specs.Prelude.{is_direction, is_of_type, made, HasBoundedRows, sdp_text, PartedAddress, IsCandidateText, before}
pub use Rattle.str0m_signal.specs.Prelude.{cut}
pub use Rattle.str0m_signal.specs.Prelude.{is_rest, lacks, num, strip, when, ◌<|>◌, ◌>>=◌, IsTheOnly, FirstFit, IsNum, IsPt, IsRest, IsWord}
pub use Rattle.str0m_signal.specs.Prelude.{Lacks, IsWithout, code, text_beginning_of, IsLongestShortText}
pub use Rattle.str0m_values.proofs.AddressWords.{address_lacks_both}
pub use Rattle.str0m_values.proofs.CandidateLaws.{candidate_both}
pub use Rattle.str0m_values.proofs.CandidateParts.{candidate_num_both}
pub use Rattle.str0m_values.proofs.CutLaws.{cut_before_front, cut_at, cut_found, cut_none, cut_none_lacks, LacksCut-append, lacks_cut_from}
pub use Rattle.str0m_values.proofs.CutLaws.{lacks_cut_true}
pub use Rattle.str0m_values.proofs.CutLaws.{strip_at, strip_found, cut_before_lacks, strip_none}
pub use Rattle.str0m_values.proofs.CutsBothWays.{cuts_bind_some, cuts_if_some, cuts_or_some, cuts_reads_first, cuts_some_is, IsSoundCut}
pub use Rattle.str0m_values.proofs.CutsBothWays.{sound_cut_or, cuts_reads_either, Reads}
pub use Rattle.str0m_values.proofs.CutsBothWays.{cuts_one_value, cuts_none_reads, cuts_reads_none}
pub use Rattle.str0m_values.proofs.CutsNumLaws.{digits_lack, num_found, num_reads, number_lacks, num_rest_true}
pub use Rattle.str0m_values.proofs.CutsNumLaws.{cuts_when_some}
pub use Rattle.str0m_values.proofs.CutsNumLaws.{num_when_true}
pub use Rattle.str0m_values.proofs.FingerprintPairs.{hash_glyph_value}
pub use Rattle.str0m_values.proofs.IdentifierBeginnings.{beginning_is, beginning_only}
pub use Rattle.str0m_values.proofs.WordsOfCases.{reads_words}
pub use Rattle.str0m_values.specs.Address.{IsOctet, IsHexGroup, IsOneAddressGroup, IsAddressEnd, AreAddressGroups, AreAnyAddressGroups}
pub use Rattle.str0m_values.specs.Address.{IsIpText, octet_pairs}
pub use Rattle.str0m_values.specs.Address.{ip_text}
pub use Rattle.str0m_values.specs.Candidate.{candidate_text, IsCandidateSocket, IsRelatedAddress, AreIceNames, IsCandidateSocketInRange}
pub use Rattle.str0m_values.specs.Candidate.{IsPrintableCandidate}
pub use Rattle.str0m_values.specs.Candidate.{socket_text}
pub use Rattle.str0m_values.specs.Candidate.{related_text, extras_text}
pub use Rattle.str0m_values.specs.Cuts.{IsFirstCutAt, IsWrittenAs, LacksCutAt}
pub use Rattle.str0m_values.specs.Cuts.{front}
pub use Rattle.str0m_values.specs.Fingerprint.{hex_pair, pairs_text, fingerprint_text}
pub use denote.Shadow.{shadow}
pub use denote.Text.{Utf8}
