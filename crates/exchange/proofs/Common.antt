-- The names that proofs cite from elsewhere, passed on from one place. Declares nothing.
pub use Rattle.exchange.specs.Prelude.{Alike, AllTypesDistinct, Answers, AnswersDirection, AreMidsDistinct, AtMostOneAnswer, Candidate}
pub use Rattle.exchange.specs.Prelude.{Consistent}
pub use Rattle.exchange.specs.Prelude.{Direction, Fingerprint, FirstLine, HasBoundedRows, HasVideoFeedback, HoldsMids, IceCreds}
pub use Rattle.exchange.specs.Prelude.{IsCandidateLine, IsFromLine, IsPlain, IsPreferred, IsReading, Line, Lines, LockedStay}
pub use Rattle.exchange.specs.Prelude.{MediaAttribute, MediaKind, MediaLine, MediaType, Negotiated, OutcomeOfRound, PayloadParams, Proto}
pub use Rattle.exchange.specs.Prelude.{RunReached}
pub use Rattle.exchange.specs.Prelude.{Reading, ReaderRefuses, Sdp, Session, SessionAttribute, Setup, SimulcastLayer, bundled_of, creds}
pub use Rattle.exchange.specs.Prelude.{direction_attribute, distinct, first, first_filled_fingerprints, has, is_mid_held, is_group_listed}
pub use Rattle.exchange.specs.Prelude.{is_media}
pub use Rattle.exchange.specs.Prelude.{is_mid}
pub use Rattle.exchange.specs.Prelude.{is_of_type, kind_rows, locked_types, made, maps, media_pwd, media_ufrag, mid_of, receives, row_attrs}
pub use Rattle.exchange.specs.Prelude.{rows, section_direction, section_mids, session_pwd, session_ufrag, types, types_of, versioned_text}
pub use Rattle.exchange.specs.Prelude.{◌>>=◌}
pub use Rattle.std.proofs.Common.{All, BTreeSet, Bool, Bor, Contains, Decides, Err, IfOk, IfSome, IsSomeAnd, IsTrue, List, MatchOption}
pub use Rattle.std.proofs.Common.{None, Ok, Option, Result, Some, [], ap, append-nil, append_assoc, arith, below_more, bytes_eq, codes}
pub use Rattle.std.proofs.Common.{cond, count_by, decimal, drop, drop-cons, eq-eqb, eq-or-lt_of_le, eqb-true, false, filter, filter_map}
pub use Rattle.std.proofs.Common.{find, flat_map, get_or, get_or-set_other, get_or-set_same, if◌then◌else◌, inl, inr, is_some, length}
pub use Rattle.std.proofs.Common.{length-append, length-set, length-take, length-take-le, map, min, nat_cmp, nat_lt, ne_eqb, not}
pub use Rattle.std.proofs.Common.{option_copied, option_map, option_to_list, refl, replicate, rules, set, slice_get, subst, suc, sym, take}
pub use Rattle.std.proofs.Common.{take_all, tests, true, true≢false, zero, zip, ℕ, ◌&&◌, ◌++◌, ◌+◌, ◌-◌, ◌<◌, ◌==◌, ◌^◌, ◌||◌, ◌↔◌, ◌∙◌}
pub use Rattle.std.proofs.Common.{◌∷◌, ◌≡◌, ◌≢◌, ◌≤◌, ◌⊎◌}
pub use Rattle.std.proofs.lemmas.Bool.{and_parts, cases_eq, cases_lt, false≢true, or_parts}
pub use Rattle.std.proofs.lemmas.Grind.{common_steps, take_at_read}
pub use Rattle.std.proofs.lemmas.Iterator.{YieldsList-from_slice}
pub use Rattle.std.proofs.lemmas.List.{append_cancel_left, get_or-replicate, length-map}
pub use Rattle.std.proofs.lemmas.List.Elements.{All-append, All-cons, All-contains, All-contains_itself, All-filter, All-head, All-more}
pub use Rattle.std.proofs.lemmas.List.Elements.{All-nil, All-tail, All-weaker, AllZip-get_or, Contains-append_right, all_zip_more}
pub use Rattle.std.proofs.lemmas.List.Elements.{filter_from_retain, filter_map-append, length_all_zip}
pub use Rattle.std.proofs.lemmas.List.Folds.{list_any-append, list_any_at}
pub use Rattle.std.proofs.lemmas.List.Kept.{AllPairs-cons}
pub use Rattle.std.proofs.lemmas.List.Quantifiers.{all_pairs_push}
pub use Rattle.std.proofs.lemmas.Option.{get_or_from_slice_get, same_Some, slice_get-get_or, slice_get-map, slice_get_past}
pub use Rattle.std.proofs.lemmas.Option.{slice_get_within}
pub use Rattle.std.proofs.lemmas.Slice.Eq.{bytes_eq-Decides}
pub use Rattle.std.proofs.lemmas.Slice.Zip.{AllZip-long, AllZip-right}
pub use Rattle.std.specs.BTreeSet.{Updates, contains}
pub use Rattle.std.specs.Cmp.Lexicographic.{pointwise, slice_cmp}
pub use Rattle.std.specs.List.{AllZip, cons_option, list_any}
pub use Rattle.str0m_formats.proofs.{pair_key_bytes_itself, claimed_slice_get_item, one_time_if, type_times-append, type_times-cons}
pub use Rattle.str0m_formats.proofs.{type_times-none}
pub use Rattle.str0m_formats.proofs.{locked-stays-same, locked-stays-then}
pub use Rattle.str0m_formats.proofs.{pass_at_place, row_before}
pub use Rattle.str0m_formats.specs.declared.format.format_param.FormatParam.{FormatParam}
pub use Rattle.str0m_formats.specs.declared.round.rounds.Round.{Round}
pub use Rattle.str0m_formats.specs.declared.row.codec_config.CodecConfig.{CodecConfig}
pub use Rattle.str0m_formats.specs.round.Claimed.{type_times}
pub use Rattle.str0m_formats.specs.round.RoundsPromises.{StaysLocked}
pub use Rattle.str0m_sdp.proofs.{map_more, one_mapped, first_by_find_map, first_from_find_map, filter_map_more, filter_map_same}
pub use Rattle.str0m_sdp.proofs.{row_count-append, rows_uncounted, mids_holds_before, mids_holds_behind}
pub use Rattle.str0m_sdp.specs.declared.attribute.MediaAttribute.TheVariants.{Fmtp, RtcpFb, Unused}
pub use Rattle.str0m_sdp.specs.declared.attribute.media_type.MediaType.TheVariants.{Application, Audio, Unknown, Video}
pub use Rattle.str0m_sdp.specs.declared.attribute.proto.Proto.TheVariants.{Sctp, Srtp}
pub use Rattle.str0m_sdp.specs.declared.attribute.setup.Setup.TheVariants.{ActPass}
pub use Rattle.str0m_sdp.specs.declared.label.TheConstants.{EXTMAP_ALLOW_MIXED, FIR, NACK, PLI, REMB, TRANSPORT_CC}
pub use Rattle.str0m_sdp.specs.declared.session.error.SdpError.{SdpError}
pub use Rattle.str0m_sdp.specs.declared.session.error.SdpError.TheVariants.{Inconsistent, Memory, ParseError}
pub use Rattle.str0m_sdp.specs.section.RowAttributes.{feedback_attrs, feedback_line, fmtp_line, format_attrs, format_values, red_attrs}
pub use Rattle.str0m_sdp.specs.section.RowAttributes.{red_lines, rtx_attrs, rtx_lines}
pub use Rattle.str0m_sdp.specs.session.SessionConsistency.{section_mid}
pub use Rattle.str0m_signal.proofs.{lines_joined-append, line_feeds, line_number}
