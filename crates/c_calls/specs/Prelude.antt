-- What definitions and clauses cite of the crates below, passed on from one place. Declares nothing.
pub use Rattle.c_json.specs.Description.{IsJsonText}
pub use Rattle.c_parts.specs.Extension.{c_extensions}
pub use Rattle.c_parts.specs.Layer.{c_layers}
pub use Rattle.c_parts.specs.Parts.{IsRoomFull}
pub use Rattle.c_parts.specs.Reading.{RefusesReading}
pub use Rattle.c_parts.specs.Rid.{c_rids}
pub use Rattle.c_parts.specs.Row.{c_outcome, c_row, c_rows, row_codec_numbered, row_number_unless}
pub use Rattle.c_parts.specs.Section.{c_section, section_setup_number}
pub use Rattle.c_parts.specs.Side.{RefusesSidePair, RefusesOwnSide, SaysOwnSide, side_direction_numbered, side_kind_numbered, own_texts}
pub use Rattle.c_parts.specs.Source.{c_sources}
pub use Rattle.c_parts.specs.SourceGroup.{c_source_groups}
pub use Rattle.c_parts.specs.declared.section.Section.{Section}
pub use Rattle.c_parts.specs.declared.side.OwnNumbers.{OwnNumbers}
pub use Rattle.c_parts.specs.declared.side.OwnTexts.{OwnTexts}
pub use Rattle.exchange.specs.answer.AcceptedOffer.{tracks}
pub use Rattle.exchange.specs.answer.AnsweredSession.{BundlesAccepted}
pub use Rattle.exchange.specs.answer.Offered.{IsOffer, NegotiatesOffer}
pub use Rattle.exchange.specs.declared.state.exchange.Exchange.{Exchange}
pub use Rattle.exchange.specs.declared.state.own_side.OwnSide.{OwnSide}
pub use Rattle.exchange.specs.declared.state.signaling_state.SignalingState.{SignalingState}
pub use Rattle.exchange.specs.offer.AcceptedAnswer.{IsAnswer, RefusesAnswer, offer_placed_of}
pub use Rattle.exchange.specs.offer.Added.{offer_with_channels, with_media, with_offer_placed}
pub use Rattle.exchange.specs.offer.Fits.{FitsOffer}
pub use Rattle.exchange.specs.offer.FreshNames.{AreFresh}
pub use Rattle.exchange.specs.offer.MadeOffer.{MakesOffer, offer_placed_as, offer_ready_with}
pub use Rattle.exchange.specs.offer.Names.{grown_names}
pub use Rattle.exchange.specs.offer.OfferRules.{IsNewOfferName, IsOffered, KeepsOfferPlaces}
pub use Rattle.exchange.specs.offer.Rules.{HasOfferedShape, IsAcceptedExactlyByRules, KeepsRules}
pub use Rattle.exchange.specs.section.Places.{StaysInPlaces}
pub use Rattle.exchange.specs.state.Exchange.{AnswersOffer, EachSection, ExchangeRefusesChannels, RefusesMedia, RefusesOffer, RefusesToOffer}
pub use Rattle.exchange.specs.state.ExchangeFollows.{Follows, IsExchangeSound}
pub use Rattle.exchange.specs.state.OwnSide.{with_own_side_entry}
pub use Rattle.exchange.specs.state.ReadBack.{IsReadBack}
pub use Rattle.exchange.specs.state.State.{pending_sdp, sections_of, state_of, exchange_taken_names}
pub use Rattle.str0m_formats.specs.codec.Codec.{codec_text}
pub use Rattle.str0m_formats.specs.declared.codec.Codec.{Codec}
pub use Rattle.str0m_formats.specs.declared.format.format_params.FormatParams.{FormatParams}
pub use Rattle.str0m_formats.specs.declared.row.codec_config.CodecConfig.{CodecConfig}
pub use Rattle.str0m_formats.specs.declared.row.payload_params.PayloadParams.{PayloadParams}
pub use Rattle.str0m_formats.specs.format.FormatLine.{IsFormatOfLine}
pub use Rattle.str0m_formats.specs.format.FormatParams.{params_text}
pub use Rattle.str0m_formats.specs.round.Claimed.{AllTypesDistinct}
pub use Rattle.str0m_formats.specs.round.RoundsPromises.{LockedStay}
pub use Rattle.str0m_formats.specs.round.RoundsRuns.{OutcomeOfRound}
pub use Rattle.str0m_formats.specs.row.DefaultRows.{default_rows, enabled_rows, usual_rows}
pub use Rattle.str0m_formats.specs.row.KindRows.{kind_rows}
pub use Rattle.str0m_formats.specs.row.PayloadParams.{new_row, types}
pub use Rattle.str0m_formats.specs.row.PlainRow.{IsPlain}
pub use Rattle.str0m_sdp.specs.Common.{distinct, first, last}
pub use Rattle.str0m_sdp.specs.attribute.Msid.{msid_text}
pub use Rattle.str0m_sdp.specs.attribute.Rid.{rid_pts_part, restrictions_part}
pub use Rattle.str0m_sdp.specs.declared.attribute.MediaAttribute.{MediaAttribute}
pub use Rattle.str0m_sdp.specs.declared.attribute.media_type.MediaType.{MediaType}
pub use Rattle.str0m_sdp.specs.declared.attribute.msid.Msid.{Msid}
pub use Rattle.str0m_sdp.specs.declared.attribute.simulcast.Simulcast.{Simulcast}
pub use Rattle.str0m_sdp.specs.declared.attribute.simulcast.SimulcastLayer.{SimulcastLayer}
pub use Rattle.str0m_sdp.specs.declared.section.media_line.MediaLine.{MediaLine}
pub use Rattle.str0m_sdp.specs.declared.section.ssrc_info.SsrcInfo.{SsrcInfo}
pub use Rattle.str0m_sdp.specs.declared.session.Sdp.{Sdp}
pub use Rattle.str0m_sdp.specs.section.Consistency.{mid_of}
pub use Rattle.str0m_sdp.specs.section.MadeSection.{made}
pub use Rattle.str0m_sdp.specs.section.SectionAccessors.{msid_of, simulcast_of}
pub use Rattle.str0m_sdp.specs.section.SectionRows.{rows}
pub use Rattle.str0m_sdp.specs.section.SsrcInfo.{infos}
pub use Rattle.str0m_sdp.specs.session.Candidates.{all_candidates, same_candidate}
pub use Rattle.str0m_sdp.specs.session.PreferredFingerprint.{IsPreferred, sdp_fingerprints}
pub use Rattle.str0m_sdp.specs.session.Session.{sdp_text, versioned_text}
pub use Rattle.str0m_sdp.specs.session.SessionConsistency.{AreMidsDistinct, section_mids}
pub use Rattle.str0m_sdp.specs.session.Transport.{sdp_creds, sdp_setup}
pub use Rattle.str0m_signal.specs.back.Writable.{Writable}
pub use Rattle.str0m_signal.specs.session.Locked.{locked_of_kind}
pub use Rattle.str0m_signal.specs.session.Negotiation.{NegotiatedText}
pub use Rattle.str0m_signal.specs.session.Reader.{DescribesSession, Reading}
pub use Rattle.str0m_values.specs.Candidate.{candidate_text}
pub use Rattle.str0m_values.specs.Fingerprint.{fingerprint_text}
pub use Rattle.str0m_values.specs.declared.candidate.Candidate.{Candidate}
pub use Rattle.str0m_values.specs.declared.direction.Direction.{Direction}
pub use Rattle.str0m_values.specs.declared.fingerprint.Fingerprint.{Fingerprint}
pub use Rattle.str0m_values.specs.declared.ice_creds.IceCreds.{IceCreds}
