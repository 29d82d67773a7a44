-- The names that proofs cite from elsewhere, passed on from one place. Declares nothing.
pub use Rattle.lint.specs.Prelude.{AtMostOneAnswer, Line, MediaLine, OutcomeOfRound, PayloadParams, Reading, Sdp, cut, is_media, lines_of}
pub use Rattle.lint.specs.Prelude.{receives}
pub use Rattle.lint.specs.Prelude.{rows, sdp_text, section_direction, strip}
pub use Rattle.std.proofs.Common.{Bool, Bor, Err, List, MatchOption, None, Ok, Option, Some, [], ap, append-nil, append_assoc, arith, codes}
pub use Rattle.std.proofs.Common.{cond, eqb, eqb-true, false, filter_map, flat_map, get_or, inl, inr, is_some, length, length-take-le, lit<}
pub use Rattle.std.proofs.Common.{map, max, min, refl, rules, subst, sym, take, take_all, true, true≢false, unwrap_or, ℕ, ◌++◌, ◌+◌, ◌-◌}
pub use Rattle.std.proofs.Common.{◌<◌, ◌||◌, ◌↔◌, ◌∙◌, ◌∷◌, ◌≡◌, ◌≤◌}
pub use Rattle.std.proofs.lemmas.List.{map-append}
pub use Rattle.std.proofs.lemmas.List.Elements.{filter_map-append}
pub use Rattle.std.proofs.lemmas.Result.{on_err_weaker, on_ok_weaker}
pub use Rattle.std.specs.List.{cons_option, list_any}
pub use Rattle.str0m_formats.proofs.{rounds_ran_from}
pub use Rattle.str0m_formats.proofs.Common.{take_more}
pub use Rattle.str0m_formats.specs.declared.row.codec_config.CodecConfig.{CodecConfig}
pub use Rattle.str0m_formats.specs.round.RoundsPromises.{Negotiates}
pub use Rattle.str0m_sdp.proofs.{rows_or_false}
pub use Rattle.str0m_signal.proofs.Common.{Utf8, shadow}
