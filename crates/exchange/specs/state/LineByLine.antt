-- Descriptions each of whose lines is read as what it says, whatever stands before and behind it.
use Rattle.exchange.specs.Prelude.{Alike, Consistent, MediaAttribute, MediaLine, Sdp, SessionAttribute, is_media}
use Rattle.std.specs.Prelude.{◌≡◌, ◌≢◌, ◌≤◌, ◌⊎◌, ◌&&◌, ℕ, Bool, true, List, [], MatchOption, None, All}
use Rattle.str0m_formats.specs.declared.format.format_param.FormatParam.{FormatParam}
use Rattle.str0m_formats.specs.format.FormatParam.{IsParamInRange, entry, kind}
use Rattle.str0m_sdp.specs.attribute.Attribute.{media_attribute_text, session_attribute_text}
use Rattle.str0m_sdp.specs.declared.attribute.media_type.MediaType.TheVariants.{Application}
use Rattle.str0m_signal.specs.Prelude.{is_rest, lacks}
use Rattle.str0m_signal.specs.back.Writable.{IsReadBackLine}
use Rattle.str0m_signal.specs.form.MediaAttribute.{IsMediaLine}
use Rattle.str0m_signal.specs.form.SessionAttribute.{IsSessionLine}

-- one or more characters, none of which ends a line
abbrev pub is_line_text : List ℕ → Bool
is_line_text text = is_rest text && (lacks 10 text && lacks 13 text)

-- the line of a section's attribute is read as one alike
abbrev pub IsLineReadAlike : MediaAttribute → Type 0
IsLineReadAlike attr = (read : MediaAttribute) × IsReadBackLine IsMediaLine (media_attribute_text attr) read × Alike attr read

-- a parameter that is written `key=value`, with a value that is read back as it prints
abbrev pub IsParamTold : FormatParam → Type 0
IsParamTold param = MatchOption (entry param) ⊥ (λ e. IsParamInRange (kind e.0) e.1)

-- the line of a session's attribute is read as it
abbrev pub IsSessionLineRead : SessionAttribute → Type 0
IsSessionLineRead attr = IsReadBackLine IsSessionLine (session_attribute_text attr) attr

-- some payload types, each of seven bits
abbrev pub AreRtpTypes : List ℕ → Type 0
AreRtpTypes pts = (pts ≢ []) × All (λ pt. pt ≤ 127) pts

-- media with payload types, or data channels without any (RFC 8866, section 5.14; RFC 8841, section 4.3)
abbrev pub IsHeadTold : MediaLine → Type 0
IsHeadTold m = ((is_media m.typ ≡ true) × AreRtpTypes m.pts) ⊎ ((m.typ ≡ Application) × (m.pts ≡ []))

-- a consistent section that says no bandwidth
pub record IsFrameTold (m : MediaLine) : Type 0 where
  pub head : IsHeadTold m
  pub bandwidth : m.bw ≡ None
  pub consistent : Consistent m

-- such a section, whose lines are each read back
abbrev pub IsSectionReadByLines : MediaLine → Type 0
IsSectionReadByLines m = IsFrameTold m × All IsLineReadAlike m.attrs

-- the session and the sections are read back line by line
pub record IsReadByLines (sdp : Sdp) : Type 0 where
  pub bandwidth : sdp.session.bw ≡ None
  pub lines : All IsSessionLineRead sdp.session.attrs
  pub sections : All IsSectionReadByLines sdp.media_lines
