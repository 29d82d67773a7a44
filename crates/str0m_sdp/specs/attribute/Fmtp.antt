-- What the parameters of a format print (RFC 8866, section 6.15).
use Rattle.std.specs.List.{join_by}
use Rattle.std.specs.Prelude.{ℕ, Bool, List, [], ◌∷◌, ◌++◌, codes, filter, length, nat_lt, decimal}
use Rattle.str0m_sdp.specs.Prelude.{FormatParam, param_text}
use Rattle.str0m_sdp.specs.declared.label.TheConstants as label
use Rattle.str0m_sdp.specs.form.Printed.{attribute_line}

-- a value whose text isn't empty
abbrev pub is_fmtp_shown : FormatParam → Bool
is_fmtp_shown value = nat_lt 0 (length (param_text value))

-- the line of values that are all shown; no line for none
abbrev pub shown_fmtp_line : ℕ → List FormatParam → List ℕ
shown_fmtp_line pt [] = []
shown_fmtp_line pt (value ∷ values) =
    attribute_line (label.FMTP.now ++ (decimal pt ++ (codes " " ++ join_by param_text (codes ";") (value ∷ values))))

-- the line of the values that are shown
abbrev pub fmtp_text : ℕ → List FormatParam → List ℕ
fmtp_text pt values = shown_fmtp_line pt (filter is_fmtp_shown values)
