-- The row of a type, as tables tell it.
use Rattle.str0m_sdp.proofs.Common.{arith, ◌≡◌, ◌<◌, ◌++◌, ℕ, List, [], ◌∷◌, Option, Some, None, Result, Ok, Err, option_to_list}
use Rattle.str0m_sdp.proofs.Common.{if◌then◌else◌, refl, sym, ap, ◌∙◌, format_of_fmtp, CodecSpec, FormatParams, OnOk, is_ok, option_map}
use Rattle.str0m_sdp.specs.declared.section.media_line.MediaLine.{MediaLine}
use Rattle.str0m_sdp.specs.declared.section.section_rows.TypeFacts.{TypeFacts}
use Rattle.str0m_sdp.specs.section.SectionRows.{fmtps_of, row, row_with}
use Rattle.str0m_sdp.specs.section.SectionRowsFacts.{row_of, RowTablesSayOf}

row_said : (m : MediaLine) (words : TypeFacts) (pt : ℕ) (spec : CodecSpec) (format : FormatParams) → RowTablesSayOf m words → pt < 256
    → row_of words pt (record spec { format = format }) ≡ row_with m pt spec format
row_said m words pt spec format say small = rw (say.rtx pt, say.red pt, say.feedback pt small) refl

-- the row of a type whose lines aren't refused
pub row_is : (m : MediaLine) (words : TypeFacts) (pt : ℕ) (spec : CodecSpec) (format : FormatParams) → RowTablesSayOf m words → pt < 256
    → Some format ≡ format_of_fmtp spec.codec (fmtps_of m.attrs pt)
    → row m (pt, spec) ≡ Some (row_of words pt (record spec { format = format }))
unfolding row
row_is m words pt spec format say small is = grind arith

-- none where they are
pub no_row : (m : MediaLine) (pt : ℕ) (spec : CodecSpec) → None ≡ format_of_fmtp spec.codec (fmtps_of m.attrs pt) → row m (pt, spec) ≡ None
unfolding row
no_row m pt spec is = ap (λ (o : Option FormatParams). option_map (row_with m pt spec) o) (sym is)

-- what is pushed where a row is there
pub row_pushed : {X E : Type 0} (r : Result (Unit {0}) E) (before after : List X) (x : X) (o : Option X)
    → after ≡ (if is_ok r then before ++ x ∷ [] else before) → o ≡ Some x → OnOk r (after ≡ before ++ option_to_list o)
row_pushed {X} (Ok u) before after x o items is = items ∙ sym (ap (λ (p : Option X). before ++ option_to_list p) is)
row_pushed (Err e) before after x o items is = tt
