-- The fmtp lines of types, one attribute more.
use Rattle.str0m_sdp.proofs.Common.{arith, ◌≡◌, ◌==◌, ◌<◌, ◌+◌, ◌++◌, ℕ, true, false, List, [], ◌∷◌, length, take, get_or, Option, Some}
use Rattle.str0m_sdp.proofs.Common.{None, option_to_list, refl, sym, ap, ◌∙◌, inl, inr, Bor, cases_eq, eq-eqb, ne_eqb, append-nil}
use Rattle.str0m_sdp.proofs.Common.{map-append, filter_map-append, format_line_values, FormatParam}
use Rattle.str0m_sdp.proofs.section.MappingsFilterMap.{map_one, map_more}
use Rattle.str0m_sdp.specs.declared.attribute.MediaAttribute.{MediaAttribute}
use Rattle.str0m_sdp.specs.declared.attribute.MediaAttribute.TheVariants.{Fmtp}
use Rattle.str0m_sdp.specs.section.FmtpLines.{fmtp_line_with, fmtp_lines_with}
use Rattle.str0m_sdp.specs.section.SectionRows.{fmtp_values_in, fmtps_of}

-- before any attribute there are none
pub no_fmtp_lines : (lines : List (ℕ × Bor (List FormatParam))) (pt : ℕ) → lines ≡ []
    → format_line_values (fmtp_lines_with pt lines) ≡ fmtps_of [] pt
unfolding fmtps_of
no_fmtp_lines lines pt empty = ap (λ (ls : List (ℕ × Bor (List FormatParam))). format_line_values (fmtp_lines_with pt ls)) empty

-- one line more, beside its type
fmtp_line_with_more : (pt : ℕ) (lines : List (ℕ × Bor (List FormatParam))) (item : ℕ × Bor (List FormatParam))
    (o : Option (Bor (List FormatParam)))
    → fmtp_line_with pt item ≡ o
    → format_line_values (fmtp_lines_with pt (lines ++ item ∷ [])) ≡ format_line_values (fmtp_lines_with pt lines)
    ++ format_line_values (option_to_list o)
fmtp_line_with_more pt lines item o is = grind (arith, filter_map-append, map_one, map-append)

fmtp_lines_more : (attrs : List MediaAttribute) (i : ℕ) (attr : MediaAttribute) (pt : ℕ) (o : Option (List FormatParam)) → i < length attrs
    → attr ≡ get_or attrs i attr
    → fmtp_values_in pt attr ≡ o → fmtps_of (take (i + 1) attrs) pt ≡ fmtps_of (take i attrs) pt ++ option_to_list o
unfolding fmtps_of
fmtp_lines_more attrs i attr pt o lt is says = grind (arith, map_more (fmtp_values_in pt) attrs i attr lt is)

fmtp_lines_same : (attrs : List MediaAttribute) (i : ℕ) (attr : MediaAttribute) (pt : ℕ) → i < length attrs → attr ≡ get_or attrs i attr
    → fmtp_values_in pt attr ≡ None → fmtps_of (take (i + 1) attrs) pt ≡ fmtps_of (take i attrs) pt
fmtp_lines_same attrs i attr pt lt is silent = fmtp_lines_more attrs i attr pt None lt is silent ∙ append-nil (fmtps_of (take i attrs) pt)

fmtp_silent_in : (pt : ℕ) (attr : MediaAttribute) → ((n : ℕ) (values : List FormatParam) → attr ≡ Fmtp n values → ⊥)
    → fmtp_values_in pt attr ≡ None
fmtp_silent_in pt attr other = grind arith

own_fmtp_values : (n pt : ℕ) (values : List FormatParam) → n ≡ pt → fmtp_values_in pt (Fmtp n values) ≡ Some values
own_fmtp_values n pt values same = rw (eq-eqb n pt same) refl

other_fmtp_values : (n pt : ℕ) (values : List FormatParam) → (n ≡ pt → ⊥) → fmtp_values_in pt (Fmtp n values) ≡ None
other_fmtp_values n pt values ne = rw (ne_eqb n pt ne) refl

fmtp_line_with_own : (n pt : ℕ) (line : Bor (List FormatParam)) → n ≡ pt → fmtp_line_with pt (n, line) ≡ Some line
fmtp_line_with_own n pt line same = rw (eq-eqb n pt same) refl

fmtp_line_with_other : (n pt : ℕ) (line : Bor (List FormatParam)) → (n ≡ pt → ⊥) → fmtp_line_with pt (n, line) ≡ None
fmtp_line_with_other n pt line ne = rw (ne_eqb n pt ne) refl

-- what is no fmtp line adds none
pub fmtp_lines_other : (attrs : List MediaAttribute) (i : ℕ) (attr : MediaAttribute) (pt : ℕ) → i < length attrs
    → attr ≡ get_or attrs i attr
    → ((n : ℕ) (values : List FormatParam) → attr ≡ Fmtp n values → ⊥) → fmtps_of (take (i + 1) attrs) pt ≡ fmtps_of (take i attrs) pt
fmtp_lines_other attrs i attr pt lt is other = fmtp_lines_same attrs i attr pt lt is (fmtp_silent_in pt attr other)

-- an fmtp line adds its values to its own type's lines
pub fmtp_lines_pushed : (attrs : List MediaAttribute) (lines : List (ℕ × Bor (List FormatParam))) (i n : ℕ) (line : Bor (List FormatParam))
    (attr : MediaAttribute) (pt : ℕ)
    → i < length attrs → attr ≡ get_or attrs i attr → attr ≡ Fmtp n line.now
    → format_line_values (fmtp_lines_with pt lines) ≡ fmtps_of (take i attrs) pt
    → format_line_values (fmtp_lines_with pt (lines ++ (n, line) ∷ [])) ≡ fmtps_of (take (i + 1) attrs) pt
fmtp_lines_pushed attrs lines i n line attr pt lt is variant so_far =
    elim (cases_eq n pt) [
      | inl same ↦
          fmtp_line_with_more pt lines (n, line) (Some line) (fmtp_line_with_own n pt line same)
          ∙ ap (λ (vs : List (List FormatParam)). vs ++ line.now ∷ []) so_far
          ∙ sym (fmtp_lines_more attrs i attr pt (Some line.now) lt is
          (ap (fmtp_values_in pt) variant ∙ own_fmtp_values n pt line.now same))
      | inr ne ↦
          fmtp_line_with_more pt lines (n, line) None (fmtp_line_with_other n pt line ne)
          ∙ append-nil (format_line_values (fmtp_lines_with pt lines))
          ∙ so_far ∙ sym (fmtp_lines_same attrs i attr pt lt is (ap (fmtp_values_in pt) variant ∙ other_fmtp_values n pt line.now ne))
    ]

is_type_line : (pt : ℕ) (item : ℕ × Bor (List FormatParam)) → (item.0 == pt) ≡ true → fmtp_line_with pt item ≡ Some item.1
is_type_line pt item is = rw is refl

is_other_type_line : (pt : ℕ) (item : ℕ × Bor (List FormatParam)) → (item.0 == pt) ≡ false → fmtp_line_with pt item ≡ None
is_other_type_line pt item is = rw is refl

-- a line of the type is found
pub own_fmtp_line_found : (lines : List (ℕ × Bor (List FormatParam))) (found : List (Bor (List FormatParam))) (i pt : ℕ)
    (item : ℕ × Bor (List FormatParam))
    → i < length lines → item ≡ get_or lines i item → (item.0 == pt) ≡ true → found ≡ fmtp_lines_with pt (take i lines)
    → found ++ item.1 ∷ [] ≡ fmtp_lines_with pt (take (i + 1) lines)
own_fmtp_line_found lines found i pt item lt is same so_far = grind
    (arith, map_more (fmtp_line_with pt) lines i item lt is, is_type_line pt item same)

-- one of another type isn't
pub other_fmtp_line_not_found : (lines : List (ℕ × Bor (List FormatParam))) (found : List (Bor (List FormatParam))) (i pt : ℕ)
    (item : ℕ × Bor (List FormatParam))
    → i < length lines → item ≡ get_or lines i item → (item.0 == pt) ≡ false → found ≡ fmtp_lines_with pt (take i lines)
    → found ≡ fmtp_lines_with pt (take (i + 1) lines)
other_fmtp_line_not_found lines found i pt item lt is apart so_far =
    grind (
      arith,
      map_more (fmtp_line_with pt) lines i item lt is,
      is_other_type_line pt item apart,
      append-nil (fmtp_lines_with pt (take i lines)),
    )
