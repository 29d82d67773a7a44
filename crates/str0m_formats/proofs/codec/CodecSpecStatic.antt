-- What a payload type stands for without a mapping is found in the table of codecs.
use Rattle.str0m_formats.proofs.Common.{arith, ◌≡◌, ◌≤◌, ◌↔◌, ℕ, leb, Bool, true, false, Option, Some, None, is_some, option_map, refl, sym}
use Rattle.str0m_formats.proofs.Common.{ap, ◌∙◌, leb-true, false≢true, IsTheOnly, cuts_bind_some, only_read, cuts_reads_none, Reads}
use Rattle.str0m_formats.specs.codec.Codec.{static_entry}
use Rattle.str0m_formats.specs.codec.CodecSpec.{IsStaticSpec, spec_at, is_spec_at, static_codec, static_spec}
use Rattle.str0m_formats.specs.declared.codec.Codec.{Codec}
use Rattle.str0m_formats.specs.declared.codec.TheConstants.{NAMED}
use Rattle.str0m_formats.specs.declared.codec.codec_spec.CodecSpec.{CodecSpec}
use Rattle.str0m_formats.specs.round.MatchScore.{same_codec}
use Rattle.str0m_values.proofs.LabelLaws.{label_bind_is}
use Rattle.str0m_values.proofs.WordsOfCases.{case_found_passes}

abbrev is_this_codec : Codec → Option Codec → Bool
is_this_codec codec None = false
is_this_codec codec (Some found) = same_codec found codec

this_codec_is : (codec : Codec) (o : Option Codec) → is_this_codec codec o ≡ true → o ≡ Some codec
this_codec_is codec o same = grind arith

static_own : (pt : ℕ) (spec : CodecSpec) → IsStaticSpec pt spec → (is_this_codec spec.codec (static_codec pt) ≡ true) × (leb pt 127 ≡ true)
static_own pt spec is = grind arith

static_entry_is : (pt : ℕ) (codec : Codec) (row : Option (ℕ × ℕ)) (spec : CodecSpec) → static_entry codec ≡ row → is_spec_at pt row ≡ true
    → option_map (λ row. spec_at codec row.1) row ≡ Some spec → IsStaticSpec pt spec
static_entry_is pt codec row spec is at e = grind arith

pub static_both : Reads IsStaticSpec static_spec
unfolding static_spec
static_both = record {
  sound = λ pt spec e.
      let codec = cuts_bind_some (static_codec pt) (λ codec. option_map (λ row. spec_at codec row.1) (static_entry codec)) spec e in
      static_entry_is pt codec.0 (static_entry codec.0) spec refl
      (case_found_passes (λ codec. is_spec_at pt (static_entry codec)) NAMED codec.0 codec.1) codec.2;
  complete = λ pt spec is.
      let said : spec_at spec.codec spec.clock_rate ≡ spec = rw (is.1, is.2) refl in
      label_bind_is (static_codec pt) spec.codec _ (Some spec) (this_codec_is spec.codec (static_codec pt) (static_own pt spec is).0)
      (ap (option_map (λ row. spec_at spec.codec row.1)) is.0 ∙ ap (λ (s : CodecSpec). Some s) said);
}

pub static_only : (pt : ℕ) (result : Option CodecSpec) → result ≡ static_spec pt → IsTheOnly (IsStaticSpec pt) result
static_only pt result e = only_read static_both pt result e

-- the only spec that a type stands for
pub static_is : (pt : ℕ) (result : Option CodecSpec) → IsTheOnly (IsStaticSpec pt) result → result ≡ static_spec pt
static_is pt None only = sym (cuts_reads_none static_both pt (λ spec is. let no : None ≡ Some spec = only.only spec is in absurd cc))
static_is pt (Some spec) only = sym (static_both.complete pt spec only.found)

pub static_needs_none : (pt : ℕ) → (is_some (static_spec pt) ≡ true) ↔ ((spec : CodecSpec) × IsStaticSpec pt spec)
static_needs_none pt = (there (static_spec pt) refl, λ needs. ap is_some (static_both.complete pt needs.0 needs.1))
  where
    there : (o : Option CodecSpec) → static_spec pt ≡ o → is_some o ≡ true → (spec : CodecSpec) × IsStaticSpec pt spec
    there None e some = absurd (false≢true some)
    there (Some spec) e some = (spec, static_both.sound pt spec e)

pub static_small : (pt : ℕ) (spec : CodecSpec) → static_spec pt ≡ Some spec → pt ≤ 127
static_small pt spec e = leb-true pt 127 (static_own pt spec (static_both.sound pt spec e)).1
