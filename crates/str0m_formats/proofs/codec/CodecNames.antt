-- The codec of a name is the one that its text reads as.
use Rattle.str0m_formats.proofs.Common.{rules, arith, ◌≡◌, ◌≢◌, ℕ, true, ◌⊎◌, List, map, ap, ◌∙◌, unwrap_or}
use Rattle.str0m_formats.proofs.Common.{to_ascii_lowercase, str_eq_ignore_ascii_case, bytes_eq-Decides}
use Rattle.str0m_formats.proofs.codec.CodecLookup.{codec_find_passes, codec_if_some_map, codec_case_at}
use Rattle.str0m_formats.specs.codec.Codec.{codec_text, codec_of, codec_printed_and_read, IsSameCodecText, IsReadAsCodec}
use Rattle.str0m_formats.specs.declared.codec.Codec.{Codec}
use Rattle.str0m_formats.specs.declared.codec.Codec.TheVariants.{Null, Unknown}
use Rattle.str0m_formats.specs.declared.codec.TheConstants.{NAMED}

-- the test of two texts says whether they are the same
pub same_codec_text : (s t : List ℕ) → str_eq_ignore_ascii_case s t ≡ true → IsSameCodecText s t
same_codec_text s t e = (bytes_eq-Decides (map to_ascii_lowercase s) (map to_ascii_lowercase t)).0 e

codec_is_unknown : (c : Codec) → (c ≡ Unknown) ⊎ (c ≢ Unknown)
codec_is_unknown c = grind arith

-- the codec of which this is the text in lower case
abbrev codec_of_low : List ℕ → Codec
codec_of_low low = unwrap_or (codec_case_at codec_text NAMED low) Unknown

-- no two codecs have the same text, and that of Null is not looked up
codec_at-text : (c : Codec) → codec_of_low (map to_ascii_lowercase (codec_text c)) ≡ codec_printed_and_read c
codec_at-text c = grind arith

codec_not_null : (c : Codec) → c ≢ Null → codec_printed_and_read c ≡ c
codec_not_null c other = grind arith

pub codec_read_as : (text : List ℕ) → IsReadAsCodec text (codec_of text)
unfolding codec_of
codec_read_as text = search (rules, codec_at-text, codec_not_null, codec_if_some_map, codec_find_passes, same_codec_text)

-- and a text reads as one codec
pub codec_read_only : (text : List ℕ) (codec : Codec) → IsReadAsCodec text codec → codec ≡ codec_of text
codec_read_only text codec h = grind (arith, codec_read_as text, codec_is_unknown codec, codec_is_unknown (codec_of text))

-- what is printed reads as itself, but for Null
pub codec_read_printed : (text : List ℕ) (codec : Codec) → codec ≡ codec_of text → (c : Codec) → text ≡ codec_text c
    → codec ≡ codec_printed_and_read c
unfolding codec_of
codec_read_printed text codec h c e = h ∙ ap (λ t. codec_of_low (map to_ascii_lowercase t)) e ∙ codec_at-text c
