-- How calls change a configuration.
use Rattle.c_calls.specs.Prelude.{Codec, CodecConfig, FormatParams, IsFormatOfLine, PayloadParams, row_codec_numbered, default_rows, enabled_rows, new_row, row_number_unless}
use Rattle.std.specs.Prelude.{◌≡◌, ◌⊎◌, ◌++◌, ◌∷◌, ℕ, Bool, false, List, [], Some, None}

-- the default rows of a codec, without RED
abbrev pub default_rows_of : Codec → List PayloadParams
default_rows_of codec = default_rows codec false

-- no codec that has default rows has this number
abbrev pub HasNoDefaultRows : ℕ → Type 0
HasNoDefaultRows number = (codec : Codec) → row_codec_numbered number ≡ Some codec → default_rows_of codec ≡ []

-- the rows of the codec of a number are taken out, and its default rows come last where it is enabled
abbrev pub IsEnabledInConfig : ℕ → Bool → Bool → CodecConfig → CodecConfig → Type 0
IsEnabledInConfig number enabled use_red before after =
    (codec : Codec) × (row_codec_numbered number ≡ Some codec)
    × (after.params.items ≡ enabled_rows codec enabled use_red before.params.items) × (after.red_distances ≡ before.red_distances)

-- no row has such a codec and clock rate
abbrev pub IsNoConfigRow : ℕ → ℕ → Type 0
IsNoConfigRow codec clock_rate = (row_codec_numbered codec ≡ None) ⊎ (clock_rate ≡ 0)

-- a row is added at the end: of these types, of this codec, clock rate and channels, and of the format that the line says
abbrev pub IsRowAdded : ℕ → ℕ → ℕ × ℕ × ℕ → List ℕ → CodecConfig → CodecConfig → Type 0
IsRowAdded pt rtx kind line before after =
    (codec : Codec) × (row_codec_numbered kind.0 ≡ Some codec) × (format : FormatParams) × IsFormatOfLine line format
    × (after.params.items ≡ before.params.items ++ new_row pt (row_number_unless 255 rtx)
    (record { codec = codec; clock_rate = kind.1; channels = row_number_unless 0 kind.2; format = format }) ∷ [])
    × (after.red_distances ≡ before.red_distances)
