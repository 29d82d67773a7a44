-- Reading of keys and values as functions.
use Rattle.std.specs.Char.{digit_value}
use Rattle.std.specs.List.{slice_split}
use Rattle.std.specs.Prelude.{ℕ, ◌==◌, ◌^◌, ◌&&◌, Bool, true, List, [], ◌∷◌, map, Option, Some, None, codes, option_map, unwrap_or, find, nat_le, nat_lt, bit_or, bytes_eq}
use Rattle.std.specs.Str.{str_eq_ignore_ascii_case, trim}
use Rattle.std.specs.Str.Parse.{digits_value, without_leading_plus}
use Rattle.str0m_formats.specs.Prelude.{is_rest, num, when, ◌<|>◌, ◌>>=◌}
use Rattle.str0m_formats.specs.declared.format.format_key.FormatKey.{FormatKey}
use Rattle.str0m_formats.specs.declared.format.format_key.FormatKey.TheVariants.{Apt}
use Rattle.str0m_formats.specs.declared.format.format_key.TheConstants.{KEYS}
use Rattle.str0m_formats.specs.declared.format.format_param.FormatParam.{FormatParam}
use Rattle.str0m_formats.specs.declared.format.format_param.FormatParam.TheVariants.{TelephoneEvents, Unknown}
use Rattle.str0m_formats.specs.format.FormatKey.{key_text}
use Rattle.str0m_formats.specs.format.FormatParam.{Kind, flag, number, hex, modes, exactly, anything, HeldParamValue, kind, keyed}

abbrev pub all_param_digits : ℕ → List ℕ → Bool
all_param_digits radix [] = true
all_param_digits radix (c ∷ cs) = nat_lt (digit_value c) radix && all_param_digits radix cs

-- the number that std reads in this radix, where it is at most limit
unfoldable pub param_number_read : ℕ → ℕ → List ℕ → Option ℕ
param_number_read radix limit text = let digits = without_leading_plus text in
    when ((is_rest digits && all_param_digits radix digits) && nat_le (digits_value radix digits) limit) (digits_value radix digits)

unfoldable pub param_hex_read : List ℕ → Option ℕ
param_hex_read text = param_number_read 16 4294967295 text <|> num 4294967295 text

-- the mask with the bits of the modes that the pieces name
abbrev pub modes_from : ℕ → List (List ℕ) → Option ℕ
modes_from mask [] = Some mask
modes_from mask (piece ∷ pieces) = num 8 (trim piece) >>= λ mode. modes_from (bit_or mask (2 ^ mode)) pieces

unfoldable pub modes_read : List ℕ → Option ℕ
modes_read text = modes_from 0 (slice_split (λ b. b == 44) text)

abbrev pub keys : List FormatKey
keys = map (λ it. it.0) KEYS

unfoldable pub key_read : List ℕ → Option FormatKey
key_read text = find (λ key. str_eq_ignore_ascii_case text (key_text key)) keys

abbrev pub is_param_flag_one : List ℕ → Bool
is_param_flag_one value = bytes_eq value (codes "1")

-- the value of a kind
abbrev pub kind_read : (kind : Kind) → List ℕ → Option (HeldParamValue kind)
kind_read flag text = Some (is_param_flag_one text)
kind_read (number limit) text = num limit text
kind_read hex text = param_hex_read text
kind_read modes text = modes_read text
kind_read (exactly own) text = when (bytes_eq text own) (tt {0})
kind_read anything text = Some (tt {0})

-- the parameter of a value after a key, by cases, so that it computes at each key and at no variable
abbrev param_read : FormatKey → List ℕ → Option FormatParam
param_read key text = option_map (keyed key) (kind_read (kind key) text)

abbrev pub param_value_read : FormatKey → List ℕ → Option FormatParam
param_value_read Apt text = param_read Apt text
param_value_read key text = param_read key text

-- what a key and its value read as
unfoldable pub param_of : List ℕ × List ℕ → FormatParam
param_of pair = unwrap_or (key_read pair.0 >>= λ key. param_value_read key pair.1) Unknown

-- what the last event of a range stands for
abbrev pub bare_param : Option ℕ → FormatParam
bare_param None = Unknown
bare_param (Some n) = TelephoneEvents n
