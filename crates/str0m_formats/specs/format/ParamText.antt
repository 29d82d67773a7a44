-- How the value after a key prints, as the printer takes it.
use Rattle.std.specs.Prelude.{ℕ, List, [], ◌++◌, codes, Option, Some, None, decimal}
use Rattle.str0m_formats.specs.declared.format.format_key.FormatKey.{FormatKey}
use Rattle.str0m_formats.specs.declared.format.param_text.Value.{Value}
use Rattle.str0m_formats.specs.declared.format.param_text.Value.TheVariants.{Flag, Number, SixDigits, Modes}
use Rattle.str0m_formats.specs.format.FormatKey.{key_text}
use Rattle.str0m_formats.specs.format.FormatParam.{param_flag_text, param_six_digits, mode_list}

abbrev pub shown_param_value : Value → List ℕ
shown_param_value (Flag b) = param_flag_text b
shown_param_value (Number n) = decimal n
shown_param_value (SixDigits n) = param_six_digits n
shown_param_value (Modes mask) = mode_list mask

-- what a key and its value print; nothing where there is none
abbrev pub keyed_text : Option (FormatKey × Value) → List ℕ
keyed_text None = []
keyed_text (Some (key, value)) = key_text key ++ codes "=" ++ shown_param_value value
