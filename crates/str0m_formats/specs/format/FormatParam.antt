-- The parameters of formats: one table of keys, by which a key and its value are read and printed.
use Rattle.std.specs.Borrow.{Bor}
use Rattle.std.specs.Fmt.{digits}
use Rattle.std.specs.List.{slice_split, join_with_byte, range_with_len}
use Rattle.std.specs.Prelude.{◌≡◌, ◌↔◌, ◌≤◌, ◌<◌, ◌^◌, ◌-◌, ◌==◌, ℕ, Bool, true, false, not, List, [], ◌∷◌, ◌++◌, length, replicate, map, filter, codes, IsTrue, IsBitSet, Any, All, Option, Some, None, MatchOption, decimal, bit_and}
use Rattle.std.specs.Str.{trim}
use Rattle.std.specs.Str.Parse.{IsNumeral, digits_value}
use Rattle.str0m_formats.specs.Prelude.{FirstFit, IsNum, IsNumber}
use Rattle.str0m_formats.specs.codec.Codec.{IsSameCodecText}
use Rattle.str0m_formats.specs.declared.format.format_key.FormatKey.{FormatKey}
use Rattle.str0m_formats.specs.declared.format.format_key.FormatKey.TheVariants as key
use Rattle.str0m_formats.specs.declared.format.format_param.FormatParam.{FormatParam}
use Rattle.str0m_formats.specs.declared.format.format_param.FormatParam.TheVariants.{MinPTime, Stereo, SpropStereo, UseInbandFec, UseDtx, LevelAsymmetryAllowed, PacketizationMode, ProfileLevelId, ProfileId, Profile, LevelIdx, Tier, H265ProfileTierLevel, H266ProfileTierLevel, SpropMaxDonDiff, TelephoneEvents, BareRange, BarePtList, OctetAlign, ModeSet, AmrWbUnsupported, Apt, Red, Unknown}
use Rattle.str0m_formats.specs.format.FormatKey.{key_text}
use Rattle.str0m_values.specs.H265 as h265
use Rattle.str0m_values.specs.H266 as h266

-- what stands after a key: a flag, a number up to a limit, a number that prints in hexadecimal, a set of modes, one text
-- alone, or anything
pub data Kind : Type 0 where
  flag : Kind
  number : (limit : ℕ) → Kind
  hex : Kind
  modes : Kind
  exactly : (text : List ℕ) → Kind
  anything : Kind

abbrev pub is_flag : Kind → Bool
is_flag flag = true
is_flag kind = false

-- what a value of the kind holds
abbrev pub HeldParamValue : Kind → Type 0
HeldParamValue flag = Bool
HeldParamValue (exactly text) = Unit {0}
HeldParamValue anything = Unit {0}
HeldParamValue kind = ℕ

-- The table of the keys: the kind of each one's values, and the parameter that holds such a value. The last four ask for what
-- isn't there of AMR-WB (RFC 4867, section 8.2).
abbrev pub key_entry : FormatKey → (kind : Kind) × (HeldParamValue kind → FormatParam)
key_entry key.MinPTime = (number 255, MinPTime)
key_entry key.Stereo = (flag, Stereo)
key_entry key.SpropStereo = (flag, SpropStereo)
key_entry key.UseInbandFec = (flag, UseInbandFec)
key_entry key.UseDtx = (flag, UseDtx)
key_entry key.LevelAsymmetryAllowed = (flag, LevelAsymmetryAllowed)
key_entry key.PacketizationMode = (number 255, PacketizationMode)
key_entry key.ProfileLevelId = (hex, ProfileLevelId)
key_entry key.ProfileId = (number 4294967295, ProfileId)
key_entry key.Profile = (number 255, Profile)
key_entry key.LevelIdx = (number 255, LevelIdx)
key_entry key.Tier = (number 255, Tier)
key_entry key.SpropMaxDonDiff = (number 32767, SpropMaxDonDiff)
key_entry key.OctetAlign = (flag, OctetAlign)
key_entry key.ModeSet = (modes, ModeSet)
key_entry key.Apt = (number 255, Apt)
key_entry key.Crc = (exactly (codes "1"), λ x. AmrWbUnsupported)
key_entry key.RobustSorting = (exactly (codes "1"), λ x. AmrWbUnsupported)
key_entry key.ModeChangePeriod = (exactly (codes "2"), λ x. AmrWbUnsupported)
key_entry key.Interleaving = (anything, λ x. AmrWbUnsupported)

abbrev pub kind : FormatKey → Kind
kind key = (key_entry key).0

abbrev pub keyed : (key : FormatKey) → HeldParamValue (kind key) → FormatParam
keyed key = (key_entry key).1

-- the key and the value of each parameter that is written `key=value`
abbrev pub entry : FormatParam → Option ((key : FormatKey) × HeldParamValue (kind key))
entry (MinPTime n) = Some (key.MinPTime, n)
entry (Stereo b) = Some (key.Stereo, b)
entry (SpropStereo b) = Some (key.SpropStereo, b)
entry (UseInbandFec b) = Some (key.UseInbandFec, b)
entry (UseDtx b) = Some (key.UseDtx, b)
entry (LevelAsymmetryAllowed b) = Some (key.LevelAsymmetryAllowed, b)
entry (PacketizationMode n) = Some (key.PacketizationMode, n)
entry (ProfileLevelId n) = Some (key.ProfileLevelId, n)
entry (ProfileId n) = Some (key.ProfileId, n)
entry (Profile n) = Some (key.Profile, n)
entry (LevelIdx n) = Some (key.LevelIdx, n)
entry (Tier n) = Some (key.Tier, n)
entry (SpropMaxDonDiff n) = Some (key.SpropMaxDonDiff, n)
entry (OctetAlign b) = Some (key.OctetAlign, b)
entry (ModeSet mask) = Some (key.ModeSet, mask)
entry (Apt pt) = Some (key.Apt, pt)
entry _ = None

-- ---- how values read

-- the number in hexadecimal, or in decimal where the text is none in hexadecimal
abbrev pub IsParamHexElseDecimal : List ℕ → ℕ → Type 0
IsParamHexElseDecimal = FirstFit (IsNumber 16 4294967295) (IsNum 4294967295)

-- the piece is the number of a mode, up to white space around it
abbrev pub IsMode : List ℕ → ℕ → Type 0
IsMode piece mode = IsNum 8 (trim piece) mode

-- every piece names a mode, and the mask has the bits of these modes, and no other bits
pub record IsMask (pieces : List (List ℕ)) (mask : ℕ) : Type 0 where
  pub modes : All (λ piece. (mode : ℕ) × IsMode piece mode) pieces
  pub bits : (mode : ℕ) → IsBitSet mask mode ↔ Any (λ piece. IsMode piece mode) pieces

-- the text names the modes of the mask, parted by commas
unfoldable pub IsModeSet : List ℕ → ℕ → Type 0
IsModeSet text mask = IsMask (slice_split (λ b. b == 44) text) mask

-- how each value reads: a flag is true exactly for `1`
abbrev pub ReadsKind : (kind : Kind) → List ℕ → HeldParamValue kind → Type 0
ReadsKind flag text b = IsTrue b ↔ (text ≡ codes "1")
ReadsKind (number limit) text n = IsNum limit text n
ReadsKind hex text n = IsParamHexElseDecimal text n
ReadsKind modes text mask = IsModeSet text mask
ReadsKind (exactly own) text x = text ≡ own
ReadsKind anything text x = Unit {0}

-- the value after the key spells the parameter
abbrev pub ParamHoldsValue : FormatKey → List ℕ → FormatParam → Type 0
ParamHoldsValue key text param = (x : HeldParamValue (kind key)) × (param ≡ keyed key x) × ReadsKind (kind key) text x

-- the key and the value spell the parameter
abbrev pub SpellsParam : List ℕ × List ℕ → FormatParam → Type 0
SpellsParam pair param = (key : FormatKey) × IsSameCodecText pair.0 (key_text key) × ParamHoldsValue key pair.1 param

abbrev pub IsUnknownParam : {A : Type 0} → A → FormatParam → Type 0
IsUnknownParam text param = param ≡ Unknown

-- what a key and its value read as: the parameter that they spell, else Unknown
abbrev pub IsParsedParam : List ℕ × List ℕ → FormatParam → Type 0
IsParsedParam = FirstFit SpellsParam IsUnknownParam

-- each pair, in order, reads as the parameter in its place
abbrev pub AreParsedParams : List (List ℕ × List ℕ) → List FormatParam → Type 0
AreParsedParams [] [] = Unit {0}
AreParsedParams (pair ∷ pairs) (param ∷ params) = IsParsedParam pair param × AreParsedParams pairs params
AreParsedParams _ _ = ⊥

-- pairs of texts without where they lie in memory
abbrev pub pair_texts : List (Bor (List ℕ) × Bor (List ℕ)) → List (List ℕ × List ℕ)
pair_texts pairs = map (λ pair. (pair.0.now, pair.1.now)) pairs

-- ---- events (RFC 4733, section 2.4)

-- the text is the range from 0 up to the event, written in digits alone
pub record IsEventRange (text : List ℕ) (event : ℕ) : Type 0 where
  pub range : (end : List ℕ) × (text ≡ codes "0-" ++ end) × IsNumeral 10 end × (digits_value 10 end ≡ event)
  pub fits : event ≤ 255

abbrev pub IsEvents : List ℕ → FormatParam → Type 0
IsEvents text param = (n : ℕ) × (param ≡ TelephoneEvents n) × IsEventRange text n

-- what a value without a key reads as: a range of events, else Unknown
abbrev pub IsBareParam : List ℕ → FormatParam → Type 0
IsBareParam = FirstFit IsEvents IsUnknownParam

-- ---- how parameters print

abbrev pub param_flag_text : Bool → List ℕ
param_flag_text true = codes "1"
param_flag_text false = codes "0"

-- lower-case hexadecimal, with zeros in front up to six digits
abbrev pub param_six_digits : ℕ → List ℕ
param_six_digits n = replicate (6 - length (digits 16 false n)) 48 ++ digits 16 false n

-- the character that parts a text from one before it, where there is one
abbrev pub param_part_if : ℕ → Bool → List ℕ
param_part_if c true = c ∷ []
param_part_if c false = []

-- the modes of a mask, ascending, parted by commas
abbrev pub mode_list : ℕ → List ℕ
mode_list mask = join_with_byte 44 (map decimal (filter (λ mode. not (bit_and mask (2 ^ mode) == 0)) (range_with_len 0 9)))

-- how each value prints
abbrev pub param_value_text : (kind : Kind) → HeldParamValue kind → List ℕ
param_value_text flag b = param_flag_text b
param_value_text (number limit) n = decimal n
param_value_text hex n = param_six_digits n
param_value_text modes mask = mode_list mask
param_value_text kind x = []

-- which values read back as they print
abbrev pub IsParamInRange : (kind : Kind) → HeldParamValue kind → Type 0
IsParamInRange flag b = Unit {0}
IsParamInRange (number limit) n = n ≤ limit
IsParamInRange hex n = n ≤ 4294967295
IsParamInRange modes mask = (0 < mask) × (mask ≤ 511)
IsParamInRange kind x = ⊥

-- the key and the value are what the parameter prints
abbrev pub IsPrintedParam : FormatParam → List ℕ × List ℕ → Type 0
IsPrintedParam param pair =
    MatchOption (entry param) ⊥ (λ e. (pair.0 ≡ key_text e.0) × (pair.1 ≡ param_value_text (kind e.0) e.1) × IsParamInRange (kind e.0) e.1)

abbrev pub triple_text : ℕ → ℕ → ℕ → List ℕ
triple_text profile tier level = codes "profile-id=" ++ (decimal profile ++ (codes ";tier-flag=" ++ (decimal tier ++ (codes ";level-id=" ++ decimal level))))

abbrev pub entry_text : Option ((key : FormatKey) × HeldParamValue (kind key)) → List ℕ
entry_text None = []
entry_text (Some e) = key_text e.0 ++ codes "=" ++ param_value_text (kind e.0) e.1

-- what a parameter prints: `key=value` where the table has it
abbrev pub param_text : FormatParam → List ℕ
param_text (H265ProfileTierLevel t) = triple_text (h265.profile_id t.profile) (h265.tier_flag t.tier) (h265.level_id t.level)
param_text (H266ProfileTierLevel t) = triple_text (h266.profile_id t.profile) (h266.tier_flag t.tier) (h266.level_id t.level)
param_text (TelephoneEvents n) = codes "0-" ++ decimal n
param_text (BareRange n) = codes "0-" ++ decimal n
param_text (BarePtList pt) = decimal pt ++ codes "/" ++ decimal pt
param_text (Red pt) = decimal pt ++ codes "/" ++ decimal pt
param_text param = entry_text (entry param)
