-- Attributes that tell by what they hold that their lines are read as what they say.
use Rattle.exchange.proofs.Common.{◌≡◌, ◌≢◌, ◌≤◌, ◌<◌, ◌^◌, ◌∷◌, ℕ, Bool, true, List, [], Option, None, Some, All, IfSome, refl, sym}
use Rattle.exchange.proofs.Common.{subst, arith, Alike, FormatParam, MediaAttribute, RtcpFb, length, ◌&&◌}
use Rattle.exchange.specs.state.LineByLine.{IsLineReadAlike, is_line_text, IsParamTold}
use Rattle.std.proofs.lemmas.Bool.{and_parts, ltb-true}
use Rattle.std.proofs.lemmas.List.Elements.{recursion_from_All}
use Rattle.std.specs.List.{AllByRecursion}
use Rattle.str0m_formats.proofs.{IsKeyed}
use Rattle.str0m_formats.specs.declared.codec.Codec.TheVariants.{Null}
use Rattle.str0m_sdp.specs.attribute.Attribute.{media_attribute_text}
use Rattle.str0m_sdp.specs.declared.attribute.MediaAttribute.TheVariants as media
use Rattle.str0m_sdp.specs.declared.attribute.rtp_map.RtpMap.{RtpMap as Mapping}
use Rattle.str0m_sdp.specs.declared.attribute.setup.Setup.{Setup as Role}
use Rattle.str0m_signal.proofs.{feedback_printed, is_media_word, media_extension_read, media_mid_read, media_options_read}
use Rattle.str0m_signal.proofs.{media_password_read, media_role_read, media_stream_read, media_ufrag_read, media_word_read}
use Rattle.str0m_signal.proofs.{named_mapping_read_back, IsMediaText, keyed_values_read, media_hash_read, media_port_read}
use Rattle.str0m_signal.proofs.{media_size_read}
use Rattle.str0m_signal.specs.Prelude.{is_rest, lacks}
use Rattle.str0m_signal.specs.back.Writable.{IsReadBackLine}
use Rattle.str0m_signal.specs.form.MediaAttribute.{IsMediaLine}
use Rattle.str0m_values.proofs.CutLaws.{lacks_cut_from}
use Rattle.str0m_values.specs.declared.extension.Extension.{Extension}

line_itself_told : (attr : MediaAttribute) → IsReadBackLine IsMediaLine (media_attribute_text attr) attr → IsLineReadAlike attr
line_itself_told attr read = (attr, read, alike attr)
  where
    alike : (attr : MediaAttribute) → Alike attr attr
    alike attr = grind arith

pub line_mapping_told : (pt : ℕ) (map : Mapping) → pt ≤ 127 → 0 < map.clock_rate → map.clock_rate < 2 ^ 32
    → IfSome map.channels (λ n. n < 2 ^ 8) → map.codec ≢ Null → IsLineReadAlike (media.RtpMap pt map)
line_mapping_told pt map small positive clock channels named =
    line_itself_told (media.RtpMap pt map)
    (named_mapping_read_back pt map small (record { clock = (positive, omega arith); channels = few map.channels channels }) named)
  where
    few : (o : Option ℕ) → IfSome o (λ n. n < 2 ^ 8) → IfSome o (λ n. n ≤ 255)
    few None h = tt
    few (Some n) h = omega arith

line_text_is : (text : List ℕ) → is_line_text text ≡ true → IsMediaText text
line_text_is text e =
    let whole = and_parts (is_rest text) (lacks 10 text && lacks 13 text) e in
    let ends = and_parts (lacks 10 text) (lacks 13 text) whole.1 in
    (ltb-true 0 (length text) whole.0, (lacks_cut_from 10 text ends.0, lacks_cut_from 13 text ends.1))

pub line_feedback_told : (pt : ℕ) (value : List ℕ) → pt ≤ 127 → is_line_text value ≡ true → IsLineReadAlike (RtcpFb pt value)
line_feedback_told pt value small e =
    let text = line_text_is value e in
    line_itself_told (RtcpFb pt value) (feedback_printed pt value small text.0 text.1)

pub line_extension_told : (id : ℕ) (ext : Extension) → id < 2 ^ 8 → ext.serialized ≡ true
    → is_line_text ext.uri && lacks 32 ext.uri ≡ true → IsLineReadAlike (media.ExtMap id ext)
line_extension_told id ext small said e =
    let parts = and_parts (is_line_text ext.uri) (lacks 32 ext.uri) e in
    let text = line_text_is ext.uri parts.0 in
    subst (λ (b : Bool). IsLineReadAlike (media.ExtMap id (record { uri = ext.uri; serialized = b }))) (sym said)
    (line_itself_told (media.ExtMap id (record { uri = ext.uri; serialized = true }))
    (media_extension_read id ext.uri (omega arith) text.0 (lacks_cut_from 32 ext.uri parts.1) text.1))

pub line_ufrag_told : (text : List ℕ) → is_line_text text ≡ true → IsLineReadAlike (media.IceUfrag text)
line_ufrag_told text e =
    let own = line_text_is text e in
    line_itself_told (media.IceUfrag text) (media_ufrag_read text own)

pub line_password_told : (text : List ℕ) → is_line_text text ≡ true → IsLineReadAlike (media.IcePwd text)
line_password_told text e =
    let own = line_text_is text e in
    line_itself_told (media.IcePwd text) (media_password_read text own)

pub line_options_told : (text : List ℕ) → is_line_text text ≡ true → IsLineReadAlike (media.IceOptions text)
line_options_told text e =
    let own = line_text_is text e in
    line_itself_told (media.IceOptions text) (media_options_read text own)

pub line_mid_told : (mid : List ℕ) → length mid ≤ 16 → is_line_text mid ≡ true → IsLineReadAlike (media.Mid mid)
line_mid_told mid short e =
    let own = line_text_is mid e in
    line_itself_told (media.Mid mid) (media_mid_read mid short own)

pub line_stream_told : (stream track : List ℕ) → is_line_text stream && lacks 32 stream ≡ true → is_line_text track ≡ true
    → IsLineReadAlike (media.Msid (record { stream_id = stream; track_id = track }))
line_stream_told stream track e f =
    let parts = and_parts (is_line_text stream) (lacks 32 stream) e in
    let own = line_text_is stream parts.0 in
    line_itself_told (media.Msid (record { stream_id = stream; track_id = track }))
    (media_stream_read stream track own (lacks_cut_from 32 stream parts.1) (line_text_is track f))

pub line_role_told : (role : Role) → IsLineReadAlike (media.Setup role)
line_role_told role = line_itself_told (media.Setup role) (media_role_read role)

line_params_told : (pt : ℕ) (values : List FormatParam) → pt ≤ 127 → values ≢ [] → AllByRecursion IsKeyed values
    → IsLineReadAlike (media.Fmtp pt values)
line_params_told pt [] small some keyed = absurd (some refl)
line_params_told pt (v ∷ vs) small some keyed = line_itself_told (media.Fmtp pt (v ∷ vs)) (keyed_values_read pt v vs small keyed)

pub line_format_told : (pt : ℕ) (values : List FormatParam) → pt ≤ 127 → values ≢ [] → All IsParamTold values
    → IsLineReadAlike (media.Fmtp pt values)
line_format_told pt values small some told = line_params_told pt values small some (recursion_from_All IsKeyed values told)

line_hash_told : (name bytes : List ℕ) → is_line_text name && lacks 32 name ≡ true → bytes ≢ [] → AllByRecursion (λ byte. byte < 256) bytes
    → IsLineReadAlike (media.Fingerprint (record { hash_func = name; bytes = bytes }))
line_hash_told name [] e some small = absurd (some refl)
line_hash_told name (byte ∷ bytes) e some small =
    let parts = and_parts (is_line_text name) (lacks 32 name) e in
    line_itself_told (media.Fingerprint (record { hash_func = name; bytes = byte ∷ bytes }))
    (media_hash_read name byte bytes (line_text_is name parts.0) (lacks_cut_from 32 name parts.1) small)

pub line_fingerprint_told : (name bytes : List ℕ) → is_line_text name && lacks 32 name ≡ true → bytes ≢ [] → All (λ byte. byte < 256) bytes
    → IsLineReadAlike (media.Fingerprint (record { hash_func = name; bytes = bytes }))
line_fingerprint_told name bytes e some small = line_hash_told name bytes e some (recursion_from_All (λ byte. byte < 256) bytes small)

pub line_port_told : (port : ℕ) → port < 2 ^ 16 → IsLineReadAlike (media.SctpPort port)
line_port_told port small = line_itself_told (media.SctpPort port) (media_port_read port (omega arith))

pub line_size_told : (size : ℕ) → size < 2 ^ 64 → IsLineReadAlike (media.MaxMessageSize size)
line_size_told size small = line_itself_told (media.MaxMessageSize size) (media_size_read size (omega arith))

pub line_word_told : (attr : MediaAttribute) → is_media_word attr ≡ true → IsLineReadAlike attr
line_word_told attr word = line_itself_told attr (media_word_read attr word)
