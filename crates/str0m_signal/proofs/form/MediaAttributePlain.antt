-- Attributes whose kind and values tell that their lines are read as what they say.
use Rattle.str0m_sdp.specs.declared.attribute.MediaAttribute.TheVariants as media
use Rattle.str0m_sdp.specs.declared.attribute.setup.Setup.{Setup as Role}
use Rattle.str0m_sdp.specs.declared.label.TheConstants as label
use Rattle.str0m_signal.proofs.Common.{◌≡◌, ◌≤◌, ℕ, Bool, true, false, List, [], ◌++◌, refl, sym, inl, inr, arith, lit<, lit≤}
use Rattle.str0m_signal.proofs.Common.{codes, decimal, append-nil, false≢true, IsNum, IsRest, Lacks, media_attribute_text, media_words}
use Rattle.str0m_signal.proofs.Common.{AllByRecursion, IsCharBoundary-end, IsLongestShortText, MediaAttribute, PartedAddress, ◌/◌, ◌%◌, ◌<◌}
use Rattle.str0m_signal.proofs.Common.{◌∷◌, attribute_line}
use Rattle.str0m_signal.proofs.Common.{digit_glyph, fingerprint_text, flat_map, hash_glyph_value, hex_pair, length, pairs_text, setup_text}
use Rattle.str0m_signal.proofs.line.AttributesPrinted.{HoldsNoEnd, no_ends, no_end, attribute_num_is, attribute_decimal_lacks}
use Rattle.str0m_signal.proofs.line.AttributesPrinted.{attribute_printed, decimal_no_end}
use Rattle.str0m_signal.proofs.line.WordsAgain.{word_glyph_lacks}
use Rattle.str0m_signal.specs.back.Writable.{IsReadBackLine}
use Rattle.str0m_signal.specs.form.FormTable.{any_form, any_word_form, texts}
use Rattle.str0m_signal.specs.form.Forms.{Behind, TwoFormParts, IsBeforeDroppedFormTail, IsText}
use Rattle.str0m_signal.specs.form.MediaAttribute.{IsMediaLine, media_forms, media_texts}
use Rattle.str0m_signal.specs.line.Words.{IsHexPair}
use Rattle.str0m_values.specs.declared.direction_label.TheConstants as way_label
use Rattle.str0m_values.specs.declared.fingerprint.Fingerprint.{Fingerprint as TheFingerprint}

-- ---- words alone

-- an attribute of the table of words
abbrev pub is_media_word : MediaAttribute → Bool
is_media_word media.RecvOnly = true
is_media_word media.SendRecv = true
is_media_word media.SendOnly = true
is_media_word media.Inactive = true
is_media_word media.RtcpMux = true
is_media_word media.RtcpMuxOnly = true
is_media_word media.RtcpRsize = true
is_media_word media.EndOfCandidates = true
is_media_word _ = false

media_word_form : (text : List ℕ) (attr : MediaAttribute) → (any_word_form media_words).Is text attr → (any_form media_forms).Is text attr
media_word_form text attr h =
    inr (inr (inr (inr (inr (inr (inr (inr (inr (inr (inr (inr (inr (inr (inr (inr (inr (inr (inl h))))))))))))))))))

pub media_word_read : (attr : MediaAttribute) → is_media_word attr ≡ true → IsReadBackLine IsMediaLine (media_attribute_text attr) attr
media_word_read media.RecvOnly e =
    attribute_printed way_label.RECV_ONLY.now media.RecvOnly (no_end way_label.RECV_ONLY.now refl refl)
    (media_word_form _ _ (inl (refl, refl)))
media_word_read media.SendRecv e =
    attribute_printed way_label.SEND_RECV.now media.SendRecv (no_end way_label.SEND_RECV.now refl refl)
    (media_word_form _ _ (inr (inl (refl, refl))))
media_word_read media.SendOnly e =
    attribute_printed way_label.SEND_ONLY.now media.SendOnly (no_end way_label.SEND_ONLY.now refl refl)
    (media_word_form _ _ (inr (inr (inl (refl, refl)))))
media_word_read media.Inactive e =
    attribute_printed way_label.INACTIVE.now media.Inactive (no_end way_label.INACTIVE.now refl refl)
    (media_word_form _ _ (inr (inr (inr (inl (refl, refl))))))
media_word_read media.RtcpMux e =
    attribute_printed label.RTCP_MUX.now media.RtcpMux (no_end label.RTCP_MUX.now refl refl)
    (media_word_form _ _ (inr (inr (inr (inr (inl (refl, refl)))))))
media_word_read media.RtcpMuxOnly e =
    attribute_printed label.RTCP_MUX_ONLY.now media.RtcpMuxOnly (no_end label.RTCP_MUX_ONLY.now refl refl)
    (media_word_form _ _ (inr (inr (inr (inr (inr (inl (refl, refl))))))))
media_word_read media.RtcpRsize e =
    attribute_printed label.RTCP_RSIZE.now media.RtcpRsize (no_end label.RTCP_RSIZE.now refl refl)
    (media_word_form _ _ (inr (inr (inr (inr (inr (inr (inl (refl, refl)))))))))
media_word_read media.EndOfCandidates e =
    attribute_printed label.END_OF_CANDIDATES.now media.EndOfCandidates (no_end label.END_OF_CANDIDATES.now refl refl)
    (media_word_form _ _ (inr (inr (inr (inr (inr (inr (inr (inl (refl, refl))))))))))
media_word_read _ e = absurd (false≢true e)

-- ---- header extensions

-- a number of eight bits, and a URI without a space
pub media_extension_read : (id : ℕ) (uri : List ℕ) → id ≤ 255 → IsRest uri → Lacks 32 uri → HoldsNoEnd uri
    → IsReadBackLine IsMediaLine (media_attribute_text (media.ExtMap id (record { uri = uri; serialized = true })))
    (media.ExtMap id (record { uri = uri; serialized = true }))
media_extension_read id uri small filled no_space quiet =
    attribute_printed (label.EXTMAP.now ++ (decimal id ++ (codes " " ++ uri))) (media.ExtMap id (record { uri = uri; serialized = true }))
    (no_ends label.EXTMAP.now _ (no_end label.EXTMAP.now refl refl)
    (no_ends (decimal id) _ (decimal_no_end id (omega arith)) (no_ends (codes " ") uri (no_end (codes " ") refl refl) quiet)))
    (inr (inr (inr (inl ((id, uri), is, refl)))))
  where
    is : Behind label.EXTMAP.now (TwoFormParts 32 (IsBeforeDroppedFormTail 47 (IsNum 255)) (IsBeforeDroppedFormTail 32 IsText))
        (label.EXTMAP.now ++ (decimal id ++ (codes " " ++ uri))) (id, uri)
    is = (
      decimal id ++ (codes " " ++ uri),
      refl,
      (
        decimal id,
        uri,
        refl,
        attribute_decimal_lacks 32 id (lit≤ tt) (omega arith),
        (
          decimal id,
          [],
          sym (append-nil (decimal id)),
          attribute_decimal_lacks 47 id (lit≤ tt) (omega arith),
          attribute_num_is 255 id small (lit< tt),
          inl refl,
        ),
        (uri, [], sym (append-nil uri), no_space, (filled, refl), inl refl),
      ),
    )

-- ---- texts behind a label

-- one or more characters, and no end of a line among them
abbrev pub IsMediaText : List ℕ → Type 0
IsMediaText text = IsRest text × HoldsNoEnd text

media_text_line : (front text : List ℕ) (attr : MediaAttribute) → HoldsNoEnd front → HoldsNoEnd text
    → (any_form media_forms).Is (front ++ text) attr
    → IsReadBackLine IsMediaLine (attribute_line (front ++ text)) attr
media_text_line front text attr quiet own form = attribute_printed (front ++ text) attr (no_ends front text quiet own) form

-- the credentials of ICE and its options
media_ice_form : (text : List ℕ) (attr : MediaAttribute) → (texts media_texts).Is text attr → (any_form media_forms).Is text attr
media_ice_form text attr h = inr (inr (inr (inr (inr (inr (inr (inr (inl h))))))))

pub media_ufrag_read : (text : List ℕ) → IsMediaText text
    → IsReadBackLine IsMediaLine (media_attribute_text (media.IceUfrag text)) (media.IceUfrag text)
media_ufrag_read text own =
    media_text_line label.ICE_UFRAG.now text (media.IceUfrag text) (no_end label.ICE_UFRAG.now refl refl) own.1
    (media_ice_form _ _ (inl (text, (text, refl, (own.0, refl)), refl)))

pub media_password_read : (text : List ℕ) → IsMediaText text
    → IsReadBackLine IsMediaLine (media_attribute_text (media.IcePwd text)) (media.IcePwd text)
media_password_read text own =
    media_text_line label.ICE_PWD.now text (media.IcePwd text) (no_end label.ICE_PWD.now refl refl) own.1
    (media_ice_form _ _ (inr (inl (text, (text, refl, (own.0, refl)), refl))))

pub media_options_read : (text : List ℕ) → IsMediaText text
    → IsReadBackLine IsMediaLine (media_attribute_text (media.IceOptions text)) (media.IceOptions text)
media_options_read text own =
    media_text_line label.ICE_OPTIONS.now text (media.IceOptions text) (no_end label.ICE_OPTIONS.now refl refl) own.1
    (media_ice_form _ _ (inr (inr (inl (text, (text, refl, (own.0, refl)), refl)))))

-- ---- roles, names, streams and numbers

media_role_quiet : (role : Role) → HoldsNoEnd (setup_text role)
media_role_quiet role = grind (arith, no_end)

pub media_role_read : (role : Role) → IsReadBackLine IsMediaLine (media_attribute_text (media.Setup role)) (media.Setup role)
media_role_read role =
    media_text_line label.SETUP.now (setup_text role) (media.Setup role) (no_end label.SETUP.now refl refl) (media_role_quiet role)
    (inr (inr (inr (inr (inr (inr (inl (role, (setup_text role, refl, refl), refl))))))))

media_whole_name : (text : List ℕ) → length text ≤ 16 → IsLongestShortText 16 text text
media_whole_name text short = record {
  begins = ([], sym (append-nil text));
  fits = short;
  whole = inr (IsCharBoundary-end text);
  longest = λ n past room at. absurd (omega (arith, past, at));
}

pub media_mid_read : (mid : List ℕ) → length mid ≤ 16 → IsMediaText mid
    → IsReadBackLine IsMediaLine (media_attribute_text (media.Mid mid)) (media.Mid mid)
media_mid_read mid short own =
    media_text_line label.MID.now mid (media.Mid mid) (no_end label.MID.now refl refl) own.1
    (inr (inr (inr (inr (inr (inr (inr (inr (inr (inr (inl (mid, (mid, refl, (own.0, media_whole_name mid short)), refl))))))))))))

pub media_stream_read : (stream track : List ℕ) → IsMediaText stream → Lacks 32 stream → IsMediaText track
    → IsReadBackLine IsMediaLine (media_attribute_text (media.Msid (record { stream_id = stream; track_id = track })))
    (media.Msid (record { stream_id = stream; track_id = track }))
media_stream_read stream track own no_space tracks =
    media_text_line label.MSID.now (stream ++ (codes " " ++ track)) (media.Msid (record { stream_id = stream; track_id = track }))
    (no_end label.MSID.now refl refl)
    (no_ends stream _ own.1 (no_ends (codes " ") track (no_end (codes " ") refl refl) tracks.1))
    (inr (inr (inr (inr (inr (inr (inr (inr (inr (inr (inr (inl (inl (
      (stream, track),
      (
        stream ++ (codes " " ++ track),
        refl,
        (stream, track, refl, no_space, (own.0, refl), (tracks.0, refl)),
      ),
      refl,
    ))))))))))))))

pub media_port_read : (port : ℕ) → port ≤ 65535
    → IsReadBackLine IsMediaLine (media_attribute_text (media.SctpPort port)) (media.SctpPort port)
media_port_read port small =
    media_text_line label.SCTP_PORT.now (decimal port) (media.SctpPort port) (no_end label.SCTP_PORT.now refl refl)
    (decimal_no_end port (omega arith))
    (inr (inr (inr (inr (inr (inr (inr (inr (inr (inr (inr (inr (inr (inr (inr (inl
    (port, (decimal port, refl, attribute_num_is 65535 port small (lit< tt)), refl)))))))))))))))))

pub media_size_read : (size : ℕ) → size ≤ 18446744073709551615
    → IsReadBackLine IsMediaLine (media_attribute_text (media.MaxMessageSize size)) (media.MaxMessageSize size)
media_size_read size small =
    media_text_line label.MAX_MESSAGE_SIZE.now (decimal size) (media.MaxMessageSize size) (no_end label.MAX_MESSAGE_SIZE.now refl refl)
    (decimal_no_end size (omega arith))
    (inr (inr (inr (inr (inr (inr (inr (inr (inr (inr (inr (inr (inr (inr (inr (inr (inl
    (size, (decimal size, refl, attribute_num_is 18446744073709551615 size small (lit< tt)), refl))))))))))))))))))

-- ---- fingerprints

media_hex_is : (byte : ℕ) → byte < 256 → IsHexPair (hex_pair byte) byte
media_hex_is byte small =
    let high = hash_glyph_value (byte / 16) (omega arith) in
    let low = hash_glyph_value (byte % 16) (omega arith) in (
      digit_glyph true (byte / 16),
      digit_glyph true (byte % 16),
      refl,
      omega (arith, high),
      omega (arith, low),
      omega (arith, high, low),
    )

media_pairs_are : (byte : ℕ) (bytes : List ℕ) → AllByRecursion (λ n. n < 256) (byte ∷ bytes)
    → PartedAddress 58 IsHexPair (pairs_text (byte ∷ bytes)) (byte ∷ bytes)
media_pairs_are byte [] small = media_hex_is byte small.0
media_pairs_are byte (next ∷ bytes) small =
    (hex_pair byte, pairs_text (next ∷ bytes), refl, media_hex_is byte small.0, media_pairs_are next bytes small.1)

media_pair_quiet : (byte : ℕ) → byte < 256 → HoldsNoEnd (hex_pair byte)
media_pair_quiet byte small = grind (arith, word_glyph_lacks)

media_more_quiet : (bytes : List ℕ) → AllByRecursion (λ n. n < 256) bytes → HoldsNoEnd (flat_map (λ byte. 58 ∷ hex_pair byte) bytes)
media_more_quiet [] small = (tt, tt)
media_more_quiet (byte ∷ bytes) small =
    no_ends (58 ∷ hex_pair byte) _ (no_ends (codes ":") (hex_pair byte) (no_end (codes ":") refl refl) (media_pair_quiet byte small.0))
    (media_more_quiet bytes small.1)

pub media_hash_read : (name : List ℕ) (byte : ℕ) (bytes : List ℕ) → IsMediaText name → Lacks 32 name
    → AllByRecursion (λ n. n < 256) (byte ∷ bytes)
    → IsReadBackLine IsMediaLine (media_attribute_text (media.Fingerprint (record { hash_func = name; bytes = byte ∷ bytes })))
    (media.Fingerprint (record { hash_func = name; bytes = byte ∷ bytes }))
media_hash_read name byte bytes own no_space small =
    let hash : TheFingerprint = record { hash_func = name; bytes = byte ∷ bytes } in
    let text = fingerprint_text hash in
    media_text_line label.FINGERPRINT.now text (media.Fingerprint hash) (no_end label.FINGERPRINT.now refl refl)
    (no_ends name _ own.1 (no_ends (codes " ") (pairs_text (byte ∷ bytes)) (no_end (codes " ") refl refl)
    (no_ends (hex_pair byte) _ (media_pair_quiet byte small.0) (media_more_quiet bytes small.1))))
    (inr (inr (inr (inr (inr (inr (inr (inr (inr (inl (
      hash,
      (
        (name, byte ∷ bytes),
        (text, refl, (name, pairs_text (byte ∷ bytes), refl, no_space, (own.0, refl), media_pairs_are byte bytes small)),
        refl,
      ),
      refl,
    )))))))))))
