-- Attributes are read exactly where their forms hold, and printed as they were read.
use Rattle.str0m_sdp.specs.declared.attribute.rtp_map.RtpMap.{RtpMap as Mapping}
use Rattle.str0m_sdp.specs.declared.attribute.setup.Setup.{Setup as Role}
use Rattle.str0m_sdp.specs.declared.attribute.simulcast.Simulcast.{Simulcast as TheSimulcast}
use Rattle.str0m_sdp.specs.declared.label.TheConstants as label
use Rattle.str0m_signal.proofs.Common.{arith, ◌≡◌, ◌⊎◌, ◌≤◌, ℕ, Bool, true, false, false≢true, List, [], ◌∷◌, ◌++◌, Option, Some, IfSome}
use Rattle.str0m_signal.proofs.Common.{refl, ap, ◌∙◌, subst, sym, lit<, lit≤, inl, inr, codes, codec_printed_and_read, Codec}
use Rattle.str0m_signal.proofs.Common.{media_attribute_text, is_fmtp_shown, attribute_line, KeepsToRowLine, setup_text, MediaAttribute}
use Rattle.str0m_signal.proofs.Common.{Fmtp}
use Rattle.str0m_signal.proofs.Common.{RestrictionId, SimulcastLayer, candidate_text, candidate_both, IsCandidateText, PartedAddress}
use Rattle.str0m_signal.proofs.Common.{IsLongestShortText, decimal, join_by, length, ltb-true, Lacks, IsNum, is_rest, text_beginning_of}
use Rattle.str0m_signal.proofs.Common.{beginning_is, beginning_only, lacks_cut_from, num_rest_true, cuts_when_some, num_when_true}
use Rattle.str0m_signal.proofs.Common.{IsReadAsCodec, RtpMap}
use Rattle.str0m_signal.proofs.Common.{Simulcast, filter, simulcast_sides_text, simulcast_unless_munged, Fingerprint, Setup, Mid, Candidate}
use Rattle.str0m_signal.proofs.Common.{SsrcGroup, Unused}
use Rattle.str0m_signal.proofs.Common.{fingerprint_text, media_words, ActPass, SETUPS, reads_words}
use Rattle.str0m_signal.proofs.form.CandidateLineAgain.{candidate_again}
use Rattle.str0m_signal.proofs.form.CandidateLineLaws.{candidate_begins}
use Rattle.str0m_signal.proofs.form.FmtpAgain.{fmtp_again}
use Rattle.str0m_signal.proofs.form.FmtpPrinted.{fmtp_behind_lacks}
use Rattle.str0m_signal.proofs.form.FormLaws.{text_both, form_two_both}
use Rattle.str0m_signal.proofs.form.FormPiecesAgain.{Again, text_again, num_again, two_again, behind_again, parted_again}
use Rattle.str0m_signal.proofs.form.FormTableAgain.{KeptFormPiece, PrintsAgain, WholeForm, form_laws_of, quiet_again, made_again}
use Rattle.str0m_signal.proofs.form.FormTableAgain.{form_entire}
use Rattle.str0m_signal.proofs.form.FormTableAgain.{text_kept}
use Rattle.str0m_signal.proofs.form.FormTableAgain.{number_kept, two_form_pieces_kept, form_pair_kept, tailed_form_piece_kept}
use Rattle.str0m_signal.proofs.form.FormTableAgain.{labelled_form_whole}
use Rattle.str0m_signal.proofs.form.FormTableAgain.{form_words_whole}
use Rattle.str0m_signal.proofs.form.FormTableAgain.{all_labelled_forms_whole, any_again}
use Rattle.str0m_signal.proofs.form.FormTableLaws.{ReadableFormPiece, LawfulForm, AllOfForms, ◌also◌, own_form_lawful, labelled_form_lawful}
use Rattle.str0m_signal.proofs.form.FormTableLaws.{made_form_lawful}
use Rattle.str0m_signal.proofs.form.RidAgain.{IsUntypedRid, rid_again, simulcast_sides_words, simulcast_sides_form, simulcast_sides_lack}
use Rattle.str0m_signal.proofs.form.RidLaws.{rid_fields_both}
use Rattle.str0m_signal.proofs.form.RtpMapPrinted.{mapping_printed}
use Rattle.str0m_signal.proofs.form.SimulcastLaws.{simulcast_fields_both}
use Rattle.str0m_signal.proofs.line.AttributesPrinted.{HoldsNoEnd, no_end, no_ends, line_printed, attribute_printed}
use Rattle.str0m_signal.proofs.line.WordsAgain.{kept_again, word_kept_lacks, hash_again, fingerprint_pair, word_pairs_are_joined}
use Rattle.str0m_signal.proofs.line.WordsCharacterStarts.{StartsWithin, behind_starts, kept_word_filled}
use Rattle.str0m_signal.proofs.line.WordsLaws.{hex_pairs_both, source_words_both}
use Rattle.str0m_signal.specs.back.Writable.{IsReadBackLine}
use Rattle.str0m_signal.specs.back.WritableAgain.{FitsAgain, NamesNoTypes}
use Rattle.str0m_signal.specs.form.FormTable.{Form, any_form, form_led_by, two_form_pieces, parted_form_piece, a_text, number}
use Rattle.str0m_signal.specs.form.FormTransport.{candidate, fingerprint, role}
use Rattle.str0m_signal.specs.form.Forms.{Behind, IsText, TwoFormParts}
use Rattle.str0m_signal.specs.form.MediaAttribute.{media_texts, media_pairs, name, mid, ssrc_group, rid, simulcast, other_forms}
use Rattle.str0m_signal.specs.form.MediaAttribute.{IsMediaLine, MediaForm}
use Rattle.str0m_signal.specs.form.MediaAttributeReading.{role_read}
use Rattle.str0m_signal.specs.form.Rid.{IsRid}
use Rattle.str0m_signal.specs.form.RidReading.{rid_fields_read}
use Rattle.str0m_signal.specs.form.RtpMap.{IsChannels, IsRtpMap}
use Rattle.str0m_signal.specs.form.Simulcast.{AreSimulcastSides, IsSimulcast}
use Rattle.str0m_signal.specs.form.SimulcastReading.{simulcast_fields_read}
use Rattle.str0m_signal.specs.line.Words.{IsHexPair}
use Rattle.str0m_values.specs.Words.{case_of}
use Rattle.str0m_values.specs.declared.candidate.Candidate.{Candidate as TheCandidate}
use Rattle.str0m_values.specs.declared.candidate_label.TheConstants as candidate_label
use Rattle.str0m_values.specs.declared.fingerprint.Fingerprint.{Fingerprint as TheFingerprint}

-- ---- what sessions and sections share

setup_role_own : (role : Role) → role_read (setup_text role) ≡ Some role
unfolding case_of
setup_role_own ActPass = refl
setup_role_own _ = refl

pub setup_role_kept : KeptFormPiece role setup_text
setup_role_kept = record {
  reads = reads_words setup_text SETUPS setup_role_own;
  again = record { form = λ text setup h. refl; lacks = λ c far text setup h lacks. subst (Lacks c) h lacks };
}

pub candidate_lawful : LawfulForm candidate
candidate_lawful = own_form_lawful candidate_label.CANDIDATE.now candidate_both candidate_begins

pub fingerprint_lawful : LawfulForm fingerprint
fingerprint_lawful = labelled_form_lawful _ _ (form_two_both 32 text_both hex_pairs_both)

pub candidate_back : {Fits : Type 0} (text : List ℕ) (candidate : TheCandidate) → HoldsNoEnd text → StartsWithin 3 text → Fits
    → IsCandidateText text candidate → IsCandidateText (candidate_text candidate) candidate × HoldsNoEnd (candidate_text candidate)
candidate_back text candidate quiet starts fits h = candidate_again text candidate quiet h

abbrev hash_line : TheFingerprint → List ℕ
hash_line hash = label.FINGERPRINT.now ++ fingerprint_text hash

pub printed_fingerprint : {Fits : Type 0} (text : List ℕ) (hash : TheFingerprint) → HoldsNoEnd text → StartsWithin 3 text → Fits
    → fingerprint.Is text hash → fingerprint.Is (hash_line hash) hash × HoldsNoEnd (hash_line hash)
printed_fingerprint text hash quiet starts fits (p, h, e) =
    subst (λ (f : TheFingerprint). fingerprint.Is (hash_line f) f × HoldsNoEnd (hash_line f)) (sym e)
    (subst (λ (t : List ℕ). fingerprint.Is (label.FINGERPRINT.now ++ (p.0 ++ (32 ∷ t))) made
    × HoldsNoEnd (label.FINGERPRINT.now ++ (p.0 ++ (32 ∷ t))))
    (word_pairs_are_joined p.1)
    ((p, whole.form text p h, refl), quiet_again whole text p quiet h))
  where
    made : TheFingerprint
    made = record { hash_func = p.0; bytes = p.1 }

    whole : Again (Behind label.FINGERPRINT.now (TwoFormParts 32 IsText (PartedAddress 58 IsHexPair)))
        (λ p. label.FINGERPRINT.now ++ fingerprint_pair p)
    whole = behind_again hash_again label.FINGERPRINT.now

-- ---- all forms but mappings and formats

-- as it is read again: an fmtp line has the values that print something
abbrev pub media_shown_only : MediaAttribute → MediaAttribute
media_shown_only (Fmtp pt values) = Fmtp pt (filter is_fmtp_shown values)
media_shown_only attr = attr

-- neither a mapping nor a format
abbrev media_is_other : MediaAttribute → Bool
media_is_other (RtpMap pt value) = false
media_is_other (Fmtp pt values) = false
media_is_other _ = true

-- so it is printed whole, and has no number that one of these would have
pub media_other_whole : (attr : MediaAttribute) → media_is_other attr ≡ true → (media_shown_only attr ≡ attr) × KeepsToRowLine attr
media_other_whole (RtpMap pt value) e = absurd (false≢true e)
media_other_whole (Fmtp pt values) e = absurd (false≢true e)
media_other_whole _ e = (refl, tt)

abbrev OtherAgain : Form MediaAttribute → Type 0
OtherAgain = PrintsAgain FitsAgain media_attribute_text media_is_other

abbrev pub OtherForm : Form MediaAttribute → Type 0
OtherForm = WholeForm FitsAgain media_attribute_text media_is_other

mid_name_readable : ReadableFormPiece name
mid_name_readable = record {
  sound = λ text mid e. let w = cuts_when_some (is_rest text) (text_beginning_of 16 text) mid e in
      rw (← w.1) (ltb-true 0 (length text) w.0, beginning_is 16 text);
  complete = λ text mid h.
      num_when_true (is_rest text) (text_beginning_of 16 text) (num_rest_true text h.0)
      ∙ ap (λ (t : List ℕ). Some t) (sym (beginning_only 16 text mid h.1));
}

mid_comes_back : OtherAgain mid
mid_comes_back = made_again (form_led_by label.MID.now name) Mid (λ mid. label.MID.now ++ mid)
    (λ text mid quiet starts fits h. back text mid quiet starts h) (λ _ _. refl) (λ _. refl)
  where
    lacks : (c : ℕ) (text mid name : List ℕ) → text ≡ label.MID.now ++ name → IsLongestShortText 16 name mid → Lacks c text
        → Lacks c (label.MID.now ++ mid)
    lacks c text mid name e kept none =
        let whole : Lacks c (label.MID.now ++ name) = subst (Lacks c) e none in (
          whole.0,
          (
            whole.1.0,
            (
              whole.1.1.0,
              (whole.1.1.1.0, word_kept_lacks c 16 name mid kept (fmtp_behind_lacks c label.MID.now name whole)),
            ),
          ),
        )

    back : (text mid : List ℕ) → HoldsNoEnd text → StartsWithin 3 text → Behind label.MID.now name.Is text mid
        → Behind label.MID.now name.Is (label.MID.now ++ mid) mid × HoldsNoEnd (label.MID.now ++ mid)
    back text mid quiet starts (name, e, (filled, kept)) = (
      (
        mid,
        refl,
        (
          kept_word_filled name mid filled (behind_starts 3 label.MID.now name (lit≤ tt) (subst (StartsWithin 3) e starts)) kept,
          kept_again 16 name mid kept,
        ),
      ),
      (lacks 10 text mid name e kept quiet.0, lacks 13 text mid name e kept quiet.1),
    )

-- both sides of a simulcast line
abbrev simulcast_line : TheSimulcast → List ℕ
simulcast_line s = label.SIMULCAST.now ++ simulcast_sides_words s.send.0 s.recv.0

simulcast_comes_back : OtherAgain simulcast
simulcast_comes_back = made_again (form_led_by label.SIMULCAST.now (record { Is = IsSimulcast; read = simulcast_fields_read })) Simulcast
    simulcast_line (λ text s quiet starts fits h. back text s quiet h) shows (λ _. refl)
  where
    back : (text : List ℕ) (s : TheSimulcast) → HoldsNoEnd text → Behind label.SIMULCAST.now IsSimulcast text s
        → Behind label.SIMULCAST.now IsSimulcast (simulcast_line s) s × HoldsNoEnd (simulcast_line s)
    back text s quiet (body, e, (sides, whole)) =
        let behind : (c : ℕ) → Lacks c text → Lacks c body =
        λ c none. fmtp_behind_lacks c label.SIMULCAST.now body (subst (Lacks c) e none) in (
          (simulcast_sides_words s.send.0 s.recv.0, refl, (simulcast_sides_form body s.send.0 s.recv.0 sides, whole)),
          no_ends label.SIMULCAST.now (simulcast_sides_words s.send.0 s.recv.0) (no_end label.SIMULCAST.now refl refl) (
            simulcast_sides_lack 10 (lit≤ tt) (lacks_cut_from 10 (codes "send ") refl, lacks_cut_from 10 (codes " recv ") refl) body
                s.send.0 s.recv.0 sides
                (behind 10 quiet.0),
            simulcast_sides_lack 13 (lit≤ tt) (lacks_cut_from 13 (codes "send ") refl, lacks_cut_from 13 (codes " recv ") refl) body
                s.send.0 s.recv.0 sides
                (behind 13 quiet.1),
          ),
        )

    sides_are : (body : List ℕ) (send recv : List SimulcastLayer) → AreSimulcastSides body send recv
        → simulcast_sides_text send recv ≡ attribute_line (label.SIMULCAST.now ++ simulcast_sides_words send recv)
    sides_are body [] [] h = absurd h
    sides_are body (s ∷ send) [] h = refl
    sides_are body [] (r ∷ recv) h = refl
    sides_are body (s ∷ send) (r ∷ recv) h = refl

    shows : (s : TheSimulcast) → Behind label.SIMULCAST.now IsSimulcast (simulcast_line s) s
        → media_attribute_text (Simulcast s) ≡ attribute_line (simulcast_line s)
    shows s (body, e, (sides, whole)) =
        ap (λ (b : Bool). simulcast_unless_munged b (simulcast_sides_text s.send.0 s.recv.0)) whole ∙ sides_are body s.send.0 s.recv.0 sides

untyped_rid : (text : List ℕ) (id : RestrictionId) (fields : List ℕ × (List ℕ × List (List ℕ × List ℕ)))
    → Behind label.RID.now IsRid text (id, fields)
    → NamesNoTypes fields.1.1 → Behind label.RID.now IsUntypedRid text (id, fields)
untyped_rid text id fields (body, e, (front, rest, f, lacks, name, directed)) named = grind arith

rid_form : (text : List ℕ) (id : RestrictionId) (fields : List ℕ × (List ℕ × List (List ℕ × List ℕ)))
    → Behind label.RID.now IsUntypedRid text (id, fields)
    → Behind label.RID.now IsRid text (id, fields)
rid_form text id fields (body, e, (front, rest, f, lacks, name, directed)) = (body, e, (front, rest, f, lacks, name, directed.0))

rid_comes_back : OtherAgain rid
rid_comes_back = made_again (form_led_by label.RID.now (record { Is = IsRid; read = rid_fields_read })) _ _ (λ text f quiet starts fits h.
    let whole = behind_again rid_again label.RID.now in
    let plain = untyped_rid text f.0 f.1 h fits in
    (rid_form _ f.0 f.1 (whole.form text f plain), quiet_again whole text f quiet plain)) (λ _ _. refl) (λ _. refl)

abbrev sources_line : List ℕ → List ℕ → List ℕ
sources_line semantics ssrcs = label.SSRC_GROUP.now ++ (semantics ++ (32 ∷ join_by decimal (codes " ") ssrcs))

ssrc_group_comes_back : OtherAgain ssrc_group
ssrc_group_comes_back =
    let whole = behind_again (two_again 32 (lit≤ tt) text_again (parted_again (num_again 4294967295 (lit< tt)) 32)) label.SSRC_GROUP.now in
    made_again (form_led_by label.SSRC_GROUP.now (two_form_pieces 32 a_text (parted_form_piece 32 (number 4294967295)))) _ _
    (λ text p quiet starts fits h. (whole.form text p h, quiet_again whole text p quiet h)) (λ p h. shows p.0 p.1 h) (λ _. refl)
  where
    shows : (semantics ssrcs : List ℕ)
        → Behind label.SSRC_GROUP.now (TwoFormParts 32 IsText (PartedAddress 32 (IsNum 4294967295))) (sources_line semantics ssrcs)
        (semantics, ssrcs)
        → media_attribute_text (SsrcGroup semantics ssrcs) ≡ attribute_line (sources_line semantics ssrcs)
    shows semantics [] h = absurd h.2.5
    shows semantics (ssrc ∷ ssrcs) h = refl

pub other_form_laws : AllOfForms OtherForm other_forms
other_form_laws =
    labelled_form_whole _ _ (two_form_pieces_kept 32 (lit≤ tt) (number_kept 127 (lit< tt)) text_kept) (λ _. refl) (λ _. refl)
    also labelled_form_whole _ _ (two_form_pieces_kept 32 (lit≤ tt) (tailed_form_piece_kept 47 (lit≤ tt) (number_kept 255 (lit< tt)))
    (tailed_form_piece_kept 32 (lit≤ tt) text_kept)) (λ _. refl) (λ _. refl)
    also form_entire (made_form_lawful Candidate candidate_lawful)
    (made_again candidate Candidate _ candidate_back (λ _ _. refl) (λ _. refl))
    also labelled_form_whole _ _ (two_form_pieces_kept 32 (lit≤ tt) (number_kept 4294967295 (lit< tt))
    (two_form_pieces_kept 58 (lit≤ tt) text_kept text_kept))
    (λ _. refl) (λ _. refl)
    also labelled_form_whole _ Setup setup_role_kept (λ _. refl) (λ _. refl)
    also form_entire (labelled_form_lawful _ _ (form_two_both 32 text_both source_words_both)) ssrc_group_comes_back
    also all_labelled_forms_whole text_kept media_texts refl (λ _. refl)
    also form_entire (made_form_lawful Fingerprint fingerprint_lawful)
    (made_again fingerprint Fingerprint _ printed_fingerprint (λ _ _. refl) (λ _. refl))
    also form_entire (labelled_form_lawful _ _ mid_name_readable) mid_comes_back
    also all_labelled_forms_whole form_pair_kept media_pairs refl (λ _. refl)
    also form_entire (labelled_form_lawful _ _ rid_fields_both) rid_comes_back
    also labelled_form_whole _ _ text_kept (λ _. refl) (λ _. refl)
    also form_entire (labelled_form_lawful _ _ simulcast_fields_both) simulcast_comes_back
    also labelled_form_whole _ _ (number_kept 65535 (lit< tt)) (λ _. refl) (λ _. refl)
    also labelled_form_whole _ _ (number_kept 18446744073709551615 (lit< tt)) (λ _. refl) (λ _. refl)
    also labelled_form_whole _ _ text_kept (λ _. refl) (λ _. refl)
    also form_words_whole media_words refl refl
    also tt

pub other_again : OtherAgain (any_form other_forms)
other_again = any_again other_forms (form_laws_of OtherForm OtherAgain (λ form law. law.prints) other_forms other_form_laws)

-- ---- mappings, formats, and all

-- what a codec's text was read as is read of its own text again
read_codec : (text : List ℕ) (c : Codec) → IsReadAsCodec text c → codec_printed_and_read c ≡ c
read_codec text c h = grind arith

channels_fit : (channels : Option ℕ) (text : List ℕ) → IsChannels text channels → IfSome channels (λ n. n ≤ 255)
channels_fit channels text h = grind arith

mapping_again : (text : List ℕ) (pt : ℕ) (value : Mapping) → IsRtpMap text pt value
    → IsReadBackLine IsMediaLine (media_attribute_text (RtpMap pt value)) (RtpMap pt value)
mapping_again text pt value h =
    subst (λ (c : Codec). IsReadBackLine IsMediaLine (media_attribute_text (RtpMap pt value)) (RtpMap pt (record value { codec = c })))
    (read_codec h.codec value.codec h.codec_is.1)
    (mapping_printed pt value h.number_is.fits
    (record { clock = (h.clock_is.2, h.clock_is.1.fits); channels = channels_fit value.channels h.channels h.channels_is }))

-- an fmtp line none of whose values prints anything
abbrev pub IsHiddenMedia : MediaAttribute → Type 0
IsHiddenMedia (Fmtp pt values) = filter is_fmtp_shown values ≡ []
IsHiddenMedia _ = ⊥

abbrev pub ComesBack : MediaAttribute → Type 0
ComesBack attr = IsReadBackLine IsMediaLine (media_attribute_text attr) (media_shown_only attr) ⊎ IsHiddenMedia attr

-- an attribute that a line was read as prints nothing, or a line that is read as what it shows
pub media_again : (text : List ℕ) (attr : MediaAttribute) → HoldsNoEnd text → StartsWithin 3 text → MediaForm text attr → FitsAgain attr
    → ComesBack attr
media_again text attr quiet starts (inl (inl (p, h, e))) may = subst ComesBack (sym e) (inl (mapping_again text p.0 p.1 h))
media_again text attr quiet starts (inl (inr (inl (p, h, e)))) may = subst ComesBack (sym e) (fmtp_again text p.0 p.1 h)
media_again text attr quiet starts (inl (inr (inr h))) may =
    let new = other_again.again text attr quiet starts may h in
    let shown = (media_other_whole attr (other_again.passes text attr h)).0 in
    inl (rw (new.1, shown) (attribute_printed new.0 attr new.2 (inr (inr new.3))))
media_again text attr quiet starts (inr (none, (filled, e))) may =
    rw e (inl (line_printed MediaForm text (Unused text) quiet (inr (none, (filled, refl)))))
