-- The forms that attributes of sessions and of sections share: of ICE and of DTLS.
use Rattle.std.specs.Prelude.{◌≡◌, ℕ, List, [], ◌∷◌}
use Rattle.str0m_sdp.specs.declared.attribute.setup.Setup.{Setup}
use Rattle.str0m_sdp.specs.declared.label.TheConstants as label
use Rattle.str0m_signal.specs.Prelude.{Candidate, Fingerprint, IsCandidateText, candidate_read, setup_text}
use Rattle.str0m_signal.specs.form.FormTable.{FormPiece, Form, own_label_form, a_text, two_form_pieces, parted_form_piece, labelled_form}
use Rattle.str0m_signal.specs.form.MediaAttributeReading.{role_read}
use Rattle.str0m_signal.specs.line.Words.{IsHexPair}
use Rattle.str0m_signal.specs.line.WordsReading.{hex_pair_read}
use Rattle.str0m_values.specs.declared.candidate_label.TheConstants as candidate_label

-- the credentials of ICE and its options (RFC 8839, sections 5.4 and 5.6)
abbrev pub ice_texts : {A : Type 0} → (List ℕ → A) → (List ℕ → A) → (List ℕ → A) → List (List ℕ × (List ℕ → A))
ice_texts ufrag pwd options =
    (label.ICE_UFRAG.now, ufrag)
    ∷ (label.ICE_PWD.now, pwd)
    ∷ (label.ICE_OPTIONS.now, options)
    ∷ []

-- a candidate's text has its own label (RFC 8839, section 5.1)
abbrev pub candidate : Form Candidate
candidate = own_label_form candidate_label.CANDIDATE.now IsCandidateText candidate_read

abbrev pub hex_form_piece : FormPiece ℕ
hex_form_piece = record { Is = IsHexPair; read = hex_pair_read }

-- a word SP bytes, each as two hexadecimal digits, with `:` between each two (RFC 8122, section 5)
abbrev pub fingerprint : Form Fingerprint
fingerprint = labelled_form label.FINGERPRINT.now (two_form_pieces 32 a_text (parted_form_piece 58 hex_form_piece)) (λ hash. record { hash_func = hash.0; bytes = hash.1 })

abbrev pub role : FormPiece Setup
role = record { Is = λ text setup. text ≡ setup_text setup; read = role_read }

-- (RFC 8842, section 5.2)
abbrev pub setup : {A : Type 0} → (Setup → A) → Form A
setup make = labelled_form label.SETUP.now role make
