-- The attributes of a session, each with the text that stands for it after `a=`.
use Rattle.std.specs.Prelude.{ℕ, List, [], ◌∷◌, Option, Some}
use Rattle.str0m_sdp.specs.declared.attribute.SessionAttribute.TheVariants.{Group, MsidSemantic, IceUfrag, IcePwd, IceOptions, Fingerprint, Setup, Candidate, Unused}
use Rattle.str0m_sdp.specs.declared.label.TheConstants as label
use Rattle.str0m_signal.specs.Prelude.{FirstFit, SessionAttribute, session_words, ◌<|>◌, ◌>>=◌}
use Rattle.str0m_signal.specs.form.FormTable.{Form, labelled_form, form_made_as, any_form, any_word_form, texts, IsUnusedForm, unused_read}
use Rattle.str0m_signal.specs.form.FormTransport.{ice_texts, candidate, fingerprint, setup}
use Rattle.str0m_signal.specs.line.Lines.{IsAttributeLine}
use Rattle.str0m_signal.specs.line.Words.{IsGroup, IsMsidSemantic}
use Rattle.str0m_signal.specs.line.WordsReading.{names_read, group_fields_read, msid_semantic_fields_read}

abbrev pub session_texts : List (List ℕ × (List ℕ → SessionAttribute))
session_texts = ice_texts IceUfrag IcePwd IceOptions

abbrev pub group : Form SessionAttribute
group = labelled_form label.GROUP.now (record { Is = IsGroup; read = group_fields_read }) (λ g. Group g.0 g.1)

-- a group of a word and names, without a space at their end
abbrev pub names_form_read : List ℕ → Option SessionAttribute
names_form_read text = names_read text >>= λ g. Some (Group g.0 g.1)

abbrev pub msid_semantic : Form SessionAttribute
msid_semantic = labelled_form label.MSID_SEMANTIC.now (record { Is = IsMsidSemantic; read = msid_semantic_fields_read }) (λ m. MsidSemantic m.0 m.1)

-- each attribute but `Unused`
abbrev pub session_forms : List (Form SessionAttribute)
session_forms =
    any_word_form session_words
    ∷ setup Setup
    ∷ group
    ∷ msid_semantic
    ∷ texts session_texts
    ∷ form_made_as fingerprint Fingerprint
    ∷ form_made_as candidate Candidate
    ∷ []

-- the text stands for the attribute: `Unused` only where no other form holds
abbrev pub SessionForm : List ℕ → SessionAttribute → Type 0
SessionForm = FirstFit (any_form session_forms).Is (IsUnusedForm Unused)

abbrev pub IsSessionLine : List ℕ → SessionAttribute → Type 0
IsSessionLine = IsAttributeLine SessionForm

abbrev pub session_read : List ℕ → Option SessionAttribute
session_read text = (any_form session_forms).read text <|> unused_read Unused text
