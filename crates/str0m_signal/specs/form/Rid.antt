-- The form of the line of a stream that may be restricted (RFC 8851, section 10).
use Rattle.std.specs.Prelude.{◌≡◌, ◌≢◌, ◌⊎◌, ◌++◌, true, ℕ, List, [], ◌∷◌, codes}
use Rattle.str0m_signal.specs.Prelude.{IsPt, PartedAddress, RestrictionId}
use Rattle.str0m_signal.specs.form.Fmtp.{AreFmtpBlanks, IsFmtpKey, IsFmtpValue}
use Rattle.str0m_signal.specs.form.Forms.{Behind, TwoFormParts}
use Rattle.str0m_signal.specs.form.RidStreamName.{IsStreamName}

-- a name, which is active
abbrev pub IsActiveRid : List ℕ → RestrictionId → Type 0
IsActiveRid text id = (text ≡ id.0) × IsStreamName id.0 × (id.1 ≡ true)

-- blanks, key `=` value
abbrev pub IsRestriction : List ℕ → List ℕ × List ℕ → Type 0
IsRestriction text pair = (blanks : List ℕ) × (text ≡ blanks ++ (pair.0 ++ (codes "=" ++ pair.1))) × AreFmtpBlanks blanks × IsFmtpKey pair.0 × IsFmtpValue pair.1

-- nothing, or restrictions with `;` between each two
abbrev pub AreRestrictions : List ℕ → List (List ℕ × List ℕ) → Type 0
AreRestrictions text [] = text ≡ []
AreRestrictions text (pair ∷ pairs) = PartedAddress 59 IsRestriction text (pair ∷ pairs)

-- payload types with `,` between each two, and after them nothing, or `;` and restrictions
abbrev pub AreTyped : List ℕ → List ℕ × List (List ℕ × List ℕ) → Type 0
AreTyped text lists = (PartedAddress 44 IsPt text lists.0 × (lists.1 ≡ [])) ⊎ TwoFormParts 59 (PartedAddress 44 IsPt) AreRestrictions text lists

-- payload types where the text begins with their label, else restrictions alone
abbrev pub AreRidLists : List ℕ → List ℕ × List (List ℕ × List ℕ) → Type 0
AreRidLists text lists = Behind (codes "pt=") AreTyped text lists
    ⊎ (((rest : List ℕ) → text ≢ codes "pt=" ++ rest) × (lists.0 ≡ []) × AreRestrictions text lists.1)

-- nothing, or a space and the lists
abbrev pub IsRidMore : List ℕ → List ℕ × List (List ℕ × List ℕ) → Type 0
IsRidMore text lists = ((text ≡ []) × (lists ≡ ([], []))) ⊎ Behind (codes " ") AreRidLists text lists

-- `send` or `recv`
abbrev pub IsDirection : List ℕ → Type 0
IsDirection word = (word ≡ codes "send") ⊎ (word ≡ codes "recv")

-- a direction, and more
abbrev pub IsDirectedRid : List ℕ → List ℕ × (List ℕ × List (List ℕ × List ℕ)) → Type 0
IsDirectedRid text fields = (more : List ℕ) × (text ≡ fields.0 ++ more) × IsDirection fields.0 × IsRidMore more fields.1

-- the name, a space, the direction and more
abbrev pub IsRid : List ℕ → RestrictionId × (List ℕ × (List ℕ × List (List ℕ × List ℕ))) → Type 0
IsRid = TwoFormParts 32 IsActiveRid IsDirectedRid
