-- What a run of the program shows.
use Rattle.show.specs.NegotiationLines.{PrintsRounds}
use Rattle.show.specs.RowLines.{rows_text}
use Rattle.show.specs.declared.run.Shown.{Shown}
use Rattle.show.specs.declared.run.Shown.TheVariants.{Text, Rows, Negotiation}
use Rattle.std.specs.Prelude.{◌≡◌, ℕ, List, [], ◌∷◌, Option, Some, None, IfSome, codes, if◌then◌else◌, bytes_eq}
use Rattle.str0m_sdp.specs.declared.session.Sdp.{Sdp}
use Rattle.str0m_sdp.specs.session.Session.{sdp_text}
use Rattle.str0m_signal.specs.session.Reader.{DescribesSession}

-- what the arguments ask for: one word alone, exactly so written
abbrev pub run_asked_by : List ℕ → Option Shown
run_asked_by word =
    if bytes_eq word (codes "text") then Some Text
    else if bytes_eq word (codes "rows") then Some Rows
    else if bytes_eq word (codes "negotiate") then Some Negotiation
    else None

abbrev pub run_asked : List (List ℕ) → Option Shown
run_asked (word ∷ []) = run_asked_by word
run_asked _ = None

-- the bytes describe a session, of which this is the text
abbrev pub PrintsBy : (Sdp → List ℕ) → List ℕ → List ℕ → Type 0
PrintsBy text bytes printed = (sdp : Sdp) × DescribesSession bytes sdp × (printed ≡ text sdp)

-- the bytes describe a session, and this is shown of it
abbrev pub Prints : Shown → List ℕ → List ℕ → Type 0
Prints Text = PrintsBy sdp_text
Prints Rows = PrintsBy rows_text
Prints Negotiation = PrintsRounds

-- what a reader holds, where that is known, describes a session of which this is shown
abbrev pub Shows : Shown → Option (List ℕ) → List ℕ → Type 0
Shows shown held printed = (bytes : List ℕ) × IfSome held (λ known. bytes ≡ known) × Prints shown bytes printed

-- something is asked for, and this is shown
abbrev pub ShowsAsked : Option Shown → Option (List ℕ) → List ℕ → Type 0
ShowsAsked asked held printed = (shown : Shown) × (asked ≡ Some shown) × Shows shown held printed

-- what a reader holds, where that is known, describes a session
abbrev pub RunInputDescribes : Option (List ℕ) → Type 0
RunInputDescribes held = (bytes : List ℕ) × IfSome held (λ known. bytes ≡ known) × ((sdp : Sdp) × DescribesSession bytes sdp)
