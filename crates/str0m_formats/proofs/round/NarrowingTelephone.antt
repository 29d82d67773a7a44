-- The highest telephone event of a row never grows.
use Rattle.str0m_formats.proofs.Common.{◌≡◌, ◌≤◌, Bool, List, arith}
use Rattle.str0m_formats.proofs.round.NarrowingSteps.{round_holds}
use Rattle.str0m_formats.specs.declared.codec.Codec.TheVariants.{Tele}
use Rattle.str0m_formats.specs.declared.codec.codec_spec.CodecSpec.{CodecSpec}
use Rattle.str0m_formats.specs.declared.row.payload_params.PayloadParams.{PayloadParams}
use Rattle.str0m_formats.specs.round.Narrowing.{narrowed, telephone_max}
use Rattle.str0m_formats.specs.round.Rounds.{RoundLeaves}
use Rattle.str0m_formats.specs.round.RoundsPromises.{TelephoneNarrows}

-- a telephone format stays one, and its maximum doesn't grow
abbrev pub Narrows : CodecSpec → CodecSpec → Type 0
Narrows old new = old.codec ≡ Tele → (new.codec ≡ Tele) × (telephone_max new.format ≤ telephone_max old.format)

pub narrows-same : (spec : CodecSpec) → Narrows spec spec
narrows-same spec tele = (tele, omega arith)

pub narrows-then : (a b c : CodecSpec) → Narrows a b → Narrows b c → Narrows a c
narrows-then a b c first second tele = grind arith

narrowed-narrows : (own chosen : CodecSpec) → Narrows own (narrowed own chosen)
unfolding narrowed
narrowed-narrows own chosen tele = grind arith

-- a round doesn't raise the maximum of a telephone row
pub telephone_narrows : (before remote : List PayloadParams) (receives : Bool) (after : List PayloadParams)
    → RoundLeaves before remote receives after → TelephoneNarrows before after
telephone_narrows = round_holds Narrows narrows-same (λ own chosen fits. narrowed-narrows own chosen)
