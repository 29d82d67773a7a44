-- A section that answers another keeps the rules.
use Rattle.exchange.proofs.Common.{◌≡◌, ◌≢◌, ℕ, Bool, true, false, cond, not, List, [], ◌∷◌, ◌++◌, Option, Some, None, filter, filter_map}
use Rattle.exchange.proofs.Common.{map, find, option_to_list, refl, subst, sym, ap, ◌∙◌, append-nil, filter_map-append, AllZip, flat_map}
use Rattle.exchange.proofs.Common.{PayloadParams, types, first, direction_attribute, is_media, MediaAttribute, MediaType, Audio, Video}
use Rattle.exchange.proofs.Common.{Application, Unknown, Proto, Srtp, Sctp, Setup, MediaLine, Sdp, is_mid, mid_of, maps, is_of_type, made}
use Rattle.exchange.proofs.Common.{row_attrs, section_direction, AnswersDirection, Direction}
use Rattle.exchange.proofs.answer.OfferedLaws.{accepted_channels_offered, accepted_media_offered}
use Rattle.exchange.specs.answer.Accepted.{AcceptsChannels, AcceptsMedia, candidate_line, accepted_first_lines, accepted_frame, layer_lines}
use Rattle.exchange.specs.answer.Accepted.{media_lines}
use Rattle.exchange.specs.answer.Accepted.{msid_lines}
use Rattle.exchange.specs.answer.AnsweredSection.{AnswersSection, SaysSectionChoice}
use Rattle.exchange.specs.answer.Choice.{IsSectionChoice, choice_by_kind, choice_by_name, channels_choice, rows_or_none}
use Rattle.exchange.specs.answer.RejectedSection.{direction_over, first_rejected_type, first_rejected_line, rejecting}
use Rattle.exchange.specs.answer.Rows.{answered_rows}
use Rattle.exchange.specs.declared.answer.choice.Choice.{Choice}
use Rattle.exchange.specs.declared.answer.choice.Choice.TheVariants.{Rejected, Media, Channels}
use Rattle.exchange.specs.declared.state.own_side.DataChannels.{DataChannels}
use Rattle.exchange.specs.declared.state.own_side.OwnSide.{OwnSide}
use Rattle.exchange.specs.offer.Rules.{HasAnswerFor, HasOfferedShape, IsAcceptedExactlyByRules, IsReachableByRules, KeepsRules}
use Rattle.exchange.specs.offer.Rules.{SaysOnlyOffered}
use Rattle.exchange.specs.section.RepeatedLines.{repeated_lines}
use Rattle.exchange.specs.section.Stopped.{IsStopped, name_of}
use Rattle.exchange.specs.state.OwnSide.{own_direction}
use Rattle.str0m_sdp.specs.declared.attribute.MediaAttribute.TheVariants as media
use Rattle.str0m_values.specs.declared.direction.Direction.TheVariants as way

-- ---- lists place by place

-- what follows from a relation holds at each place
pub rule_all_zip_weaker : {A B : Type 0} (R S : A → B → Type 0) → ((x : A) (y : B) → R x y → S x y) → (xs : List A) (ys : List B)
    → AllZip R xs ys → AllZip S xs ys
rule_all_zip_weaker R S weaker [] [] zip = zip
rule_all_zip_weaker R S weaker [] (y ∷ ys) zip = zip
rule_all_zip_weaker R S weaker (x ∷ xs) [] zip = zip
rule_all_zip_weaker R S weaker (x ∷ xs) (y ∷ ys) zip = (weaker x y zip.0, rule_all_zip_weaker R S weaker xs ys zip.1)

-- ---- what is chosen

-- the rows that are accepted
from_rows : (mid name : List ℕ) (theirs rows : List PayloadParams) → Media mid theirs ≡ rows_or_none name rows
    → (name ≡ mid) × (theirs ≡ rows) × (rows ≢ [])
from_rows mid name theirs [] e = cc
from_rows mid name theirs (row ∷ rows) e = ((cc), (cc), λ (n : row ∷ rows ≡ []). cc)

rows_not_channels : (mid name : List ℕ) (theirs : List PayloadParams) (channels : Option DataChannels)
    → Media mid theirs ≡ channels_choice name channels → ⊥
rows_not_channels mid name theirs None e = cc
rows_not_channels mid name theirs (Some channels) e = cc

channels_not_rows : (mid name : List ℕ) (theirs : DataChannels) (rows : List PayloadParams) → Channels mid theirs ≡ rows_or_none name rows
    → ⊥
channels_not_rows mid name theirs [] e = cc
channels_not_rows mid name theirs (row ∷ rows) e = cc

rule_from_channels : (mid name : List ℕ) (theirs : DataChannels) (channels : Option DataChannels)
    → Channels mid theirs ≡ channels_choice name channels → (name ≡ mid) × (channels ≢ None)
rule_from_channels mid name theirs None e = cc
rule_from_channels mid name theirs (Some channels) e = ((cc), λ (n : Some channels ≡ None). cc)

record MediaChosen (own : OwnSide) (rows : List PayloadParams) (name : Option (List ℕ)) (typ : MediaType) (proto : Proto) (mid : List ℕ)
    (theirs : List PayloadParams) : Type 0 where
  named_so : name ≡ Some mid
  same : theirs ≡ rows
  some : rows ≢ []
  answerable : HasAnswerFor own rows typ proto

media_of_kind : (own : OwnSide) (rows : List PayloadParams) (name : List ℕ) (typ : MediaType) (proto : Proto) (mid : List ℕ)
    (theirs : List PayloadParams)
    → Media mid theirs ≡ choice_by_kind own rows name typ proto → MediaChosen own rows (Some name) typ proto mid theirs
media_of_kind own rows name Audio Srtp mid theirs e = let f = from_rows mid name theirs rows e in
    record { named_so = ap Some f.0; same = f.1; some = f.2; answerable = f.2 }
media_of_kind own rows name Video Srtp mid theirs e = let f = from_rows mid name theirs rows e in
    record { named_so = ap Some f.0; same = f.1; some = f.2; answerable = f.2 }
media_of_kind own rows name Application Sctp mid theirs e = absurd (rows_not_channels mid name theirs own.channels e)
media_of_kind own rows name Audio Sctp mid theirs e = cc
media_of_kind own rows name Video Sctp mid theirs e = cc
media_of_kind own rows name Application Srtp mid theirs e = cc
media_of_kind own rows name (Unknown text) Srtp mid theirs e = cc
media_of_kind own rows name (Unknown text) Sctp mid theirs e = cc

media_chosen : (own : OwnSide) (rows : List PayloadParams) (name : Option (List ℕ)) (typ : MediaType) (proto : Proto) (mid : List ℕ)
    (theirs : List PayloadParams)
    → Media mid theirs ≡ choice_by_name own rows name typ proto → MediaChosen own rows name typ proto mid theirs
media_chosen own rows None typ proto mid theirs e = cc
media_chosen own rows (Some name) typ proto mid theirs e = media_of_kind own rows name typ proto mid theirs e

record RuleChannelsChosen (own : OwnSide) (rows : List PayloadParams) (name : Option (List ℕ)) (typ : MediaType) (proto : Proto)
    (mid : List ℕ) : Type 0 where
  named_so : name ≡ Some mid
  no_media : is_media typ ≡ false
  answerable : HasAnswerFor own rows typ proto

rule_channels_of_kind : (own : OwnSide) (rows : List PayloadParams) (name : List ℕ) (typ : MediaType) (proto : Proto) (mid : List ℕ)
    (theirs : DataChannels)
    → Channels mid theirs ≡ choice_by_kind own rows name typ proto → RuleChannelsChosen own rows (Some name) typ proto mid
rule_channels_of_kind own rows name Audio Srtp mid theirs e = absurd (channels_not_rows mid name theirs rows e)
rule_channels_of_kind own rows name Video Srtp mid theirs e = absurd (channels_not_rows mid name theirs rows e)
rule_channels_of_kind own rows name Application Sctp mid theirs e = let f = rule_from_channels mid name theirs own.channels e in
    record { named_so = ap Some f.0; no_media = refl; answerable = f.1 }
rule_channels_of_kind own rows name Audio Sctp mid theirs e = cc
rule_channels_of_kind own rows name Video Sctp mid theirs e = cc
rule_channels_of_kind own rows name Application Srtp mid theirs e = cc
rule_channels_of_kind own rows name (Unknown text) Srtp mid theirs e = cc
rule_channels_of_kind own rows name (Unknown text) Sctp mid theirs e = cc

rule_channels_chosen : (own : OwnSide) (rows : List PayloadParams) (name : Option (List ℕ)) (typ : MediaType) (proto : Proto) (mid : List ℕ)
    (theirs : DataChannels)
    → Channels mid theirs ≡ choice_by_name own rows name typ proto → RuleChannelsChosen own rows name typ proto mid
rule_channels_chosen own rows None typ proto mid theirs e = cc
rule_channels_chosen own rows (Some name) typ proto mid theirs e = rule_channels_of_kind own rows name typ proto mid theirs e

-- what this side has something for isn't rejected
some_rows : (name : List ℕ) (rows : List PayloadParams) → Rejected ≡ rows_or_none name rows → rows ≢ [] → ⊥
some_rows name [] e some = some refl
some_rows name (row ∷ rows) e some = cc

rule_some_channels : (name : List ℕ) (channels : Option DataChannels) → Rejected ≡ channels_choice name channels → channels ≢ None → ⊥
rule_some_channels name None e some = some refl
rule_some_channels name (Some channels) e some = cc

not_rejected : (own : OwnSide) (rows : List PayloadParams) (name : Option (List ℕ)) (typ : MediaType) (proto : Proto)
    → Rejected ≡ choice_by_name own rows name typ proto → name ≢ None → HasAnswerFor own rows typ proto → ⊥
not_rejected own rows None typ proto e named_so has = named_so refl
not_rejected own rows (Some name) Audio Srtp e named_so has = some_rows name rows e has
not_rejected own rows (Some name) Video Srtp e named_so has = some_rows name rows e has
not_rejected own rows (Some name) Application Sctp e named_so has = rule_some_channels name own.channels e has
not_rejected own rows (Some name) Audio Sctp e named_so has = has
not_rejected own rows (Some name) Video Sctp e named_so has = has
not_rejected own rows (Some name) Application Srtp e named_so has = has
not_rejected own rows (Some name) (Unknown text) Srtp e named_so has = has
not_rejected own rows (Some name) (Unknown text) Sctp e named_so has = has

rule_some_name : (name : Option (List ℕ)) (mid : List ℕ) → name ≡ Some mid → name ≢ None
rule_some_name name mid e n = cc

-- ---- sections that reject

mid_first : (attrs : List MediaAttribute) → first (filter_map mid_of (option_to_list (find is_mid attrs))) ≡ first (filter_map mid_of attrs)
mid_first [] = refl
mid_first (media.Mid mid ∷ attrs) = refl
mid_first (attr ∷ attrs) = mid_first attrs

no_mid_mapped : (pt : ℕ) (attrs : List MediaAttribute) → filter_map mid_of (option_to_list (find (maps pt) attrs)) ≡ []
no_mid_mapped pt [] = refl
no_mid_mapped pt (media.RtpMap n value ∷ attrs) = go (maps pt (media.RtpMap n value)) (no_mid_mapped pt attrs) where
  go : (b : Bool) → filter_map mid_of (option_to_list (find (maps pt) attrs)) ≡ []
      → filter_map mid_of (option_to_list (cond b (Some (media.RtpMap n value)) (find (maps pt) attrs))) ≡ []
  go true rec = refl
  go false rec = rec
no_mid_mapped pt (attr ∷ attrs) = no_mid_mapped pt attrs

no_mid_behind : (proto : Proto) (lines : List MediaAttribute) → filter_map mid_of lines ≡ []
    → filter_map mid_of (direction_over proto ++ lines) ≡ []
no_mid_behind Srtp lines none = none
no_mid_behind Sctp lines none = none

-- it has the name of the offered one
pub rejected_name : (offered : MediaLine) → name_of (rejecting offered) ≡ name_of offered
rejected_name offered =
    let mapped : List MediaAttribute = first_rejected_line (maps (first_rejected_type offered.pts)) offered.attrs in
    let behind : filter_map mid_of (direction_over offered.proto ++ mapped) ≡ [] =
    no_mid_behind offered.proto mapped (no_mid_mapped (first_rejected_type offered.pts) offered.attrs) in
    ap first (filter_map-append mid_of (first_rejected_line is_mid offered.attrs) (direction_over offered.proto ++ mapped)
    ∙ ap (λ (names : List (List ℕ)). filter_map mid_of (first_rejected_line is_mid offered.attrs) ++ names) behind
    ∙ append-nil (filter_map mid_of (first_rejected_line is_mid offered.attrs)))
    ∙ mid_first offered.attrs

pub rejecting_shape : (offered : MediaLine) → HasOfferedShape offered (rejecting offered)
rejecting_shape offered = record { typ = refl; proto = refl; name = rejected_name offered }

-- ---- sections that accept

-- the direction that stands after the first lines is the section's
pub direction_said : (own : OwnSide) (mid : List ℕ) (role : Setup) (direction : Direction) (behind rows : List MediaAttribute)
    → section_direction (filter (λ attr. not (is_of_type attr))
    (accepted_first_lines own mid role ++ (direction_attribute direction ∷ behind))
    ++ rows) ≡ direction
direction_said own mid role way.SendRecv behind rows = refl
direction_said own mid role way.SendOnly behind rows = refl
direction_said own mid role way.RecvOnly behind rows = refl
direction_said own mid role way.Inactive behind rows = refl

-- ---- the rules

rule_true_false : (b : Bool) → b ≡ true → b ≡ false → ⊥
rule_true_false b t f = cc

rejected_keeps : (own : OwnSide) (ours : List PayloadParams) (offer : Sdp) (offered answered : MediaLine)
    → IsSectionChoice own ours offer offered Rejected
    → answered ≡ rejecting offered → KeepsRules own ours offer offered answered
rejected_keeps own ours offer offered answered is says =
    let off : answered.disabled ≡ true = ap (λ (m : MediaLine). m.disabled) says in
    record {
      shape = subst (HasOfferedShape offered) (sym says) (rejecting_shape offered);
      exactly = (
        λ on. absurd (rule_true_false answered.disabled off on),
        λ fits. absurd (not_rejected own (answered_rows ours offered) (name_of offered) offered.typ offered.proto (is.open_so fits.runs)
            fits.named_so fits.answerable),
      );
      accepted = λ on. absurd (rule_true_false answered.disabled off on);
    }

media_keeps : (own : OwnSide) (ours : List PayloadParams) (offer : Sdp) (offered answered : MediaLine) (mid : List ℕ)
    (rows : List PayloadParams)
    → IsSectionChoice own ours offer offered (Media mid rows) → AcceptsMedia own offer offered mid rows answered
    → KeepsRules own ours offer offered answered
media_keeps own ours offer offered answered mid rows is accepts =
    let runs : IsStopped offer offered → ⊥ = λ stopped. let e : Media mid rows ≡ Rejected = is.stopped stopped in cc in
    let chosen : MediaChosen own (answered_rows ours offered) (name_of offered) offered.typ offered.proto mid rows =
    media_chosen own (answered_rows ours offered) (name_of offered) offered.typ offered.proto mid rows (is.open_so runs) in
    let said : MediaLine = made (accepted_frame offered (accepted_first_lines own mid accepts.role
    ++ media_lines own offered mid accepts.direction rows))
    rows in
    let shape : HasOfferedShape offered said = record { typ = refl; proto = refl; name = sym chosen.named_so } in
    let reachable : IsReachableByRules own offer offered said =
    record { creds = refl; fingerprint = refl; role = accepts.role; says_role = refl; answers_role = accepts.answers_role } in
    let way_said : section_direction said.attrs ≡ accepts.direction = direction_said own mid accepts.role accepts.direction
    (map candidate_line own.candidates ++ repeated_lines own.extensions offered ++ msid_lines own accepts.direction mid
    ++ layer_lines own accepts.direction offered rows)
    (flat_map row_attrs rows) in
    record {
      shape = subst (HasOfferedShape offered) (sym accepts.says) shape;
      exactly = (
        λ on. record { runs = runs; named_so = rule_some_name (name_of offered) mid chosen.named_so; answerable = chosen.answerable },
        λ fits. ap (λ (m : MediaLine). m.disabled) accepts.says,
      );
      accepted = λ on. record {
        reachable = subst (IsReachableByRules own offer offered) (sym accepts.says) reachable;
        flows = λ typ. subst (λ (d : Direction). AnswersDirection (section_direction offered.attrs) (own_direction own offered) d)
            (sym (ap (λ (m : MediaLine). section_direction m.attrs) accepts.says ∙ way_said)) accepts.answers_direction;
        types_are = λ typ. (ap (λ (m : MediaLine). m.pts) accepts.says ∙ ap types chosen.same, chosen.some);
        offered_so = subst (SaysOnlyOffered offered) (sym accepts.says)
            (accepted_media_offered own offered mid accepts.role accepts.direction rows);
      };
    }

rule_channels_keep : (own : OwnSide) (ours : List PayloadParams) (offer : Sdp) (offered answered : MediaLine) (mid : List ℕ)
    (channels : DataChannels)
    → IsSectionChoice own ours offer offered (Channels mid channels) → AcceptsChannels own offer offered mid channels answered
    → KeepsRules own ours offer offered answered
rule_channels_keep own ours offer offered answered mid channels is accepts =
    let runs : IsStopped offer offered → ⊥ = λ stopped. let e : Channels mid channels ≡ Rejected = is.stopped stopped in cc in
    let chosen : RuleChannelsChosen own (answered_rows ours offered) (name_of offered) offered.typ offered.proto mid =
    rule_channels_chosen own (answered_rows ours offered) (name_of offered) offered.typ offered.proto mid channels (is.open_so runs) in
    let shape : HasOfferedShape offered answered =
    subst (HasOfferedShape offered) (sym accepts.says) (record { typ = refl; proto = refl; name = sym chosen.named_so }) in
    let reachable : IsReachableByRules own offer offered answered = subst (IsReachableByRules own offer offered) (sym accepts.says)
    (record { creds = refl; fingerprint = refl; role = accepts.role; says_role = refl; answers_role = accepts.answers_role }) in
    record {
      shape = shape;
      exactly = (
        λ on. record { runs = runs; named_so = rule_some_name (name_of offered) mid chosen.named_so; answerable = chosen.answerable },
        λ fits. ap (λ (m : MediaLine). m.disabled) accepts.says,
      );
      accepted = λ on. record {
        reachable = reachable;
        flows = λ typ. absurd (rule_true_false (is_media offered.typ) typ chosen.no_media);
        types_are = λ typ. absurd (rule_true_false (is_media offered.typ) typ chosen.no_media);
        offered_so = subst (SaysOnlyOffered offered) (sym accepts.says) (accepted_channels_offered own offered mid accepts.role channels);
      };
    }

rule_choice_keeps : (own : OwnSide) (ours : List PayloadParams) (offer : Sdp) (offered answered : MediaLine) (choice : Choice)
    → IsSectionChoice own ours offer offered choice → SaysSectionChoice own offer offered choice answered
    → KeepsRules own ours offer offered answered
rule_choice_keeps own ours offer offered answered Rejected is says = rejected_keeps own ours offer offered answered is says
rule_choice_keeps own ours offer offered answered (Media mid rows) is says = media_keeps own ours offer offered answered mid rows is says
rule_choice_keeps own ours offer offered answered (Channels mid channels) is says = rule_channels_keep own ours offer offered answered mid
    channels is
    says

pub section_keeps_rules : (own : OwnSide) (ours : List PayloadParams) (offer : Sdp) (offered answered : MediaLine)
    → AnswersSection own ours offer offered answered
    → KeepsRules own ours offer offered answered
section_keeps_rules own ours offer offered answered answers = rule_choice_keeps own ours offer offered answered answers.choice
    answers.is_choice
    answers.says

-- each section keeps them
pub sections_keep : (own : OwnSide) (ours : List PayloadParams) (offer : Sdp) (answered : List MediaLine)
    → AllZip (AnswersSection own ours offer) offer.media_lines answered
    → AllZip (KeepsRules own ours offer) offer.media_lines answered
sections_keep own ours offer answered answers =
    rule_all_zip_weaker (AnswersSection own ours offer) (KeepsRules own ours offer)
    (λ theirs said. section_keeps_rules own ours offer theirs said) offer.media_lines answered answers

pub sections_shape : (own : OwnSide) (ours : List PayloadParams) (offer : Sdp) (answered : List MediaLine)
    → AllZip (AnswersSection own ours offer) offer.media_lines answered
    → AllZip HasOfferedShape offer.media_lines answered
sections_shape own ours offer answered answers =
    rule_all_zip_weaker (AnswersSection own ours offer) HasOfferedShape
    (λ theirs said each. (section_keeps_rules own ours offer theirs said each).shape) offer.media_lines answered answers

pub sections_exact : (own : OwnSide) (ours : List PayloadParams) (offer : Sdp) (answered : List MediaLine)
    → AllZip (AnswersSection own ours offer) offer.media_lines answered
    → AllZip (IsAcceptedExactlyByRules own ours offer) offer.media_lines answered
sections_exact own ours offer answered answers =
    rule_all_zip_weaker (AnswersSection own ours offer) (IsAcceptedExactlyByRules own ours offer)
    (λ theirs said each. (section_keeps_rules own ours offer theirs said each).exactly) offer.media_lines answered answers
