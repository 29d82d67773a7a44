-- Plain rows stay plain through a round against rows whose numbers keep to their ranges.
use Rattle.str0m_formats.proofs.Common.{arith, ◌≡◌, ◌≢◌, ℕ, Bool, true, false, List, Option, Some, None, Ok, IfSome, All, take, refl, sym}
use Rattle.str0m_formats.proofs.Common.{ap, ◌∙◌, subst, slice_get, All-contains}
use Rattle.str0m_formats.proofs.round.FirstPass.{row_types_small_at, same_row_Ok, placed-locked_row, placed-open_row}
use Rattle.str0m_formats.proofs.round.FirstPass.{first_pass_placed-no_choice}
use Rattle.str0m_formats.proofs.round.FirstPass.{locked_parts}
use Rattle.str0m_formats.proofs.round.RoundsPasses.{pass_at_place, pass_split_has, pass_from_places}
use Rattle.str0m_formats.proofs.round.RoundsRowSteps.{row_steps}
use Rattle.str0m_formats.proofs.round.RoundsSmallTypes.{small_after}
use Rattle.str0m_formats.proofs.round.RoundsWhole.{row_before}
use Rattle.str0m_formats.proofs.round.SettlingPass.{settled_parts, settled-same}
use Rattle.str0m_formats.specs.codec.Codec.{CodecContent, codec_content, audio, video, events, other}
use Rattle.str0m_formats.specs.declared.codec.Codec.{Codec}
use Rattle.str0m_formats.specs.declared.codec.Codec.TheVariants.{G722, AmrWb, H264, H265, H266, Tele}
use Rattle.str0m_formats.specs.declared.codec.codec_spec.CodecSpec.{CodecSpec}
use Rattle.str0m_formats.specs.declared.row.payload_params.PayloadParams.{PayloadParams}
use Rattle.str0m_formats.specs.round.Choices.{IsChoice, choice_points_for}
use Rattle.str0m_formats.specs.round.Claimed.{TypeSet, has}
use Rattle.str0m_formats.specs.round.Narrowing.{narrowed, narrowed_as}
use Rattle.str0m_formats.specs.round.Rounds.{types_taken_by, types_taken_after, placed, settled_row, kept_red, round_red_of_audio}
use Rattle.str0m_formats.specs.round.Rounds.{RoundLeaves}
use Rattle.str0m_formats.specs.row.PayloadParams.{AllTypesSmall, types_of, locked_types, open_types}
use Rattle.str0m_formats.specs.row.PlainRow.{IsPlain, IsPlainG722, HasVideoFeedback, HasPlainTriples, SaysEventsAlone}
use Rattle.str0m_formats.specs.row.PlainRowBounds.{AreModes, IsDistance, IsBounded}

-- ---- a plain row is one of small types, a plain spec, and feedback and RED that go with what the codec carries

record PlainSpec (spec : CodecSpec) : Type 0 where
  carried : codec_content spec.codec ≢ other
  modes : IfSome spec.format.mode_set AreModes
  distance : IfSome spec.format.sprop_max_don_diff IsDistance
  triples : HasPlainTriples spec
  g722 : spec.codec ≡ G722 → IsPlainG722 spec
  telephone : codec_content spec.codec ≡ events → SaysEventsAlone spec.format
  no_maximum : codec_content spec.codec ≢ events → spec.format.telephone_event_max ≡ None

-- whatever its types are
record PlainBeside (row : PayloadParams) : Type 0 where
  spec : PlainSpec row.spec
  as_video : codec_content row.spec.codec ≡ video → HasVideoFeedback row
  redundant : row.red ≢ None → codec_content row.spec.codec ≡ audio

plain_beside : (row : PayloadParams) → IsPlain row → PlainBeside row
plain_beside row p = grind arith

plain : (row : PayloadParams) → AllTypesSmall (types_of row) → PlainBeside row → IsPlain row
plain row small p = grind arith

-- ---- narrowing

events-narrowed : (own chosen : CodecSpec) → own.codec ≡ Tele → PlainSpec own → PlainSpec (narrowed_as Tele own chosen)
events-narrowed own chosen is p = grind arith

h264-narrowed : (own chosen : CodecSpec) → own.codec ≡ H264 → PlainSpec own → PlainSpec (narrowed_as H264 own chosen)
h264-narrowed own chosen is p = grind arith

h265-narrowed : (own chosen : CodecSpec) → own.codec ≡ H265 → PlainSpec own → IfSome chosen.format.sprop_max_don_diff IsDistance
    → PlainSpec (narrowed_as H265 own chosen)
h265-narrowed own chosen is p d = grind arith

h266-narrowed : (own chosen : CodecSpec) → own.codec ≡ H266 → PlainSpec own → IfSome chosen.format.sprop_max_don_diff IsDistance
    → PlainSpec (narrowed_as H266 own chosen)
h266-narrowed own chosen is p d = grind arith

amr_wb-narrowed : (own chosen : CodecSpec) → own.codec ≡ AmrWb → PlainSpec own → IfSome chosen.format.mode_set AreModes
    → PlainSpec (narrowed_as AmrWb own chosen)
amr_wb-narrowed own chosen is p m = grind arith

spec-narrowed : (own chosen : CodecSpec) → PlainSpec own
    → IfSome chosen.format.mode_set AreModes → IfSome chosen.format.sprop_max_don_diff IsDistance
    → PlainSpec (narrowed own chosen)
unfolding narrowed
spec-narrowed own chosen p m d = go own.codec refl where
  go : (codec : Codec) → own.codec ≡ codec → PlainSpec (narrowed_as codec own chosen)
  go Tele e = events-narrowed own chosen e p
  go H265 e = h265-narrowed own chosen e p d
  go H266 e = h266-narrowed own chosen e p d
  go AmrWb e = amr_wb-narrowed own chosen e p m
  go H264 e = h264-narrowed own chosen e p
  go _ e = p

codec-narrowed : (own chosen : CodecSpec) → (narrowed own chosen).codec ≡ own.codec
unfolding narrowed
codec-narrowed own chosen = grind arith

-- ---- a row through both passes

round_audio_alone : (c : CodecContent) (red : Option ℕ) → round_red_of_audio c red ≢ None → c ≡ audio
round_audio_alone c red h = grind arith

placed-plain : (taken unlocked : TypeSet) (receives : Bool) (row new : PayloadParams) (choice : Option PayloadParams)
    → placed taken unlocked receives row choice ≡ Ok new → IfSome choice IsBounded → PlainBeside row → PlainBeside new
placed-plain taken unlocked receives row new None h b p = subst PlainBeside (first_pass_placed-no_choice taken unlocked receives row new h)
    p
placed-plain taken unlocked receives row new (Some c) h b p = go row.locked refl where
  carries : codec_content (narrowed row.spec c.spec).codec ≡ codec_content row.spec.codec
  carries = ap codec_content (codec-narrowed row.spec c.spec)

  as_video : codec_content (narrowed row.spec c.spec).codec ≡ video → HasVideoFeedback row
  as_video e = p.as_video (sym carries ∙ e)

  go : (b : Bool) → row.locked ≡ b → PlainBeside new
  go true l =
      let same = sym (placed-locked_row taken unlocked receives row c l) ∙ h in
      subst PlainBeside (same_row_Ok (record row { spec = narrowed row.spec c.spec }) new same) (record {
        spec = spec-narrowed row.spec c.spec p.spec b.modes b.distance;
        as_video = λ e. let f = as_video e in record { nack = f.nack; pli = f.pli; fir = f.fir; remb = f.remb };
        redundant = λ some. carries ∙ p.redundant some;
      })
  go false l =
      let same = sym (placed-open_row taken unlocked receives row c l) ∙ h in
      subst PlainBeside (locked_parts taken unlocked receives row c new same).all (record {
        spec = spec-narrowed row.spec c.spec p.spec b.modes b.distance;
        as_video = λ e. let f = as_video e in record { nack = f.nack; pli = f.pli; fir = f.fir; remb = f.remb };
        redundant = λ some. carries ∙ round_audio_alone (codec_content row.spec.codec) _ some;
      })

-- a RED is kept or given where there was one
had_red : (locked taken unlocked : TypeSet) (own : Option ℕ) → kept_red locked taken unlocked own ≢ None → own ≢ None
had_red locked taken unlocked own h = grind arith

settled-plain : (locked taken unlocked : TypeSet) (row new : PayloadParams) → settled_row locked taken unlocked row ≡ Ok new
    → PlainBeside row → PlainBeside new
settled-plain locked taken unlocked row new h p = go row.locked refl where
  go : (b : Bool) → row.locked ≡ b → PlainBeside new
  go true l = subst PlainBeside (sym (settled-same locked taken unlocked row new h l)) p
  go false l = subst PlainBeside (settled_parts locked taken unlocked row new h l).all (record {
    spec = p.spec;
    as_video = λ e. let f = p.as_video e in record { nack = f.nack; pli = f.pli; fir = f.fir; remb = f.remb };
    redundant = λ some. p.redundant (had_red locked _ unlocked row.red some);
  })

-- ---- a round

plain_chosen_bounded : (points : PayloadParams → Option ℕ) (remote : List PayloadParams) (choice : Option PayloadParams)
    → IsChoice points remote choice → All IsBounded remote → IfSome choice IsBounded
plain_chosen_bounded points remote None h all = tt
plain_chosen_bounded points remote (Some c) h all = All-contains IsBounded remote c all (pass_split_has remote h.before c h.after h.split)

plain_at_each : (before remote : List PayloadParams) (receives : Bool) (after : List PayloadParams)
    → RoundLeaves before remote receives after
    → All IsPlain before → All IsBounded remote
    → (i : ℕ) (new : PayloadParams) → slice_get after i ≡ Some new → IsPlain new
plain_at_each before remote receives after r all bounded i new at_new =
    let old = row_before before after i new (r.whole ∙ r.first.whole) at_new in
    let steps = row_steps before remote receives after r i old.0 new old.1 at_new in
    let taken = types_taken_by before (take i r.mid) in
    let unlocked = has (open_types before) in
    let choice = plain_chosen_bounded (choice_points_for taken receives old.0) remote steps.became.choice steps.became.is_choice bounded in
    let placed_so = steps.became.placed_so in
    let was = plain_beside old.0 (pass_at_place IsPlain before i old.0 all old.1) in
    let between = placed-plain taken unlocked receives old.0 steps.between steps.became.choice placed_so choice was in
    let given = types_taken_after r.mid (take i after) in
    let now = settled-plain (has (locked_types r.mid)) given unlocked steps.between new steps.then_settled between in
    plain new (row_types_small_at after i new (small_after before remote receives after r) at_new) now

-- plain rows stay plain against rows that keep to their ranges
pub plain_stay : (before remote : List PayloadParams) (receives : Bool) (after : List PayloadParams)
    → RoundLeaves before remote receives after
    → All IsPlain before → All IsBounded remote → All IsPlain after
plain_stay before remote receives after r all bounded = pass_from_places IsPlain after
    (plain_at_each before remote receives after r all bounded)
