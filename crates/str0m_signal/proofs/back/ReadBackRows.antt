-- The last part of the headline: plain, distinct rows, printed in a writable session, are read back, in order.
use Rattle.str0m_sdp.proofs.{DescribesRows}
use Rattle.str0m_signal.proofs.Common.{rules, ◌≡◌, ◌≢◌, ◌<◌, ◌^◌, ℕ, true, List, [], ◌∷◌, length, refl, sym, ◌∙◌, subst, recursion_from_All}
use Rattle.str0m_signal.proofs.Common.{same_Some, HoldsRowNumbers, types, AllTypesDistinct, PayloadParams, is_media, MediaLine, Sdp}
use Rattle.str0m_signal.proofs.Common.{values_printed, IsPlain, All, section_describes_read_back}
use Rattle.str0m_signal.proofs.back.ReadBackPlainRows.{types_fit, plain_rows_read}
use Rattle.str0m_signal.proofs.back.ReadBackWithRows.{section_read, ReadWithRows, with_rows_read}
use Rattle.str0m_signal.proofs.back.WritableAgainLaws.{read_is_writable}
use Rattle.str0m_signal.specs.back.ReadBack.{ReadBack, CanRowsBeReadBack, ReadsBack}
use Rattle.str0m_signal.specs.back.Writable.{Writable}
use Rattle.str0m_signal.specs.back.WritableAgain.{IsWritableOverSrtp, IsRead, MayBeWrittenAgain}

section_reads_back : (sdp : Sdp) (i : ℕ) (w : Writable sdp i) (theirs : List PayloadParams) → sdp.session.id < 2 ^ 64
    → is_media w.section.typ ≡ true → CanRowsBeReadBack theirs → All HoldsRowNumbers theirs → ReadBack sdp i w.section theirs
section_reads_back sdp i w [] small media may holds = absurd (may.some refl)
section_reads_back sdp i w (first ∷ more) small media may holds =
    let theirs = first ∷ more in
    let m = section_read w.section w.own.0 theirs values_printed in
    let frame = w.own.2 in
    let plain = recursion_from_All IsPlain theirs may.plain in
    let d : DescribesRows m theirs =
    section_describes_read_back m w.own.0.attrs theirs
    (record { bare = frame.none_of_type; mid = frame.mid; setup = frame.setup; direction = λ srtp. frame.direction })
    refl refl may.plain holds may.distinct may.some in
    let found : ReadWithRows sdp i w.section m theirs =
    with_rows_read sdp i w first more values_printed small media (types_fit theirs plain)
    (plain_rows_read theirs plain (recursion_from_All HoldsRowNumbers theirs holds)) d.consistent in
    record {
      read = found.read;
      whole = found.whole;
      section = m;
      at = found.at;
      consistent = d.consistent;
      names_one = d.names_one;
      same = d.same;
    }

pub reads_back : (sdp : Sdp) (i : ℕ) → Writable sdp i → (theirs : List PayloadParams) → CanRowsBeReadBack theirs → ReadsBack sdp i theirs
reads_back sdp i w theirs may = λ frame at media fit.
    let same : w.section ≡ frame = same_Some w.section frame (sym w.at ∙ at) in
    subst (λ (m : MediaLine). ReadBack sdp i m theirs) same
    (section_reads_back sdp i w theirs fit.0 (subst (λ (m : MediaLine). is_media m.typ ≡ true) (sym same) media) may fit.1)

-- so are they in each section over Srtp of every session that was read
pub back_in_readings : (theirs : List PayloadParams) → CanRowsBeReadBack theirs → (sdp : Sdp) (i : ℕ) → IsRead sdp → MayBeWrittenAgain sdp
    → IsWritableOverSrtp sdp i → ReadsBack sdp i theirs
back_in_readings theirs may sdp i read fits at = reads_back sdp i (read_is_writable sdp i read fits at) theirs may

some_rows_left : (before after : List PayloadParams) → length after ≡ length before → before ≢ [] → after ≢ []
some_rows_left [] after e some = absurd (some refl)
some_rows_left (row ∷ rows) [] e some = let d = e in absurd cc
some_rows_left (row ∷ rows) (first ∷ more) e some = λ none. absurd cc

-- rows that stay as many, plain and distinct may be printed still
pub rows_still_printable : (before after : List PayloadParams) → length after ≡ length before → (All IsPlain before → All IsPlain after)
    → (AllTypesDistinct (types before) → AllTypesDistinct (types after)) → CanRowsBeReadBack before → CanRowsBeReadBack after
rows_still_printable before after e plain distinct may = search (rules, some_rows_left)
