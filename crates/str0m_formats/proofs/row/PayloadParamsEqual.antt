-- When two rows are the same: `==` of each field but `locked` decides, and so does that of the row.
use Rattle.str0m_formats.proofs.Common.{◌≡◌, ℕ, Bool, true, false, Option, refl, sym, ap, ◌∙◌, Decides, IsEquivalence, Decides-like}
use Rattle.str0m_formats.proofs.Common.{one_answer, equiv}
use Rattle.str0m_formats.proofs.format.FormatParamsDerived.{ParamEqualityTest, param_equality}
use Rattle.str0m_formats.proofs.format.FormatParamsEqual.{spec}
use Rattle.str0m_formats.specs.contracts.row.payload_params.PayloadParamsPartialEq.TheImpl as row
use Rattle.str0m_formats.specs.declared.codec.codec_spec.CodecSpec.{CodecSpec}
use Rattle.str0m_formats.specs.declared.row.payload_params.PayloadParams.{PayloadParams}
use Rattle.str0m_formats.specs.row.PayloadParams.{SameRow}

-- a row but for whether it is locked
abbrev SeenRow : Type 0
SeenRow = ℕ × Option ℕ × Option ℕ × CodecSpec × Bool × Bool × Bool × Bool × Bool

abbrev as_seen_row : PayloadParams → SeenRow
as_seen_row r = (r.pt, r.resend, r.red, r.spec, r.fb_transport_cc, r.fb_fir, r.fb_nack, r.fb_pli, r.fb_remb)

abbrev open_row : SeenRow → PayloadParams
open_row s = record {
  pt = s.0;
  resend = s.1;
  red = s.2;
  spec = s.3;
  fb_transport_cc = s.4;
  fb_fir = s.5;
  fb_nack = s.6;
  fb_pli = s.7;
  fb_remb = s.8;
  locked = false;
}

abbrev eq_seen_row : ParamEqualityTest SeenRow
eq_seen_row = hlevel (spec, param_equality)

pub row_Decides : (a b : PayloadParams) → Decides (row.eq-value.it a b) (SameRow a b)
row_Decides a b =
    Decides-like _ (λ (e : as_seen_row a ≡ as_seen_row b). ap open_row e) (λ (e : SameRow a b). ap as_seen_row e)
    (eq_seen_row.decides (as_seen_row a) (as_seen_row b))

pub row_equivalence : IsEquivalence row.eq-value.it
row_equivalence = equiv (record { symm = symmetric; trans = transitive }) (λ a. (row_Decides a a).1 refl)
  where
    symmetric : (a b : PayloadParams) → row.eq-value.it a b ≡ row.eq-value.it b a
    symmetric a b = one_answer (row.eq-value.it a b) (row.eq-value.it b a) (row_Decides a b)
        (Decides-like (row.eq-value.it b a) sym sym (row_Decides b a))

    transitive : (a b c : PayloadParams) → row.eq-value.it a b ≡ true → row.eq-value.it b c ≡ true → row.eq-value.it a c ≡ true
    transitive a b c p q = (row_Decides a c).1 ((row_Decides a b).0 p ∙ (row_Decides b c).0 q)
