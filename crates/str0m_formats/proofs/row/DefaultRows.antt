-- Default rows are distinct, and stay default while codecs are enabled and disabled.
use Rattle.std.specs.declared.alloc.AllocError.{AllocError}
use Rattle.str0m_formats.proofs.Common.{rules, ◌≡◌, ◌==◌, ℕ, ◌+◌, ◌≤◌, Bool, true, false, not, ◌&&◌, cond, Option, Some, None, option_map}
use Rattle.str0m_formats.proofs.Common.{find, List, [], ◌∷◌, ◌++◌, map, All, Result, Ok, Err, OnOk, OnErr, if◌then◌else◌, refl, sym, ap}
use Rattle.str0m_formats.proofs.Common.{◌∙◌, subst, arith, AllByRecursion, Contains, list_all, flat_map, and_parts, eqb-true, true≢false}
use Rattle.str0m_formats.proofs.Common.{map-append, All-append, All-filter, All-weaker, All-contains, All-nil, unwrap_or, is_ok, IsOk}
use Rattle.str0m_formats.proofs.Common.{All-contains_itself, All-from_recursion, recursion_from_All}
use Rattle.str0m_formats.proofs.format.FormatParamsEqual.{codec_Decides}
use Rattle.str0m_formats.proofs.round.ClaimedTimes.{one_time_if, type_times-cons, type_times-append, all_claimed_apart, claimed_once_within}
use Rattle.str0m_formats.specs.declared.codec.Codec.{Codec}
use Rattle.str0m_formats.specs.declared.codec.TheConstants.{NAMED}
use Rattle.str0m_formats.specs.declared.row.codec_config.CodecConfig.{CodecConfig}
use Rattle.str0m_formats.specs.declared.row.payload_params.PayloadParams.{PayloadParams}
use Rattle.str0m_formats.specs.round.Claimed.{has, type_times, AllTypesDistinct}
use Rattle.str0m_formats.specs.round.MatchScore.{same_codec}
use Rattle.str0m_formats.specs.row.DefaultRows.{default_rows, rows_except, enabled_rows, IsDefault, AreDefault, Enables}
use Rattle.str0m_formats.specs.row.PayloadParams.{types_of, types}

-- the whole table, with its REDs
abbrev default_table : List PayloadParams
default_table = flat_map (λ codec. default_rows codec true) NAMED

-- the payload type of the row that a type stands in
abbrev default_owner : ℕ → ℕ
default_owner t = unwrap_or (option_map (λ row. row.pt) (find (λ row. has (types_of row) t) default_table)) 0

-- whether a payload type is that of a row of the codec
abbrev is_codec : Codec → Option PayloadParams → Bool
is_codec codec None = false
is_codec codec (Some row) = same_codec row.spec.codec codec

abbrev default_at : ℕ → Option PayloadParams
default_at t = find (λ row. row.pt == t) default_table

-- what the table shows of a row: its type is the codec's, each type of it is its own, and stands there once
abbrev KnownDefault : PayloadParams → Type 0
KnownDefault row = (is_codec row.spec.codec (default_at row.pt) ≡ true) × (list_all (λ t. row.pt == default_owner t) (types_of row) ≡ true)
    × (all_claimed_apart (types_of row) ≡ true)

abbrev is_known_default : PayloadParams → Bool
is_known_default row = is_codec row.spec.codec (default_at row.pt)
    && (list_all (λ t. row.pt == default_owner t) (types_of row) && all_claimed_apart (types_of row))

default_rows_known : (codec : Codec) (use_red : Bool) → list_all is_known_default (default_rows codec use_red) ≡ true
default_rows_known codec use_red = grind arith

abbrev default_primaries : List PayloadParams → List ℕ
default_primaries rows = map (λ row. row.pt) rows

-- the payload types of the rows of a codec are those of the codec, and differ
default_rows_once_new : (codec : Codec) (use_red : Bool)
    → (list_all (λ t. is_codec codec (default_at t)) (default_primaries (default_rows codec use_red)) ≡ true)
    × (all_claimed_apart (default_primaries (default_rows codec use_red)) ≡ true)
default_rows_once_new codec use_red = grind arith

default_rows_all_known : (rows : List PayloadParams) → list_all is_known_default rows ≡ true → AllByRecursion KnownDefault rows
default_rows_all_known [] all = tt
default_rows_all_known (row ∷ rows) all = grind (arith, and_parts, default_rows_all_known rows)

known_default : (row : PayloadParams) → IsDefault row → KnownDefault row
known_default row d = let rows = default_rows d.0 d.1 in
    All-contains KnownDefault rows row (All-from_recursion KnownDefault rows (default_rows_all_known rows (default_rows_known d.0 d.1))) d.2

default_all_known : (rows : List PayloadParams) → All IsDefault rows → AllByRecursion KnownDefault rows
default_all_known rows d = recursion_from_All KnownDefault rows (All-weaker IsDefault KnownDefault known_default rows d)

-- ---- distinct

-- a type stands among the types of the rows no more often than the row that owns it among the rows
default_rows_owned_once : (rows : List PayloadParams) → AllByRecursion KnownDefault rows → (t : ℕ)
    → type_times (types rows) t ≤ type_times (default_primaries rows) (default_owner t)
default_rows_owned_once [] k t = omega arith
default_rows_owned_once (row ∷ rows) k t =
    omega (
      arith,
      type_times-append (types_of row) (types rows) t,
      claimed_once_within (λ u. row.pt == default_owner u) (types_of row) k.0.1 k.0.2 t,
      type_times-cons row.pt (default_primaries rows) (default_owner t),
      default_rows_owned_once rows k.1 t,
    )

default_distinct : (rows : List PayloadParams) → AreDefault rows → AllTypesDistinct (types rows)
default_distinct rows d t =
    let o = default_rows_owned_once rows (default_all_known rows d.each) t in
    let w = d.once (default_owner t) in
    omega arith

-- ---- enabling

-- no row of the codec is left among the others
default_rows_others_once : (codec : Codec) (rows : List PayloadParams) → AllByRecursion KnownDefault rows → (t : ℕ)
    → type_times (default_primaries (rows_except codec rows)) t
    ≤ cond {A = ℕ} (is_codec codec (default_at t)) 0 (type_times (default_primaries rows) t)
default_rows_others_once codec [] k t = omega arith
default_rows_others_once codec (row ∷ rows) k t =
    step (same_codec row.spec.codec codec) (row.pt == t) (is_codec codec (default_at t)) (λ e. of_row (eqb-true row.pt t e)) refl
    (default_rows_others_once codec rows k.1 t)
  where
    found : (o : Option PayloadParams) → is_codec row.spec.codec o ≡ true → is_codec codec o ≡ same_codec row.spec.codec codec
    found None e = absurd (true≢false (sym e))
    found (Some r) e = ap (λ c. same_codec c codec) ((codec_Decides r.spec.codec row.spec.codec).0 e)

    of_row : row.pt ≡ t → is_codec codec (default_at t) ≡ same_codec row.spec.codec codec
    of_row same = sym (ap (λ u. is_codec codec (default_at u)) same) ∙ found (default_at row.pt) k.0.0

    step : (b h i : Bool) → (h ≡ true → i ≡ b) → (row.pt == t) ≡ h
        → type_times (default_primaries (rows_except codec rows)) t ≤ cond {A = ℕ} i 0 (type_times (default_primaries rows) t)
        → type_times (default_primaries (cond (not b) (row ∷ rows_except codec rows) (rows_except codec rows))) t
        ≤ cond {A = ℕ} i 0 (type_times (default_primaries (row ∷ rows)) t)
    step true h true own e l = l
    step true h false own e l = omega (arith, type_times-cons row.pt (default_primaries rows) t)
    step false true true own e l = absurd (true≢false (own refl))
    step false false true own e l = omega (
      arith,
      type_times-cons row.pt (default_primaries (rows_except codec rows)) t,
      one_time_if (row.pt == t) false e,
    )
    step false h false own e l = omega (
      arith,
      type_times-cons row.pt (default_primaries (rows_except codec rows)) t,
      type_times-cons row.pt (default_primaries rows) t,
    )

new_default : (codec : Codec) (use_red : Bool) → All IsDefault (default_rows codec use_red)
new_default codec use_red =
    All-weaker (Contains (default_rows codec use_red)) IsDefault (λ row c. (codec, use_red, c)) (default_rows codec use_red)
    (All-contains_itself (default_rows codec use_red))

default_rows_once_both : (i : Bool) (a b n : ℕ) → a ≤ cond {A = ℕ} i 0 n → b ≤ cond {A = ℕ} i 1 0 → n ≤ 1 → a + b ≤ 1
default_rows_once_both i a b n h k l = grind arith

-- rows of the codec come last
default_rows_put_last : (codec : Codec) (new rows : List PayloadParams) → All IsDefault new
    → ((t : ℕ) → type_times (default_primaries new) t ≤ cond {A = ℕ} (is_codec codec (default_at t)) 1 0) → AreDefault rows
    → AreDefault (rows_except codec rows ++ new)
default_rows_put_last codec new rows all once d = record {
  each = All-append IsDefault (rows_except codec rows) new (All-filter (λ row. not (same_codec row.spec.codec codec)) IsDefault rows d.each)
      all;
  once = λ t.
      let joined : type_times (default_primaries (rows_except codec rows ++ new)) t
      ≡ type_times (default_primaries (rows_except codec rows)) t
      + type_times (default_primaries new) t =
      ap (λ ts. type_times ts t) (map-append (λ row. row.pt) (rows_except codec rows) new)
      ∙ type_times-append (default_primaries (rows_except codec rows)) (default_primaries new) t in
      let both = default_rows_once_both (is_codec codec (default_at t)) (type_times (default_primaries (rows_except codec rows)) t)
      (type_times (default_primaries new) t)
      (type_times (default_primaries rows) t) (default_rows_others_once codec rows (default_all_known rows d.each) t) (once t) (d.once t) in
      omega arith;
}

enabled_stay : (codec : Codec) (enabled use_red : Bool) (rows : List PayloadParams) → AreDefault rows
    → AreDefault (enabled_rows codec enabled use_red rows)
enabled_stay codec true use_red rows d =
    search (
      rules,
      default_rows_put_last codec (default_rows codec use_red) rows,
      new_default codec use_red,
      claimed_once_within,
      default_rows_once_new codec use_red,
    )
enabled_stay codec false use_red rows d = default_rows_put_last codec [] rows (All-nil IsDefault) (λ t. omega arith) d

-- whatever a call answers that enables or disables a codec
default_stay : (r : Result (Unit {0}) AllocError) (codec : Codec) (enabled use_red : Bool) (old new : CodecConfig)
    → OnOk r (new.params.items ≡ enabled_rows codec enabled use_red old.params.items) → OnErr r (new ≡ old)
    → AreDefault old.params.items → AreDefault new.params.items
default_stay (Ok x) codec enabled use_red old new ok err d = grind (arith, enabled_stay codec enabled use_red old.params.items d)
default_stay (Err e) codec enabled use_red old new ok err d = subst (λ (config : CodecConfig). AreDefault config.params.items) (sym err) d

pub enables : (codec : Codec) (enabled use_red : Bool) (old new : CodecConfig) (r : Result (Unit {0}) AllocError)
    → OnOk r (new.params.items ≡ enabled_rows codec enabled use_red old.params.items) → OnErr r (new ≡ old)
    → (enabled ≡ false → IsOk r) → new.red_distances ≡ old.red_distances → Enables codec enabled use_red old new r
enables codec enabled use_red old new r ok err without distances =
    search (rules, default_stay r codec enabled use_red old new ok err, default_distinct new.params.items)

-- what a call answers that takes the rows of a codec out and appends others
pub put_rows_ok : (r : Result (Unit {0}) AllocError) (codec : Codec) (old kept rows new : List PayloadParams) → kept ≡ rows_except codec old
    → new ≡ (if is_ok r then kept ++ rows else kept) → OnOk r (new ≡ rows_except codec old ++ rows)
put_rows_ok r codec old kept rows new k e = grind arith
