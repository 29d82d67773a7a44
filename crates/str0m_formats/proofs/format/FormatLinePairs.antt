-- A format that is printed as an fmtp line: its pairs, and what they read as.
use Rattle.str0m_formats.proofs.Common.{◌≡◌, ◌≢◌, ℕ, false, List, [], ◌∷◌, ◌++◌, length, map, Option, Some, None, IfSome, option_map, inl}
use Rattle.str0m_formats.proofs.Common.{inr, refl, sym, arith, ap, subst, ◌∙◌, AllByRecursion, cons_option, list_any, append-nil}
use Rattle.str0m_formats.proofs.Common.{map-append, IsRest, filter_map}
use Rattle.str0m_formats.proofs.format.FormatLineAgain.{format_pieces_of_fields, all_pairs, format_linked_texts, format_texts_alike}
use Rattle.str0m_formats.proofs.format.FormatLineAgain.{format_field_order_of}
use Rattle.str0m_formats.proofs.format.FormatParamsSet.{param_is, set_each}
use Rattle.str0m_formats.proofs.format.FormatParamsShown.{joined_pair, shown_slots_at, bare_params_at, IsSolidPair, entry_at}
use Rattle.str0m_formats.proofs.format.FormatParamsShown.{format_field_shows}
use Rattle.str0m_formats.proofs.format.PairsRows.{given_pair_slots}
use Rattle.str0m_formats.specs.declared.codec.Codec.{Codec}
use Rattle.str0m_formats.specs.declared.codec.Codec.TheVariants as codec
use Rattle.str0m_formats.specs.declared.format.format_key.FormatKey.{FormatKey}
use Rattle.str0m_formats.specs.declared.format.format_key.FormatKey.TheVariants as key
use Rattle.str0m_formats.specs.declared.format.format_param.FormatParam.{FormatParam}
use Rattle.str0m_formats.specs.declared.format.format_param.FormatParam.TheVariants.{TelephoneEvents, BareRange, BarePtList}
use Rattle.str0m_formats.specs.declared.format.format_param.FormatParam.TheVariants.{AmrWbUnsupported, Apt, Red, Unknown}
use Rattle.str0m_formats.specs.declared.format.format_params.Field.{Field}
use Rattle.str0m_formats.specs.declared.format.format_params.Field.TheVariants as field
use Rattle.str0m_formats.specs.declared.format.format_params.FormatParams.{FormatParams}
use Rattle.str0m_formats.specs.declared.format.format_params.TheConstants.{FIELDS}
use Rattle.str0m_formats.specs.format.FormatLine.{is_event, is_unsupported_param, format_lines_ask_absent, line_without_event_ranges}
use Rattle.str0m_formats.specs.format.FormatLine.{params_of_lines}
use Rattle.str0m_formats.specs.format.FormatLine.{format_of_fmtp}
use Rattle.str0m_formats.specs.format.FormatParam.{HeldParamValue, kind, keyed, entry, param_text}
use Rattle.str0m_formats.specs.format.FormatParams.{empty, get, param_in, set_all, param_at, params_of, CanFormatBeReadBack}
use Rattle.str0m_formats.specs.format.PairsReading.{params_read}

-- a parameter of a field: not one that only lines hold, and no range of events
abbrev pub IsOwnParam : FormatParam → Type 0
IsOwnParam (TelephoneEvents n) = ⊥
IsOwnParam (BareRange n) = ⊥
IsOwnParam (BarePtList pt) = ⊥
IsOwnParam AmrWbUnsupported = ⊥
IsOwnParam (Apt pt) = ⊥
IsOwnParam (Red pt) = ⊥
IsOwnParam Unknown = ⊥
IsOwnParam param = Unit {0}

some_param_has : {A : Type 0} (P : FormatParam → Type 0) (make : A → FormatParam) (o : Option A) → ((x : A) → P (make x))
    → IfSome (option_map make o) P
some_param_has P make o each = grind arith

key_own : (k : FormatKey) (p : FormatParams) → IfSome (option_map (keyed k) (get (field.Key k) p)) IsOwnParam
key_own key.Apt p = tt
key_own key.Crc p = tt
key_own key.RobustSorting p = tt
key_own key.ModeChangePeriod p = tt
key_own key.Interleaving p = tt
key_own k p = some_param_has IsOwnParam (keyed k) (get (field.Key k) p) (λ x. tt)

format_own_param_in : (f : Field) (p : FormatParams) → p.telephone_event_max ≡ None → IfSome (option_map (param_in f) (get f p)) IsOwnParam
format_own_param_in (field.Key k) p none = key_own k p
format_own_param_in field.H265ProfileTierLevel p none = some_param_has IsOwnParam _ p.h265_profile_tier_level (λ x. tt)
format_own_param_in field.H266ProfileTierLevel p none = some_param_has IsOwnParam _ p.h266_profile_tier_level (λ x. tt)
format_own_param_in field.TelephoneEvents p none = rw none tt

format_own_param_at : (f : Field) (p : FormatParams) → p.telephone_event_max ≡ None → IfSome (param_at f p) IsOwnParam
format_own_param_at f p none = subst (λ o. IfSome o IsOwnParam) (sym (param_is f p)) (format_own_param_in f p none)

format_params_each_step : (P : FormatParam → Type 0) (o : Option FormatParam) (params : List FormatParam) → IfSome o P
    → AllByRecursion P params
    → AllByRecursion P (cons_option o params)
format_params_each_step P o params h k = grind arith

format_own_params_all : (fs : List Field) (p : FormatParams) → p.telephone_event_max ≡ None
    → AllByRecursion IsOwnParam (filter_map (λ f. param_at f p) fs)
format_own_params_all [] p none = tt
format_own_params_all (f ∷ fs) p none = format_params_each_step IsOwnParam (param_at f p) (filter_map (λ f. param_at f p) fs)
    (format_own_param_at f p none) (format_own_params_all fs p none)

-- ---- each parameter of a format prints something

abbrev PrintsSomeParam : FormatParam → Type 0
PrintsSomeParam param = IsRest (param_text param)

key_prints : (k : FormatKey) (o : Option (HeldParamValue (kind k))) → IfSome o (λ x. entry (keyed k x) ≡ Some (k, x))
    → IfSome (option_map (keyed k) o) PrintsSomeParam
key_prints k o is = grind arith

format_field_prints : (f : Field) (p : FormatParams) → IfSome (option_map (param_in f) (get f p)) PrintsSomeParam
format_field_prints (field.Key k) p = key_prints k (get (field.Key k) p) (entry_at k p)
format_field_prints field.H265ProfileTierLevel p = some_param_has PrintsSomeParam _ p.h265_profile_tier_level (λ x. omega arith)
format_field_prints field.H266ProfileTierLevel p = some_param_has PrintsSomeParam _ p.h266_profile_tier_level (λ x. omega arith)
format_field_prints field.TelephoneEvents p = some_param_has PrintsSomeParam _ p.telephone_event_max (λ x. omega arith)

format_fields_print : (fs : List Field) (p : FormatParams) → AllByRecursion PrintsSomeParam (filter_map (λ f. param_at f p) fs)
format_fields_print [] p = tt
format_fields_print (f ∷ fs) p = grind (arith, format_params_each_step, param_is, format_field_prints, format_fields_print fs p)

pub params_print : (p : FormatParams) → AllByRecursion (λ param. IsRest (param_text param)) (params_of p)
unfolding params_of
params_print p = format_fields_print FIELDS p

-- ---- pairs alone, where there is no range of events

pub format_all_of_both : {A : Type 0} (P : A → Type 0) (xs ys : List A) → AllByRecursion P xs → AllByRecursion P ys
    → AllByRecursion P (xs ++ ys)
format_all_of_both P [] ys h k = k
format_all_of_both P (x ∷ xs) ys h k = (h.0, format_all_of_both P xs ys h.1 k)

no_bare_params : (f : Field) (p : FormatParams) → p.telephone_event_max ≡ None → bare_params_at f p ≡ []
no_bare_params f p none = grind arith

format_pieces_are_joined : (fs : List Field) (p : FormatParams) → p.telephone_event_max ≡ None
    → format_pieces_of_fields fs p ≡ map joined_pair (all_pairs fs p)
format_pieces_are_joined [] p none = refl
format_pieces_are_joined (f ∷ fs) p none = grind (arith, no_bare_params, append-nil, format_pieces_are_joined fs p none, map-append)

solid_pairs : (fs : List Field) (p : FormatParams) → CanFormatBeReadBack p → AllByRecursion IsSolidPair (all_pairs fs p)
solid_pairs [] p h = tt
solid_pairs (f ∷ fs) p h = format_all_of_both IsSolidPair (given_pair_slots (shown_slots_at f p)) (all_pairs fs p)
    (format_field_shows f p (h.values f)).plain
    (solid_pairs fs p h)

-- what the line of a format is
pub record IsFormatLineOf (p : FormatParams) (pairs : List (List ℕ × List ℕ)) : Type 0 where
  pub plain : AllByRecursion IsSolidPair pairs
  pub text : format_linked_texts (map param_text (params_of p)) ≡ format_linked_texts (map joined_pair pairs)
  pub some : params_of p ≢ [] → pairs ≢ []
  pub none : params_of p ≡ [] → pairs ≡ []
  pub own : AllByRecursion IsOwnParam (params_read pairs)
  pub format : set_all empty (params_read pairs) ≡ p

format_no_pairs_joined : (pairs : List (List ℕ × List ℕ)) → map joined_pair pairs ≡ [] → pairs ≡ []
format_no_pairs_joined [] e = refl
format_no_pairs_joined (pair ∷ pairs) e = absurd cc

pub line_of_pairs : (p : FormatParams) → CanFormatBeReadBack p → p.telephone_event_max ≡ None → IsFormatLineOf p (all_pairs FIELDS p)
unfolding params_of
line_of_pairs p h none =
    let order = format_field_order_of p h p.h265_profile_tier_level p.h266_profile_tier_level refl refl in
    let pairs = all_pairs FIELDS p in
    let same = format_pieces_are_joined FIELDS p none in
    record {
      plain = solid_pairs FIELDS p h;
      text = elim (format_texts_alike FIELDS p h.values) [
        | inl none_at_all ↦ ap format_linked_texts none_at_all.0 ∙ ap format_linked_texts (sym none_at_all.1 ∙ same)
        | inr some ↦ some.2 ∙ ap format_linked_texts same
      ];
      some = λ given_some nothing. elim (format_texts_alike FIELDS p h.values) [
        | inl none_at_all ↦ given_some (none_of (filter_map (λ f. param_at f p) FIELDS) none_at_all.0)
        | inr some ↦ absurd (omega (arith, some.1, ap (λ (t : List (List ℕ)). length t) (same ∙ ap (map joined_pair) nothing)))
      ];
      none = λ given_none. elim (format_texts_alike FIELDS p h.values) [
        | inl none_at_all ↦ format_no_pairs_joined pairs (sym same ∙ none_at_all.1)
        | inr some ↦ absurd (omega (arith, some.0, ap (λ (params : List FormatParam). length (map param_text params)) given_none))
      ];
      own = subst (AllByRecursion IsOwnParam) (sym order.read) (format_own_params_all order.order p none);
      format =
          ap (set_all empty) order.read
          ∙ ap (λ (o : Option FormatParam). set_all empty (cons_option o (filter_map (λ f. param_at f p) order.order)))
          (sym (ap (λ (o : Option ℕ). option_map (λ n. TelephoneEvents n) o) none))
          ∙ set_each (field.TelephoneEvents ∷ order.order) p empty order.fresh ∙ order.whole;
    }
  where
    none_of : (params : List FormatParam) → map param_text params ≡ [] → params ≡ []
    none_of [] e = refl
    none_of (q ∷ qs) e = absurd cc

-- ---- the format that such a line says

format_own_param_kept : (q : FormatParam) (params : List FormatParam) → IsOwnParam q → line_without_event_ranges params ≡ params
    → line_without_event_ranges (q ∷ params) ≡ q ∷ params
unfolding is_event
format_own_param_kept q params mine e = grind arith

format_own_params_kept : (params : List FormatParam) → AllByRecursion IsOwnParam params → line_without_event_ranges params ≡ params
format_own_params_kept [] own = refl
format_own_params_kept (q ∷ params) own = format_own_param_kept q params own.0 (format_own_params_kept params own.1)

supported_param_one : (q : FormatParam) (params : List FormatParam) → IsOwnParam q → list_any is_unsupported_param params ≡ false
    → list_any is_unsupported_param (q ∷ params) ≡ false
unfolding is_unsupported_param
supported_param_one q params mine e = grind arith

format_own_params_supported : (params : List FormatParam) → AllByRecursion IsOwnParam params → list_any is_unsupported_param params ≡ false
format_own_params_supported [] own = refl
format_own_params_supported (q ∷ params) own = supported_param_one q params own.0 (format_own_params_supported params own.1)

-- a line of own parameters is read as the format that they make, for every codec but telephone events
format_own_params_values : (params : List FormatParam) → AllByRecursion IsOwnParam params → params_of_lines (params ∷ []) ≡ params
format_own_params_values params own = append-nil (line_without_event_ranges params) ∙ format_own_params_kept params own

format_params_not_refused : (c : Codec) (params : List FormatParam) → AllByRecursion IsOwnParam params
    → format_lines_ask_absent c (params ∷ []) ≡ false
unfolding format_lines_ask_absent
format_params_not_refused c params own = grind (arith, format_own_params_supported)

pub format_said : (c : Codec) (p : FormatParams) (params : List FormatParam) → c ≢ codec.Tele → AllByRecursion IsOwnParam params
    → set_all empty params ≡ p → format_of_fmtp c (params ∷ []) ≡ Some p
format_said c p params other own e = grind (arith, format_params_not_refused, format_own_params_values)
