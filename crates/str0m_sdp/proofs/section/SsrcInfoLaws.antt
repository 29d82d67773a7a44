-- What is gathered of sources, attribute by attribute, is what the attributes say.
use Rattle.std.proofs.lemmas.Map.Entries.{lookup_from_place}
use Rattle.std.specs.Map.{values_of}
use Rattle.str0m_sdp.proofs.Common.{arith, ◌≡◌, ◌<◌, ◌+◌, ◌&&◌, ℕ, suc, Bool, true, false, cond, nat_eq, List, [], ◌∷◌, ◌++◌, get_or}
use Rattle.str0m_sdp.proofs.Common.{length, map, take, Option, None, Some, refl, sym, ap, subst, ◌∙◌, append_assoc, true≢false, codes}
use Rattle.str0m_sdp.proofs.Common.{slice_get, nat_eq_equiv, bytes_decides, cons_option, IsDistinct, lookup, option_or, unwrap_or}
use Rattle.str0m_sdp.proofs.Common.{str_eq_ignore_ascii_case, append-nil, take_more, filter_map-append, insert_entry, insert_key}
use Rattle.str0m_sdp.proofs.Common.{insert_all, when, eqb-true, filter_map, option_map, option_flatten, str_to_ascii_lowercase, fold-append}
use Rattle.str0m_sdp.proofs.Common.{◌>>=◌, cut, before, keys_of}
use Rattle.str0m_sdp.proofs.session.DistinctCandidatesLaws.{distinct_unseen_inserted-distinct, distinct-apart}
use Rattle.str0m_sdp.specs.Common.{last, distinct}
use Rattle.str0m_sdp.specs.declared.attribute.MediaAttribute.{MediaAttribute}
use Rattle.str0m_sdp.specs.declared.attribute.MediaAttribute.TheVariants.{Ssrc}
use Rattle.str0m_sdp.specs.declared.section.ssrc_info.SsrcInfo.{SsrcInfo}
use Rattle.str0m_sdp.specs.section.SsrcInfo.{source_of, repair_pair, repair_source, source_value_of, repaired_by, source_cname_said}
use Rattle.str0m_sdp.specs.section.SsrcInfo.{source_id_of}
use Rattle.str0m_sdp.specs.section.SsrcInfo.{stream_said, source_track_said, latest_source_said, info, infos, empty_info}
use Rattle.str0m_sdp.specs.section.SsrcInfoReading.{source_track_after, source_with_ids, source_with_value, source_so_far, info_from}
use Rattle.str0m_sdp.specs.section.SsrcInfoReading.{AreSourcesGathered}

-- ---- entries with a number as their key

module _ {V : Type 0} where
  ssrc_keys_put : (es : List (ℕ × V)) (k : ℕ) (v : V) → keys_of (insert_entry nat_eq es k v) ≡ insert_key nat_eq (keys_of es) k
  ssrc_keys_put [] k v = refl
  ssrc_keys_put (e ∷ es) k v = grind (arith, ssrc_keys_put es k v)

  ssrc_looked_up : (es : List (ℕ × V)) (k s : ℕ) (v : V) → lookup (nat_eq s) (insert_entry nat_eq es k v)
      ≡ cond (nat_eq k s) (Some v) (lookup (nat_eq s) es)
  ssrc_looked_up [] k s v = ap (λ b. cond b (Some v) None) (nat_eq_equiv.symm s k)
  ssrc_looked_up (e ∷ es) k s v = grind (arith, ssrc_looked_up es k s v, nat_eq_equiv)

  -- values that follow from their keys
  source_keyed : (f : ℕ → V) (es : List (ℕ × V)) → ((i : ℕ) (e : ℕ × V) → slice_get es i ≡ Some e → e.1 ≡ f e.0)
      → values_of es ≡ map f (keys_of es)
  source_keyed f [] same = refl
  source_keyed f (e ∷ es) same = λ i. same 0 e refl i ∷ source_keyed f es (λ j x at. same (suc j) x at) i

-- ---- what one more attribute says

ssrc_last_pushed : {X : Type 0} (xs : List X) (x : X) → last (xs ++ x ∷ []) ≡ Some x
ssrc_last_pushed [] x = refl
ssrc_last_pushed (y ∷ ys) x = ap (λ o. option_or o (Some y)) (ssrc_last_pushed ys x)

ssrc_latest_more : {X : Type 0} (said : MediaAttribute → Option X) (attrs : List MediaAttribute) (attr : MediaAttribute)
    → latest_source_said said (attrs ++ attr ∷ []) ≡ option_or (said attr) (latest_source_said said attrs)
ssrc_latest_more {X} said attrs attr = grind (arith, filter_map-append, append-nil, ssrc_last_pushed)

-- the track that a value names
abbrev source_track_named : List ℕ → Option (Option (List ℕ))
source_track_named value = option_map (λ parts. source_id_of (before 32 parts.1)) (cut 32 value)

source_track_set : (parts : Option (List ℕ × List ℕ)) (old : Option (Option (List ℕ)))
    → option_flatten (option_or (option_map (λ p. source_id_of (before 32 p.1)) parts) old) ≡ source_track_after parts (option_flatten old)
source_track_set parts old = grind arith

module _ (groups values : List MediaAttribute) where
  -- with the name and the ids that one more attribute gives
  abbrev ssrc_more_said : ℕ → Option (List ℕ) → Option (List ℕ) → SsrcInfo
  ssrc_more_said s cname ids = record {
    ssrc = s;
    repairs = latest_source_said (repaired_by s) groups;
    cname = option_or cname (latest_source_said (source_cname_said s) values);
    stream_id = option_flatten (option_or (option_map (λ value. source_id_of (before 32 value)) ids)
        (latest_source_said (stream_said s) values));
    track_id = option_flatten (option_or (ids >>= source_track_named) (latest_source_said (source_track_said s) values));
  }

  ssrc_value_more : (attr : MediaAttribute) (s : ℕ) (cname ids : Option (List ℕ)) → source_value_of (codes "cname") s attr ≡ cname
      → source_value_of (codes "msid") s attr ≡ ids → info_from groups (values ++ attr ∷ []) s ≡ ssrc_more_said s cname ids
  ssrc_value_more attr s cname ids named has = grind (arith, ssrc_latest_more, source_cname_said, stream_said, source_track_said)

  group_more : (attr : MediaAttribute) (s : ℕ) (repaired : Option ℕ) → repaired_by s attr ≡ repaired
      → info_from (groups ++ attr ∷ []) values s ≡ record (info_from groups values s)
      { repairs = option_or repaired (latest_source_said (repaired_by s) groups) }
  group_more attr s repaired is = grind (arith, ssrc_latest_more)

  -- an attribute that isn't of a source says nothing
  ssrc_other_value : (attr : MediaAttribute) → ((k : ℕ) (name value : List ℕ) → attr ≡ Ssrc k name value → ⊥) → (s : ℕ)
      → info_from groups (values ++ attr ∷ []) s ≡ info_from groups values s
  ssrc_other_value attr other s = grind (arith, ssrc_value_more attr s None None)

  -- one that is of a source sets what it says of that one
  ssrc_one_value_set : (k : ℕ) (name value : List ℕ) (s : ℕ)
      → cond (nat_eq k s) (source_with_value name value (info_from groups values k)) (info_from groups values s)
      ≡ info_from groups (values ++ Ssrc k name value ∷ []) s
  ssrc_one_value_set k name value s = by (nat_eq k s) refl (str_eq_ignore_ascii_case name (codes "cname")) refl
      (str_eq_ignore_ascii_case name (codes "msid")) refl
    where
      attr : MediaAttribute
      attr = Ssrc k name value

      valued : (wanted : List ℕ) (b t : Bool) → nat_eq k s ≡ b → str_eq_ignore_ascii_case name wanted ≡ t
          → source_value_of wanted s (Ssrc k name value) ≡ when (b && t) value
      valued wanted b t p q = λ i. when (p i && q i) value

      -- no name is both
      one_name : str_eq_ignore_ascii_case name (codes "cname") ≡ true → str_eq_ignore_ascii_case name (codes "msid") ≡ true → ⊥
      one_name p q =
          let cname = (bytes_decides (str_to_ascii_lowercase name) (str_to_ascii_lowercase (codes "cname"))).0 p in
          let msid = (bytes_decides (str_to_ascii_lowercase name) (str_to_ascii_lowercase (codes "msid"))).0 q in
          true≢false (sym ((bytes_decides (str_to_ascii_lowercase (codes "cname")) (str_to_ascii_lowercase (codes "msid"))).1
          (sym cname ∙ msid)))

      by : (b : Bool) → nat_eq k s ≡ b → (t : Bool) → str_eq_ignore_ascii_case name (codes "cname") ≡ t → (u : Bool)
          → str_eq_ignore_ascii_case name (codes "msid") ≡ u
          → cond b (cond t (record (info_from groups values k) { cname = Some value })
          (cond u (source_with_ids value (info_from groups values k)) (info_from groups values k))) (info_from groups values s)
          ≡ info_from groups (values ++ Ssrc k name value ∷ []) s
      by false p t q u r = sym (ssrc_value_more (Ssrc k name value) s None None (valued (codes "cname") false t p q)
          (valued (codes "msid") false u p r))
      by true p true q true r = absurd (one_name q r)
      by true p true q false r =
          ap (λ n. record (info_from groups values n) { cname = Some value }) (eqb-true k s p)
          ∙ sym (ssrc_value_more (Ssrc k name value) s (Some value) None (valued (codes "cname") true true p q)
          (valued (codes "msid") true false p r))
      by true p false q true r =
          ap (λ n. source_with_ids value (info_from groups values n)) (eqb-true k s p)
          ∙ (λ i. record (source_with_ids value (info_from groups values s))
          { track_id = sym (source_track_set (cut 32 value) (latest_source_said (source_track_said s) values)) i })
          ∙ sym (ssrc_value_more (Ssrc k name value) s None (Some value) (valued (codes "cname") true false p q)
          (valued (codes "msid") true true p r))
      by true p false q false r =
          ap (λ n. info_from groups values n) (eqb-true k s p)
          ∙ sym (ssrc_value_more (Ssrc k name value) s None None (valued (codes "cname") true false p q)
          (valued (codes "msid") true false p r))

  -- what isn't a group of two says of no source that it repairs another
  other_group : (attr : MediaAttribute) → repair_pair attr ≡ None → (s : ℕ)
      → info_from (groups ++ attr ∷ []) values s ≡ info_from groups values s
  other_group attr none s = group_more attr s None (ap (λ o. o >>= (λ pair. when (nat_eq pair.1 s) pair.0)) none)

  -- such a group says it of its second source
  one_group : (attr : MediaAttribute) (first second : ℕ) → repair_pair attr ≡ Some (first, second) → (s : ℕ)
      → cond (nat_eq second s) (record (info_from groups values second) { repairs = Some first }) (info_from groups values s)
      ≡ info_from (groups ++ attr ∷ []) values s
  one_group attr first second is s = grind (arith, eqb-true, group_more)

-- ---- what is gathered

-- one more entry is put in
sources_gathered_put : (sources : List ℕ) (groups values groups' values' : List MediaAttribute) (es new : List (ℕ × SsrcInfo)) (k : ℕ)
    (v : SsrcInfo) → AreSourcesGathered sources groups values es → new ≡ insert_entry nat_eq es k v
    → ((s : ℕ) → cond (nat_eq k s) v (info_from groups values s) ≡ info_from groups' values' s)
    → AreSourcesGathered (sources ++ k ∷ []) groups' values' new
sources_gathered_put sources groups values groups' values' es new k v h put step = record {
  keys = ap keys_of put ∙ ssrc_keys_put es k v ∙ ap (λ l. insert_key nat_eq l k) h.keys
      ∙ sym (fold-append (insert_key nat_eq) [] sources (k ∷ []));
  said = λ s.
      ap (λ es. source_so_far es s) put ∙ ap (λ o. unwrap_or o (empty_info s)) (ssrc_looked_up es k s v)
      ∙ inside (nat_eq k s) (lookup (nat_eq s) es) (empty_info s)
      ∙ ap (λ info. cond (nat_eq k s) v info) (h.said s) ∙ step s;
}
  where
    inside : (b : Bool) (o : Option SsrcInfo) (d : SsrcInfo) → unwrap_or (cond b (Some v) o) d ≡ cond b v (unwrap_or o d)
    inside true o d = refl
    inside false o d = refl

-- the attributes up to one, and that one
source_take_line : (lines : List MediaAttribute) (i : ℕ) (line : MediaAttribute) → i < length lines → line ≡ get_or lines i line
    → take (i + 1) lines ≡ take i lines ++ line ∷ []
source_take_line lines i line inside at = take_more lines i line inside ∙ ap (λ l. take i lines ++ l ∷ []) (sym at)

ssrc_line_chosen : (said : MediaAttribute → Option ℕ) (done : List MediaAttribute) (line : MediaAttribute) (o : Option ℕ) → said line ≡ o
    → filter_map said done ++ cons_option o [] ≡ filter_map said (done ++ line ∷ [])
ssrc_line_chosen said done line o is = ap (λ o. filter_map said done ++ cons_option o []) (sym is)
    ∙ sym (filter_map-append said done (line ∷ []))

pub ssrc_put_value : (lines : List MediaAttribute) (i : ℕ) (line : MediaAttribute) (k : ℕ) (name value : List ℕ)
    (es new : List (ℕ × SsrcInfo))
    → i < length lines → line ≡ get_or lines i line → line ≡ Ssrc k name value
    → AreSourcesGathered (filter_map source_of (take i lines)) [] (take i lines) es
    → new ≡ insert_entry nat_eq es k (source_with_value name value (source_so_far es k))
    → AreSourcesGathered (filter_map source_of (take (i + 1) lines)) [] (take (i + 1) lines) new
ssrc_put_value lines i line k name value es new inside at is h put =
    let done = take i lines in
    let more : take (i + 1) lines ≡ done ++ Ssrc k name value ∷ [] =
    source_take_line lines i line inside at ∙ ap (λ l. done ++ l ∷ []) is in
    let set : new ≡ insert_entry nat_eq es k (source_with_value name value (info_from [] done k)) =
    put ∙ ap (λ info. insert_entry nat_eq es k (source_with_value name value info)) (h.said k) in
    subst (λ l. AreSourcesGathered (filter_map source_of l) [] l new) (sym more)
    (subst (λ sources. AreSourcesGathered sources [] (done ++ Ssrc k name value ∷ []) new)
    (ssrc_line_chosen source_of done (Ssrc k name value) (Some k) refl)
    (sources_gathered_put _ [] done [] (done ++ Ssrc k name value ∷ []) es new k _ h set (ssrc_one_value_set [] done k name value)))

pub ssrc_pass_value : (lines : List MediaAttribute) (i : ℕ) (line : MediaAttribute) (es new : List (ℕ × SsrcInfo)) → i < length lines
    → line ≡ get_or lines i line → ((k : ℕ) (name value : List ℕ) → line ≡ Ssrc k name value → ⊥)
    → AreSourcesGathered (filter_map source_of (take i lines)) [] (take i lines) es → new ≡ es
    → AreSourcesGathered (filter_map source_of (take (i + 1) lines)) [] (take (i + 1) lines) new
ssrc_pass_value lines i line es new inside at other h same =
    let done = take i lines in
    subst (λ l. AreSourcesGathered (filter_map source_of l) [] l new) (sym (source_take_line lines i line inside at)) (record {
      keys = ap keys_of same ∙ h.keys ∙ ap (insert_all nat_eq [])
          (sym (append-nil (filter_map source_of done)) ∙ ssrc_line_chosen source_of done line None (no_source line other));
      said = λ s. ap (λ es. source_so_far es s) same ∙ h.said s ∙ sym (ssrc_other_value [] done line other s);
    })
  where
    no_source : (line : MediaAttribute) → ((k : ℕ) (name value : List ℕ) → line ≡ Ssrc k name value → ⊥) → source_of line ≡ None
    no_source (Ssrc k name value) other = absurd (other k name value refl)
    no_source _ other = refl

module _ (sources : List ℕ) (lines : List MediaAttribute) (i : ℕ) (line : MediaAttribute) (es new : List (ℕ × SsrcInfo))
    (inside : i < length lines) (at : line ≡ get_or lines i line)
    (h : AreSourcesGathered (sources ++ filter_map repair_source (take i lines)) (take i lines) lines es) where
  pub put_repair : (pair : ℕ × ℕ) → repair_pair line ≡ Some pair
      → new ≡ insert_entry nat_eq es pair.1 (record (source_so_far es pair.1) { repairs = Some pair.0 })
      → AreSourcesGathered (sources ++ filter_map repair_source (take (i + 1) lines)) (take (i + 1) lines) lines new
  put_repair pair is put =
      let done = take i lines in
      let set : new ≡ insert_entry nat_eq es pair.1 (record (info_from done lines pair.1) { repairs = Some pair.0 }) =
      put ∙ ap (λ info. insert_entry nat_eq es pair.1 (record info { repairs = Some pair.0 })) (h.said pair.1) in
      let more : (sources ++ filter_map repair_source done) ++ pair.1 ∷ [] ≡ sources ++ filter_map repair_source (done ++ line ∷ []) =
      append_assoc sources (filter_map repair_source done) (pair.1 ∷ [])
      ∙ ap (λ l. sources ++ l) (ssrc_line_chosen repair_source done line (Some pair.1) (ap (option_map (λ pair. pair.1)) is)) in
      subst (λ l. AreSourcesGathered (sources ++ filter_map repair_source l) l lines new) (sym (source_take_line lines i line inside at))
      (subst (λ l. AreSourcesGathered l (done ++ line ∷ []) lines new) more
      (sources_gathered_put _ done lines (done ++ line ∷ []) lines es new pair.1 _ h set (one_group done lines line pair.0 pair.1 is)))

  pub pass_repair : repair_pair line ≡ None → new ≡ es
      → AreSourcesGathered (sources ++ filter_map repair_source (take (i + 1) lines)) (take (i + 1) lines) lines new
  pass_repair none same =
      let done = take i lines in
      let more : filter_map repair_source done ≡ filter_map repair_source (done ++ line ∷ []) =
      sym (append-nil (filter_map repair_source done)) ∙ ssrc_line_chosen repair_source done line None
      (ap (option_map (λ pair. pair.1)) none) in
      subst (λ l. AreSourcesGathered (sources ++ filter_map repair_source l) l lines new) (sym (source_take_line lines i line inside at))
      (record {
        keys = ap keys_of same ∙ h.keys ∙ ap (λ l. insert_all nat_eq [] (sources ++ l)) more;
        said = λ s. ap (λ es. source_so_far es s) same ∙ h.said s ∙ sym (other_group done lines line none s);
      })

-- the values are what the attributes say of each source
pub gathered_infos : (attrs : List MediaAttribute) (es : List (ℕ × SsrcInfo))
    → AreSourcesGathered (filter_map source_of attrs ++ filter_map repair_source attrs) attrs attrs es → values_of es ≡ infos attrs
gathered_infos attrs es h =
    let all = filter_map source_of attrs ++ filter_map repair_source attrs in
    let keys : keys_of es ≡ distinct nat_eq all = h.keys ∙ distinct_unseen_inserted-distinct nat_eq nat_eq_equiv all in
    let apart : IsDistinct nat_eq (keys_of es) = subst (IsDistinct nat_eq) (sym keys) (distinct-apart nat_eq nat_eq_equiv all) in
    source_keyed (info attrs) es (λ i e at. sym
    (ap (λ o. unwrap_or o (empty_info e.0)) (lookup_from_place nat_eq_equiv es i e.0 e.1 apart at)) ∙ h.said e.0)
    ∙ ap (map (info attrs)) keys
