-- Rid and simulcast lines are printed as they were read.
use Rattle.str0m_sdp.specs.attribute.Rid.{restriction_text, rid_pts_part, restrictions_part}
use Rattle.str0m_signal.proofs.Common.{rules, ◌≡◌, ◌≢◌, ◌≤◌, ℕ, List, [], ◌∷◌, ◌++◌, refl, sym, subst, ap, ◌∙◌, arith, lit<, lit≤, inl, inr}
use Rattle.str0m_signal.proofs.Common.{codes, digit_value, decimal, join_by, append_assoc, append-nil, RestrictionId, SimulcastLayer}
use Rattle.str0m_signal.proofs.Common.{PartedAddress, Lacks, IsRest, IsPt, LacksCut-append, address_lacks_both, simulcast_id_text}
use Rattle.str0m_signal.proofs.Common.{layer_text}
use Rattle.str0m_signal.proofs.Common.{layers_text}
use Rattle.str0m_signal.proofs.form.FmtpPrinted.{fmtp_behind_lacks}
use Rattle.str0m_signal.proofs.form.FormPiecesAgain.{Again, num_again, two_again, behind_again, parted_again}
use Rattle.str0m_signal.proofs.line.PartLaws.{cons_parts}
use Rattle.str0m_signal.specs.back.WritableAgain.{NamesNoTypes}
use Rattle.str0m_signal.specs.form.Fmtp.{IsFmtpKey}
use Rattle.str0m_signal.specs.form.Forms.{TwoFormParts}
use Rattle.str0m_signal.specs.form.Rid.{IsActiveRid, IsRestriction, AreRestrictions, AreTyped, AreRidLists, IsRidMore, IsDirectedRid}
use Rattle.str0m_signal.specs.form.Simulcast.{IsSimulcastAlternative, IsLayer, IsSimulcastSide, AreBothSimulcastSides, AreSimulcastSides}

-- ---- restrictions

restriction_again : Again IsRestriction restriction_text
restriction_again = grind (arith, fmtp_behind_lacks)

abbrev pub restrictions_text : List (List ℕ × List ℕ) → List ℕ
restrictions_text pairs = join_by restriction_text (codes ";") pairs

restrictions_again : Again (PartedAddress 59 IsRestriction) restrictions_text
restrictions_again = parted_again restriction_again 59

restrictions_form : (text : List ℕ) (pairs : List (List ℕ × List ℕ)) → AreRestrictions text pairs
    → AreRestrictions (restrictions_text pairs) pairs
restrictions_form text pairs h = search (rules, restrictions_again)

restrictions_lack : (c : ℕ) → 16 ≤ digit_value c → (text : List ℕ) (pairs : List (List ℕ × List ℕ)) → AreRestrictions text pairs
    → Lacks c text
    → Lacks c (restrictions_text pairs)
restrictions_lack c far text [] h lacks = tt
restrictions_lack c far text (pair ∷ pairs) h lacks = restrictions_again.lacks c far text (pair ∷ pairs) h lacks

-- ---- which text begins with the label of types

-- a key and `=` begin with the label only where the key is the label's name
rid_key_is_pt : (key value rest : List ℕ) → IsRest key → Lacks 61 key → key ++ (codes "=" ++ value) ≡ codes "pt=" ++ rest → key ≡ codes "pt"
rid_key_is_pt [] value rest filled lacks e = absurd (omega (arith, filled))
rid_key_is_pt (a ∷ []) value rest filled lacks e = grind arith
rid_key_is_pt (a ∷ (b ∷ [])) value rest filled lacks e =
    let first = cons_parts a 112 (b ∷ (61 ∷ value)) (116 ∷ (61 ∷ rest)) e in
    let second = cons_parts b 116 (61 ∷ value) (61 ∷ rest) first.1 in
    ap (λ (x : ℕ). x ∷ (b ∷ [])) first.0 ∙ ap (λ (x : ℕ). 112 ∷ (x ∷ [])) second.0
rid_key_is_pt (a ∷ (b ∷ (c ∷ cs))) value rest filled lacks e = grind arith

rid_join_first : (pair : List ℕ × List ℕ) (pairs : List (List ℕ × List ℕ))
    → (more : List ℕ) × (restrictions_text (pair ∷ pairs) ≡ pair.0 ++ (codes "=" ++ more))
rid_join_first pair pairs = go (join_rest pairs)
  where
    join_rest : (pairs : List (List ℕ × List ℕ)) → (more : List ℕ) × (restrictions_text (pair ∷ pairs) ≡ restriction_text pair ++ more)
    join_rest [] = ([], refl)
    join_rest (p ∷ ps) = (59 ∷ restrictions_text (p ∷ ps), refl)

    go : (more : List ℕ) × (restrictions_text (pair ∷ pairs) ≡ restriction_text pair ++ more)
        → (more : List ℕ) × (restrictions_text (pair ∷ pairs) ≡ pair.0 ++ (codes "=" ++ more))
    go h = (pair.1 ++ h.0, h.1 ∙ simp (append_assoc))

rid_first_key : (text : List ℕ) (pair : List ℕ × List ℕ) (pairs : List (List ℕ × List ℕ))
    → PartedAddress 59 IsRestriction text (pair ∷ pairs)
    → IsFmtpKey pair.0
rid_first_key text pair pairs h = grind arith

no_label : (text : List ℕ) (pairs : List (List ℕ × List ℕ)) → AreRestrictions text pairs → NamesNoTypes pairs
    → (rest : List ℕ) → restrictions_text pairs ≢ codes "pt=" ++ rest
no_label text [] h named rest e = absurd cc
no_label text (pair ∷ pairs) h named rest e = grind (
  arith,
  rid_join_first pair pairs,
  rid_first_key text pair pairs h,
  rid_key_is_pt pair.0,
)

-- ---- rids

rid_pts_again : Again (PartedAddress 44 IsPt) (join_by decimal (codes ","))
rid_pts_again = parted_again (num_again 127 (lit< tt)) 44

abbrev pub rid_more_text : List ℕ × List (List ℕ × List ℕ) → List ℕ
rid_more_text lists = rid_pts_part lists.0 ++ restrictions_part lists.0 lists.1

-- types, and restrictions after them
rid_typed_form : (text : List ℕ) (n : ℕ) (ns : List ℕ) (pairs : List (List ℕ × List ℕ)) → AreTyped text (n ∷ ns, pairs)
    → AreTyped (join_by decimal (codes ",") (n ∷ ns) ++ restrictions_part (n ∷ ns) pairs) (n ∷ ns, pairs)
rid_typed_form text n ns [] (inl h) =
    inl (subst (λ (t : List ℕ). PartedAddress 44 IsPt t (n ∷ ns)) (sym (append-nil _)) (rid_pts_again.form text (n ∷ ns) h.0), refl)
rid_typed_form text n ns [] (inr h) =
    inl (subst (λ (t : List ℕ). PartedAddress 44 IsPt t (n ∷ ns)) (sym (append-nil _)) (rid_pts_again.form h.0 (n ∷ ns) h.4), refl)
rid_typed_form text n ns (pair ∷ pairs) (inl h) = absurd (let e = h.1 in cc)
rid_typed_form text n ns (pair ∷ pairs) (inr h) =
    inr (
      join_by decimal (codes ",") (n ∷ ns),
      restrictions_text (pair ∷ pairs),
      refl,
      rid_pts_again.lacks 59 (lit≤ tt) h.0 (n ∷ ns) h.4 h.3,
      rid_pts_again.form h.0 (n ∷ ns) h.4,
      restrictions_form h.1 (pair ∷ pairs) h.5,
    )

rid_typed_lacks : (c : ℕ) → 16 ≤ digit_value c → (text : List ℕ) (n : ℕ) (ns : List ℕ) (pairs : List (List ℕ × List ℕ))
    → AreTyped text (n ∷ ns, pairs)
    → Lacks c text → Lacks c (join_by decimal (codes ",") (n ∷ ns) ++ restrictions_part (n ∷ ns) pairs)
rid_typed_lacks c far text n ns [] (inl h) lacks =
    subst (Lacks c) (sym (append-nil _)) (rid_pts_again.lacks c far text (n ∷ ns) h.0 lacks)
rid_typed_lacks c far text n ns [] (inr h) lacks =
    subst (Lacks c) (sym (append-nil _))
    (rid_pts_again.lacks c far h.0 (n ∷ ns) h.4 (LacksCut-append c h.0 (59 ∷ h.1) (subst (Lacks c) h.2 lacks)))
rid_typed_lacks c far text n ns (pair ∷ pairs) (inl h) lacks = absurd (let e = h.1 in cc)
rid_typed_lacks c far text n ns (pair ∷ pairs) (inr h) lacks =
    let whole : Lacks c (h.0 ++ (59 ∷ h.1)) = subst (Lacks c) h.2 lacks in
    let behind = fmtp_behind_lacks c h.0 (59 ∷ h.1) whole in
    address_lacks_both c (join_by decimal (codes ",") (n ∷ ns)) (59 ∷ restrictions_text (pair ∷ pairs))
    (rid_pts_again.lacks c far h.0 (n ∷ ns) h.4 (LacksCut-append c h.0 (59 ∷ h.1) whole))
    (behind.0, restrictions_lack c far h.1 (pair ∷ pairs) h.5 behind.1)

-- a type stands there
some_type : (text : List ℕ) (pairs : List (List ℕ × List ℕ)) → AreTyped text ([], pairs) → ⊥
some_type text pairs o = grind arith

rid_lists_form : (text : List ℕ) (types : List ℕ) (pairs : List (List ℕ × List ℕ)) → AreRidLists text (types, pairs) → NamesNoTypes pairs
    → IsRidMore (rid_more_text (types, pairs)) (types, pairs)
rid_lists_form text [] pairs (inl h) named = absurd (some_type h.0 pairs h.2)
rid_lists_form text [] [] (inr h) named = inl (refl, refl)
rid_lists_form text [] (pair ∷ pairs) (inr h) named =
    grind (arith, no_label text (pair ∷ pairs) h.2 named, restrictions_form text (pair ∷ pairs) h.2)
rid_lists_form text (n ∷ ns) pairs (inl h) named = grind (arith, rid_typed_form h.0 n ns pairs h.2)
rid_lists_form text (n ∷ ns) pairs (inr h) named = absurd (let e = h.1 in cc)

rid_more_form : (text : List ℕ) (lists : List ℕ × List (List ℕ × List ℕ)) → IsRidMore text lists → NamesNoTypes lists.1
    → IsRidMore (rid_more_text lists) lists
rid_more_form text lists (inl h) named = rw h.1 (inl (refl, refl))
rid_more_form text lists (inr h) named = rid_lists_form h.0 lists.0 lists.1 h.2 named

rid_lists_lack : (c : ℕ) → 16 ≤ digit_value c → (text : List ℕ) (types : List ℕ) (pairs : List (List ℕ × List ℕ))
    → AreRidLists text (types, pairs)
    → Lacks c (32 ∷ text) → Lacks c (rid_more_text (types, pairs))
rid_lists_lack c far text [] pairs (inl h) lacks = absurd (some_type h.0 pairs h.2)
rid_lists_lack c far text [] [] (inr h) lacks = tt
rid_lists_lack c far text [] (pair ∷ pairs) (inr h) lacks = (lacks.0, restrictions_lack c far text (pair ∷ pairs) h.2 lacks.1)
rid_lists_lack c far text (n ∷ ns) pairs (inl h) lacks = grind (arith, rid_typed_lacks c far h.0 n ns pairs h.2)
rid_lists_lack c far text (n ∷ ns) pairs (inr h) lacks = absurd (let e = h.1 in cc)

rid_more_lacks : (c : ℕ) → 16 ≤ digit_value c → (text : List ℕ) (lists : List ℕ × List (List ℕ × List ℕ)) → IsRidMore text lists
    → Lacks c text
    → Lacks c (rid_more_text lists)
rid_more_lacks c far text lists (inl h) lacks = rw h.1 tt
rid_more_lacks c far text lists (inr h) lacks = rid_lists_lack c far h.0 lists.0 lists.1 h.2 (subst (Lacks c) h.1 lacks)

-- what stands after the name, where no restriction names types
abbrev pub IsUntypedDirectedRid : List ℕ → List ℕ × (List ℕ × List (List ℕ × List ℕ)) → Type 0
IsUntypedDirectedRid text fields = IsDirectedRid text fields × NamesNoTypes fields.1.1

rid_directed_again : Again IsUntypedDirectedRid (λ fields. fields.0 ++ rid_more_text fields.1)
rid_directed_again = record {
  form = λ text fields h. ((rid_more_text fields.1, refl, h.0.2, rid_more_form h.0.0 fields.1 h.0.3 h.1), h.1);
  lacks = λ c far text fields h lacks.
      let whole : Lacks c (fields.0 ++ h.0.0) = subst (Lacks c) h.0.1 lacks in
      address_lacks_both c fields.0 (rid_more_text fields.1) (LacksCut-append c fields.0 h.0.0 whole)
      (rid_more_lacks c far h.0.0 fields.1 h.0.3 (fmtp_behind_lacks c fields.0 h.0.0 whole));
}

rid_active_again : Again IsActiveRid (λ id. id.0)
rid_active_again = grind arith

abbrev pub IsUntypedRid : List ℕ → RestrictionId × (List ℕ × (List ℕ × List (List ℕ × List ℕ))) → Type 0
IsUntypedRid = TwoFormParts 32 IsActiveRid IsUntypedDirectedRid

pub rid_again : Again IsUntypedRid (λ rid. rid.0.0 ++ (32 ∷ (rid.1.0 ++ rid_more_text rid.1.1)))
rid_again = two_again 32 (lit≤ tt) rid_active_again rid_directed_again

-- ---- layers

layer_again : Again IsLayer layer_text
layer_again = grind (arith, LacksCut-append)

simulcast_side_again : Again IsSimulcastSide layers_text
simulcast_side_again = parted_again layer_again 59

simulcast_both_again : (first second : List ℕ)
    → Again (AreBothSimulcastSides first second) (λ sides. first ++ (layers_text sides.0 ++ (32 ∷ (second ++ layers_text sides.1))))
simulcast_both_again first second = behind_again (two_again 32 (lit≤ tt) simulcast_side_again (behind_again simulcast_side_again second))
    first

-- ---- sides

-- no name of a layer holds a space
rid_stream_name_lacks : (text : List ℕ) (id : RestrictionId) (others : List RestrictionId)
    → PartedAddress 44 IsSimulcastAlternative text (id ∷ others)
    → Lacks 32 (simulcast_id_text id)
rid_stream_name_lacks text id others h = grind arith

simulcast_side_lacks : (text : List ℕ) (layers : List SimulcastLayer) → IsSimulcastSide text layers → Lacks 32 (layers_text layers)
simulcast_side_lacks text [] h = absurd h
simulcast_side_lacks text (layer ∷ []) h = grind (arith, append-nil, rid_stream_name_lacks)
simulcast_side_lacks text (layer ∷ (next ∷ layers)) h =
    address_lacks_both 32 (layer_text layer) (59 ∷ layers_text (next ∷ layers)) (rid_stream_name_lacks h.0 layer.restriction_id h.3.0 h.3.1)
    ((λ e. absurd (omega (arith, e))), simulcast_side_lacks h.1 (next ∷ layers) h.4)

-- what stands after the label
abbrev pub simulcast_sides_words : List SimulcastLayer → List SimulcastLayer → List ℕ
simulcast_sides_words [] [] = []
simulcast_sides_words (s ∷ send) [] = codes "send " ++ layers_text (s ∷ send)
simulcast_sides_words [] (r ∷ recv) = codes "recv " ++ layers_text (r ∷ recv)
simulcast_sides_words (s ∷ send) (r ∷ recv) = codes "send " ++ (layers_text (s ∷ send) ++ (codes " recv " ++ layers_text (r ∷ recv)))

pub simulcast_sides_form : (text : List ℕ) (send recv : List SimulcastLayer) → AreSimulcastSides text send recv
    → AreSimulcastSides (simulcast_sides_words send recv) send recv
simulcast_sides_form text [] [] h = absurd h
simulcast_sides_form text (s ∷ send) [] h = (behind_again simulcast_side_again (codes "send ")).form text (s ∷ send) h
simulcast_sides_form text [] (r ∷ recv) h = (behind_again simulcast_side_again (codes "recv ")).form text (r ∷ recv) h
simulcast_sides_form text (s ∷ send) (r ∷ recv) (inl h) = inl
    ((simulcast_both_again (codes "send ") (codes "recv ")).form text (s ∷ send, r ∷ recv) h)
simulcast_sides_form text (s ∷ send) (r ∷ recv) (inr (body, e, (first, second, f, lacks, received, (sent_text, g, sent)))) =
    inl (
      layers_text (s ∷ send) ++ (codes " recv " ++ layers_text (r ∷ recv)),
      refl,
      (
        layers_text (s ∷ send),
        codes "recv " ++ layers_text (r ∷ recv),
        refl,
        simulcast_side_lacks sent_text (s ∷ send) sent,
        simulcast_side_again.form sent_text (s ∷ send) sent,
        (layers_text (r ∷ recv), refl, simulcast_side_again.form first (r ∷ recv) received),
      ),
    )

-- the character isn't one of a side's words
abbrev pub HoldsNoSimulcastWord : ℕ → Type 0
HoldsNoSimulcastWord c = Lacks c (codes "send ") × Lacks c (codes " recv ")

pub simulcast_sides_lack : (c : ℕ) → 16 ≤ digit_value c → HoldsNoSimulcastWord c → (text : List ℕ) (send recv : List SimulcastLayer)
    → AreSimulcastSides text send recv → Lacks c text
    → Lacks c (simulcast_sides_words send recv)
simulcast_sides_lack c far other text [] [] h lacks = tt
simulcast_sides_lack c far other text (s ∷ send) [] h lacks = (behind_again simulcast_side_again (codes "send ")).lacks c far text
    (s ∷ send) h lacks
simulcast_sides_lack c far other text [] (r ∷ recv) h lacks = (behind_again simulcast_side_again (codes "recv ")).lacks c far text
    (r ∷ recv) h lacks
simulcast_sides_lack c far other text (s ∷ send) (r ∷ recv) (inl h) lacks =
    (simulcast_both_again (codes "send ") (codes "recv ")).lacks c far text (s ∷ send, r ∷ recv) h lacks
simulcast_sides_lack c far other text (s ∷ send) (r ∷ recv) (inr (body, e, (first, second, f, none, received, (sent_text, g, sent))))
    lacks =
    let whole : Lacks c (codes "recv " ++ body) = subst (Lacks c) e lacks in
    let parts : Lacks c (first ++ (32 ∷ second)) = subst (Lacks c) f (fmtp_behind_lacks c (codes "recv ") body whole) in
    let behind = fmtp_behind_lacks c first (32 ∷ second) parts in
    let sent_lacks = fmtp_behind_lacks c (codes "send ") sent_text (subst (Lacks c) g behind.1) in
    address_lacks_both c (codes "send ") _ other.0
    (address_lacks_both c (layers_text (s ∷ send)) _ (simulcast_side_again.lacks c far sent_text (s ∷ send) sent sent_lacks)
    (address_lacks_both c (codes " recv ") _ other.1
    (simulcast_side_again.lacks c far first (r ∷ recv) received (LacksCut-append c first (32 ∷ second) parts))))
