-- A simulcast line is read exactly where its form holds.
use Rattle.str0m_sdp.specs.declared.attribute.simulcast.Simulcast.{Simulcast}
use Rattle.str0m_signal.proofs.Common.{rules, ◌≡◌, ◌≢◌, ℕ, Bool, true, List, [], ◌∷◌, ◌++◌, Option, Some, None, refl, sym, ap, subst, ◌∙◌}
use Rattle.str0m_signal.proofs.Common.{arith, inl, inr, codes, is_some, ltb-true, and_parts, and_from, RestrictionId, SimulcastLayer}
use Rattle.str0m_signal.proofs.Common.{layer_name_text, ◌>>=◌, cut, strip, when, lacks, PartedAddress, Lacks, IsRest, IsSoundCut}
use Rattle.str0m_signal.proofs.Common.{cuts_bind_some}
use Rattle.str0m_signal.proofs.Common.{cuts_some_is}
use Rattle.str0m_signal.proofs.Common.{sound_cut_or, cut_none, cut_at, cut_found, strip_found, lacks_cut_true, lacks_cut_from}
use Rattle.str0m_signal.proofs.Common.{cuts_when_some, num_when_true}
use Rattle.str0m_signal.proofs.Common.{num_rest_true, Reads, chars}
use Rattle.str0m_signal.proofs.form.FormLaws.{form_behind_both}
use Rattle.str0m_signal.proofs.line.PartLaws.{parted_both}
use Rattle.str0m_signal.specs.form.FormReading.{behind, parted_read}
use Rattle.str0m_signal.specs.form.Forms.{Behind, TwoFormParts}
use Rattle.str0m_signal.specs.form.RidStreamName.{is_name_character, IsStreamName, is_stream_name}
use Rattle.str0m_signal.specs.form.Simulcast.{IsSimulcastAlternative, IsLayer, IsSimulcastSide, AreSimulcastSides, IsSimulcast}
use Rattle.str0m_signal.specs.form.SimulcastReading.{simulcast_alternative_after, alternative_read, first_layer_name_after, layer_read}
use Rattle.str0m_signal.specs.form.SimulcastReading.{side_read}
use Rattle.str0m_signal.specs.form.SimulcastReading.{simulcast_sides_after}
use Rattle.str0m_signal.specs.form.SimulcastReading.{sides_read, layers_of, simulcast_fields_read}

-- ---- names

pub simulcast_stream_name_from : (text : List ℕ) → is_stream_name text ≡ true → IsStreamName text
simulcast_stream_name_from text e = grind (arith, and_parts, is_name_character, chars, ltb-true, lacks_cut_from)

pub simulcast_stream_name_true : (text : List ℕ) → IsStreamName text → is_stream_name text ≡ true
simulcast_stream_name_true text h = grind (arith, and_from, num_rest_true, is_name_character, chars, lacks_cut_true)

-- ---- alternatives

simulcast_alternative_found : (text : List ℕ) (id : RestrictionId) (o : Option (List ℕ)) → strip (codes "~") text ≡ o
    → simulcast_alternative_after text o ≡ Some id → IsSimulcastAlternative text id
simulcast_alternative_found text id None is e = grind (
  arith,
  cuts_when_some (is_stream_name text) (record { 0 = text; 1 = true }) id e,
  simulcast_stream_name_from text,
)
simulcast_alternative_found text id (Some name) is e = grind (arith, cuts_when_some, strip_found, simulcast_stream_name_from)

simulcast_no_tilde : (text : List ℕ) → IsRest text → Lacks 126 text → strip (codes "~") text ≡ None
simulcast_no_tilde text filled h = grind arith

simulcast_alternative_given : (text name : List ℕ) (active : Bool) → text ≡ layer_name_text name active → IsStreamName name
    → alternative_read text ≡ Some (record { 0 = name; 1 = active })
simulcast_alternative_given text name active is h = grind (arith, simulcast_no_tilde, simulcast_stream_name_true)

simulcast_alternative_both : Reads IsSimulcastAlternative alternative_read
simulcast_alternative_both = record {
  sound = λ text id e. simulcast_alternative_found text id (strip (codes "~") text) refl e;
  complete = λ text id h. simulcast_alternative_given text id.0 id.1 h.0 h.1;
}

simulcast_alternative_lacks : (c : ℕ) → 126 ≢ c → ((name : List ℕ) → IsStreamName name → Lacks c name)
    → (text name : List ℕ) (active : Bool)
    → text ≡ layer_name_text name active → IsStreamName name → Lacks c text
simulcast_alternative_lacks c other lacks text name o is h = grind arith

simulcast_alternative_comma : (text : List ℕ) (id : RestrictionId) → IsSimulcastAlternative text id → Lacks 44 text
simulcast_alternative_comma text id h = simulcast_alternative_lacks 44 (λ e. absurd (omega arith)) (λ name k. k.comma) text id.0 id.1 h.0
    h.1

simulcast_alternatives_both : Reads (PartedAddress 44 IsSimulcastAlternative) (parted_read 44 alternative_read)
simulcast_alternatives_both = parted_both 44 simulcast_alternative_both simulcast_alternative_comma

-- ---- what parts lack, the whole lacks

simulcast_lacks_joined : (c d : ℕ) (a b : List ℕ) → d ≢ c → Lacks c a → Lacks c b → Lacks c (a ++ (d ∷ b))
simulcast_lacks_joined c d [] b other h k = (other, k)
simulcast_lacks_joined c d (x ∷ xs) b other h k = (h.0, simulcast_lacks_joined c d xs b other h.1 k)

pub simulcast_parted_lacks : {A : Type 0} {F : List ℕ → A → Type 0} (c d : ℕ) → d ≢ c → ((text : List ℕ) (x : A) → F text x → Lacks c text)
    → (xs : List A) (text : List ℕ) → PartedAddress d F text xs → Lacks c text
simulcast_parted_lacks c d other lacks [] text h = absurd h
simulcast_parted_lacks c d other lacks (x ∷ []) text h = lacks text x h
simulcast_parted_lacks c d other lacks (x ∷ (y ∷ ys)) text h = rw h.2
    (simulcast_lacks_joined c d h.0 h.1 other (lacks h.0 x h.3) (simulcast_parted_lacks c d other lacks (y ∷ ys) h.1 h.4))

-- ---- layers

simulcast_first_layer_found : (text : List ℕ) (id : RestrictionId) (o : Option (List ℕ × List ℕ)) → cut 44 text ≡ o
    → first_layer_name_after text o ≡ Some id
    → (others : List RestrictionId) × PartedAddress 44 IsSimulcastAlternative text (id ∷ others)
simulcast_first_layer_found text id None is e = ([], simulcast_alternative_both.sound text id e)
simulcast_first_layer_found text id (Some p) is e =
    let a = cuts_bind_some (alternative_read p.0) (λ x. when (is_some (parted_read 44 alternative_read p.1)) x) id e in
    let w = cuts_when_some (is_some (parted_read 44 alternative_read p.1)) a.0 id a.2 in
    let first : IsSimulcastAlternative p.0 id = simulcast_alternative_both.sound p.0 id (a.1 ∙ ap (λ (x : RestrictionId). Some x) w.1) in
    let found = cut_found 44 text p.0 p.1 is in
    others_of (parted_read 44 alternative_read p.1) refl w.0 p.0 found.0 first
  where
    listed : (front : List ℕ) → text ≡ front ++ (44 ∷ p.1) → IsSimulcastAlternative front id → (others : List RestrictionId)
        → PartedAddress 44 IsSimulcastAlternative p.1 others → (more : List RestrictionId)
        × PartedAddress 44 IsSimulcastAlternative text (id ∷ more)
    listed front joined first [] h = absurd h
    listed front joined first (x ∷ xs) h = (x ∷ xs, (front, p.1, joined, first, h))

    others_of : (o : Option (List RestrictionId)) → parted_read 44 alternative_read p.1 ≡ o → is_some o ≡ true → (front : List ℕ)
        → text ≡ front ++ (44 ∷ p.1) → IsSimulcastAlternative front id → (more : List RestrictionId)
        × PartedAddress 44 IsSimulcastAlternative text (id ∷ more)
    others_of None e some front joined first = absurd cc
    others_of (Some others) e some front joined first = listed front joined first others (simulcast_alternatives_both.sound p.1 others e)

simulcast_first_layer_given : (text : List ℕ) (id : RestrictionId) (others : List RestrictionId)
    → PartedAddress 44 IsSimulcastAlternative text (id ∷ others)
    → first_layer_name_after text (cut 44 text) ≡ Some id
simulcast_first_layer_given text id others h = grind (
  arith,
  cut_none,
  simulcast_alternative_comma,
  simulcast_alternative_both,
  cut_at,
  num_when_true,
  simulcast_alternatives_both,
)

layer_both : Reads IsLayer layer_read
layer_both = record {
  sound = λ text layer e.
      let a = cuts_bind_some (first_layer_name_after text (cut 44 text)) (λ id. Some (record { restriction_id = id; attributes = None }))
      layer e
      in
      let found = simulcast_first_layer_found text a.0 (cut 44 text) refl a.1 in
      subst (IsLayer text) (cuts_some_is (record { restriction_id = a.0; attributes = None }) layer a.2) (found.0, found.1, refl);
  complete = λ text layer h.
      ap (λ (o : Option RestrictionId). o >>= λ id. Some (record { restriction_id = id; attributes = None }))
      (simulcast_first_layer_given text layer.restriction_id h.0 h.1)
      ∙ ap (λ (attributes : Option (List (List ℕ × List ℕ))). let made : SimulcastLayer = record {
        restriction_id = layer.restriction_id;
        attributes = attributes;
      } in Some made) (sym h.2);
}

layer_semicolon : (text : List ℕ) (layer : SimulcastLayer) → IsLayer text layer → Lacks 59 text
layer_semicolon text layer h =
    simulcast_parted_lacks {F = IsSimulcastAlternative} 59 44 (λ e. absurd (omega arith))
    (λ t id k. simulcast_alternative_lacks 59 (λ e. absurd (omega arith)) (λ name n. n.semicolon) t id.0 id.1 k.0 k.1)
    (layer.restriction_id ∷ h.0) text h.1

layer_space : (text : List ℕ) (layer : SimulcastLayer) → IsLayer text layer → Lacks 32 text
layer_space text layer h =
    simulcast_parted_lacks {F = IsSimulcastAlternative} 32 44 (λ e. absurd (omega arith))
    (λ t id k. simulcast_alternative_lacks 32 (λ e. absurd (omega arith)) (λ name n. n.space) t id.0 id.1 k.0 k.1)
    (layer.restriction_id ∷ h.0)
    text h.1

simulcast_side_both : Reads IsSimulcastSide side_read
simulcast_side_both = parted_both 59 layer_both layer_semicolon

simulcast_side_space : (text : List ℕ) (layers : List SimulcastLayer) → IsSimulcastSide text layers → Lacks 32 text
simulcast_side_space text layers h = simulcast_parted_lacks {F = IsLayer} 32 59 (λ e. absurd (omega arith)) layer_space layers text h

-- ---- sides

-- one side after its word, or the other one after it
abbrev AreSimulcastSidesOrdered : List ℕ → List ℕ → List SimulcastLayer → List SimulcastLayer → Type 0
AreSimulcastSidesOrdered other text first [] = IsSimulcastSide text first
AreSimulcastSidesOrdered other text first (x ∷ second) = TwoFormParts 32 IsSimulcastSide (Behind other IsSimulcastSide) text
    (first, x ∷ second)

simulcast_sides_found : (other text : List ℕ) (sides : List SimulcastLayer × List SimulcastLayer) (o : Option (List ℕ × List ℕ))
    → cut 32 text ≡ o
    → simulcast_sides_after other text o ≡ Some sides → AreSimulcastSidesOrdered other text sides.0 sides.1
simulcast_sides_found other text sides None is e = grind (arith, cuts_bind_some, cuts_some_is, simulcast_side_both)
simulcast_sides_found other text sides (Some p) is e =
    let a = cuts_bind_some (side_read p.0) (λ first. behind other side_read p.1 >>= λ second. Some (first, second)) sides e in
    let b = cuts_bind_some (behind other side_read p.1) (λ second. Some (a.0, second)) sides a.2 in
    let found = cut_found 32 text p.0 p.1 is in
    let second = (form_behind_both other simulcast_side_both).sound p.1 b.0 b.1 in
    rw (← cuts_some_is (a.0, b.0) sides b.2) (both a.0 b.0 (p.0, p.1, found.0, found.1, simulcast_side_both.sound p.0 a.0 a.1, second))
  where
    both : (first second : List SimulcastLayer) → TwoFormParts 32 IsSimulcastSide (Behind other IsSimulcastSide) text (first, second)
        → AreSimulcastSidesOrdered other text first second
    both first [] h = absurd h.5.2
    both first (x ∷ xs) h = h

simulcast_sides_given : (other text : List ℕ) (first second : List SimulcastLayer) → AreSimulcastSidesOrdered other text first second
    → sides_read other text ≡ Some (first, second)
simulcast_sides_given other text first [] h = rw (
  cut_none 32 text (simulcast_side_space text first h),
  simulcast_side_both.complete text first h,
) refl
simulcast_sides_given other text first (x ∷ second) h =
    ap (sides_read other) h.2 ∙ rw (
      cut_at 32 h.0 h.1 h.3,
      simulcast_side_both.complete h.0 first h.4,
      (form_behind_both other simulcast_side_both).complete h.1 (x ∷ second) h.5,
    ) refl

sent_layers_first : (text : List ℕ) (first second : List SimulcastLayer)
    → Behind (codes "send ") (λ body layers. AreSimulcastSidesOrdered (codes "recv ") body first second) text first
    → AreSimulcastSides text first second
sent_layers_first text first second h = grind arith

received_layers_first : (text : List ℕ) (first second : List SimulcastLayer)
    → Behind (codes "recv ") (λ body layers. AreSimulcastSidesOrdered (codes "send ") body first second) text first
    → AreSimulcastSides text second first
received_layers_first text first second h = grind arith

-- what is read after a word, as layers
abbrev way_read : List ℕ → List ℕ → (List SimulcastLayer → List SimulcastLayer → Simulcast) → List ℕ → Option Simulcast
way_read own other make text = behind own (sides_read other) text >>= λ sides. Some (make sides.0 sides.1)

simulcast_way_sound : (own other : List ℕ) (make : List SimulcastLayer → List SimulcastLayer → Simulcast)
    → ((text : List ℕ) (first second : List SimulcastLayer)
    → Behind own (λ body layers. AreSimulcastSidesOrdered other body first second) text first
    → IsSimulcast text (make first second))
    → IsSoundCut IsSimulcast (way_read own other make)
simulcast_way_sound own other make form = record {
  law = λ text x e.
      let a = cuts_bind_some (behind own (sides_read other) text) (λ sides. Some (make sides.0 sides.1)) x e in
      let b = cuts_bind_some (strip own text) (sides_read other) a.0 a.1 in
      let found = simulcast_sides_found other b.0 a.0 (cut 32 b.0) refl b.2 in
      subst (IsSimulcast text) (cuts_some_is (make a.0.0 a.0.1) x a.2) (form text a.0.0 a.0.1 (b.0, strip_found own text b.0 b.1, found));
}

sent_layers_sound : IsSoundCut IsSimulcast (way_read (codes "send ") (codes "recv ") layers_of)
sent_layers_sound = simulcast_way_sound (codes "send ") (codes "recv ") layers_of
    (λ text first second h. (sent_layers_first text first second h, refl))

received_layers_sound : IsSoundCut IsSimulcast (way_read (codes "recv ") (codes "send ") (λ first second. layers_of second first))
received_layers_sound = simulcast_way_sound (codes "recv ") (codes "send ") (λ first second. layers_of second first)
    (λ text first second h. (received_layers_first text first second h, refl))

simulcast_sides_complete : (text : List ℕ) (send recv : List SimulcastLayer) → AreSimulcastSides text send recv
    → simulcast_fields_read text ≡ Some (layers_of send recv)
simulcast_sides_complete text [] [] h = absurd h
simulcast_sides_complete text (s ∷ send) [] h = ap simulcast_fields_read h.1
    ∙ rw (simulcast_sides_given (codes "recv ") h.0 (s ∷ send) [] h.2) refl
simulcast_sides_complete text [] (r ∷ recv) h = ap simulcast_fields_read h.1
    ∙ rw (simulcast_sides_given (codes "send ") h.0 (r ∷ recv) [] h.2) refl
simulcast_sides_complete text (s ∷ send) (r ∷ recv) (inl h) = grind
    (arith, simulcast_sides_given (codes "recv ") h.0 (s ∷ send) (r ∷ recv) h.2)
simulcast_sides_complete text (s ∷ send) (r ∷ recv) (inr h) = grind
    (arith, simulcast_sides_given (codes "send ") h.0 (r ∷ recv) (s ∷ send) h.2)

pub simulcast_fields_both : Reads IsSimulcast simulcast_fields_read
simulcast_fields_both = search (rules, sound_cut_or, sent_layers_sound, received_layers_sound, simulcast_sides_complete)
