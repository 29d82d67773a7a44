-- The types that go with others, one attribute more.
use Rattle.str0m_sdp.proofs.Common.{arith, ◌≡◌, ◌<◌, ◌+◌, ◌++◌, ◌&&◌, ℕ, Bool, false, cond, List, [], ◌∷◌, length, take, get_or, Option}
use Rattle.str0m_sdp.proofs.Common.{Some, None, filter_map, refl, sym, ap, ◌∙◌, option_or, list_any, take_at_read, filter_map-append, when}
use Rattle.str0m_sdp.proofs.Common.{Codec, CodecSpec, FormatParam}
use Rattle.str0m_sdp.specs.Common.{last}
use Rattle.str0m_sdp.specs.declared.attribute.MediaAttribute.{MediaAttribute}
use Rattle.str0m_sdp.specs.declared.attribute.MediaAttribute.TheVariants.{Fmtp}
use Rattle.str0m_sdp.specs.declared.section.type_tables.TypeTable.{TypeTable}
use Rattle.str0m_sdp.specs.section.Companions.{names_type, companion_in, companion}
use Rattle.str0m_sdp.specs.section.Mappings.{is_mapped_to}
use Rattle.str0m_sdp.specs.section.TypeTables.{type_in_table}

companion_options_none : {X : Type 0} (o : Option X) → option_or o None ≡ o
companion_options_none o = grind arith

companion_options_assoc : {X : Type 0} (a b c : Option X) → option_or (option_or a b) c ≡ option_or a (option_or b c)
companion_options_assoc a b c = grind arith

-- the last of two lists is that of the second, where it has one
companion_last_append : {X : Type 0} (xs ys : List X) → last (xs ++ ys) ≡ option_or (last ys) (last xs)
companion_last_append [] ys = sym (companion_options_none (last ys))
companion_last_append {X} (x ∷ xs) ys = ap (λ (o : Option X). option_or o (Some x)) (companion_last_append xs ys)
    ∙ companion_options_assoc (last ys) (last xs) (Some x)

companion_last_one : {X Y : Type 0} (f : X → Option Y) (x : X) (o : Option Y) → f x ≡ o → last (filter_map f (x ∷ [])) ≡ o
companion_last_one f x o is = grind arith

-- what the attribute that is read says comes before what was said so far
pub companion_more : (codec : Codec) (mapped : List (ℕ × CodecSpec)) (attrs : List MediaAttribute) (i : ℕ) (attr : MediaAttribute) (pt : ℕ)
    → i < length attrs → attr ≡ get_or attrs i attr
    → companion codec mapped (take (i + 1) attrs) pt ≡ option_or (companion_in codec mapped pt attr)
    (companion codec mapped (take i attrs) pt)
unfolding companion
companion_more codec mapped attrs i attr pt lt is = grind (
  arith,
  take_at_read,
  filter_map-append,
  companion_last_append,
  companion_last_one,
)

no_companion_in : (codec : Codec) (mapped : List (ℕ × CodecSpec)) (pt : ℕ) (attr : MediaAttribute)
    → ((n : ℕ) (values : List FormatParam) → attr ≡ Fmtp n values → ⊥) → companion_in codec mapped pt attr ≡ None
no_companion_in codec mapped pt attr other = grind arith

-- what is no fmtp line names no type
pub companion_other : (codec : Codec) (mapped : List (ℕ × CodecSpec)) (attrs : List MediaAttribute) (i : ℕ) (attr : MediaAttribute) (pt : ℕ)
    → i < length attrs → attr ≡ get_or attrs i attr → ((n : ℕ) (values : List FormatParam) → attr ≡ Fmtp n values → ⊥)
    → companion codec mapped (take (i + 1) attrs) pt ≡ companion codec mapped (take i attrs) pt
companion_other codec mapped attrs i attr pt lt is other =
    grind (arith, companion_more codec mapped attrs i attr pt lt is, no_companion_in codec mapped pt attr other)

companion_when_or : {X : Type 0} (b : Bool) (x : X) (o : Option X) → option_or (when b x) o ≡ cond b (Some x) o
companion_when_or b x o = grind arith

-- an fmtp line goes with each type that it names, where it is of the codec
companion_fmtp : (codec : Codec) (mapped : List (ℕ × CodecSpec)) (attrs : List MediaAttribute) (i n : ℕ) (values : List FormatParam)
    (attr : MediaAttribute) (pt : ℕ)
    → i < length attrs → attr ≡ get_or attrs i attr → attr ≡ Fmtp n values
    → companion codec mapped (take (i + 1) attrs) pt
    ≡ cond (is_mapped_to codec mapped n && list_any (names_type codec pt) values) (Some n) (companion codec mapped (take i attrs) pt)
companion_fmtp codec mapped attrs i n values attr pt lt is variant =
    companion_more codec mapped attrs i attr pt lt is
    ∙ ap (λ (a : MediaAttribute). option_or (companion_in codec mapped pt a) (companion codec mapped (take i attrs) pt)) variant
    ∙ companion_when_or (is_mapped_to codec mapped n && list_any (names_type codec pt) values) n (companion codec mapped (take i attrs) pt)

-- so a table in which it is noted, where it is of the codec, has what goes with each type one line on
pub companions_noted : (codec : Codec) (mapped : List (ℕ × CodecSpec)) (attrs : List MediaAttribute) (of_codec : List Bool)
    (old new : TypeTable)
    (i n : ℕ) (values : List FormatParam) (attr : MediaAttribute)
    → i < length attrs → attr ≡ get_or attrs i attr → attr ≡ Fmtp n values
    → get_or of_codec n false ≡ is_mapped_to codec mapped n
    → ((m : ℕ) → type_in_table new m ≡ cond (get_or of_codec n false && list_any (names_type codec m) values) (Some n)
    (type_in_table old m))
    → ((pt : ℕ) → type_in_table old pt ≡ companion codec mapped (take i attrs) pt)
    → (pt : ℕ) → type_in_table new pt ≡ companion codec mapped (take (i + 1) attrs) pt
companions_noted codec mapped attrs of_codec old new i n values attr lt is variant tells noted so_far pt =
    noted pt ∙ rw (tells, so_far pt) (sym (companion_fmtp codec mapped attrs i n values attr pt lt is variant))

-- before any attribute there is none
pub companion_start : (codec : Codec) (mapped : List (ℕ × CodecSpec)) (pt : ℕ) → None ≡ companion codec mapped [] pt
unfolding companion
companion_start codec mapped pt = refl
