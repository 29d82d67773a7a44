-- Each token that may come next leads to the levels behind it.
use Rattle.c_json.specs.Description.{IsJsonText}
use Rattle.c_json.specs.JsonWriter.{JsonLevel, object, named, list, json_closed, json_valued, json_after_token, json_open_levels, InObject}
use Rattle.c_json.specs.JsonWriter.{InList}
use Rattle.c_json.specs.JsonWriter.{WantsJsonValue}
use Rattle.c_json.specs.JsonWriter.{MayBeJson}
use Rattle.c_json.specs.JsonWriter.{IsJsonValue, AreMembers, AreJsonItems, IsJsonFront, LeadsJson, IsJsonBegun}
use Rattle.json.specs.Json as json
use Rattle.json.specs.Lex.{tokens}
use Rattle.json.specs.Print.{print, IsPrintable}
use Rattle.json.specs.Token.{Token, begin_object, end_object, begin_array, end_array, key, string, number, boolean, null, bad}
use Rattle.json.specs.Tree.{items_tokens, members_tokens}
use Rattle.json.specs.Written.{Written, Writes}
use Rattle.serde_json.proofs.Numbers.{number_of-decimal}
use Rattle.serde_json.proofs.Texts.{unless_float-number_of}
use Rattle.serde_json.specs.Data as serde
use Rattle.serde_json.specs.Data.{unsigned}
use Rattle.std.proofs.Common.{◌≡◌, ℕ, ◌^◌, ◌<◌, List, [], ◌∷◌, ◌++◌, Result, Ok, Err, decimal, refl, sym, ap, ap₂, ◌∙◌, subst, append_assoc}
use Rattle.std.proofs.lemmas.List.Sums.{fold_push}

-- ---- values, members and items

json_text_value : (s : List ℕ) → IsJsonValue (string s ∷ [])
json_text_value s = record { value = serde.string s; written = json.string s; tokens = refl; same = refl }

json_null_value : IsJsonValue (null ∷ [])
json_null_value = record { value = serde.null; written = json.null; tokens = refl; same = refl }

json_boolean_value : (b : _) → IsJsonValue (boolean b ∷ [])
json_boolean_value b = record { value = serde.boolean b; written = json.boolean b; tokens = refl; same = refl }

json_number_value : (n : ℕ) → n < 2 ^ 64 → IsJsonValue (number (decimal n) ∷ [])
json_number_value n fits = record {
  value = serde.number (unsigned n);
  written = json.number (decimal n);
  tokens = refl;
  same = ap json.number (unless_float-number_of (decimal n) (unsigned n) (number_of-decimal n fits));
}

no_members : AreMembers []
no_members rest more same = record { members = more; written = rest; tokens = refl; same = same }

member : (ts vs : List Token) (k : List ℕ) → AreMembers ts → IsJsonValue vs → AreMembers (ts ++ key k ∷ vs)
member ts vs k before value rest more same =
    let whole = before (json.member k value.written rest) (serde.member k value.value more) (ap₂ (json.member k) value.same same) in
    record {
      members = whole.members;
      written = whole.written;
      tokens = whole.tokens ∙ ap (λ v. ts ++ key k ∷ (v ++ members_tokens rest)) (sym value.tokens)
          ∙ sym (append_assoc ts (key k ∷ vs) (members_tokens rest));
      same = whole.same;
    }

json_no_items : AreJsonItems []
json_no_items rest more same = record { items = more; written = rest; tokens = refl; same = same }

json_item : (ts vs : List Token) → AreJsonItems ts → IsJsonValue vs → AreJsonItems (ts ++ vs)
json_item ts vs before value rest more same =
    let whole = before (json.item value.written rest) (serde.item value.value more) (ap₂ json.item value.same same) in
    record {
      items = whole.items;
      written = whole.written;
      tokens = whole.tokens ∙ ap (λ v. ts ++ (v ++ items_tokens rest)) (sym value.tokens) ∙ sym (append_assoc ts vs (items_tokens rest));
      same = whole.same;
    }

object_value : (ts : List Token) → AreMembers ts → IsJsonValue (begin_object ∷ (ts ++ end_object ∷ []))
object_value ts are =
    let whole = are json.no_members serde.no_members refl in
    record {
      value = serde.object whole.members;
      written = json.object whole.written;
      tokens = ap (λ t. begin_object ∷ t) (sym whole.tokens);
      same = ap json.object whole.same;
    }

list_value : (ts : List Token) → AreJsonItems ts → IsJsonValue (begin_array ∷ (ts ++ end_array ∷ []))
list_value ts are =
    let whole = are json.no_items serde.no_items refl in
    record {
      value = serde.array whole.items;
      written = json.array whole.written;
      tokens = ap (λ t. begin_array ∷ t) (sym whole.tokens);
      same = ap json.array whole.same;
    }

-- ---- a value within levels

json_put_within : (ls : List JsonLevel) (ts vs : List Token) → IsJsonFront ls ts → IsJsonValue vs → LeadsJson ls (ts ++ vs)
json_put_within [] ts vs front value = record {
  value = value.value;
  written = value.written;
  tokens = ap (λ t. t ++ vs) front ∙ value.tokens;
  same = value.same;
}
json_put_within (object ∷ ls) ts vs (outer, members, k, front, are, is) value = (
  outer,
  members ++ key k ∷ vs,
  front,
  member members vs k are value,
  ap (λ t. t ++ vs) is ∙ append_assoc outer (begin_object ∷ (members ++ key k ∷ [])) vs
      ∙ ap (λ t. outer ++ begin_object ∷ t) (append_assoc members (key k ∷ []) vs),
)
json_put_within (named ∷ ls) ts vs front value = absurd front
json_put_within (list ∷ ls) ts vs (outer, items, front, are, is) value = (
  outer,
  items ++ vs,
  front,
  json_item items vs are value,
  ap (λ t. t ++ vs) is ∙ append_assoc outer (begin_array ∷ items) vs,
)

json_put_scalar : (ls : List JsonLevel) (ts : List Token) (t : Token) → LeadsJson ls ts → WantsJsonValue ls → IsJsonValue (t ∷ [])
    → LeadsJson (json_valued ls) (ts ++ t ∷ [])
json_put_scalar [] ts t leads wants value = absurd wants
json_put_scalar (object ∷ ls) ts t leads wants value = absurd wants
json_put_scalar (named ∷ ls) ts t leads wants value = json_put_within (object ∷ ls) ts (t ∷ []) leads value
json_put_scalar (list ∷ ls) ts t leads wants value = json_put_within (list ∷ ls) ts (t ∷ []) leads value

begin_members : (ls : List JsonLevel) (ts : List Token) → LeadsJson ls ts → WantsJsonValue ls
    → LeadsJson (object ∷ json_valued ls) (ts ++ begin_object ∷ [])
begin_members [] ts leads wants = absurd wants
begin_members (object ∷ ls) ts leads wants = absurd wants
begin_members (named ∷ ls) ts leads wants = (ts, [], leads, no_members, refl)
begin_members (list ∷ ls) ts leads wants = (ts, [], leads, no_members, refl)

json_begin_items : (ls : List JsonLevel) (ts : List Token) → LeadsJson ls ts → WantsJsonValue ls
    → LeadsJson (list ∷ json_valued ls) (ts ++ begin_array ∷ [])
json_begin_items [] ts leads wants = absurd wants
json_begin_items (object ∷ ls) ts leads wants = absurd wants
json_begin_items (named ∷ ls) ts leads wants = (ts, [], leads, json_no_items, refl)
json_begin_items (list ∷ ls) ts leads wants = (ts, [], leads, json_no_items, refl)

end_members : (ls : List JsonLevel) (ts : List Token) → LeadsJson ls ts → InObject ls → LeadsJson (json_closed ls) (ts ++ end_object ∷ [])
end_members [] ts leads inside = absurd inside
end_members (object ∷ ls) ts (outer, members, front, are, is) inside =
    subst (LeadsJson ls) (sym (ap (λ t. t ++ end_object ∷ []) is ∙ append_assoc outer (begin_object ∷ members) (end_object ∷ [])))
    (json_put_within ls outer (begin_object ∷ (members ++ end_object ∷ [])) front (object_value members are))
end_members (named ∷ ls) ts leads inside = absurd inside
end_members (list ∷ ls) ts leads inside = absurd inside

json_end_items : (ls : List JsonLevel) (ts : List Token) → LeadsJson ls ts → InList ls → LeadsJson (json_closed ls) (ts ++ end_array ∷ [])
json_end_items [] ts leads inside = absurd inside
json_end_items (object ∷ ls) ts leads inside = absurd inside
json_end_items (named ∷ ls) ts leads inside = absurd inside
json_end_items (list ∷ ls) ts (outer, items, front, are, is) inside =
    subst (LeadsJson ls) (sym (ap (λ t. t ++ end_array ∷ []) is ∙ append_assoc outer (begin_array ∷ items) (end_array ∷ [])))
    (json_put_within ls outer (begin_array ∷ (items ++ end_array ∷ [])) front (list_value items are))

put_key : (ls : List JsonLevel) (ts : List Token) (k : List ℕ) → LeadsJson ls ts → InObject ls
    → LeadsJson (named ∷ json_closed ls) (ts ++ key k ∷ [])
put_key [] ts k leads inside = absurd inside
put_key (object ∷ ls) ts k (outer, members, front, are, is) inside = (
  outer,
  members,
  k,
  front,
  are,
  ap (λ t. t ++ key k ∷ []) is ∙ append_assoc outer (begin_object ∷ members) (key k ∷ []),
)
put_key (named ∷ ls) ts k leads inside = absurd inside
put_key (list ∷ ls) ts k leads inside = absurd inside

json_put_token : (ls : List JsonLevel) (ts : List Token) (t : Token) → LeadsJson ls ts → MayBeJson ls t
    → LeadsJson (json_after_token ls t) (ts ++ t ∷ [])
json_put_token ls ts begin_object leads may = begin_members ls ts leads may
json_put_token ls ts end_object leads may = end_members ls ts leads may
json_put_token ls ts begin_array leads may = json_begin_items ls ts leads may
json_put_token ls ts end_array leads may = json_end_items ls ts leads may
json_put_token ls ts (key k) leads may = put_key ls ts k leads may
json_put_token ls ts (string s) leads may = json_put_scalar ls ts (string s) leads may (json_text_value s)
json_put_token ls ts (number s) leads may = absurd may
json_put_token ls ts (boolean b) leads may = json_put_scalar ls ts (boolean b) leads may (json_boolean_value b)
json_put_token ls ts null leads may = json_put_scalar ls ts null leads may json_null_value
json_put_token ls ts bad leads may = absurd may

-- ---- for the writer

pub json_may_be_printed : (ls : List JsonLevel) (t : Token) → MayBeJson ls t → IsPrintable t
json_may_be_printed ls begin_object may = tt
json_may_be_printed ls end_object may = tt
json_may_be_printed ls begin_array may = tt
json_may_be_printed ls end_array may = tt
json_may_be_printed ls (key k) may = tt
json_may_be_printed ls (string s) may = tt
json_may_be_printed ls (number s) may = absurd may
json_may_be_printed ls (boolean b) may = tt
json_may_be_printed ls null may = tt
json_may_be_printed ls bad may = absurd may

-- the levels behind one more token
pub json_levels_push : (old new : List Token) (t : Token) → new ≡ old ++ t ∷ []
    → json_open_levels new ≡ json_after_token (json_open_levels old) t
json_levels_push old new t is = ap json_open_levels is ∙ fold_push json_after_token [] old t

json_led : (old new : List Token) (t : Token) → new ≡ old ++ t ∷ [] → LeadsJson (json_after_token (json_open_levels old) t) (old ++ t ∷ [])
    → LeadsJson (json_open_levels new) new
json_led old new t is leads = subst (λ ts. LeadsJson (json_open_levels ts) ts) (sym is)
    (subst (λ ls. LeadsJson ls (old ++ t ∷ [])) (sym (fold_push json_after_token [] old t)) leads)

json_begun_behind : {E : Type 0} (r : Result (Unit {0}) E) (old new : Written) (t : Token) → Writes r old new t
    → IsJsonBegun old.before old.tokens
    → LeadsJson (json_after_token (json_open_levels old.tokens) t) (old.tokens ++ t ∷ []) → IsJsonBegun new.before new.tokens
json_begun_behind (Ok done) old new t writes is leads = record {
  empty = writes.room.0 ∙ is.empty;
  leads = json_led old.tokens new.tokens t writes.ok leads;
}
json_begun_behind (Err error) old new t writes is leads = record {
  empty = writes.room.0 ∙ is.empty;
  leads = subst (λ ts. LeadsJson (json_open_levels ts) ts) (sym writes.err) is.leads;
}

pub json_begun_token : {E : Type 0} (r : Result (Unit {0}) E) (old new : Written) (t : Token) → Writes r old new t
    → IsJsonBegun old.before old.tokens → MayBeJson (json_open_levels old.tokens) t
    → IsJsonBegun new.before new.tokens
json_begun_token r old new t writes is may = json_begun_behind r old new t writes is
    (json_put_token (json_open_levels old.tokens) old.tokens t is.leads may)

pub json_begun_number : {E : Type 0} (r : Result (Unit {0}) E) (old new : Written) (n : ℕ) → n < 2 ^ 64
    → Writes r old new (number (decimal n))
    → IsJsonBegun old.before old.tokens
    → WantsJsonValue (json_open_levels old.tokens) → IsJsonBegun new.before new.tokens
json_begun_number r old new n fits writes is wants = json_begun_behind r old new _ writes is
    (json_put_scalar (json_open_levels old.tokens) old.tokens _ is.leads wants (json_number_value n fits))

-- an object alone
pub begun_object : (before : List ℕ) (ts : List Token) → before ≡ [] → ts ≡ begin_object ∷ [] → IsJsonBegun before ts
begun_object before ts empty is = record {
  empty = empty;
  leads = subst (λ t. LeadsJson (json_open_levels t) t) (sym is) ([], [], refl, no_members, refl);
}

-- a member, and an item, lead where they began
pub behind_member : (ls : List JsonLevel) → InObject ls → object ∷ json_closed ls ≡ ls
behind_member [] inside = absurd inside
behind_member (object ∷ ls) inside = refl
behind_member (named ∷ ls) inside = absurd inside
behind_member (list ∷ ls) inside = absurd inside

pub json_behind_item : (ls : List JsonLevel) → InList ls → json_valued ls ≡ ls
json_behind_item [] inside = absurd inside
json_behind_item (object ∷ ls) inside = absurd inside
json_behind_item (named ∷ ls) inside = absurd inside
json_behind_item (list ∷ ls) inside = refl

pub json_item_wanted : (ls : List JsonLevel) → InList ls → WantsJsonValue ls
json_item_wanted [] inside = absurd inside
json_item_wanted (object ∷ ls) inside = absurd inside
json_item_wanted (named ∷ ls) inside = absurd inside
json_item_wanted (list ∷ ls) inside = tt

-- ---- for the text

json_value_text : (text : List ℕ) (ts : List Token) → text ≡ print ts → tokens (print ts) ≡ ts → IsJsonValue ts → IsJsonText text
json_value_text text ts is read value =
    let same : tokens text ≡ ts = ap tokens is ∙ read in
    (value.value, (value.written, same ∙ value.tokens, value.same), is ∙ ap print (sym same))

-- where nothing is open any more, the text is that of a value
pub whole_json_text : (before text : List ℕ) (ts : List Token) → IsJsonBegun before ts → json_open_levels ts ≡ []
    → text ≡ before ++ print ts
    → tokens (print ts) ≡ ts → IsJsonText text
whole_json_text before text ts begun none is read = json_value_text text ts (is ∙ ap (λ b. b ++ print ts) begun.empty) read
    (subst (λ ls. LeadsJson ls ts) none begun.leads)
