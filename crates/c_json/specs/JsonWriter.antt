-- The objects and lists that are open where JSON is written, the innermost first.
use Rattle.json.specs.Json as json
use Rattle.json.specs.Token.{Token, begin_object, end_object, begin_array, end_array, key, string, number, boolean, null, bad}
use Rattle.json.specs.Tree.{json_tokens, items_tokens, members_tokens}
use Rattle.serde_json.specs.Data.{Data, Items, Members}
use Rattle.serde_json.specs.Written.{blank, blank_items, blank_members, outline, items_outline, members_outline}
use Rattle.std.specs.Prelude.{◌≡◌, ℕ, List, [], ◌∷◌, ◌++◌, fold}

-- an object, one whose last key waits for its value, or a list
pub data JsonLevel : Type 0 where
  object : JsonLevel
  named : JsonLevel
  list : JsonLevel

-- without the innermost one
abbrev pub json_closed : List JsonLevel → List JsonLevel
json_closed [] = []
json_closed (l ∷ ls) = ls

-- behind a value
abbrev pub json_valued : List JsonLevel → List JsonLevel
json_valued [] = []
json_valued (object ∷ ls) = object ∷ ls
json_valued (named ∷ ls) = object ∷ ls
json_valued (list ∷ ls) = list ∷ ls

-- behind a token
abbrev pub json_after_token : List JsonLevel → Token → List JsonLevel
json_after_token ls begin_object = object ∷ json_valued ls
json_after_token ls end_object = json_closed ls
json_after_token ls begin_array = list ∷ json_valued ls
json_after_token ls end_array = json_closed ls
json_after_token ls (key k) = named ∷ json_closed ls
json_after_token ls (string s) = json_valued ls
json_after_token ls (number s) = json_valued ls
json_after_token ls (boolean b) = json_valued ls
json_after_token ls null = json_valued ls
json_after_token ls bad = ls

abbrev pub json_open_levels : List Token → List JsonLevel
json_open_levels = fold json_after_token []

-- a member may come next
abbrev pub InObject : List JsonLevel → Type 0
InObject [] = ⊥
InObject (object ∷ ls) = Unit {0}
InObject (named ∷ ls) = ⊥
InObject (list ∷ ls) = ⊥

-- an item may come next
abbrev pub InList : List JsonLevel → Type 0
InList [] = ⊥
InList (object ∷ ls) = ⊥
InList (named ∷ ls) = ⊥
InList (list ∷ ls) = Unit {0}

-- a value may come next
abbrev pub WantsJsonValue : List JsonLevel → Type 0
WantsJsonValue [] = ⊥
WantsJsonValue (object ∷ ls) = ⊥
WantsJsonValue (named ∷ ls) = Unit {0}
WantsJsonValue (list ∷ ls) = Unit {0}

-- the token may come next; a number has a call of its own
abbrev pub MayBeJson : List JsonLevel → Token → Type 0
MayBeJson ls begin_object = WantsJsonValue ls
MayBeJson ls end_object = InObject ls
MayBeJson ls begin_array = WantsJsonValue ls
MayBeJson ls end_array = InList ls
MayBeJson ls (key k) = InObject ls
MayBeJson ls (string s) = WantsJsonValue ls
MayBeJson ls (number s) = ⊥
MayBeJson ls (boolean b) = WantsJsonValue ls
MayBeJson ls null = WantsJsonValue ls
MayBeJson ls bad = ⊥

-- ---- which tokens lead to such levels

-- the tokens of a value
pub record IsJsonValue (ts : List Token) : Type 0 where
  pub value : Data
  pub written : json.Json
  pub tokens : ts ≡ json_tokens written
  pub same : blank written ≡ outline value

-- members that some others end
pub record BeginsMembers (ts : List Token) (rest : json.Members) : Type 0 where
  pub members : Members
  pub written : json.Members
  pub tokens : members_tokens written ≡ ts ++ members_tokens rest
  pub same : blank_members written ≡ members_outline members

-- the tokens of members: whichever come behind, these and those are members
abbrev pub AreMembers : List Token → Type 0
AreMembers ts = (rest : json.Members) (more : Members) → blank_members rest ≡ members_outline more → BeginsMembers ts rest

-- items that some others end
pub record BeginsJsonItems (ts : List Token) (rest : json.Items) : Type 0 where
  pub items : Items
  pub written : json.Items
  pub tokens : items_tokens written ≡ ts ++ items_tokens rest
  pub same : blank_items written ≡ items_outline items

-- the same of items
abbrev pub AreJsonItems : List Token → Type 0
AreJsonItems ts = (rest : json.Items) (more : Items) → blank_items rest ≡ items_outline more → BeginsJsonItems ts rest

-- the tokens in front of a value that stands within these levels
abbrev pub IsJsonFront : List JsonLevel → List Token → Type 0
IsJsonFront [] ts = ts ≡ []
IsJsonFront (object ∷ ls) ts =
    (outer : List Token) × (members : List Token) × (k : List ℕ) × IsJsonFront ls outer × AreMembers members × (ts ≡ outer ++ begin_object ∷ (members ++ key k ∷ []))
IsJsonFront (named ∷ ls) ts = ⊥
IsJsonFront (list ∷ ls) ts = (outer : List Token) × (items : List Token) × IsJsonFront ls outer × AreJsonItems items × (ts ≡ outer ++ begin_array ∷ items)

-- the tokens that lead there; where none is open any more, a value
abbrev pub LeadsJson : List JsonLevel → List Token → Type 0
LeadsJson [] ts = IsJsonValue ts
LeadsJson (object ∷ ls) ts = (outer : List Token) × (members : List Token) × IsJsonFront ls outer × AreMembers members × (ts ≡ outer ++ begin_object ∷ members)
LeadsJson (named ∷ ls) ts = IsJsonFront (object ∷ ls) ts
LeadsJson (list ∷ ls) ts = IsJsonFront (list ∷ ls) ts

-- what is written leads to its levels, in a room that was empty
pub record IsJsonBegun (before : List ℕ) (tokens : List Token) : Type 0 where
  pub empty : before ≡ []
  pub leads : LeadsJson (json_open_levels tokens) tokens
