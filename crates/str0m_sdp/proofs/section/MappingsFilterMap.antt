-- Lists that are kept in part and mapped, one item more.
use Rattle.str0m_sdp.proofs.Common.{arith, map, list_any, ◌||◌, ◌≡◌, ◌<◌, ◌+◌, ◌++◌, ℕ, Bool, true, false, cond, List, [], ◌∷◌, length}
use Rattle.str0m_sdp.proofs.Common.{take, get_or, Option}
use Rattle.str0m_sdp.proofs.Common.{Some, All, IfSome, filter, filter_map, option_to_list, refl, sym, ap, ◌∙◌, cons_option, option_or}
use Rattle.str0m_sdp.proofs.Common.{take_at_read, append-nil, filter_map-append, filter-append, All-nil, All-head, All-tail}
use Rattle.str0m_sdp.specs.Common.{last}

-- one item that is mapped
pub map_one : {X Y : Type 0} (f : X → Option Y) (x : X) (o : Option Y) → f x ≡ o → filter_map f (x ∷ []) ≡ option_to_list o
map_one f x o is = grind arith

-- the items so far, with the one that is read
mappings_take_read : {X : Type 0} (xs : List X) (i : ℕ) (x : X) → i < length xs → x ≡ get_or xs i x → take (i + 1) xs ≡ take i xs ++ x ∷ []
mappings_take_read {X} xs i x lt is = (take_at_read xs i x lt).1 ∙ ap (λ (y : X). take i xs ++ y ∷ []) (sym is)

pub map_more : {X Y : Type 0} (f : X → Option Y) (xs : List X) (i : ℕ) (x : X) → i < length xs → x ≡ get_or xs i x
    → filter_map f (take (i + 1) xs) ≡ filter_map f (take i xs) ++ option_to_list (f x)
map_more {X} {Y} f xs i x lt is = grind (
  arith,
  mappings_take_read xs i x lt is,
  filter_map-append f (take i xs) (x ∷ []),
  map_one f x (f x),
)

-- a test of what items are mapped to
pub any_of_mapped : {X Y : Type 0} (p : Y → Bool) (f : X → Y) (xs : List X) → list_any p (map f xs) ≡ list_any (λ x. p (f x)) xs
any_of_mapped p f [] = refl
any_of_mapped p f (x ∷ xs) = ap (λ (b : Bool). p (f x) || b) (any_of_mapped p f xs)

-- of what items are mapped to some is kept, and mapped again
pub kept_of_mapped : {X Y Z : Type 0} (g : Y → Option Z) (p : Y → Bool) (f : X → Y) (xs : List X)
    → filter_map g (filter p (map f xs)) ≡ filter_map (λ x. g (f x)) (filter (λ x. p (f x)) xs)
kept_of_mapped g p f [] = refl
kept_of_mapped g p f (x ∷ xs) = grind (arith, kept_of_mapped g p f xs)

-- an item that is kept
pub filter_map_kept : {X Y : Type 0} (p : X → Bool) (f : X → Option Y) (xs : List X) (i : ℕ) (x : X) → i < length xs → x ≡ get_or xs i x
    → p x ≡ true
    → filter_map f (filter p (take (i + 1) xs)) ≡ filter_map f (filter p (take i xs)) ++ option_to_list (f x)
filter_map_kept {X} {Y} p f xs i x lt is kept =
    ap (λ (ys : List X). filter_map f (filter p ys)) (mappings_take_read xs i x lt is)
    ∙ ap (λ (ys : List X). filter_map f ys) (filter-append p (take i xs) (x ∷ [])
    ∙ ap (λ (b : Bool). filter p (take i xs) ++ cond b (x ∷ []) []) kept)
    ∙ filter_map-append f (filter p (take i xs)) (x ∷ [])
    ∙ ap (λ (ys : List Y). filter_map f (filter p (take i xs)) ++ ys) (map_one f x (f x) refl)

-- one that isn't
pub filter_map_left_out : {X Y : Type 0} (p : X → Bool) (f : X → Option Y) (xs : List X) (i : ℕ) (x : X) → i < length xs → x ≡ get_or xs i x
    → p x ≡ false
    → filter_map f (filter p (take (i + 1) xs)) ≡ filter_map f (filter p (take i xs))
filter_map_left_out {X} {Y} p f xs i x lt is fails =
    grind (arith, mappings_take_read xs i x lt is, filter-append p (take i xs) (x ∷ []), append-nil (filter p (take i xs)))

pub one_mapped : {Y : Type 0} (Q : Y → Type 0) (o : Option Y) (ys : List Y) → IfSome o Q → All Q ys → All Q (cons_option o ys)
one_mapped Q o ys image rest = grind arith

-- what holds of the image of each item
pub all_mapped : {X Y : Type 0} (P : X → Type 0) (Q : Y → Type 0) (f : X → Option Y) → ((x : X) → P x → IfSome (f x) Q)
    → (xs : List X) → All P xs → All Q (filter_map f xs)
all_mapped P Q f each [] all = All-nil Q
all_mapped P Q f each (x ∷ xs) all =
    grind (arith, one_mapped Q (f x) (filter_map f xs) (each x (All-head P x xs all)), all_mapped P Q f each xs (All-tail P x xs all))

mappings_IfSome_or : {X : Type 0} (P : X → Type 0) (o : Option X) (x : X) → IfSome o P → P x → IfSome (option_or o (Some x)) P
mappings_IfSome_or P o x all here = grind arith

-- what holds of all holds of the last
pub filter_map_last_of_all : {X : Type 0} (P : X → Type 0) (xs : List X) → All P xs → IfSome (last xs) P
filter_map_last_of_all P [] all = tt
filter_map_last_of_all P (x ∷ xs) all = mappings_IfSome_or P (last xs) x (filter_map_last_of_all P xs (All-tail P x xs all))
    (All-head P x xs all)
