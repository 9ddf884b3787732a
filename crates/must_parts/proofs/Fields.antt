-- The parts of a call, field by field.
use Rattle.std.proofs.Common.{◌≡◌, ℕ, ◌+◌, ◌<◌, List, [], ◌∷◌, ◌++◌, map, length, take, get_or, Option, Some, None, refl, sym, ap, subst, ◌∙◌, arith}
use Rattle.std.specs.Prelude.{filter_map, sum_by}
use Rattle.std.specs.List.{cons_option}
use Rattle.std.specs.Option.{option_to_list}
use Rattle.std.proofs.lemmas.List.{take_more, map-append}
use Rattle.std.proofs.lemmas.List.Elements.{filter_map-append}
use Rattle.std.proofs.lemmas.List.Sums.{sum_by-cons, sum_by-append}
use Rattle.must_call.specs.declared.argument.Argument.{Argument}
use Rattle.must_call.specs.Arguments.{seen}
use Rattle.must_call.specs.Values.{Typed}
use Rattle.must_type.specs.Maps.{Entry, size, extent}
use Rattle.must_type.specs.Weights.{weigh}
use Rattle.must_type.specs.Tree.{TypeTree, type_map, weight}
use Rattle.must_type.specs.Table.{message_weight}
use Rattle.must_rules.specs.Parts as parts
use Rattle.must_rules.specs.Parts.{Part, part_weight}
use Rattle.must_parts.specs.declared.blocks.Block.{Block}
use Rattle.must_parts.specs.declared.told.Told.{Told}
use Rattle.must_parts.specs.Telling.{block_seen, IsAlike, IsTold, IsToldOf, AreTold}
use Rattle.must_parts.proofs.Matching.{matched_append, matched_option, matched_item}

one_of : {X Y : Type 0} (f : X → Option Y) (x : X) → filter_map f (x ∷ []) ≡ option_to_list (f x)
one_of {Y = Y} f x = at (f x)
  where
    at : (o : Option Y) → cons_option o [] ≡ option_to_list o
    at None = refl
    at (Some y) = refl

fields_more : (f : Typed → Option Part) (xs : List Argument) (i : ℕ) (x : Argument) → i < length xs → x ≡ get_or xs i x
    → filter_map f (map seen (take (i + 1) xs)) ≡ filter_map f (map seen (take i xs)) ++ option_to_list (f (seen x))
fields_more f xs i x within is =
    ap (λ (l : List Argument). filter_map f (map seen l)) (take_more xs i x within ∙ ap (λ y. take i xs ++ y ∷ []) (sym is))
    ∙ ap (filter_map f) (map-append seen (take i xs) (x ∷ []))
    ∙ filter_map-append f (map seen (take i xs)) (seen x ∷ [])
    ∙ ap (λ (l : List Part). filter_map f (map seen (take i xs)) ++ l) (one_of f (seen x))

-- one field more
pub told_step : (slots : List (Option TypeTree)) (f : Typed → Option Part) (xs : List Argument) (i : ℕ) (x : Argument) (old new : List Told) (told : Option Told) → i < length xs → x ≡ get_or xs i x
    → AreTold slots old (filter_map f (map seen (take i xs))) → IsToldOf slots told (f (seen x)) → new ≡ old ++ option_to_list told → AreTold slots new (filter_map f (map seen (take (i + 1) xs)))
told_step slots f xs i x old new told within is before one e =
    let all = matched_append (IsTold slots) old (option_to_list told) (filter_map f (map seen (take i xs))) (option_to_list (f (seen x))) before (matched_option (IsTold slots) told (f (seen x)) one) in
    subst (λ (l : List Told). AreTold slots l (filter_map f (map seen (take (i + 1) xs)))) (sym e)
    (subst (λ (l : List Part). AreTold slots (old ++ option_to_list told) l) (sym (fields_more f xs i x within is)) all)

-- ---- weights

sum_seen : (f : ℕ → ℕ) (bs : List Block) → sum_by (λ b. f b.count) bs ≡ sum_by (λ b. f b.count) (map block_seen bs)
sum_seen f [] = refl
sum_seen f (b ∷ bs) = sum_by-cons (λ (c : Block). f c.count) b bs ∙ ap (λ n. f b.count + n) (sum_seen f bs) ∙ sym (sum_by-cons (λ (c : parts.Block). f c.count) (block_seen b) (map block_seen bs))

same_weight : (held t : TypeTree) → IsAlike held t → (count : ℕ) → message_weight count held ≡ message_weight count t
same_weight held t a count = ap (λ (w : ℕ). weigh count (record { weight = w; size = size (type_map held); extent = extent (type_map held) })) a.weight_is ∙ ap (λ (m : List Entry). weigh count (record { weight = weight t; size = size m; extent = extent m })) a.map_is

all_alike : (held t : TypeTree) → IsAlike held t → (l : List parts.Block) → sum_by (λ b. message_weight b.count held) l ≡ sum_by (λ b. message_weight b.count t) l
all_alike held t a [] = refl
all_alike held t a (b ∷ l) =
    sum_by-cons (λ (c : parts.Block). message_weight c.count held) b l
    ∙ ap (λ n. n + sum_by (λ c. message_weight c.count held) l) (same_weight held t a b.count)
    ∙ ap (λ n. message_weight b.count t + n) (all_alike held t a l)
    ∙ sym (sum_by-cons (λ (c : parts.Block). message_weight c.count t) b l)

-- the weight of the blocks by the type in the table
pub weighed : (slots : List (Option TypeTree)) (told : Told) (part : Part) (is : IsTold slots told part) → sum_by (λ b. message_weight b.count is.held) told.blocks.items ≡ part_weight part
weighed slots told part is =
    sum_seen (λ n. message_weight n is.held) told.blocks.items
    ∙ ap (λ (l : List parts.Block). sum_by (λ b. message_weight b.count is.held) l) is.blocks_are
    ∙ all_alike is.held part.datatype is.alike part.blocks

one_sum : (f : Part → ℕ) (p : Part) → sum_by f (p ∷ []) ≡ f p
one_sum f p = sum_by-cons f p [] ∙ zero_right (f p)
  where
    zero_right : (n : ℕ) → n + 0 ≡ n
    zero_right n = omega arith

-- one part more
pub sum_step : (slots : List (Option TypeTree)) (xs : List Told) (ps : List Part) (i : ℕ) (x : Told) (old more weight : ℕ) → AreTold slots xs ps → i < length xs → x ≡ get_or xs i x
    → old ≡ sum_by part_weight (take i ps) → ((part : Part) → IsTold slots x part → weight ≡ part_weight part) → more ≡ old + weight → more ≡ sum_by part_weight (take (i + 1) ps)
sum_step slots xs ps i x old more weight all within is before one e =
    let item = matched_item (IsTold slots) xs ps i x all within in
    let here = one item.item (subst (λ y. IsTold slots y item.item) (sym is) item.matches) in
    e ∙ ap (λ n. n + weight) before ∙ ap (λ n. sum_by part_weight (take i ps) + n) (here ∙ sym (one_sum part_weight item.item))
    ∙ sym (sum_by-append part_weight (take i ps) (item.item ∷ [])) ∙ sym (ap (sum_by part_weight) item.take_is)
