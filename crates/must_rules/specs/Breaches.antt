-- What the rules of arguments find at a call, as a list: a rule may be broken at several parts.
use Rattle.std.specs.Prelude.{◌≡◌, ◌↔◌, ◌⊎◌, ℕ, ◌+◌, ℤ, Bool, true, false, ◌&&◌, ◌||◌, List, [], ◌∷◌, ◌++◌, length, Option, Some, None, find, nat_eq, if◌then◌else◌}
use Rattle.must_call.specs.declared.place.Place.{Place}
use Rattle.must_call.specs.declared.field.Side.{Side}
use Rattle.must_call.specs.declared.field.Side.TheVariants.{Receive}
use Rattle.must_call.specs.declared.field.Field.{Field}
use Rattle.must_call.specs.declared.body.Body.{Body}
use Rattle.must_call.specs.Values.{Typed}
use Rattle.must_call.specs.Bodies.{inputs_of}
use Rattle.must_call.specs.Handles.{typed_handles}
use Rattle.must_find.specs.declared.rule.Rule.{Rule}
use Rattle.must_find.specs.declared.finding.Finding.{Finding}
use Rattle.must_find.specs.Rules.{rule_place}
use Rattle.must_base.specs.Listing.{Has}
use Rattle.must_rules.specs.Answer.{Answer}
use Rattle.must_rules.specs.Significant.{side, is_send}

-- a rule that is broken: at which part, by which other call of the same rank it shows, and the value
pub record Breach : Type 0 where
  pub rule : Rule
  pub part : ℕ
  pub see : Option ℕ
  pub value : ℤ

abbrev pub breach : Rule → ℕ → ℤ → Breach
breach rule part value = record { rule = rule; part = part; see = None; value = value }

abbrev pub breach_with : Rule → ℕ → ℕ → ℤ → Breach
breach_with rule part call value = record { rule = rule; part = part; see = Some call; value = value }

abbrev pub told : Rule → ℕ → Option ℤ → List Breach
told rule part None = []
told rule part (Some value) = breach rule part value ∷ []

-- ---- parts

-- a call that sends
abbrev pub sends : List Typed → Bool
sends [] = false
sends (t ∷ ts) = is_send (side t.0) || sends ts

-- what is received is part 1 where the call sends too
abbrev pub part_of : Bool → Side → ℕ
part_of true Receive = 1
part_of _ _ = 0

abbrev pub part_in : Body → Field → ℕ
part_in b f = part_of (sends (inputs_of b)) (side f)

-- ---- asking field by field

-- what a rule says of the fields for which a test holds; it is given the number of a field's first handle argument. Handle
-- arguments are numbered in the order of the payload, and those for which the test fails keep their numbers
abbrev pub asked_from : (Field → Bool) → (ℕ → Typed → List Breach) → ℕ → List Typed → List Breach
asked_from test rule i [] = []
asked_from test rule i (t ∷ ts) = (if test t.0 then rule i t else []) ++ asked_from test rule (i + length (typed_handles t)) ts

-- ---- the findings of breaches

abbrev pub see_at : ℕ → Option ℕ → Option Place
see_at rank None = None
see_at rank (Some call) = Some (record { rank = rank; call = call })

-- the finding is one of these breaches at a place
pub record IsBreach (at : Place) (breaches : List Breach) (f : Finding) : Type 0 where
  pub rank_is : f.rank ≡ at.rank
  pub call_is : f.call ≡ at.call
  pub breach : Breach
  pub broken : Has breaches breach
  pub rule_is : f.rule ≡ breach.rule
  pub part_is : f.part ≡ breach.part
  pub see_is : f.see ≡ see_at at.rank breach.see
  pub value_is : f.value ≡ breach.value

-- the later list has what the earlier has, and these breaches at a place
pub record AddsBreaches (at : Place) (old new : List Finding) (breaches : List Breach) : Type 0 where
  pub exact : (f : Finding) → Has new f ↔ (Has old f ⊎ IsBreach at breaches f)

abbrev pub same_rule : Rule → Rule → Bool
same_rule r q = nat_eq (rule_place r) (rule_place q)

abbrev pub stands_at : Rule → ℕ → Breach → Bool
stands_at rule part b = same_rule b.rule rule && nat_eq b.part part

abbrev pub answer_of : ℕ → Option Breach → Option Answer
answer_of rank None = None
answer_of rank (Some b) = Some (see_at rank b.see, b.value)

-- what a rule finds at a part of a call of a rank
abbrev pub answer_at : ℕ → List Breach → Rule → ℕ → Option Answer
answer_at rank breaches rule part = answer_of rank (find (stands_at rule part) breaches)
